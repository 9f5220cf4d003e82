-- Laws of packing and reading over a width.
use mathlib.Core.Path.{◌≡◌, sym, ap, ◌∙◌}
use mathlib.Core.List.{List}
use Prim.Native.Nat.{ℕ, suc, ◌+◌, ◌*◌, ◌/◌, ◌%◌, ◌^◌, ◌≤◌, ◌<◌}
use native.Mathlib.Nat.{add-mul, mul-le-mul_right, suc-mul}
use native.Mathlib.Omega.{arith}
use lib.ListN.{length}
use Rattle.bits.specs.Tables.{tabulate, at}
use Rattle.bits.specs.Streams.{bit_at, word, cut}
use Rattle.bits.specs.Packing.{bytes_for, pack, file_byte, codes_from}
use Rattle.bits.proofs.Tabulated.{tabulate_ext, get_d_tabulate}
use Rattle.bits.proofs.Words.{word_ext, word-whole, bit_lt, bit_cong, cut-bits}

-- the packing's bytes and the codes have the same bits, up to the last byte's end
pub pack_within : (b : ℕ) (codes : List ℕ) (k : ℕ) → k < bytes_for (length codes * b) * 8 → bit_at 8 (at (pack b codes)) k ≡ bit_at b (at codes) k
unfolding pack cut
pack_within b codes k h =
    let s : ℕ → ℕ = bit_at b (at codes) in
    let byte : ℕ → ℕ = λ j. word s (0 + j * 8) 8 in
    let inside : k / 8 < bytes_for (length codes * b) = omega arith in
    bit_cong 8 (at (tabulate (bytes_for (length codes * b)) byte)) byte k (get_d_tabulate (bytes_for (length codes * b)) byte (k / 8) 0 inside)
    ∙ cut-bits s (bit_lt b (at codes)) 8 k (omega arith)

-- and so up to the codes' end
pub pack-bits : (b : ℕ) (codes : List ℕ) (k : ℕ) → k < length codes * b → bit_at 8 (at (pack b codes)) k ≡ bit_at b (at codes) k
pack-bits b codes k h = pack_within b codes k (omega arith)

-- the round trip: a file whose bits from code s to code s + n - 1 are the packing's gives those codes
pub codes-of-pack :
    (b : ℕ) (codes : List ℕ) (lent : List ℕ) (offset s n : ℕ) →
    s + n ≤ length codes →
    ((k : ℕ) → s * b ≤ k → k < (s + n) * b → bit_at 8 (file_byte lent offset) k ≡ bit_at 8 (at (pack b codes)) k) →
    codes_from b lent offset s n ≡ tabulate n (λ i. at codes (s + i) % 2 ^ b)
unfolding codes_from cut
codes-of-pack b codes lent offset s n room own =
    tabulate_ext n (λ i. word (bit_at 8 (file_byte lent offset)) (s * b + i * b) b) (λ i. at codes (s + i) % 2 ^ b)
    (λ i l.
    let place : s * b + i * b ≡ (s + i) * b = sym (add-mul s i b) in
    let up : suc i * b ≤ n * b = mul-le-mul_right b l in
    let all : (s + n) * b ≤ length codes * b = mul-le-mul_right b room in
    word_ext (bit_at 8 (file_byte lent offset)) (bit_at b (at codes)) (s * b + i * b) ((s + i) * b) b
    (λ t m.
    own (s * b + i * b + t) (omega arith) (omega (arith, up, suc-mul i b, add-mul s n b))
    ∙ pack-bits b codes (s * b + i * b + t) (omega (arith, up, suc-mul i b, add-mul s n b, all))
    ∙ ap (λ (x : ℕ). bit_at b (at codes) (x + t)) place)
    ∙ word-whole b (at codes) (s + i))
