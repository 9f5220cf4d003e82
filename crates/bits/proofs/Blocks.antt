-- Blocks over a width: codes of a stream are the fields of a number in which their bits stand.
use mathlib.Core.Path.{◌≡◌, sym, ap, ap₂, ◌∙◌}
use mathlib.Core.List.{List, map}
use Prim.Native.Nat.{ℕ, ◌+◌, ◌-◌, ◌*◌, ◌/◌, ◌%◌, ◌^◌, ◌<◌}
use native.Mathlib.Nat.{add-zero, add_assoc, add-mul, one-mul, div-one, pow-zero, mod-eq_of_lt}
use native.Mathlib.Decide.{dec_lt}
use native.Mathlib.Omega.{arith}
use lib.Pow.{high, shr-shr}
use Rattle.bits.specs.Tables.{tabulate, at}
use Rattle.bits.specs.Streams.{bit_at, word, cut, fields}
use Rattle.bits.proofs.Tabulated.{tabulate_ext, map-tabulate}
use Rattle.bits.proofs.Words.{word-add, word-whole, word_high, word_low, bit_lt}

-- n bits of a word, with m bits before them and r bits behind them
pub word_field : (s : ℕ → ℕ) → ((i : ℕ) → s i < 2) → (k m n r : ℕ) → word s k (m + n + r) / 2 ^ r % 2 ^ n ≡ word s (k + m) n
word_field s bits k m n r = ap (λ (x : ℕ). x % 2 ^ n) (word_high s bits k (m + n) r) ∙ word_low s bits k m n

-- digits cut from a stream are the fields of a number in which they stand: m bits stand before them, and the r bits behind them are shifted out
pub cut_within : (s : ℕ → ℕ) → ((i : ℕ) → s i < 2) → (b c k m r : ℕ) → cut b s (k + m) c ≡ fields b c (word s k (m + c * b + r) / 2 ^ r)
unfolding cut fields
cut_within s bits b c k m r =
    let w : ℕ = word s k (m + c * b + r) in
    tabulate_ext c (λ t. word s (k + m + t * b) b) (λ t. w / 2 ^ r / 2 ^ ((c - 1 - t) * b) % 2 ^ b)
    (λ t h.
    let rest : ℕ = (c - 1 - t) * b in
    let parts : c ≡ t + 1 + (c - 1 - t) = omega arith in
    let one : (t + 1) * b ≡ t * b + b = add-mul t 1 b ∙ ap (λ (x : ℕ). t * b + x) (one-mul b) in
    let codes : c * b ≡ t * b + b + rest = ap (λ (x : ℕ). x * b) parts ∙ add-mul (t + 1) (c - 1 - t) b ∙ ap (λ (x : ℕ). x + rest) one in
    let all : m + c * b + r ≡ m + t * b + b + (r + rest) = omega (arith, codes) in
    sym
    (ap (λ (x : ℕ). x % 2 ^ b) (shr-shr w r rest)
    ∙ ap (λ (x : ℕ). word s k x / 2 ^ (r + rest) % 2 ^ b) all
    ∙ word_field s bits k (m + t * b) b (r + rest)
    ∙ ap (λ (x : ℕ). word s x b) (sym (add_assoc k m (t * b)))))

-- of the number that they alone write
pub cut-fields : (s : ℕ → ℕ) → ((i : ℕ) → s i < 2) → (b k c : ℕ) → cut b s k c ≡ fields b c (word s k (c * b))
cut-fields s bits b k c =
    let alone : 0 + c * b + 0 ≡ c * b = omega arith in
    let none : word s k (c * b) / 2 ^ 0 ≡ word s k (c * b) = ap (λ (x : ℕ). word s k (c * b) / x) (pow-zero 2) ∙ div-one (word s k (c * b)) in
    ap (λ (x : ℕ). cut b s x c) (sym (add-zero k))
    ∙ cut_within s bits b c k 0 0
    ∙ ap (fields b c) (ap (λ (x : ℕ). word s k x / 2 ^ 0) alone ∙ none)

-- a block: c codes, b bits wide, from code i on, which begins m bits behind byte j's first bit, in n bytes, of which r bits stand behind the codes
pub block_codes : (byte : ℕ → ℕ) (b c n i j m r : ℕ) → i * b ≡ j * 8 + m → m + c * b + r ≡ n * 8
    → cut b (bit_at 8 byte) (i * b) c ≡ fields b c (word (bit_at 8 byte) (j * 8) (n * 8) / 2 ^ r)
block_codes byte b c n i j m r first whole =
    ap (λ (k : ℕ). cut b (bit_at 8 byte) k c) first
    ∙ cut_within (bit_at 8 byte) (bit_lt 8 byte) b c (j * 8) m r
    ∙ ap (λ (x : ℕ). fields b c (word (bit_at 8 byte) (j * 8) x / 2 ^ r)) whole

-- an aligned block: it begins with byte j and fills n bytes
pub aligned_codes : (byte : ℕ → ℕ) (b c n i j : ℕ) → i * b ≡ j * 8 → c * b ≡ n * 8
    → cut b (bit_at 8 byte) (i * b) c ≡ fields b c (word (bit_at 8 byte) (j * 8) (n * 8))
aligned_codes byte b c n i j first whole =
    cut-fields (bit_at 8 byte) (bit_lt 8 byte) b (i * b) c ∙ ap₂ (λ (x y : ℕ). fields b c (word (bit_at 8 byte) x y)) first whole

-- a table's entries at the fields of a number
abbrev pub entry_at : List ℕ → ℕ → ℕ → ℕ → ℕ → ℕ
entry_at table b c v t = at table (v / 2 ^ ((c - 1 - t) * b) % 2 ^ b)

pub entries_at : (table : List ℕ) (b c v : ℕ) → map (at table) (fields b c v) ≡ tabulate c (entry_at table b c v)
unfolding fields
entries_at table b c v = map-tabulate (at table) (λ t. v / 2 ^ ((c - 1 - t) * b) % 2 ^ b) c

-- the number that bytes write, one more byte at a time
module _ (byte : ℕ → ℕ) (small : (j : ℕ) → byte j < 256) where
  pub word_byte : (j : ℕ) → word (bit_at 8 byte) (j * 8) 8 ≡ byte j
  word_byte j = word-whole 8 byte j ∙ mod-eq_of_lt (small j)

  pub word_bytes : (j n : ℕ) → word (bit_at 8 byte) (j * 8) (n * 8 + 8) ≡ word (bit_at 8 byte) (j * 8) (n * 8) * 256 + byte (j + n)
  word_bytes j n =
      let place : j * 8 + n * 8 ≡ (j + n) * 8 = sym (add-mul j n 8) in
      word-add (bit_at 8 byte) (j * 8) (n * 8) 8
      ∙ ap (λ (x : ℕ). word (bit_at 8 byte) (j * 8) (n * 8) * 256 + x) (ap (λ (x : ℕ). word (bit_at 8 byte) x 8) place ∙ word_byte (j + n))

  -- a run of bits in two neighbouring bytes, of which the second may be any where the run has no bit of it
  pub two_bytes : (j m n r x y : ℕ) → m + n + r ≡ 16 → x ≡ byte j → y < 256 → (r < 8 → y ≡ byte (j + 1)) → (x * 256 + y) / 2 ^ r % 2 ^ n ≡ word (bit_at 8 byte) (j * 8 + m) n
  two_bytes j m n r x y sum e fit next = go (dec_lt r 8)
    where
      s : ℕ → ℕ
      s = bit_at 8 byte

      go : Dec (r < 8) → (x * 256 + y) / 2 ^ r % 2 ^ n ≡ word s (j * 8 + m) n
      go (yes l) =
          let all : 1 * 8 + 8 ≡ m + n + r = omega arith in
          ap₂ (λ (u v : ℕ). (u * 256 + v) / 2 ^ r % 2 ^ n) (e ∙ sym (word_byte j)) (next l)
          ∙ ap (λ (v : ℕ). v / 2 ^ r % 2 ^ n) (sym (word_bytes j 1) ∙ ap (word s (j * 8)) all)
          ∙ word_field s (bit_lt 8 byte) (j * 8) m n r
      go (no l) =
          let q : ℕ = r - 8 in
          let parts : r ≡ 8 + q = omega arith in
          let all : 8 ≡ m + n + q = omega arith in
          ap (λ (k : ℕ). (x * 256 + y) / 2 ^ k % 2 ^ n) parts
          ∙ ap (λ (v : ℕ). v % 2 ^ n) (sym (shr-shr (x * 256 + y) 8 q) ∙ ap (λ (v : ℕ). v / 2 ^ q) (high x 8 fit ∙ e ∙ sym (word_byte j) ∙ ap (word s (j * 8)) all))
          ∙ word_field s (bit_lt 8 byte) (j * 8) m n q
