-- Equal packings: the digits' low bits agree at every place, where past the end stands zero, and so do the byte counts.
use mathlib.Core.Path.{◌≡◌, sym, ap, ◌∙◌}
use mathlib.Core.List.{List}
use Prim.Native.Nat.{ℕ, ◌+◌, ◌*◌, ◌/◌, ◌%◌, ◌^◌, ◌≤◌, ◌<◌}
use native.Mathlib.Nat.{zero-div, le-div_iff_mul-le}
use native.Mathlib.Decide.{dec_lt}
use native.Mathlib.Omega.{arith}
use lib.ListN.{length, get_or-eq_default}
use Rattle.bits.specs.Tables.{at}
use Rattle.bits.specs.Streams.{bit_at, cut}
use Rattle.bits.specs.Packing.{bytes_for, pack}
use Rattle.bits.proofs.Words.{word_ext, word-whole, bit_cong}
use Rattle.bits.proofs.Packed.{pack_within}
use Rattle.bits.proofs.Hand.{cut_ext}
use Rattle.bits.proofs.Appended.{length_cut}

-- past the last digit stand zeros
pub bits_past : (w : ℕ) (digits : List ℕ) (k : ℕ) → 0 < w → length digits * w ≤ k → bit_at w (at digits) k ≡ 0
unfolding bit_at
bits_past w digits k some h =
    let none : at digits (k / w) ≡ 0 = get_or-eq_default digits 0 {n = k / w} ((le-div_iff_mul-le some).1 h) in
    rw (none, zero-div)

pub length-pack : (b : ℕ) (codes : List ℕ) → length (pack b codes) ≡ bytes_for (length codes * b)
unfolding pack
length-pack b codes = length_cut 8 (bit_at b (at codes)) 0 (bytes_for (length codes * b))

module _ (b : ℕ) (some : 0 < b) where
  -- the packing's bytes and the codes have the same bits, everywhere
  pub pack_bit : (codes : List ℕ) (k : ℕ) → bit_at 8 (at (pack b codes)) k ≡ bit_at b (at codes) k
  pack_bit codes k = go (dec_lt k (bytes_for (length codes * b) * 8))
    where
      go : Dec (k < bytes_for (length codes * b) * 8) → bit_at 8 (at (pack b codes)) k ≡ bit_at b (at codes) k
      go (yes l) = pack_within b codes k l
      go (no l) = bits_past 8 (pack b codes) k (omega arith) (omega (arith, length-pack b codes)) ∙ sym (bits_past b codes k some (omega arith))

  pub alike_digits : (xs ys : List ℕ) → pack b xs ≡ pack b ys → (i : ℕ) → at xs i % 2 ^ b ≡ at ys i % 2 ^ b
  alike_digits xs ys e i =
      sym (word-whole b (at xs) i)
      ∙ word_ext (bit_at b (at xs)) (bit_at b (at ys)) (i * b) (i * b) b
      (λ j h. sym (pack_bit xs (i * b + j)) ∙ ap (λ (l : List ℕ). bit_at 8 (at l) (i * b + j)) e ∙ pack_bit ys (i * b + j))
      ∙ word-whole b (at ys) i

  pub digits_alike : (xs ys : List ℕ) → ((i : ℕ) → at xs i ≡ at ys i) → length (pack b xs) ≡ length (pack b ys) → pack b xs ≡ pack b ys
  unfolding pack
  digits_alike xs ys h e =
      ap (cut 8 (bit_at b (at xs)) 0) (sym (length-pack b xs) ∙ e ∙ length-pack b ys)
      ∙ cut_ext 8 (bit_at b (at xs)) (bit_at b (at ys)) 0 (bytes_for (length ys * b)) (λ k. bit_cong b (at xs) (at ys) k (h (k / b)))
