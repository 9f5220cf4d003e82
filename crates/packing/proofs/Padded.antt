-- The last byte: the bits that are left over, and zeros behind them.
use mathlib.Core.Path.{◌≡◌, sym, ap, ◌∙◌, subst}
use mathlib.Core.List.{List}
use Prim.Native.Nat.{ℕ, ◌+◌, ◌-◌, ◌*◌, ◌/◌, ◌%◌, ◌^◌, ◌≤◌, ◌<◌}
use native.Mathlib.Nat.{zero-add}
use native.Mathlib.Omega.{arith}
use lib.ListN.{length, length-map, set}
use Rattle.bits.specs.Tables.{tabulate, at}
use Rattle.bits.specs.Streams.{bit_at, word, cut}
use Rattle.bits.specs.Packing.{bytes_for, pack, at_hand}
use Rattle.bits.specs.Memory.{front}
use Rattle.bits.proofs.Words.{word_lt}
use Rattle.bits.proofs.Hand.{hand_lt, hand_zero, hand-plain, word_pad, cut_ext}
use Rattle.bits.proofs.Put.{Filled, one_filled, put_front}
use Rattle.alphabet.specs.Symbols.{Coding}
use Rattle.packing.specs.Encode.{digit_of, digits_of, packing}
use Rattle.packing.specs.Run.{ran, left_over_of}

module _ (b p a : ℕ) (some : 0 < b) (digits memory : List ℕ) where
  abbrev total : ℕ
  total = p + length digits * b

  -- it is stored behind the whole bytes
  pub last_byte : (out : List ℕ) (v : ℕ) → 0 < (p + length digits * b) % 8 → v ≡ left_over_of b p a digits * 2 ^ (8 - (p + length digits * b) % 8)
      → (p + length digits * b) / 8 < length memory → out ≡ ran b p a digits memory
      → set out ((p + length digits * b) / 8) v ≡ front (cut 8 (at_hand p a b digits) 0 (bytes_for (p + length digits * b))) memory
  unfolding cut
  last_byte out v due e room wrote =
      let hand : ℕ → ℕ = at_hand p a b digits in
      let w : ℕ = total / 8 in
      let q : ℕ = total % 8 in
      let f : ℕ → ℕ = λ j. word hand (0 + j * 8) 8 in
      let sum : q + (8 - q) ≡ 8 = omega arith in
      let zeros : (i : ℕ) → i < 8 - q → hand (w * 8 + q + i) ≡ 0 = λ i l. hand_zero p a b digits some (w * 8 + q + i) (omega arith) in
      let byte : v ≡ f w =
      e
      ∙ sym (word_pad hand (w * 8) q (8 - q) zeros)
      ∙ ap (word hand (w * 8)) sum
      ∙ ap (λ (x : ℕ). word hand x 8) (sym (zero-add (w * 8))) in
      let count : w + 1 ≡ bytes_for total = omega arith in
      let before : Filled f 0 memory w out = wrote ∙ sym (put_front (tabulate w f) memory) in
      ap (λ (k : ℕ). set out k v) (sym (zero-add w))
      ∙ one_filled f 0 memory w out before v (omega arith) byte
      ∙ put_front (tabulate (w + 1) f) memory
      ∙ ap (λ (n : ℕ). front (tabulate n f) memory) count

  -- what is left over is narrow
  pub left_lt : left_over_of b p a digits < 2 ^ ((p + length digits * b) % 8)
  left_lt = word_lt (at_hand p a b digits) (hand_lt p a b digits) (total / 8 * 8) (total % 8)

-- ---- digits packed whole

module _ (b : ℕ) (some : 0 < b) (digits memory : List ℕ) where
  abbrev bits : ℕ
  bits = length digits * b

  count : 0 + length digits * b ≡ length digits * b
  count = zero-add (length digits * b)

  whole : front (cut 8 (at_hand 0 0 b digits) 0 (bytes_for (length digits * b))) memory ≡ front (pack b digits) memory
  unfolding pack
  whole = ap (λ (l : List ℕ). front l memory) (cut_ext 8 (at_hand 0 0 b digits) (bit_at b (at digits)) 0 (bytes_for bits) (hand-plain 0 b digits))

  -- no bits are left over
  pub pad_none : length digits * b % 8 ≡ 0 → (out : List ℕ) → out ≡ ran b 0 0 digits memory → out ≡ front (pack b digits) memory
  pad_none z out e =
      let all : (0 + length digits * b) / 8 ≡ bytes_for bits = omega (arith, count, z) in
      e ∙ ap (λ (n : ℕ). front (cut 8 (at_hand 0 0 b digits) 0 n) memory) all ∙ whole

  -- they make the last byte
  pub pad_last : (length digits * b % 8 ≡ 0 → ⊥) → bytes_for (length digits * b) ≤ length memory → (out : List ℕ) (v : ℕ)
      → out ≡ ran b 0 0 digits memory → v ≡ left_over_of b 0 0 digits * 2 ^ (8 - length digits * b % 8)
      → set out (length digits * b / 8) v ≡ front (pack b digits) memory
  pad_last z room out v wrote e =
      let w : (0 + length digits * b) / 8 ≡ bits / 8 = ap (λ (n : ℕ). n / 8) count in
      let q : (0 + length digits * b) % 8 ≡ bits % 8 = ap (λ (n : ℕ). n % 8) count in
      ap (λ (k : ℕ). set out k v) (sym w)
      ∙ last_byte b 0 0 some digits memory out v (omega (arith, q, z))
      (e ∙ ap (λ (n : ℕ). left_over_of b 0 0 digits * 2 ^ (8 - n)) (sym q)) (omega (arith, w, z, room)) wrote
      ∙ ap (λ (n : ℕ). front (cut 8 (at_hand 0 0 b digits) 0 (bytes_for n)) memory) count
      ∙ whole

  -- what is left over is narrow
  pub pad_lt : left_over_of b 0 0 digits < 2 ^ (length digits * b % 8)
  pad_lt = subst (λ (n : ℕ). left_over_of b 0 0 digits < 2 ^ n) (ap (λ (n : ℕ). n % 8) count) (left_lt b 0 0 some digits memory)

-- ---- a text's packing, whole; its bits are counted before

module _ (A : Coding) (some : 0 < A.width) (text memory : List ℕ) (n : ℕ) (count : n ≡ length (digits_of A text) * A.width) where
  pub packed_none : n % 8 ≡ 0 → (out : List ℕ) → out ≡ ran A.width 0 0 (digits_of A text) memory → out ≡ front (packing A text) memory
  unfolding packing
  packed_none z out e = pad_none A.width some (digits_of A text) memory (sym (ap (λ (x : ℕ). x % 8) count) ∙ z) out e

  pub packed_last : (n % 8 ≡ 0 → ⊥) → bytes_for (length text * A.width) ≤ length memory → (out : List ℕ) (v : ℕ) → out ≡ ran A.width 0 0 (digits_of A text) memory
      → v ≡ left_over_of A.width 0 0 (digits_of A text) * 2 ^ (8 - n % 8) → set out (n / 8) v ≡ front (packing A text) memory
  unfolding packing
  packed_last z room out v wrote e =
      let fits : bytes_for (length (digits_of A text) * A.width) ≤ length memory =
      subst (λ (m : ℕ). bytes_for (m * A.width) ≤ length memory) (sym (length-map text (digit_of A))) room in
      ap (λ (m : ℕ). set out (m / 8) v) count
      ∙ pad_last A.width some (digits_of A text) memory (λ q. z (ap (λ (x : ℕ). x % 8) count ∙ q)) fits out v wrote
      (e ∙ ap (λ (m : ℕ). left_over_of A.width 0 0 (digits_of A text) * 2 ^ (8 - m % 8)) count)
