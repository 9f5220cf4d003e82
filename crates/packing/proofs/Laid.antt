-- The packing of a text: how long it is, what its bytes are, that by the choice to fold it is the packing of the text by the choice, and that Dna2bit's is
-- UCSC's.
use mathlib.Core.Path.{◌≡◌, refl, sym, ap, ◌∙◌, subst}
use mathlib.Core.Bool.{Bool, true, false, cond, ◌&&◌}
use mathlib.Core.List.{List, [], ◌∷◌, map}
use Prim.Native.Nat.{ℕ, ◌+◌, ◌-◌, ◌*◌, ◌/◌, ◌%◌, ◌^◌, ◌<◌}
use native.Mathlib.Nat.{mod-eq_of_lt}
use native.Mathlib.Decide.{dec_lt}
use native.Mathlib.Omega.{arith}
use borrow.Author.Tests.{lt-ltb, le-ltb}
use lib.Dec.{ltb}
use lib.ListN.{length, length-map, get_or-eq_default}
use Rattle.bits.specs.Tables.{tabulate, at}
use Rattle.bits.specs.Streams.{bit_at, word, cut}
use Rattle.bits.specs.Packing.{bytes_for, pack}
use Rattle.bits.proofs.Computed.{and_true}
use Rattle.bits.proofs.Tabulated.{length-tabulate, get_d_tabulate, tabulate_ext}
use Rattle.bits.proofs.Words.{word-add, word_lt, word-whole, bit_lt}
use Rattle.alphabet.specs.declared.kind.AlphabetType.{AlphabetType}
use Rattle.alphabet.specs.declared.kind.AlphabetType.TheVariants.{Dna2bit}
use Rattle.alphabet.specs.Symbols.{Coding, coding, canon, folded, folds, through, coding_by}
use Rattle.alphabet.proofs.Laws.{lawful, widths, member-folded, length-folded, at_folded, Ucsc, dna2bit-codes}
use Rattle.packing.specs.Encode.{digit_of, digits_of, packing}
use Rattle.packing.specs.Ucsc.{two_bits, base_packed, byte_packed, ucsc_packed}
use Rattle.packing.proofs.Digits.{at_map}

module _ (A : Coding) (text : List ℕ) where
  -- ceil(n b / 8) bytes
  pub packing-length : length (packing A text) ≡ bytes_for (length text * A.width)
  unfolding packing pack cut
  packing-length =
      length-tabulate (bytes_for (length (digits_of A text) * A.width)) _ ∙ ap (λ (n : ℕ). bytes_for (n * A.width)) (length-map text (digit_of A))

  -- each below 256
  pub packing_byte : (j : ℕ) → j < length (packing A text) → at (packing A text) j < 256
  unfolding packing pack cut
  packing_byte j h =
      let n : ℕ = bytes_for (length (digits_of A text) * A.width) in
      let s : ℕ → ℕ = bit_at A.width (at (digits_of A text)) in
      rw (get_d_tabulate n (λ i. word s (0 + i * 8) 8) j 0 (rw (length-tabulate n (λ i. word s (0 + i * 8) 8)) at h))
      (word_lt s (bit_lt A.width (at (digits_of A text))) (0 + j * 8) 8)

-- ---- the choice to fold

-- packed through f is the text by f, packed
pub packing-through : (f : ℕ → ℕ) (A : Coding) (text : List ℕ) → packing (through f A) text ≡ packing A (map f text)
unfolding packing digit_of
packing-through f A text = ap (pack A.width) (digits text)
  where
    digits : (t : List ℕ) → digits_of (through f A) t ≡ digits_of A (map f t)
    digits [] = refl
    digits (v ∷ t) = ap (λ (l : List ℕ). digit_of A (f v) ∷ l) (digits t)

-- packed by the choice is the text by the choice, packed: the uppercased text, where it was chosen and the alphabet folds
pub packing-folded : (fold : Bool) (k : AlphabetType) (text : List ℕ) → packing (coding_by fold k) text ≡ packing (coding k) (folded (fold && folds k) text)
packing-folded fold k text = by_effect (fold && folds k)
  where
    by_effect : (b : Bool) → packing (through (canon b) (coding k)) text ≡ packing (coding k) (folded b text)
    by_effect true = packing-through (canon true) (coding k) text
    by_effect false = refl

-- ---- UCSC

-- a member's digit is UCSC's
two_bits_lem : (v : ℕ) → (coding Dna2bit).member v ≡ true → (coding Dna2bit).code v ≡ two_bits v
unfolding two_bits
two_bits_lem v m = go (dna2bit-codes v m)
  where
    go : Ucsc v → (coding Dna2bit).code v ≡ two_bits v
    go (Ucsc.is_t e c) = c ∙ ap two_bits (sym e)
    go (Ucsc.is_c e c) = c ∙ ap two_bits (sym e)
    go (Ucsc.is_a e c) = c ∙ ap two_bits (sym e)
    go (Ucsc.is_g e c) = c ∙ ap two_bits (sym e)

module _ (text : List ℕ) (members : (i : ℕ) → i < length text → (coding Dna2bit).member (at text i) ≡ true) where
  -- two bits of a base, and zeros past the end
  base : (i : ℕ) → at (digits_of (coding Dna2bit) text) i % 2 ^ 2 ≡ base_packed text i
  unfolding base_packed digit_of
  base i = go (dec_lt i (length text))
    where
      go : Dec (i < length text) → at (digits_of (coding Dna2bit) text) i % 2 ^ 2 ≡ cond (ltb i (length text)) (two_bits (at text i)) 0
      go (yes h) =
          let v : ℕ = at text i in
          let m : (coding Dna2bit).member v ≡ true = members i h in
          let d : at (digits_of (coding Dna2bit) text) i ≡ (coding Dna2bit).code v =
          at_map (digit_of (coding Dna2bit)) text i h ∙ ap (λ (b : Bool). cond b ((coding Dna2bit).code v) (2 ^ (coding Dna2bit).width - 1)) m in
          let small : (coding Dna2bit).code v < 2 ^ 2 = subst (λ (w : ℕ). (coding Dna2bit).code v < 2 ^ w) widths.of_dna2bit ((lawful false Dna2bit).fits v m) in
          ap (λ (x : ℕ). x % 2 ^ 2) d ∙ mod-eq_of_lt small ∙ two_bits_lem v m ∙ sym (rw (lt-ltb i (length text) h))
      go (no h) =
          ap (λ (x : ℕ). x % 2 ^ 2) (get_or-eq_default (digits_of (coding Dna2bit) text) 0 {n = i} (rw (length-map text (digit_of (coding Dna2bit))) (omega arith)))
          ∙ sym (rw (le-ltb i (length text) (omega arith)))

  -- a byte is four bases
  four : (j : ℕ) → word (bit_at 2 (at (digits_of (coding Dna2bit) text))) (0 + j * 8) 8 ≡ byte_packed text j
  unfolding byte_packed
  four j =
      let s : ℕ → ℕ = bit_at 2 (at (digits_of (coding Dna2bit) text)) in
      let digit : (k i : ℕ) → k ≡ i * 2 → word s k 2 ≡ base_packed text i =
      λ k i e. ap (λ (x : ℕ). word s x 2) e ∙ word-whole 2 (at (digits_of (coding Dna2bit) text)) i ∙ base i in
      let w6 = word-add s (0 + j * 8) 6 2 in
      let w4 = word-add s (0 + j * 8) 4 2 in
      let w2 = word-add s (0 + j * 8) 2 2 in
      let d0 = digit (0 + j * 8) (4 * j) (omega arith) in
      let d1 = digit (0 + j * 8 + 2) (4 * j + 1) (omega arith) in
      let d2 = digit (0 + j * 8 + 4) (4 * j + 2) (omega arith) in
      let d3 = digit (0 + j * 8 + 6) (4 * j + 3) (omega arith) in
      omega (arith, w6, w4, w2, d0, d1, d2, d3)

  uppercase_is_ucsc : packing (coding Dna2bit) text ≡ ucsc_packed text
  unfolding packing pack cut ucsc_packed
  uppercase_is_ucsc =
      let count : bytes_for (length (digits_of (coding Dna2bit) text) * 2) ≡ (length text + 3) / 4 = omega (arith, length-map text (digit_of (coding Dna2bit))) in
      let digits : List ℕ = digits_of (coding Dna2bit) text in
      ap (λ (w : ℕ). tabulate (bytes_for (length digits * w)) (λ i. word (bit_at w (at digits)) (0 + i * 8) 8)) widths.of_dna2bit
      ∙ ap (λ (n : ℕ). tabulate n (λ i. word (bit_at 2 (at (digits_of (coding Dna2bit) text))) (0 + i * 8) 8)) count
      ∙ tabulate_ext ((length text + 3) / 4) (λ i. word (bit_at 2 (at (digits_of (coding Dna2bit) text))) (0 + i * 8) 8) (byte_packed text) (λ j h. four j)

-- Dna2bit's packing is UCSC's, of the text by the choice
pub dna2bit_is_ucsc : (fold : Bool) (text : List ℕ) → ((i : ℕ) → i < length text → (coding_by fold Dna2bit).member (at text i) ≡ true)
    → packing (coding_by fold Dna2bit) text ≡ ucsc_packed (folded fold text)
dna2bit_is_ucsc fold text members =
    let bases : (i : ℕ) → i < length (folded fold text) → (coding Dna2bit).member (at (folded fold text) i) ≡ true = λ i h.
    ap (coding Dna2bit).member (at_folded fold text i)
    ∙ member-folded fold Dna2bit (at text i)
    ∙ members i (subst (λ (n : ℕ). i < n) (length-folded fold text) h) in
    packing-folded fold Dna2bit text ∙ ap (λ (b : Bool). packing (coding Dna2bit) (folded b text)) (and_true fold) ∙ uppercase_is_ucsc (folded fold text) bases
