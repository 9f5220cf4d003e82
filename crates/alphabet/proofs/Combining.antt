-- Request A9: how guesses combine. Each list of document 01 has the letters of the one before it, and Ascii every byte. So a byte's mask is that of all alphabets from
-- one place of the order on, a text's place is the farthest of its bytes', and the guess is the alphabet there.
use Rattle.std.proofs.Common.{◌≡◌, ℕ, zero, suc, ◌-◌, ◌^◌, ◌<◌, ◌≤◌, max, Bool, true, false, ◌&&◌, eqb, leb, List, [], ◌∷◌, ◌++◌, map}
use Rattle.std.proofs.Common.{length, get_or, sym, refl, ap, ◌∙◌, subst, ap₂, le_of_suc-le-suc, not-suc-le-zero, arith, lit<, lit≤, eqb→eq, le-leb, leb-true}
use mathlib.Core.List.Perm
use mathlib.Core.List.{foldl, foldr, flatten, Perm}
use native.Mathlib.Nat.{ℕ_set}
use native.Mathlib.Decide.{dec_lt}
use lib.Bits.{bit_and}
use lib.Count.{count_trailing_zeros}
use Rattle.bits.specs.Tables.{Bytes, bytes_of}
use Rattle.bits.proofs.Computed.{passes, below, alike, are_alike}
use Rattle.alphabet.specs.declared.kind.AlphabetType.{AlphabetType}
use Rattle.alphabet.specs.declared.kind.AlphabetType.TheVariants.{Dna2bit, Dna3bit, DnaIupac, Protein, Ascii, Unknown}
use Rattle.alphabet.specs.Symbols.{coded, dna2bit, dna3bit, dna_iupac, protein, among, listed, plain, coding, folded}
use Rattle.alphabet.specs.Names.{number_of}
use Rattle.alphabet.specs.Guess.{order, is_set, holders, mask_of, masked, lowest, guess_of, holds_all}
use Rattle.alphabet.specs.Genome.{later, latest, Combining}
use Rattle.alphabet.proofs.Laws.{lawful, members, folded-append}
use Rattle.alphabet.proofs.Masks.{masked_bit, holds_folded, ascii_holds, guess-empty}
use Rattle.alphabet.proofs.Calls.{known_number, same_kind, later-max}

-- ---- a byte's place in the order

-- the number of the alphabet that a byte gives by itself
abbrev place : ℕ → ℕ
place v = number_of (lowest (mask_of v))

-- the mask of the alphabets from place n on
abbrev from : ℕ → ℕ
from n = 32 - 2 ^ n

number_le : (k : AlphabetType) → number_of k ≤ 5
number_le k = leb-true (number_of k) 5 (known_number k)

-- no alphabet holds a number that is no byte
not_held : (k : AlphabetType) (v : ℕ) → 256 ≤ v → (coding k).member v ≡ false
not_held k v h = go ((coding k).member v) refl
  where
    go : (b : Bool) → (coding k).member v ≡ b → b ≡ false
    go true e = absurd (omega (arith, (lawful false k).byte v e))
    go false e = refl

no-holders : (ks : List AlphabetType) (v : ℕ) → 256 ≤ v → holders ks v ≡ 0
unfolding holders
no-holders [] v h = refl
no-holders (k ∷ ks) v h = rw (not_held k v h, no-holders ks v h) refl

-- the lists are nested: computed for the bytes
abbrev nested : ℕ → Bool
unfolding mask_of holders coding listed plain among dna2bit dna3bit dna_iupac protein coded bytes_of lowest count_trailing_zeros
nested v = eqb (mask_of v) (from (place v))

byte_mask : (v : ℕ) → mask_of v ≡ from (place v)
unfolding mask_of holders coding listed plain among dna2bit dna3bit dna_iupac protein coded bytes_of lowest count_trailing_zeros
byte_mask v = go (dec_lt v 256)
  where
    go : Dec (v < 256) → mask_of v ≡ from (place v)
    go (yes h) = eqb→eq (mask_of v) (from (place v)) (below nested 256 tt v h)
    go (no h) = let none : mask_of v ≡ 0 = no-holders order v (omega arith) in subst (λ (m : ℕ). m ≡ from (number_of (lowest m))) (sym none) refl

-- ---- a text's place: the farthest of its bytes', and of where it starts

abbrev farthest : ℕ → List ℕ → ℕ
farthest n [] = n
farthest n (v ∷ text) = farthest (max n (place v)) text

farthest_le : (n : ℕ) (text : List ℕ) → n ≤ 5 → farthest n text ≤ 5
farthest_le n [] h = h
farthest_le n (v ∷ text) h = farthest_le (max n (place v)) text (omega (arith, number_le (lowest (mask_of v))))

farthest-max : (m n : ℕ) (text : List ℕ) → farthest (max m n) text ≡ max m (farthest n text)
farthest-max m n [] = refl
farthest-max m n (v ∷ text) =
    let same : max (max m n) (place v) ≡ max m (max n (place v)) = omega arith in
    ap (λ (k : ℕ). farthest k text) same ∙ farthest-max m (max n (place v)) text

farthest-append : (n : ℕ) (a b : List ℕ) → farthest n (a ++ b) ≡ max (farthest n a) (farthest 0 b)
farthest-append n [] b = let same : n ≡ max n 0 = omega arith in ap (λ (k : ℕ). farthest k b) same ∙ farthest-max n 0 b
farthest-append n (v ∷ a) b = farthest-append (max n (place v)) a b

-- ---- masks of this form: computed

-- two of them ANDed are the one of the farther place
abbrev and_test : ℕ → ℕ → Bool
and_test m n = eqb (bit_and (from m) (from n)) (from (max m n))

and_from : (m n : ℕ) → m ≤ 5 → n ≤ 5 → bit_and (from m) (from n) ≡ from (max m n)
and_from m n h l = eqb→eq _ _ (below (and_test m) 6 (below (λ m. passes (and_test m) 0 6) 6 tt m (omega arith)) n (omega arith))

-- bit i is set from the place on
abbrev bit_test : ℕ → ℕ → Bool
bit_test n i = alike (is_set i (from n)) (leb n i)

bit_from : (n i : ℕ) → n ≤ 5 → i < 5 → is_set i (from n) ≡ leb n i
bit_from n i h l = are_alike _ _ (below (bit_test n) 5 (below (λ n. passes (bit_test n) 0 5) 6 tt n (omega arith)) i l)

-- the lowest alphabet is the one at the place
abbrev lowest_test : ℕ → Bool
unfolding lowest count_trailing_zeros
lowest_test n = eqb (number_of (lowest (from n))) n

lowest-from : (n : ℕ) → n ≤ 5 → number_of (lowest (from n)) ≡ n
unfolding lowest count_trailing_zeros
lowest-from n h = eqb→eq _ _ (below lowest_test 6 tt n (omega arith))

-- so a text's mask is of this form
masked-from : (n : ℕ) (text : List ℕ) → n ≤ 5 → masked (from n) text ≡ from (farthest n text)
unfolding masked
masked-from n [] h = refl
masked-from n (v ∷ text) h =
    let near : place v ≤ 5 = number_le (lowest (mask_of v)) in
    ap (λ (m : ℕ). masked m text) (ap (bit_and (from n)) (byte_mask v) ∙ and_from n (place v) h near)
    ∙ masked-from (max n (place v)) text (omega arith)

-- ---- guesses

-- the number of the later of all in a list, from one on, is the greatest
abbrev greater : AlphabetType → ℕ → ℕ
greater k n = max (number_of k) n

all_max : (j : AlphabetType) (ks : List AlphabetType) → number_of (foldl later j ks) ≡ foldr greater (number_of j) ks
all_max j [] = refl
all_max j (k ∷ ks) = all_max (later j k) ks ∙ ap (λ (n : ℕ). foldr greater n ks) (later-max j k) ∙ first (number_of j) (number_of k) ks
  where
    first : (m n : ℕ) (ls : List AlphabetType) → foldr greater (max m n) ls ≡ max n (foldr greater m ls)
    first m n [] = omega arith
    first m n (l ∷ ls) = ap (greater l) (first m n ls) ∙ omega arith

latest-max : (ks : List AlphabetType) → number_of (latest ks) ≡ foldr greater 0 ks
unfolding latest
latest-max ks = all_max Dna2bit ks

module _ (fold : Bool) where
  guess_place : (text : List ℕ) → number_of (guess_of fold text) ≡ farthest 0 (folded fold text)
  unfolding guess_of
  guess_place text =
      let given : List ℕ = folded fold text in
      ap (λ (m : ℕ). number_of (lowest m)) (masked-from 0 given (lit≤ tt)) ∙ lowest-from (farthest 0 given) (farthest_le 0 given (lit≤ tt))

  guess-append : (a b : List ℕ) → number_of (guess_of fold (a ++ b)) ≡ max (number_of (guess_of fold a)) (number_of (guess_of fold b))
  guess-append a b =
      guess_place (a ++ b)
      ∙ ap (farthest 0) (folded-append fold a b)
      ∙ farthest-append 0 (folded fold a) (folded fold b)
      ∙ sym (ap₂ max (guess_place a) (guess_place b))

  guess_all : (texts : List (List ℕ)) → number_of (guess_of fold (flatten texts)) ≡ foldr greater 0 (map (guess_of fold) texts)
  unfolding flatten
  guess_all [] = ap number_of (guess-empty fold)
  guess_all (text ∷ texts) = guess-append text (flatten texts) ∙ ap (max (number_of (guess_of fold text))) (guess_all texts)

  -- no guess of a list is farther than all of them together
  guess_le : (texts : List (List ℕ)) (i : ℕ) → i < length texts → number_of (guess_of fold (get_or texts i [])) ≤ foldr greater 0 (map (guess_of fold) texts)
  guess_le [] i h = absurd (not-suc-le-zero h)
  guess_le (text ∷ texts) zero h = omega arith
  guess_le (text ∷ texts) (suc i) h = omega (arith, guess_le texts i (le_of_suc-le-suc h))

  -- ---- what holds a text

  unknown_holds : (text : List ℕ) → holds_all fold Unknown text ≡ holds_all fold Ascii text
  unfolding holds_all
  unknown_holds [] = refl
  unknown_holds (v ∷ text) = ap₂ (λ (a b : Bool). a && b) ((members fold).of_unknown v ∙ sym ((members fold).of_ascii v)) (unknown_holds text)

  -- alphabet i of the order holds a text exactly when the guess is no farther
  place_holds : (text : List ℕ) (i : ℕ) → i < 5 → holds_all fold (get_or order i Unknown) text ≡ leb (number_of (guess_of fold text)) i
  place_holds text i h =
      let given : List ℕ = folded fold text in
      sym (holds_folded fold (get_or order i Unknown) text)
      ∙ all_set i h given
      ∙ ap (is_set i) (masked-from 0 given (lit≤ tt))
      ∙ bit_from (farthest 0 given) i (farthest_le 0 given (lit≤ tt)) h
      ∙ ap (λ (n : ℕ). leb n i) (sym (guess_place text))
    where
      all_set : (i : ℕ) → i < 5 → (given : List ℕ) → holds_all false (get_or order i Unknown) given ≡ is_set i (masked 31 given)
      all_set i h given =
          sym (masked_bit i h 31 given ∙ ap (λ (b : Bool). b && holds_all false (get_or order i Unknown) given) (bit_from 0 i (lit≤ tt) h ∙ le-leb 0 i (omega arith)))

  kind_holds : (text : List ℕ) → Bytes text → (k : AlphabetType) → holds_all fold k text ≡ leb (number_of (guess_of fold text)) (number_of k)
  kind_holds text bytes Dna2bit = place_holds text 0 (lit< tt)
  kind_holds text bytes Dna3bit = place_holds text 1 (lit< tt)
  kind_holds text bytes DnaIupac = place_holds text 2 (lit< tt)
  kind_holds text bytes Protein = place_holds text 3 (lit< tt)
  kind_holds text bytes Ascii = place_holds text 4 (lit< tt)
  kind_holds text bytes Unknown =
      unknown_holds text ∙ ascii_holds fold text bytes ∙ sym (le-leb (number_of (guess_of fold text)) 5 (number_le (guess_of fold text)))

-- ---- the claim

whole : (fold : Bool) (texts : List (List ℕ)) (guesses : List AlphabetType) → Perm (map (guess_of fold) texts) guesses → guess_of fold (flatten texts) ≡ latest guesses
whole fold texts guesses p =
    same_kind (guess_of fold (flatten texts)) (latest guesses)
    (guess_all fold texts ∙ Perm.foldr-eq ℕ_set greater (λ j k n. omega arith) p 0 ∙ sym (latest-max guesses))

each-held : (fold : Bool) (texts : List (List ℕ)) (i : ℕ) → i < length texts → Bytes (get_or texts i [])
    → holds_all fold (latest (map (guess_of fold) texts)) (get_or texts i []) ≡ true
each-held fold texts i h bytes =
    let k : AlphabetType = latest (map (guess_of fold) texts) in
    kind_holds fold (get_or texts i []) bytes k
    ∙ le-leb (number_of (guess_of fold (get_or texts i []))) (number_of k) (omega (arith, guess_le fold texts i h, latest-max (map (guess_of fold) texts)))

pub combining : (fold : Bool) → Combining fold
combining fold =
    record {
      joined = λ a b. same_kind _ _ (guess-append fold a b ∙ sym (later-max (guess_of fold a) (guess_of fold b)));
      five = λ text bytes. omega (arith, leb-true (number_of (guess_of fold text)) 4 (sym (kind_holds fold text bytes Ascii) ∙ ascii_holds fold text bytes));
      associative = λ j k l. same_kind _ _ (omega (arith, later-max (later j k) l, later-max j k, later-max j (later k l), later-max k l));
      commutative = λ j k. same_kind _ _ (omega (arith, later-max j k, later-max k j));
      unchanged = λ k. same_kind _ _ (omega (arith, later-max k k));
      neutral = λ k. (same_kind _ _ (omega (arith, later-max Dna2bit k)), same_kind _ _ (omega (arith, later-max k Dna2bit)));
      empty = guess-empty fold;
      genome = whole fold;
      holding = kind_holds fold;
      each = each-held fold;
    }
