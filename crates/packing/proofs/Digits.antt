-- A text's digits: by a call's table, and by the definition.
use mathlib.Core.Path.{◌≡◌, refl, sym, ap, ap₂, ◌∙◌, subst}
use mathlib.Core.Bool.{Bool, true, false, cond}
use mathlib.Core.List.{List, [], ◌∷◌, map}
use Prim.Native.Nat.{ℕ, zero, suc, ◌+◌, ◌-◌, ◌*◌, ◌/◌, ◌%◌, ◌^◌, ◌≤◌, ◌<◌}
use native.Mathlib.Nat.{le_of_suc-le-suc, not-suc-le-zero}
use native.Mathlib.Decide.{dec_lt}
use native.Mathlib.Omega.{arith}
use lib.ListN.{length, take, drop, get_or-eq_default}
use lib.Pow.{pow_pos}
use Rattle.bits.specs.Tables.{at, tabulate, Bytes}
use Rattle.bits.specs.Streams.{word}
use Rattle.bits.specs.Packing.{at_hand}
use Rattle.bits.proofs.Tabulated.{length-tabulate, get_d_tabulate}
use Rattle.bits.proofs.Hand.{hand_digit}
use Rattle.alphabet.specs.declared.kind.AlphabetType.{AlphabetType}
use Rattle.alphabet.specs.Symbols.{coding_by}
use Rattle.alphabet.proofs.Laws.{lawful}
use Rattle.packing.specs.Encode.{digit_of, digits_of}
use Rattle.packing.specs.Run.{Digits, Tabled, left_over_of, looked}
use Rattle.packing.proofs.Entries.{wide}
use Rattle.packing.proofs.Behind.{map-take, map-drop}

-- a digit fits the width
pub digit_lt : (fold : Bool) (k : AlphabetType) (v : ℕ) → digit_of (coding_by fold k) v < 2 ^ (coding_by fold k).width
unfolding digit_of
digit_lt fold k v = go ((coding_by fold k).member v) refl
  where
    go : (m : Bool) → (coding_by fold k).member v ≡ m → cond m ((coding_by fold k).code v) (2 ^ (coding_by fold k).width - 1) < 2 ^ (coding_by fold k).width
    go true e = (lawful fold k).fits v e
    go false e = omega (arith, pow_pos (coding_by fold k).width)

-- entry i of a list that was mapped
pub at_map : (f : ℕ → ℕ) (xs : List ℕ) (i : ℕ) → i < length xs → at (map f xs) i ≡ f (at xs i)
at_map f [] i h = absurd (not-suc-le-zero h)
at_map f (x ∷ xs) zero h = refl
at_map f (x ∷ xs) (suc i) h = at_map f xs i (le_of_suc-le-suc h)

-- what the loop pushes for byte i of a text is digit i of the bits at hand
pub looked_digit : (b p a : ℕ) (table text : List ℕ) (i : ℕ) → i < length text
    → at table (at text i) % 2 ^ b ≡ word (at_hand p a b (looked table text)) (p + i * b) b
looked_digit b p a table text i h =
    ap (λ (x : ℕ). x % 2 ^ b) (sym (at_map (at table) text i h)) ∙ sym (hand_digit p a b (looked table text) i)

-- a list that two functions take to the same
map_same : (f g : ℕ → ℕ) (xs : List ℕ) → ((j : ℕ) → j < length xs → f (at xs j) ≡ g (at xs j)) → map f xs ≡ map g xs
map_same f g [] h = refl
map_same f g (x ∷ xs) h = ap₂ (λ (y : ℕ) (l : List ℕ). y ∷ l) (h 0 (omega arith)) (map_same f g xs (λ j l. h (suc j) (omega arith)))

map_itself : (xs : List ℕ) → map (λ v. v) xs ≡ xs
map_itself [] = refl
map_itself (x ∷ xs) = ap (λ (l : List ℕ). x ∷ l) (map_itself xs)

-- ---- a plain alphabet: its digits are the text

pub plain_digits : (fold : Bool) (k : AlphabetType) (text : List ℕ) → Bytes text → 8 ≤ (coding_by fold k).width → digits_of (coding_by fold k) text ≡ text
unfolding digit_of
plain_digits fold k text bytes h =
    map_same (digit_of (coding_by fold k)) (λ v. v) text
    (λ j l.
    ap (λ (m : Bool). cond m ((coding_by fold k).code (at text j)) (2 ^ (coding_by fold k).width - 1)) ((wide fold k h).all (at text j) (bytes j))
    ∙ (wide fold k h).same_code (at text j))
    ∙ map_itself text

-- ---- a packed alphabet: its digits are a text's entries in its table

module _ (fold : Bool) (k : AlphabetType) (table : List ℕ) (t : table ≡ tabulate 256 (digit_of (coding_by fold k))) where
  -- none of them is wider than the width
  pub digits_small : Digits (coding_by fold k).width table
  digits_small x = go (dec_lt x 256)
    where
      go : Dec (x < 256) → at table x < 2 ^ (coding_by fold k).width
      go (yes l) =
          subst (λ (d : ℕ). d < 2 ^ (coding_by fold k).width)
          (sym (ap (λ (l : List ℕ). at l x) t ∙ get_d_tabulate 256 (digit_of (coding_by fold k)) x 0 l)) (digit_lt fold k x)
      go (no l) =
          let long : length table ≤ x = omega (arith, ap length t ∙ length-tabulate 256 (digit_of (coding_by fold k))) in
          subst (λ (d : ℕ). d < 2 ^ (coding_by fold k).width) (sym (get_or-eq_default table 0 {n = x} long)) (pow_pos (coding_by fold k).width)

  module _ (text : List ℕ) (bytes : Bytes text) where
    pub looked_digits : looked table text ≡ digits_of (coding_by fold k) text
    looked_digits =
        map_same (at table) (digit_of (coding_by fold k)) text
        (λ j l. ap (λ (l : List ℕ). at l (at text j)) t ∙ get_d_tabulate 256 (digit_of (coding_by fold k)) (at text j) 0 (bytes j))

    -- and so are those of its parts
    pub looked_part : (i n : ℕ) → looked table (take n (drop i text)) ≡ digits_of (coding_by fold k) (take n (drop i text))
    looked_part i n =
        let cut : (f : ℕ → ℕ) → map f (take n (drop i text)) ≡ take n (drop i (map f text)) = λ f. map-take f (drop i text) n ∙ ap (take n) (map-drop f text i) in
        cut (at table) ∙ ap (λ (l : List ℕ). take n (drop i l)) looked_digits ∙ sym (cut (digit_of (coding_by fold k)))

-- what is left over: in a plain alphabet nothing, in a packed one what the table tells
pub left_digits : (fold : Bool) (k : AlphabetType) (table text : List ℕ) → Tabled (coding_by fold k) table → Bytes text → (p a : ℕ)
    → (8 ≤ (coding_by fold k).width → p ≡ 0)
    → left_over_of (coding_by fold k).width p a (looked table text) ≡ left_over_of (coding_by fold k).width p a (digits_of (coding_by fold k) text)
unfolding word
left_digits fold k table text tabled bytes p a none = go (dec_lt (coding_by fold k).width 8)
  where
    b : ℕ
    b = (coding_by fold k).width

    go : Dec ((coding_by fold k).width < 8)
        → left_over_of (coding_by fold k).width p a (looked table text) ≡ left_over_of (coding_by fold k).width p a (digits_of (coding_by fold k) text)
    go (yes l) = ap (left_over_of b p a) (looked_digits fold k table (tabled l) text bytes)
    go (no l) =
        let eight : b ≡ 8 = (wide fold k (omega arith)).eight in
        let whole : (f : ℕ → ℕ) → (p + length (map f text) * b) % 8 ≡ 0 =
        λ f. ap (λ (x : ℕ). (p + length (map f text) * x) % 8) eight ∙ (let z : (p + length (map f text) * 8) % 8 ≡ 0 = omega (arith, none (omega arith)) in z) in
        let nothing : (f : ℕ → ℕ) → left_over_of b p a (map f text) ≡ 0 =
        λ f. ap (word (at_hand p a b (map f text)) ((p + length (map f text) * b) / 8 * 8)) (whole f) in
        nothing (at table) ∙ sym (nothing (digit_of (coding_by fold k)))
