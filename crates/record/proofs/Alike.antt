-- Two sequences of members of one alphabet, by one choice to fold, have equal packed bytes exactly when one is the other followed by symbols of code zero and the
-- byte counts agree.
use mathlib.Core.Path.{◌≡◌, sym, ap, ◌∙◌}
use mathlib.Core.Bool.{Bool, true, not}
use mathlib.Core.List.{List, ◌++◌, map, map-append}
use mathlib.Core.Logic.{◌↔◌, ◌⊎◌, inl, inr, ⊎_elim}
use Prim.Native.Nat.{ℕ, ◌+◌, ◌-◌, ◌%◌, ◌^◌, ◌≤◌, ◌<◌}
use native.Mathlib.Nat.{mod-eq_of_lt}
use native.Mathlib.Decide.{dec_lt}
use native.Mathlib.Omega.{arith}
use lib.Dec.{eqb}
use lib.ListN.{length, take, drop, length-drop, length-map, take-append-drop, get_or-append, get_or-eq_default}
use lib.Seq.{ext_get_or, get_or-take, get_or-drop, get_or-append-add, length-take-le}
use Rattle.bits.specs.Tables.{at}
use Rattle.bits.proofs.Alike.{alike_digits, digits_alike}
use Rattle.alphabet.specs.declared.kind.AlphabetType.{AlphabetType}
use Rattle.alphabet.specs.Symbols.{Coding, coding_by}
use Rattle.alphabet.proofs.Laws as laws
use Rattle.alphabet.proofs.Laws.{lawful, Plain, shape, by_canon}
use Rattle.packing.specs.Encode.{digit_of, digits_of, packing}
use Rattle.packing.proofs.Digits.{digit_lt, at_map}
use Rattle.record.specs.Texts.{Members, Extends}

-- digit i of a text, and zero past its end
abbrev digit_at : Coding → List ℕ → ℕ → ℕ
digit_at A text i = at (digits_of A text) i

pub member_digit : (A : Coding) (v : ℕ) → A.member v ≡ true → digit_of A v ≡ A.code v
unfolding digit_of
member_digit A v m = rw m

module _ (fold : Bool) (k : AlphabetType) where
  abbrev A : Coding
  A = coding_by fold k

  -- a byte of code zero is a member
  zero_member : (v : ℕ) → A.code v ≡ 0 → A.member v ≡ true
  zero_member v z = go (shape fold k)
    where
      go : laws.Packed A ⊎ Plain A → A.member v ≡ true
      go (◌⊎◌.inl packed) = packed.told v ∙ ap (λ (c : ℕ). not (eqb c 0xff)) z
      go (◌⊎◌.inr plain) = plain.all v (omega (arith, plain.same_code v, z))

  digit_inside : (text : List ℕ) → Members A text → (i : ℕ) → i < length text → digit_at A text i ≡ A.code (at text i)
  digit_inside text m i h = at_map (digit_of A) text i h ∙ member_digit A (at text i) (m i h)

  digit_past : (text : List ℕ) (i : ℕ) → length text ≤ i → digit_at A text i ≡ 0
  digit_past text i h = get_or-eq_default (digits_of A text) 0 {n = i} (rw (length-map text (digit_of A)) h)

  digit_narrow : (text : List ℕ) (i : ℕ) → digit_at A text i % 2 ^ A.width ≡ digit_at A text i
  digit_narrow text i = go (dec_lt i (length text))
    where
      go : Dec (i < length text) → digit_at A text i % 2 ^ A.width ≡ digit_at A text i
      go (yes h) = rw (at_map (digit_of A) text i h) (mod-eq_of_lt (digit_lt fold k (at text i)))
      go (no h) = rw (digit_past text i (omega arith)) (mod-eq_of_lt {n = 0} (omega (arith, digit_lt fold k 0)))

  -- equal packings have equal digits, at every place
  same_digits : (t u : List ℕ) → packing A t ≡ packing A u → (i : ℕ) → digit_at A t i ≡ digit_at A u i
  unfolding packing
  same_digits t u e i =
      sym (digit_narrow t i) ∙ alike_digits A.width (lawful fold k).some_bits (digits_of A t) (digits_of A u) e i ∙ digit_narrow u i

  same_packing : (t u : List ℕ) → ((i : ℕ) → digit_at A t i ≡ digit_at A u i) → length (packing A t) ≡ length (packing A u) → packing A t ≡ packing A u
  unfolding packing
  same_packing t u h e = digits_alike A.width (lawful fold k).some_bits (digits_of A t) (digits_of A u) h e

  -- so the longer text is the shorter one and then symbols of code zero
  to_extends : (t u : List ℕ) → Members A t → Members A u → length t ≤ length u → packing A t ≡ packing A u → Extends A t u
  to_extends t u mt mu h e = record { more = drop (length t) u; zeros = zeros; joined = joined }
    where
      zeros : (i : ℕ) → i < length (drop (length t) u) → A.code (at (drop (length t) u) i) ≡ 0
      zeros i l =
          let inside : length t + i < length u = omega (arith, length-drop (length t) u) in
          ap A.code (get_or-drop (length t) u i 0)
          ∙ sym (digit_inside u mu (length t + i) inside)
          ∙ sym (same_digits t u e (length t + i))
          ∙ digit_past t (length t + i) (omega arith)

      same : (i : ℕ) → i < length (map A.canon (take (length t) u)) → at (map A.canon (take (length t) u)) i ≡ at (map A.canon t) i
      same i l =
          let here : i < length (take (length t) u) = rw (length-map (take (length t) u) A.canon) at l in
          let first : i < length t = omega (arith, length-take-le (length t) u h) in
          let second : i < length u = omega arith in
          at_map A.canon (take (length t) u) i here
          ∙ ap A.canon (get_or-take (length t) u i 0 first)
          ∙ (lawful fold k).one_code (at u i) (at t i) (mu i second) (mt i first) (sym (digit_inside u mu i second) ∙ sym (same_digits t u e i) ∙ digit_inside t mt i first)
          ∙ sym (at_map A.canon t i first)

      joined : map A.canon u ≡ map A.canon (t ++ drop (length t) u)
      joined =
          ap (map A.canon) (sym (take-append-drop (length t) u))
          ∙ map-append A.canon (take (length t) u) (drop (length t) u)
          ∙ ap (λ (l : List ℕ). l ++ map A.canon (drop (length t) u))
          (ext_get_or 0 (map A.canon (take (length t) u)) (map A.canon t)
          (length-map (take (length t) u) A.canon ∙ length-take-le (length t) u h ∙ sym (length-map t A.canon)) same)
          ∙ sym (map-append A.canon t (drop (length t) u))

  -- bytes that stand for the same symbols have the same digits
  canon_digit : (v w : ℕ) → A.canon v ≡ A.canon w → digit_of A v ≡ digit_of A w
  unfolding digit_of
  canon_digit v w e = rw ((by_canon fold k v w e).0, (by_canon fold k v w e).1)

  canon_digits : (u w : List ℕ) → map A.canon u ≡ map A.canon w → digits_of A u ≡ digits_of A w
  canon_digits u w e =
      let len : length u ≡ length w = sym (length-map u A.canon) ∙ ap length e ∙ length-map w A.canon in
      ext_get_or 0 (digits_of A u) (digits_of A w) (length-map u (digit_of A) ∙ len ∙ sym (length-map w (digit_of A)))
      (λ i l.
      let here : i < length u = rw (length-map u (digit_of A)) at l in
      let there : i < length w = omega arith in
      at_map (digit_of A) u i here
      ∙ canon_digit (at u i) (at w i) (sym (at_map A.canon u i here) ∙ ap (λ (x : List ℕ). at x i) e ∙ at_map A.canon w i there)
      ∙ sym (at_map (digit_of A) w i there))

  -- symbols of code zero behind a text change no digit
  zero_digits : (t more : List ℕ) → ((i : ℕ) → i < length more → A.code (at more i) ≡ 0) → (i : ℕ) → digit_at A t i ≡ digit_at A (t ++ more) i
  zero_digits t more z i = go (dec_lt i (length t)) (dec_lt (i - length t) (length more)) ∙ ap (λ (l : List ℕ). at l i) (sym (map-append (digit_of A) t more))
    where
      behind : length t ≤ i → at (digits_of A t ++ digits_of A more) i ≡ digit_at A more (i - length t)
      behind h =
          let place : i ≡ length (digits_of A t) + (i - length t) = omega (arith, length-map t (digit_of A)) in
          ap (at (digits_of A t ++ digits_of A more)) place ∙ get_or-append-add (digits_of A t) (digits_of A more) (i - length t) 0

      go : Dec (i < length t) → Dec (i - length t < length more) → digit_at A t i ≡ at (digits_of A t ++ digits_of A more) i
      go (yes h) d = sym (get_or-append (digits_of A t) (digits_of A more) 0 i (rw (length-map t (digit_of A)) h))
      go (no h) (yes l) =
          digit_past t i (omega arith)
          ∙ sym (behind (omega arith) ∙ digit_inside more (λ j m. zero_member (at more j) (z j m)) (i - length t) l ∙ z (i - length t) l)
      go (no h) (no l) = digit_past t i (omega arith) ∙ sym (behind (omega arith) ∙ digit_past more (i - length t) (omega arith))

  from_extends : (t u : List ℕ) → Extends A t u → length (packing A t) ≡ length (packing A u) → packing A t ≡ packing A u
  from_extends t u x e =
      same_packing t u (λ i. zero_digits t x.more x.zeros i ∙ ap (λ (l : List ℕ). at l i) (sym (canon_digits u (t ++ x.more) x.joined))) e

  pub alike :
      (t u : List ℕ) → Members A t → Members A u → (packing A t ≡ packing A u) ↔ ((Extends A t u ⊎ Extends A u t) × (length (packing A t) ≡ length (packing A u)))
  alike t u mt mu = (
    λ e. (one (dec_lt (length u) (length t)) e, ap length e),
    λ p. ⊎_elim (λ x. from_extends t u x p.1) (λ x. sym (from_extends u t x (sym p.1))) p.0,
  )
    where
      one : Dec (length u < length t) → packing A t ≡ packing A u → Extends A t u ⊎ Extends A u t
      one (yes h) e = inr (to_extends u t mu mt (omega arith) (sym e))
      one (no h) e = inl (to_extends t u mt mu (omega arith) e)
