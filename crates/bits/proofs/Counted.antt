-- Laws of `how_many`: how many entries of a list a test holds of.
use mathlib.Core.Path.{◌≡◌, refl, sym, ap, ap₂, ◌∙◌}
use mathlib.Core.Bool.{Bool, true, false, cond}
use mathlib.Core.List.{List, [], ◌∷◌, ◌++◌}
use Prim.Native.Nat.{ℕ, zero, suc, ◌+◌, ◌-◌, ◌<◌, ◌≤◌}
use native.Mathlib.Nat.{zero-add, le_of_suc-le-suc, not-suc-le-zero}
use native.Mathlib.Omega.{arith}
use lib.ListN.{length, take, drop, take-append-drop, length-drop, drop_of_length-le}
use lib.Seq.{take_all, drop-cons, drop-drop}
use Rattle.bits.specs.Tables.{at}
use Rattle.bits.specs.Counts.{how_many}

module _ (test : ℕ → Bool) where
  -- it adds over joined lists
  pub many_append : (t u : List ℕ) → how_many test (t ++ u) ≡ how_many test t + how_many test u
  unfolding how_many
  many_append [] u = omega arith
  many_append (x ∷ t) u = omega (arith, many_append t u)

  -- n entries, and those behind them
  pub many_parts : (t : List ℕ) (n : ℕ) → how_many test t ≡ how_many test (take n t) + how_many test (drop n t)
  many_parts t n = ap (how_many test) (sym (take-append-drop n t)) ∙ many_append (take n t) (drop n t)

  -- the entries from place i to place e, as a part is lent, and those behind them
  pub many_part : (t : List ℕ) (i e : ℕ) → i ≤ e → how_many test (drop i t) ≡ how_many test (take (e - i) (drop i t)) + how_many test (drop e t)
  many_part t i e h =
      let joined : i + (e - i) ≡ e = omega arith in
      many_parts (drop i t) (e - i)
      ∙ ap (λ (l : List ℕ). how_many test (take (e - i) (drop i t)) + how_many test l) (drop-drop (e - i) i t ∙ ap (λ (m : ℕ). drop m t) joined)

  -- those from place i on
  pub many_rest : (t : List ℕ) (i : ℕ) → how_many test (take (length t - i) (drop i t)) ≡ how_many test (drop i t)
  many_rest t i = ap (how_many test) (take_all (length t - i) (drop i t) (omega (arith, length-drop i t)))

  pub many_le : (t : List ℕ) → how_many test t ≤ length t
  unfolding how_many
  many_le [] = omega arith
  many_le (x ∷ t) = go (test x) (many_le t)
    where
      go : (b : Bool) → how_many test t ≤ length t → cond b 1 0 + how_many test t ≤ suc (length t)
      go true h = omega arith
      go false h = omega arith

  -- entry i, and those behind it
  pub many_step : (t : List ℕ) (i : ℕ) → i < length t → how_many test (drop i t) ≡ cond (test (at t i)) 1 0 + how_many test (drop (suc i) t)
  unfolding how_many
  many_step t i h = ap (how_many test) (drop-cons t i 0 h)

  -- entries that it does not hold of may be passed
  pub many_past : (t : List ℕ) (n : ℕ) → n ≤ length t → ((j : ℕ) → j < n → test (at t j) ≡ false) → how_many test (drop n t) ≡ how_many test t
  unfolding how_many
  many_past t zero h none = refl
  many_past [] (suc n) h none = absurd (not-suc-le-zero h)
  many_past (x ∷ t) (suc n) h none =
      many_past t n (le_of_suc-le-suc h) (λ j l. none (suc j) (omega arith)) ∙ sym (rw (none 0 (omega arith)) (zero-add (how_many test t)))

  -- past the end nothing is left
  pub many_end : (t : List ℕ) (i : ℕ) → length t ≤ i → how_many test (drop i t) ≡ 0
  unfolding how_many
  many_end t i h = ap (how_many test) (drop_of_length-le t h)

  pub many_none : (t : List ℕ) → ((j : ℕ) → j < length t → test (at t j) ≡ false) → how_many test t ≡ 0
  many_none t none = sym (many_past t (length t) (omega arith) none) ∙ many_end t (length t) (omega arith)

  -- and where it holds of none, it does not hold of any
  pub none_many : (t : List ℕ) → how_many test t ≡ 0 → (j : ℕ) → j < length t → test (at t j) ≡ false
  unfolding how_many
  none_many [] e j h = absurd (not-suc-le-zero h)
  none_many (x ∷ t) e j h = go (test x) refl e j h (none_many t)
    where
      go : (b : Bool) → test x ≡ b → cond b 1 0 + how_many test t ≡ 0 → (j : ℕ) → j < suc (length t)
          → (how_many test t ≡ 0 → (i : ℕ) → i < length t → test (at t i) ≡ false) → test (at (x ∷ t) j) ≡ false
      go true q z j l ih = absurd (omega (arith, z))
      go false q z zero l ih = q
      go false q z (suc i) l ih = ih (omega (arith, z)) i (le_of_suc-le-suc l)

-- two tests that agree on a list's entries
pub many_same : (f g : ℕ → Bool) (t : List ℕ) → ((j : ℕ) → j < length t → f (at t j) ≡ g (at t j)) → how_many f t ≡ how_many g t
unfolding how_many
many_same f g [] h = refl
many_same f g (x ∷ t) h = ap₂ (λ (b : Bool) (n : ℕ). cond b 1 0 + n) (h 0 (omega arith)) (many_same f g t (λ j l. h (suc j) (omega arith)))
