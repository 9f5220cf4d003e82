-- A test that is computed at each number below n, and the rule that it gives.
use mathlib.Core.Path.{◌≡◌, refl, ◌∙◌, subst, sym}
use mathlib.Core.Bool.{Bool, true, false, cond, not, ◌&&◌, true≢false}
use Prim.Native.Nat.{ℕ, zero, suc, ◌+◌, ◌<◌}
use native.Mathlib.Nat.{add-zero, zero-add, add-suc, suc-add, le_of_suc-le-suc, not-suc-le-zero}
use lib.Dec.{T}

-- both of two tests
pub both_true : (a b : Bool) → a && b ≡ true → (a ≡ true) × (b ≡ true)
both_true true b e = (refl, e)
both_true false b e = absurd (true≢false (sym e))

pub both : (a b : Bool) → T (a && b) → T a × T b
both true b t = (tt, t)
both false b t = absurd t

-- two tests that answer alike
abbrev pub alike : Bool → Bool → Bool
alike a b = cond a b (not b)

pub are_alike : (a b : Bool) → T (alike a b) → a ≡ b
are_alike true true t = refl
are_alike true false t = absurd t
are_alike false true t = absurd t
are_alike false false t = refl

-- a test beside one that always passes, and beside one that never does
pub and_true : (a : Bool) → a && true ≡ a
and_true true = refl
and_true false = refl

pub and_false : (a : Bool) → a && false ≡ false
and_false true = refl
and_false false = refl

-- the test passes at the n numbers from i on
abbrev pub passes : (ℕ → Bool) → ℕ → ℕ → Bool
passes f i zero = true
passes f i (suc n) = f i && passes f (suc i) n

from : (f : ℕ → Bool) (n i : ℕ) → T (passes f i n) → (k : ℕ) → k < n → T (f (i + k))
from f zero i t k h = absurd (not-suc-le-zero h)
from f (suc n) i t zero h = subst (λ (m : ℕ). T (f m)) (sym (add-zero i)) (both (f i) (passes f (suc i) n) t).0
from f (suc n) i t (suc k) h =
    subst (λ (m : ℕ). T (f m)) (suc-add i k ∙ sym (add-suc i k)) (from f n (suc i) (both (f i) (passes f (suc i) n) t).1 k (le_of_suc-le-suc h))

pub below : (f : ℕ → Bool) (n : ℕ) → T (passes f 0 n) → (k : ℕ) → k < n → T (f k)
below f n t k h = subst (λ (m : ℕ). T (f m)) (zero-add k) (from f n 0 t k h)
