-- `greatest` is the largest number that passes a test.
use mathlib.Core.Path.{◌≡◌, refl, sym, ap, ◌∙◌}
use mathlib.Core.Bool.{Bool, true, false, cond}
use mathlib.Core.Logic.{◌⊎◌, inl, inr}
use Prim.Native.Nat.{ℕ, zero, suc, ◌≤◌, ◌<◌}
use native.Mathlib.Decide.{dec_lt}
use native.Mathlib.Omega.{arith}
use Rattle.streaming.specs.Stream.{greatest}

-- n is the largest number up to m that passes, or 0 where none does
pub record Largest (test : ℕ → Bool) (m n : ℕ) : Type 0 where
  pub within : n ≤ m
  pub passes : (n ≡ 0) ⊎ (test n ≡ true)
  pub beyond : (i : ℕ) → n < i → i ≤ m → test i ≡ false

module _ (test : ℕ → Bool) where
  pub greatest_largest : (m : ℕ) → Largest test m (greatest test m)
  unfolding greatest
  greatest_largest zero = record { within = omega arith; passes = inl refl; beyond = λ i l h. absurd (omega arith) }
  greatest_largest (suc m) = go (test (suc m)) refl (greatest_largest m)
    where
      go : (b : Bool) → test (suc m) ≡ b → Largest test m (greatest test m) → Largest test (suc m) (cond b (suc m) (greatest test m))
      go true e r = record { within = omega arith; passes = inr e; beyond = λ i l h. absurd (omega arith) }
      go false e r = record { within = omega (arith, r.within); passes = r.passes; beyond = λ i l h. step i l h (dec_lt i (suc m)) }
        where
          step : (i : ℕ) → greatest test m < i → i ≤ suc m → Dec (i < suc m) → test i ≡ false
          step i l h (yes s) = r.beyond i l (omega arith)
          step i l h (no s) = let q : i ≡ suc m = omega arith in ap test q ∙ e

  -- none that passes is larger
  pub greatest-most : (m n : ℕ) → n ≤ m → test n ≡ true → n ≤ greatest test m
  greatest-most m n h e = go (dec_lt (greatest test m) n)
    where
      go : Dec (greatest test m < n) → n ≤ greatest test m
      go (yes l) =
          let z : true ≡ false = sym e ∙ (greatest_largest m).beyond n l h in
          let w : ◌≡◌ {A = ℕ} 0 1 = cc in
          absurd (omega arith)
      go (no l) = omega arith

  -- and it is the only one
  pub largest_greatest : (m n : ℕ) → Largest test m n → n ≡ greatest test m
  unfolding greatest
  largest_greatest zero n r = omega (arith, r.within)
  largest_greatest (suc m) n r = go (test (suc m)) refl (dec_lt n (suc m)) (λ q. largest_greatest m n q)
    where
      go : (b : Bool) → test (suc m) ≡ b → Dec (n < suc m) → (Largest test m n → n ≡ greatest test m) → n ≡ cond b (suc m) (greatest test m)
      go true e (yes s) ih = let z : true ≡ false = sym e ∙ r.beyond (suc m) s (omega arith) in absurd (differ z)
        where
          differ : true ≡ false → ⊥
          differ z = let q : ◌≡◌ {A = ℕ} 0 1 = cc in omega arith
      go true e (no s) ih = omega (arith, r.within)
      go false e (yes s) ih = ih (record { within = omega arith; passes = r.passes; beyond = λ i l h. r.beyond i l (omega arith) })
      go false e (no s) ih = last r.passes
        where
          last : (n ≡ 0) ⊎ (test n ≡ true) → n ≡ greatest test m
          last (inl z) = absurd (omega arith)
          last (inr t) =
              let q : n ≡ suc m = omega (arith, r.within) in
              let z : true ≡ false = sym t ∙ ap test q ∙ e in
              let w : ◌≡◌ {A = ℕ} 0 1 = cc in
              absurd (omega arith)
