-- The table of digits that a call lays out, from an alphabet's codes and by the choice to fold.
use mathlib.Core.Path.{◌≡◌, ◌∙◌}
use mathlib.Core.Bool.{Bool, cond, ◌&&◌}
use mathlib.Core.List.{List}
use mathlib.Core.Logic.{◌⊎◌, inl, inr}
use Prim.Native.Nat.{ℕ, ◌-◌, ◌^◌, ◌<◌, ◌≤◌}
use native.Mathlib.Omega.{arith}
use lib.ListN.{replicate}
use Rattle.bits.specs.Tables.{tabulate, at}
use Rattle.alphabet.specs.declared.kind.AlphabetType.{AlphabetType}
use Rattle.alphabet.specs.Symbols.{coding, canon, folds, coding_by}
use Rattle.alphabet.proofs.Laws.{Packed, Plain, shape}
use Rattle.alphabet.proofs.Calls.{codes_over}
use Rattle.packing.specs.Encode.{digit_of}

module _ (fold : Bool) (k : AlphabetType) where
  -- an alphabet that is narrower than a byte is packed
  pub narrow : (coding_by fold k).width < 8 → Packed (coding_by fold k)
  narrow h = go (shape fold k)
    where
      go : Packed (coding_by fold k) ⊎ Plain (coding_by fold k) → Packed (coding_by fold k)
      go (inl packed) = packed
      go (inr plain) = absurd (omega (arith, plain.eight))

  -- and another is plain
  pub wide : 8 ≤ (coding_by fold k).width → Plain (coding_by fold k)
  wide h = go (shape fold k)
    where
      go : Packed (coding_by fold k) ⊎ Plain (coding_by fold k) → Plain (coding_by fold k)
      go (inl packed) = absurd (omega (arith, packed.five))
      go (inr plain) = plain

-- an alphabet's codes, laid by the choice into a table of ones, are the digits that texts are packed by
pub digits_laid : (fold : Bool) (k : AlphabetType) (table : List ℕ) {after : List ℕ} → table ≡ replicate 256 (2 ^ (coding k).width - 1)
    → after ≡ tabulate 256 (λ v. cond ((coding_by fold k).member v) ((coding_by fold k).code v) (at table (canon (fold && folds k) v)))
    → after ≡ tabulate 256 (digit_of (coding_by fold k))
unfolding digit_of
digits_laid fold k table t e = e ∙ codes_over fold k (2 ^ (coding k).width - 1) table t
