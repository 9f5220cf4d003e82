-- The skip for a window, whose source begins with the first byte of the window's range: q is the remainder of start · b by 8.
use mathlib.Core.Path.{◌≡◌}
use Prim.Native.Nat.{ℕ, ◌+◌, ◌*◌, ◌%◌, ◌<◌}
use native.Mathlib.Nat.{add-mul}
use native.Mathlib.Omega.{arith}
use Rattle.bits.specs.Packing.{first_byte}

module _ (b start : ℕ) where
  -- it is one that a stream starts with
  pub skip_small : start * b % 8 < 8
  skip_small = omega arith

  -- base i of the stream stands where base start + i of the file does
  pub skip_place : (i : ℕ) → first_byte b start * 8 + (start * b % 8 + i * b) ≡ (start + i) * b
  skip_place i = omega (arith, add-mul start i b)

  -- and with no other skip does the first stand there
  pub skip_only : (q : ℕ) → first_byte b start * 8 + q ≡ start * b → q ≡ start * b % 8
  skip_only q e = omega arith
