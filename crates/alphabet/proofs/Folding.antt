-- Laws of folding one byte: the byte that it stands for, and how a base is told.
use Rattle.std.proofs.Common.{◌≡◌, ℕ, ◌-◌, ◌<◌, ◌≤◌, Bool, true, false, cond, ◌||◌, eqb, ltb, leb, sym, refl, ap, ◌∙◌, arith, lt-ltb, le-leb, leb-true}
use lib.Bits.{bit_and, and_mask}
use Rattle.bits.proofs.Computed.{below, alike, are_alike}
use Rattle.alphabet.specs.Symbols.{lowercase, upper, canon}
use Rattle.alphabet.specs.Bases.{base}

-- ---- a byte

-- a lowercase letter stands 32 above its uppercase letter; any other byte stays
pub data Upper (v : ℕ) : Type 0 where
  letter : 0x61 ≤ v → v ≤ 0x7a → upper v ≡ v - 0x20 → Upper v
  other : lowercase v ≡ false → upper v ≡ v → Upper v

pub upper_of : (v : ℕ) → Upper v
unfolding upper
upper_of v = go (leb 0x61 v) refl (leb v 0x7a) refl
  where
    go : (a : Bool) → leb 0x61 v ≡ a → (b : Bool) → leb v 0x7a ≡ b → Upper v
    go true p true q = letter (leb-true 0x61 v p) (leb-true v 0x7a q) (simp (p, q))
    go true p false q = other (simp (p, q)) (simp (p, q))
    go false p b q = other (simp p) (simp p)

-- below 61, and above 7A
pub upper_below : (v : ℕ) → v < 0x61 → upper v ≡ v
upper_below v h = go (upper_of v)
  where
    go : Upper v → upper v ≡ v
    go (letter a b e) = absurd (omega arith)
    go (other a e) = e

pub upper_above : (v : ℕ) → 0x7a < v → upper v ≡ v
upper_above v h = go (upper_of v)
  where
    go : Upper v → upper v ≡ v
    go (letter a b e) = absurd (omega arith)
    go (other a e) = e

pub upper_between : (v : ℕ) → 0x61 ≤ v → v ≤ 0x7a → upper v ≡ v - 0x20
unfolding upper
upper_between v h l = simp (le-leb 0x61 v h, le-leb v 0x7a l)

-- bytes stay bytes
pub upper_lt : (v : ℕ) → v < 256 → upper v < 256
upper_lt v h = go (upper_of v)
  where
    go : Upper v → upper v < 256
    go (letter a b e) = omega arith
    go (other a e) = omega arith

pub lt_upper : (v : ℕ) → upper v < 256 → v < 256
lt_upper v h = go (upper_of v)
  where
    go : Upper v → v < 256
    go (letter a b e) = omega arith
    go (other a e) = omega arith

pub upper_below_256 : (v : ℕ) → ltb (upper v) 256 ≡ ltb v 256
upper_below_256 v = go (upper_of v)
  where
    go : Upper v → ltb (upper v) 256 ≡ ltb v 256
    go (letter a b e) = lt-ltb (upper v) 256 (omega arith) ∙ sym (lt-ltb v 256 (omega arith))
    go (other a e) = ap (λ (x : ℕ). ltb x 256) e

-- twice is once
pub upper-upper : (v : ℕ) → upper (upper v) ≡ upper v
upper-upper v = go (upper_of v)
  where
    go : Upper v → upper (upper v) ≡ upper v
    go (letter a b e) = upper_below (upper v) (omega arith)
    go (other a e) = ap upper e

module _ (fold : Bool) where
  pub canon_lt : (v : ℕ) → v < 256 → canon fold v < 256
  canon_lt v h = go fold
    where
      go : (f : Bool) → canon f v < 256
      go true = upper_lt v h
      go false = h

  pub lt_canon : (v : ℕ) → canon fold v < 256 → v < 256
  lt_canon v h = go fold h
    where
      go : (f : Bool) → canon f v < 256 → v < 256
      go true h = lt_upper v h
      go false h = h

  pub canon-canon : (v : ℕ) → canon fold (canon fold v) ≡ canon fold v
  canon-canon v = go fold
    where
      go : (f : Bool) → canon f (canon f v) ≡ canon f v
      go true = upper-upper v
      go false = refl

-- ---- a base, told by all bits but the one in which the two cases differ

abbrev same_base : ℕ → Bool
unfolding upper
same_base v = alike (base (bit_and v 0xdf)) (base (upper v))

-- A and C are told by one comparison
abbrev told_base : ℕ → Bool
told_base v = (eqb (bit_and v 0xfd) 65 || eqb v 71) || eqb v 84

abbrev same_told : ℕ → Bool
same_told v = alike (told_base v) (base v)

pub base_told : (v : ℕ) → v < 256 → told_base v ≡ base v
base_told v h = are_alike (told_base v) (base v) (below same_told 256 tt v h)

pub base_bits : (fold : Bool) (v : ℕ) → v < 256 → base (bit_and v (cond fold 0xdf 0xff)) ≡ base (canon fold v)
unfolding upper
base_bits true v h = are_alike (base (bit_and v 0xdf)) (base (upper v)) (below same_base 256 tt v h)
base_bits false v h = let e : bit_and v 0xff ≡ v = and_mask v 8 ∙ omega arith in ap base e
