-- A word's bits by a variable count: what the functions of src/word answer for a count below 64.
use mathlib.Core.Path.{◌≡◌, ap, ap₂, ◌∙◌}
use Prim.Native.Nat.{ℕ, ◌+◌, ◌-◌, ◌*◌, ◌/◌, ◌%◌, ◌^◌, ◌≤◌, ◌<◌}
use native.Mathlib.Nat.{one-mul, add-zero, mod-eq_of_lt, mod-lt, mul-mod_left, lt_of_lt_of_le}
use native.Mathlib.Omega.{arith}
use lib.Pow.{pow_pos, pow_mono, shl_exact, shl-shr, shr_lt, mod-pow-add}

-- a bit shifted up
pub one_shl : (n : ℕ) → n < 64 → 1 * 2 ^ n % 2 ^ 64 ≡ 2 ^ n
one_shl n h = shl_exact 1 n 64 (omega arith) (omega arith) ∙ one-mul (2 ^ n)

-- a shift keeps the bits that have a place in a word
pub shl_part : (x n : ℕ) → n < 64 → x * 2 ^ n % 2 ^ 64 ≡ x % 2 ^ (64 - n) * 2 ^ n
shl_part x n h =
    let parts : 64 ≡ 64 - n + n = omega arith in
    ap (λ (k : ℕ). x * 2 ^ n % 2 ^ k) parts
    ∙ mod-pow-add (x * 2 ^ n) (64 - n) n
    ∙ ap₂ (λ (y z : ℕ). y % 2 ^ (64 - n) * 2 ^ n + z) (shl-shr x n) (mul-mod_left x (2 ^ n))
    ∙ add-zero (x % 2 ^ (64 - n) * 2 ^ n)

-- `push_byte`, where nothing falls out
pub push_byte_is : (x byte : ℕ) → x < 2 ^ 56 → x % 2 ^ 56 * 256 + byte ≡ x * 2 ^ 8 + byte
push_byte_is x byte h = ap (λ (y : ℕ). y * 256 + byte) (mod-eq_of_lt h)

-- ---- a count below 64 is itself

module _ {n : ℕ} (h : n < 64) where
  pub power_is : 2 ^ (n % 64) ≡ 2 ^ n
  power_is = ap (λ (k : ℕ). 2 ^ k) (mod-eq_of_lt h)

  pub low_is : (x : ℕ) → x % 2 ^ (n % 64) ≡ x % 2 ^ n
  low_is x = ap (λ (m : ℕ). x % m) power_is

  -- `push`, where nothing falls out
  pub push_is : (x y : ℕ) → x * 2 ^ n < 2 ^ 64 → x * 2 ^ (n % 64) % 2 ^ 64 + y % 2 ^ (n % 64) ≡ x * 2 ^ n + y % 2 ^ n
  push_is x y room = ap₂ (λ (m l : ℕ). m + l) (ap (λ (m : ℕ). x * m % 2 ^ 64) power_is ∙ mod-eq_of_lt room) (low_is y)

  pub byte_is : (x : ℕ) → x / 2 ^ (n % 64) % 256 ≡ x / 2 ^ n % 256
  byte_is x = ap (λ (m : ℕ). x / m % 256) power_is

  -- `byte_at`, where at most eight bits stand above the n low ones
  pub top_is : (x : ℕ) → x < 2 ^ (8 + n) → x / 2 ^ (n % 64) % 256 ≡ x / 2 ^ n
  top_is x few = byte_is x ∙ mod-eq_of_lt (shr_lt 8 n few)

  pub field_is : {b : ℕ} → b < 64 → (x : ℕ) → x / 2 ^ (n % 64) % 2 ^ (b % 64) ≡ x / 2 ^ n % 2 ^ b
  field_is l x = ap₂ (λ (m k : ℕ). x / m % 2 ^ k) power_is (mod-eq_of_lt l)

-- n bits write a number below 2 ^ n, and below 2 ^ m where n is at most m
pub low_lt : (x n : ℕ) → x % 2 ^ n < 2 ^ n
low_lt x n = mod-lt x (pow_pos n)

pub low_under : (x n m : ℕ) → n ≤ m → x % 2 ^ n < 2 ^ m
low_under x n m h = lt_of_lt_of_le (low_lt x n) (pow_mono h)

-- a code of at most five bits is an index into a table of 32 entries
pub code_lt : (x b : ℕ) → b ≤ 5 → x % 2 ^ b < 32
code_lt x b h = low_under x b 5 h
