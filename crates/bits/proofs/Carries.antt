-- Carries over a width: which fields of a number have room for one more number is told of all of them by one sum.
use mathlib.Core.Path.{◌≡◌, sym, ap, ap₂, ◌∙◌}
use Prim.Native.Nat.{ℕ, zero, suc, ◌+◌, ◌-◌, ◌*◌, ◌/◌, ◌%◌, ◌^◌, ◌<◌}
use native.Mathlib.Nat.{add-zero, zero-mul, add-mul, suc-mul, one-mul, mod-lt, div-one, pow-zero, not-suc-le-zero, le_of_suc-le-suc}
use native.Mathlib.Decide.{dec_lt}
use native.Mathlib.Omega.{arith}
use lib.Bits.{bit_and, bit_xor, and_zero_r, and_block, xor_block, xor_lt, and_mod, xor_mod, block_odd}
use lib.Pow.{pow_pos, pow-lt, split, high, shr-shr}

-- d in each of n fields, b bits wide
abbrev pub in_each : ℕ → ℕ → ℕ → ℕ
in_each b d zero = 0
in_each b d (suc n) = in_each b d n * 2 ^ b + d

-- the bits that carries change in a sum
abbrev pub carried : ℕ → ℕ → ℕ
carried x y = bit_xor (bit_xor (x + y) x) y

-- a sum to which one is carried is changed in its lowest bit
one_carried : (x y : ℕ) → bit_xor (bit_xor (x + y + 1) x) y % 2 ≡ 1
one_carried x y =
    xor_mod (bit_xor (x + y + 1) x) y 1
    ∙ ap (λ (z : ℕ). bit_xor z (y % 2)) (xor_mod (x + y + 1) x 1)
    ∙ go (x % 2) (y % 2) ((x + y + 1) % 2) (mod-lt x (omega arith)) (mod-lt y (omega arith)) (omega arith)
  where
    go : (s t u : ℕ) → s < 2 → t < 2 → u ≡ (s + t + 1) % 2 → bit_xor (bit_xor u s) t ≡ 1
    go zero zero u h l e = ap (λ (z : ℕ). bit_xor (bit_xor z 0) 0) e
    go zero (suc zero) u h l e = ap (λ (z : ℕ). bit_xor (bit_xor z 0) 1) e
    go (suc zero) zero u h l e = ap (λ (z : ℕ). bit_xor (bit_xor z 1) 0) e
    go (suc zero) (suc zero) u h l e = ap (λ (z : ℕ). bit_xor (bit_xor z 1) 1) e
    go zero (suc (suc t)) u h l e = absurd (omega arith)
    go (suc zero) (suc (suc t)) u h l e = absurd (omega arith)
    go (suc (suc s)) t u h l e = absurd (omega arith)

-- no bit in common with what stands above the p lowest bits
above : (p z w m : ℕ) → w < 2 ^ p → bit_and (z * 2 ^ p + w) (m * 2 ^ p) ≡ 0 → bit_and z m ≡ 0
above p z w m h e =
    let none : bit_and z m * 2 ^ p + bit_and w 0 ≡ 0 =
    sym (ap (bit_and (z * 2 ^ p + w)) (sym (add-zero (m * 2 ^ p))) ∙ and_block p z m w 0 h (pow_pos p)) ∙ e in
    sym (high (bit_and z m) p (pow_pos p)) ∙ ap (λ (x : ℕ). x / 2 ^ p) (omega (arith, none)) ∙ high 0 p (pow_pos p)

-- fields of suc k bits, and a number d that fits one
module _ (k d : ℕ) (fits : d < 2 ^ suc k) where
  abbrev b : ℕ
  b = suc k

  -- the two parts of what a sum of x, given by its own two parts, changes
  parts : (x u l t : ℕ) → l < 2 ^ b
      → bit_xor (bit_xor (u * 2 ^ b + l) x) (t * 2 ^ b + d) ≡ bit_xor (bit_xor u (x / 2 ^ b)) t * 2 ^ b + bit_xor (bit_xor l (x % 2 ^ b)) d
  parts x u l t h =
      let low : x % 2 ^ b < 2 ^ b = mod-lt x (pow_pos b) in
      ap (λ (z : ℕ). bit_xor (bit_xor (u * 2 ^ b + l) z) (t * 2 ^ b + d)) (sym (split x b))
      ∙ ap (λ (z : ℕ). bit_xor z (t * 2 ^ b + d)) (xor_block b u (x / 2 ^ b) l (x % 2 ^ b) h low)
      ∙ xor_block b (bit_xor u (x / 2 ^ b)) t (bit_xor l (x % 2 ^ b)) d (xor_lt b l (x % 2 ^ b) h low) fits

  -- nor then without the lowest bit of the lowest one
  without : (z m : ℕ) → bit_and z (m * 2 ^ b + 1) ≡ 0 → bit_and z (m * 2 ^ b) ≡ 0
  without z m e =
      let low : z % 2 ^ b < 2 ^ b = mod-lt z (pow_pos b) in
      let some : bit_and z (m * 2 ^ b + 1) ≡ bit_and (z / 2 ^ b) m * 2 ^ b + bit_and (z % 2 ^ b) 1 =
      ap (λ (y : ℕ). bit_and y (m * 2 ^ b + 1)) (sym (split z b)) ∙ and_block b (z / 2 ^ b) m (z % 2 ^ b) 1 low (pow-lt {i = 0} {j = b} (omega arith)) in
      let none : bit_and z (m * 2 ^ b + 0) ≡ bit_and (z / 2 ^ b) m * 2 ^ b + bit_and (z % 2 ^ b) 0 =
      ap (λ (y : ℕ). bit_and y (m * 2 ^ b + 0)) (sym (split z b)) ∙ and_block b (z / 2 ^ b) m (z % 2 ^ b) 0 low (pow_pos b) in
      ap (bit_and z) (sym (add-zero (m * 2 ^ b))) ∙ none ∙ omega (arith, some, e, and_zero_r (z % 2 ^ b))

  -- where no carry comes to the lowest bit of a field, or to the bit behind the last one, d has room in each of n fields
  pub no_carry : (n x : ℕ) → bit_and (carried x (in_each b d n)) (in_each b 1 n * 2 ^ b) ≡ 0 → (i : ℕ) → i < n → x / 2 ^ (i * b) % 2 ^ b + d < 2 ^ b
  no_carry zero x e i h = absurd (not-suc-le-zero h)
  no_carry (suc n) x e i h = by_room (no_carry n (x / 2 ^ b)) (dec_lt (x % 2 ^ b + d) (2 ^ b)) i h
    where
      y : ℕ
      y = x / 2 ^ b

      c : ℕ
      c = x % 2 ^ b

      t : ℕ
      t = in_each b d n

      -- what the fields above the lowest one say
      rest : (u l : ℕ) → l < 2 ^ b → x + (t * 2 ^ b + d) ≡ u * 2 ^ b + l → bit_and (bit_xor (bit_xor u y) t) (in_each b 1 n * 2 ^ b + 1) ≡ 0
      rest u l small sum =
          above b (bit_xor (bit_xor u y) t) (bit_xor (bit_xor l c) d) (in_each b 1 n * 2 ^ b + 1)
          (xor_lt b (bit_xor l c) d (xor_lt b l c small (mod-lt x (pow_pos b))) fits)
          (ap (λ (z : ℕ). bit_and z ((in_each b 1 n * 2 ^ b + 1) * 2 ^ b))
          (sym (ap (λ (z : ℕ). bit_xor (bit_xor z x) (t * 2 ^ b + d)) sum ∙ parts x u l t small))
          ∙ e)

      next : (j : ℕ) → y / 2 ^ (j * b) ≡ x / 2 ^ (suc j * b)
      next j = shr-shr x b (j * b) ∙ ap (λ (m : ℕ). x / 2 ^ m) (omega (arith, suc-mul j b))

      -- from the fields above the lowest one
      by_room : (bit_and (carried y t) (in_each b 1 n * 2 ^ b) ≡ 0 → (j : ℕ) → j < n → y / 2 ^ (j * b) % 2 ^ b + d < 2 ^ b)
          → Dec (c + d < 2 ^ b) → (i : ℕ) → i < suc n → x / 2 ^ (i * b) % 2 ^ b + d < 2 ^ b
      by_room above-it (yes room) zero h = rw (zero-mul b, pow-zero 2, div-one x) room
      by_room above-it (yes room) (suc j) h =
          let sum : x + (t * 2 ^ b + d) ≡ (y + t) * 2 ^ b + (c + d) = omega (arith, split x b, add-mul y t (2 ^ b)) in
          rw (← next j) (above-it (without (carried y t) (in_each b 1 n) (rest (y + t) (c + d) room sum)) j (le_of_suc-le-suc h))
      by_room above-it (no full) i h =
          let sum : x + (t * 2 ^ b + d) ≡ (y + t + 1) * 2 ^ b + (c + d - 2 ^ b) =
          omega (arith, split x b, add-mul y t (2 ^ b), add-mul (y + t) 1 (2 ^ b), one-mul (2 ^ b)) in
          let none = rest (y + t + 1) (c + d - 2 ^ b) (omega (arith, mod-lt x (pow_pos b))) sum in
          let odd : bit_and (bit_xor (bit_xor (y + t + 1) y) t) (in_each b 1 n * 2 ^ b + 1) % 2 ≡ 1 =
          and_mod (bit_xor (bit_xor (y + t + 1) y) t) (in_each b 1 n * 2 ^ b + 1) 1
          ∙ ap₂ bit_and (one_carried y t) (block_odd (in_each b 1 n) k 1) in
          absurd (omega (arith, none, odd))

  -- the same of n fields above the p lowest bits, in whose sum nothing else changes
  pub no_carry_above : (p n x : ℕ) → bit_and (carried x (in_each b d n * 2 ^ p)) (in_each b 1 n * 2 ^ b * 2 ^ p) ≡ 0
      → (i : ℕ) → i < n → x / 2 ^ (p + i * b) % 2 ^ b + d < 2 ^ b
  no_carry_above p n x e i h =
      let y : ℕ = x / 2 ^ p in
      let l : ℕ = x % 2 ^ p in
      let t : ℕ = in_each b d n in
      let low : l < 2 ^ p = mod-lt x (pow_pos p) in
      let sum : x + t * 2 ^ p ≡ (y + t) * 2 ^ p + l = omega (arith, split x p, add-mul y t (2 ^ p)) in
      let parts : carried x (t * 2 ^ p) ≡ carried y t * 2 ^ p + bit_xor (bit_xor l l) 0 =
      ap₂ (λ (u v : ℕ). bit_xor (bit_xor u v) (t * 2 ^ p)) sum (sym (split x p))
      ∙ ap₂ bit_xor (xor_block p (y + t) y l l low low) (sym (add-zero (t * 2 ^ p)))
      ∙ xor_block p (bit_xor (y + t) y) t (bit_xor l l) 0 (xor_lt p l l low low) (pow_pos p) in
      let none : bit_and (carried y t) (in_each b 1 n * 2 ^ b) ≡ 0 =
      above p (carried y t) (bit_xor (bit_xor l l) 0) (in_each b 1 n * 2 ^ b) (xor_lt p (bit_xor l l) 0 (xor_lt p l l low low) (pow_pos p))
      (ap (λ (z : ℕ). bit_and z (in_each b 1 n * 2 ^ b * 2 ^ p)) (sym parts) ∙ e) in
      rw (← shr-shr x p (i * b)) (no_carry n y none i h)
