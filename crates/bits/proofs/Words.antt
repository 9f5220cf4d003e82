-- Laws of bits and words.
use mathlib.Core.Path.{◌≡◌, refl, sym, ap, ap₂, ◌∙◌}
use Prim.Native.Nat.{ℕ, zero, suc, ◌+◌, ◌-◌, ◌*◌, ◌/◌, ◌%◌, ◌^◌, ◌≤◌, ◌<◌}
use native.Mathlib.Nat.{add-zero, add-suc, add_assoc, zero-add, mul-one, mul_assoc, mul_comm, pow-zero, pow-suc, mod-lt, mod-one, div-one, zero-lt-suc, div-add-mod}
use native.Mathlib.Numerals.{add-one}
use native.Mathlib.Omega.{arith}
use lib.Arith.{digits_div, digits_mod}
use lib.Pow.{shr-shr, mod-pow-add, high, low}
use Rattle.bits.specs.Streams.{bit_at, word}

-- a word of m + n bits is a word of m bits and then a word of n
pub word-add : (s : ℕ → ℕ) (k m n : ℕ) → word s k (m + n) ≡ word s k m * 2 ^ n + word s (k + m) n
unfolding word
word-add s k m zero = rw (add-zero, pow-zero 2, mul-one) (sym (add-zero (word s k m)))
word-add s k m (suc n) =
    rw (add-suc m n, pow-suc 2 n, ← mul_assoc (word s k m) (2 ^ n) 2, add_assoc k m n)
    (omega (arith, word-add s k m n))

pub word_lt : (s : ℕ → ℕ) → ((i : ℕ) → s i < 2) → (k n : ℕ) → word s k n < 2 ^ n
unfolding word
word_lt s h k zero = rw (pow-zero 2) (zero-lt-suc 0)
word_lt s h k (suc n) = rw (pow-suc 2 n) (omega (arith, word_lt s h k n, h (k + n)))

-- a word depends on its own bits alone
pub word_ext : (s t : ℕ → ℕ) (k l n : ℕ) → ((i : ℕ) → i < n → s (k + i) ≡ t (l + i)) → word s k n ≡ word t l n
unfolding word
word_ext s t k l zero h = refl
word_ext s t k l (suc n) h = ap₂ (λ (x y : ℕ). x * 2 + y) (word_ext s t k l n (λ i m. h i (omega arith))) (h n (omega arith))

pub bit_lt : (w : ℕ) (f : ℕ → ℕ) (k : ℕ) → bit_at w f k < 2
unfolding bit_at
bit_lt w f k = mod-lt _ (omega arith)

-- a bit depends on its own digit alone
pub bit_cong : (w : ℕ) (f g : ℕ → ℕ) (k : ℕ) → f (k / w) ≡ g (k / w) → bit_at w f k ≡ bit_at w g k
unfolding bit_at
bit_cong w f g k e = ap (λ (x : ℕ). x / 2 ^ (w - 1 - k % w) % 2) e

-- bit t of digit i
pub bit_at_lem : (w : ℕ) (f : ℕ → ℕ) (i t : ℕ) → t < w → bit_at w f (i * w + t) ≡ f i / 2 ^ (w - 1 - t) % 2
unfolding bit_at
bit_at_lem w f i t h = rw (digits_div i h, digits_mod i h)

-- the t high bits of digit i
pub word_digit : (w : ℕ) (f : ℕ → ℕ) (i t : ℕ) → t ≤ w → word (bit_at w f) (i * w) t ≡ f i / 2 ^ (w - t) % 2 ^ t
unfolding word
word_digit w f i zero h = sym (rw (pow-zero 2) (mod-one (f i / 2 ^ (w - 0))))
word_digit w f i (suc t) h =
    let e : ℕ = w - suc t in
    let up : w - t ≡ e + 1 = omega arith in
    let dn : w - 1 - t ≡ e = omega arith in
    ap₂ (λ (x y : ℕ). x * 2 + y) (word_digit w f i t (omega arith)) (bit_at_lem w f i t h)
    ∙ ap₂ (λ (u v : ℕ). f i / 2 ^ u % 2 ^ t * 2 + f i / 2 ^ v % 2) up dn
    ∙ ap (λ (x : ℕ). x % 2 ^ t * 2 + f i / 2 ^ e % 2) (sym (shr-shr (f i) e 1))
    ∙ sym (mod-pow-add (f i / 2 ^ e) t 1)
    ∙ ap (λ (m : ℕ). f i / 2 ^ e % 2 ^ m) (add-one t)

-- a whole digit
pub word-whole : (w : ℕ) (f : ℕ → ℕ) (i : ℕ) → word (bit_at w f) (i * w) w ≡ f i % 2 ^ w
word-whole w f i =
    let none : w - w ≡ 0 = omega arith in
    word_digit w f i w (omega arith)
    ∙ ap (λ (x : ℕ). f i / 2 ^ x % 2 ^ w) none
    ∙ ap (λ (x : ℕ). x % 2 ^ w) (ap (λ (x : ℕ). f i / x) (pow-zero 2) ∙ div-one (f i))

-- the two parts of a word, by shift and by mask
module _ (s : ℕ → ℕ) (bits : (i : ℕ) → s i < 2) where
  pub word_high : (k m n : ℕ) → word s k (m + n) / 2 ^ n ≡ word s k m
  word_high k m n = rw (word-add s k m n) (high (word s k m) n (word_lt s bits (k + m) n))

  pub word_low : (k m n : ℕ) → word s k (m + n) % 2 ^ n ≡ word s (k + m) n
  word_low k m n = rw (word-add s k m n) (low (word s k m) n (word_lt s bits (k + m) n))

  -- one bit of a word
  pub word_bit : (k n t : ℕ) → t < n → word s k n / 2 ^ (n - 1 - t) % 2 ≡ s (k + t)
  unfolding word
  word_bit k n t h =
      let e : ℕ = n - 1 - t in
      let eq : n ≡ suc t + e = omega arith in
      ap (λ (x : ℕ). word s k x / 2 ^ e % 2) eq
      ∙ ap (λ (x : ℕ). x % 2) (word_high k (suc t) e)
      ∙ digits_mod (word s k t) (bits (k + t))

  -- cut into digits, the stream has the bits that it had
  pub cut-bits : (w k : ℕ) → 0 < w → bit_at w (λ j. word s (0 + j * w) w) k ≡ s k
  unfolding bit_at
  cut-bits w k h =
      let whole : 0 + k / w * w + k % w ≡ k = rw (zero-add (k / w * w), mul_comm (k / w) w) (div-add-mod k w) in
      word_bit (0 + k / w * w) w (k % w) (mod-lt k h) ∙ ap s whole

-- a bit depends on its digit's low bits alone
pub bit_low : (w : ℕ) → 0 < w → (f g : ℕ → ℕ) (k : ℕ) → f (k / w) % 2 ^ w ≡ g (k / w) % 2 ^ w → bit_at w f k ≡ bit_at w g k
bit_low w h f g k e = of f ∙ ap (λ (x : ℕ). x / 2 ^ (w - 1 - k % w) % 2) e ∙ sym (of g)
  where
    of : (d : ℕ → ℕ) → bit_at w d k ≡ d (k / w) % 2 ^ w / 2 ^ (w - 1 - k % w) % 2
    of d =
        let whole : k / w * w + k % w ≡ k = rw (mul_comm (k / w) w) (div-add-mod k w) in
        ap (bit_at w d) (sym whole)
        ∙ sym (word_bit (bit_at w d) (bit_lt w d) (k / w * w) w (k % w) (mod-lt k h))
        ∙ ap (λ (x : ℕ). x / 2 ^ (w - 1 - k % w) % 2) (word-whole w d (k / w))
