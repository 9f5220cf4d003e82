-- Laws of the bits at hand: those that pend, then those of what is given.
use mathlib.Core.Path.{◌≡◌, refl, ap, ◌∙◌}
use mathlib.Core.Bool.{Bool, true, false, cond}
use mathlib.Core.List.{List}
use Prim.Native.Nat.{ℕ, zero, suc, ◌+◌, ◌-◌, ◌*◌, ◌/◌, ◌%◌, ◌^◌, ◌≤◌, ◌<◌}
use native.Mathlib.Nat.{mod-lt, mod-eq_of_lt, zero-mul, zero-add, add-zero, le-div_iff_mul-le, zero-div}
use native.Mathlib.Omega.{arith}
use borrow.Author.Tests.{lt-ltb, le-ltb}
use lib.Dec.{ltb}
use lib.ListN.{length, get_or-eq_default}
use Rattle.bits.specs.Tables.{at}
use Rattle.bits.specs.Streams.{bit_at, word, after, cut}
use Rattle.bits.specs.Packing.{at_hand}
use Rattle.bits.proofs.Tabulated.{tabulate_ext}
use Rattle.bits.proofs.Words.{word-add, word_ext, word-whole, bit_lt}

le_div : {w : ℕ} → 0 < w → (n k : ℕ) → n * w ≤ k → n ≤ k / w
le_div some n k h = (le-div_iff_mul-le some).1 h

module _ (p a : ℕ) (s : ℕ → ℕ) where
  pub after_lt : ((i : ℕ) → s i < 2) → (k : ℕ) → after p a s k < 2
  unfolding after
  after_lt bits k = go (ltb k p)
    where
      go : (b : Bool) → cond b (a / 2 ^ (p - 1 - k) % 2) (s (k - p)) < 2
      go true = mod-lt (a / 2 ^ (p - 1 - k)) (omega arith)
      go false = bits (k - p)

  -- behind the p bits stand those of s
  pub after_tail : (k n : ℕ) → word (after p a s) (p + k) n ≡ word s k n
  unfolding after
  after_tail k n =
      word_ext (after p a s) s (p + k) k n
      (λ i h.
      let past : ltb (p + k + i) p ≡ false = le-ltb (p + k + i) p (omega arith) in
      let same : p + k + i - p ≡ k + i = omega arith in
      rw past (ap s same))

  -- the first p bits write a's low p bits
  pub after_head : word (after p a s) 0 p ≡ a % 2 ^ p
  unfolding after bit_at
  after_head =
      word_ext (after p a s) (bit_at p (λ i. a)) 0 (0 * p) p
      (λ i h.
      let here : ltb (0 + i) p ≡ true = lt-ltb (0 + i) p (omega arith) in
      let left : p - 1 - (0 + i) ≡ p - 1 - (0 * p + i) % p = rw (zero-mul p, zero-add i, mod-eq_of_lt h) in
      rw here (ap (λ (e : ℕ). a / 2 ^ e % 2) left))
      ∙ word-whole p (λ i. a) 0

-- ---- digits at hand

module _ (p a w : ℕ) (given : List ℕ) where
  pub hand_lt : (k : ℕ) → at_hand p a w given k < 2
  unfolding at_hand
  hand_lt k = after_lt p a (bit_at w (at given)) (bit_lt w (at given)) k

  pub hand_head : a < 2 ^ p → word (at_hand p a w given) 0 p ≡ a
  unfolding at_hand
  hand_head h = after_head p a (bit_at w (at given)) ∙ mod-eq_of_lt h

  -- digit i, by its low w bits
  pub hand_digit : (i : ℕ) → word (at_hand p a w given) (p + i * w) w ≡ at given i % 2 ^ w
  unfolding at_hand
  hand_digit i = after_tail p a (bit_at w (at given)) (i * w) w ∙ word-whole w (at given) i

  -- past the last digit stand zeros
  pub hand_zero : 0 < w → (k : ℕ) → p + length given * w ≤ k → at_hand p a w given k ≡ 0
  unfolding at_hand after bit_at
  hand_zero some k h =
      let past : ltb k p ≡ false = le-ltb k p (omega arith) in
      let none : at given ((k - p) / w) ≡ 0 = get_or-eq_default given 0 {n = (k - p) / w} (le_div some (length given) (k - p) (omega arith)) in
      rw (past, none, zero-div)

-- ---- zeros

pub word_zero : (s : ℕ → ℕ) (k n : ℕ) → ((i : ℕ) → i < n → s (k + i) ≡ 0) → word s k n ≡ 0
unfolding word
word_zero s k zero h = refl
word_zero s k (suc n) h = rw (word_zero s k n (λ i l. h i (omega arith)), h n (omega arith))

-- a byte of which q bits are given and the rest are zeros
pub word_pad : (s : ℕ → ℕ) (k q r : ℕ) → ((i : ℕ) → i < r → s (k + q + i) ≡ 0) → word s k (q + r) ≡ word s k q * 2 ^ r
word_pad s k q r h = word-add s k q r ∙ ap (λ (x : ℕ). word s k q * 2 ^ r + x) (word_zero s (k + q) r h) ∙ add-zero (word s k q * 2 ^ r)

-- nothing pends
pub hand-plain : (a w : ℕ) (given : List ℕ) (k : ℕ) → at_hand 0 a w given k ≡ bit_at w (at given) k
unfolding at_hand after
hand-plain a w given k = rw (le-ltb k 0 (omega arith)) (ap (bit_at w (at given)) (let e : k - 0 ≡ k = omega arith in e))

-- digits cut from equal bits are equal
pub cut_ext : (w : ℕ) (s t : ℕ → ℕ) (k n : ℕ) → ((i : ℕ) → s i ≡ t i) → cut w s k n ≡ cut w t k n
unfolding cut
cut_ext w s t k n h =
    tabulate_ext n (λ i. word s (k + i * w) w) (λ i. word t (k + i * w) w) (λ i l. word_ext s t (k + i * w) (k + i * w) w (λ j m. h (k + i * w + j)))
