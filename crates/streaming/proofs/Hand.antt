-- Laws of `after` and `at_hand`: bits that pend, and then those of what a call is given.
use mathlib.Core.Path.{◌≡◌, sym, ap, ◌∙◌}
use mathlib.Core.Bool.{Bool, true, false, cond}
use mathlib.Core.List.{List}
use Prim.Native.Nat.{ℕ, ◌+◌, ◌-◌, ◌*◌, ◌/◌, ◌%◌, ◌^◌, ◌<◌}
use native.Mathlib.Nat.{zero-add, add_assoc, mod-lt, mod-eq_of_lt}
use native.Mathlib.Omega.{arith}
use borrow.Author.Tests.{lt-ltb, le-ltb}
use lib.Dec.{ltb}
use Rattle.bits.specs.Tables.{at}
use Rattle.bits.specs.Streams.{bit_at, word, after}
use Rattle.bits.specs.Packing.{at_hand}
use Rattle.bits.proofs.Words.{word-add, word_ext, word-whole, bit_lt, bit_at_lem}

-- ---- any stream behind a number

module _ (p a : ℕ) (s : ℕ → ℕ) where
  pub after_lt : ((i : ℕ) → s i < 2) → (k : ℕ) → after p a s k < 2
  unfolding after
  after_lt h k = go (ltb k p)
    where
      go : (t : Bool) → cond t (a / 2 ^ (p - 1 - k) % 2) (s (k - p)) < 2
      go true = mod-lt _ (omega arith)
      go false = h (k - p)

  pub after_in : (k : ℕ) → k < p → after p a s k ≡ a / 2 ^ (p - 1 - k) % 2
  unfolding after
  after_in k h = rw (lt-ltb k p h)

  pub after_past : (k : ℕ) → after p a s (p + k) ≡ s k
  unfolding after
  after_past k =
      let e : p + k - p ≡ k = omega arith in
      rw (le-ltb (p + k) p (omega arith)) (ap s e)

  -- the first p bits write a
  pub word_head : a < 2 ^ p → word (after p a s) 0 p ≡ a
  word_head h =
      word_ext (after p a s) (bit_at p (λ _. a)) 0 (0 * p) p
      (λ i m. ap (after p a s) (zero-add i) ∙ after_in i m ∙ sym (bit_at_lem p (λ _. a) 0 i m))
      ∙ word-whole p (λ _. a) 0
      ∙ mod-eq_of_lt h

  -- and the rest is s
  pub word_past : (k n : ℕ) → word (after p a s) (p + k) n ≡ word s k n
  word_past k n = word_ext (after p a s) s (p + k) k n (λ i m. ap (after p a s) (add_assoc p k i) ∙ after_past (k + i))

-- ---- the bits at hand

module _ (p a w : ℕ) (given : List ℕ) where
  pub hand_lt : (k : ℕ) → at_hand p a w given k < 2
  unfolding at_hand
  hand_lt k = after_lt p a (bit_at w (at given)) (bit_lt w (at given)) k

  -- those that pend
  pub hand_head : a < 2 ^ p → word (at_hand p a w given) 0 p ≡ a
  unfolding at_hand
  hand_head h = word_head p a (bit_at w (at given)) h

  -- those of what is given, from its bit k on
  pub hand_past : (k n : ℕ) → word (at_hand p a w given) (p + k) n ≡ word (bit_at w (at given)) k n
  unfolding at_hand
  hand_past k n = word_past p a (bit_at w (at given)) k n

  -- a word up to digit i, and that digit behind it
  pub hand_push : (i k n : ℕ) → k + n ≡ p + i * w → word (at_hand p a w given) k n * 2 ^ w + at given i % 2 ^ w ≡ word (at_hand p a w given) k (n + w)
  hand_push i k n e =
      sym
      (word-add (at_hand p a w given) k n w
      ∙ ap (λ (x : ℕ). word (at_hand p a w given) k n * 2 ^ w + x)
      (ap (λ (x : ℕ). word (at_hand p a w given) x w) e ∙ hand_past (i * w) w ∙ word-whole w (at given) i))
