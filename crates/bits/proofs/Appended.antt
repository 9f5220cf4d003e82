-- Laws of appended digits: where their bits stand, the bits at hand behind a prefix, and parts of what is cut.
use mathlib.Core.Path.{◌≡◌, sym, ap, ◌∙◌}
use mathlib.Core.List.{List, ◌++◌}
use Prim.Native.Nat.{ℕ, suc, ◌+◌, ◌-◌, ◌*◌, ◌/◌, ◌≤◌, ◌<◌}
use native.Mathlib.Nat.{div-lt_iff_lt-mul, mul-add-div_right, mul-add-mod_self_right, add-mul, add_assoc, mul-le-mul_right, suc-mul, zero-add}
use native.Mathlib.Decide.{dec_lt}
use native.Mathlib.Omega.{arith}
use borrow.Author.Tests.{lt-ltb, le-ltb}
use lib.ListN.{length, take, drop, get_or-append}
use lib.Seq.{get_or-append-add, take_at, drop_at}
use Rattle.bits.specs.Tables.{tabulate, at}
use Rattle.bits.specs.Streams.{bit_at, word, after, cut}
use Rattle.bits.specs.Packing.{at_hand}
use Rattle.bits.proofs.Tabulated.{length-tabulate, tabulate_ext, tabulate-add}
use Rattle.bits.proofs.Words.{word_ext, word_bit, bit_lt, bit_cong}

-- ---- what is cut

module _ (w : ℕ) (s : ℕ → ℕ) where
  pub length_cut : (k n : ℕ) → length (cut w s k n) ≡ n
  unfolding cut
  length_cut k n = length-tabulate n (λ i. word s (k + i * w) w)

  -- digits cut from equal bits are equal, wherever these stand
  pub cut_moved : (t : ℕ → ℕ) (k l n : ℕ) → ((i : ℕ) → i < n * w → s (k + i) ≡ t (l + i)) → cut w s k n ≡ cut w t l n
  unfolding cut
  cut_moved t k l n h =
      tabulate_ext n (λ i. word s (k + i * w) w) (λ i. word t (l + i * w) w)
      (λ i m.
      let up : suc i * w ≤ n * w = mul-le-mul_right w m in
      word_ext s t (k + i * w) (l + i * w) w
      (λ j q.
      let inside : i * w + j < n * w = omega (arith, up, suc-mul i w) in
      ap s (add_assoc k (i * w) j) ∙ h (i * w + j) inside ∙ ap t (sym (add_assoc l (i * w) j))))

  -- m digits, then n
  pub cut-add : (k m n : ℕ) → cut w s k (m + n) ≡ cut w s k m ++ cut w s (k + m * w) n
  unfolding cut
  cut-add k m n =
      tabulate-add m n (λ i. word s (k + i * w) w)
      ∙ ap (λ (l : List ℕ). tabulate m (λ i. word s (k + i * w) w) ++ l)
      (tabulate_ext n (λ i. word s (k + (m + i) * w) w) (λ i. word s (k + m * w + i * w) w)
      (λ i h. ap (λ (x : ℕ). word s x w) (ap (λ (x : ℕ). k + x) (add-mul m i w) ∙ sym (add_assoc k (m * w) (i * w)))))

  -- all but the first f digits, and the c behind the first f
  pub drop-cut : (f n : ℕ) → drop f (cut w s 0 (f + n)) ≡ cut w s (f * w) n
  drop-cut f n =
      ap (drop f) (cut-add 0 f n) ∙ drop_at (cut w s 0 f) (cut w s (0 + f * w) n) f (length_cut 0 f) ∙ ap (λ (x : ℕ). cut w s x n) (zero-add (f * w))

  pub part_cut : (f c n : ℕ) → f + c ≤ n → take c (drop f (cut w s 0 n)) ≡ cut w s (f * w) c
  part_cut f c n h =
      let spare : ℕ = n - (f + c) in
      let all : n ≡ f + (c + spare) = omega arith in
      ap (λ (x : ℕ). take c (drop f (cut w s 0 x))) all
      ∙ ap (take c) (drop-cut f (c + spare) ∙ cut-add (f * w) c spare)
      ∙ take_at (cut w s (f * w) c) (cut w s (f * w + c * w) spare) c (length_cut (f * w) c)

-- ---- bits of appended digits

module _ (b : ℕ) (some : 0 < b) (xs ys : List ℕ) where
  -- those of the first digits stand where they stood
  pub bits_left : (k : ℕ) → k < length xs * b → bit_at b (at (xs ++ ys)) k ≡ bit_at b (at xs) k
  bits_left k h = bit_cong b (at (xs ++ ys)) (at xs) k (get_or-append xs ys 0 (k / b) ((div-lt_iff_lt-mul some).1 h))

  -- those of the others behind them
  pub bits-right : (k : ℕ) → bit_at b (at (xs ++ ys)) (length xs * b + k) ≡ bit_at b (at ys) k
  unfolding bit_at
  bits-right k =
      rw (mul-add-div_right some (length xs) k, mul-add-mod_self_right (length xs) b k, get_or-append-add xs ys (k / b) 0)

  -- what pends of the first digits, past f whole bytes, and then the others: all bits from byte f on
  pub hand-append :
      (f p : ℕ) → length xs * b ≡ f * 8 + p → (i : ℕ) → at_hand p (word (bit_at b (at xs)) (f * 8) p) b ys i ≡ bit_at b (at (xs ++ ys)) (f * 8 + i)
  unfolding at_hand after
  hand-append f p e i = go (dec_lt i p)
    where
      go : Dec (i < p) → after p (word (bit_at b (at xs)) (f * 8) p) (bit_at b (at ys)) i ≡ bit_at b (at (xs ++ ys)) (f * 8 + i)
      go (yes h) =
          rw (lt-ltb i p h) (word_bit (bit_at b (at xs)) (bit_lt b (at xs)) (f * 8) p i h ∙ sym (bits_left (f * 8 + i) (omega arith)))
      go (no h) =
          let place : length xs * b + (i - p) ≡ f * 8 + i = omega arith in
          rw (le-ltb i p (omega arith)) (sym (bits-right (i - p)) ∙ ap (bit_at b (at (xs ++ ys))) place)
