-- One law for each thing that the stream's loops do with the bits at hand.
use mathlib.Core.Path.{◌≡◌, refl, sym, ap, ap₂, ◌∙◌}
use mathlib.Core.Bool.{Bool, true}
use mathlib.Core.List.{List, ◌++◌}
use mathlib.Core.Logic.{inr}
use Prim.Native.Nat.{ℕ, ◌+◌, ◌-◌, ◌*◌, ◌/◌, ◌%◌, ◌^◌, ◌≤◌, ◌<◌, min}
use native.Mathlib.Nat.{zero-mul, one-mul, add-mul, mul-le-mul_right, mod-eq_of_lt}
use native.Mathlib.Numerals.{add-one}
use native.Mathlib.Omega.{arith}
use borrow.Author.Tests.{le-leb, lt-leb}
use lib.Dec.{leb}
use lib.ListN.{length, drop, set}
use lib.Seq.{drop_at, drop-drop}
use Rattle.bits.specs.Tables.{tabulate, at}
use Rattle.bits.specs.Streams.{bit_at, word}
use Rattle.bits.proofs.Blocks.{word_field}
use Rattle.bits.proofs.Words.{word-add, word_lt, word_low}
use Rattle.bits.proofs.Tabulated.{length-tabulate, store}
use Rattle.streaming.specs.declared.decoder.StreamingDecoder.{StreamingDecoder}
use Rattle.streaming.specs.declared.decoder.Streamed.{Streamed}
use Rattle.streaming.specs.Stream.{reads_by, source_bits, used, takes, bases_of, status_for, moved, moved_by}
use Rattle.streaming.specs.Flow.{Level, base_at, filled, answered_by}
use Rattle.streaming.proofs.Hand.{hand_lt, hand_past, hand_push}
use Rattle.streaming.proofs.Greatest.{greatest-most, largest_greatest}

-- ---- the bits that bases use

module _ (s : StreamingDecoder) where
  pub used_none : used s 0 ≡ s.skip
  unfolding used
  used_none = omega (arith, zero-mul (reads_by s).width)

  pub used-add : (n m : ℕ) → used s (n + m) ≡ used s n + m * (reads_by s).width
  unfolding used
  used-add n m = omega (arith, add-mul n m (reads_by s).width)

  pub used_mono : (n m : ℕ) → n ≤ m → used s n ≤ used s m
  unfolding used
  used_mono n m h = omega (arith, mul-le-mul_right (reads_by s).width h)

  -- more bases take no fewer bytes
  pub takes_mono : (n m : ℕ) → n ≤ m → takes s n ≤ takes s m
  unfolding takes
  takes_mono n m h = omega (arith, used_mono n m h)

  pub source_lt : (source : List ℕ) (i : ℕ) → source_bits s source i < 2
  unfolding source_bits
  source_lt source i = hand_lt s.bits s.pending 8 source i

-- ---- a level

module _ {s : StreamingDecoder} {source : List ℕ} {acc have taken n : ℕ} (r : Level s source acc have taken n) where
  abbrev b : ℕ
  b = (reads_by s).width

  abbrev S : ℕ → ℕ
  S = source_bits s source

  pub level_lt : acc < 2 ^ have
  level_lt = rw r.held (word_lt S (source_lt s source) (used s n) have)

  -- the next byte is taken
  pub level_fill : taken < length source → (v : ℕ) → v ≡ at source taken → v < 256 → {acc' : ℕ} → acc' ≡ acc * 2 ^ 8 + v → Level s source acc' (have + 8) (taken + 1) n
  unfolding source_bits
  level_fill more v e small f =
      record {
        place = omega (arith, r.place);
        within = omega arith;
        held =
            f
            ∙ ap₂ (λ (x y : ℕ). x * 2 ^ 8 + y) r.held (sym (mod-eq_of_lt small) ∙ ap (λ (x : ℕ). x % 2 ^ 8) e)
            ∙ hand_push s.bits s.pending 8 source taken (used s n) have r.place;
      }

  -- m bytes are taken at once
  pub level_gather : (m : ℕ) → taken + m ≤ length source → {w : ℕ} → w ≡ acc * 2 ^ (m * 8) + word (bit_at 8 (at source)) (taken * 8) (m * 8)
      → Level s source w (have + m * 8) (taken + m) n
  unfolding source_bits
  level_gather m fits f =
      record {
        place = omega (arith, r.place, add-mul taken m 8);
        within = fits;
        held =
            f
            ∙ ap₂ (λ (x y : ℕ). x * 2 ^ (m * 8) + y) r.held
            (sym (hand_past s.bits s.pending 8 source (taken * 8) (m * 8)) ∙ ap (λ (x : ℕ). word S x (m * 8)) (sym r.place))
            ∙ sym (word-add S (used s n) have (m * 8));
      }

  -- the code of base n + i
  pub level_field : (i : ℕ) → (i + 1) * b ≤ have → acc / 2 ^ (have - (i + 1) * b) % 2 ^ b ≡ word S (used s (n + i)) b
  level_field i fits =
      let left : ℕ = have - (i + 1) * b in
      let sum : have ≡ i * b + b + left = omega (arith, add-mul i 1 b, one-mul b) in
      ap (λ (x : ℕ). x / 2 ^ left % 2 ^ b) (r.held ∙ ap (word S (used s n)) sum)
      ∙ word_field S (source_lt s source) (used s n) (i * b) b left
      ∙ ap (λ (x : ℕ). word S x b) (sym (used-add s n i))

  -- m bases are cut off
  pub level-drop : (m : ℕ) → m * b ≤ have → {acc' : ℕ} → acc' ≡ acc % 2 ^ (have - m * b) → Level s source acc' (have - m * b) taken (n + m)
  level-drop m fits e =
      let left : ℕ = have - m * b in
      let sum : have ≡ m * b + left = omega arith in
      record {
        place = omega (arith, r.place, used-add s n m);
        within = r.within;
        held =
            e
            ∙ ap (λ (x : ℕ). x % 2 ^ left) (r.held ∙ ap (word S (used s n)) sum)
            ∙ word_low S (source_lt s source) (used s n) (m * b) left
            ∙ ap (λ (x : ℕ). word S x left) (sym (used-add s n m));
      }

  -- ---- the end of a call

  pub level-takes : have < 8 → taken ≡ takes s n
  unfolding takes
  level-takes few = omega (arith, r.place)

  pub level_have : have < 8 → have ≡ s.bits + takes s n * 8 - used s n
  level_have few = omega (arith, r.place, level-takes few)

  pub level_acc : have < 8 → acc ≡ word S (used s n) (s.bits + takes s n * 8 - used s n)
  level_acc few = r.held ∙ ap (word S (used s n)) (level_have few)

  -- the answer, given with the memory's length under another name
  pub level_answer : {r : Streamed} {length' : ℕ} (room : ℕ) → have < 8 → n ≡ bases_of s source room → r ≡ answered_by s acc have taken n length' → length' ≡ room
      → r ≡ moved_by s source room (bases_of s source room)
  unfolding answered_by moved_by moved
  level_answer {r = answer} room few e f g =
      f
      ∙ ap (answered_by s acc have taken n) g
      ∙ (λ i.
      record {
        taken = level-takes few i;
        written = n;
        status = status_for (s.budget - n) (room - n);
        next = record { alphabet = s.alphabet; skip = 0; budget = s.budget - n; bits = level_have few i; pending = level_acc few i };
      })
      ∙ ap (moved_by s source room) e

  test : ℕ → Bool
  test m = leb (takes s m) (length source)

  here : have < 8 → test n ≡ true
  unfolding test
  here few = le-leb (takes s n) (length source) (omega (arith, r.within, level-takes few))

  -- bases that are written are some of those that the call writes
  pub level-most : (room : ℕ) → have < 8 → n ≤ min s.budget room → n ≤ bases_of s source room
  unfolding bases_of test
  level-most room few h = greatest-most test (min s.budget room) n h (here few)

  -- the count is the greatest: all that budget and space allow
  pub level_all : (room : ℕ) → have < 8 → n ≡ min s.budget room → n ≡ bases_of s source room
  unfolding bases_of test
  level_all room few e =
      largest_greatest test (min s.budget room) n (record { within = omega arith; passes = inr (here few); beyond = λ i l h. absurd (omega arith) })

  -- or all that the source has bits for
  pub level_dry : (room : ℕ) → s.bits < 8 → have < 8 → have < b → taken ≡ length source → n ≤ min s.budget room → n ≡ bases_of s source room
  unfolding bases_of test takes
  level_dry room small few short e h =
      largest_greatest test (min s.budget room) n
      (record {
        within = h;
        passes = inr (here few);
        beyond = λ i l m.
            let up : used s (n + 1) ≤ used s i = used_mono s (n + 1) i (omega arith) in
            lt-leb (takes s i) (length source) (omega (arith, up, used-add s n 1, one-mul b, r.place));
      })

-- the same level under other names
pub level_same : {s : StreamingDecoder} {source : List ℕ} {acc acc' have have' taken taken' n : ℕ} → Level s source acc have taken n → acc' ≡ acc → have' ≡ have
    → taken' ≡ taken → Level s source acc' have' taken' n
level_same r e f g = rw (e, f, g) r

-- ---- the memory

module _ (s : StreamingDecoder) (source : List ℕ) where
  abbrev base : ℕ → ℕ
  base = base_at s source

  pub fill_none : (out : List ℕ) → out ≡ filled s source 0 out
  unfolding filled tabulate
  fill_none out = refl

  -- one base more
  pub fill_more : (out out₀ : List ℕ) (n v : ℕ) → n < length out₀ → out ≡ filled s source n out₀ → v ≡ base_at s source n → set out n v ≡ filled s source (n + 1) out₀
  unfolding filled
  fill_more out out₀ n v h e f = rw (e, add-one n) (store n base out₀ v h f)

  -- bases written over fewer of them
  pub fill_over : (out₀ : List ℕ) (m n : ℕ) → m ≤ n → filled s source n (filled s source m out₀) ≡ filled s source n out₀
  unfolding filled
  fill_over out₀ m n h =
      let sum : n ≡ m + (n - m) = omega arith in
      let part : List ℕ = tabulate m base ++ drop m out₀ in
      ap (λ (l : List ℕ). tabulate n base ++ l)
      (ap (λ (k : ℕ). drop k part) sum
      ∙ sym (drop-drop (n - m) m part)
      ∙ ap (drop (n - m)) (drop_at (tabulate m base) (drop m out₀) m (length-tabulate m base))
      ∙ drop-drop (n - m) m out₀
      ∙ ap (λ (k : ℕ). drop k out₀) (sym sum))

  -- memory with bases written, told of itself
  pub fill_again : (out out₀ : List ℕ) (n : ℕ) → out ≡ filled s source n out₀ → out ≡ filled s source n out
  fill_again out out₀ n e = e ∙ sym (fill_over out₀ n n (omega arith)) ∙ ap (filled s source n) (sym e)
