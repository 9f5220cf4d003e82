-- The bases of a call: the largest number, as document 01 says, and its closed form.
use mathlib.Core.Path.{◌≡◌, sym}
use mathlib.Core.Bool.{Bool, true, false, ◌||◌}
use mathlib.Core.List.{List}
use mathlib.Core.Logic.{◌⊎◌, inl, inr}
use Prim.Native.Nat.{ℕ, ◌+◌, ◌-◌, ◌*◌, ◌/◌, ◌≤◌, ◌<◌, min}
use native.Mathlib.Nat.{le-div_iff_mul-le, one-mul}
use native.Mathlib.Decide.{dec_lt}
use native.Mathlib.Omega.{arith}
use borrow.Author.Tests.{leb-true, leb-false, eqb-true, ltb-true}
use lib.Dec.{leb, eqb, ltb}
use lib.ListN.{length}
use Rattle.alphabet.proofs.Laws.{lawful}
use Rattle.bits.proofs.Words.{word_lt}
use Rattle.streaming.specs.declared.decoder.StreamingDecoder.{StreamingDecoder}
use Rattle.streaming.specs.Stream.{reads_by, sound_stream, source_bits, used, takes, bases_of, moved}
use Rattle.streaming.proofs.Greatest.{Largest, greatest_largest}
use Rattle.streaming.proofs.Levels.{used_none, used-add, source_lt}
use Rattle.streaming.proofs.Calls.{sound_facts, sound_last, or_true}

-- n bases: no more than budget and space allow and the source's bytes suffice for, and no number that is larger
pub record Most (s : StreamingDecoder) (source : List ℕ) (room n : ℕ) : Type 0 where
  pub due : n ≤ s.budget
  pub fits : n ≤ room
  pub suffices : takes s n ≤ length source
  pub most : (m : ℕ) → m ≤ s.budget → m ≤ room → takes s m ≤ length source → m ≤ n

bits_short : (s : StreamingDecoder) (m : ℕ) (source : List ℕ) → length source < takes s m → (n : ℕ) → used s m ≡ used s n + 1 * (reads_by s).width
    → s.bits + length source * 8 < used s n + (reads_by s).width
unfolding takes
bits_short s m source l n e = omega (arith, e, one-mul (reads_by s).width)

takes_all : (s : StreamingDecoder) (n : ℕ) (source : List ℕ) → s.bits + length source * 8 < used s n + (reads_by s).width → takes s n ≤ length source
    → (reads_by s).width ≤ 8 → takes s n ≡ length source
unfolding takes
takes_all s n source l h w = omega arith

module _ (s : StreamingDecoder) (source : List ℕ) (room : ℕ) (sound : sound_stream s ≡ true) (begins : eqb s.skip 0 || ltb 0 (length source) ≡ true) where
  test : ℕ → Bool
  test n = leb (takes s n) (length source)

  bound : ℕ
  bound = min s.budget room

  largest : Largest test bound (bases_of s source room)
  unfolding bases_of test bound
  largest = greatest_largest test bound

  -- the skip's bits are at hand
  pub enough : s.skip ≤ s.bits + length source * 8
  enough = go (or_true (eqb s.skip 0) (ltb 0 (length source)) begins)
    where
      go : (eqb s.skip 0 ≡ true) ⊎ (ltb 0 (length source) ≡ true) → s.skip ≤ s.bits + length source * 8
      go (inl z) = omega (arith, eqb-true s.skip 0 z)
      go (inr z) = omega (arith, ltb-true 0 (length source) z, (sound_facts s sound).skips)

  pub none_suffices : takes s 0 ≤ length source
  unfolding takes
  none_suffices = omega (arith, used_none s, enough)

  -- the largest number
  pub bases_most : Most s source room (bases_of s source room)
  unfolding test bound
  bases_most =
      record {
        due = omega (arith, largest.within);
        fits = omega (arith, largest.within);
        suffices = go largest.passes;
        most = λ m a b c. over m a b c (dec_lt (bases_of s source room) m);
      }
    where
      go : (bases_of s source room ≡ 0) ⊎ (test (bases_of s source room) ≡ true) → takes s (bases_of s source room) ≤ length source
      go (inl z) = rw z none_suffices
      go (inr z) = leb-true (takes s (bases_of s source room)) (length source) z

      over : (m : ℕ) → m ≤ s.budget → m ≤ room → takes s m ≤ length source → Dec (bases_of s source room < m) → m ≤ bases_of s source room
      over m a b c (yes l) = absurd (omega (arith, leb-false (takes s m) (length source) (largest.beyond m l (omega arith))))
      over m a b c (no l) = omega arith

  -- and there is one such number only
  pub most_only : (n : ℕ) → Most s source room n → n ≡ bases_of s source room
  most_only n r =
      let least : bases_of s source room ≤ n = r.most (bases_of s source room) bases_most.due bases_most.fits bases_most.suffices in
      let back : n ≤ bases_of s source room = bases_most.most n r.due r.fits r.suffices in
      omega arith

  -- its closed form: what budget and space allow, and the bits at hand past the skip, by the width
  pub bases_closed : bases_of s source room ≡ min (min s.budget room) ((s.bits + length source * 8 - s.skip) / (reads_by s).width)
  unfolding takes used
  bases_closed = sym (most_only n (record { due = omega arith; fits = omega arith; suffices = omega (arith, enough, fills); most = λ m a b c. least m a b c }))
    where
      W : ℕ
      W = (reads_by s).width

      avail : ℕ
      avail = s.bits + length source * 8 - s.skip

      n : ℕ
      n = min (min s.budget room) (avail / W)

      fills : n * W ≤ avail
      fills = (le-div_iff_mul-le {k = W} {x = n} {y = avail} (lawful false s.alphabet).some_bits).0 (omega arith)

      least : (m : ℕ) → m ≤ s.budget → m ≤ room → takes s m ≤ length source → m ≤ n
      least m a b c =
          let part : m ≤ avail / W = (le-div_iff_mul-le {k = W} {x = m} {y = avail} (lawful false s.alphabet).some_bits).1 (omega arith) in
          omega arith

  -- ---- the status

  -- Hungry past the skip: with bases due and space for one, the source is used up and fewer bits pend than a base has
  pub dry : bases_of s source room < s.budget → bases_of s source room < room
      → (takes s (bases_of s source room) ≡ length source) × ((moved s source (bases_of s source room)).bits < (reads_by s).width)
  unfolding moved
  dry due space = (used_up, few_pend)
    where
      n : ℕ
      n = bases_of s source room

      -- one base more lacks bytes
      lacks : length source < takes s (n + 1)
      lacks = go (dec_lt (length source) (takes s (n + 1)))
        where
          go : Dec (length source < takes s (n + 1)) → length source < takes s (n + 1)
          go (yes l) = l
          go (no l) = absurd (omega (arith, bases_most.most (n + 1) (omega arith) (omega arith) (omega arith)))

      -- so the bits at hand are too few for it
      short : s.bits + length source * 8 < used s n + (reads_by s).width
      short = bits_short s (n + 1) source lacks n (used-add s n 1)

      used_up : takes s n ≡ length source
      used_up = takes_all s n source short bases_most.suffices (lawful false s.alphabet).narrow

      few_pend : s.bits + takes s n * 8 - used s n < (reads_by s).width
      few_pend = omega (arith, short, used_up, (lawful false s.alphabet).some_bits)

-- ---- the next state

-- it is sound, so the next call does not refuse it
pub moved_sound : (s : StreamingDecoder) (source : List ℕ) (n : ℕ) → s.bits < 8 → sound_stream (moved s source n) ≡ true
unfolding moved takes
moved_sound s source n few =
    sound_last (moved s source n) (omega arith) (omega arith) (word_lt (source_bits s source) (source_lt s source) (used s n) (s.bits + takes s n * 8 - used s n))
