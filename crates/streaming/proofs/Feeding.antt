-- Lists of calls: whatever the pieces of source and memory, the calls go from place to place of document 01's count.
use mathlib.Core.Path.{◌≡◌, refl, sym, ap, ap₂, ◌∙◌}
use mathlib.Core.Bool.{Bool, true, false, cond, ◌||◌}
use mathlib.Core.List.{List, map}
use mathlib.Core.Logic.{◌⊎◌, inl, inr}
use Prim.Native.Nat.{ℕ, suc, ◌+◌, ◌-◌, ◌*◌, ◌/◌, ◌%◌, ◌^◌, ◌≤◌, ◌<◌, min}
use native.Mathlib.Nat.{add_assoc, add-mul, suc-mul, zero-mul, mul-le-mul_right}
use native.Mathlib.Decide.{dec_lt}
use native.Mathlib.Omega.{arith}
use borrow.Author.Tests.{ltb-true, ltb-false, leb-true, leb-false, lt-ltb, le-ltb, le-leb, lt-leb, ne_eqb}
use lib.Dec.{leb, ltb, eqb}
use lib.ListN.{length, drop, length-take, length-drop}
use lib.Seq.{get_or-take, get_or-drop}
use Rattle.std.specs.Prelude.{Ok}
use Rattle.alphabet.specs.declared.kind.AlphabetType.{AlphabetType}
use Rattle.alphabet.specs.Symbols.{Coding, coding}
use Rattle.bits.specs.Tables.{tabulate, at}
use Rattle.bits.specs.Streams.{bit_at, word, after, cut}
use Rattle.bits.specs.Packing.{bytes_for, at_hand}
use Rattle.bits.proofs.Words.{word_ext, word_lt, word_bit, bit_lt}
use Rattle.bits.proofs.Tabulated.{tabulate_ext}
use Rattle.streaming.specs.declared.decoder.StreamingDecoder.{StreamingDecoder}
use Rattle.streaming.specs.declared.status.Status.TheVariants.{Hungry}
use Rattle.streaming.specs.Stream.{reads_by, fresh_stream, sound_stream, greatest, source_bits, used, takes, bases_of, status_for, moved, moved_by, waiting, stream_at, stream_writes}
use Rattle.streaming.specs.Count.{Place, taken_by, source_of, offered, reached, place_after, bases_between, flowing, stands_for}
use Rattle.streaming.proofs.Hand.{after_in, after_past}
use Rattle.streaming.proofs.Greatest.{Largest, greatest_largest, largest_greatest}
use Rattle.streaming.proofs.Levels.{used_none}
use Rattle.streaming.proofs.Calls.{sound_last}

-- ---- a source's bits are the lent bytes'

source_bit : (lent : List ℕ) (taken m r : ℕ) → r < length (source_of lent taken m) * 8 → bit_at 8 (at (source_of lent taken m)) r ≡ bit_at 8 (at lent) (taken * 8 + r)
unfolding bit_at
source_bit lent taken m r h =
    let place : (taken * 8 + r) / 8 ≡ taken + r / 8 = omega arith in
    let within : (taken * 8 + r) % 8 ≡ r % 8 = omega arith in
    let inside : r / 8 < m = omega (arith, length-take m (drop taken lent)) in
    rw (place, within)
    (ap (λ (x : ℕ). x / 2 ^ (8 - 1 - r % 8) % 2) (get_or-take m (drop taken lent) (r / 8) 0 inside ∙ get_or-drop taken lent (r / 8) 0))

-- ---- one call

module _ (kind : AlphabetType) (q budget : ℕ) (lent : List ℕ) where
  abbrev A : Coding
  A = coding kind

  abbrev W : ℕ
  W = (coding kind).width

  abbrev L : ℕ → ℕ
  L = bit_at 8 (at lent)

  abbrev up_to : ℕ → ℕ
  up_to k = q + k * W

  -- a state within the list: bit `origin` of the lent bytes is the first that pends, k bases are written and `taken` bytes taken
  pub record Within (s : StreamingDecoder) (source : List ℕ) (origin k taken : ℕ) : Type 0 where
    pub kind_is : s.alphabet ≡ kind
    pub budget_is : s.budget ≡ budget - k
    pub written : k ≤ budget
    pub few : s.bits < 8
    pub first : origin + s.skip ≡ up_to k
    pub ends : origin + s.bits ≡ taken * 8
    pub enough : s.skip ≤ s.bits + length source * 8
    pub bits_are : (i : ℕ) → i < s.bits + length source * 8 → source_bits s source i ≡ L (origin + i)

  module _ {s : StreamingDecoder} {source : List ℕ} {origin k taken : ℕ} (room : ℕ) (r : Within s source origin k taken) where
    abbrev n : ℕ
    n = bases_of s source room

    abbrev S : ℕ → ℕ
    S = source_bits s source

    width_is : (reads_by s).width ≡ W
    width_is = ap (λ (x : AlphabetType). (coding x).width) r.kind_is

    -- the bits used, in the lent bytes
    used_is : (m : ℕ) → origin + used s m ≡ up_to (k + m)
    unfolding used
    used_is m = omega (arith, r.first, ap (λ (x : ℕ). m * x) width_is, add-mul k m W)

    -- the bytes taken
    pub takes_is : (m : ℕ) → taken + takes s m ≡ bytes_for (up_to (k + m))
    unfolding takes
    takes_is m = omega (arith, used_is m, r.ends, r.few)

    largest : Largest (λ m. leb (takes s m) (length source)) (min s.budget room) n
    unfolding bases_of
    largest = greatest_largest (λ m. leb (takes s m) (length source)) (min s.budget room)

    none_takes : takes s 0 ≤ length source
    unfolding takes
    none_takes = omega (arith, used_none s, r.enough)

    pub suffices : takes s n ≤ length source
    suffices = go largest.passes
      where
        go : (n ≡ 0) ⊎ (leb (takes s n) (length source) ≡ true) → takes s n ≤ length source
        go (inl z) = rw z none_takes
        go (inr z) = leb-true (takes s n) (length source) z

    pub bases_within : n ≤ budget - k
    bases_within = omega (arith, largest.within, r.budget_is)

    -- the count agrees
    pub reached_is : k + n ≡ greatest (λ j. leb (bytes_for (up_to j)) (taken + length source)) (min budget (k + room))
    reached_is =
        largest_greatest (λ j. leb (bytes_for (up_to j)) (taken + length source)) (min budget (k + room)) (k + n)
        (record {
          within = omega (arith, largest.within, r.budget_is, r.written);
          passes = inr (le-leb (bytes_for (up_to (k + n))) (taken + length source) (omega (arith, takes_is n, suffices)));
          beyond = λ j l h. over j l h;
        })
      where
        over : (j : ℕ) → k + n < j → j ≤ min budget (k + room) → leb (bytes_for (up_to j)) (taken + length source) ≡ false
        over j l h =
            let m : ℕ = j - k in
            let sum : j ≡ k + m = omega arith in
            let lacks : length source < takes s m = leb-false (takes s m) (length source) (largest.beyond m (omega arith) (omega (arith, r.budget_is))) in
            lt-leb (bytes_for (up_to j)) (taken + length source) (omega (arith, takes_is m, ap (λ (x : ℕ). bytes_for (up_to x)) sum))

    -- the bits used lie within the bytes taken
    used_in : used s n ≤ s.bits + takes s n * 8
    unfolding takes
    used_in = omega arith

    words : (i m : ℕ) → i + m ≤ s.bits + length source * 8 → word S i m ≡ word L (origin + i) m
    words i m h = word_ext S L i (origin + i) m (λ j l. r.bits_are (i + j) (omega arith) ∙ ap L (sym (add_assoc origin i j)))

    -- the state that the call leaves
    pub moved_is : moved s source n ≡ flowing kind q budget lent (k + n)
    unfolding moved flowing
    moved_is = λ i.
        record {
          alphabet = r.kind_is i;
          skip = 0;
          budget = budgets i;
          bits = lefts i;
          pending = rests i;
        }
      where
        budgets : s.budget - n ≡ budget - (k + n)
        budgets = omega (arith, r.budget_is)

        lefts : s.bits + takes s n * 8 - used s n ≡ bytes_for (up_to (k + n)) * 8 - up_to (k + n)
        lefts = omega (arith, used_is n, takes_is n, r.ends)

        rests : word S (used s n) (s.bits + takes s n * 8 - used s n) ≡ word L (up_to (k + n)) (bytes_for (up_to (k + n)) * 8 - up_to (k + n))
        rests = words (used s n) (s.bits + takes s n * 8 - used s n) (omega (arith, used_in, suffices)) ∙ ap₂ (word L) (used_is n) lefts

    -- the bases that it writes
    pub writes_is : map (reads_by s).symbol (cut (reads_by s).width S s.skip n) ≡ bases_between A q budget lent k n
    unfolding bases_between cut
    writes_is =
        ap (λ (x : AlphabetType). map (coding x).symbol (tabulate n (λ i. word S (s.skip + i * (coding x).width) (coding x).width))) r.kind_is
        ∙ ap (map A.symbol) (tabulate_ext n (λ i. word S (s.skip + i * W) W) (λ i. word L (up_to k + i * W) W) one)
      where
        one : (i : ℕ) → i < n → word S (s.skip + i * W) W ≡ word L (up_to k + i * W) W
        one i l =
            let up : suc i * W ≤ n * W = mul-le-mul_right W l in
            let all : used s n ≡ s.skip + n * W = used_out in
            let place : origin + (s.skip + i * W) ≡ up_to k + i * W = omega (arith, r.first) in
            words (s.skip + i * W) W (omega (arith, up, suc-mul i W, used_in, suffices)) ∙ ap (λ (x : ℕ). word L x W) place
          where
            used_out : used s n ≡ s.skip + n * W
            used_out = omega (arith, used_is n, r.first, add-mul k n W)

  -- ---- the states that stand for places

  few_left : (k : ℕ) → bytes_for (up_to k) * 8 - up_to k < 8
  few_left k = omega arith

  within_flowing : (k m : ℕ) → k ≤ budget → Within (flowing kind q budget lent k) (source_of lent (bytes_for (up_to k)) m) (up_to k) k (bytes_for (up_to k))
  unfolding flowing source_bits at_hand
  within_flowing k m h =
      record {
        kind_is = refl;
        budget_is = refl;
        written = h;
        few = omega arith;
        first = omega arith;
        ends = omega arith;
        enough = omega arith;
        bits_are = λ i l. go i l (dec_lt i left);
      }
    where
      taken : ℕ
      taken = bytes_for (up_to k)

      left : ℕ
      left = taken * 8 - up_to k

      source : List ℕ
      source = source_of lent taken m

      held : ℕ
      held = word L (up_to k) left

      go : (i : ℕ) → i < left + length source * 8 → Dec (i < left) → after left held (bit_at 8 (at source)) i ≡ L (up_to k + i)
      go i l (yes below) = after_in left held (bit_at 8 (at source)) i below ∙ word_bit L (bit_lt 8 (at lent)) (up_to k) left i below
      go i l (no past) =
          let j : ℕ = i - left in
          let sum : i ≡ left + j = omega arith in
          let place : taken * 8 + j ≡ up_to k + i = omega arith in
          ap (after left held (bit_at 8 (at source))) sum
          ∙ after_past left held (bit_at 8 (at source)) j
          ∙ source_bit lent taken m j (omega arith)
          ∙ ap L place

  within_fresh : (m : ℕ) → q < 8 → 0 < length (source_of lent 0 m) → Within (fresh_stream kind q budget) (source_of lent 0 m) 0 0 0
  unfolding fresh_stream source_bits at_hand
  within_fresh m small some =
      record {
        kind_is = refl;
        budget_is = omega arith;
        written = omega arith;
        few = omega arith;
        first = omega (arith, zero-mul W);
        ends = omega arith;
        enough = omega arith;
        bits_are = λ i l. go i (omega arith);
      }
    where
      source : List ℕ
      source = source_of lent 0 m

      go : (i : ℕ) → i < length source * 8 → after 0 0 (bit_at 8 (at source)) i ≡ L (0 + i)
      go i l =
          let none : 0 + i ≡ i = omega arith in
          let place : 0 * 8 + i ≡ 0 + i = omega arith in
          ap (after 0 0 (bit_at 8 (at source))) (sym none)
          ∙ after_past 0 0 (bit_at 8 (at source)) i
          ∙ source_bit lent 0 m i l
          ∙ ap L place

  pub sound_flowing : (k : ℕ) → sound_stream (flowing kind q budget lent k) ≡ true
  unfolding flowing
  sound_flowing k =
      sound_last (flowing kind q budget lent k) (omega arith) (few_left k) (word_lt L (bit_lt 8 (at lent)) (up_to k) (bytes_for (up_to k) * 8 - up_to k))

  pub sound_fresh : q < 8 → sound_stream (fresh_stream kind q budget) ≡ true
  unfolding fresh_stream
  sound_fresh small = sound_last (fresh_stream kind q budget) small (omega arith) (omega arith) ∙ go (eqb q 0)
    where
      go : (b : Bool) → b || true ≡ true
      go true = refl
      go false = refl

  -- ---- the call from a place

  -- a place that a list can reach
  pub record Reachable (p : Place) : Type 0 where
    pub start : p.due ≡ true → (p.k ≡ 0) × (0 < q)
    pub within : p.k ≤ budget
    pub taken : taken_by A q p ≤ length lent

  -- what a call tells and writes, from a place to the next
  pub record Goes (p : Place) (m room : ℕ) (next : Place) : Type 0 where
    pub answer :
        stream_at (stands_for kind q budget lent p) (source_of lent (taken_by A q p) m) room
        ≡ Ok
        (record {
          taken = taken_by A q next - taken_by A q p;
          written = next.k - p.k;
          status = cond next.due Hungry (status_for (budget - next.k) (room - (next.k - p.k)));
          next = stands_for kind q budget lent next;
        })
    pub wrote :
        stream_writes (stands_for kind q budget lent p) (source_of lent (taken_by A q p) m) (stream_at (stands_for kind q budget lent p) (source_of lent (taken_by A q p) m) room)
        ≡ bases_between A q budget lent p.k (next.k - p.k)
    pub grows : (p.k ≤ next.k) × (taken_by A q p ≤ taken_by A q next)
    pub reach : Reachable next

  no_due : {k : ℕ} → k ≤ budget → bytes_for (up_to k) ≤ length lent → Reachable (record { due = false; k = k })
  unfolding taken_by
  no_due h t = record { start = λ z. let w : ◌≡◌ {A = ℕ} 0 1 = cc in absurd (omega arith); within = h; taken = t }

  -- a call that gets past the skip
  goes_on :
      (p : Place) (m room origin : ℕ) →
      Within (stands_for kind q budget lent p) (source_of lent (taken_by A q p) m) origin p.k (taken_by A q p) →
      sound_stream (stands_for kind q budget lent p) ≡ true →
      eqb (stands_for kind q budget lent p).skip 0 || ltb 0 (length (source_of lent (taken_by A q p) m)) ≡ true →
      taken_by A q p ≤ length lent →
      Goes p m room (record { due = false; k = reached A q budget lent p m room })
  unfolding stream_at stream_writes moved_by stands_for taken_by reached offered
  goes_on p m room origin r sound begins held =
      record {
        answer = told ∙ ap Ok same;
        wrote = ap (stream_writes s source) told ∙ writes_is room r ∙ ap (bases_between A q budget lent p.k) count;
        grows = (omega (arith, all), omega (arith, takes_is room r n₁, ap (λ (x : ℕ). bytes_for (up_to x)) all));
        reach =
            no_due (omega (arith, all, bases_within room r, r.written))
            (omega (arith, takes_is room r n₁, ap (λ (x : ℕ). bytes_for (up_to x)) all, suffices room r, length-take m (drop taken lent), length-drop taken lent, held));
      }
    where
      s : StreamingDecoder
      s = stands_for kind q budget lent p

      taken : ℕ
      taken = taken_by A q p

      source : List ℕ
      source = source_of lent taken m

      n₁ : ℕ
      n₁ = bases_of s source room

      next : ℕ
      next = reached A q budget lent p m room

      all : p.k + n₁ ≡ next
      all = reached_is room r

      count : n₁ ≡ next - p.k
      count = omega (arith, all)

      told : stream_at s source room ≡ Ok (moved_by s source room n₁)
      told = rw (sound, begins)

      bytes : takes s n₁ ≡ bytes_for (up_to next) - taken
      bytes = omega (arith, takes_is room r n₁, ap (λ (x : ℕ). bytes_for (up_to x)) all)

      budgets : s.budget - n₁ ≡ budget - next
      budgets = omega (arith, r.budget_is, all)

      same : moved_by s source room n₁
          ≡ record {
            taken = bytes_for (up_to next) - taken;
            written = next - p.k;
            status = status_for (budget - next) (room - (next - p.k));
            next = flowing kind q budget lent next;
          }
      same = λ i.
          record {
            taken = bytes i;
            written = count i;
            status = status_for (budgets i) (room - count i);
            next = (moved_is room r ∙ ap (flowing kind q budget lent) all) i;
          }

  fresh_due : 0 < q → eqb (fresh_stream kind q budget).skip 0 ≡ false
  unfolding fresh_stream
  fresh_due due = ne_eqb q 0 (omega arith)

  flowing_skip : (k m : ℕ) → eqb (flowing kind q budget lent k).skip 0 || ltb 0 (length (source_of lent (bytes_for (up_to k)) m)) ≡ true
  unfolding flowing
  flowing_skip k m = refl

  -- a call with the skip due and nothing offered
  goes_waits : (m room : ℕ) → q < 8 → 0 < q → length (source_of lent 0 m) ≡ 0 → Goes (record { due = true; k = 0 }) m room (record { due = true; k = 0 })
  unfolding stream_at stream_writes stands_for taken_by bases_between cut tabulate
  goes_waits m room small due none =
      record {
        answer = told;
        wrote = ap (stream_writes (fresh_stream kind q budget) (source_of lent 0 m)) told;
        grows = (omega arith, omega arith);
        reach = record { start = λ z. (refl, due); within = omega arith; taken = omega arith };
      }
    where
      asks : eqb (fresh_stream kind q budget).skip 0 || ltb 0 (length (source_of lent 0 m)) ≡ false
      asks = ap₂ (λ (x y : Bool). x || y) (fresh_due due) (le-ltb 0 (length (source_of lent 0 m)) (omega arith))

      told : stream_at (fresh_stream kind q budget) (source_of lent 0 m) room ≡ Ok (waiting (fresh_stream kind q budget))
      told = rw (sound_fresh small, asks)

  goes_due : (m room : ℕ) → q < 8 → 0 < q → (b : Bool) → ltb 0 (length (source_of lent 0 m)) ≡ b
      → Goes (record { due = true; k = 0 }) m room (place_after A q budget lent (record { due = true; k = 0 }) m room)
  unfolding place_after offered taken_by stands_for
  goes_due m room small due true e =
      let some : 0 < length (source_of lent 0 m) = ltb-true 0 (length (source_of lent 0 m)) e in
      let offers : ltb 0 (0 + length (source_of lent 0 m)) ≡ true = lt-ltb 0 (0 + length (source_of lent 0 m)) (omega arith) in
      rw offers
      (goes_on (record { due = true; k = 0 }) m room 0 (within_fresh m small some) (sound_fresh small) (rw e (or_right (eqb (fresh_stream kind q budget).skip 0))) (omega arith))
    where
      or_right : (x : Bool) → x || true ≡ true
      or_right true = refl
      or_right false = refl
  goes_due m room small due false e =
      let none : length (source_of lent 0 m) ≤ 0 = ltb-false 0 (length (source_of lent 0 m)) e in
      let offers : ltb 0 (0 + length (source_of lent 0 m)) ≡ false = le-ltb 0 (0 + length (source_of lent 0 m)) (omega arith) in
      rw offers (goes_waits m room small due (omega arith))

  -- THE CALL: from any place that a list can reach, to the place that the count gives
  goes_from : (d : Bool) (k m room : ℕ) → q < 8 → Reachable (record { due = d; k = k })
      → Goes (record { due = d; k = k }) m room (place_after A q budget lent (record { due = d; k = k }) m room)
  unfolding place_after stands_for taken_by
  goes_from true k m room small g =
      rw (g.start refl).0 (goes_due m room small (g.start refl).1 (ltb 0 (length (source_of lent 0 m))) refl)
  goes_from false k m room small g = goes_on (record { due = false; k = k }) m room (up_to k) (within_flowing k m g.within) (sound_flowing k) (flowing_skip k m) g.taken

  pub goes : (p : Place) (m room : ℕ) → q < 8 → Reachable p → Goes p m room (place_after A q budget lent p m room)
  goes p m room small g = goes_from p.due p.k m room small g
