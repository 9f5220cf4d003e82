-- Whole lists of calls: the state, the bytes taken and the bases written, joined, are those of document 01's count.
use mathlib.Core.Path.{◌≡◌, refl, sym, ap, ◌∙◌}
use mathlib.Core.Bool.{Bool, true, false}
use mathlib.Core.List.{List, [], ◌∷◌, ◌++◌, map, map-append}
use mathlib.Core.Logic.{◌⊎◌, inl, inr}
use Prim.Native.Nat.{ℕ, ◌+◌, ◌-◌, ◌*◌, ◌/◌, ◌≤◌, ◌<◌, min}
use native.Mathlib.Nat.{add-mul, zero-mul, le-div_iff_mul-le}
use native.Mathlib.Decide.{dec_lt}
use native.Mathlib.Omega.{arith}
use borrow.Author.Tests.{ltb-true, ltb-false, leb-true, leb-false}
use lib.Dec.{leb, ltb}
use Rattle.alphabet.specs.declared.kind.AlphabetType.{AlphabetType}
use Rattle.std.specs.Prelude.{Result}
use Rattle.alphabet.specs.declared.refusal.Refused.{Refused}
use Rattle.alphabet.specs.Symbols.{Coding, coding}
use Rattle.alphabet.proofs.Laws.{lawful}
use Rattle.bits.specs.Tables.{tabulate, at}
use Rattle.bits.specs.Streams.{bit_at, word, cut}
use Rattle.bits.specs.Packing.{bytes_for}
use Rattle.bits.proofs.Tabulated.{tabulate-add, tabulate_ext}
use Rattle.streaming.specs.declared.decoder.StreamingDecoder.{StreamingDecoder}
use Rattle.streaming.specs.declared.decoder.Streamed.{Streamed}
use Rattle.streaming.specs.Stream.{fresh_stream}
use Rattle.streaming.specs.Count.{Place, begin, taken_by, Feed, offered, reached, place_after, place_after_all, bases_between, Fed, took_by, next_by, fed_by, fed_all}
use Rattle.streaming.specs.Count.{flowing, stands_for, fed_at}
use Rattle.streaming.proofs.Greatest.{Largest, greatest_largest}
use Rattle.streaming.proofs.Feeding.{Reachable, Goes, goes}

module _ (kind : AlphabetType) (q budget : ℕ) (lent : List ℕ) where
  abbrev A : Coding
  A = coding kind

  abbrev W : ℕ
  W = (coding kind).width

  abbrev L : ℕ → ℕ
  L = bit_at 8 (at lent)

  -- the bases of two runs, one after the other
  pub bases_join : (k n : ℕ) → bases_between A q budget lent 0 k ++ bases_between A q budget lent k n ≡ bases_between A q budget lent 0 (k + n)
  unfolding bases_between cut
  bases_join k n =
      sym
      (ap (map A.symbol)
      (tabulate-add k n (λ i. word L (q + 0 * W + i * W) W)
      ∙ ap (λ (l : List ℕ). tabulate k (λ i. word L (q + 0 * W + i * W) W) ++ l)
      (tabulate_ext n (λ i. word L (q + 0 * W + (k + i) * W) W) (λ i. word L (q + k * W + i * W) W) one))
      ∙ map-append A.symbol (tabulate k (λ i. word L (q + 0 * W + i * W) W)) (tabulate n (λ i. word L (q + k * W + i * W) W)))
    where
      one : (i : ℕ) → i < n → word L (q + 0 * W + (k + i) * W) W ≡ word L (q + k * W + i * W) W
      one i l = let place : q + 0 * W + (k + i) * W ≡ q + k * W + i * W = omega (arith, zero-mul W, add-mul k i W) in ap (λ (x : ℕ). word L x W) place

  -- one call more
  fed_more : q < 8 → (p : Place) (c : Feed) → Reachable kind q budget lent p
      → fed_by lent (fed_at kind q budget lent p) c ≡ fed_at kind q budget lent (place_after A q budget lent p c.given c.room)
  unfolding fed_by fed_at
  fed_more small p c g = λ i.
      record {
        state = ap next_by r.answer i;
        taken = (ap (λ (x : Result Streamed (Refused StreamingDecoder)). taken_by A q p + took_by x) r.answer ∙ sum) i;
        bases =
            (ap (λ (l : List ℕ). bases_between A q budget lent 0 p.k ++ l) r.wrote
            ∙ bases_join p.k (next.k - p.k)
            ∙ ap (bases_between A q budget lent 0) count)
            i;
      }
    where
      next : Place
      next = place_after A q budget lent p c.given c.room

      r : Goes kind q budget lent p c.given c.room next
      r = goes kind q budget lent p c.given c.room small g

      sum : taken_by A q p + (taken_by A q next - taken_by A q p) ≡ taken_by A q next
      sum = omega (arith, r.grows.1)

      count : p.k + (next.k - p.k) ≡ next.k
      count = omega (arith, r.grows.0)

  pub fed_from : q < 8 → (cs : List Feed) (p : Place) → Reachable kind q budget lent p
      → fed_all lent (fed_at kind q budget lent p) cs ≡ fed_at kind q budget lent (place_after_all A q budget lent p cs)
  unfolding fed_all place_after_all
  fed_from small [] p g = refl
  fed_from small (c ∷ cs) p g =
      ap (λ (f : Fed). fed_all lent f cs) (fed_more small p c g)
      ∙ fed_from small cs (place_after A q budget lent p c.given c.room) (goes kind q budget lent p c.given c.room small g).reach

  -- ---- from a fresh state

  pub begins : Reachable kind q budget lent (begin q)
  unfolding taken_by
  begins = go (ltb 0 q) refl
    where
      go : (b : Bool) → ltb 0 q ≡ b → Reachable kind q budget lent (record { due = b; k = 0 })
      go true e = record { start = λ z. (refl, ltb-true 0 q e); within = omega arith; taken = omega arith }
      go false e = record { start = λ z. let w : ◌≡◌ {A = ℕ} 0 1 = cc in absurd (omega arith); within = omega arith; taken = omega (arith, ltb-false 0 q e, zero-mul W) }

  pub fed_fresh : ◌≡◌ {A = Fed} (record { state = fresh_stream kind q budget; taken = 0; bases = [] }) (fed_at kind q budget lent (begin q))
  unfolding fed_at stands_for taken_by flowing fresh_stream bases_between cut tabulate word
  fed_fresh = go (ltb 0 q) refl
    where
      go : (b : Bool) → ltb 0 q ≡ b → ◌≡◌ {A = Fed} (record { state = fresh_stream kind q budget; taken = 0; bases = [] }) (fed_at kind q budget lent (record { due = b; k = 0 }))
      go true e = refl
      go false e =
          let zero-skip : q ≡ 0 = omega (arith, ltb-false 0 q e) in
          let none_taken : 0 ≡ bytes_for (q + 0 * W) = omega (arith, zero-mul W) in
          let none_left : 0 ≡ bytes_for (q + 0 * W) * 8 - (q + 0 * W) = omega (arith, zero-mul W) in
          let whole : budget ≡ budget - 0 = omega arith in
          λ i.
          record {
            state =
                record {
                  alphabet = kind;
                  skip = zero-skip i;
                  budget = whole i;
                  bits = none_left i;
                  pending = ap (word L (q + 0 * W)) none_left i;
                };
            taken = none_taken i;
            bases = [];
          }

  -- THE LIST: for any skip below 8, any budget, any lent bytes, whatever the pieces of source and memory
  pub feeding : q < 8 → (cs : List Feed)
      → fed_all lent (record { state = fresh_stream kind q budget; taken = 0; bases = [] }) cs ≡ fed_at kind q budget lent (place_after_all A q budget lent (begin q) cs)
  feeding small cs = ap (λ (f : Fed). fed_all lent f cs) fed_fresh ∙ fed_from small cs (begin q) begins

  pub all_reachable : q < 8 → (cs : List Feed) (p : Place) → Reachable kind q budget lent p → Reachable kind q budget lent (place_after_all A q budget lent p cs)
  unfolding place_after_all
  all_reachable small [] p g = g
  all_reachable small (c ∷ cs) p g = all_reachable small cs (place_after A q budget lent p c.given c.room) (goes kind q budget lent p c.given c.room small g).reach

  -- ---- k is the largest number, and its closed form

  pub record MostInAll (p : Place) (m room k : ℕ) : Type 0 where
    pub due : k ≤ budget
    pub fits : k ≤ p.k + room
    pub suffices : bytes_for (q + k * W) ≤ offered A q budget lent p m
    pub most : (j : ℕ) → j ≤ budget → j ≤ p.k + room → bytes_for (q + j * W) ≤ offered A q budget lent p m → j ≤ k

  module _ (p : Place) (m room : ℕ) (some : bytes_for q ≤ offered A q budget lent p m) where
    test : ℕ → Bool
    test k = leb (bytes_for (q + k * W)) (offered A q budget lent p m)

    largest : Largest test (min budget (p.k + room)) (reached A q budget lent p m room)
    unfolding reached test
    largest = greatest_largest test (min budget (p.k + room))

    pub reached-most : MostInAll p m room (reached A q budget lent p m room)
    unfolding test
    reached-most =
        record {
          due = omega (arith, largest.within);
          fits = omega (arith, largest.within);
          suffices = go largest.passes;
          most = λ j a b c. over j a b c (dec_lt (reached A q budget lent p m room) j);
        }
      where
        r : ℕ
        r = reached A q budget lent p m room

        go : (r ≡ 0) ⊎ (test r ≡ true) → bytes_for (q + r * W) ≤ offered A q budget lent p m
        go (inl z) = rw z (omega (arith, zero-mul W))
        go (inr z) = leb-true (bytes_for (q + r * W)) (offered A q budget lent p m) z

        over : (j : ℕ) → j ≤ budget → j ≤ p.k + room → bytes_for (q + j * W) ≤ offered A q budget lent p m → Dec (r < j) → j ≤ r
        over j a b c (yes l) = absurd (omega (arith, leb-false (bytes_for (q + j * W)) (offered A q budget lent p m) (largest.beyond j l (omega arith))))
        over j a b c (no l) = omega arith

    pub most_one : (k : ℕ) → MostInAll p m room k → k ≡ reached A q budget lent p m room
    most_one k r =
        let up : reached A q budget lent p m room ≤ k = r.most (reached A q budget lent p m room) reached-most.due reached-most.fits reached-most.suffices in
        let down : k ≤ reached A q budget lent p m room = reached-most.most k r.due r.fits r.suffices in
        omega arith

    pub reached_closed : reached A q budget lent p m room ≡ min (min budget (p.k + room)) ((offered A q budget lent p m * 8 - q) / W)
    reached_closed = sym (most_one k (record { due = omega arith; fits = omega arith; suffices = omega (arith, fills); most = λ j a b c. least j a b c }))
      where
        avail : ℕ
        avail = offered A q budget lent p m * 8 - q

        k : ℕ
        k = min (min budget (p.k + room)) (avail / W)

        fills : k * W ≤ avail
        fills = (le-div_iff_mul-le {k = W} {x = k} {y = avail} (lawful false kind).some_bits).0 (omega arith)

        least : (j : ℕ) → j ≤ budget → j ≤ p.k + room → bytes_for (q + j * W) ≤ offered A q budget lent p m → j ≤ k
        least j a b c =
            let part : j ≤ avail / W = (le-div_iff_mul-le {k = W} {x = j} {y = avail} (lawful false kind).some_bits).1 (omega arith) in
            omega arith
