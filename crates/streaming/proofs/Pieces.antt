-- Pieces and the whole: after any calls, one that is given the rest of the lent bytes and space for the whole budget ends where it would have ended alone.
use mathlib.Core.Path.{◌≡◌, refl, sym, ap, ap₂, ◌∙◌}
use mathlib.Core.Bool.{Bool, true, false, cond, ◌&&◌}
use mathlib.Core.List.{List, [], ◌∷◌, ◌++◌}
use Prim.Native.Nat.{ℕ, ◌+◌, ◌*◌, ◌≤◌, ◌<◌, min}
use native.Mathlib.Omega.{arith}
use borrow.Author.Tests.{ltb-true, lt-ltb, le-ltb, eqb-true, eqb-false, ne_eqb}
use lib.Dec.{leb, ltb, eqb}
use lib.ListN.{length, drop, length-take, length-drop}
use Rattle.alphabet.specs.declared.kind.AlphabetType.{AlphabetType}
use Rattle.alphabet.specs.Questions.{ask◌else◌then◌}
use Rattle.alphabet.specs.Symbols.{Coding, coding}
use Rattle.bits.specs.Packing.{bytes_for}
use Rattle.streaming.specs.Stream.{fresh_stream, greatest}
use Rattle.streaming.specs.Count.{Place, begin, taken_by, Feed, offered, reached, place_after, place_after_all, Fed, fed_all, fed_at}
use Rattle.streaming.proofs.Feeding.{Reachable}
use Rattle.streaming.proofs.AllCalls.{begins, feeding, all_reachable}

module _ (kind : AlphabetType) (q budget : ℕ) (lent : List ℕ) where
  abbrev A : Coding
  A = coding kind

  abbrev at_place : Bool → ℕ → Place
  at_place d k = record { due = d; k = k }

  -- the bases that all the lent bytes give
  abbrev whole : ℕ
  whole = greatest (λ k. leb (bytes_for (q + k * A.width)) (length lent)) budget

  -- and where that leaves a list: with the skip due and no byte lent, where it began
  abbrev end : Place
  end = cond (ltb 0 q && eqb (length lent) 0) (at_place true 0) (at_place false whole)

  offered_all : (p : Place) (m : ℕ) → taken_by A q p ≤ length lent → length lent ≤ m → offered A q budget lent p m ≡ length lent
  unfolding offered
  offered_all p m t h = omega (arith, length-take m (drop (taken_by A q p) lent), length-drop (taken_by A q p) lent)

  reached_all : (p : Place) (m room : ℕ) → taken_by A q p ≤ length lent → length lent ≤ m → budget ≤ room → reached A q budget lent p m room ≡ whole
  unfolding reached
  reached_all p m room t h l =
      let bound : min budget (p.k + room) ≡ budget = omega arith in
      ap₂ (λ (x y : ℕ). greatest (λ k. leb (bytes_for (q + k * A.width)) x) y) (offered_all p m t h) bound

  rest_from : (d : Bool) (k m room : ℕ) → Reachable kind q budget lent (at_place d k) → length lent ≤ m → budget ≤ room → place_after A q budget lent (at_place d k) m room ≡ end
  unfolding place_after taken_by
  rest_from true k m room g h l =
      let due : ltb 0 q ≡ true = lt-ltb 0 q (g.start refl).1 in
      rw (due, offered_all (at_place true k) m g.taken h) (go (eqb (length lent) 0) refl)
    where
      go : (b : Bool) → eqb (length lent) 0 ≡ b
          → (ask ltb 0 (length lent) else at_place true k then at_place false (reached A q budget lent (at_place true k) m room))
          ≡ cond b (at_place true 0) (at_place false whole)
      go true e = rw (le-ltb 0 (length lent) (omega (arith, eqb-true (length lent) 0 e))) (ap (at_place true) (g.start refl).0)
      go false e =
          let some : 0 < length lent = go_some (eqb-false (length lent) 0 e) in
          rw (lt-ltb 0 (length lent) some) (ap (at_place false) (reached_all (at_place true k) m room g.taken h l))
        where
          go_some : (length lent ≡ 0 → ⊥) → 0 < length lent
          go_some z = omega arith
  rest_from false k m room g h l =
      rw (apart (ltb 0 q) refl) (ap (at_place false) (reached_all (at_place false k) m room g.taken h l))
    where
      -- a byte was taken for the skip, if there was one
      apart : (b : Bool) → ltb 0 q ≡ b → b && eqb (length lent) 0 ≡ false
      apart true e = ne_eqb (length lent) 0 (λ z. omega (arith, ltb-true 0 q e, g.taken))
      apart false e = refl

  last_call : (cs : List Feed) (last : Feed) (p : Place)
      → place_after_all A q budget lent p (cs ++ (last ∷ [])) ≡ place_after A q budget lent (place_after_all A q budget lent p cs) last.given last.room
  unfolding place_after_all
  last_call [] last p = refl
  last_call (c ∷ cs) last p = last_call cs last (place_after A q budget lent p c.given c.room)

  -- the place
  pub rest_leads : (p : Place) (m room : ℕ) → Reachable kind q budget lent p → length lent ≤ m → budget ≤ room → place_after A q budget lent p m room ≡ end
  rest_leads p m room g h l = rest_from p.due p.k m room g h l

  pub pieces_place : q < 8 → (cs : List Feed) (last : Feed) → length lent ≤ last.given → budget ≤ last.room
      → place_after_all A q budget lent (begin q) (cs ++ (last ∷ [])) ≡ place_after_all A q budget lent (begin q) (last ∷ [])
  unfolding place_after_all
  pieces_place small cs last h l =
      last_call cs last (begin q)
      ∙ rest_leads (place_after_all A q budget lent (begin q) cs) last.given last.room (all_reachable kind q budget lent small cs (begin q) (begins kind q budget lent)) h l
      ∙ sym (rest_leads (begin q) last.given last.room (begins kind q budget lent) h l)

  abbrev fresh : Fed
  fresh = record { state = fresh_stream kind q budget; taken = 0; bases = [] }

  -- the state, the bytes taken in all, and the bases written, joined
  pub pieces : q < 8 → (cs : List Feed) (last : Feed) → length lent ≤ last.given → budget ≤ last.room → fed_all lent fresh (cs ++ (last ∷ [])) ≡ fed_all lent fresh (last ∷ [])
  pieces small cs last h l =
      feeding kind q budget lent small (cs ++ (last ∷ []))
      ∙ ap (fed_at kind q budget lent) (pieces_place small cs last h l)
      ∙ sym (feeding kind q budget lent small (last ∷ []))
