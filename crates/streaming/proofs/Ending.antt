-- The end call at a place of the count.
use mathlib.Core.Path.{◌≡◌, refl, sym, ap}
use mathlib.Core.Bool.{Bool, true, false, cond, not, ◌&&◌}
use mathlib.Core.List.{List, [], ◌∷◌}
use Prim.Native.Nat.{ℕ, ◌-◌, ◌<◌}
use native.Mathlib.Omega.{arith}
use borrow.Author.Tests.{eq-eqb, ne_eqb, eqb-true, eqb-false}
use lib.Dec.{eqb}
use Rattle.std.specs.Prelude.{Result, Ok, Err}
use Rattle.alphabet.specs.declared.kind.AlphabetType.{AlphabetType}
use Rattle.alphabet.specs.declared.refusal.Refused.{Refused}
use Rattle.alphabet.specs.Refusing.{◌keeping◌}
use Rattle.alphabet.specs.Questions.{ask◌else◌then◌, by}
use Rattle.streaming.specs.declared.decoder.StreamingDecoder.{StreamingDecoder}
use Rattle.streaming.specs.Stream.{fresh_stream, end_at}
use Rattle.streaming.specs.Count.{Place, flowing, stands_for, complete}
use Rattle.streaming.proofs.Feeding.{Reachable, sound_flowing, sound_fresh}

module _ (kind : AlphabetType) (q budget : ℕ) (lent : List ℕ) where
  -- what comes of it
  abbrev pub ended : Place → Result Unit (Refused StreamingDecoder)
  ended p = cond (complete budget p) (Ok (tt {0})) (Err (by 7 ((budget - p.k) ∷ []) keeping stands_for kind q budget lent p))

  from : (d : Bool) (k : ℕ) → q < 8 → Reachable kind q budget lent (record { due = d; k = k })
      → end_at (stands_for kind q budget lent (record { due = d; k = k })) ≡ ended (record { due = d; k = k })
  unfolding end_at stands_for fresh_stream flowing
  from true k small g =
      let due : eqb q 0 ≡ false = ne_eqb q 0 (omega (arith, (g.start refl).1)) in
      let all : budget ≡ budget - k = omega (arith, (g.start refl).0) in
      rw (sound_fresh kind q budget lent small, due) (ap (λ (x : ℕ). Err (by 7 (x ∷ []) keeping fresh_stream kind q budget)) all)
  from false k small g =
      rw (sound_flowing kind q budget lent k) (go (eqb k budget) refl)
    where
      go : (b : Bool) → eqb k budget ≡ b
          → (ask eqb (budget - k) 0 else Err (by 7 ((budget - k) ∷ []) keeping flowing kind q budget lent k) then (Ok (tt {0})))
          ≡ cond b (Ok (tt {0})) (Err (by 7 ((budget - k) ∷ []) keeping flowing kind q budget lent k))
      go true e = rw (eq-eqb (budget - k) 0 (omega (arith, eqb-true k budget e)))
      go false e = let left : budget - k ≡ 0 → ⊥ = λ z. eqb-false k budget e (omega (arith, g.within)) in rw (ne_eqb (budget - k) 0 left)

  -- accepted exactly where the skip is done and every base is written, else refused by 7 with those outstanding
  pub end_is : (p : Place) → q < 8 → Reachable kind q budget lent p → end_at (stands_for kind q budget lent p) ≡ ended p
  end_is p small g = from p.due p.k small g

  -- over a window that is not empty: exactly where every base is written
  pub end_window : (p : Place) → 0 < budget → Reachable kind q budget lent p → complete budget p ≡ eqb p.k budget
  end_window p some g = go p.due refl
    where
      go : (d : Bool) → p.due ≡ d → not d && eqb p.k budget ≡ eqb p.k budget
      go true e = sym (ne_eqb p.k budget (omega (arith, (g.start e).0)))
      go false e = refl
