-- The refusal of a call on a state.
use Rattle.std.specs.Prelude.{Result, Ok, Err}
use Rattle.alphabet.specs.declared.refusal.Refusal.{Refusal}
use Rattle.alphabet.specs.declared.refusal.Refused.{Refused}

infix 5 ◌keeping◌
-- a refusal, and with it the state as it was
abbrev pub ◌keeping◌ : {S : Type 0} → Refusal → S → Refused S
q keeping s = record { refusal = q; state = s }

-- an answer whose refusal goes on without the state
abbrev pub alone : {A S : Type 0} → Result A (Refused S) → Result A Refusal
alone (Ok a) = Ok a
alone (Err e) = Err e.refusal
