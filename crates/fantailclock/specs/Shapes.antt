-- Replies as the numbers that pass the boundary: the refusal, 0 for an accepted call, then the values, 0 on a refusal.
use Rattle.std.specs.Prelude.{ℕ, Bool, not, eqb, [], Result, Ok, Err}
use Rattle.alphabet.specs.Questions.{Reply, accepted, refusal_reply, number_in, value_in, detail_in}
use Rattle.alphabet.specs.declared.refusal.Refusal.{Refusal}
use Rattle.fantailclock.specs.declared.shapes.Number.{Number}
use Rattle.fantailclock.specs.declared.shapes.Count.{Count}
use Rattle.fantailclock.specs.declared.shapes.Covered.{Covered}
use Rattle.fantailclock.specs.declared.shapes.Range.{Range}
use Rattle.fantailclock.specs.declared.shapes.Packed.{Packed}
use Rattle.fantailclock.specs.declared.shapes.Ended.{Ended}
use Rattle.fantailclock.specs.declared.shapes.Details.{Details}

-- one value
abbrev pub number : Reply → Number
number reply = record { refusal = number_in reply; value = value_in 0 reply }

-- one count
abbrev pub count : Reply → Count
count reply = record { refusal = number_in reply; count = value_in 0 reply }

-- bases written, or the base whose code is no symbol's
abbrev pub covered : Reply → Covered
covered reply = record { refusal = number_in reply; count = value_in 0 reply; value = detail_in 0 reply }

-- a byte range
abbrev pub range : Reply → Range
range reply = record { refusal = number_in reply; start = value_in 0 reply; end = value_in 1 reply }

-- what a refusal tells beside its number
abbrev pub details : Reply → Details
details reply = record { first = detail_in 0 reply; second = detail_in 1 reply; third = detail_in 2 reply }

-- bytes written, or position and byte of the first non-member, and how many there are
abbrev pub packed : Reply → Packed
packed reply =
    record { refusal = number_in reply; count = value_in 0 reply; position = detail_in 0 reply; byte = detail_in 1 reply; bad_count = detail_in 2 reply }

-- an end call's answer, or a refusal
abbrev pub end_reply : Result (Unit {0}) Refusal → Reply
end_reply (Ok done) = accepted []
end_reply (Err q) = refusal_reply q

-- the bases outstanding
abbrev pub ended : Reply → Ended
ended reply = record { refusal = number_in reply; outstanding = detail_in 0 reply }

-- the choice to fold that a host's number stands for: any number but 0 folds
abbrev pub chosen : ℕ → Bool
chosen fold = not (eqb fold 0)
