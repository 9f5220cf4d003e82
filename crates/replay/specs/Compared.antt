-- What it takes for a line to agree.
use Rattle.std.specs.Prelude.{◌≡◌, length}
use Rattle.replay.specs.declared.call.Answer.{Answer}
use Rattle.replay.specs.declared.call.Made.{Made}
use Rattle.replay.specs.declared.line.Outcome.{Outcome}
use Rattle.replay.specs.Takes.{takes}

-- a line that agrees gives as many numbers as the function takes and tells, and each number and each byte of memory is the port's
abbrev pub Agreeing : Outcome → Made → Answer → Type 0
Agreeing Outcome.Agreed m told =
    (takes m.function ≡ length m.numbers.now) × (m.answer.now.numbers.items ≡ told.numbers.items)
    × (m.answer.now.memory.bytes ≡ told.memory.bytes) × (m.answer.now.memory.lent ≡ told.memory.lent)
Agreeing _ m told = Unit {0}
