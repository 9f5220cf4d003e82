-- The numbers so far are those of the words so far.
use Rattle.std.proofs.Common.{◌≡◌, take, map}
use Rattle.replay.specs.Fields.{written}
use Rattle.replay.proofs.line.read_numbers.Given as goal

abbrev pub invariant-loop-i : goal.invariant-loop-i
invariant-loop-i l = l.numbers.items ≡ map (λ word. written word.now) (take l.i l.words)
