-- of both halves as many blocks are passed
use Rattle.alphabet.specs.Symbols.{coding_of}
use Rattle.members.proofs.Passing.{Halves}
use Rattle.members.proofs.find.pass_halves.Given as goal

abbrev pub invariant-loop-k : goal.invariant-loop-k
invariant-loop-k l = Halves (coding_of l.alphabet) l.text l.half l.k
