-- the bytes before the block, and those behind the last one
use Rattle.alphabet.specs.Symbols.{coding_of}
use Rattle.members.proofs.Passing.{Counted}
use Rattle.members.proofs.count.count.Given as goal

abbrev pub invariant-loop-block : goal.invariant-loop-block
invariant-loop-block l = Counted (coding_of l.alphabet) l.text l.block-index l.sum
