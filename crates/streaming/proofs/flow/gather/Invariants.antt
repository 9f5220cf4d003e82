use Rattle.streaming.proofs.Blocks.{Gathered}
use Rattle.streaming.proofs.flow.gather.Given as goal

abbrev pub invariant-loop-byte : goal.invariant-loop-byte
invariant-loop-byte l = Gathered l.bytes l.byte-index l.bits
