-- the bytes before are stored
use Rattle.bits.proofs.Put.{Filled}
use Rattle.packing.proofs.Blocks.{spilled}
use Rattle.packing.proofs.run.spill.Given as goal

abbrev pub invariant-loop-t : goal.invariant-loop-t
invariant-loop-t l = Filled (spilled l.x l.p l.b) l.w l.fn.out l.t l.out
