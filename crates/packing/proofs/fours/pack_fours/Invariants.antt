-- the blocks before are packed
use Rattle.packing.proofs.TwoBits.{Packed}
use Rattle.packing.proofs.fours.pack_fours.Given as goal

abbrev pub invariant-loop-b : goal.invariant-loop-b
invariant-loop-b l = Packed l.fold l.text l.fn.out l.b l.out
