-- the symbols before are packed
use Rattle.bits.specs.Packing.{at_hand}
use Rattle.bits.proofs.Rolling.{Rolled}
use Rattle.packing.specs.Run.{looked}
use Rattle.packing.proofs.run.pack_rolling.Given as goal

abbrev pub invariant-loop-byte : goal.invariant-loop-byte
invariant-loop-byte l = Rolled (at_hand l.p0 l.a0 l.b (looked l.table l.text)) l.b l.p0 l.fn.out l.byte-index l.acc l.p l.w l.out
