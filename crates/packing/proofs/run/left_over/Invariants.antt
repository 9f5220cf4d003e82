-- the symbols before, behind what pends
use Rattle.std.proofs.Common.{◌≡◌, ◌+◌, ◌*◌}
use Rattle.bits.specs.Packing.{at_hand}
use Rattle.packing.specs.Run.{looked}
use Rattle.packing.proofs.Turns.{trailed}
use Rattle.packing.proofs.run.left_over.Given as goal

abbrev pub invariant-loop-byte : goal.invariant-loop-byte
invariant-loop-byte l = l.acc ≡ trailed (at_hand l.p l.a l.b (looked l.table l.text)) l.a (l.p + l.from * l.b) (l.byte-index * l.b)
