-- the blocks before are packed
use Rattle.std.proofs.Common.{◌≡◌, ◌*◌}
use Rattle.bits.specs.Tables.{at}
use Rattle.bits.specs.Streams.{bit_at, cut}
use Rattle.bits.specs.Memory.{put_at}
use Rattle.packing.specs.Run.{looked}
use Rattle.packing.proofs.run.eights.Given as goal

abbrev pub invariant-loop-k : goal.invariant-loop-k
invariant-loop-k l = l.out ≡ put_at 0 (cut 8 (bit_at l.b (at (looked l.table l.text))) 0 (l.k * l.b)) l.fn.out
