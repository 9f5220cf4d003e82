-- the digits before are one number
use Rattle.std.proofs.Common.{◌≡◌, ◌*◌}
use Rattle.bits.specs.Tables.{at}
use Rattle.bits.specs.Streams.{bit_at, word}
use Rattle.packing.specs.Run.{looked}
use Rattle.packing.proofs.run.four_of.Given as goal

abbrev pub invariant-loop-byte : goal.invariant-loop-byte
invariant-loop-byte l = l.x ≡ word (bit_at l.b (at (looked l.table l.text))) (l.i * l.b) (l.byte-index * l.b)
