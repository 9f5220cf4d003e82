use Rattle.std.proofs.Common.{◌≡◌, ◌*◌}
use Rattle.bits.specs.Tables.{at}
use Rattle.bits.specs.Streams.{bit_at, word}
use Rattle.windows.proofs.blocks.number.Given as goal

abbrev pub invariant-loop-byte : goal.invariant-loop-byte
invariant-loop-byte l = l.all ≡ word (bit_at 8 (at l.bytes)) 0 (l.byte-index * 8)
