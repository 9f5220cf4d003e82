-- the bytes before are made
use Rattle.std.proofs.Common.{◌≡◌, ℕ, ◌+◌, ◌*◌, ◌<◌, length}
use Rattle.bits.specs.Tables.{at}
use Rattle.bits.specs.Streams.{bit_at, word}
use Rattle.packing.proofs.fours.packed16.Given as goal

abbrev pub invariant-loop-j : goal.invariant-loop-j
invariant-loop-j l = record { long : length l.bytes ≡ 16; made : (k : ℕ) → k < l.j → at l.bytes k ≡ word (bit_at 2 (at l.codes)) (0 + k * 8) 8 }
