use Rattle.std.proofs.Common.{ℕ, ◌≡◌, ◌<◌}
use Rattle.bits.specs.Tables.{at}
use Rattle.bits.proofs.Blocks.{entry_at}
use Rattle.streaming.specs.Symbols.{decoding}
use Rattle.streaming.proofs.symbols.SinglesSymbols.put_block.Given as goal

abbrev pub invariant-loop-t : goal.invariant-loop-t
invariant-loop-t g l = (k : ℕ) → k < l.t → at l.block k ≡ entry_at (decoding l.self.table.kind) g.row.B 8 l.codes k
