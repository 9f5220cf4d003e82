use Rattle.std.proofs.Common.{◌≡◌, length}
use Rattle.streaming.specs.Symbols.{decoding, Paired}
use Rattle.streaming.proofs.symbols.Singles.paired.Given as goal

abbrev pub invariant-loop-v : goal.invariant-loop-v
invariant-loop-v g l = (length l.rows ≡ 1024) × Paired (decoding l.self.table.kind) g.row.B l.v l.rows
