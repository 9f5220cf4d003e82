use Rattle.std.proofs.Common.{◌≡◌, ℕ, ◌+◌, ◌<◌}
use Rattle.bits.specs.Tables.{at}
use Rattle.alphabet.specs.Symbols.{coding}
use Rattle.windows.proofs.Windows.{base_at}
use Rattle.windows.proofs.blocks.singles.Given as goal

abbrev pub invariant-loop-n : goal.invariant-loop-n
invariant-loop-n l = (i : ℕ) → i < l.n → at l.out i ≡ base_at (coding l.table.kind) l.lent.bytes.now l.lent.offset (l.start + i)
