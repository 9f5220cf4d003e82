use Rattle.std.proofs.Common.{◌≡◌, ℕ, ◌+◌, ◌<◌}
use Rattle.bits.specs.Tables.{at}
use Rattle.windows.proofs.plain.copy_file.Given as goal

abbrev pub invariant-loop-n : goal.invariant-loop-n
invariant-loop-n l = (i : ℕ) → i < l.n → at l.copy i ≡ at l.lent.bytes.now (l.first + i)
