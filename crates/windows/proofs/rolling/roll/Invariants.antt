use Rattle.std.proofs.Common.{◌≡◌, ℕ, ◌+◌, ◌*◌, ◌<◌, get_or}
use Rattle.bits.specs.Packing.{file_byte}
use Rattle.alphabet.specs.Symbols.{coding}
use Rattle.windows.specs.Workers.{Holds}
use Rattle.windows.proofs.Windows.{base_at}
use Rattle.windows.proofs.rolling.roll.Given as goal

abbrev pub invariant-loop-base : goal.invariant-loop-base
invariant-loop-base l =
    (l.held.have < 8)
    × Holds (file_byte l.lent.bytes.now l.lent.offset) ((l.start + l.base-index) * l.b) l.held
    × ((i : ℕ) → i < l.base-index → get_or l.out i 0 ≡ base_at (coding l.table.kind) l.lent.bytes.now l.lent.offset (l.start + i))
