use Rattle.std.proofs.Common.{◌≡◌, ℕ, ◌-◌, ◌*◌, ◌/◌, ◌%◌, ◌^◌, ◌<◌}
use Rattle.bits.specs.Tables.{at}
use Rattle.windows.proofs.blocks.spread.Given as goal

abbrev pub invariant-loop-t : goal.invariant-loop-t
invariant-loop-t l = (i : ℕ) → i < l.t → at l.out i ≡ at l.table (l.w / 2 ^ ((l.c - 1 - i) * l.b) % 2 ^ l.b)
