use Rattle.std.proofs.Common.{◌*◌}
use Rattle.alphabet.specs.Symbols.{coding}
use Rattle.windows.proofs.Written.{Begun}
use Rattle.windows.proofs.blocks.blocks.Given as goal

abbrev pub invariant-loop-m : goal.invariant-loop-m
invariant-loop-m g l = Begun (coding l.table.kind) l.lent.bytes.now l.lent.offset l.start (l.m * g.row.C) l.fn.out l.out
