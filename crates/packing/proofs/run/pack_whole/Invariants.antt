use Rattle.std.proofs.Common.{◌≡◌, ◌++◌, drop}
use Rattle.bits.specs.Tables.{tabulate, at}
use Rattle.packing.proofs.run.pack_whole.Given as goal

abbrev pub invariant-loop-n : goal.invariant-loop-n
invariant-loop-n l = l.out ≡ tabulate l.n (at l.text) ++ drop l.n l.fn.out
