use Rattle.std.proofs.Common.{◌*◌}
use Rattle.alphabet.specs.Symbols.{folded}
use Rattle.alphabet.specs.Bases.{Bases}
use Rattle.alphabet.proofs.bases.pass_run.Given as goal

-- the blocks before this one are bases
abbrev pub invariant-loop-k : goal.invariant-loop-k
invariant-loop-k l = Bases (folded l.fn.fold l.fn.text) 0 (l.k * 64)
