use Rattle.std.proofs.Common.{◌+◌, ◌*◌}
use Rattle.alphabet.specs.Symbols.{coding}
use Rattle.alphabet.specs.declared.kind.AlphabetType.TheVariants.{Protein}
use Rattle.windows.specs.Workers.{Passes}
use Rattle.windows.proofs.lacking.pass_many.Given as goal

abbrev pub invariant-loop-n : goal.invariant-loop-n
invariant-loop-n l = Passes (coding Protein) l.lent.bytes.now l.lent.offset l.start (l.start + l.n * 8) l.end
