use Rattle.alphabet.specs.Symbols.{coding}
use Rattle.alphabet.specs.declared.kind.AlphabetType.TheVariants.{Protein}
use Rattle.windows.specs.Workers.{Passes}
use Rattle.windows.proofs.lacking.first_alone.Given as goal

abbrev pub invariant-loop-i : goal.invariant-loop-i
invariant-loop-i l = Passes (coding Protein) l.lent.bytes.now l.lent.offset l.start l.i l.end
