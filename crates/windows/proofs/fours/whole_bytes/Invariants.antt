use Rattle.std.proofs.Common.{◌*◌}
use Rattle.alphabet.specs.Symbols.{coding}
use Rattle.alphabet.specs.declared.kind.AlphabetType.TheVariants.{Dna2bit}
use Rattle.windows.proofs.Written.{Begun}
use Rattle.windows.proofs.fours.whole_bytes.Given as goal

abbrev pub invariant-loop-n : goal.invariant-loop-n
invariant-loop-n l = Begun (coding Dna2bit) l.lent.bytes.now l.lent.offset (l.first * 4) (l.n * 4) l.fn.out l.out
