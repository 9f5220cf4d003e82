use Rattle.std.proofs.Common.{◌+◌, arith}
use Rattle.bits.specs.Tables.{at}
use Rattle.bits.proofs.Tabulated.{is_tabulate}
use Rattle.alphabet.specs.Symbols.{coding_by}
use Rattle.alphabet.specs.declared.kind.AlphabetType.TheVariants.{Dna2bit}
use Rattle.packing.specs.Encode.{digit_of}
use Rattle.packing.proofs.fours.codes_of.Goals as goal

pub returns : goal.returns
returns c =
    is_tabulate 64 (λ k. digit_of (coding_by c.args.fold Dna2bit) (at c.args.text.now (c.args.i + k))) 0 c.loop-j.code-items c.loop-j-test.array_long
    (λ k l. c.loop-j.invariant k (omega (arith, c.loop-j-test.false, c.loop-j-test.array_long)))
