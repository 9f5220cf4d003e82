use Rattle.std.proofs.Common.{sym, ap}
use Rattle.alphabet.specs.declared.kind.AlphabetType.{AlphabetType}
use Rattle.alphabet.specs.Symbols.{coding, listed, plain}
use Rattle.alphabet.proofs.kind.AlphabetType.bits_per_symbol.Goals as goal

pub returns-in-Dna2bit : goal.returns-in-Dna2bit
unfolding coding listed plain
returns-in-Dna2bit c = ap (λ (k : AlphabetType). (coding k).width) (sym c.in-Dna2bit.is)

pub returns-in-Dna3bit : goal.returns-in-Dna3bit
unfolding coding listed plain
returns-in-Dna3bit c = ap (λ (k : AlphabetType). (coding k).width) (sym c.in-Dna3bit.is)

pub returns-in-DnaIupac : goal.returns-in-DnaIupac
unfolding coding listed plain
returns-in-DnaIupac c = ap (λ (k : AlphabetType). (coding k).width) (sym c.in-DnaIupac.is)

pub returns-in-Protein : goal.returns-in-Protein
unfolding coding listed plain
returns-in-Protein c = ap (λ (k : AlphabetType). (coding k).width) (sym c.in-Protein.is)

pub returns-in-Ascii : goal.returns-in-Ascii
unfolding coding listed plain
returns-in-Ascii c = ap (λ (k : AlphabetType). (coding k).width) (sym c.in-Ascii.is)

pub returns-in-Unknown : goal.returns-in-Unknown
unfolding coding listed plain
returns-in-Unknown c = ap (λ (k : AlphabetType). (coding k).width) (sym c.in-Unknown.is)
