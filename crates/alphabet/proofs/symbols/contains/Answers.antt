use Rattle.std.proofs.Common.{sym, ap, ◌∙◌, rules, lt-ltb}
use Rattle.bits.specs.Tables.{bytes_of}
use Rattle.alphabet.specs.declared.kind.AlphabetType.{AlphabetType}
use Rattle.alphabet.specs.Symbols.{Coding, coded, dna2bit, dna3bit, dna_iupac, protein, listed, plain, coding}
use Rattle.alphabet.proofs.Laws.{plain_kind}
use Rattle.alphabet.proofs.Turns.{any_among}
use Rattle.alphabet.proofs.symbols.contains.Goals as goal

pub returns-in-Dna2bit : goal.returns-in-Dna2bit
unfolding coding listed dna2bit coded bytes_of
returns-in-Dna2bit c = c.is_listed.ensures ∙ any_among dna2bit c.args.byte ∙ ap (λ (k : AlphabetType). (coding k).member c.args.byte) (sym c.in-Dna2bit.is)

pub returns-in-Dna3bit : goal.returns-in-Dna3bit
unfolding coding listed dna3bit coded bytes_of
returns-in-Dna3bit c = c.is_listed-in-Dna3bit.ensures ∙ any_among dna3bit c.args.byte ∙ ap (λ (k : AlphabetType). (coding k).member c.args.byte) (sym c.in-Dna3bit.is)

pub returns-in-DnaIupac : goal.returns-in-DnaIupac
unfolding coding listed dna_iupac coded bytes_of
returns-in-DnaIupac c = c.is_listed-in-DnaIupac.ensures ∙ any_among dna_iupac c.args.byte ∙ ap (λ (k : AlphabetType). (coding k).member c.args.byte) (sym c.in-DnaIupac.is)

pub returns-in-Protein : goal.returns-in-Protein
unfolding coding listed protein coded bytes_of
returns-in-Protein c = c.is_listed-in-Protein.ensures ∙ any_among protein c.args.byte ∙ ap (λ (k : AlphabetType). (coding k).member c.args.byte) (sym c.in-Protein.is)

pub returns-in-Ascii : goal.returns-in-Ascii
unfolding plain
returns-in-Ascii c = sym (lt-ltb c.args.byte 256 (search rules)) ∙ ap (λ (A : Coding). A.member c.args.byte) (sym (plain_kind c.in-Ascii.is))
