use Rattle.std.proofs.Common.{sym, ap}
use Rattle.bits.specs.Tables.{bytes_of}
use Rattle.alphabet.specs.Names.{display_name_of}
use Rattle.alphabet.proofs.kind.AlphabetType.display_name.Goals as goal

pub returns-in-Dna2bit : goal.returns-in-Dna2bit
unfolding display_name_of bytes_of
returns-in-Dna2bit c = ap display_name_of (sym c.in-Dna2bit.is)

pub returns-in-Dna3bit : goal.returns-in-Dna3bit
unfolding display_name_of bytes_of
returns-in-Dna3bit c = ap display_name_of (sym c.in-Dna3bit.is)

pub returns-in-DnaIupac : goal.returns-in-DnaIupac
unfolding display_name_of bytes_of
returns-in-DnaIupac c = ap display_name_of (sym c.in-DnaIupac.is)

pub returns-in-Protein : goal.returns-in-Protein
unfolding display_name_of bytes_of
returns-in-Protein c = ap display_name_of (sym c.in-Protein.is)

pub returns-in-Ascii : goal.returns-in-Ascii
unfolding display_name_of bytes_of
returns-in-Ascii c = ap display_name_of (sym c.in-Ascii.is)

pub returns-in-Unknown : goal.returns-in-Unknown
unfolding display_name_of bytes_of
returns-in-Unknown c = ap display_name_of (sym c.in-Unknown.is)
