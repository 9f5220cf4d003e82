-- Examples of digits and lines, computed.
use mathlib.Core.Path.{◌≡◌, refl}
use mathlib.Core.List.{[], ◌∷◌}
use Rattle.bits.specs.Tables.{bytes_of}
use Rattle.alphabet.specs.Questions.{by}
use Rattle.alphabet.specs.declared.kind.AlphabetType.TheVariants.{Dna2bit}
use Rattle.alphabet.proofs.Calls.{names}
use Rattle.lines.specs.Digits.{digit, decimal_in, decimal, hex}
use Rattle.lines.specs.Lines.{line, packed_lines_of, refused_line_of}

-- among them document 01's example for `packseq`
pub record Examples : Type 0 where
  pub zero_digit : decimal 0 ≡ bytes_of "0"
  pub two_digits : decimal 10 ≡ bytes_of "10"
  pub five_digits : decimal 16384 ≡ bytes_of "16384"
  pub twenty_digits : decimal 18446744073709551615 ≡ bytes_of "18446744073709551615"
  pub in_hex : hex (0x00 ∷ 0x09 ∷ 0x9c ∷ 0xaf ∷ []) ≡ bytes_of "00099caf"
  pub packed : packed_lines_of Dna2bit 4 (0x9c ∷ []) ≡ bytes_of "dna2bit\n4\n9c\n"
  pub empty : packed_lines_of Dna2bit 0 [] ≡ bytes_of "dna2bit\n0\n\n"
  pub refused : refused_line_of (by 4 []) ≡ bytes_of "refused 4\n"

pub examples : Examples
unfolding digit decimal_in decimal hex line packed_lines_of refused_line_of bytes_of
examples =
    record {
      zero_digit = refl;
      two_digits = refl;
      five_digits = refl;
      twenty_digits = refl;
      in_hex = refl;
      packed = rw names.of_dna2bit;
      empty = rw names.of_dna2bit;
      refused = refl;
    }
