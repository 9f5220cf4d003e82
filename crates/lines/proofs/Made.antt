-- How long each function's lines are.
use mathlib.Core.Path.{◌≡◌, refl, sym, subst}
use mathlib.Core.List.{List, [], ◌∷◌, ◌++◌, append_assoc}
use Prim.Native.Nat.{ℕ, ◌+◌, ◌*◌, ◌≤◌}
use native.Mathlib.Omega.{arith}
use lib.ListN.{length, length-append}
use lib.Dec.{lit≤}
use Rattle.bits.specs.Tables.{bytes_of}
use Rattle.alphabet.specs.Questions.{refusal_reply, number_in}
use Rattle.alphabet.specs.Names.{display_name_of}
use Rattle.alphabet.specs.declared.kind.AlphabetType.{AlphabetType}
use Rattle.alphabet.specs.declared.kind.AlphabetType.TheVariants.{Dna2bit, Dna3bit, DnaIupac, Protein, Ascii, Unknown}
use Rattle.alphabet.specs.declared.refusal.Refusal.{Refusal}
use Rattle.alphabet.proofs.Calls.{names}
use Rattle.lines.specs.Digits.{decimal, hex}
use Rattle.lines.specs.Lines.{line, packed_lines_of, refused_line_of}
use Rattle.lines.proofs.Spelling.{decimal_short, hex-length}
use Rattle.lines.proofs.Parts.{line_length, whole_count, whole_memory, short_count, short_memory}

-- ---- a refusal

abbrev pub refused_word : List ℕ
refused_word = bytes_of "refused "

eight : length refused_word ≡ 8
unfolding bytes_of
eight = refl

pub refused_length : (q : Refusal) → length (refused_line_of q) ≡ 9 + length (decimal (number_in (refusal_reply q)))
unfolding refused_line_of
refused_length q =
    let digits : List ℕ = decimal (number_in (refusal_reply q)) in
    omega (arith, line_length (refused_word ++ digits), length-append refused_word digits, eight)

-- its two parts
pub refused_parts : (q : Refusal) → refused_word ++ line (decimal (number_in (refusal_reply q))) ≡ refused_line_of q
unfolding refused_line_of line
refused_parts q = sym (append_assoc refused_word (decimal (number_in (refusal_reply q))) (10 ∷ []))

-- ---- a packing

pub name_short : (k : AlphabetType) → length (display_name_of k) ≤ 7
unfolding bytes_of
name_short = short
  where
    told : (k : AlphabetType) (word : List ℕ) → display_name_of k ≡ word → length word ≤ 7 → length (display_name_of k) ≤ 7
    told k word e h = subst (λ (w : List ℕ). length w ≤ 7) (sym e) h

    short : (k : AlphabetType) → length (display_name_of k) ≤ 7
    short Dna2bit = told Dna2bit _ names.of_dna2bit (lit≤ tt)
    short Dna3bit = told Dna3bit _ names.of_dna3bit (lit≤ tt)
    short DnaIupac = told DnaIupac _ names.of_dna_iupac (lit≤ tt)
    short Protein = told Protein _ names.of_protein (lit≤ tt)
    short Ascii = told Ascii _ names.of_ascii (lit≤ tt)
    short Unknown = told Unknown _ names.of_unknown (lit≤ tt)

module _ (k : AlphabetType) where
  pub packed_length :
      (count : ℕ) (packed : List ℕ)
      → length (packed_lines_of k count packed) ≡ length (display_name_of k) + length (decimal count) + 2 * length packed + 3
  unfolding packed_lines_of
  packed_length count packed =
      omega (
        arith,
        length-append (line (display_name_of k)) (line (decimal count) ++ line (hex packed)),
        length-append (line (decimal count)) (line (hex packed)),
        line_length (display_name_of k),
        line_length (decimal count),
        line_length (hex packed),
        hex-length packed,
      )

-- ---- the most bytes that lines can have

pub refused-most : (q : Refusal) → length (refused_line_of q) ≤ 29
refused-most q = omega (arith, refused_length q, decimal_short (number_in (refusal_reply q)))

pub packed-most : (k : AlphabetType) (count : ℕ) (packed : List ℕ) → length (packed_lines_of k count packed) ≤ 30 + 2 * length packed
packed-most k count packed = omega (arith, packed_length k count packed, name_short k, decimal_short count)

-- for the functions that put them
pub ruleset refused_put = (whole_count, whole_memory, short_count, short_memory, line_length, refused_length)

pub ruleset packed_put = (whole_count, whole_memory, short_count, short_memory, line_length, hex-length, packed_length, name_short)
