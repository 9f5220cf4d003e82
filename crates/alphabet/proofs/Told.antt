-- Symbols told by comparisons. The groups that a letter falls into were found by a search; that they hold the symbols and no other byte is computed for all 256 bytes.
use Rattle.std.proofs.Common.{◌≡◌, ℕ, ◌+◌, ◌%◌, ◌^◌, ◌<◌, min, max, Bool, true, false, cond, ◌&&◌, ◌||◌, eqb, leb, ap, ◌∙◌, arith}
use lib.Bits.{bit_and, bit_xor, and_mask}
use Rattle.bits.specs.Tables.{bytes_of}
use Rattle.bits.proofs.Computed.{below, both, alike, are_alike}
use Rattle.alphabet.specs.declared.kind.AlphabetType.TheVariants.{Dna2bit, Dna3bit, DnaIupac, Protein}
use Rattle.alphabet.specs.Symbols.{coded, dna2bit, dna3bit, dna_iupac, protein, among, listed, coding, upper, canon, coding_by}
use Rattle.alphabet.specs.Bases.{base}
use Rattle.alphabet.proofs.Folding.{base_bits, canon_lt}
use Rattle.alphabet.proofs.Laws.{member-folded}

-- ---- a letter

-- Dna2bit: the four bases
abbrev same_base : ℕ → Bool
unfolding coding listed among dna2bit coded bytes_of
same_base v = alike (base v) ((coding Dna2bit).member v)

pub dna2bit_told : (v : ℕ) → v < 256 → base v ≡ (coding Dna2bit).member v
unfolding coding listed among dna2bit coded bytes_of
dna2bit_told v h = are_alike (base v) ((coding Dna2bit).member v) (below same_base 256 tt v h)

-- Dna3bit: three groups of a byte mixed with its double
abbrev pub mixed : ℕ → ℕ
mixed v = bit_xor (max ((v + v) % 2 ^ 8) 0x8a) v

abbrev pub three_groups : ℕ → Bool
three_groups y = (eqb (bit_and y 0xdd) 0xc9 || leb 0xfc y) || eqb (bit_and y 0xdb) 0xd2

abbrev same_three : ℕ → Bool
unfolding coding listed among dna3bit coded bytes_of
same_three v = alike (three_groups (mixed v)) ((coding Dna3bit).member v)

pub dna3bit_told : (v : ℕ) → v < 256 → three_groups (mixed v) ≡ (coding Dna3bit).member v
unfolding coding listed among dna3bit coded bytes_of
dna3bit_told v h = are_alike (three_groups (mixed v)) ((coding Dna3bit).member v) (below same_three 256 tt v h)

-- DnaIupac: four groups of a byte added to itself, or to K
abbrev pub added : ℕ → ℕ
added v = (min v 0x4b + 0x3e + v) % 2 ^ 8

abbrev pub four_groups : ℕ → Bool
four_groups y = ((eqb (bit_and y 0xe5) 0xc4 || eqb (bit_and y 0xdd) 0xc0) || eqb (bit_and y 0xf3) 0xd3) || eqb y 0xdd

abbrev same_four : ℕ → Bool
unfolding coding listed among dna_iupac coded bytes_of
same_four v = alike (four_groups (added v)) ((coding DnaIupac).member v)

pub dna_iupac_told : (v : ℕ) → v < 256 → four_groups (added v) ≡ (coding DnaIupac).member v
unfolding coding listed among dna_iupac coded bytes_of
dna_iupac_told v h = are_alike (four_groups (added v)) ((coding DnaIupac).member v) (below same_four 256 tt v h)

-- ---- a byte by the choice: the bits that tell a base tell every letter

abbrev pub letter_of : Bool → ℕ → ℕ
letter_of fold v = bit_and v (cond fold 0xdf 0xff)

abbrev same_letter : ℕ → Bool
unfolding coding listed among dna3bit dna_iupac coded bytes_of upper
same_letter v =
    alike ((coding Dna3bit).member (bit_and v 0xdf)) ((coding Dna3bit).member (upper v))
    && alike ((coding DnaIupac).member (bit_and v 0xdf)) ((coding DnaIupac).member (upper v))

letter_stands : (fold : Bool) (v : ℕ) → v < 256
    → ((coding Dna3bit).member (letter_of fold v) ≡ (coding Dna3bit).member (canon fold v)) × ((coding DnaIupac).member (letter_of fold v) ≡ (coding DnaIupac).member (canon fold v))
unfolding coding listed among dna3bit dna_iupac coded bytes_of upper
letter_stands true v h =
    let a : ℕ → Bool = (coding Dna3bit).member in
    let b : ℕ → Bool = (coding DnaIupac).member in
    let t = both (alike (a (bit_and v 0xdf)) (a (upper v))) (alike (b (bit_and v 0xdf)) (b (upper v))) (below same_letter 256 tt v h) in
    (are_alike (a (bit_and v 0xdf)) (a (upper v)) t.0, are_alike (b (bit_and v 0xdf)) (b (upper v)) t.1)
letter_stands false v h =
    let e : bit_and v 0xff ≡ v = and_mask v 8 ∙ omega arith in
    (ap (coding Dna3bit).member e, ap (coding DnaIupac).member e)

-- Protein: a letter, or one of three signs, told by all bits of the byte
abbrev pub letter_or_sign : ℕ → ℕ → Bool
letter_or_sign x v = (leb 0x41 x && leb x 0x5a) || ((eqb v 0x2a || eqb v 0x2d) || eqb v 0x2e)

abbrev same_protein : Bool → ℕ → Bool
unfolding coding listed among protein coded bytes_of upper
same_protein fold v = alike (letter_or_sign (letter_of fold v) v) ((coding Protein).member (canon fold v))

letter_or_sign_lem : (fold : Bool) (v : ℕ) → v < 256 → letter_or_sign (letter_of fold v) v ≡ (coding Protein).member (canon fold v)
unfolding coding listed among protein coded bytes_of upper
letter_or_sign_lem true v h = are_alike (letter_or_sign (letter_of true v) v) ((coding Protein).member (upper v)) (below (same_protein true) 256 tt v h)
letter_or_sign_lem false v h = are_alike (letter_or_sign (letter_of false v) v) ((coding Protein).member v) (below (same_protein false) 256 tt v h)

-- ---- what is told is that the alphabet takes the byte

module _ (fold : Bool) (v : ℕ) (h : v < 256) where
  pub dna2bit_takes : base (letter_of fold v) ≡ (coding_by fold Dna2bit).member v
  dna2bit_takes = base_bits fold v h ∙ dna2bit_told (canon fold v) (canon_lt fold v h) ∙ member-folded fold Dna2bit v

  pub dna3bit_takes : (coding Dna3bit).member (letter_of fold v) ≡ (coding_by fold Dna3bit).member v
  dna3bit_takes = (letter_stands fold v h).0 ∙ member-folded fold Dna3bit v

  pub dna_iupac_takes : (coding DnaIupac).member (letter_of fold v) ≡ (coding_by fold DnaIupac).member v
  dna_iupac_takes = (letter_stands fold v h).1 ∙ member-folded fold DnaIupac v

  pub protein_takes : letter_or_sign (letter_of fold v) v ≡ (coding_by fold Protein).member v
  protein_takes = letter_or_sign_lem fold v h ∙ member-folded fold Protein v
