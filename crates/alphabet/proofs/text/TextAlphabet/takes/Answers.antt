use Rattle.std.proofs.Common.{ℕ, Bool, ◌||◌, sym, ap, ◌∙◌, ap₂, rules, lt-ltb}
use lib.Bits.{bit_and}
use Rattle.alphabet.specs.declared.kind.AlphabetType.{AlphabetType}
use Rattle.alphabet.specs.declared.kind.AlphabetType.TheVariants.{Dna3bit, DnaIupac}
use Rattle.alphabet.specs.Symbols.{coding, coding_by}
use Rattle.alphabet.specs.Bases.{base}
use Rattle.alphabet.proofs.Laws.{plain_takes}
use Rattle.alphabet.proofs.Told.{letter_or_sign, dna2bit_takes, dna3bit_takes, dna_iupac_takes, protein_takes}
use Rattle.alphabet.proofs.text.TextAlphabet.takes.Goals as goal

pub returns-in-Dna2bit : goal.returns-in-Dna2bit
returns-in-Dna2bit c =
    let a = c.args in
    c.is_base.ensures
    ∙ ap (λ (n : ℕ). base (bit_and a.byte n)) c.telling_bits.ensures
    ∙ dna2bit_takes a.self.fold a.byte (search rules)
    ∙ ap (λ (k : AlphabetType). (coding_by a.self.fold k).member a.byte) (sym c.in-Dna2bit.is)

pub returns-in-Dna3bit : goal.returns-in-Dna3bit
returns-in-Dna3bit c =
    let a = c.args in
    c.is_dna3bit.ensures
    ∙ ap (λ (n : ℕ). (coding Dna3bit).member (bit_and a.byte n)) c.telling_bits.ensures
    ∙ dna3bit_takes a.self.fold a.byte (search rules)
    ∙ ap (λ (k : AlphabetType). (coding_by a.self.fold k).member a.byte) (sym c.in-Dna3bit.is)

pub returns-in-DnaIupac : goal.returns-in-DnaIupac
returns-in-DnaIupac c =
    let a = c.args in
    c.is_dna_iupac.ensures
    ∙ ap (λ (n : ℕ). (coding DnaIupac).member (bit_and a.byte n)) c.telling_bits.ensures
    ∙ dna_iupac_takes a.self.fold a.byte (search rules)
    ∙ ap (λ (k : AlphabetType). (coding_by a.self.fold k).member a.byte) (sym c.in-DnaIupac.is)

pub returns-in-Protein : goal.returns-in-Protein
returns-in-Protein c =
    let a = c.args in
    ap₂ (λ (x y : Bool). x || y) c.is_letter.ensures c.is_sign.ensures
    ∙ ap (λ (n : ℕ). letter_or_sign (bit_and a.byte n) a.byte) c.telling_bits.ensures
    ∙ protein_takes a.self.fold a.byte (search rules)
    ∙ ap (λ (k : AlphabetType). (coding_by a.self.fold k).member a.byte) (sym c.in-Protein.is)

pub returns-in-Ascii : goal.returns-in-Ascii
returns-in-Ascii c =
    let a = c.args in
    sym (lt-ltb a.byte 256 (search rules)) ∙ sym (plain_takes a.self.fold a.self.kind a.byte c.in-Ascii.is)
