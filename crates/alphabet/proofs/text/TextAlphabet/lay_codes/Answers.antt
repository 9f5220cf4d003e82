use Rattle.std.proofs.Common.{ℕ, sym, refl, subst, ap, ◌∙◌}
use Rattle.bits.specs.Tables.{tabulate, bytes_of}
use Rattle.alphabet.specs.declared.kind.AlphabetType.{AlphabetType}
use Rattle.alphabet.specs.declared.kind.AlphabetType.TheVariants.{Dna2bit, Dna3bit, DnaIupac, Protein}
use Rattle.alphabet.specs.Symbols.{coded, dna2bit, dna3bit, dna_iupac, protein, coding}
use Rattle.alphabet.proofs.Turns.{LaidBy, laid, bytes_laid, laid_folding, laid_plain}
use Rattle.alphabet.proofs.text.TextAlphabet.lay_codes.Goals as goal

pub returns-in-Dna2bit : goal.returns-in-Dna2bit
unfolding coding dna2bit coded bytes_of
returns-in-Dna2bit c =
    let t = c.args.table.now in
    let f = c.args.self.fold in
    let new = c.lay_folded.new.table in
    subst (λ (k : AlphabetType). LaidBy t f k new) (sym c.in-Dna2bit.is) (laid_folding t f Dna2bit refl _ new (laid t 2 dna2bit _ _ refl) c.lay_folded.ensures)

pub returns-in-Dna3bit : goal.returns-in-Dna3bit
unfolding coding dna3bit coded bytes_of
returns-in-Dna3bit c =
    let t = c.args.table.now in
    let f = c.args.self.fold in
    let new = c.lay_folded-in-Dna3bit.new.table in
    subst (λ (k : AlphabetType). LaidBy t f k new) (sym c.in-Dna3bit.is) (laid_folding t f Dna3bit refl _ new (laid t 3 dna3bit _ _ refl) c.lay_folded-in-Dna3bit.ensures)

pub returns-in-DnaIupac : goal.returns-in-DnaIupac
unfolding coding dna_iupac coded bytes_of
returns-in-DnaIupac c =
    let t = c.args.table.now in
    let f = c.args.self.fold in
    let new = c.lay_folded-in-DnaIupac.new.table in
    subst (λ (k : AlphabetType). LaidBy t f k new) (sym c.in-DnaIupac.is) (laid_folding t f DnaIupac refl _ new (laid t 4 dna_iupac _ _ refl) c.lay_folded-in-DnaIupac.ensures)

pub returns-in-Protein : goal.returns-in-Protein
unfolding coding protein coded bytes_of
returns-in-Protein c =
    let t = c.args.table.now in
    let f = c.args.self.fold in
    let new = c.lay_folded-in-Protein.new.table in
    subst (λ (k : AlphabetType). LaidBy t f k new) (sym c.in-Protein.is) (laid_folding t f Protein refl _ new (laid t 5 protein _ _ refl) c.lay_folded-in-Protein.ensures)

pub returns-in-Ascii : goal.returns-in-Ascii
returns-in-Ascii c =
    let a = c.args in
    let bytes = c.lay_bytes.ensures ∙ ap (λ (n : ℕ). tabulate n (λ v. v)) c.told-table in
    laid_plain a.table.now a.self.fold a.self.kind c.in-Ascii.is c.lay_bytes.new.table (bytes_laid a.table.now c.lay_bytes.new.table bytes)
