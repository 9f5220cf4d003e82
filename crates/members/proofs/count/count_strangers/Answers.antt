use Rattle.std.proofs.Common.{sym, ap, ◌∙◌}
use Rattle.alphabet.specs.declared.kind.AlphabetType.{AlphabetType}
use Rattle.alphabet.specs.Symbols.{coding_by, coding_of}
use Rattle.members.specs.Members.{bad_in}
use Rattle.members.proofs.Laws.{bad_none}
use Rattle.members.proofs.Passing.{plain_passed}
use Rattle.members.proofs.count.count_strangers.Goals as goal

pub returns-in-Dna2bit : goal.returns-in-Dna2bit
returns-in-Dna2bit c = c.count.ensures ∙ ap (λ (k : AlphabetType). bad_in (coding_by c.args.alphabet.fold k) c.args.text.now) (sym c.in-Dna2bit.is)

pub returns-in-Dna3bit : goal.returns-in-Dna3bit
returns-in-Dna3bit c = c.count-in-Dna3bit.ensures ∙ ap (λ (k : AlphabetType). bad_in (coding_by c.args.alphabet.fold k) c.args.text.now) (sym c.in-Dna3bit.is)

pub returns-in-DnaIupac : goal.returns-in-DnaIupac
returns-in-DnaIupac c = c.count-in-DnaIupac.ensures ∙ ap (λ (k : AlphabetType). bad_in (coding_by c.args.alphabet.fold k) c.args.text.now) (sym c.in-DnaIupac.is)

pub returns-in-Protein : goal.returns-in-Protein
returns-in-Protein c = c.count-in-Protein.ensures ∙ ap (λ (k : AlphabetType). bad_in (coding_by c.args.alphabet.fold k) c.args.text.now) (sym c.in-Protein.is)

pub returns-in-Ascii : goal.returns-in-Ascii
returns-in-Ascii c =
    let p = plain_passed c.args.alphabet.fold c.args.alphabet.kind c.args.text.now (λ i. (c.type_inv.text i).fits) c.in-Ascii.is in
    sym (bad_none (coding_of c.args.alphabet) c.args.text.now p.members)
