use Rattle.std.proofs.Common.{◌≡◌, true, sym, subst}
use Rattle.alphabet.specs.Symbols.{coding}
use Rattle.alphabet.specs.declared.kind.AlphabetType.{AlphabetType}
use Rattle.windows.specs.Window.{covers}
use Rattle.windows.specs.Workers.{FirstLacking}
use Rattle.windows.proofs.Assigned.{lacking_none, rest_lent, covered-lent, others_pass, first_past}
use Rattle.windows.proofs.lacking.first_lacking.Goals as goal

pub pass_many-many-requires : goal.pass_many-many-requires
pass_many-many-requires c =
    let a = c.args in
    covered-lent c.requires.0 (subst (λ (k : AlphabetType). covers (coding k) a.lent.now.bytes.now a.lent.now.offset a.start a.end ≡ true) c.in-Protein.is c.requires.1)

pub pass_rest-rest-requires : goal.pass_rest-rest-requires
pass_rest-rest-requires c =
    let a = c.args in
    let p = c.pass_many-many.ensures in
    rest_lent (covered-lent c.requires.0 (subst (λ (k : AlphabetType). covers (coding k) a.lent.now.bytes.now a.lent.now.offset a.start a.end ≡ true) c.in-Protein.is c.requires.1)) p.from p.to

pub returns-in-Protein : goal.returns-in-Protein
returns-in-Protein c =
    let a = c.args in
    subst (λ (k : AlphabetType). FirstLacking (coding k) a.lent.now.bytes.now a.lent.now.offset a.start a.end c.first_alone.result) (sym c.in-Protein.is)
    (first_past _ _ _ _ _ _ _ c.pass_many-many.ensures (first_past _ _ _ _ _ _ _ c.pass_rest-rest.ensures c.first_alone.ensures))

pub returns-in_default : goal.returns-in_default
returns-in_default c =
    let a = c.args in
    lacking_none (coding a.kind) _ _ (others_pass a.kind c.in_default.not-Protein a.lent.now.bytes.now a.lent.now.offset a.start a.end c.requires.0.order)
