use Rattle.alphabet.specs.Symbols.{coding_of}
use Rattle.members.proofs.Passing.{passed_behind}
use Rattle.members.proofs.find.pass_many.Goals as goal

pub returns : goal.returns
returns c =
    let A = coding_of c.args.alphabet in
    let text = c.args.text.now in
    passed_behind A text _ _ (passed_behind A text _ _ c.pass_halves-side.ensures c.pass.ensures) c.pass-2.ensures
