use Rattle.std.proofs.Common.{sym, ◌∙◌, rules}
use Rattle.alphabet.specs.Symbols.{coding_of}
use Rattle.members.proofs.Passing.{passed_all, plain_passed, stranger_next, stranger_none}
use Rattle.members.proofs.find.first_stranger.Goals as goal

pub returns-in-Ascii : goal.returns-in-Ascii
returns-in-Ascii c = passed_all (coding_of c.args.alphabet) c.args.text.now _ (search rules)
    (plain_passed c.args.alphabet.fold c.args.alphabet.kind c.args.text.now (λ i. (c.type_inv.text i).fits) c.in-Ascii.is)

pub returns-then-text-many : goal.returns-then-text-many
returns-then-text-many c = passed_all (coding_of c.args.alphabet) c.args.text.now _ c.if-text-many.true c.pass_many-many.ensures

pub returns-in_err-next : goal.returns-in_err-next
returns-in_err-next c =
    let none = stranger_none (coding_of c.args.alphabet) c.args.text.now _ c.pass_last-passed.ensures (sym c.in_err-next.was ∙ c.next_stranger.ensures) in
    rw c.from_residual.ensures none

pub returns : goal.returns
returns c = stranger_next (coding_of c.args.alphabet) c.args.text.now _ _ c.pass_last-passed.ensures (sym c.in_ok-next.was ∙ c.next_stranger.ensures)
