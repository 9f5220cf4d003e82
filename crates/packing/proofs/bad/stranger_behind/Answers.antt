use Rattle.alphabet.specs.Symbols.{coding_of}
use Rattle.members.proofs.Passing.{passed_all, behind_some, behind_none}
use Rattle.packing.proofs.bad.stranger_behind.Goals as goal

pub returns-then-text-passed : goal.returns-then-text-passed
returns-then-text-passed c = passed_all (coding_of c.args.alphabet) c.args.text.now c.args.passed c.if-text-passed.true c.requires

pub returns-in_err-next : goal.returns-in_err-next
returns-in_err-next c = rw c.from_residual.ensures (behind_none (coding_of c.args.alphabet) c.args.text.now c.args.passed c.requires c.in_err-next.ensures)

pub returns : goal.returns
returns c = behind_some (coding_of c.args.alphabet) c.args.text.now c.args.passed _ c.requires c.in_ok-next.ensures.0 c.in_ok-next.ensures.1
