use Rattle.std.proofs.Common.{sym, ◌∙◌, arith}
use Rattle.alphabet.specs.Symbols.{coding_of}
use Rattle.members.proofs.Passing.{passed_last, passed_rest}
use Rattle.members.proofs.find.pass_last.Goals as goal
use Rattle.members.proofs.find.pass_last.Goals.{in-Some, in-None}

pub returns-then-all : goal.returns-then-all
returns-then-all c =
    let A = coding_of c.args.alphabet in
    let text = c.args.text.now in
    elim c.match-last_chunk.branch [
      | in-Some w ↦
          let last = w.in-Some.ensures.cases in
          passed_last A text c.args.passed 16 _ c.requires last.0 (omega (arith, c.if-text-passed-ge16.false)) last.1.same (sym w.are_members-all.ensures ∙ sym w.all-is ∙ c.if-all.true)
      | in-None w ↦ passed_rest A text c.args.passed c.requires (sym w.all_members-all.ensures ∙ sym w.all-is ∙ c.if-all.true)
    ]
