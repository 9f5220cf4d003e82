use Rattle.std.proofs.Common.{◌≡◌, ◌++◌, arith, ◌∙◌, ap}
use Rattle.bits.specs.Tables.{bytes_of}
use Rattle.lines.specs.Lines.{refused_line_of, put_memory}
use Rattle.lines.proofs.Made.{refused_parts}
use Rattle.lines.proofs.Parts.{two_over}
use Rattle.lines.proofs.line.refused_line.Goals as goal

pub returns-clause-memory : goal.returns-clause-memory
unfolding bytes_of
returns-clause-memory c =
    let memory = c.args.out.now in
    let first = c.in_ok-out.ensures.cases in
    let second = c.in_ok-rest.ensures.cases in
    let made : c.copy_from_slice.new.self ++ c.fill_line.new.out ≡ refused_line_of c.args.refusal = cc (refused_parts c.args.refusal) in
    two_over c.copy_from_slice.new.self c.fill_line.new.out memory c.in_ok-out.first.now c.in_ok-rest.second.now c.in_ok-rest.field-0-1.now (cc) (omega arith) (omega arith)
    ∙ ap (λ text. put_memory text memory) made
