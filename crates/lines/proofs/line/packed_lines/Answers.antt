use Rattle.std.proofs.Common.{◌≡◌, ◌++◌, arith, ◌∙◌, ap}
use Rattle.lines.specs.Lines.{packed_lines_of, put_memory}
use Rattle.lines.proofs.Parts.{three_over}
use Rattle.lines.proofs.line.packed_lines.Goals as goal

-- that memory is taken for the whole line
pub fill_hex_line-requires : goal.fill_hex_line-requires
fill_hex_line-requires c = c.in_ok-rest-2.ensures.cases.1

pub returns-clause-memory : goal.returns-clause-memory
unfolding packed_lines_of
returns-clause-memory c =
    let memory = c.args.out.now in
    let k = c.args.kind in
    let first = c.in_ok-out.ensures.cases in
    let second = c.in_ok-rest.ensures.cases in
    let third = c.in_ok-rest-2.ensures.cases in
    let a = c.fill_line.new.out in
    let b = c.fill_line-2.new.out in
    let d = c.fill_hex_line.new.out in
    let made : a ++ (b ++ d) ≡ packed_lines_of k c.args.count c.args.packed.now = cc in
    three_over a b d memory c.in_ok-out.first.now c.in_ok-rest.second.now c.in_ok-rest-2.third.now c.in_ok-rest-2.field-0-1.now (cc) (omega arith) (omega arith) (omega arith)
    ∙ ap (λ text. put_memory text memory) made
