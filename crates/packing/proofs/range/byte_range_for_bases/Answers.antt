use Rattle.std.proofs.Common.{arith}
use Rattle.packing.proofs.Ends.{product_le, range-wide, range_start, range_end, range-fine}
use Rattle.packing.proofs.range.byte_range_for_bases.Goals.{then-start-gt-LIMIT-via-then-start-gt-LIMIT, then-start-gt-LIMIT-via-else-start-gt-LIMIT+then-end-gt-LIMIT}
use Rattle.packing.proofs.range.byte_range_for_bases.Goals as goal

pub returns-then-bits-gt8 : goal.returns-then-bits-gt8
returns-then-bits-gt8 c = let a = c.args in range-wide a.start a.end a.bits c.if-bits-gt8.true

pub returns-then-start-gt-LIMIT : goal.returns-then-start-gt-LIMIT
returns-then-start-gt-LIMIT c =
    let a = c.args in
    elim c.then-start-gt-LIMIT.branch [
      | then-start-gt-LIMIT-via-then-start-gt-LIMIT w ↦ range_start a.start a.end a.bits c.if-bits-gt8.false w.if-start-gt-LIMIT.true
      | then-start-gt-LIMIT-via-else-start-gt-LIMIT+then-end-gt-LIMIT w ↦ range_end a.start a.end a.bits c.if-bits-gt8.false w.if-start-gt-LIMIT.false w.if-end-gt-LIMIT.true
    ]

pub overflow_mul-result : goal.overflow_mul-result
overflow_mul-result c = omega (arith, product_le c.args.start c.args.bits c.if-start-gt-LIMIT.false c.if-bits-gt8.false)

pub overflow_mul-result-2 : goal.overflow_mul-result-2
overflow_mul-result-2 c = omega (arith, product_le c.args.end c.args.bits c.if-end-gt-LIMIT.false c.if-bits-gt8.false)

pub overflow_add-result : goal.overflow_add-result
overflow_add-result c = omega (arith, product_le c.args.end c.args.bits c.if-end-gt-LIMIT.false c.if-bits-gt8.false)

pub returns : goal.returns
returns c = let a = c.args in range-fine a.start a.end a.bits c.if-bits-gt8.false c.if-start-gt-LIMIT.false c.if-end-gt-LIMIT.false
