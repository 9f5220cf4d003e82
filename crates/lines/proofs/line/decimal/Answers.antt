use Rattle.std.proofs.Common.{◌-◌, arith, take, ◌∙◌, ap}
use lib.Seq.{take_at}
use Rattle.lines.proofs.Spelling.{decimal-numeral}
use Rattle.lines.proofs.line.decimal.Goals as goal

pub returns : goal.returns
returns c =
    let w = c.write_digits-start.ensures in
    ap (take (20 - c.write_digits-start.result)) w.written
    ∙ take_at _ _ (20 - c.write_digits-start.result) (omega (arith, w.start))
    ∙ decimal-numeral c.args.number c.ranges.number.fits
