use Rattle.std.proofs.Common.{ℕ, ◌+◌, ◌-◌, ◌*◌, ◌/◌, ◌%◌, ◌^◌, ap, ◌∙◌, arith}
use Rattle.bits.specs.Tables.{at}
use Rattle.bits.specs.Streams.{fields}
use Rattle.bits.specs.Memory.{put_at}
use Rattle.packing.specs.Run.{looked}
use Rattle.packing.proofs.Eights.{eight_of, eight_put}
use Rattle.packing.proofs.run.put_eight.Goals as goal

-- the eight are one number, which fits a word
pub overflow_add-all : goal.overflow_add-all
overflow_add-all c =
    let a = c.args in
    omega (arith, (eight_of a.b (at (looked a.table.now a.text.now)) c.requires.0 a.i c.four_of-first.result c.four_of.result c.four_of-first.ensures c.four_of.ensures).1)

pub returns : goal.returns
returns c =
    let a = c.args in
    let f : ℕ → ℕ = at (looked a.table.now a.text.now) in
    let t : ℕ = c.saturating_sub-t.result in
    let eight = eight_of a.b f c.requires.0 a.i c.four_of-first.result c.four_of.result c.four_of-first.ensures c.four_of.ensures in
    c.spill-2.ensures
    ∙ ap (put_at (a.w + t) (fields 8 (a.b - t) ((c.four_of-first.result * 2 ^ (4 * a.b) % 2 ^ 64 + c.four_of.result) / 2 ^ 0))) c.spill.ensures
    ∙ eight_put a.b f c.requires.0 a.i a.w t c.four_of-first.result _ a.out.now c.saturating_sub-t.ensures c.requires.1.1.0 c.four_of-first.ensures eight.0
