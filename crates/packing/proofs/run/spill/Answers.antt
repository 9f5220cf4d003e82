use Rattle.std.proofs.Common.{◌≡◌, ℕ, ◌+◌, ◌-◌, ◌*◌, ◌<◌, ap, ◌∙◌, arith}
use Rattle.bits.specs.Tables.{tabulate}
use Rattle.bits.specs.Streams.{fields}
use Rattle.bits.specs.Memory.{put_at}
use Rattle.bits.proofs.Put.{none_filled, one_filled}
use Rattle.bits.proofs.Shifts.{byte_is}
use Rattle.packing.proofs.Blocks.{spilled, byte_above}
use Rattle.packing.proofs.run.spill.Goals as goal

pub loop-t-init : goal.loop-t-init
loop-t-init c = none_filled (spilled c.args.x c.args.p c.args.b) c.args.w c.args.out.now

pub loop-t-preserved : goal.loop-t-preserved
loop-t-preserved c =
    let a = c.args in
    let l = c.loop-t in
    let few : a.p + 8 * (a.b - 1 - l.t) < 64 = omega (arith, c.requires.0) in
    one_filled (spilled a.x a.p a.b) a.w a.out.now l.t l.out l.invariant c.byte_at.result (omega (arith, c.requires.1, c.loop-t-test.true))
    (c.byte_at.ensures ∙ byte_is few a.x ∙ byte_above a.x a.p a.b l.t)

pub returns : goal.returns
unfolding fields
returns c =
    let a = c.args in
    let all : c.loop-t.t ≡ a.b = omega (arith, c.loop-t-test.false) in
    c.loop-t.invariant ∙ ap (λ (n : ℕ). put_at a.w (tabulate n (spilled a.x a.p a.b)) a.out.now) all
