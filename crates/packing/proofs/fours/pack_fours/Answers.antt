use Rattle.std.proofs.Common.{refl, ◌≡◌, ℕ, ◌+◌, ◌*◌, ◌/◌, ◌≤◌, ◌∙◌, subst, length, arith}
use Rattle.packing.proofs.TwoBits.{Packed, none_packed, more_packed, blocks_ran}
use Rattle.packing.proofs.fours.pack_fours.Goals as goal

pub loop-b-init : goal.loop-b-init
loop-b-init c = none_packed c.args.fold c.args.text.now c.args.out.now

pub put_64-requires : goal.put_64-requires
put_64-requires c =
    let b : ℕ = c.loop-b.b in
    let within : b * 64 + 64 ≤ length c.args.text.now = omega (arith, c.loop-b-test.true) in
    (within, (omega (arith, c.loop-b-test.true, c.requires.0, c.loop-b.auto.out), λ e. record { each = λ j l. c.requires.1 e (b * 64 + j) (omega (arith, within)) }))

pub loop-b-preserved : goal.loop-b-preserved
loop-b-preserved c = c.put_64.ensures ∙ more_packed c.args.fold c.args.text.now c.args.out.now c.loop-b.b c.loop-b.out c.loop-b.invariant (omega (arith, c.loop-b-test.true, c.requires.0))

pub returns : goal.returns
returns c =
    let n : ℕ = length c.args.text.now / 64 in
    let all : c.loop-b.b ≡ n = omega (arith, c.loop-b-test.false, c.loop-b.auto.b-end) in (
      refl,
      blocks_ran c.args.fold c.args.text.now c.args.out.now n c.loop-b.out (omega arith)
          (subst (λ (k : ℕ). Packed c.args.fold c.args.text.now c.args.out.now k c.loop-b.out) all c.loop-b.invariant),
    )
