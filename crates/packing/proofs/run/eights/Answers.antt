use Rattle.std.proofs.Common.{◌≡◌, ℕ, ◌*◌, ◌/◌, refl, ap, ◌∙◌, length, arith}
use Rattle.bits.specs.Tables.{at}
use Rattle.bits.specs.Streams.{bit_at, cut}
use Rattle.bits.specs.Memory.{put_at}
use Rattle.packing.specs.Run.{looked}
use Rattle.packing.proofs.Eights.{no_blocks, more_blocks, blocks_front, block_fits, block_end}
use Rattle.packing.proofs.run.eights.Goals as goal

pub loop-k-init : goal.loop-k-init
loop-k-init c = no_blocks c.args.b (at (looked c.args.table.now c.args.text.now)) c.requires.0 c.args.out.now

-- a block's bytes have memory
pub overflow_mul-b : goal.overflow_mul-b
overflow_mul-b c =
    let a = c.args in
    omega (arith, block_fits a.b c.loop-k.k (length a.text.now) (length a.out.now) c.loop-k-test.true c.requires.1.0, block_end a.b c.loop-k.k)

pub put_eight-requires : goal.put_eight-requires
put_eight-requires c =
    let a = c.args in
    let fits = block_fits a.b c.loop-k.k (length a.text.now) (length a.out.now) c.loop-k-test.true c.requires.1.0 in
    (c.requires.0, (omega (arith, c.loop-k-test.true), (omega (arith, block_end a.b c.loop-k.k, fits, c.loop-k.auto.out), c.requires.1.1)))

pub loop-k-preserved : goal.loop-k-preserved
loop-k-preserved c =
    let a = c.args in
    c.put_eight.ensures
    ∙ more_blocks a.b (at (looked a.table.now a.text.now)) c.requires.0 a.out.now c.loop-k.k c.loop-k.out c.loop-k.invariant
    (block_fits a.b c.loop-k.k (length a.text.now) (length a.out.now) c.loop-k-test.true c.requires.1.0)

pub returns : goal.returns
returns c =
    let a = c.args in
    let f : ℕ → ℕ = at (looked a.table.now a.text.now) in
    let all : c.loop-k.k ≡ length a.text.now / 8 = omega (arith, c.loop-k-test.false, c.loop-k.auto.k-end) in (
      refl,
      blocks_front a.b f c.requires.0 a.out.now (length a.text.now / 8) c.loop-k.out
          (c.loop-k.invariant ∙ ap (λ (k : ℕ). put_at 0 (cut 8 (bit_at a.b f) 0 (k * a.b)) a.out.now) all),
    )
