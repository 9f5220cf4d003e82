use Rattle.std.proofs.Common.{arith, ap, ◌∙◌, ◌+◌, ◌*◌, ◌/◌, ◌^◌, ◌≤◌, length, ℕ}
use Rattle.std.proofs.lemmas.List.Edits.{length-between}
use native.Mathlib.Nat.{lt_of_lt_of_le}
use lib.Pow.{pow_mono}
use Rattle.alphabet.specs.declared.kind.AlphabetType.{AlphabetType}
use Rattle.bits.proofs.Shifts.{low_is}
use Rattle.streaming.specs.Symbols.{block_of}
use Rattle.streaming.proofs.Levels.{level_lt}
use Rattle.streaming.proofs.Pumping.{width_is, block_bytes, none_read, one_read}
use Rattle.streaming.proofs.flow.Packed.blocks.Goals as goal

pub loop-k-init : goal.loop-k-init
loop-k-init g c =
    let p = c.args.self.now in
    none_read p.start.state p.start.source.now g.row.B (width_is p.start.state p.symbols.wide p.same) p.start.flow.have p.start.flow.taken c.args.out.now p.start.level

pub gather-bits-requires-clause-small : goal.gather-bits-requires-clause-small
gather-bits-requires-clause-small g c =
    lt_of_lt_of_le (level_lt c.loop-k.invariant.level) (pow_mono {j = 8} (omega (arith, c.args.self.now.start.few)))

pub gather-bits-requires-clause-few : goal.gather-bits-requires-clause-few
gather-bits-requires-clause-few g c =
    let p = c.args.self.now in
    let next : ℕ = p.start.flow.taken + c.loop-k.k * g.row.B in
    let bytes : next + g.row.B ≤ length p.start.source.now = block_bytes g.row.B c.loop-k-test.true (omega arith) p.start.level.within in
    omega (arith, length-between p.start.source.now next (next + g.row.B) bytes, p.symbols.five)

pub loop-k-preserved : goal.loop-k-preserved
loop-k-preserved g c =
    let p = c.args.self.now in
    let s = p.start.state in
    let next : ℕ = p.start.flow.taken + c.loop-k.k * g.row.B in
    let bytes : next + g.row.B ≤ length p.start.source.now = block_bytes g.row.B c.loop-k-test.true (omega arith) p.start.level.within in
    one_read s p.start.source.now g.row.B (width_is s p.symbols.wide p.same) p.start.flow.have p.start.flow.taken c.args.out.now c.loop-k.k _ (next + g.row.B) _
    c.loop-k.invariant p.symbols.five bytes (omega arith) c.loop-k.auto.out
    (length-between p.start.source.now next (next + g.row.B) bytes ∙ omega arith) (omega arith) c.gather-bits.ensures
    (c.put_block.ensures ∙ ap (λ (k : AlphabetType). block_of k g.row.B (c.gather-bits.result / 2 ^ p.start.flow.have)) (c.requires ∙ p.same)) (omega arith)
    (c.low-acc.ensures ∙ low_is (omega (arith, p.start.few)) _)
