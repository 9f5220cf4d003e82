use Rattle.std.proofs.Common.{ℕ, ◌+◌, ◌-◌, ◌*◌, ◌/◌, ◌%◌, ◌^◌, ◌≤◌, map, length, sym, refl, ap, ◌∙◌, zero-le, zero-mul, arith}
use Rattle.bits.specs.Tables.{at}
use Rattle.bits.specs.Streams.{fields}
use Rattle.bits.specs.Memory.{front}
use Rattle.alphabet.specs.Symbols.{coding}
use Rattle.windows.specs.Window.{window}
use Rattle.windows.proofs.Written.{none_begun, next_begun, part_length, block_room}
use Rattle.windows.proofs.WholeBytes.{block_written}
use Rattle.windows.proofs.blocks.blocks.Goals as goal

pub returns-then-out : goal.returns-then-out
returns-then-out g c = (zero-le, none_begun _ _ _ _ _)

pub returns-then-first-lent : goal.returns-then-first-lent
returns-then-first-lent g c = (zero-le, none_begun _ _ _ _ _)

pub loop-m-init : goal.loop-m-init
loop-m-init g c =
    let a = c.args in
    let A = coding a.table.now.kind in
    none_begun A _ _ a.start a.out.now ∙ ap (λ (n : ℕ). front (window A a.lent.now.bytes.now a.lent.now.offset a.start n) a.out.now) (sym (zero-mul g.row.C))

pub loop-m-preserved : goal.loop-m-preserved
loop-m-preserved g c =
    let a = c.args in
    let t = a.table.now in
    let m = c.loop-m.m in
    let b : ℕ = c.bits_per_symbol-b.result in
    let bit : ℕ = a.start * b in
    let bytes = a.lent.now.bytes.now in
    let from : ℕ = bit / 8 - a.lent.now.offset + m * g.row.N in
    let room : m * g.row.C + g.row.C ≤ length c.loop-m.out = omega (arith, block_room m c.min-count.result g.row.C (length a.out.now) (omega arith) (omega (arith, c.min-count.ensures)), c.loop-m.auto.out) in
    let lies : from + (g.row.N + 1) ≤ length bytes =
    omega (arith, block_room m c.min-count.result g.row.N (length bytes - (bit / 8 - a.lent.now.offset + 1)) (omega arith) (omega (arith, c.min-count.ensures, c.lent_blocks.ensures)), c.requires.0.some) in
    next_begun (coding t.kind) _ _ a.start g.row.C m _ a.out.now c.loop-m.out c.spread.new.out (omega arith) c.loop-m.invariant
    (c.spread.ensures
    ∙ ap (λ (n : ℕ). map (at t.symbols) (fields b n (c.number-w.result / 2 ^ (8 - bit % 8)))) (part_length c.loop-m.out (m * g.row.C) _ g.row.C (omega arith) room)
    ∙ block_written (coding t.kind) bytes a.lent.now.offset a.start g.row.C g.row.N b m _ from c.number-w.result t.symbols c.requires.0.whole c.requires.0.five t.laid c.bits_per_symbol-b.ensures
    (omega arith) refl (omega arith) lies c.number-w.ensures)
