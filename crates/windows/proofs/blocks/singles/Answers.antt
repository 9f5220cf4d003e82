use Rattle.std.proofs.Common.{◌+◌, ◌<◌, false, length, sym, arith, ◌≢◌, get_or-set_other, get_or-set_same, below_more}
use Rattle.alphabet.specs.Symbols.{coding}
use Rattle.alphabet.proofs.Laws.{lawful}
use Rattle.windows.proofs.Turns.{bit_fits, decoded}
use Rattle.windows.proofs.Written.{each_written}
use Rattle.windows.proofs.blocks.singles.Goals as goal

pub code-requires : goal.code-requires
code-requires c =
    let t = c.args.table.now in
    let b = c.bits_per_symbol-b in
    (bit_fits (omega arith) (omega (arith, c.requires.0, b.ensures)), (omega (arith, (lawful false t.kind).some_bits, b.ensures), omega (arith, c.requires.0, b.ensures)))

pub bounds-table-code : goal.bounds-table-code
bounds-table-code c =
    let t = c.args.table.now in
    let b = c.bits_per_symbol-b in
    (decoded (coding t.kind) _ _ b.result _ c.code.result _ (sym b.ensures) (omega (arith, c.requires.0, b.ensures)) t.laid c.code.ensures).0

pub loop-n-preserved : goal.loop-n-preserved
loop-n-preserved c =
    let a = c.args in
    let t = a.table.now in
    let b = c.bits_per_symbol-b in
    let l = c.loop-n in
    let base =
    decoded (coding t.kind) a.lent.now.bytes.now a.lent.now.offset b.result (a.start + l.n) c.code.result t.symbols (sym b.ensures) (omega (arith, c.requires.0, b.ensures)) t.laid c.code.ensures in
    below_more _ _ (λ i h. let ne : i ≢ l.n = omega arith in rw get_or-set_other (l.invariant i h))
    (let lt : l.n < length l.out = omega arith in rw get_or-set_same base.1)

pub returns : goal.returns
returns c = each_written (coding c.args.table.now.kind) _ _ c.args.start (length c.args.out.now) c.loop-n.out (omega arith) (λ i h. c.loop-n.invariant i (omega arith))
