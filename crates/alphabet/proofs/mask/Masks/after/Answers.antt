use Rattle.std.proofs.Common.{arith}
use Rattle.alphabet.specs.Symbols.{folded}
use Rattle.alphabet.proofs.Laws.{length-folded}
use Rattle.alphabet.proofs.Turns.{scan_more, scan_done}
use Rattle.alphabet.proofs.mask.Masks.after.Goals as goal

pub loop-byte-preserved : goal.loop-byte-preserved
loop-byte-preserved c =
    let a = c.args in
    let l = c.loop-byte in
    scan_more a.self.now.fold a.self.now.of_bytes a.text.now l.m l.byte-index c.from.result a.self.now.laid c.from.ensures
    (rw c.from.ensures (c.type_inv.text l.byte-index).fits) c.loop-byte-test.true l.invariant

pub returns : goal.returns
returns c =
    let a = c.args in
    let l = c.loop-byte in
    scan_done (folded a.self.now.fold a.text.now) l.m l.byte-index (omega (arith, c.loop-byte-test.false, length-folded a.self.now.fold a.text.now)) l.invariant
