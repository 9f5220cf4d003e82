use Rattle.alphabet.specs.Symbols.{coding_of}
use Rattle.members.proofs.Passing.{counted_byte, counted_all}
use Rattle.members.proofs.count.strangers.Goals as goal

pub loop-byte-preserved : goal.loop-byte-preserved
loop-byte-preserved c =
    let o = c.loop-byte in
    let w = counted_byte (coding_of c.args.alphabet) c.args.text.now o.byte-index o.sum c.from-sum.result c.takes.result c.loop-byte-test.true c.takes.ensures c.from-sum.ensures o.invariant.few o.invariant.counted in
    record { few = w.0; counted = w.1 }

pub returns : goal.returns
returns c = counted_all (coding_of c.args.alphabet) c.args.text.now c.loop-byte.byte-index c.loop-byte.sum c.loop-byte-test.false c.loop-byte.invariant.counted
