use Rattle.alphabet.specs.Symbols.{coding_of}
use Rattle.members.proofs.Laws.{all_more, all_end}
use Rattle.members.proofs.find.all_members.Goals as goal

pub loop-byte-preserved : goal.loop-byte-preserved
loop-byte-preserved c =
    all_more (coding_of c.args.alphabet) c.args.text.now c.loop-byte.all c.takes-all.result c.loop-byte.byte-index c.loop-byte-test.true c.takes-all.ensures c.loop-byte.invariant

pub returns : goal.returns
returns c = all_end (coding_of c.args.alphabet) c.args.text.now c.loop-byte.all c.loop-byte.byte-index c.loop-byte-test.false c.loop-byte.invariant
