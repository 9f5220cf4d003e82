use Rattle.std.proofs.Common.{refl, sym, ◌∙◌}
use Rattle.bits.proofs.Computed.{both_true}
use Rattle.alphabet.specs.Symbols.{coding_of}
use Rattle.members.proofs.Passing.{halves_none, halves_more, halves_all}
use Rattle.members.proofs.find.pass_halves.Goals as goal

pub loop-k-init : goal.loop-k-init
loop-k-init c = halves_none (coding_of c.args.alphabet) c.args.text.now _

pub loop-k-preserved : goal.loop-k-preserved
loop-k-preserved c =
    let both = both_true c.are_members-here.result c.are_members-there.result c.if-not-here-there.false in
    halves_more (coding_of c.args.alphabet) c.args.text.now _ c.loop-k.k _ c.as_chunks.ensures.front refl c.loop-k-test.true (sym c.are_members-here.ensures ∙ both.0)
    (sym c.are_members-there.ensures ∙ both.1) c.loop-k.invariant

pub returns-then-not-here-there : goal.returns-then-not-here-there
returns-then-not-here-there c = c.loop-k.invariant.first

pub returns : goal.returns
returns c = halves_all (coding_of c.args.alphabet) c.args.text.now _ c.loop-k.k refl c.loop-k-test.false c.loop-k.invariant
