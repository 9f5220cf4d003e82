use Rattle.std.proofs.Common.{arith}
use Rattle.alphabet.specs.Symbols.{coding_of}
use Rattle.members.proofs.Passing.{passed_chunks}
use Rattle.members.proofs.find.pass.Goals as goal

pub returns-then-not-are_members : goal.returns-then-not-are_members
returns-then-not-are_members g c =
    passed_chunks (coding_of c.args.alphabet) c.args.text.now g.row.N c.loop-k.k _ c.requires.0 c.as_chunks.ensures.front (omega (arith, c.as_chunks.ensures.front_len)) c.loop-k.invariant

pub returns : goal.returns
returns g c =
    passed_chunks (coding_of c.args.alphabet) c.args.text.now g.row.N _ _ c.requires.0 c.as_chunks.ensures.front (omega (arith, c.as_chunks.ensures.front_len))
    (λ i h. c.loop-k.invariant i (omega arith))
