use Rattle.std.proofs.Common.{ℕ, ◌+◌, ◌/◌, ◌<◌, List, [], get_or, length, ap, ◌∙◌, arith}
use Rattle.alphabet.specs.Symbols.{Coding, coding_of}
use Rattle.members.specs.Members.{bad_in}
use Rattle.members.proofs.Passing.{chunk_at, counted_none, counted_block, counted_few, counted_blocks}
use Rattle.members.proofs.count.count.Goals as goal

pub loop-block-init : goal.loop-block-init
loop-block-init c =
    let A : Coding = coding_of c.args.alphabet in
    counted_none A c.args.text.now _ (c.from-sum.ensures ∙ c.strangers.ensures ∙ ap (bad_in A) c.as_chunks.ensures.back)

pub loop-block-preserved : goal.loop-block-preserved
loop-block-preserved c =
    let A : Coding = coding_of c.args.alphabet in
    let o = c.loop-block in
    let in_turn : o.block-index < length c.args.text.now / 128 = omega (arith, c.loop-block-test.true, c.as_chunks.ensures.front_len) in
    counted_block A c.args.text.now o.block-index o.sum _ in_turn
    (c.from-sum-in-loop-block.ensures ∙ c.strangers-in-loop-block.ensures
    ∙ ap (λ (bs : List (List ℕ)). bad_in A (get_or bs o.block-index [])) c.as_chunks.ensures.front
    ∙ ap (bad_in A) (chunk_at 128 (length c.args.text.now / 128) c.args.text.now o.block-index in_turn))
    o.invariant

pub overflow_add-sum : goal.overflow_add-sum
overflow_add-sum c =
    let next = loop-block-preserved c in
    let few = counted_few (coding_of c.args.alphabet) c.args.text.now (c.loop-block.block-index + 1) _ (omega (arith, c.loop-block-test.true, c.as_chunks.ensures.front_len)) next in omega (arith, few)

pub returns : goal.returns
returns c =
    counted_blocks (coding_of c.args.alphabet) c.args.text.now c.loop-block.sum c.loop-block.block-index
    (omega (arith, c.loop-block-test.false, c.loop-block.auto.block-index-end, c.as_chunks.ensures.front_len)) c.loop-block.invariant
