use Rattle.std.proofs.Common.{ℕ, ap, ◌∙◌, arith}
use lib.Bits.{bit_and}
use Rattle.packing.proofs.TwoBits.{tamed, code_in, digit_made, member_made}
use Rattle.packing.proofs.fours.digit.Goals as goal

pub returns-then-clean : goal.returns-then-clean
returns-then-clean c = c.code.ensures ∙ member_made c.args.fold c.args.x (omega arith) (c.requires c.if-clean.true)

pub returns : goal.returns
returns c =
    c.code-2.ensures
    ∙ ap code_in (c.tame.ensures ∙ ap (λ (b : ℕ). tamed (bit_and c.args.x b)) c.telling_bits.ensures)
    ∙ digit_made c.args.fold c.args.x (omega arith)
