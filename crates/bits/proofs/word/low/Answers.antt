use Rattle.std.proofs.Common.{ℕ, ◌-◌, ◌%◌, ap, ◌∙◌}
use lib.Bits.{bit_and, and_mask}
use Rattle.bits.proofs.word.low.Goals as goal

-- a mask of n ones is the remainder by 2 ^ n
pub returns : goal.returns
returns c = ap (λ (m : ℕ). bit_and c.args.x (m - 1)) c.power.ensures ∙ and_mask c.args.x (c.args.n % 64)
