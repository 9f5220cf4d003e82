use Rattle.std.proofs.Common.{ℕ, ap, ◌∙◌, rules}
use lib.Bits.{bit_xor}
use Rattle.alphabet.proofs.Told.{three_groups, dna3bit_told}
use Rattle.alphabet.proofs.membership.is_dna3bit.Goals as goal

pub returns : goal.returns
returns c =
    let x : ℕ = c.args.x in
    ap (λ (m : ℕ). three_groups (bit_xor m x)) c.max.ensures ∙ dna3bit_told x (search rules)
