use Rattle.std.proofs.Common.{ℕ, ◌+◌, ◌%◌, ◌^◌, ap, ◌∙◌, rules}
use Rattle.alphabet.proofs.Told.{four_groups, dna_iupac_told}
use Rattle.alphabet.proofs.membership.is_dna_iupac.Goals as goal

pub returns : goal.returns
returns c =
    let x : ℕ = c.args.x in
    ap (λ (m : ℕ). four_groups ((m + 0x3e + x) % 2 ^ 8)) c.min.ensures ∙ dna_iupac_told x (search rules)
