use Rattle.std.proofs.Common.{rules}
use Rattle.alphabet.proofs.Folding.{base_told}
use Rattle.alphabet.proofs.bases.is_base.Goals as goal

pub returns : goal.returns
returns c = base_told c.args.x (search rules)
