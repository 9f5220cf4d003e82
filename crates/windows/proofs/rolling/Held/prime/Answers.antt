use Rattle.std.proofs.Common.{refl, ◌∙◌, arith}
use Rattle.bits.proofs.Files.{file_small}
use Rattle.windows.proofs.Turns.{prime_none, prime_some}
use Rattle.windows.proofs.rolling.Held.prime.Goals as goal

pub returns-then-skip-eq0 : goal.returns-then-skip-eq0
returns-then-skip-eq0 c = (omega arith, prime_none _ (λ j. file_small _ _ j c.args.lent.now.small) c.args.bit _ c.if-skip-eq0.true refl refl)

pub returns : goal.returns
returns c = (omega arith, prime_some _ (λ j. file_small _ _ j c.args.lent.now.small) c.args.bit _ refl refl (c.from.ensures ∙ c.byte.ensures))
