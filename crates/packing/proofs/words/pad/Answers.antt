use Rattle.std.proofs.Common.{◌≡◌, ℕ, ◌+◌, ◌-◌, ◌*◌, ◌%◌, ◌^◌, ◌<◌, ap, ◌∙◌, subst, arith}
use lib.Pow.{shl_exact, shl_lt}
use Rattle.packing.proofs.words.pad.Goals as goal

exact : (a p : ℕ) → p < 8 → a < 2 ^ p → a * 2 ^ (8 - p) % 2 ^ 64 ≡ a * 2 ^ (8 - p)
exact a p h l = shl_exact p (8 - p) 64 l (omega arith)

fits : (a p : ℕ) → p < 8 → a < 2 ^ p → a * 2 ^ (8 - p) < 2 ^ 8
fits a p h l = let sum : p + (8 - p) ≡ 8 = omega arith in subst (λ (x : ℕ). a * 2 ^ (8 - p) < 2 ^ x) sum (shl_lt p (8 - p) l)

pub overflow_cast-result : goal.overflow_cast-result
overflow_cast-result c =
    omega (arith, ap (λ (a : ℕ). a * 2 ^ (8 - c.args.p) % 2 ^ 64) c.from.ensures ∙ exact c.args.acc c.args.p c.requires.0 c.requires.1, fits c.args.acc c.args.p c.requires.0 c.requires.1)

pub returns : goal.returns
returns c = ap (λ (a : ℕ). a * 2 ^ (8 - c.args.p) % 2 ^ 64) c.from.ensures ∙ exact c.args.acc c.args.p c.requires.0 c.requires.1
