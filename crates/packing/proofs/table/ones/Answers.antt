use Rattle.std.proofs.Common.{ℕ, ◌-◌, ◌^◌, ◌≤◌, ◌<◌, false, ap, ◌∙◌, arith}
use Rattle.std.proofs.Math.Pow.{pow_mono}
use Rattle.bits.proofs.Shifts.{power_is}
use Rattle.alphabet.proofs.Laws.{lawful}
use Rattle.packing.proofs.table.ones.Goals as goal

pub overflow_cast-result : goal.overflow_cast-result
overflow_cast-result c =
    let few : c.bits_per_symbol.result ≤ 8 = omega (arith, c.bits_per_symbol.ensures, (lawful false c.args.kind).narrow) in
    let under : c.bits_per_symbol.result < 64 = omega (arith, few) in
    let most : 2 ^ c.bits_per_symbol.result ≤ 2 ^ 8 = pow_mono few in
    omega (arith, c.power.ensures ∙ power_is under, most)

pub returns : goal.returns
returns c =
    let few : c.bits_per_symbol.result < 64 = omega (arith, c.bits_per_symbol.ensures, (lawful false c.args.kind).narrow) in
    ap (λ (x : ℕ). x - 1) (c.power.ensures ∙ power_is few ∙ ap (λ (b : ℕ). 2 ^ b) c.bits_per_symbol.ensures)
