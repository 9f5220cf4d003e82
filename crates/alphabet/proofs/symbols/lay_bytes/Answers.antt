use Rattle.std.proofs.Common.{ℕ, length, arith}
use Rattle.bits.proofs.Tabulated.{is_tabulate}
use Rattle.alphabet.proofs.symbols.lay_bytes.Goals as goal

pub returns : goal.returns
returns c =
    let l = c.loop-v in
    is_tabulate (length c.args.table.now) (λ (v : ℕ). v) 0 l.table l.auto.table (λ k h. l.invariant k (omega (arith, h, c.loop-v-test.false, l.auto.table)))
