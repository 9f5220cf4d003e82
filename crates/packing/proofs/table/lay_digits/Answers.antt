use native.Mathlib.Omega.{arith}
use Rattle.packing.proofs.Entries.{digits_laid}
use Rattle.packing.proofs.table.lay_digits.Goals as goal

pub returns-then-bits_per_symbol-ge8 : goal.returns-then-bits_per_symbol-ge8
returns-then-bits_per_symbol-ge8 c = λ l. absurd (omega (arith, l, c.if-bits_per_symbol-ge8.true, c.bits_per_symbol.ensures))

pub returns : goal.returns
returns c =
    let s = c in
    let a = s.args in
    λ h. digits_laid a.alphabet.fold a.alphabet.kind a.table.now s.requires c.lay_codes.ensures
