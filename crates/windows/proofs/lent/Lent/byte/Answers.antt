use Rattle.std.proofs.Common.{sym, arith}
use Rattle.bits.proofs.Files.{file_before, file_lent, file_past}
use Rattle.windows.proofs.lent.Lent.byte.Goals as goal

pub returns-then-j-self : goal.returns-then-j-self
returns-then-j-self c = sym (file_before _ _ c.args.j c.if-j-self.true)

pub returns-then-i-self : goal.returns-then-i-self
returns-then-i-self c = sym (file_lent _ _ c.args.j c.if-j-self.false)

pub returns : goal.returns
returns c = sym (file_past _ _ c.args.j (omega arith))
