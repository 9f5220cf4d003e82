use Rattle.std.proofs.Common.{sym, ap, arith}
use borrow.Author.Tests.{lt-leb}
use Rattle.alphabet.specs.Names.{kind_of, named_at}
use Rattle.alphabet.proofs.Calls.{named-whole}
use Rattle.alphabet.proofs.kind.AlphabetTypeTryFromU64.try_from.Goals as goal

pub returns-in-0 : goal.returns-in-0
unfolding named_at kind_of
returns-in-0 c = named-whole _ c.args.number (ap named_at (sym c.in-0.is))

pub returns-in-1 : goal.returns-in-1
unfolding named_at kind_of
returns-in-1 c = named-whole _ c.args.number (ap named_at (sym c.in-1.is))

pub returns-in-2 : goal.returns-in-2
unfolding named_at kind_of
returns-in-2 c = named-whole _ c.args.number (ap named_at (sym c.in-2.is))

pub returns-in-3 : goal.returns-in-3
unfolding named_at kind_of
returns-in-3 c = named-whole _ c.args.number (ap named_at (sym c.in-3.is))

pub returns-in-4 : goal.returns-in-4
unfolding named_at kind_of
returns-in-4 c = named-whole _ c.args.number (ap named_at (sym c.in-4.is))

pub returns-in-5 : goal.returns-in-5
unfolding named_at kind_of
returns-in-5 c = named-whole _ c.args.number (ap named_at (sym c.in-5.is))

pub returns-in_default : goal.returns-in_default
unfolding named_at
returns-in_default c = named-whole _ c.args.number (rw (lt-leb c.args.number 5 (omega arith)))
