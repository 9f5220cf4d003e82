use borrow.Author.Tests.{eq-eqb, ne_eqb}
use Rattle.streaming.proofs.status.Status.of.Goals as goal

pub returns-then-budget-eq0 : goal.returns-then-budget-eq0
returns-then-budget-eq0 c = simp (eq-eqb c.args.budget 0 c.if-budget-eq0.true)

pub returns-then-room-eq0 : goal.returns-then-room-eq0
returns-then-room-eq0 c = simp (ne_eqb c.args.budget 0 c.if-budget-eq0.false, eq-eqb c.args.room 0 c.if-room-eq0.true)

pub returns : goal.returns
returns c = simp (ne_eqb c.args.budget 0 c.if-budget-eq0.false, ne_eqb c.args.room 0 c.if-room-eq0.false)
