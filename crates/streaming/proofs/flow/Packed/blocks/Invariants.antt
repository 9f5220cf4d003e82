use Rattle.streaming.proofs.Pumping.{Read}
use Rattle.streaming.proofs.flow.Packed.blocks.Given as goal

abbrev pub invariant-loop-k : goal.invariant-loop-k
invariant-loop-k g l = Read l.self.start.state l.source g.row.B l.have l.from l.fn.out l.k l.acc l.out
