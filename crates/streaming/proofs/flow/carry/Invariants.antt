use Rattle.std.proofs.Common.{◌≡◌, ◌+◌}
use Rattle.streaming.specs.Flow.{Level, filled}
use Rattle.streaming.proofs.flow.carry.Given as goal

abbrev pub invariant-loop-n : goal.invariant-loop-n
invariant-loop-n l =
    record {
      level : Level l.start.state l.start.source.now l.acc l.have (l.from + l.n) l.n;
      bases : l.out ≡ filled l.start.state l.start.source.now l.n l.fn.out;
    }
