use Rattle.std.proofs.Common.{◌≡◌, ◌<◌}
use Rattle.streaming.specs.Flow.{Level, filled}
use Rattle.streaming.proofs.flow.Packed.finish.Given as goal

abbrev pub invariant-loop-n : goal.invariant-loop-n
invariant-loop-n g l =
    record {
      level : Level l.self.start.state l.source l.acc l.have l.taken l.n;
      few : l.have < 8;
      bases : l.out ≡ filled l.self.start.state l.source l.n l.fn.out;
    }
