use Rattle.streaming.proofs.Levels.{fill_none}
use Rattle.streaming.proofs.flow.Packed.bulk.Goals as goal

pub returns-then-limit-lt8-clause-out_after : goal.returns-then-limit-lt8-clause-out_after
returns-then-limit-lt8-clause-out_after g c =
    let start = c.args.self.now.start in
    rw start.none (fill_none start.state start.source.now c.args.out.now)
