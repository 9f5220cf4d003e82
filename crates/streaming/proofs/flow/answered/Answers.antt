use Rattle.std.proofs.Common.{ap, ◌-◌}
use Rattle.streaming.specs.declared.status.Status.{Status}
use Rattle.streaming.specs.Flow.{answered_by}
use Rattle.streaming.proofs.flow.answered.Goals as goal

pub returns : goal.returns
unfolding answered_by
returns c =
    let s = c.args.state in
    let e = c.args.end in
    ap
    (λ (x : Status). record {
      taken = e.taken;
      written = e.written;
      status = x;
      next = record { alphabet = s.alphabet; skip = 0; budget = s.budget - e.written; bits = e.have; pending = e.acc };
    })
    c.of.ensures
