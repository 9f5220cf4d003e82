use Rattle.std.proofs.Common.{arith, sym, subst, ℕ}
use Rattle.streaming.specs.Flow.{Stands}
use Rattle.streaming.proofs.Levels.{fill_again}
use Rattle.streaming.proofs.Pumping.{blocks_then_rest}
use Rattle.streaming.proofs.flow.Packed.bases.Goals as goal

pub finish-requires : goal.finish-requires
finish-requires g c =
    let p = c.args.self.now.start in (
      omega arith,
      (
        subst (λ (room : ℕ). Stands p.state p.source.now room c.bulk-whole.result) (sym c.bulk-whole.auto.out) c.bulk-whole.ensures.stands,
        fill_again p.state p.source.now _ c.args.out.now _ c.bulk-whole.ensures.out_after,
      ),
    )

pub returns-clause-value : goal.returns-clause-value
returns-clause-value g c =
    let p = c.args.self.now.start in
    (blocks_then_rest p.state p.source.now c.args.out.now _ _ c.bulk-whole.ensures.stands c.bulk-whole.auto.out c.bulk-whole.ensures.out_after
    c.finish.ensures.value c.finish.ensures.out_after).0

pub returns-clause-out_after : goal.returns-clause-out_after
returns-clause-out_after g c =
    let p = c.args.self.now.start in
    (blocks_then_rest p.state p.source.now c.args.out.now _ _ c.bulk-whole.ensures.stands c.bulk-whole.auto.out c.bulk-whole.ensures.out_after
    c.finish.ensures.value c.finish.ensures.out_after).1
