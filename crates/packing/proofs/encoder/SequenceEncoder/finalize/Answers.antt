use Rattle.std.proofs.Common.{ℕ, ◌-◌, ◌*◌, ◌^◌, ◌<◌, sym, ap, ◌∙◌, subst}
use Rattle.packing.proofs.Ends.{finalize_kept, finalize_none, finalize_last, finalize-wrote}
use Rattle.packing.proofs.encoder.SequenceEncoder.finalize.Goals as goal

pub returns-in_err-count-clause-memory : goal.returns-in_err-count-clause-memory
returns-in_err-count-clause-memory c = finalize_kept c.args.self c.args.out.now c.in_err-count.field-0.0 (sym c.asked_last.ensures ∙ c.in_err-count.was)

pub pad-requires : goal.pad-requires
pad-requires c =
    let last = finalize_last c.args.self c.args.out.now c.in_ok-count.count (sym c.asked_last.ensures ∙ c.in_ok-count.was) c.if-count-ne0.true in
    subst (λ (b : ℕ). (b < 8) × (c.args.self.pending < 2 ^ b)) (sym c.from.ensures) last.1

pub bounds-out-0 : goal.bounds-out-0
bounds-out-0 c = (finalize_last c.args.self c.args.out.now c.in_ok-count.count (sym c.asked_last.ensures ∙ c.in_ok-count.was) c.if-count-ne0.true).0

pub returns-then-count-ne0-clause-memory : goal.returns-then-count-ne0-clause-memory
returns-then-count-ne0-clause-memory c =
    let answer = sym c.asked_last.ensures ∙ c.in_ok-count.was in
    finalize-wrote c.args.self c.args.out.now c.in_ok-count.count answer c.if-count-ne0.true c.pad.result
    (c.pad.ensures ∙ ap (λ (b : ℕ). c.args.self.pending * 2 ^ (8 - b)) c.from.ensures)

pub returns-else-count-ne0-clause-memory : goal.returns-else-count-ne0-clause-memory
returns-else-count-ne0-clause-memory c =
    finalize_none c.args.self c.args.out.now c.in_ok-count.count (sym c.asked_last.ensures ∙ c.in_ok-count.was) c.if-count-ne0.false
