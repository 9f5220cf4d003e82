use Rattle.std.proofs.Common.{ℕ, ◌+◌, ◌/◌, ◌<◌, ◌≤◌, Ok, Err, sym, ap, ◌∙◌, subst}
use Rattle.packing.proofs.Ends.{finalize_unsound, finalize_bad, finalize_short, finalize-fine}
use Rattle.packing.proofs.encoder.SequenceEncoder.asked_last.Goals as goal

pub returns-then-not-is_sound : goal.returns-then-not-is_sound
returns-then-not-is_sound c = ap Err c.keeping.ensures ∙ finalize_unsound c.args.self c.args.room (sym c.is_sound.ensures ∙ c.if-not-is_sound.true)

pub returns-in-Some : goal.returns-in-Some
returns-in-Some c =
    ap Err c.keeping-in-Some.ensures ∙ finalize_bad c.args.self c.args.room (sym c.is_sound.ensures ∙ c.if-not-is_sound.false) c.in-Some.first c.in-Some.is

pub returns-then-room-last : goal.returns-then-room-last
returns-then-room-last c =
    let short = subst (λ (n : ℕ). c.args.room < (n + 7) / 8) c.from.ensures c.if-room-last.true in
    ap Err c.keeping-then-room-last.ensures ∙ finalize_short c.args.self c.args.room (sym c.is_sound.ensures ∙ c.if-not-is_sound.false) c.in_default.is short

pub returns : goal.returns
returns c =
    let fits = subst (λ (n : ℕ). (n + 7) / 8 ≤ c.args.room) c.from.ensures c.if-room-last.false in
    ap (λ (n : ℕ). Ok ((n + 7) / 8)) c.from.ensures
    ∙ finalize-fine c.args.self c.args.room (sym c.is_sound.ensures ∙ c.if-not-is_sound.false) c.in_default.is fits
