use Rattle.std.proofs.Common.{Ok, Err, sym, ap, ◌∙◌}
use Rattle.packing.specs.declared.encoder.SequenceEncoder.{SequenceEncoder}
use Rattle.packing.proofs.Ends.{update_unsound, update-refused, update-fine, met}
use Rattle.packing.proofs.encoder.SequenceEncoder.ask.Goals as goal

pub returns-then-not-is_sound : goal.returns-then-not-is_sound
returns-then-not-is_sound c = ap Err c.keeping.ensures ∙ update_unsound c.args.self c.args.piece.now c.args.room (sym c.is_sound.ensures ∙ c.if-not-is_sound.true)

pub returns-in-Err : goal.returns-in-Err
returns-in-Err c =
    let sure = sym c.is_sound.ensures ∙ c.if-not-is_sound.false in
    ap Err c.keeping-in-Err.ensures ∙ update-refused c.args.self c.args.piece.now c.args.room sure c.due.result c.due.ensures c.in-Err.refusal c.in-Err.is

pub bad_from-found-requires : goal.bad_from-found-requires
bad_from-found-requires c =
    (met c.args.self c.args.piece.now c.args.room (sym c.is_sound.ensures ∙ c.if-not-is_sound.false) c.due.result c.due.ensures c.in-Ok.count c.in-Ok.is).bounded

pub next-requires-clause-bounded : goal.next-requires-clause-bounded
next-requires-clause-bounded c =
    (met c.args.self c.args.piece.now c.args.room (sym c.is_sound.ensures ∙ c.if-not-is_sound.false) c.due.result c.due.ensures c.in-Ok.count c.in-Ok.is).bounded

pub returns : goal.returns
returns c =
    ap (λ (s : SequenceEncoder). Ok (record { count = c.in-Ok.count; next = s })) c.next.ensures
    ∙ update-fine c.args.self c.args.piece.now c.args.room (sym c.is_sound.ensures ∙ c.if-not-is_sound.false) c.due.result c.due.ensures c.in-Ok.count c.in-Ok.is
