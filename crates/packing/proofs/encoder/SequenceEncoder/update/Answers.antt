use Rattle.std.proofs.Common.{ℕ, List, length, Ok, Err, sym, ap, ◌∙◌, subst, arith, true≢false}
use Rattle.packing.specs.declared.encoder.SequenceEncoder.{SequenceEncoder}
use Rattle.packing.specs.Encode.{digits_of, packs_by}
use Rattle.packing.specs.Run.{Ready, ran}
use Rattle.packing.proofs.Ends.{sound, pends, update_unsound, update-refused, update-fine, met, update_kept, update-wrote}
use Rattle.packing.proofs.encoder.SequenceEncoder.update.Goals as goal

pub returns-then-not-is_sound-clause-value : goal.returns-then-not-is_sound-clause-value
returns-then-not-is_sound-clause-value c =
    ap Err c.keeping.ensures ∙ update_unsound c.args.self c.args.piece.now (length c.args.out.now) (sym c.is_sound.ensures ∙ c.if-not-is_sound.true)

pub returns-then-not-is_sound-clause-memory : goal.returns-then-not-is_sound-clause-memory
returns-then-not-is_sound-clause-memory c =
    let no' = update_unsound c.args.self c.args.piece.now (length c.args.out.now) (sym c.is_sound.ensures ∙ c.if-not-is_sound.true) in
    update_kept c.args.self c.args.piece.now c.args.out.now _ (sym no')

pub returns-in-Err-clause-value : goal.returns-in-Err-clause-value
returns-in-Err-clause-value c =
    let sure = sym c.is_sound.ensures ∙ c.if-not-is_sound.false in
    ap Err c.keeping-in-Err.ensures ∙ update-refused c.args.self c.args.piece.now (length c.args.out.now) sure c.due.result c.due.ensures c.in-Err.refusal c.in-Err.is

pub returns-in-Err-clause-memory : goal.returns-in-Err-clause-memory
returns-in-Err-clause-memory c =
    let sure = sym c.is_sound.ensures ∙ c.if-not-is_sound.false in
    let no' = update-refused c.args.self c.args.piece.now (length c.args.out.now) sure c.due.result c.due.ensures c.in-Err.refusal c.in-Err.is in
    update_kept c.args.self c.args.piece.now c.args.out.now _ (sym no')

pub pack-passed-requires : goal.pack-passed-requires
pack-passed-requires c =
    let s : SequenceEncoder = c.args.self in
    let piece : List ℕ = c.args.piece.now in
    let room : ℕ = length c.args.out.now in
    let m = met s piece room (sym c.is_sound.ensures ∙ c.if-not-is_sound.false) c.due.result c.due.ensures c.in-Ok.count c.in-Ok.is in
    let pending = (sound s m.is_sound).left in
    let ready : Ready (packs_by s).width s.bits s.pending (length piece) room = record { pends = pends s piece m.is_sound m.bounded; fits = m.fits } in (
      subst (λ (p : ℕ). Ready (packs_by s).width p s.pending (length piece) room) pending ready,
      (omega (arith, m.bounded), (c.lay_digits.ensures, λ e. absurd (true≢false (sym e)))),
    )

pub bad_behind-found-requires-clause-bounded : goal.bad_behind-found-requires-clause-bounded
bad_behind-found-requires-clause-bounded c =
    let sure = sym c.is_sound.ensures ∙ c.if-not-is_sound.false in
    (met c.args.self c.args.piece.now (length c.args.out.now) sure c.due.result c.due.ensures c.in-Ok.count c.in-Ok.is).bounded

pub next-next-requires-clause-bounded : goal.next-next-requires-clause-bounded
next-next-requires-clause-bounded c =
    let sure = sym c.is_sound.ensures ∙ c.if-not-is_sound.false in
    (met c.args.self c.args.piece.now (length c.args.out.now) sure c.due.result c.due.ensures c.in-Ok.count c.in-Ok.is).bounded

pub returns-clause-value : goal.returns-clause-value
returns-clause-value c =
    let sure = sym c.is_sound.ensures ∙ c.if-not-is_sound.false in
    ap (λ (x : SequenceEncoder). Ok (record { count = c.in-Ok.count; next = x })) c.next-next.ensures
    ∙ update-fine c.args.self c.args.piece.now (length c.args.out.now) sure c.due.result c.due.ensures c.in-Ok.count c.in-Ok.is

pub returns-clause-memory : goal.returns-clause-memory
returns-clause-memory c =
    let s : SequenceEncoder = c.args.self in
    let piece : List ℕ = c.args.piece.now in
    let room : ℕ = length c.args.out.now in
    let sure = sym c.is_sound.ensures ∙ c.if-not-is_sound.false in
    let fine = update-fine s piece room sure c.due.result c.due.ensures c.in-Ok.count c.in-Ok.is in
    let pending = (sound s sure).left in
    let done = c.pack-passed.ensures.wrote ∙ ap (λ (q : ℕ). ran (packs_by s).width q s.pending (digits_of (packs_by s) piece) c.args.out.now) (sym pending) in
    update-wrote s piece c.args.out.now _ _ (sym fine) c.pack-passed.new.out done
