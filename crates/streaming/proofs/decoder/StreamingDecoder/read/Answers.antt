use Rattle.std.proofs.Common.{Err, ap, sym, ◌∙◌}
use Rattle.streaming.specs.declared.decoder.StreamingDecoder.{StreamingDecoder}
use Rattle.streaming.specs.Stream.{reads_by}
use Rattle.streaming.proofs.Calls.{plain_of_eight, packed_else}
use Rattle.streaming.proofs.Memory.{Met, refuses, waits, moves_as}
use Rattle.streaming.proofs.decoder.StreamingDecoder.read.Goals as goal

pub returns-then-not-is_sound : goal.returns-then-not-is_sound
unfolding Met
returns-then-not-is_sound c =
    let m = refuses c.args.self c.args.source.now c.args.out.now (sym c.is_sound.ensures ∙ c.if-not-is_sound.true) in
    record { value = ap Err c.keeping.ensures ∙ m.0; out_after = m.1 }

pub returns-then-not-can_begin : goal.returns-then-not-can_begin
unfolding Met
returns-then-not-can_begin c =
    let m =
    waits c.args.self c.args.source.now c.args.out.now (sym c.is_sound.ensures ∙ c.if-not-is_sound.false) (sym c.can_begin.ensures ∙ c.if-not-can_begin.true) in
    record { value = m.0; out_after = m.1 }

pub carry-requires-clause-same : goal.carry-requires-clause-same
carry-requires-clause-same c =
    plain_of_eight c.of-start.result.state.alphabet
    (ap (λ (s : StreamingDecoder). (reads_by s).width) c.of-start.ensures.state ∙ sym c.bits_per_symbol.ensures ∙ c.if-bits_per_symbol-eq8.true)

pub returns-then-bits_per_symbol-eq8 : goal.returns-then-bits_per_symbol-eq8
unfolding Met
returns-then-bits_per_symbol-eq8 c =
    let m =
    moves_as c.args.self c.args.source.now c.args.out.now (sym c.is_sound.ensures ∙ c.if-not-is_sound.false) (sym c.can_begin.ensures ∙ c.if-not-can_begin.false)
    c.of-start.ensures.state c.of-start.ensures.source c.carry.ensures.value c.carry.ensures.out_after in
    record { value = m.0; out_after = m.1 }

pub pump-requires : goal.pump-requires
pump-requires c =
    packed_else c.of-start.result.state.alphabet
    (λ e. c.if-bits_per_symbol-eq8.false (c.bits_per_symbol.ensures ∙ sym (ap (λ (s : StreamingDecoder). (reads_by s).width) c.of-start.ensures.state) ∙ e))

pub returns : goal.returns
unfolding Met
returns c =
    let m =
    moves_as c.args.self c.args.source.now c.args.out.now (sym c.is_sound.ensures ∙ c.if-not-is_sound.false) (sym c.can_begin.ensures ∙ c.if-not-can_begin.false)
    c.of-start.ensures.state c.of-start.ensures.source c.pump.ensures.value c.pump.ensures.out_after in
    record { value = m.0; out_after = m.1 }
