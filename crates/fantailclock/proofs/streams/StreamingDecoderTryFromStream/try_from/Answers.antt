use Rattle.std.proofs.Common.{Result, Ok, sym, ap, ◌∙◌, le-leb}
use Rattle.alphabet.specs.declared.kind.AlphabetType.{AlphabetType}
use Rattle.alphabet.specs.declared.refusal.Refusal.{Refusal}
use Rattle.alphabet.proofs.Calls.{named_kind}
use Rattle.streaming.specs.declared.decoder.StreamingDecoder.{StreamingDecoder}
use Rattle.fantailclock.specs.Streams.{inside, state_of}
use Rattle.fantailclock.proofs.streams.StreamingDecoderTryFromStream.try_from.Goals as goal

pub returns : goal.returns
unfolding state_of inside
returns c =
    let s = c.args.numbers in
    let k = c.in_ok-alphabet.alphabet in
    let n = named_kind s.alphabet k (sym c.try_from.ensures.0 ∙ c.in_ok-alphabet.was) in
    let stands : AlphabetType → Result StreamingDecoder Refusal = λ x.
    Ok (record { alphabet = x; skip = s.skip; budget = s.budget; bits = s.pending_bits; pending = s.pending }) in
    ap stands (sym n.1)
    ∙ sym (rw (n.0, le-leb s.skip 255 c.if-numbers-gt255.false, le-leb s.pending_bits 255 c.if-numbers-gt255-2.false, le-leb s.pending 255 c.if-numbers-gt255-3.false))
