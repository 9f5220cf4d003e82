use Rattle.std.proofs.Common.{Option, Result, Ok, not, sym, ap₂, ◌∙◌, le-leb}
use lib.Dec.{eqb}
use Rattle.alphabet.specs.declared.kind.AlphabetType.{AlphabetType}
use Rattle.alphabet.specs.declared.refusal.Refusal.{Refusal}
use Rattle.alphabet.proofs.Calls.{named_kind}
use Rattle.packing.specs.declared.stranger.Stranger.{Stranger}
use Rattle.packing.specs.declared.encoder.SequenceEncoder.{SequenceEncoder}
use Rattle.fantailclock.specs.Encoders.{inside, state_of}
use Rattle.fantailclock.proofs.encoders.SequenceEncoderTryFromEncoder.try_from.Goals as goal

pub returns : goal.returns
unfolding state_of inside
returns c =
    let e = c.args.numbers in
    let k = c.in_ok-alphabet.alphabet in
    let s = named_kind e.alphabet k (sym c.try_from.ensures.0 ∙ c.in_ok-alphabet.was) in
    let fits = sym c.is_fitting.ensures ∙ c.if-not-is_fitting.false in
    let stands : AlphabetType → Option Stranger → Result SequenceEncoder Refusal = λ x y.
    Ok
    (record {
      alphabet = x;
      seen = e.seen;
      bits = e.pending_bits;
      pending = e.pending;
      bad = record { first = y; count = e.bad_count };
      fold = not (eqb e.fold 0);
    }) in
    ap₂ stands (sym s.1) c.first.ensures ∙ sym (rw (s.0, fits, le-leb e.pending_bits 255 c.if-numbers-gt255.false, le-leb e.pending 255 c.if-numbers-gt255-2.false))
