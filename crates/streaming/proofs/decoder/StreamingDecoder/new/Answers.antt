use Rattle.std.proofs.Common.{Err, sym, ap, ◌∙◌}
use Rattle.std.proofs.lemmas.Result.{err_from_is_err_and}
use Rattle.alphabet.proofs.Calls.{named-refused}
use Rattle.streaming.specs.Stream.{fresh_stream}
use Rattle.streaming.proofs.Calls.{start_unknown, start_skip, start_fresh}
use Rattle.streaming.proofs.decoder.StreamingDecoder.new.Goals as goal

pub returns-in_err-alphabet : goal.returns-in_err-alphabet
returns-in_err-alphabet c =
    let a = c.args in
    let named = sym c.try_from.ensures.0 ∙ c.in_err-alphabet.was in
    let p = err_from_is_err_and c.from_residual.result c.from_residual.ensures.1 in
    p.1 ∙ ap Err (p.2 ∙ (named-refused a.alphabet _ named).1) ∙ start_unknown a.alphabet a.skip a.budget _ (sym named)

pub returns-then-skip-ge8 : goal.returns-then-skip-ge8
returns-then-skip-ge8 c =
    let a = c.args in
    start_skip a.alphabet a.skip a.budget _ (sym c.in_ok-alphabet.was ∙ c.try_from.ensures.0) c.if-skip-ge8.true

pub returns : goal.returns
unfolding fresh_stream
returns c =
    let a = c.args in
    start_fresh a.alphabet a.skip a.budget _ (sym c.in_ok-alphabet.was ∙ c.try_from.ensures.0) c.if-skip-ge8.false
