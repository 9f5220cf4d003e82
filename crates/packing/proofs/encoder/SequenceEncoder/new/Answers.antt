use Rattle.std.proofs.Common.{sym, ◌∙◌}
use Rattle.std.proofs.lemmas.Result.{err_from_is_err_and}
use Rattle.packing.specs.Encode.{fresh_encoder}
use Rattle.packing.proofs.Ends.{start_known, start_refused}
use Rattle.packing.proofs.encoder.SequenceEncoder.new.Goals as goal

pub returns-in_err-alphabet : goal.returns-in_err-alphabet
returns-in_err-alphabet c =
    let p = err_from_is_err_and c.from_residual.result c.from_residual.ensures.1 in
    rw (p.1, p.2) (start_refused c.args.alphabet c.args.fold c.in_err-alphabet.field-0.0 (sym c.try_from.ensures.0 ∙ c.in_err-alphabet.was))

pub returns : goal.returns
unfolding fresh_encoder
returns c = start_known c.args.alphabet c.args.fold c.in_ok-alphabet.alphabet (sym c.try_from.ensures.0 ∙ c.in_ok-alphabet.was)
