use Rattle.std.proofs.Common.{length, sym, ◌∙◌}
use Rattle.std.proofs.lemmas.Result.{err_from_is_err_and}
use Rattle.alphabet.specs.Symbols.{coding_by}
use Rattle.packing.proofs.Ends.{encode_unknown, encode_known, encode_kept, encode-accepted, encode-wrote}
use Rattle.packing.proofs.sequence.encode_sequence.Goals as goal

pub returns-in_err-kind-clause-value : goal.returns-in_err-kind-clause-value
returns-in_err-kind-clause-value c =
    let a = c.args in
    let p = err_from_is_err_and c.from_residual.result c.from_residual.ensures.1 in
    rw (p.1, p.2) (encode_unknown a.alphabet a.fold a.text.now a.out.now c.in_err-kind.field-0.0 (sym c.try_from.ensures.0 ∙ c.in_err-kind.was)).0

pub returns-in_err-kind-clause-memory : goal.returns-in_err-kind-clause-memory
returns-in_err-kind-clause-memory c =
    let a = c.args in
    (encode_unknown a.alphabet a.fold a.text.now a.out.now c.in_err-kind.field-0.0 (sym c.try_from.ensures.0 ∙ c.in_err-kind.was)).1

pub returns-in_err-count-clause-value : goal.returns-in_err-count-clause-value
returns-in_err-count-clause-value c =
    let a = c.args in
    let p = err_from_is_err_and c.from_residual-in_err-count.result c.from_residual-in_err-count.ensures.1 in
    rw (p.1, p.2)
    (sym (encode_known a.alphabet a.fold a.text.now a.out.now c.in_ok-kind.kind (sym c.try_from.ensures.0 ∙ c.in_ok-kind.was) ∙ (sym c.asked.ensures ∙ c.in_err-count.was)))

pub write_packing-requires-clause-members : goal.write_packing-requires-clause-members
write_packing-requires-clause-members c =
    let h = encode-accepted (coding_by c.args.fold c.in_ok-kind.kind) c.args.text.now (length c.args.out.now) c.in_ok-count.count (sym c.asked.ensures ∙ c.in_ok-count.was) in
    λ e. h.1.1

pub write_packing-requires-clause-bounded : goal.write_packing-requires-clause-bounded
write_packing-requires-clause-bounded c =
    (encode-accepted (coding_by c.args.fold c.in_ok-kind.kind) c.args.text.now (length c.args.out.now) c.in_ok-count.count (sym c.asked.ensures ∙ c.in_ok-count.was)).0

pub write_packing-requires-clause-fits : goal.write_packing-requires-clause-fits
write_packing-requires-clause-fits c =
    (encode-accepted (coding_by c.args.fold c.in_ok-kind.kind) c.args.text.now (length c.args.out.now) c.in_ok-count.count (sym c.asked.ensures ∙ c.in_ok-count.was)).1.0

pub returns-in_err-count-clause-memory : goal.returns-in_err-count-clause-memory
returns-in_err-count-clause-memory c =
    let a = c.args in
    encode_kept a.alphabet a.fold a.text.now a.out.now c.in_ok-kind.kind (sym c.try_from.ensures.0 ∙ c.in_ok-kind.was) c.in_err-count.field-0.0 (sym c.asked.ensures ∙ c.in_err-count.was)

pub returns-clause-value : goal.returns-clause-value
returns-clause-value c =
    let a = c.args in
    sym (encode_known a.alphabet a.fold a.text.now a.out.now c.in_ok-kind.kind (sym c.try_from.ensures.0 ∙ c.in_ok-kind.was) ∙ (sym c.asked.ensures ∙ c.in_ok-count.was))

pub returns-clause-memory : goal.returns-clause-memory
returns-clause-memory c =
    let a = c.args in
    c.write_packing.ensures
    ∙ encode-wrote a.alphabet a.fold a.text.now a.out.now c.in_ok-kind.kind (sym c.try_from.ensures.0 ∙ c.in_ok-kind.was) c.in_ok-count.count (sym c.asked.ensures ∙ c.in_ok-count.was)
