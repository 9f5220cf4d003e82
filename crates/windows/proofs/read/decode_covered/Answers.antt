use Rattle.std.specs.Prelude.{Ok}
use Rattle.std.proofs.lemmas.Result.{err_from_is_err_and}
use Rattle.std.proofs.Common.{[], ◌∷◌, length, sym, refl, ap, ◌∙◌, arith, length-take-le}
use Rattle.alphabet.specs.Questions.{by}
use Rattle.alphabet.specs.Symbols.{coding}
use Rattle.alphabet.specs.declared.kind.AlphabetType.{AlphabetType}
use Rattle.windows.specs.Window.{covers, first_lacking_of, covered_memory}
use Rattle.windows.proofs.Answering.{lent-accepted, refused-after, empty-after, bases_after, looked-refused, looked-empty, looked_lacking, looked_bases}
use Rattle.windows.proofs.read.decode_covered.Goals as goal

pub returns-in_err-count-clause-value : goal.returns-in_err-count-clause-value
returns-in_err-count-clause-value c =
    let a = c.args in
    let p = err_from_is_err_and c.from_residual.result c.from_residual.ensures.1 in
    rw (p.1, p.2)
    (sym c.in_err-count.was
    ∙ looked-refused a.alphabet a.bytes.now a.byte_offset a.start a.end (length a.out.now) c.asked_covered.result c.asked_covered.ensures _ c.in_err-count.was)

pub returns-in_err-count-clause-out_after : goal.returns-in_err-count-clause-out_after
unfolding covered_memory
returns-in_err-count-clause-out_after c =
    let a = c.args in
    let told = looked-refused a.alphabet a.bytes.now a.byte_offset a.start a.end (length a.out.now) c.asked_covered.result c.asked_covered.ensures _ c.in_err-count.was in
    refused-after a.alphabet a.bytes.now a.byte_offset a.start a.out.now _ _ (sym told ∙ c.in_err-count.was)

pub returns-then-count-eq0-clause-value : goal.returns-then-count-eq0-clause-value
returns-then-count-eq0-clause-value c =
    let a = c.args in
    ap Ok (sym c.if-count-eq0.true)
    ∙ sym c.in_ok-count.was
    ∙ looked-empty a.alphabet a.bytes.now a.byte_offset a.start a.end (length a.out.now) c.asked_covered.result c.asked_covered.ensures _ c.in_ok-count.was c.if-count-eq0.true

pub returns-then-count-eq0-clause-out_after : goal.returns-then-count-eq0-clause-out_after
unfolding covered_memory
returns-then-count-eq0-clause-out_after c =
    let a = c.args in
    let told = looked-empty a.alphabet a.bytes.now a.byte_offset a.start a.end (length a.out.now) c.asked_covered.result c.asked_covered.ensures _ c.in_ok-count.was c.if-count-eq0.true in
    empty-after a.alphabet a.bytes.now a.byte_offset a.start a.out.now _ _ (sym told ∙ c.in_ok-count.was) c.if-count-eq0.true

pub first_lacking-requires : goal.first_lacking-requires
first_lacking-requires c =
    let a = c.args in
    let w = lent-accepted a.alphabet a.bytes.now a.byte_offset a.start a.end (length a.out.now) c.asked_covered.result c.in_ok-count.count c.asked_covered.ensures c.in_ok-count.was
    c.if-count-eq0.false in (
      record { order = omega (arith, w.whole); far = omega (arith, w.whole, w.fits.0) },
      ap (λ (x : AlphabetType). covers (coding x) a.bytes.now a.byte_offset a.start a.end) c.kind_of-kind.ensures ∙ w.all,
    )

pub returns-in-Some-clause-value : goal.returns-in-Some-clause-value
returns-in-Some-clause-value c =
    let a = c.args in
    looked_lacking a.alphabet a.bytes.now a.byte_offset a.start a.end (length a.out.now) c.asked_covered.result c.asked_covered.ensures c.in_ok-count.count c.in_ok-count.was c.in-Some.first
    (c.in-Some.ensures.0 ∙ ap (λ (x : AlphabetType). first_lacking_of (coding x) a.bytes.now a.byte_offset a.start a.end) c.kind_of-kind.ensures) c.in-Some.ensures.1

pub returns-in-Some-clause-out_after : goal.returns-in-Some-clause-out_after
unfolding covered_memory
returns-in-Some-clause-out_after c =
    let a = c.args in
    let told = looked_lacking a.alphabet a.bytes.now a.byte_offset a.start a.end (length a.out.now) c.asked_covered.result c.asked_covered.ensures c.in_ok-count.count c.in_ok-count.was
    c.in-Some.first (c.in-Some.ensures.0 ∙ ap (λ (x : AlphabetType). first_lacking_of (coding x) a.bytes.now a.byte_offset a.start a.end) c.kind_of-kind.ensures) c.in-Some.ensures.1 in
    refused-after a.alphabet a.bytes.now a.byte_offset a.start a.out.now _ (by 18 (c.in-Some.first ∷ [])) (sym told)

pub slice_bounds-write-end : goal.slice_bounds-write-end
slice_bounds-write-end c =
    let a = c.args in
    (lent-accepted a.alphabet a.bytes.now a.byte_offset a.start a.end (length a.out.now) c.asked_covered.result c.in_ok-count.count c.asked_covered.ensures c.in_ok-count.was
    c.if-count-eq0.false).fits.1

pub slice_bounds-write-end-2 : goal.slice_bounds-write-end-2
slice_bounds-write-end-2 c =
    let a = c.args in
    let w = lent-accepted a.alphabet a.bytes.now a.byte_offset a.start a.end (length a.out.now) c.asked_covered.result c.in_ok-count.count c.asked_covered.ensures c.in_ok-count.was
    c.if-count-eq0.false in
    sym (length-take-le c.in_ok-count.count a.out.now w.fits.1)

pub write-requires : goal.write-requires
write-requires c =
    let a = c.args in
    let w = lent-accepted a.alphabet a.bytes.now a.byte_offset a.start a.end (length a.out.now) c.asked_covered.result c.in_ok-count.count c.asked_covered.ensures c.in_ok-count.was
    c.if-count-eq0.false in
    omega (arith, length-take-le c.in_ok-count.count a.out.now w.fits.1, w.fits.0)

pub returns-clause-value : goal.returns-clause-value
returns-clause-value c =
    let a = c.args in
    let e = ap (λ (x : AlphabetType). first_lacking_of (coding x) a.bytes.now a.byte_offset a.start a.end) (sym c.kind_of-kind.ensures) ∙ c.in_default.ensures in
    sym c.in_ok-count.was
    ∙ looked_bases a.alphabet a.bytes.now a.byte_offset a.start a.end (length a.out.now) c.asked_covered.result c.asked_covered.ensures c.in_ok-count.count c.in_ok-count.was _ refl
    (omega (arith, e))

pub returns-clause-out_after : goal.returns-clause-out_after
unfolding covered_memory
returns-clause-out_after c =
    let a = c.args in
    let e = ap (λ (x : AlphabetType). first_lacking_of (coding x) a.bytes.now a.byte_offset a.start a.end) (sym c.kind_of-kind.ensures) ∙ c.in_default.ensures in
    let told = looked_bases a.alphabet a.bytes.now a.byte_offset a.start a.end (length a.out.now) c.asked_covered.result c.asked_covered.ensures c.in_ok-count.count c.in_ok-count.was _ refl
    (omega (arith, e)) in
    let w = lent-accepted a.alphabet a.bytes.now a.byte_offset a.start a.end (length a.out.now) c.asked_covered.result c.in_ok-count.count c.asked_covered.ensures c.in_ok-count.was
    c.if-count-eq0.false in
    bases_after a.alphabet a.bytes.now a.byte_offset a.start a.out.now _ _ c.in_ok-count.count _ c.write.new.out (sym told ∙ c.in_ok-count.was) c.kind_of-kind.ensures
    (length-take-le c.in_ok-count.count a.out.now w.fits.1) c.write.ensures
