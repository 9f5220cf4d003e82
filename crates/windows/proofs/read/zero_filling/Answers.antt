use Rattle.std.proofs.Common.{length, sym, ◌∙◌, arith, length-take-le}
use Rattle.windows.specs.Window.{read_memory}
use Rattle.windows.proofs.Answering.{accepted, refused-after, empty-after, bases_after}
use Rattle.windows.proofs.read.zero_filling.Goals as goal

pub returns-in_err-count-clause-out_after : goal.returns-in_err-count-clause-out_after
unfolding read_memory
returns-in_err-count-clause-out_after g c =
    let a = c.args in
    refused-after a.alphabet a.bytes.now a.offset a.start a.out.now _ _ (sym c.asked.ensures ∙ c.in_err-count.was)

pub returns-then-count-eq0-clause-out_after : goal.returns-then-count-eq0-clause-out_after
unfolding read_memory
returns-then-count-eq0-clause-out_after g c =
    let a = c.args in
    empty-after a.alphabet a.bytes.now a.offset a.start a.out.now _ _ (sym c.asked.ensures ∙ c.in_ok-count.was) c.if-count-eq0.true

pub slice_bounds-write-end : goal.slice_bounds-write-end
slice_bounds-write-end g c =
    let a = c.args in
    (accepted a.alphabet a.offset a.start a.end (length a.out.now) c.asked.result c.in_ok-count.count c.asked.ensures c.in_ok-count.was c.if-count-eq0.false).1

pub slice_bounds-write-end-2 : goal.slice_bounds-write-end-2
slice_bounds-write-end-2 g c =
    let a = c.args in
    let fits = accepted a.alphabet a.offset a.start a.end (length a.out.now) c.asked.result c.in_ok-count.count c.asked.ensures c.in_ok-count.was c.if-count-eq0.false in
    sym (length-take-le c.in_ok-count.count a.out.now fits.1)

pub write-requires : goal.write-requires
write-requires g c =
    let a = c.args in
    let fits = accepted a.alphabet a.offset a.start a.end (length a.out.now) c.asked.result c.in_ok-count.count c.asked.ensures c.in_ok-count.was c.if-count-eq0.false in
    omega (arith, length-take-le c.in_ok-count.count a.out.now fits.1, fits.0)

pub returns-clause-out_after : goal.returns-clause-out_after
unfolding read_memory
returns-clause-out_after g c =
    let a = c.args in
    let fits = accepted a.alphabet a.offset a.start a.end (length a.out.now) c.asked.result c.in_ok-count.count c.asked.ensures c.in_ok-count.was c.if-count-eq0.false in
    bases_after a.alphabet a.bytes.now a.offset a.start a.out.now _ _ c.in_ok-count.count _ c.write.new.out (sym c.asked.ensures ∙ c.in_ok-count.was) c.requires
    (length-take-le c.in_ok-count.count a.out.now fits.1) c.write.ensures
