use Rattle.std.proofs.Common.{ℕ, ◌+◌, ◌*◌, ◌/◌, ap, ◌∙◌, List, length, arith, lit<}
use Rattle.bits.specs.Memory.{front}
use Rattle.alphabet.specs.Symbols.{coding}
use Rattle.alphabet.specs.declared.kind.AlphabetType.TheVariants.{Dna2bit}
use Rattle.windows.specs.Window.{window}
use Rattle.windows.proofs.Written.{begins_at, two_parts, rest_begun}
use Rattle.windows.proofs.WholeBytes.{aligned}
use Rattle.windows.proofs.fours.long_window.Goals as goal

pub returns : goal.returns
returns c =
    let a = c.args in
    let A = coding Dna2bit in
    let h : ℕ = c.min-head.result in
    let w = c.whole_bytes-done in
    let cut = c.split_at_mut-first in
    let rest = cut.result.1.now in
    two_parts A a.lent.now.bytes.now a.lent.now.offset a.start h (length rest) (length a.out.now) c.singles.new.out _
    (c.singles.ensures ∙ ap (window A a.lent.now.bytes.now a.lent.now.offset a.start) cut.ensures.front_len)
    (rest_begun A a.lent.now.bytes.now a.lent.now.offset (a.start + h) w.result rest w.new.out c.singles-2.new.out
    (w.ensures.1
    ∙ ap (λ (xs : List ℕ). front xs rest)
    (begins_at A a.lent.now.bytes.now a.lent.now.offset (a.start + h) ((a.start + h) / 4 * 4) w.result
    (λ l. aligned 4 a.start (length a.out.now) h (lit< tt) c.min-head.ensures (omega (arith, cut.ensures.back_len, w.ensures.0)))))
    w.ensures.0 w.auto.out c.singles-2.ensures)
    (omega (arith, cut.ensures.back_len))
