use Rattle.std.specs.Prelude.{Ok}
use Rattle.std.proofs.Common.{◌≡◌, ℕ, ◌*◌, ◌^◌, ◌≤◌, false, sym, ap, ◌∙◌, arith}
use Rattle.std.proofs.lemmas.Result.{err_from_is_err_and}
use Rattle.alphabet.specs.Symbols.{coding}
use Rattle.alphabet.specs.Names.{kind_of, numbered}
use Rattle.alphabet.specs.declared.kind.AlphabetType.{AlphabetType}
use Rattle.alphabet.proofs.Laws.{lawful}
use Rattle.windows.proofs.Turns.{bit_fits}
use Rattle.windows.proofs.Answering.{covered-yes, covered_early, covered_late, range-order}
use Rattle.windows.proofs.Answering.{Placed, placed, placed_some, placed_near, lent-refused, lent-empty, lent_not, lent_short, lent_bases}
use Rattle.windows.proofs.asked.asked_covered.Goals as goal

-- the width that was asked for is the alphabet's, and positions by it fit
width_is : (alphabet b : ℕ) (kind : AlphabetType) → b ≡ (coding kind).width → kind ≡ kind_of alphabet → b ≡ (numbered alphabet).width
width_is alphabet b kind e k = e ∙ ap (λ (x : AlphabetType). (coding x).width) k

end_fits : {alphabet offset start end n : ℕ} (b : ℕ) → Placed alphabet offset start end n → b ≡ (numbered alphabet).width → end * b ≤ 2 ^ 63
end_fits {alphabet} b w e = bit_fits (placed_near w) (omega (arith, e, (lawful false (kind_of alphabet)).narrow))

pub returns-in_err-count : goal.returns-in_err-count
returns-in_err-count c =
    let a = c.args in
    let p = err_from_is_err_and c.from_residual.result c.from_residual.ensures.1 in
    rw (p.1, p.2)
    (sym c.in_err-count.was
    ∙ lent-refused a.alphabet a.lent.now.bytes.now a.lent.now.offset a.start a.end a.room c.asked.result c.asked.ensures _ c.in_err-count.was)

pub returns-then-count-eq0 : goal.returns-then-count-eq0
returns-then-count-eq0 c =
    let a = c.args in
    ap Ok (sym c.if-count-eq0.true)
    ∙ lent-empty a.alphabet a.lent.now.bytes.now a.lent.now.offset a.start a.end a.room c.asked.result c.asked.ensures _ c.in_ok-count.was c.if-count-eq0.true

pub overflow_mul-start : goal.overflow_mul-start
overflow_mul-start c =
    let a = c.args in
    let b = c.bits_per_symbol-b in
    let w = placed a.alphabet a.lent.now.offset a.start a.end c.asked.result c.in_ok-count.count c.asked.ensures c.in_ok-count.was c.if-count-eq0.false in
    omega (
      arith,
      bit_fits {i = a.start} {b = b.result} (omega (arith, placed_some w, placed_near w))
          (omega (arith, width_is a.alphabet b.result c.kind_of.result b.ensures c.kind_of.ensures, (lawful false (kind_of a.alphabet)).narrow)),
    )

pub overflow_mul-end : goal.overflow_mul-end
overflow_mul-end c =
    let a = c.args in
    let b = c.bits_per_symbol-b in
    omega (
      arith,
      end_fits b.result (placed a.alphabet a.lent.now.offset a.start a.end c.asked.result c.in_ok-count.count c.asked.ensures c.in_ok-count.was c.if-count-eq0.false)
          (width_is a.alphabet b.result c.kind_of.result b.ensures c.kind_of.ensures),
    )

pub overflow_add-end : goal.overflow_add-end
overflow_add-end c =
    let a = c.args in
    let b = c.bits_per_symbol-b in
    omega (
      arith,
      end_fits b.result (placed a.alphabet a.lent.now.offset a.start a.end c.asked.result c.in_ok-count.count c.asked.ensures c.in_ok-count.was c.if-count-eq0.false)
          (width_is a.alphabet b.result c.kind_of.result b.ensures c.kind_of.ensures),
    )

pub overflow_sub-end : goal.overflow_sub-end
overflow_sub-end c =
    let a = c.args in
    let w = placed a.alphabet a.lent.now.offset a.start a.end c.asked.result c.in_ok-count.count c.asked.ensures c.in_ok-count.was c.if-count-eq0.false in
    omega (arith, c.if-start-b.false, range-order c.bits_per_symbol-b.result a.start a.end (placed_some w))

pub returns-then-start-b : goal.returns-then-start-b
returns-then-start-b c =
    let a = c.args in
    let b = c.bits_per_symbol-b in
    lent_not (placed a.alphabet a.lent.now.offset a.start a.end c.asked.result c.in_ok-count.count c.asked.ensures c.in_ok-count.was c.if-count-eq0.false) a.lent.now.bytes.now a.room
    (covered_early _ _ _ _ _ (rw (← width_is a.alphabet b.result c.kind_of.result b.ensures c.kind_of.ensures) c.if-start-b.true))

pub returns-then-lent-end : goal.returns-then-lent-end
returns-then-lent-end c =
    let a = c.args in
    let b = c.bits_per_symbol-b in
    let e = width_is a.alphabet b.result c.kind_of.result b.ensures c.kind_of.ensures in
    lent_not (placed a.alphabet a.lent.now.offset a.start a.end c.asked.result c.in_ok-count.count c.asked.ensures c.in_ok-count.was c.if-count-eq0.false) a.lent.now.bytes.now a.room
    (covered_late _ _ _ _ _ (rw (← e) c.if-start-b.false) (rw (← e) c.if-lent-end.true))

pub returns-then-room-count : goal.returns-then-room-count
returns-then-room-count c =
    let a = c.args in
    let b = c.bits_per_symbol-b in
    let e = width_is a.alphabet b.result c.kind_of.result b.ensures c.kind_of.ensures in
    lent_short (placed a.alphabet a.lent.now.offset a.start a.end c.asked.result c.in_ok-count.count c.asked.ensures c.in_ok-count.was c.if-count-eq0.false) a.lent.now.bytes.now a.room
    (covered-yes _ _ _ _ _ (rw (← e) c.if-start-b.false) (rw (← e) c.if-lent-end.false)) c.if-room-count.true

pub returns : goal.returns
returns c =
    let a = c.args in
    let b = c.bits_per_symbol-b in
    let e = width_is a.alphabet b.result c.kind_of.result b.ensures c.kind_of.ensures in
    lent_bases (placed a.alphabet a.lent.now.offset a.start a.end c.asked.result c.in_ok-count.count c.asked.ensures c.in_ok-count.was c.if-count-eq0.false) a.lent.now.bytes.now a.room
    (covered-yes _ _ _ _ _ (rw (← e) c.if-start-b.false) (rw (← e) c.if-lent-end.false)) c.if-room-count.false
