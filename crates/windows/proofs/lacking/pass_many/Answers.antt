use Rattle.std.proofs.Common.{◌≡◌, ℕ, ◌+◌, ◌-◌, ◌*◌, ◌/◌, ◌%◌, ◌≤◌, ap, ◌∙◌, subst, arith, lit≤}
use Rattle.bits.specs.Tables.{at}
use Rattle.bits.specs.Streams.{bit_at, word}
use Rattle.alphabet.specs.Symbols.{coding}
use Rattle.alphabet.specs.declared.kind.AlphabetType.TheVariants.{Protein}
use Rattle.windows.specs.Workers.{Passes}
use Rattle.windows.proofs.Assigned.{passes_more, eleven}
use Rattle.windows.proofs.WholeBytes.{number_part}
use Rattle.windows.proofs.lacking.pass_many.Goals as goal

pub loop-n-preserved : goal.loop-n-preserved
loop-n-preserved c =
    let a = c.args in
    let l = c.loop-n in
    let bytes = a.lent.now.bytes.now in
    let offset : ℕ = a.lent.now.offset in
    let skip : ℕ = a.start * 5 % 8 in
    let here : ℕ = a.start + l.n * 8 in
    let byte : ℕ = a.start * 5 / 8 + l.n * 5 in
    let from : ℕ = a.start * 5 / 8 - offset + l.n * 5 in
    let left : here + 12 ≤ a.end = omega (arith, c.saturating_sub-most.ensures) in
    let on : here + 8 ≡ a.start + (l.n + 1) * 8 = omega arith in
    let e : c.number.result ≡ word (bit_at 8 (at bytes)) ((byte - offset) * 8) (8 * 8) =
    number_part bytes from _ 8 c.number.result (omega arith) (omega (arith, left, c.requires.begins, c.requires.ends)) c.number.ensures
    ∙ ap (λ (x : ℕ). word (bit_at 8 (at bytes)) (x * 8) (8 * 8)) (omega (arith, c.requires.begins)) in
    let looked = eleven bytes offset c.number.result byte here 11 8 (9 - skip) (omega (arith, c.requires.begins)) (omega arith) (omega arith) e 2 (7 - skip) (omega arith) (lit≤ tt)
    (c.lacks.ensures c.if-lacks.false) in
    subst (λ (j : ℕ). Passes (coding Protein) bytes offset a.start j a.end) on
    (passes_more (coding Protein) bytes offset 8 l.invariant (omega (arith, left)) (λ t h. looked t (omega arith)))
