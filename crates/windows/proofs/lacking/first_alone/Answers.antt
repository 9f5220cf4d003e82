use Rattle.std.proofs.Common.{◌≡◌, ℕ, ◌+◌, sym, ap, ◌∙◌, subst, arith}
use Rattle.alphabet.specs.Symbols.{coding}
use Rattle.alphabet.specs.declared.kind.AlphabetType.TheVariants.{Protein}
use Rattle.windows.specs.Workers.{Passes}
use Rattle.windows.proofs.Assigned.{code_at, lacking_here, lacking_past, lacking_none, passes_more, protein_has, protein_lacks}
use Rattle.windows.proofs.lacking.first_alone.Goals as goal

pub returns-then-code-ge-LACKING : goal.returns-then-code-ge-LACKING
returns-then-code-ge-LACKING c =
    let a = c.args in
    let l = c.loop-i in (
      sym
          (lacking_past (coding Protein) a.lent.now.bytes.now a.lent.now.offset l.invariant
          ∙ lacking_here (coding Protein) a.lent.now.bytes.now a.lent.now.offset l.i a.end c.loop-i-test.true
          (protein_lacks a.lent.now.bytes.now a.lent.now.offset l.i (omega (arith, c.if-code-ge-LACKING.true, c.code.ensures)))),
      c.loop-i-test.true,
    )

pub loop-i-preserved : goal.loop-i-preserved
loop-i-preserved c =
    let a = c.args in
    let l = c.loop-i in
    passes_more (coding Protein) a.lent.now.bytes.now a.lent.now.offset 1 l.invariant (omega (arith, c.loop-i-test.true))
    (λ t h.
    let here : l.i + t ≡ l.i = omega arith in
    ap (λ (k : ℕ). (coding Protein).assigned (code_at (coding Protein) a.lent.now.bytes.now a.lent.now.offset k)) here
    ∙ protein_has a.lent.now.bytes.now a.lent.now.offset l.i (omega (arith, c.if-code-ge-LACKING.false, c.code.ensures)))

pub returns : goal.returns
returns c =
    let l = c.loop-i in
    let a = c.args in
    let all : l.i ≡ a.end = omega (arith, l.invariant.to, c.loop-i-test.false) in
    lacking_none (coding Protein) a.lent.now.bytes.now a.lent.now.offset
    (subst (λ (k : ℕ). Passes (coding Protein) a.lent.now.bytes.now a.lent.now.offset a.start k a.end) all l.invariant)
