use Rattle.std.proofs.Common.{Bool, ap, ◌∙◌, sym, inl, arith}
use Rattle.alphabet.specs.Symbols.{folded_entries}
use Rattle.alphabet.proofs.Turns.{fold_none, fold_more, fold_done, fold_kept}
use Rattle.alphabet.proofs.fold.fold_entries.Goals as goal

pub loop-v-init : goal.loop-v-init
loop-v-init c = fold_none c.args.table.now

pub loop-v-preserved : goal.loop-v-preserved
loop-v-preserved c =
    let l = c.loop-v in
    let i = l.invariant in
    rw (c.from-in-loop-v.ensures, c.from.ensures) (fold_more c.args.table.now l.table l.v (omega (arith, c.loop-v-test.true)) (omega (arith, c.loop-v-test.true, i.long, c.told-table)) i)

pub returns-after-loop-v : goal.returns-after-loop-v
returns-after-loop-v c =
    let t = c.args.table.now in
    fold_done t c.loop-v.table c.loop-v.v (inl c.loop-v-test.false) c.loop-v.invariant ∙ ap (λ (f : Bool). folded_entries f t) (sym c.if-fold.true)

pub returns-else-fold : goal.returns-else-fold
returns-else-fold c =
    let t = c.args.table.now in
    fold_kept t ∙ ap (λ (f : Bool). folded_entries f t) (sym c.if-fold.false)
