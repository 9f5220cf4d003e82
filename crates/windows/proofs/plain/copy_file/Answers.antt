use Rattle.std.proofs.Common.{ℕ, min, ap, ◌∙◌, length, arith}
use Rattle.windows.proofs.WholeBytes.{parts_written}
use Rattle.windows.proofs.plain.copy_file.Goals as goal

pub returns : goal.returns
returns c =
    let a = c.args in
    let z = c.split_at_mut-zeros.ensures in
    let y = c.split_at_mut-copy.ensures in
    parts_written _ a.lent.now.offset a.start (length a.out.now) c.min-before.result c.min-first.result c.min-copied.result _ _ _ c.loop-n.copy _
    (c.min-before.ensures ∙ ap (λ (x : ℕ). min x (length a.out.now)) c.saturating_sub.ensures)
    (c.min-first.ensures ∙ ap (λ (x : ℕ). min x (length a.lent.now.bytes.now)) c.saturating_sub-2.ensures)
    c.min-copied.ensures z.front_len (omega (arith, y.front_len, c.loop-n.auto.copy)) (omega (arith, z.back_len, y.back_len))
    (c.fill.ensures.after (λ v e. e)) (λ i h. c.loop-n.invariant i (omega (arith, y.front_len, c.loop-n.auto.copy))) (c.fill-2.ensures.after (λ v e. e))
