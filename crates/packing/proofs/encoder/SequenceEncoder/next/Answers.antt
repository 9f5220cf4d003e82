use Rattle.std.proofs.Common.{ℕ, ◌+◌, ◌*◌, ◌%◌, ◌≤◌, not, length, sym, ap, ap₂, ◌∙◌, subst, arith}
use Rattle.bits.proofs.Counted.{many_le}
use Rattle.alphabet.proofs.Laws.{lawful}
use Rattle.packing.specs.declared.bad.Bad.{Bad}
use Rattle.packing.specs.Encode.{both_bad_of, packs_by}
use Rattle.packing.specs.Run.{Pends, left_over_of, looked}
use Rattle.packing.proofs.Digits.{left_digits}
use Rattle.packing.proofs.Ends.{product_le, sound, few_bits, few_bad, pends, next_state, whole-bits}
use Rattle.packing.proofs.encoder.SequenceEncoder.next.Goals as goal

-- the piece's bits are few
pub overflow_mul-result : goal.overflow_mul-result
overflow_mul-result c =
    let s = c.args.self in
    let narrow = subst (λ (b : ℕ). b ≤ 8) (sym c.bits_per_symbol-b.ensures) (lawful s.fold s.alphabet).narrow in
    omega (arith, product_le (length c.args.piece.now) c.bits_per_symbol-b.result (omega (arith, c.requires.bounded)) narrow)

pub overflow_add-result-2 : goal.overflow_add-result-2
overflow_add-result-2 c =
    let s = c.args.self in
    let narrow = subst (λ (b : ℕ). b ≤ 8) (sym c.bits_per_symbol-b.ensures) (lawful s.fold s.alphabet).narrow in
    omega (
      arith,
      c.from-bits.ensures,
      few_bits s (sound s c.requires.accepted),
      product_le (length c.args.piece.now) c.bits_per_symbol-b.result (omega (arith, c.requires.bounded)) narrow,
    )

-- what pends before the piece
pub left_over-requires : goal.left_over-requires
left_over-requires c =
    let s = c.args.self in
    let n : ℕ = length c.args.piece.now in
    subst (λ (p : ℕ). Pends c.bits_per_symbol-b.result p s.pending n) (sym c.from-bits.ensures)
    (subst (λ (b : ℕ). Pends b s.bits s.pending n) (sym c.bits_per_symbol-b.ensures) (pends s c.args.piece.now c.requires.accepted c.requires.bounded))

-- no more non-members than symbols, before the piece and in it
pub both_bad-requires : goal.both_bad-requires
both_bad-requires c =
    let s = c.args.self in
    let some = subst (λ (b : Bad). b.count ≤ length c.args.piece.now) (sym c.requires.searched) (many_le (λ v. not ((packs_by s).member v)) c.args.piece.now) in
    omega (arith, some, few_bad (packs_by s) s.seen s.bad (sound s c.requires.accepted).non-members, c.requires.bounded)

pub returns : goal.returns
returns c =
    let s = c.args.self in
    let piece = c.args.piece.now in
    let n : ℕ = length piece in
    let pending = c.left_over.ensures
    ∙ ap₂ (λ (b p : ℕ). left_over_of b p s.pending (looked c.args.table.now piece)) c.bits_per_symbol-b.ensures c.from-bits.ensures
    ∙ left_digits s.fold s.alphabet c.args.table.now piece c.requires.tabled (λ i. (c.type_inv.piece i).fits) s.bits s.pending (whole-bits s c.requires.accepted) in
    next_state s piece _ c.left_over.result c.both_bad.result (ap₂ (λ (p b : ℕ). (p + n * b) % 8) c.from-bits.ensures c.bits_per_symbol-b.ensures) pending
    (c.both_bad.ensures ∙ ap (both_bad_of s.bad) c.requires.searched)
