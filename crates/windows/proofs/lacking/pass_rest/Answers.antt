use Rattle.std.proofs.Common.{◌≡◌, ℕ, ◌+◌, ◌-◌, ◌*◌, ◌/◌, List, length, take, drop, subst, zero-le, add-zero, arith}
use Rattle.bits.specs.Tables.{at}
use Rattle.bits.specs.Streams.{bit_at, word}
use Rattle.alphabet.specs.Symbols.{coding}
use Rattle.alphabet.specs.declared.kind.AlphabetType.TheVariants.{Protein}
use Rattle.windows.specs.Workers.{Covered, Passes}
use Rattle.windows.proofs.Assigned.{passes_none, passes_more, shifted_fits, eleven}
use Rattle.windows.proofs.WholeBytes.{number_part}
use Rattle.windows.proofs.lacking.pass_rest.Goals as goal

-- the number that the bytes of a window write
of_bytes : (lent : List ℕ) (offset start end k v : ℕ) → Covered lent offset start end → k ≡ (end * 5 + 7) / 8 - offset - (start * 5 / 8 - offset)
    → v ≡ word (bit_at 8 (at (take k (drop (start * 5 / 8 - offset) lent)))) 0 (length (take k (drop (start * 5 / 8 - offset) lent)) * 8)
    → v ≡ word (bit_at 8 (at lent)) ((start * 5 / 8 - offset) * 8) (((end * 5 + 7) / 8 - start * 5 / 8) * 8)
of_bytes lent offset start end k v w same e =
    number_part lent (start * 5 / 8 - offset) k ((end * 5 + 7) / 8 - start * 5 / 8) v (omega (arith, w.begins, w.near.order, same)) (omega (arith, w.begins, w.ends, w.near.order)) e

pub lacks-requires : goal.lacks-requires
lacks-requires c =
    let a = c.args in
    let w = c.requires in
    let first : ℕ = a.start * 5 / 8 in
    let last : ℕ = (a.end * 5 + 7) / 8 in (
      shifted_fits a.lent.now.bytes.now a.lent.now.offset c.number-all.result first a.start (a.end - a.start) (last - first) (last * 8 - a.end * 5) w.begins (omega arith)
          (omega (arith, w.near.order)) (of_bytes _ a.lent.now.offset a.start a.end _ _ w (omega arith) c.number-all.ensures) (omega arith),
      zero-le,
    )

pub returns : goal.returns
returns c =
    let a = c.args in
    let w = c.requires in
    let bytes = a.lent.now.bytes.now in
    let offset : ℕ = a.lent.now.offset in
    let n : ℕ = a.end - a.start in
    let first : ℕ = a.start * 5 / 8 in
    let last : ℕ = (a.end * 5 + 7) / 8 in
    let spare : ℕ = last * 8 - a.end * 5 in
    let whole : a.start + n ≡ a.end = omega (arith, w.near.order) in
    subst (λ (i : ℕ). Passes (coding Protein) bytes offset a.start i a.end) whole
    (passes_more (coding Protein) bytes offset n (passes_none (coding Protein) bytes offset a.start a.end w.near.order) (omega (arith, whole))
    (eleven bytes offset c.number-all.result first a.start n (last - first) spare w.begins (omega arith) (omega (arith, w.near.order))
    (of_bytes bytes offset a.start a.end _ _ w (omega arith) c.number-all.ensures) spare 0 (add-zero spare) (omega arith) (c.lacks.ensures c.if-lacks.false)))
