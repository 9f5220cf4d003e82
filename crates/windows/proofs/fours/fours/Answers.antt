use Rattle.std.proofs.Common.{ℕ, ◌+◌, ◌-◌, ◌*◌, ◌/◌, ◌%◌, ap, ◌∙◌, zero-le, arith}
use Rattle.alphabet.specs.Symbols.{coding}
use Rattle.alphabet.specs.declared.kind.AlphabetType.TheVariants.{Dna2bit}
use Rattle.alphabet.proofs.Laws.{widths}
use Rattle.windows.specs.Workers.{symbols_of}
use Rattle.windows.proofs.Written.{none_begun, next_begun}
use Rattle.windows.proofs.WholeBytes.{lent_across}
use Rattle.windows.proofs.fours.fours.Goals as goal

pub returns-then-first-lent : goal.returns-then-first-lent
returns-then-first-lent c = (zero-le, none_begun _ _ _ _ _)

pub loop-n-init : goal.loop-n-init
loop-n-init c = none_begun _ _ _ _ _

pub loop-n-preserved : goal.loop-n-preserved
loop-n-preserved c =
    let a = c.args in
    let n = c.loop-n.n in
    let first : ℕ = a.start / 4 in
    next_begun (coding Dna2bit) _ _ a.start 4 n _ a.out.now c.loop-n.out c.put_four.new.out (omega arith) c.loop-n.invariant
    (c.put_four.ensures
    ∙ ap (symbols_of (coding Dna2bit) 4) c.joined-byte.ensures
    ∙ lent_across (coding Dna2bit) _ a.lent.now.offset 4 (a.start + n * 4) (first + n) (first - a.lent.now.offset + n) a.lent.now.small (rw widths.of_dna2bit) (omega arith)
    (a.start % 4 * 2) ((a.start % 4 + 3) / 4) (rw widths.of_dna2bit (omega arith)) (omega arith) (λ m. omega arith))
