use Rattle.std.proofs.Common.{◌+◌, ◌-◌, ◌*◌, ◌∙◌, zero-le, arith}
use Rattle.alphabet.specs.Symbols.{coding}
use Rattle.alphabet.specs.declared.kind.AlphabetType.TheVariants.{Dna2bit}
use Rattle.alphabet.proofs.Laws.{widths}
use Rattle.windows.proofs.Written.{none_begun, next_begun}
use Rattle.windows.proofs.WholeBytes.{block_of_lent_byte}
use Rattle.windows.proofs.fours.whole_bytes.Goals as goal

pub returns-then-first-lent : goal.returns-then-first-lent
returns-then-first-lent c = (zero-le, none_begun _ _ _ _ _)

pub loop-n-init : goal.loop-n-init
loop-n-init c = none_begun _ _ _ _ _

pub loop-n-preserved : goal.loop-n-preserved
loop-n-preserved c =
    let a = c.args in
    let n = c.loop-n.n in
    next_begun (coding Dna2bit) _ _ (a.first * 4) 4 n _ a.out.now c.loop-n.out c.put_four.new.out (omega arith) c.loop-n.invariant
    (c.put_four.ensures
    ∙ block_of_lent_byte (coding Dna2bit) _ a.lent.now.offset 4 (a.first * 4 + n * 4) (a.first + n) (a.first - a.lent.now.offset + n) a.lent.now.small (rw widths.of_dna2bit) (omega arith)
    (rw widths.of_dna2bit (omega arith)))
