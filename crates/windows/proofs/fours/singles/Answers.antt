use Rattle.std.proofs.Common.{ℕ, ◌+◌, ◌%◌, ◌<◌, ◌≢◌, length, ap, ◌∙◌, arith, lit<, get_or-set_other, get_or-set_same, below_more}
use Rattle.bits.specs.Tables.{at}
use Rattle.alphabet.specs.Symbols.{coding}
use Rattle.alphabet.specs.declared.kind.AlphabetType.TheVariants.{Dna2bit}
use Rattle.alphabet.proofs.Laws.{widths}
use Rattle.windows.specs.Workers.{symbols_of}
use Rattle.windows.proofs.Written.{each_written}
use Rattle.windows.proofs.WholeBytes.{base_of_byte}
use Rattle.windows.proofs.fours.singles.Goals as goal

pub loop-n-preserved : goal.loop-n-preserved
loop-n-preserved c =
    let a = c.args in
    let l = c.loop-n in
    below_more _ _ (λ i h. let ne : i ≢ l.n = omega arith in rw get_or-set_other (l.invariant i h))
    (let lt : l.n < length l.out = omega arith in
    rw get_or-set_same
    (c.base_in.ensures
    ∙ ap (λ (v : ℕ). at (symbols_of (coding Dna2bit) 4 v) ((a.start + l.n) % 4)) c.byte.ensures
    ∙ base_of_byte (coding Dna2bit) _ a.lent.now.offset 4 a.lent.now.small (rw widths.of_dna2bit) (lit< tt) (a.start + l.n)))

pub returns : goal.returns
returns c = each_written (coding Dna2bit) _ _ c.args.start (length c.args.out.now) c.loop-n.out (omega arith) (λ i h. c.loop-n.invariant i (omega arith))
