use Rattle.std.proofs.Common.{arith, refl, sym, ap, ◌∙◌, ◌≡◌, ◌++◌, List, ℕ, length, drop}
use native.Mathlib.Numerals.{add-one}
use Rattle.bits.specs.Tables.{tabulate, at}
use Rattle.bits.proofs.Tabulated.{is_tabulate, store}
use Rattle.packing.proofs.Blocks.{bytes_ran}
use Rattle.packing.proofs.run.pack_whole.Goals as goal

pub loop-n-init : goal.loop-n-init
unfolding tabulate
loop-n-init c = refl

pub loop-n-preserved : goal.loop-n-preserved
loop-n-preserved c = rw (c.loop-n.invariant, add-one c.loop-n.n) (store c.loop-n.n (at c.args.text.now) c.args.out.now _ (omega arith) refl)

pub returns : goal.returns
returns c =
    let text : List ℕ = c.args.text.now in
    let all : c.loop-n.n ≡ length text = omega arith in
    c.loop-n.invariant
    ∙ ap (λ (n : ℕ). tabulate n (at text) ++ drop n c.args.out.now) all
    ∙ ap (λ (l : List ℕ). l ++ drop (length text) c.args.out.now) (sym (is_tabulate (length text) (at text) 0 text refl (λ i h. refl)))
    ∙ bytes_ran text c.args.out.now (λ i. (c.type_inv.text i).fits)
