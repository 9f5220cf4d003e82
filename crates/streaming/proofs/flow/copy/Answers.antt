use Rattle.std.proofs.Common.{arith, refl, sym, ap, ◌∙◌, ◌≡◌, ◌++◌, List, ℕ, length, drop}
use native.Mathlib.Numerals.{add-one}
use Rattle.bits.specs.Tables.{tabulate, at}
use Rattle.bits.proofs.Tabulated.{is_tabulate, store}
use Rattle.streaming.proofs.flow.copy.Goals as goal

pub loop-n-init : goal.loop-n-init
unfolding tabulate
loop-n-init c = refl

pub loop-n-preserved : goal.loop-n-preserved
loop-n-preserved c = rw (c.loop-n.invariant, add-one c.loop-n.n) (store c.loop-n.n (at c.args.bytes.now) c.args.out.now _ (omega arith) refl)

pub returns : goal.returns
returns c =
    let bytes : List ℕ = c.args.bytes.now in
    let all : c.loop-n.n ≡ length bytes = omega arith in
    c.loop-n.invariant
    ∙ ap (λ (n : ℕ). tabulate n (at bytes) ++ drop n c.args.out.now) all
    ∙ ap (λ (l : List ℕ). l ++ drop (length bytes) c.args.out.now) (sym (is_tabulate (length bytes) (at bytes) 0 bytes refl (λ i h. refl)))
