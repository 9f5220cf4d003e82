use Rattle.std.proofs.Common.{◌≡◌, ℕ, ◌+◌, ◌-◌, ◌*◌, ◌≤◌, length, Bool, List, subst, sym, ◌∙◌, zero-add, arith, take, drop, length-drop, length-take-le}
use Rattle.alphabet.specs.Symbols.{folded}
use Rattle.alphabet.specs.Bases.{Bases, Run}
use Rattle.alphabet.proofs.Laws.{length-folded, run_in_part}
use Rattle.alphabet.proofs.Runs.{bases_more, run_none}
use Rattle.alphabet.proofs.bases.pass_run.Goals as goal

-- a block that has bases alone is a run of as many
whole : (fold : Bool) (text : List ℕ) (i : ℕ) → i + 64 ≤ length text → Bases (folded fold (take 64 (drop i text))) 0 64 → Run (folded fold (take 64 (drop i text))) 64
whole fold text i h bases =
    let long = length-take-le 64 (drop i text) (omega (arith, length-drop i text)) in
    record { within = omega (arith, long, length-folded fold (take 64 (drop i text))); bases = bases }

pub loop-k-init : goal.loop-k-init
loop-k-init c = (run_none (folded c.args.fold c.args.text.now)).bases

pub loop-k-preserved : goal.loop-k-preserved
loop-k-preserved c =
    let a = c.args in
    let k = c.loop-k.k in
    let inside : k * 64 + 64 ≤ length a.text.now = omega (arith, c.loop-k-test.true) in
    let width : k * 64 + 64 - k * 64 ≡ 64 = omega arith in
    let long : length (take (k * 64 + 64 - k * 64) (drop (k * 64) a.text.now)) ≡ 64 =
    length-take-le (k * 64 + 64 - k * 64) (drop (k * 64) a.text.now) (omega (arith, inside, length-drop (k * 64) a.text.now)) ∙ width in
    let bases : Bases (folded a.fold (take 64 (drop (k * 64) a.text.now))) 0 64 =
    subst (λ (n : ℕ). Bases (folded a.fold (take n (drop (k * 64) a.text.now))) 0 64) width
    (subst (Bases (folded a.fold (take (k * 64 + 64 - k * 64) (drop (k * 64) a.text.now))) 0) long (c.are_bases.ensures c.if-not-are_bases.false)) in
    let more = run_in_part a.fold a.text.now (k * 64) 64 64 inside (whole a.fold a.text.now (k * 64) inside bases) in
    let on : k * 64 + 64 ≡ (k + 1) * 64 = omega arith in
    subst (Bases (folded a.fold a.text.now) 0) on (bases_more (folded a.fold a.text.now) 0 (k * 64) 64 c.loop-k.invariant (subst (λ (n : ℕ). Bases (folded a.fold a.text.now) n 64) (sym (zero-add (k * 64))) more.1))

pub returns-then-not-are_bases : goal.returns-then-not-are_bases
returns-then-not-are_bases c =
    let a = c.args in
    record { within = omega (arith, c.loop-k-test.true, length-folded a.fold a.text.now); bases = c.loop-k.invariant }
