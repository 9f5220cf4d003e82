use Rattle.std.proofs.Common.{◌≡◌, ℕ, ◌-◌, ◌≤◌, Bool, List, length, take, drop, sym, ap, ◌∙◌, zero-add, arith, length-drop, take_all}
use Rattle.alphabet.specs.Symbols.{folded}
use Rattle.alphabet.specs.Bases.{Run}
use Rattle.alphabet.specs.Guess.{masked}
use Rattle.alphabet.proofs.Laws.{length-folded, folded-drop}
use Rattle.alphabet.proofs.Runs.{masked_bases}
use Rattle.alphabet.proofs.Turns.{scan_done}
use Rattle.alphabet.proofs.guesser.scan.Goals as goal

-- what follows the bases that a text begins with gives what the whole text gives
past-bases : (fold : Bool) (mask : ℕ) (text : List ℕ) (start : ℕ) → mask ≤ 31 → Run (folded fold text) start
    → masked mask (drop start (folded fold text)) ≡ masked mask (folded fold text)
past-bases fold mask text start h run =
    ap (λ (n : ℕ). masked mask (drop n (folded fold text))) (sym (zero-add start))
    ∙ masked_bases start mask (folded fold text) 0 h (omega (arith, run.within)) run.bases

-- and so does the part behind them, as it is lent
rest-alike : (fold : Bool) (mask : ℕ) (text : List ℕ) (start : ℕ) → mask ≤ 31 → Run (folded fold text) start
    → masked mask (folded fold (take (length text - start) (drop start text))) ≡ masked mask (folded fold text)
rest-alike fold mask text start h run =
    ap (λ (l : List ℕ). masked mask (folded fold l)) (take_all (length text - start) (drop start text) (omega (arith, length-drop start text)))
    ∙ ap (masked mask) (folded-drop fold start text)
    ∙ past-bases fold mask text start h run

pub returns-then-sequence-start : goal.returns-then-sequence-start
returns-then-sequence-start c =
    let b = c.pass_bases-start in
    let a = c.args in
    let text : List ℕ = folded a.fold a.sequence.now in
    let whole : length text ≤ b.result = omega (arith, c.if-sequence-start.true, length-folded a.fold a.sequence.now) in
    scan_done text a.mask b.result whole (past-bases a.fold a.mask a.sequence.now b.result c.requires.1 b.ensures)

pub returns : goal.returns
returns c =
    let a = c.args in
    let p = c.pass_bases-start in
    c.scan_masked.ensures ∙ rest-alike a.fold a.mask a.sequence.now p.result c.requires.1 p.ensures
