use Rattle.std.proofs.Common.{◌≡◌, ℕ, ◌+◌, ◌-◌, ◌*◌, drop, ap, ◌∙◌, take, subst, sym, arith}
use Rattle.alphabet.specs.Symbols.{folded}
use Rattle.alphabet.specs.Guess.{masked}
use Rattle.alphabet.proofs.Runs.{masked_bases}
use Rattle.alphabet.proofs.Turns.{scan_past}
use Rattle.alphabet.proofs.mask.Masks.pass_alike.Goals as goal

pub loop-k-init : goal.loop-k-init
loop-k-init c =
    let a = c.args in
    let run = c.pass_bases-bases.ensures in
    let text = folded a.self.now.fold a.text.now in
    let at-first : c.pass_bases-bases.result + 0 ≡ 0 + c.pass_bases-bases.result = omega arith in
    ap (λ (n : ℕ). masked a.acc (drop n text)) at-first ∙ masked_bases c.pass_bases-bases.result a.acc text 0 c.requires (omega (arith, run.within)) run.bases

pub loop-k-preserved : goal.loop-k-preserved
loop-k-preserved c =
    let a = c.args in
    let i = c.pass_bases-bases.result + c.loop-k.k * 8 in
    let on : i + 8 ≡ c.pass_bases-bases.result + (c.loop-k.k + 1) * 8 = omega arith in
    let width : i + 8 - i ≡ 8 = omega arith in
    let same : masked a.acc (folded a.self.now.fold (take 8 (drop i a.text.now))) ≡ a.acc =
    subst (λ (n : ℕ). masked a.acc (folded a.self.now.fold (take n (drop i a.text.now))) ≡ a.acc) width (sym c.after.ensures ∙ c.if-after-acc.false) in
    ap (λ (n : ℕ). masked a.acc (drop n (folded a.self.now.fold a.text.now))) (sym on) ∙ scan_past a.self.now.fold a.text.now a.acc i 8 same c.loop-k.invariant
