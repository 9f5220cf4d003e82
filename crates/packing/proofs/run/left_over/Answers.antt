use Rattle.std.proofs.Common.{◌≡◌, ℕ, ◌+◌, ◌-◌, ◌*◌, ◌/◌, ◌%◌, ◌^◌, ◌≤◌, ◌<◌, List, length, take, drop, sym, ap, ◌∙◌, subst, add_assoc, arith, length-drop}
use native.Mathlib.Nat.{add-mul, one-mul, zero-mul, lt_of_lt_of_le}
use lib.ListN.{length-map}
use lib.Pow.{pow_mono}
use Rattle.std.proofs.Math.Seq.{get_or-take, get_or-drop, length-take-le}
use Rattle.bits.specs.Tables.{at}
use Rattle.bits.specs.Streams.{word}
use Rattle.bits.specs.Packing.{at_hand}
use Rattle.bits.proofs.Shifts.{push_is, low_is}
use Rattle.bits.proofs.Hand.{hand_lt}
use Rattle.packing.specs.Run.{looked}
use Rattle.packing.proofs.Digits.{looked_digit}
use Rattle.packing.proofs.Turns.{trailed, trail_none, trail_more, trail_fits, trail_end}
use Rattle.packing.proofs.run.left_over.Goals as goal

-- the last symbols, as they are lent
long : (text : List ℕ) (f : ℕ) → f ≤ length text → length (take (length text - f) (drop f text)) ≡ length text - f
long text f h = length-take-le (length text - f) (drop f text) (omega (arith, length-drop f text))

-- no bits are left
pub returns-then-left-eq0 : goal.returns-then-left-eq0
unfolding word
returns-then-left-eq0 c =
    let a = c.args in
    let d : List ℕ = looked a.table.now a.text.now in
    let none : (a.p + length d * a.b) % 8 ≡ 0 = ap (λ (n : ℕ). (a.p + n * a.b) % 8) (length-map a.text.now (at a.table.now)) ∙ c.if-left-eq0.true in
    sym (ap (word (at_hand a.p a.a a.b d) ((a.p + length d * a.b) / 8 * 8)) none)

pub loop-byte-init : goal.loop-byte-init
loop-byte-init c =
    let a = c.args in
    let f : ℕ = length a.text.now - c.min.result in
    let d : List ℕ = looked a.table.now a.text.now in
    c.from-acc.ensures ∙ trail_none (at_hand a.p a.a a.b d) (hand_lt a.p a.a a.b d) a.a (a.p + f * a.b) (0 * a.b) (zero-mul a.b)

pub loop-byte-preserved : goal.loop-byte-preserved
loop-byte-preserved c =
    let a = c.args in
    let l = c.loop-byte in
    let text : List ℕ = a.text.now in
    let f : ℕ = length text - c.min.result in
    let k : ℕ = l.byte-index in
    let d : List ℕ = looked a.table.now text in
    let s : ℕ → ℕ = at_hand a.p a.a a.b d in
    let bits : (i : ℕ) → s i < 2 = hand_lt a.p a.a a.b d in
    let few : k < length text - f = omega (arith, c.loop-byte-test.true, long text f (omega arith)) in
    let inside : f + k < length text = omega arith in
    let narrow : a.b ≤ 8 = c.requires.narrow in
    let under : a.b < 64 = omega arith in
    let small : a.a < 2 ^ 7 = lt_of_lt_of_le c.requires.small (pow_mono (let z : a.p ≤ 7 = omega (arith, c.requires.few) in z)) in
    let next : (k + 1) * a.b ≡ k * a.b + a.b = add-mul k 1 a.b ∙ ap (λ (x : ℕ). k * a.b + x) (one-mul a.b) in
    let place : a.p + (f + k) * a.b ≡ a.p + f * a.b + k * a.b = ap (λ (x : ℕ). a.p + x) (add-mul f k a.b) ∙ sym (add_assoc a.p (f * a.b) (k * a.b)) in
    let byte = get_or-take (length text - f) (drop f text) k 0 few ∙ get_or-drop f text k 0 in
    let digit : c.digit.result % 2 ^ a.b ≡ word s (a.p + f * a.b + k * a.b) a.b =
    ap (λ (x : ℕ). x % 2 ^ a.b) (c.digit.ensures ∙ ap (at a.table.now) byte)
    ∙ looked_digit a.b a.p a.a a.table.now text (f + k) inside
    ∙ ap (λ (x : ℕ). word s x a.b) place in
    let least : (a.p + length text * a.b) % 8 < 8 = omega arith in
    let six : k ≤ 6 = omega (arith, c.min.ensures, least, few) in
    let room : l.acc * 2 ^ a.b < 2 ^ 64 =
    subst (λ (x : ℕ). x * 2 ^ a.b < 2 ^ 64) (sym l.invariant) (trail_fits s bits a.a (a.p + f * a.b) k a.b small six narrow) in
    c.push-acc.ensures
    ∙ push_is under l.acc c.digit.result room
    ∙ ap (λ (x : ℕ). x * 2 ^ a.b + c.digit.result % 2 ^ a.b) l.invariant
    ∙ trail_more s bits a.a (a.p + f * a.b) (k * a.b) a.b (c.digit.result % 2 ^ a.b) digit
    ∙ ap (trailed s a.a (a.p + f * a.b)) (sym next)

pub returns : goal.returns
returns c =
    let a = c.args in
    let l = c.loop-byte in
    let text : List ℕ = a.text.now in
    let n : ℕ = length text in
    let f : ℕ = n - c.min.result in
    let q : ℕ = (a.p + n * a.b) % 8 in
    let least : q < 8 = omega arith in
    let below : q < 64 = omega arith in
    let d : List ℕ = looked a.table.now text in
    let all : l.byte-index ≡ n - f = omega (arith, c.loop-byte-test.false, c.loop-byte.auto.byte-index-end, long text f (omega arith)) in
    c.low.ensures
    ∙ low_is below l.acc
    ∙ ap (λ (x : ℕ). x % 2 ^ q) (l.invariant ∙ ap (λ (k : ℕ). trailed (at_hand a.p a.a a.b d) a.a (a.p + f * a.b) (k * a.b)) all)
    ∙ trail_end a.b a.p a.a c.requires.some c.requires.small d n f (sym (length-map text (at a.table.now))) (ap (λ (x : ℕ). n - x) c.min.ensures)
