use Rattle.std.proofs.Common.{◌≡◌, ℕ, ◌+◌, ◌-◌, ◌*◌, ◌/◌, ◌%◌, ◌^◌, ◌≤◌, ◌<◌, List, length, set, refl, sym, ap, ◌∙◌, subst, arith}
use lib.ListN.{length-map}
use Rattle.bits.specs.Tables.{at}
use Rattle.bits.specs.Packing.{at_hand}
use Rattle.bits.specs.Streams.{word}
use Rattle.bits.proofs.Hand.{hand_lt, hand_head}
use Rattle.bits.proofs.Rolling.{rolled_start, rolled_byte, pushed_lt, turn, turn_byte, turn_room}
use Rattle.bits.proofs.Shifts.{push_is, low_is, top_is}
use Rattle.packing.specs.Run.{looked}
use Rattle.packing.proofs.Digits.{looked_digit}
use Rattle.packing.proofs.Turns.{shift_fits, renamed, pack_end}
use Rattle.packing.proofs.run.pack_rolling.Goals.{then-p-ge8, else-p-ge8}
use Rattle.packing.proofs.run.pack_rolling.Goals as goal

pub loop-byte-init : goal.loop-byte-init
loop-byte-init c =
    let a = c.args in
    let d : List ℕ = looked a.table.now a.text.now in
    let held = sym (hand_head a.p0 a.a0 a.b d c.requires.pends.small) in
    renamed (rolled_start (at_hand a.p0 a.a0 a.b d) (hand_lt a.p0 a.a0 a.b d) a.b a.p0 a.out.now a.a0 c.requires.pends.few held) c.from-acc.ensures refl refl refl

pub loop-byte-preserved : goal.loop-byte-preserved
loop-byte-preserved c =
    let a = c.args in
    let o = c.loop-byte in
    let i : ℕ = o.byte-index in
    let d : List ℕ = looked a.table.now a.text.now in
    let s : ℕ → ℕ = at_hand a.p0 a.a0 a.b d in
    let bits : (k : ℕ) → s k < 2 = hand_lt a.p0 a.a0 a.b d in
    let more : i < length a.text.now = c.loop-byte-test.true in
    let g : ℕ = c.digit.result % 2 ^ a.b in
    let digit : g ≡ word s (a.p0 + i * a.b) a.b = ap (λ (x : ℕ). x % 2 ^ a.b) c.digit.ensures ∙ looked_digit a.b a.p0 a.a0 a.table.now a.text.now i more in
    let narrow : a.b ≤ 8 = c.requires.pends.narrow in
    let under : a.b < 64 = omega arith in
    let small = rolled_byte s bits a.b a.p0 a.out.now i o.acc o.p o.w o.out o.invariant in
    let pushed : c.push-acc.result ≡ o.acc * 2 ^ a.b + g = c.push-acc.ensures ∙ push_is under o.acc c.digit.result (shift_fits o.acc a.b 8 small (omega arith)) in
    let wide : c.push-acc.result < 2 ^ (o.p + a.b) =
    subst (λ (x : ℕ). x < 2 ^ (o.p + a.b)) (sym pushed) (pushed_lt s bits a.b a.p0 a.out.now i o.acc o.p o.w g o.out o.invariant digit) in
    elim c.if-p-ge8.branch [
      | then-p-ge8 w ↦
          let q : ℕ = o.p + a.b - 8 in
          let sum : o.p + a.b ≡ 8 + q = omega (arith, w.if-p-ge8.true) in
          let few : q < 8 = omega (arith, o.invariant.few, narrow) in
          let below : q < 64 = omega arith in
          let high : c.push-acc.result < 2 ^ (8 + q) = subst (λ (n : ℕ). c.push-acc.result < 2 ^ n) sum wide in
          let room = turn_room s bits a.b a.p0 a.out.now i o.acc o.p o.w (length a.text.now) o.out o.invariant more w.if-p-ge8.true c.requires.fits in
          let r = turn_byte s bits a.b a.p0 a.out.now i o.acc o.p o.w g q o.out o.invariant digit sum few room in
          let byte = w.byte_at.ensures ∙ top_is below c.push-acc.result high ∙ ap (λ (x : ℕ). x / 2 ^ q) pushed in
          let out = w.out-is ∙ ap (λ (x : ℕ). set o.out o.w x) byte in
          let left = w.acc-is ∙ w.low-acc.ensures ∙ low_is below c.push-acc.result ∙ ap (λ (x : ℕ). x % 2 ^ q) pushed in
          renamed r left w.p-is w.w-is out
      | else-p-ge8 w ↦
          renamed (turn s bits a.b a.p0 a.out.now i o.acc o.p o.w g o.out o.invariant digit w.if-p-ge8.false) (w.acc-is ∙ pushed) w.p-is w.w-is w.out-is
    ]

pub returns : goal.returns
returns c =
    let a = c.args in
    let o = c.loop-byte in
    (pack_end a.b a.p0 a.a0 (looked a.table.now a.text.now) a.out.now o.byte-index o.acc o.p o.w o.out (omega (arith, c.loop-byte-test.false, c.loop-byte.auto.byte-index-end, length-map a.text.now (at a.table.now))) o.invariant).1
