use Rattle.std.proofs.Common.{◌≡◌, ℕ, ◌+◌, ◌-◌, ◌*◌, ◌%◌, ◌^◌, ◌<◌, List, length, take, drop, sym, ap, ◌∙◌, subst, arith, length-drop}
use Rattle.std.proofs.Math.Seq.{get_or-take, get_or-drop, length-take-le}
use Rattle.bits.specs.Tables.{at}
use Rattle.bits.specs.Streams.{bit_at, word}
use Rattle.packing.specs.Run.{looked}
use Rattle.packing.proofs.Blocks.{gather_none}
use Rattle.packing.proofs.Digits.{at_map}
use Rattle.packing.proofs.Eights.{four_more}
use Rattle.packing.proofs.run.four_of.Goals as goal

-- four bytes are lent
four : (c : goal.After-digit) → length (take (c.args.i + 4 - c.args.i) (drop c.args.i c.args.text.now)) ≡ 4
four c =
    let i : ℕ = c.args.i in
    let some : i + 4 - i ≡ 4 = omega arith in
    length-take-le (i + 4 - i) (drop i c.args.text.now) (omega (arith, length-drop i c.args.text.now, c.requires.1.0)) ∙ some

-- one more digit, which has room
turned : (c : goal.After-digit) → (c.loop-byte.x * 2 ^ c.args.b % 2 ^ 64 + c.digit.result
    ≡ word (bit_at c.args.b (at (looked c.args.table.now c.args.text.now))) (c.args.i * c.args.b) ((c.loop-byte.byte-index + 1) * c.args.b))
    × (c.loop-byte.x * 2 ^ c.args.b % 2 ^ 64 + c.digit.result < 2 ^ 64)
turned c =
    let a = c.args in
    let l = c.loop-byte in
    let text : List ℕ = a.text.now in
    let j : ℕ = l.byte-index in
    let few : j < 4 = omega (arith, c.loop-byte-test.true, four c) in
    let within : a.i + j < length text = omega (arith, c.requires.1.0) in
    let byte = get_or-take (a.i + 4 - a.i) (drop a.i text) j 0 (omega arith) ∙ get_or-drop a.i text j 0 in
    let small : c.digit.result < 2 ^ a.b = subst (λ (x : ℕ). x < 2 ^ a.b) (sym c.digit.ensures) (c.requires.1.1 _) in
    let entry = c.digit.ensures ∙ ap (at a.table.now) byte ∙ sym (at_map (at a.table.now) text (a.i + j) within) in
    four_more a.b (at (looked a.table.now text)) c.requires.0 a.i j l.x c.digit.result few l.invariant entry small

pub loop-byte-init : goal.loop-byte-init
loop-byte-init c = gather_none c.args.b (at (looked c.args.table.now c.args.text.now)) (c.args.i * c.args.b)

pub overflow_add-x : goal.overflow_add-x
overflow_add-x c = omega (arith, (turned c).1)

pub loop-byte-preserved : goal.loop-byte-preserved
loop-byte-preserved c = (turned c).0

pub returns : goal.returns
returns c =
    let a = c.args in
    let i : ℕ = a.i in
    let long : length (take (i + 4 - i) (drop i a.text.now)) ≡ 4 =
    length-take-le (i + 4 - i) (drop i a.text.now) (omega (arith, length-drop i a.text.now, c.requires.1.0)) ∙ (let some : i + 4 - i ≡ 4 = omega arith in some) in
    let all : c.loop-byte.byte-index ≡ 4 = omega (arith, c.loop-byte-test.false, c.loop-byte.auto.byte-index-end, long) in
    c.loop-byte.invariant ∙ ap (λ (n : ℕ). word (bit_at a.b (at (looked a.table.now a.text.now))) (a.i * a.b) (n * a.b)) all
