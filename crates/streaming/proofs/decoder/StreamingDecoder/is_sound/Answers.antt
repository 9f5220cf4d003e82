use Rattle.std.proofs.Common.{arith, sym, ap, ◌∙◌, ◌≡◌, ◌*◌, ◌%◌, ◌^◌, ℕ}
use borrow.Author.Tests.{eq-eqb, ne_eqb}
use Rattle.bits.proofs.Shifts.{one_shl}
use Rattle.streaming.proofs.Calls.{sound_last, unsound_skip, unsound_bits, unsound_pending}
use Rattle.streaming.proofs.decoder.StreamingDecoder.is_sound.Goals as goal

pub returns-then-self-ge8 : goal.returns-then-self-ge8
returns-then-self-ge8 c = sym (unsound_skip c.args.self c.if-self-ge8.true)

pub returns-then-self-ge8-2 : goal.returns-then-self-ge8-2
returns-then-self-ge8-2 c = sym (unsound_bits c.args.self c.if-self-ge8.false c.if-self-ge8-2.true)

pub returns-then-from : goal.returns-then-from
returns-then-from c =
    let s = c.args.self in
    let all : 1 * 2 ^ c.from.result % 2 ^ 64 ≡ 2 ^ s.bits = one_shl c.from.result (omega arith) ∙ ap (λ (n : ℕ). 2 ^ n) c.from.ensures in
    sym (unsound_pending s c.if-self-ge8.false c.if-self-ge8-2.false (omega (arith, all)))

pub returns-then-self-eq0 : goal.returns-then-self-eq0
returns-then-self-eq0 c =
    let s = c.args.self in
    let all : 1 * 2 ^ c.from.result % 2 ^ 64 ≡ 2 ^ s.bits = one_shl c.from.result (omega arith) ∙ ap (λ (n : ℕ). 2 ^ n) c.from.ensures in
    rw (sound_last s c.if-self-ge8.false c.if-self-ge8-2.false (omega (arith, all)), eq-eqb s.skip 0 c.if-self-eq0.true)

pub returns-else-self-eq0 : goal.returns-else-self-eq0
returns-else-self-eq0 c =
    let s = c.args.self in
    let all : 1 * 2 ^ c.from.result % 2 ^ 64 ≡ 2 ^ s.bits = one_shl c.from.result (omega arith) ∙ ap (λ (n : ℕ). 2 ^ n) c.from.ensures in
    rw (sound_last s c.if-self-ge8.false c.if-self-ge8-2.false (omega (arith, all)), ne_eqb s.skip 0 c.if-self-eq0.false)
