use Rattle.std.proofs.Common.{arith, refl, ap₂, ◌∙◌, ◌≡◌, ◌+◌, ◌*◌, ◌%◌, ◌^◌, ◌<◌, ◌≤◌, ℕ, List, length}
use Rattle.bits.specs.Tables.{at}
use Rattle.bits.specs.Streams.{bit_at, word}
use Rattle.bits.proofs.Shifts.{power_is}
use Rattle.streaming.proofs.Blocks.{Gathered, gather_more, gather_behind}
use Rattle.streaming.proofs.flow.gather.Goals as goal

pub loop-byte-init : goal.loop-byte-init
unfolding word
loop-byte-init c = refl

pub loop-byte-preserved : goal.loop-byte-preserved
loop-byte-preserved c =
    c.push_byte-bits.ensures
    ∙ gather_more c.args.bytes.now (λ i. (c.type_inv.bytes i).fits) c.loop-byte.byte-index c.loop-byte.bits (omega arith) c.loop-byte.invariant

-- the bytes are joined, and the number before them has its place
fits : (bytes : List ℕ) (acc p i w : ℕ) → acc < 2 ^ 8 → length bytes ≤ 5 → p ≡ 2 ^ (length bytes * 8 % 64) → i ≡ length bytes → Gathered bytes i w
    → (acc * p + w < 2 ^ 64) × (acc * p + w ≡ acc * 2 ^ (length bytes * 8) + word (bit_at 8 (at bytes)) 0 (length bytes * 8))
fits bytes acc p i w small few e last done =
    let place : p ≡ 2 ^ (length bytes * 8) = e ∙ power_is (omega arith) in
    let all : Gathered bytes (length bytes) w = rw last at done in
    (rw place (gather_behind bytes acc (length bytes) w small few all), ap₂ (λ (x y : ℕ). acc * x + y) place all)

pub overflow_mul-result : goal.overflow_mul-result
overflow_mul-result c =
    omega (arith, (fits c.args.bytes.now c.args.acc c.power.result _ c.loop-byte.bits c.requires.small c.requires.few c.power.ensures (omega arith) c.loop-byte.invariant).0)

pub overflow_add-result : goal.overflow_add-result
overflow_add-result c =
    omega (arith, (fits c.args.bytes.now c.args.acc c.power.result _ c.loop-byte.bits c.requires.small c.requires.few c.power.ensures (omega arith) c.loop-byte.invariant).0)

pub returns : goal.returns
returns c = (fits c.args.bytes.now c.args.acc c.power.result _ c.loop-byte.bits c.requires.small c.requires.few c.power.ensures (omega arith) c.loop-byte.invariant).1
