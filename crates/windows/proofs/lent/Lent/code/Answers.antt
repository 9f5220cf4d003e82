use Rattle.std.proofs.Common.{◌≡◌, ℕ, ◌+◌, ◌-◌, ◌*◌, ◌/◌, ◌%◌, ◌^◌, ◌<◌, ap, ◌∙◌, arith}
use Rattle.bits.specs.Streams.{bit_at, word}
use Rattle.bits.specs.Packing.{file_byte}
use Rattle.bits.proofs.Shifts.{push_byte_is, field_is}
use Rattle.bits.proofs.Files.{file_small}
use Rattle.bits.proofs.Blocks.{two_bytes}
use Rattle.windows.proofs.lent.Lent.code.Goals as goal

pub returns : goal.returns
returns c =
    let a = c.args in
    let byte : ℕ → ℕ = file_byte a.self.now.bytes.now a.self.now.offset in
    let small : (j : ℕ) → byte j < 256 = λ j. file_small _ _ j a.self.now.small in
    let x : ℕ = c.from-first.result in
    let y : ℕ = c.byte-last.result in
    let skip : ℕ = a.bit % 8 in
    let r : ℕ = 16 - skip - a.b in
    let all : skip + a.b + r ≡ 16 = omega arith in
    let place : a.bit / 8 * 8 + skip ≡ a.bit = omega arith in
    c.field.ensures
    ∙ field_is {n = r} (omega arith) {b = a.b} (omega arith) c.push_byte.result
    ∙ ap (λ (v : ℕ). v / 2 ^ r % 2 ^ a.b) (c.push_byte.ensures ∙ push_byte_is x y (omega arith))
    ∙ two_bytes byte small (a.bit / 8) skip a.b r x y all (c.from-first.ensures ∙ c.byte.ensures) c.byte-last.type_inv
    (λ l. let next : (a.bit + a.b - 1) / 8 ≡ a.bit / 8 + 1 = omega arith in c.byte-last.ensures ∙ ap byte next)
    ∙ ap (λ (k : ℕ). word (bit_at 8 byte) k a.b) place
