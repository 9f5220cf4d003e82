use mathlib.Core.Path.{◌≡◌, sym, ap, ◌∙◌, subst}
use Prim.Native.Nat.{ℕ, ◌*◌, ◌%◌, ◌≤◌, ◌<◌, ◌^◌}
use native.Mathlib.Omega.{arith}
use Rattle.alphabet.proofs.Laws.{lawful}
use Rattle.bits.proofs.Shifts.{power_is}
use Rattle.packing.specs.declared.encoder.SequenceEncoder.{SequenceEncoder}
use Rattle.packing.specs.Encode.{packs_by}
use Rattle.packing.proofs.Ends.{product_le, sound_far, sound_bits, sound_value, sound_rest}
use Rattle.packing.proofs.encoder.SequenceEncoder.is_sound.Goals as goal

-- as many bits pend as the symbols leave, by the width that is told
left : (s : SequenceEncoder) (b : ℕ) → b ≡ (packs_by s).width → s.bits ≡ s.seen * b % 8 → s.bits ≡ s.seen * (packs_by s).width % 8
left s b told e = e ∙ ap (λ (w : ℕ). s.seen * w % 8) told

-- so their count is below 64
few : (s : SequenceEncoder) → s.bits ≡ s.seen * (packs_by s).width % 8 → s.bits < 64
few s e = omega (arith, e)

-- what the pending value is held to
value : (s : SequenceEncoder) (bits p : ℕ) → bits ≡ s.bits → s.bits ≡ s.seen * (packs_by s).width % 8 → p ≡ 2 ^ (bits % 64) → p ≡ 2 ^ s.bits
value s bits p e rest q = q ∙ ap (λ (n : ℕ). 2 ^ (n % 64)) e ∙ power_is (few s rest)

pub returns-then-seen-gt-LIMIT : goal.returns-then-seen-gt-LIMIT
returns-then-seen-gt-LIMIT c = sound_far c.args.self c.if-seen-gt-LIMIT.true

pub overflow_mul-seen : goal.overflow_mul-seen
overflow_mul-seen c =
    let s = c.args.self in
    let narrow = subst (λ (w : ℕ). w ≤ 8) (sym c.bits_per_symbol.ensures) (lawful s.fold s.alphabet).narrow in
    omega (arith, product_le s.seen c.bits_per_symbol.result c.if-seen-gt-LIMIT.false narrow)

pub returns-then-bits-seen : goal.returns-then-bits-seen
returns-then-bits-seen c =
    let s = c.args.self in
    sound_bits s c.if-seen-gt-LIMIT.false (λ e. c.if-bits-seen.true (c.from-bits.ensures ∙ e ∙ ap (λ (w : ℕ). s.seen * w % 8) (sym c.bits_per_symbol.ensures)))

pub returns-then-power-pending : goal.returns-then-power-pending
returns-then-power-pending c =
    let s = c.args.self in
    let rest = left s _ c.bits_per_symbol.ensures (sym c.from-bits.ensures ∙ c.if-bits-seen.false) in
    sound_value s c.if-seen-gt-LIMIT.false rest (subst (λ (n : ℕ). n ≤ s.pending) (value s _ _ c.from-bits.ensures rest c.power.ensures) (subst (λ (x : ℕ). c.power.result ≤ x) c.from-pending.ensures c.if-power-pending.true))

pub returns : goal.returns
returns c =
    let s = c.args.self in
    let rest = left s _ c.bits_per_symbol.ensures (sym c.from-bits.ensures ∙ c.if-bits-seen.false) in
    let small = subst (λ (n : ℕ). s.pending < n) (value s _ _ c.from-bits.ensures rest c.power.ensures) (subst (λ (x : ℕ). x < c.power.result) c.from-pending.ensures c.if-power-pending.false) in
    sound_rest s c.if-seen-gt-LIMIT.false rest small c.is_sound_bad.result c.is_sound_bad.ensures
