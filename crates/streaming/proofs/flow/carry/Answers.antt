use Rattle.std.proofs.Common.{arith, refl, sym, ap, ◌∙◌, ◌≡◌, ◌+◌, ◌<◌, ℕ, length}
use Rattle.std.specs.List.{between}
use Rattle.std.proofs.lemmas.List.Edits.{get_or-between, length-between}
use native.Mathlib.Nat.{lt_of_lt_of_le}
use lib.Pow.{pow_mono}
use Rattle.bits.proofs.Shifts.{push_byte_is, low_is, top_is}
use Rattle.streaming.specs.Flow.{filled}
use Rattle.streaming.proofs.Levels.{level_lt, level_fill, level_same, level_answer, fill_none, fill_more}
use Rattle.streaming.proofs.Carrying.{carry_lt, carry_base, carry_level, carry_count, copy_level, copy_memory}
use Rattle.streaming.proofs.flow.carry.Goals as goal

-- bytes as they come

pub returns-then-have-eq0-clause-value : goal.returns-then-have-eq0-clause-value
returns-then-have-eq0-clause-value c =
    let s = c.args.start in
    let room = length c.args.out.now in
    let bare = level_same s.level refl (sym c.if-have-eq0.true) refl in
    let copied = copy_level s.state s.source.now c.requires.eight s.flow.taken bare c.min-count.result (omega (arith, s.level.within)) in
    let all = carry_count s.state s.source.now c.requires.eight s.flow.taken c.limit-limit.result room s.pends (omega arith) copied c.limit-limit.ensures c.min-count.ensures in
    level_answer copied room (omega arith) all c.answered.ensures c.copy.auto.out

pub returns-then-have-eq0-clause-out_after : goal.returns-then-have-eq0-clause-out_after
returns-then-have-eq0-clause-out_after c =
    let s = c.args.start in
    let room = length c.args.out.now in
    let bare = level_same s.level refl (sym c.if-have-eq0.true) refl in
    let copied = copy_level s.state s.source.now c.requires.eight s.flow.taken bare c.min-count.result (omega (arith, s.level.within)) in
    let all = carry_count s.state s.source.now c.requires.eight s.flow.taken c.limit-limit.result room s.pends (omega arith) copied c.limit-limit.ensures c.min-count.ensures in
    copy_memory s.state s.source.now c.requires.eight s.flow.taken bare s.bytes c.requires.same c.min-count.result _ _ c.args.out.now
    (omega (arith, s.level.within)) refl c.copy.ensures all

-- bytes past the bits at hand

pub loop-n-init : goal.loop-n-init
loop-n-init c =
    let s = c.args.start in
    record { level = level_same s.level refl refl (omega arith); bases = fill_none s.state s.source.now c.args.out.now }

pub loop-n-preserved : goal.loop-n-preserved
loop-n-preserved c =
    let s = c.args.start in
    let source = s.source.now in
    let eight = c.requires.eight in
    let inv = c.loop-n.invariant in
    let taken : ℕ = s.flow.taken + c.min-count.result in
    let long : length (between s.flow.taken taken source) ≡ c.min-count.result = length-between source s.flow.taken taken (omega (arith, s.level.within)) ∙ omega arith in
    let more : c.loop-n.n < c.min-count.result = omega arith in
    let small = lt_of_lt_of_le (level_lt inv.level) (pow_mono {j = 56} (omega (arith, s.few))) in
    let byte = get_or-between source s.flow.taken taken c.loop-n.n 0 (omega arith) in
    let pushed =
    level_same
    (level_fill inv.level (omega arith) _ byte (omega (arith, byte, s.bytes (s.flow.taken + c.loop-n.n))) (c.push_byte-bits.ensures ∙ push_byte_is _ _ small))
    refl refl (omega arith) in
    let code = c.byte_at.ensures ∙ top_is (omega (arith, s.few)) _ (carry_lt s.state source eight s.flow.have pushed) in
    record {
      level = carry_level s.state source eight s.flow.have pushed (c.low-acc.ensures ∙ low_is (omega (arith, s.few)) _);
      bases =
          fill_more s.state source c.loop-n.out c.args.out.now c.loop-n.n _ (omega arith) inv.bases (carry_base s.state source eight s.flow.have pushed c.requires.same code);
    }

pub answered-requires-2-clause-small : goal.answered-requires-2-clause-small
answered-requires-2-clause-small c = lt_of_lt_of_le (level_lt c.loop-n.invariant.level) (pow_mono {j = 8} (omega (arith, c.args.start.few)))

pub returns-clause-value : goal.returns-clause-value
returns-clause-value c =
    let s = c.args.start in
    let source = s.source.now in
    let inv = c.loop-n.invariant in
    let room = length c.args.out.now in
    let taken : ℕ = s.flow.taken + c.min-count.result in
    let long : length (between s.flow.taken taken source) ≡ c.min-count.result = length-between source s.flow.taken taken (omega (arith, s.level.within)) ∙ omega arith in
    let last : c.loop-n.n ≡ c.min-count.result = omega arith in
    let level = rw last at inv.level in
    let all = carry_count s.state source c.requires.eight s.flow.taken c.limit-limit.result room s.pends s.few level c.limit-limit.ensures c.min-count.ensures in
    level_answer level room s.few all c.answered-2.ensures c.loop-n.auto.out

pub returns-clause-out_after : goal.returns-clause-out_after
returns-clause-out_after c =
    let s = c.args.start in
    let source = s.source.now in
    let inv = c.loop-n.invariant in
    let room = length c.args.out.now in
    let taken : ℕ = s.flow.taken + c.min-count.result in
    let long : length (between s.flow.taken taken source) ≡ c.min-count.result = length-between source s.flow.taken taken (omega (arith, s.level.within)) ∙ omega arith in
    let last : c.loop-n.n ≡ c.min-count.result = omega arith in
    let level = rw last at inv.level in
    let all = carry_count s.state source c.requires.eight s.flow.taken c.limit-limit.result room s.pends s.few level c.limit-limit.ensures c.min-count.ensures in
    inv.bases ∙ ap (λ (k : ℕ). filled s.state source k c.args.out.now) (last ∙ all)
