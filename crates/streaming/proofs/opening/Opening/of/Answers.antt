use Rattle.std.proofs.Common.{arith, refl, ◌∙◌, ◌≡◌, ap, ◌%◌, ◌^◌, ◌-◌, ◌<◌, ℕ, length}
use Rattle.bits.specs.Tables.{at}
use Rattle.bits.proofs.Shifts.{low_is}
use Rattle.streaming.proofs.Calls.{sound_facts}
use Rattle.streaming.proofs.Levels.{level_same}
use Rattle.streaming.proofs.Openings.{open_pending, due_source, open_skip}
use Rattle.streaming.proofs.opening.Opening.of.Goals as goal

pub invariant_of-result : goal.invariant_of-result
invariant_of-result c =
    let s = c.args.state in
    let sound = sound_facts s c.requires.sound in
    record {
      bytes = λ i. (c.type_inv.source i).fits;
      pends = sound.few;
      few = omega (arith, sound.few);
      none = refl;
      level = level_same (open_pending s c.args.source.now c.requires.sound (omega arith)) c.from.ensures c.from-then-skip-eq0.ensures refl;
    }

pub overflow_sub-have : goal.overflow_sub-have
overflow_sub-have c = omega (arith, (sound_facts c.args.state c.requires.sound).skips)

pub invariant_of-result-2 : goal.invariant_of-result-2
invariant_of-result-2 c =
    let s = c.args.state in
    let sound = sound_facts s c.requires.sound in
    let skip : c.from-skip.result ≡ s.skip = c.from-skip.ensures in
    let due : s.skip ≡ 0 → ⊥ = λ e. c.if-skip-eq0.false (skip ∙ e) in
    let left : 8 - c.from-skip.result ≡ 8 - s.skip = ap (λ (x : ℕ). 8 - x) skip in
    let some : 0 < length c.args.source.now = due_source s c.args.source.now c.requires.sound due c.requires.begins in
    record {
      bytes = λ i. (c.type_inv.source i).fits;
      pends = sound.few;
      few = omega arith;
      none = refl;
      level =
          level_same
          (open_skip s c.args.source.now c.requires.sound due some (c.type_inv.source 0).fits refl)
          (c.low.ensures ∙ ap (λ (x : ℕ). x % 2 ^ ((8 - c.from-skip.result) % 64)) c.from-2.ensures
          ∙ low_is {n = 8 - c.from-skip.result} (omega arith) (at c.args.source.now 0)
          ∙ ap (λ (x : ℕ). at c.args.source.now 0 % 2 ^ x) left)
          left refl;
    }
