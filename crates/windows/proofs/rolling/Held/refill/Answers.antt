use Rattle.std.proofs.Common.{ℕ, ◌+◌, ◌*◌, ◌%◌, ◌^◌, refl, ap, ◌∙◌, arith}
use Rattle.bits.specs.Packing.{file_byte}
use Rattle.bits.proofs.Files.{file_small}
use Rattle.windows.proofs.Turns.{refill_more}
use Rattle.windows.proofs.rolling.Held.refill.Goals as goal

pub returns : goal.returns
returns c =
    let a = c.args in (
      omega arith,
      omega arith,
      λ place r. refill_more (file_byte a.lent.now.bytes.now a.lent.now.offset) (λ j. file_small _ _ j a.lent.now.small) place a.self _ r
          c.requires.0 refl refl (c.push_byte.ensures ∙ ap (λ (x : ℕ). a.self.acc % 2 ^ 56 * 256 + x) c.byte.ensures),
    )
