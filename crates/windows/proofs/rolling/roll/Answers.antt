use Rattle.std.proofs.Common.{ℕ, ◌+◌, ◌<◌, length, refl, arith, ◌≢◌, get_or-set_other, get_or-set_same, below_more}
use Rattle.bits.proofs.Files.{file_small}
use Rattle.alphabet.specs.Symbols.{coding}
use Rattle.windows.proofs.Turns.{next_base, one_on, take_rest}
use Rattle.windows.proofs.Written.{each_written}
use Rattle.windows.proofs.rolling.roll.Goals as goal

pub bounds-table-field : goal.bounds-table-field
bounds-table-field c =
    let a = c.args in
    let r = c.refill-held in
    (next_base (coding a.table.now.kind) _ _ c.bits_per_symbol-b.result _ c.field.result _ r.result a.lent.now.small c.bits_per_symbol-b.ensures c.requires.0 a.table.now.laid
    (r.ensures.2 _ c.loop-base.invariant.1) r.ensures.0 r.ensures.1 c.field.ensures).0

pub loop-base-preserved : goal.loop-base-preserved
loop-base-preserved c =
    let a = c.args in
    let l = c.loop-base in
    let r = c.refill-held in
    let b : ℕ = c.bits_per_symbol-b.result in
    let base =
    next_base (coding a.table.now.kind) a.lent.now.bytes.now a.lent.now.offset b (a.start + l.base-index) c.field.result a.table.now.symbols r.result a.lent.now.small c.bits_per_symbol-b.ensures
    c.requires.0 a.table.now.laid (r.ensures.2 _ l.invariant.1) r.ensures.0 r.ensures.1 c.field.ensures in (
      omega (arith, r.ensures),
      rw (← one_on a.start l.base-index b) (take_rest _ (λ j. file_small _ _ j a.lent.now.small) b _ r.result (r.ensures.2 _ l.invariant.1) r.ensures.0 _ refl refl refl),
      below_more _ _ (λ i h. let ne : i ≢ l.base-index = omega arith in rw get_or-set_other (l.invariant.2 i h))
          (let lt : l.base-index < length l.out = omega arith in rw get_or-set_same base.1),
    )

pub returns : goal.returns
returns c = each_written (coding c.args.table.now.kind) _ _ c.args.start (length c.args.out.now) c.loop-base.out (omega arith) (λ i h. c.loop-base.invariant.2 i (omega arith))
