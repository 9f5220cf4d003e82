use Rattle.std.proofs.Common.{arith, refl, sym, ap, ◌∙◌, ◌≡◌, ◌+◌, ◌-◌, ◌≤◌, ◌<◌, ℕ, List, length}
use native.Mathlib.Nat.{lt_of_lt_of_le}
use lib.Pow.{pow_mono}
use Rattle.alphabet.specs.declared.kind.AlphabetType.{AlphabetType}
use Rattle.bits.specs.Tables.{at}
use Rattle.bits.proofs.Shifts.{push_byte_is, low_is}
use Rattle.streaming.specs.Symbols.{decoding}
use Rattle.streaming.specs.Flow.{Level, filled, answered_by}
use Rattle.streaming.proofs.Levels.{level_lt, level_fill, level_same, level_all, level_dry, level_answer, fill_more}
use Rattle.streaming.proofs.Entries.{entries, code_is}
use Rattle.streaming.proofs.Pumping.{width_is, next_base, next_level}
use Rattle.streaming.proofs.flow.Packed.finish.Goals as goal
use Rattle.streaming.proofs.flow.Packed.finish.Goals.{then-have+else-taken-source, else-have}

-- the source has no bits for another base

pub answered-requires-clause-small : goal.answered-requires-clause-small
answered-requires-clause-small g c = let inv = c.loop-n.invariant in lt_of_lt_of_le (level_lt inv.level) (pow_mono {j = 8} (omega (arith, inv.few)))

pub returns-then-taken-source-clause-value : goal.returns-then-taken-source-clause-value
returns-then-taken-source-clause-value g c =
    let p = c.args.self.now in
    let inv = c.loop-n.invariant in
    let room = length c.args.out.now in
    let all = level_dry inv.level room p.start.pends inv.few (omega (arith, width_is p.start.state p.symbols.wide p.same)) c.if-taken-source.true (omega arith) in
    level_answer inv.level room inv.few all c.answered.ensures c.loop-n.auto.out

pub returns-then-taken-source-clause-out_after : goal.returns-then-taken-source-clause-out_after
returns-then-taken-source-clause-out_after g c =
    let p = c.args.self.now in
    let inv = c.loop-n.invariant in
    let room = length c.args.out.now in
    let all = level_dry inv.level room p.start.pends inv.few (omega (arith, width_is p.start.state p.symbols.wide p.same)) c.if-taken-source.true (omega arith) in
    inv.bases ∙ ap (λ (k : ℕ). filled p.start.state p.start.source.now k c.args.out.now) all

-- a base more

pub bounds-self-field : goal.bounds-self-field
bounds-self-field g c =
    let p = c.args.self.now in
    let inv = c.loop-n.invariant in
    let few : c.if-have.have < g.row.B + 8 =
    elim c.if-have.branch [ then-have+else-taken-source w ↦ omega (arith, w.have-is, w.if-have.true) | else-have w ↦ omega (arith, w.have-is, inv.few) ] in
    (code_is _ (omega (arith, few, p.symbols.five)) p.symbols.five c.field.ensures).1

pub loop-n-preserved : goal.loop-n-preserved
loop-n-preserved g c =
    let p = c.args.self.now in
    let s = p.start.state in
    let source = p.start.source.now in
    let inv = c.loop-n.invariant in
    let five = p.symbols.five in
    let wide = width_is s p.symbols.wide p.same in
    let small = lt_of_lt_of_le (level_lt inv.level) (pow_mono {j = 56} (omega (arith, inv.few))) in
    let ready : Level s source c.if-have.acc c.if-have.have c.if-have.taken c.loop-n.n × ((g.row.B ≤ c.if-have.have) × (c.if-have.have < g.row.B + 8)) =
    elim c.if-have.branch [
      | then-have+else-taken-source w ↦ (
        level_same
            (level_fill inv.level (omega (arith, inv.level.within, w.if-taken-source.false)) _ refl (p.start.bytes c.loop-n.taken)
            (w.push_byte-acc.ensures ∙ push_byte_is _ _ small))
            w.acc-is w.have-is w.taken-is,
        (omega (arith, w.have-is, five), omega (arith, w.have-is, w.if-have.true)),
      )
      | else-have w ↦ (level_same inv.level w.acc-is w.have-is w.taken-is, (omega (arith, w.have-is, w.if-have.false), omega (arith, w.have-is, inv.few)))
    ] in
    let few : c.if-have.have - g.row.B < 8 = omega (arith, ready.1.1) in
    let code = code_is _ (omega (arith, few)) five c.field.ensures in
    record {
      level = next_level s source g.row.B wide ready.0 ready.1.0 (c.low-acc.ensures ∙ low_is (omega (arith, few)) _);
      few = few;
      bases =
          fill_more s source c.loop-n.out c.args.out.now c.loop-n.n _ (omega arith) inv.bases
          (ap (λ (t : List ℕ). at t c.field.result) (entries p.symbols.table) ∙ ap (λ (k : AlphabetType). at (decoding k) c.field.result) p.same
          ∙ next_base s source g.row.B wide ready.0 ready.1.0 c.field.result code.1 code.0);
    }

-- all that budget and space allow

pub answered-requires-2-clause-small : goal.answered-requires-2-clause-small
answered-requires-2-clause-small g c = let inv = c.loop-n.invariant in lt_of_lt_of_le (level_lt inv.level) (pow_mono {j = 8} (omega (arith, inv.few)))

pub returns-clause-value : goal.returns-clause-value
returns-clause-value g c =
    let s = c.args.self.now.start.state in
    let inv = c.loop-n.invariant in
    let room = length c.args.out.now in
    let last : c.loop-n.n ≡ c.limit-limit.result = omega arith in
    level_answer inv.level room inv.few (level_all inv.level room inv.few (omega arith))
    (c.answered-2.ensures ∙ ap (λ (k : ℕ). answered_by s c.loop-n.acc c.loop-n.have c.loop-n.taken k (length c.loop-n.out)) (sym last)) c.loop-n.auto.out

pub returns-clause-out_after : goal.returns-clause-out_after
returns-clause-out_after g c =
    let p = c.args.self.now in
    let inv = c.loop-n.invariant in
    inv.bases ∙ ap (λ (k : ℕ). filled p.start.state p.start.source.now k c.args.out.now) (level_all inv.level (length c.args.out.now) inv.few (omega arith))
