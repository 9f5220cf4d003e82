use Rattle.std.proofs.Common.{◌≡◌, ℕ, ◌-◌, ◌*◌, ◌/◌, ◌%◌, ◌^◌, ◌<◌, ◌≤◌, length, sym, ap, ◌∙◌, arith, ◌≢◌, get_or-set_other, get_or-set_same, below_more, mul-le-mul_right}
use Rattle.bits.specs.Tables.{at}
use Rattle.bits.proofs.Tabulated.{is_tabulate}
use Rattle.bits.proofs.Shifts.{field_is, code_lt}
use Rattle.windows.proofs.WholeBytes.{entry_fields}
use Rattle.windows.proofs.blocks.spread.Goals as goal

-- field t of c
at_field : (w b c t code : ℕ) → b ≤ 5 → c * b < 64 → code ≡ w / 2 ^ ((c - 1 - t) * b % 64) % 2 ^ (b % 64) → code ≡ w / 2 ^ ((c - 1 - t) * b) % 2 ^ b
at_field w b c t code five whole e =
    let less : (c - 1 - t) * b ≤ c * b = mul-le-mul_right b (omega arith) in
    e ∙ field_is {n = (c - 1 - t) * b} (omega (arith, less)) {b = b} (omega arith) w

pub bounds-table-field : goal.bounds-table-field
bounds-table-field c =
    let a = c.args in
    rw (at_field a.w a.b _ c.loop-t.t _ c.requires.0 c.requires.1 c.field.ensures) (code_lt (a.w / 2 ^ ((length a.out.now - 1 - c.loop-t.t) * a.b)) a.b c.requires.0)

pub loop-t-preserved : goal.loop-t-preserved
loop-t-preserved c =
    let a = c.args in
    let l = c.loop-t in
    below_more _ _ (λ i h. let ne : i ≢ l.t = omega arith in rw get_or-set_other (l.invariant i h))
    (let lt : l.t < length l.out = omega arith in rw get_or-set_same (ap (at a.table.now) (at_field a.w a.b _ l.t _ c.requires.0 c.requires.1 c.field.ensures)))

pub returns : goal.returns
returns c =
    let a = c.args in
    is_tabulate (length a.out.now) (λ t. at a.table.now (a.w / 2 ^ ((length a.out.now - 1 - t) * a.b) % 2 ^ a.b)) 0 c.loop-t.out (omega arith) (λ i h. c.loop-t.invariant i (omega arith))
    ∙ sym (entry_fields a.table.now a.b (length a.out.now) a.w)
