use Rattle.std.proofs.Common.{arith, ◌≡◌, ◌/◌, ◌%◌, ◌^◌, ◌<◌, ◌*◌, length-set, ap, ap₂, ◌∙◌, ℕ, List, [], ◌∷◌}
use lib.Pow.{pow_mono}
use Rattle.bits.specs.Tables.{at}
use Rattle.bits.proofs.Shifts.{power_is, low_is, code_lt}
use Rattle.streaming.specs.Symbols.{decoding}
use Rattle.streaming.proofs.Entries.{entries, code_is, paired_more}
use Rattle.streaming.proofs.symbols.Singles.paired.Goals as goal

pub bounds-self-field : goal.bounds-self-field
bounds-self-field g c = let s = c.args.self.now in (code_is _ (omega (arith, s.five)) s.five c.field.ensures).1

pub bounds-self-low : goal.bounds-self-low
bounds-self-low g c =
    let s = c.args.self.now in
    let is : c.low.result ≡ c.loop-v.v % 2 ^ g.row.B = c.low.ensures ∙ low_is (omega (arith, s.five)) _ in
    omega (arith, is, code_lt c.loop-v.v g.row.B s.five)

pub bounds-rows-v : goal.bounds-rows-v
bounds-rows-v g c =
    let s = c.args.self.now in
    let all : c.power-all.result ≡ 2 ^ (g.row.B * 2) = c.power-all.ensures ∙ power_is (omega (arith, s.five)) in
    omega (arith, all, pow_mono {i = g.row.B * 2} {j = 10} (omega (arith, s.five)))

pub loop-v-preserved : goal.loop-v-preserved
loop-v-preserved g c =
    let s = c.args.self.now in
    let v = c.loop-v.v in
    let all : c.power-all.result ≡ 2 ^ (g.row.B * 2) = c.power-all.ensures ∙ power_is (omega (arith, s.five)) in
    let few : v < 1024 = omega (arith, all, pow_mono {i = g.row.B * 2} {j = 10} (omega (arith, s.five))) in
    let first = code_is v (omega (arith, s.five)) s.five c.field.ensures in
    let second : c.low.result ≡ v % 2 ^ g.row.B = c.low.ensures ∙ low_is (omega (arith, s.five)) _ in (
      simp length-set c.loop-v.invariant.0,
      paired_more (decoding s.table.kind) c.loop-v.rows g.row.B v c.pair.result (omega (arith, c.loop-v.invariant.0)) c.loop-v.invariant.1
          (c.pair.ensures ∙ ap₂ (λ (x y : ℕ). x ∷ y ∷ []) (ap (at s.table.symbols) first.0 ∙ ap (λ (t : List ℕ). at t (v / 2 ^ g.row.B % 2 ^ g.row.B)) (entries s.table))
          (ap (at s.table.symbols) second ∙ ap (λ (t : List ℕ). at t (v % 2 ^ g.row.B)) (entries s.table))),
    )
