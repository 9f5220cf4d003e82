use Rattle.std.proofs.Common.{arith, ◌≡◌, ◌/◌, ◌%◌, ◌^◌, ◌<◌, ◌+◌, ◌*◌, ◌-◌, length, length-set, ap, ◌∙◌, ℕ, List}
use Rattle.std.specs.Int.{w16, to_le_bytes}
use Rattle.bits.specs.Tables.{at}
use Rattle.bits.proofs.Blocks.{entry_at}
use Rattle.bits.proofs.Shifts.{field_is, low_under}
use Rattle.streaming.specs.Symbols.{decoding}
use Rattle.streaming.proofs.Entries.{pair_behind, block_is, entry_more, pair_first, pair_second}
use Rattle.streaming.proofs.symbols.PairsSymbols.put_block.Goals as goal

pub bounds-self-field : goal.bounds-self-field
bounds-self-field g c =
    let s = c.args.self.now in
    let is : c.field.result ≡ c.args.codes / 2 ^ ((3 - c.loop-t.t) * (g.row.B * 2)) % 2 ^ (g.row.B * 2) =
    c.field.ensures ∙ field_is (omega (arith, pair_behind c.loop-t.t g.row.B s.five)) {b = g.row.B * 2} (omega (arith, s.five)) _ in
    omega (arith, is, low_under (c.args.codes / 2 ^ ((3 - c.loop-t.t) * (g.row.B * 2))) (g.row.B * 2) 10 (omega (arith, s.five)))

pub loop-t-preserved : goal.loop-t-preserved
loop-t-preserved g c =
    let s = c.args.self.now in
    let t = c.loop-t.t in
    let four : t < 4 = omega arith in
    let entry : ℕ → ℕ = entry_at (decoding s.kind) g.row.B 8 c.args.codes in
    let is : c.field.result ≡ c.args.codes / 2 ^ ((3 - t) * (g.row.B * 2)) % 2 ^ (g.row.B * 2) =
    c.field.ensures ∙ field_is (omega (arith, pair_behind t g.row.B s.five)) {b = g.row.B * 2} (omega (arith, s.five)) _ in
    let eight : length c.loop-t.block ≡ 8 = omega arith in
    let bytes : c.to_le_bytes.result ≡ to_le_bytes w16 (at s.rows (c.args.codes / 2 ^ ((3 - t) * (g.row.B * 2)) % 2 ^ (g.row.B * 2))) =
    c.to_le_bytes.ensures ∙ ap (λ (x : ℕ). to_le_bytes w16 (at s.rows x)) is in
    let one = entry_more entry (t * 2) (at c.to_le_bytes.result 0) c.loop-t.block (omega arith) c.loop-t.invariant
    (ap (λ (l : List ℕ). at l 0) bytes ∙ pair_first (decoding s.kind) s.rows g.row.B c.args.codes t s.paired four) in
    λ k l.
    entry_more entry (t * 2 + 1) (at c.to_le_bytes.result 1) _ (simp length-set (omega arith)) one
    (ap (λ (l : List ℕ). at l 1) bytes ∙ pair_second (decoding s.kind) s.rows g.row.B c.args.codes t s.paired four) k (omega arith)

pub returns : goal.returns
returns g c =
    block_is c.args.self.now.kind g.row.B c.args.codes c.loop-t.block (omega arith) (λ k l. c.loop-t.invariant k (omega arith))
