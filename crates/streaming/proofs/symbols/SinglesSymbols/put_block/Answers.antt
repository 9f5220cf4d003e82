use Rattle.std.proofs.Common.{arith, ◌/◌, ◌%◌, ◌^◌, ◌*◌, ◌-◌, ap, ◌∙◌, ℕ, List}
use Rattle.bits.specs.Tables.{at}
use Rattle.bits.proofs.Blocks.{entry_at}
use Rattle.streaming.specs.Symbols.{decoding}
use Rattle.streaming.proofs.Entries.{entries, code_is, few_behind, block_is, entry_more}
use Rattle.streaming.proofs.symbols.SinglesSymbols.put_block.Goals as goal

pub bounds-self-field : goal.bounds-self-field
bounds-self-field g c =
    let s = c.args.self.now in
    (code_is _ (omega (arith, few_behind c.loop-t.t g.row.B s.five)) s.five c.field.ensures).1

pub loop-t-preserved : goal.loop-t-preserved
loop-t-preserved g c =
    let s = c.args.self.now in
    let code = code_is _ (omega (arith, few_behind c.loop-t.t g.row.B s.five)) s.five c.field.ensures in
    let more =
    entry_more (entry_at (decoding s.table.kind) g.row.B 8 c.args.codes) c.loop-t.t (at s.table.symbols c.field.result) c.loop-t.block (omega arith) c.loop-t.invariant
    (ap (at s.table.symbols) code.0 ∙ ap (λ (t : List ℕ). at t (c.args.codes / 2 ^ ((7 - c.loop-t.t) * g.row.B) % 2 ^ g.row.B)) (entries s.table)) in
    λ k l. omega (arith, more k l)

pub returns : goal.returns
returns g c =
    block_is c.args.self.now.table.kind g.row.B c.args.codes c.loop-t.block (omega arith) (λ k l. c.loop-t.invariant k (omega arith))
