use mathlib.Core.Path.{◌≡◌, refl, sym, ap, ◌∙◌, subst}
use mathlib.Core.List.{List}
use Prim.Native.Nat.{ℕ, ◌+◌, ◌-◌, ◌*◌, ◌≤◌}
use native.Mathlib.Omega.{arith}
use lib.ListN.{length, take, drop, length-map}
use Rattle.bits.specs.Tables.{at}
use Rattle.alphabet.specs.Symbols.{Coding, coding_of}
use Rattle.members.specs.Members.{Passed}
use Rattle.members.proofs.Laws.{all_part}
use Rattle.members.proofs.Passing.{passed_none, passed_more}
use Rattle.packing.specs.Run.{looked, ran}
use Rattle.packing.proofs.Behind.{part, ran_none, blocks_bytes, block_long, more_room, more_fits, ran_more, ran_eights}
use Rattle.packing.proofs.run.eights_of_members.Goals as goal

pub loop-k-init : goal.loop-k-init
loop-k-init c = record {
  wrote = ran_none c.args.b (at c.args.table.now) c.args.text.now c.args.out.now;
  passed = passed_none (coding_of c.args.alphabet) c.args.text.now;
}

pub slice_bounds-eights-count-in-loop-k : goal.slice_bounds-eights-count-in-loop-k
slice_bounds-eights-count-in-loop-k c =
    let a = c.args in
    let k : ℕ = c.loop-k.k in
    let block : k * 64 + 64 ≤ length a.text.now = omega (arith, c.loop-k-test.true) in
    let room = more_room a.b (at a.table.now) a.text.now a.out.now c.requires.0 (k * 64) 64 (k * 8 * a.b) block (blocks_bytes a.b k) in
    omega (arith, room, c.loop-k.auto.out)

pub slice_bounds-eights-start-in-loop-k : goal.slice_bounds-eights-start-in-loop-k
slice_bounds-eights-start-in-loop-k c =
    let a = c.args in
    let k : ℕ = c.loop-k.k in
    let block : k * 64 + 64 ≤ length a.text.now = omega (arith, c.loop-k-test.true) in
    let room = more_room a.b (at a.table.now) a.text.now a.out.now c.requires.0 (k * 64) 64 (k * 8 * a.b) block (blocks_bytes a.b k) in
    omega (arith, room, c.loop-k.auto.out)

pub eights-requires : goal.eights-requires
eights-requires c =
    let a = c.args in
    let k : ℕ = c.loop-k.k in
    let block : k * 64 + 64 ≤ length a.text.now = omega (arith, c.loop-k-test.true) in
    let room = more_fits a.b (at a.table.now) a.text.now a.out.now c.requires.0 (k * 64) 64 (k * 8 * a.b) block (blocks_bytes a.b k) c.loop-k.out c.loop-k.auto.out in
    (c.requires.1.0, (room, c.requires.1.1))

pub loop-k-preserved : goal.loop-k-preserved
loop-k-preserved c =
    let a = c.args in
    let A : Coding = coding_of a.alphabet in
    let g : ℕ → ℕ = at a.table.now in
    let text : List ℕ = a.text.now in
    let k : ℕ = c.loop-k.k in
    let n : ℕ = k * 64 in
    let w : ℕ = k * 8 * a.b in
    let o = c.loop-k.invariant in
    let e = c.eights in
    let block : n + 64 ≤ length text = omega (arith, c.loop-k-test.true) in
    let next : n + 64 ≡ (k + 1) * 64 = omega arith in
    let piece : List ℕ = take (n + 64 - n) (drop n text) in
    let long : length piece ≡ 64 = block_long a.b g text a.out.now c.requires.0 n 64 w block (blocks_bytes a.b k) in
    let eights : length piece ≡ e.result * 8 = omega (arith, long, e.ensures.0) in
    let count : length (looked a.table.now piece) ≡ e.result * 8 = length-map piece g ∙ eights in
    let wrote = ran_eights a.b (looked a.table.now piece) (part c.loop-k.out w) e.new.out e.result count e.ensures.1 in
    let both = ran_more a.b g text a.out.now c.requires.0 n 64 w block (blocks_bytes a.b k) c.loop-k.out e.new.out o.wrote wrote in
    let members = all_part A text n 64 (n + 64) refl block (sym c.all_members.ensures ∙ c.if-not-all_members.false) in
    record {
      wrote = both ∙ ap (λ (x : ℕ). ran a.b 0 0 (looked a.table.now (take x text)) a.out.now) next;
      passed = subst (Passed A text) next (passed_more A text n 64 o.passed block members);
    }
