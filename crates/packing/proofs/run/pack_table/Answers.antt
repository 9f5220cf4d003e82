use Rattle.std.proofs.Common.{◌≡◌, ℕ, ◌+◌, ◌*◌, ◌≤◌, List, length, ◌∙◌, arith}
use native.Mathlib.Nat.{mul_comm}
use Rattle.bits.specs.Tables.{at}
use Rattle.bits.specs.Packing.{at_hand}
use Rattle.packing.specs.Run.{Ready, looked}
use Rattle.packing.proofs.Behind.{room, ready_behind, ran_behind, nothing_held, front-plain, blocks_place}
use Rattle.packing.proofs.run.pack_table.Goals as goal

place : (b n : ℕ) → 0 + n * 8 * b ≡ n * b * 8 + 0
place b n = blocks_place b 8 b n (mul_comm 8 b)

-- the bytes of n blocks are within the memory
fits : (b : ℕ) (table text memory : List ℕ) (n : ℕ) → Ready b 0 0 (length text) (length memory) → n * 8 ≤ length text → n * b ≤ length memory
fits b table text memory n ready within =
    room b 0 0 (at table) text memory ready (n * 8) (n * b) 0 0 within (omega arith) (place b n) (nothing_held (at_hand 0 0 b (looked table text)) (n * b * 8))

pub slice_bounds-pack_rolling-count-2 : goal.slice_bounds-pack_rolling-count-2
slice_bounds-pack_rolling-count-2 c =
    let a = c.args in
    omega (arith, fits a.b a.table.now a.text.now a.out.now c.eights_of-n.result c.requires.0 (omega (arith, c.eights_of-n.ensures.0)), c.eights_of-n.auto.out)

pub slice_bounds-pack_rolling-start-2 : goal.slice_bounds-pack_rolling-start-2
slice_bounds-pack_rolling-start-2 c =
    let a = c.args in
    omega (arith, fits a.b a.table.now a.text.now a.out.now c.eights_of-n.result c.requires.0 (omega (arith, c.eights_of-n.ensures.0)), c.eights_of-n.auto.out)

pub pack_rolling-requires : goal.pack_rolling-requires
pack_rolling-requires c =
    let a = c.args in
    let n : ℕ = c.eights_of-n.result in
    ready_behind a.b 0 0 (at a.table.now) a.text.now a.out.now c.requires.0 (n * 8) (n * a.b) 0 0 (omega (arith, c.eights_of-n.ensures.0)) (omega arith) (place a.b n)
    (nothing_held (at_hand 0 0 a.b (looked a.table.now a.text.now)) (n * a.b * 8)) c.eights_of-n.new.out c.eights_of-n.auto.out

pub returns : goal.returns
returns c =
    let a = c.args in
    let n : ℕ = c.eights_of-n.result in
    let d : List ℕ = looked a.table.now a.text.now in
    ran_behind a.b 0 0 (at a.table.now) a.text.now a.out.now c.requires.0 (n * 8) (n * a.b) 0 0 (omega (arith, c.eights_of-n.ensures.0)) (omega arith) (place a.b n)
    (nothing_held (at_hand 0 0 a.b d) (n * a.b * 8)) c.eights_of-n.new.out c.pack_rolling.new.out
    (c.eights_of-n.ensures.1 ∙ front-plain a.b (n * a.b) d a.out.now) c.pack_rolling.ensures
