use Rattle.std.proofs.Common.{◌≡◌, ℕ, ◌+◌, ◌-◌, ◌*◌, ◌≤◌, List, length, sym, ap, ◌∙◌, subst, arith}
use Rattle.bits.specs.Packing.{at_hand}
use Rattle.alphabet.specs.Symbols.{Coding, coding_of}
use Rattle.packing.specs.Encode.{digit_of, digits_of}
use Rattle.packing.specs.Run.{Ready, Narrow, Digits, ran, looked}
use Rattle.packing.proofs.Behind.{part, room, ready_behind, ran_head, ran_behind, nothing_held}
use Rattle.packing.proofs.Digits.{digits_small, looked_part}
use Rattle.packing.proofs.Even.{two_to_five}
use Rattle.packing.proofs.run.pack_even.Goals as goal

-- the bytes of the fours are within the memory
fits : (A : Coding) (text memory : List ℕ) (n : ℕ) → Ready A.width 0 0 (length text) (length memory) → n * 64 ≤ length text → n * 64 * A.width ≡ n * 16 * 8
    → n * 16 ≤ length memory
fits A text memory n ready within bytes =
    room A.width 0 0 (digit_of A) text memory ready (n * 64) (n * 16) 0 0 within (omega arith) (omega (arith, bytes)) (nothing_held (at_hand 0 0 A.width (digits_of A text)) (n * 16 * 8))

pub slice_bounds-pack_table-count-2 : goal.slice_bounds-pack_table-count-2
slice_bounds-pack_table-count-2 c =
    let e = c.fours_of-n.ensures in
    omega (arith, fits (coding_of c.args.alphabet) c.args.text.now c.args.out.now c.fours_of-n.result c.requires.0 e.0 e.1.0, c.fours_of-n.auto.out)

pub slice_bounds-pack_table-start-2 : goal.slice_bounds-pack_table-start-2
slice_bounds-pack_table-start-2 c =
    let e = c.fours_of-n.ensures in
    omega (arith, fits (coding_of c.args.alphabet) c.args.text.now c.args.out.now c.fours_of-n.result c.requires.0 e.0 e.1.0, c.fours_of-n.auto.out)

pub pack_table-requires : goal.pack_table-requires
pack_table-requires c =
    let a = c.args in
    let A : Coding = coding_of a.alphabet in
    let n : ℕ = c.fours_of-n.result in
    let held = nothing_held (at_hand 0 0 A.width (digits_of A a.text.now)) (n * 16 * 8) in
    let place : 0 + n * 64 * A.width ≡ n * 16 * 8 + 0 = omega (arith, c.fours_of-n.ensures.1.0) in
    let ready = ready_behind A.width 0 0 (digit_of A) a.text.now a.out.now c.requires.0 (n * 64) (n * 16) 0 0 c.fours_of-n.ensures.0 (omega arith) place held
    c.fours_of-n.new.out c.fours_of-n.auto.out in
    let small = digits_small a.alphabet.fold a.alphabet.kind a.table.now c.requires.1.1.0 in
    subst (λ (b : ℕ). Ready b 0 0 (length (part a.text.now (n * 64))) (length (part c.fours_of-n.new.out (n * 16))) × (Narrow b × Digits b a.table.now))
    (sym c.bits_per_symbol-b.ensures) (ready, (two_to_five a.alphabet.fold a.alphabet.kind c.requires.1.0, small))

pub returns : goal.returns
returns c =
    let a = c.args in
    let A : Coding = coding_of a.alphabet in
    let g : ℕ → ℕ = digit_of A in
    let text : List ℕ = a.text.now in
    let n : ℕ = c.fours_of-n.result in
    let out : List ℕ = c.fours_of-n.new.out in
    let held = nothing_held (at_hand 0 0 A.width (digits_of A text)) (n * 16 * 8) in
    let place : 0 + n * 64 * A.width ≡ n * 16 * 8 + 0 = omega (arith, c.fours_of-n.ensures.1.0) in
    let tail = c.pack_table.ensures
    ∙ ap (λ (b : ℕ). ran b 0 0 (looked a.table.now (part text (n * 64))) (part out (n * 16))) c.bits_per_symbol-b.ensures
    ∙ ap (λ (d : List ℕ). ran A.width 0 0 d (part out (n * 16)))
    (looked_part a.alphabet.fold a.alphabet.kind a.table.now c.requires.1.1.0 text (λ i. (c.type_inv.text i).fits) (n * 64) (length text - n * 64)) in
    let first = c.fours_of-n.ensures.1.1 ∙ ran_head A.width 0 0 g text a.out.now c.requires.0 (n * 64) (n * 16) 0 0 c.fours_of-n.ensures.0 (omega arith) place held in
    ran_behind A.width 0 0 g text a.out.now c.requires.0 (n * 64) (n * 16) 0 0 c.fours_of-n.ensures.0 (omega arith) place held out c.pack_table.new.out first tail
