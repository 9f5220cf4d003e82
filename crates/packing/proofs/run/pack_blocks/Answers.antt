use mathlib.Core.Path.{◌≡◌, sym, ap, ◌∙◌}
use mathlib.Core.List.{List}
use Prim.Native.Nat.{ℕ, ◌+◌, ◌*◌, ◌≤◌}
use native.Mathlib.Omega.{arith}
use lib.ListN.{length, take}
use lib.Seq.{take_all}
use Rattle.bits.specs.Packing.{at_hand}
use Rattle.alphabet.specs.Symbols.{Coding, coding_of}
use Rattle.packing.specs.Encode.{digit_of, digits_of}
use Rattle.packing.specs.Run.{Ready, ran}
use Rattle.packing.proofs.Behind.{clean_part, room, ready_behind, ran_head, ran_behind, nothing_held, blocks_bytes}
use Rattle.packing.proofs.run.pack_blocks.Goals as goal

-- the blocks fill whole bytes
place : (n b width : ℕ) → b ≡ width → 0 + n * 64 * width ≡ n * 8 * b * 8 + 0
place n b width e =
    let bytes : n * 64 * width ≡ n * 8 * b * 8 = blocks_bytes width n ∙ ap (λ (x : ℕ). n * 8 * x * 8) (sym e) in
    omega (arith, bytes)

-- which are within the memory
fits : (A : Coding) (text memory : List ℕ) (n b : ℕ) → Ready A.width 0 0 (length text) (length memory) → b ≡ A.width → n * 64 ≤ length text → n * 8 * b ≤ length memory
fits A text memory n b ready e within =
    room A.width 0 0 (digit_of A) text memory ready (n * 64) (n * 8 * b) 0 0 within (omega arith) (place n b A.width e)
    (nothing_held (at_hand 0 0 A.width (digits_of A text)) (n * 8 * b * 8))

pub slice_bounds-pack_even-count-2 : goal.slice_bounds-pack_even-count-2
slice_bounds-pack_even-count-2 c =
    let a = c.args in
    let m = c.members_of-n in
    omega (arith, fits (coding_of a.alphabet) a.text.now a.out.now m.result c.bits_per_symbol.result c.requires.0 c.bits_per_symbol.ensures m.ensures.passed.within, m.auto.out)

pub slice_bounds-pack_even-start-2 : goal.slice_bounds-pack_even-start-2
slice_bounds-pack_even-start-2 c =
    let a = c.args in
    let m = c.members_of-n in
    omega (arith, fits (coding_of a.alphabet) a.text.now a.out.now m.result c.bits_per_symbol.result c.requires.0 c.bits_per_symbol.ensures m.ensures.passed.within, m.auto.out)

pub pack_even-requires : goal.pack_even-requires
pack_even-requires c =
    let a = c.args in
    let A : Coding = coding_of a.alphabet in
    let m = c.members_of-n in
    let n : ℕ = m.result in
    let b : ℕ = c.bits_per_symbol.result in (
      ready_behind A.width 0 0 (digit_of A) a.text.now a.out.now c.requires.0 (n * 64) (n * 8 * b) 0 0 m.ensures.passed.within (omega arith)
          (place n b A.width c.bits_per_symbol.ensures) (nothing_held (at_hand 0 0 A.width (digits_of A a.text.now)) (n * 8 * b * 8)) m.new.out m.auto.out,
      (c.requires.1.0, (c.requires.1.1.0, clean_part a.clean A a.text.now (n * 64) c.requires.1.1.1)),
    )

pub returns-then-text-i-clause-wrote : goal.returns-then-text-i-clause-wrote
returns-then-text-i-clause-wrote c =
    let a = c.args in
    let A : Coding = coding_of a.alphabet in
    let m = c.members_of-n in
    let all : take (m.result * 64) a.text.now ≡ a.text.now = take_all (m.result * 64) a.text.now c.if-text-i.true in
    m.ensures.wrote ∙ ap (λ (l : List ℕ). ran A.width 0 0 (digits_of A l) a.out.now) all

pub returns-clause-wrote : goal.returns-clause-wrote
returns-clause-wrote c =
    let a = c.args in
    let A : Coding = coding_of a.alphabet in
    let m = c.members_of-n in
    let n : ℕ = m.result in
    let b : ℕ = c.bits_per_symbol.result in
    let there = place n b A.width c.bits_per_symbol.ensures in
    let held = nothing_held (at_hand 0 0 A.width (digits_of A a.text.now)) (n * 8 * b * 8) in
    let first = m.ensures.wrote
    ∙ ran_head A.width 0 0 (digit_of A) a.text.now a.out.now c.requires.0 (n * 64) (n * 8 * b) 0 0 m.ensures.passed.within (omega arith) there held in
    ran_behind A.width 0 0 (digit_of A) a.text.now a.out.now c.requires.0 (n * 64) (n * 8 * b) 0 0 m.ensures.passed.within (omega arith) there held
    m.new.out c.pack_even.new.out first c.pack_even.ensures
