use mathlib.Core.Path.{◌≡◌, sym, ap, ◌∙◌}
use mathlib.Core.Bool.{Bool}
use mathlib.Core.List.{List}
use Prim.Native.Nat.{ℕ, ◌*◌, ◌%◌, ◌≤◌, ◌<◌}
use native.Mathlib.Omega.{arith}
use Rattle.alphabet.specs.declared.kind.AlphabetType.{AlphabetType}
use Rattle.alphabet.specs.Symbols.{Coding, coding_by, coding_of}
use Rattle.packing.specs.Encode.{digits_of}
use Rattle.packing.specs.Run.{ran}
use Rattle.packing.proofs.Entries.{narrow, wide}
use Rattle.packing.proofs.Even.{wide_passed}
use Rattle.packing.proofs.Digits.{plain_digits}
use Rattle.packing.proofs.Blocks.{ready_whole, ran-whole}
use Rattle.packing.proofs.run.pack.Goals as goal

-- digits of a byte each: nothing pends
none : (fold : Bool) (kind : AlphabetType) (seen : ℕ) → 8 ≤ (coding_by fold kind).width → seen * (coding_by fold kind).width % 8 ≡ 0
none fold kind seen plain =
    let eight = (wide fold kind plain).eight in
    let whole : seen * 8 % 8 ≡ 0 = omega arith in
    ap (λ (b : ℕ). seen * b % 8) eight ∙ whole

pub pack_whole-requires : goal.pack_whole-requires
pack_whole-requires c =
    let plain : 8 ≤ (coding_of c.args.alphabet).width = omega (arith, c.if-bits_per_symbol-ge8.true, c.bits_per_symbol.ensures) in
    ready_whole c.requires.0 (none c.args.alphabet.fold c.args.alphabet.kind c.args.seen plain) plain

pub returns-then-bits_per_symbol-ge8-clause-passed : goal.returns-then-bits_per_symbol-ge8-clause-passed
returns-then-bits_per_symbol-ge8-clause-passed c =
    let plain : 8 ≤ (coding_of c.args.alphabet).width = omega (arith, c.if-bits_per_symbol-ge8.true, c.bits_per_symbol.ensures) in
    wide_passed c.args.alphabet.fold c.args.alphabet.kind c.args.text.now (λ i. (c.type_inv.text i).fits) plain

pub returns-then-bits_per_symbol-ge8-clause-wrote : goal.returns-then-bits_per_symbol-ge8-clause-wrote
returns-then-bits_per_symbol-ge8-clause-wrote c =
    let a = c.args in
    let A : Coding = coding_of a.alphabet in
    let plain : 8 ≤ A.width = omega (arith, c.if-bits_per_symbol-ge8.true, c.bits_per_symbol.ensures) in
    let same = plain_digits a.alphabet.fold a.alphabet.kind a.text.now (λ i. (c.type_inv.text i).fits) plain in
    c.pack_whole.ensures
    ∙ ap (λ (d : List ℕ). ran 8 0 0 d a.out.now) (sym same)
    ∙ ran-whole c.requires.0 (none a.alphabet.fold a.alphabet.kind a.seen plain) plain (digits_of A a.text.now) a.out.now

pub pack_narrow-requires : goal.pack_narrow-requires
pack_narrow-requires c =
    let below : (coding_of c.args.alphabet).width < 8 = omega (arith, c.if-bits_per_symbol-ge8.false, c.bits_per_symbol.ensures) in
    (c.requires.0, (c.requires.1.0, ((narrow c.args.alphabet.fold c.args.alphabet.kind below).five, (c.requires.1.1.0 below, c.requires.1.1.1))))
