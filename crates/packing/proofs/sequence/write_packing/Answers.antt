use Rattle.std.proofs.Common.{◌≡◌, ℕ, ◌-◌, ◌*◌, ◌%◌, ◌^◌, ◌<◌, ◌≤◌, List, length, refl, sym, ap, ◌∙◌, subst, arith}
use native.Mathlib.Nat.{zero-mul}
use lib.ListN.{length-map}
use lib.Pow.{pow_pos}
use Rattle.alphabet.specs.Questions.{limit}
use Rattle.alphabet.specs.Symbols.{Coding, coding_of}
use Rattle.alphabet.specs.declared.text.TextAlphabet.{TextAlphabet}
use Rattle.alphabet.proofs.Laws.{lawful}
use Rattle.packing.specs.Encode.{digit_of, digits_of}
use Rattle.packing.specs.Run.{Pends, Ready, ran, left_over_of, looked}
use Rattle.packing.proofs.Digits.{left_digits}
use Rattle.packing.proofs.Ends.{product_le}
use Rattle.packing.proofs.Padded.{packed_none, packed_last, pad_lt}
use Rattle.packing.proofs.sequence.write_packing.Goals as goal

-- nothing pends before a text
none : (t : TextAlphabet) (n : ℕ) → n ≤ limit → Pends (coding_of t).width 0 0 n
none t n h = let law = lawful t.fold t.kind in record { some = law.some_bits; narrow = law.narrow; few = omega arith; small = pow_pos 0; bounded = h }

no_bits : (t : TextAlphabet) → 0 * (coding_of t).width % 8 ≡ 0
no_bits t = ap (λ (x : ℕ). x % 8) (zero-mul (coding_of t).width)

-- the bits are as many as those of the digits
total : (t : TextAlphabet) (text : List ℕ) (b : ℕ) → b ≡ (coding_of t).width → length text * b ≡ length (digits_of (coding_of t) text) * (coding_of t).width
total t text b e = ap (λ (x : ℕ). length text * x) e ∙ ap (λ (n : ℕ). n * (coding_of t).width) (sym (length-map text (digit_of (coding_of t))))

pub pack-requires : goal.pack-requires
pack-requires c =
    let a = c.args in
    let A : Coding = coding_of a.alphabet in
    let n : ℕ = length a.text.now in
    let ready : Ready A.width 0 0 n (length a.out.now) = record { pends = none a.alphabet n c.requires.bounded; fits = omega (arith, c.requires.fits) } in
    (subst (λ (p : ℕ). Ready A.width p 0 n (length a.out.now)) (sym (no_bits a.alphabet)) ready, (omega arith, (c.requires.tabled, c.requires.members)))

pub overflow_mul-total : goal.overflow_mul-total
overflow_mul-total c =
    let law = lawful c.args.alphabet.fold c.args.alphabet.kind in
    omega (arith, product_le (length c.args.text.now) c.bits_per_symbol-b.result c.requires.bounded (omega (arith, c.bits_per_symbol-b.ensures, law.narrow)))

pub left_over-last-requires : goal.left_over-last-requires
left_over-last-requires c =
    subst (λ (b : ℕ). Pends b 0 0 (length c.args.text.now)) (sym c.bits_per_symbol-b.ensures) (none c.args.alphabet (length c.args.text.now) c.requires.bounded)

-- what is left over of them
left : (t : TextAlphabet) (table text : List ℕ) (b r : ℕ) → b ≡ (coding_of t).width → r ≡ left_over_of b 0 0 (looked table text)
    → left_over_of (coding_of t).width 0 0 (looked table text) ≡ left_over_of (coding_of t).width 0 0 (digits_of (coding_of t) text)
    → r ≡ left_over_of (coding_of t).width 0 0 (digits_of (coding_of t) text)
left t table text b r e told same = told ∙ ap (λ (x : ℕ). left_over_of x 0 0 (looked table text)) e ∙ same

pub pad-requires : goal.pad-requires
pad-requires c =
    let a = c.args in
    let A : Coding = coding_of a.alphabet in
    let text : List ℕ = a.text.now in
    let same = left_digits a.alphabet.fold a.alphabet.kind a.table.now text c.requires.tabled (λ i. (c.type_inv.text i).fits) 0 0 (λ h. refl) in
    let over = left a.alphabet a.table.now text c.bits_per_symbol-b.result c.left_over-last.result c.bits_per_symbol-b.ensures c.left_over-last.ensures same in
    let small = pad_lt A.width (none a.alphabet (length text) c.requires.bounded).some (digits_of A text) a.out.now in (
      omega arith,
      subst (λ (n : ℕ). c.left_over-last.result < 2 ^ (n % 8)) (sym (total a.alphabet text _ c.bits_per_symbol-b.ensures))
          (subst (λ (x : ℕ). x < 2 ^ (length (digits_of A text) * A.width % 8)) (sym over) small),
    )

-- the whole bytes, as they are written
wrote : (t : TextAlphabet) (text memory out : List ℕ) → out ≡ ran (coding_of t).width (0 * (coding_of t).width % 8) 0 (digits_of (coding_of t) text) memory
    → out ≡ ran (coding_of t).width 0 0 (digits_of (coding_of t) text) memory
wrote t text memory out e = e ∙ ap (λ (p : ℕ). ran (coding_of t).width p 0 (digits_of (coding_of t) text) memory) (no_bits t)

pub returns-then-total-ne0 : goal.returns-then-total-ne0
returns-then-total-ne0 c =
    let a = c.args in
    let A : Coding = coding_of a.alphabet in
    let text : List ℕ = a.text.now in
    let same = left_digits a.alphabet.fold a.alphabet.kind a.table.now text c.requires.tabled (λ i. (c.type_inv.text i).fits) 0 0 (λ h. refl) in
    let over = left a.alphabet a.table.now text c.bits_per_symbol-b.result c.left_over-last.result c.bits_per_symbol-b.ensures c.left_over-last.ensures same in
    let last = c.pad.ensures ∙ ap (λ (x : ℕ). x * 2 ^ (8 - length text * c.bits_per_symbol-b.result % 8)) over in
    packed_last A (none a.alphabet (length text) c.requires.bounded).some text a.out.now (length text * c.bits_per_symbol-b.result)
    (total a.alphabet text _ c.bits_per_symbol-b.ensures) c.if-total-ne0.true c.requires.fits
    c.pack.new.out c.pad.result (wrote a.alphabet text a.out.now c.pack.new.out c.pack.ensures.wrote) last

pub returns-else-total-ne0 : goal.returns-else-total-ne0
returns-else-total-ne0 c =
    let a = c.args in
    let text : List ℕ = a.text.now in
    packed_none (coding_of a.alphabet) (none a.alphabet (length text) c.requires.bounded).some text a.out.now (length text * c.bits_per_symbol-b.result)
    (total a.alphabet text _ c.bits_per_symbol-b.ensures) c.if-total-ne0.false c.pack.new.out (wrote a.alphabet text a.out.now c.pack.new.out c.pack.ensures.wrote)
