use Rattle.std.proofs.Common.{◌≡◌, ℕ, ◌*◌, ◌/◌, ◌≤◌, Bool, List, length, take, sym, ap, ◌∙◌, subst, arith, true≢false}
use native.Mathlib.Nat.{zero-mul}
use Rattle.alphabet.specs.declared.kind.AlphabetType.{AlphabetType}
use Rattle.alphabet.specs.declared.kind.AlphabetType.TheVariants.{Dna2bit}
use Rattle.alphabet.specs.Symbols.{coding_by, coding_of}
use Rattle.alphabet.proofs.Laws.{widths}
use Rattle.packing.specs.Encode.{digits_of}
use Rattle.packing.specs.Run.{Clean, ran}
use Rattle.packing.proofs.Even.{no_fours}
use Rattle.packing.proofs.run.fours_of.Goals as goal

-- what is told of an alphabet
abbrev Told : Bool → List ℕ → List ℕ → AlphabetType → ℕ → List ℕ → Type 0
Told fold text memory k r out =
    (r * 64 ≤ length text) × ((r * 64 * (coding_by fold k).width ≡ r * 16 * 8)
    × (out ≡ ran (coding_by fold k).width 0 0 (digits_of (coding_by fold k) (take (r * 64) text)) memory))

module _ (fold : Bool) (kind : AlphabetType) (text memory : List ℕ) (is : kind ≡ Dna2bit) where
  -- there is memory for the bytes of Dna2bit
  fits : length text * (coding_by fold kind).width / 8 ≤ length memory → length text / 64 * 16 ≤ length memory
  fits h =
      let two = ap (λ (k : AlphabetType). (coding_by fold k).width) is ∙ widths.of_dna2bit in
      let bytes = subst (λ (b : ℕ). length text * b / 8 ≤ length memory) two h in
      omega (arith, bytes)

  -- a clean text is one of its members
  clean : (c : Bool) → Clean c (coding_by fold kind) text → Clean c (coding_by fold Dna2bit) text
  clean c h = subst (λ (k : AlphabetType). Clean c (coding_by fold k) text) is h

  -- what was packed is what is told
  packed : (r : ℕ) (out : List ℕ) → (r ≡ length text / 64) × (out ≡ ran 2 0 0 (digits_of (coding_by fold Dna2bit) (take (r * 64) text)) memory)
      → Told fold text memory kind r out
  packed r out (count, wrote) =
      let two : (coding_by fold Dna2bit).width ≡ 2 = widths.of_dna2bit in
      let bits : r * 64 * (coding_by fold Dna2bit).width ≡ r * 16 * 8 = ap (λ (b : ℕ). r * 64 * b) two ∙ (let z : r * 64 * 2 ≡ r * 16 * 8 = omega arith in z) in
      let bytes = wrote ∙ ap (λ (b : ℕ). ran b 0 0 (digits_of (coding_by fold Dna2bit) (take (r * 64) text)) memory) (sym two) in
      subst (λ (x : AlphabetType). Told fold text memory x r out) (sym is) (omega (arith, count), (bits, bytes))

pub returns-in_default : goal.returns-in_default
returns-in_default c =
    (omega arith, (zero-mul (coding_of c.args.alphabet).width, no_fours (coding_of c.args.alphabet) c.args.text.now c.args.out.now))

pub pack_fours-requires : goal.pack_fours-requires
pack_fours-requires c =
    let a = c.args in (
      fits a.alphabet.fold a.alphabet.kind a.text.now a.out.now c.in-Dna2bit.is c.requires.0,
      λ e. clean a.alphabet.fold a.alphabet.kind a.text.now a.out.now c.in-Dna2bit.is a.clean c.requires.1 c.if-clean.true,
    )

pub returns-then-clean : goal.returns-then-clean
returns-then-clean c =
    let a = c.args in
    packed a.alphabet.fold a.alphabet.kind a.text.now a.out.now c.in-Dna2bit.is c.pack_fours.result c.pack_fours.new.out c.pack_fours.ensures

pub pack_fours-requires-2 : goal.pack_fours-requires-2
pack_fours-requires-2 c =
    let a = c.args in
    (fits a.alphabet.fold a.alphabet.kind a.text.now a.out.now c.in-Dna2bit.is c.requires.0, λ e. absurd (true≢false (sym e)))

pub returns : goal.returns
returns c =
    let a = c.args in
    packed a.alphabet.fold a.alphabet.kind a.text.now a.out.now c.in-Dna2bit.is c.pack_fours-2.result c.pack_fours-2.new.out c.pack_fours-2.ensures
