use mathlib.Core.Path.{◌≡◌, sym, ap, ◌∙◌, subst}
use mathlib.Core.Bool.{Bool}
use mathlib.Core.List.{List}
use Prim.Native.Nat.{ℕ, ◌*◌, ◌≤◌}
use native.Mathlib.Omega.{arith}
use lib.ListN.{length, take}
use Rattle.bits.specs.Tables.{tabulate, Bytes}
use Rattle.alphabet.specs.declared.kind.AlphabetType.{AlphabetType}
use Rattle.alphabet.specs.declared.kind.AlphabetType.TheVariants.{Dna2bit, Dna3bit, DnaIupac, Protein}
use Rattle.alphabet.specs.Symbols.{Coding, coding_by}
use Rattle.alphabet.proofs.Laws.{widths}
use Rattle.packing.specs.Encode.{digit_of, digits_of}
use Rattle.packing.specs.Run.{Ready, Digits, looked, ran}
use Rattle.packing.proofs.Behind.{ran_none}
use Rattle.packing.proofs.Digits.{digits_small, looked_part}
use Rattle.packing.proofs.run.members_of.Goals as goal

-- where the alphabet is one of b bits
module _ (fold : Bool) (kind k : AlphabetType) (table text memory : List ℕ) (b : ℕ) (same : kind ≡ k) (bits : (coding_by fold k).width ≡ b)
    (ready : Ready (coding_by fold kind).width 0 0 (length text) (length memory))
    (given : ((coding_by fold kind).width ≤ 5) × (table ≡ tabulate 256 (digit_of (coding_by fold kind)))) where
  width : (coding_by fold kind).width ≡ b
  width = ap (λ (x : AlphabetType). (coding_by fold x).width) same ∙ bits

  asked : Ready b 0 0 (length text) (length memory) × ((b ≤ 5) × Digits b table)
  asked = (
    subst (λ (x : ℕ). Ready x 0 0 (length text) (length memory)) width ready,
    subst (λ (x : ℕ). (x ≤ 5) × Digits x table) width (given.0, digits_small fold kind table given.1),
  )

  told : Bytes text → (r : ℕ) (out : List ℕ) → out ≡ ran b 0 0 (looked table (take (r * 64) text)) memory
      → out ≡ ran (coding_by fold kind).width 0 0 (digits_of (coding_by fold kind) (take (r * 64) text)) memory
  told bytes r out wrote =
      let A : Coding = coding_by fold kind in
      wrote
      ∙ ap (λ (x : ℕ). ran x 0 0 (looked table (take (r * 64) text)) memory) (sym width)
      ∙ ap (λ (d : List ℕ). ran A.width 0 0 d memory) (looked_part fold kind table given.1 text bytes 0 (r * 64))

-- nothing is packed
none : (fold : Bool) (kind : AlphabetType) (text memory : List ℕ)
    → memory ≡ ran (coding_by fold kind).width 0 0 (digits_of (coding_by fold kind) (take (0 * 64) text)) memory
none fold kind text memory = ran_none (coding_by fold kind).width (digit_of (coding_by fold kind)) text memory

pub returns-then-clean-clause-wrote : goal.returns-then-clean-clause-wrote
returns-then-clean-clause-wrote c = none c.args.alphabet.fold c.args.alphabet.kind c.args.text.now c.args.out.now

pub fours_of_members-requires : goal.fours_of_members-requires
fours_of_members-requires c =
    let a = c.args in
    omega (arith, (asked a.alphabet.fold a.alphabet.kind Dna2bit a.table.now a.text.now a.out.now 2 c.in-Dna2bit.is widths.of_dna2bit c.requires.0 c.requires.1).0.fits)

pub eights_of_members-requires : goal.eights_of_members-requires
eights_of_members-requires c =
    let a = c.args in
    asked a.alphabet.fold a.alphabet.kind Dna3bit a.table.now a.text.now a.out.now 3 c.in-Dna3bit.is widths.of_dna3bit c.requires.0 c.requires.1

pub eights_of_members-requires-in-DnaIupac : goal.eights_of_members-requires-in-DnaIupac
eights_of_members-requires-in-DnaIupac c =
    let a = c.args in
    asked a.alphabet.fold a.alphabet.kind DnaIupac a.table.now a.text.now a.out.now 4 c.in-DnaIupac.is widths.of_dna_iupac c.requires.0 c.requires.1

pub eights_of_members-requires-in-Protein : goal.eights_of_members-requires-in-Protein
eights_of_members-requires-in-Protein c =
    let a = c.args in
    asked a.alphabet.fold a.alphabet.kind Protein a.table.now a.text.now a.out.now 5 c.in-Protein.is widths.of_protein c.requires.0 c.requires.1

pub returns-in-Dna2bit-clause-wrote : goal.returns-in-Dna2bit-clause-wrote
returns-in-Dna2bit-clause-wrote c =
    let r : ℕ = c.fours_of_members.result in
    let digits : AlphabetType → List ℕ = λ k. digits_of (coding_by c.args.alphabet.fold k) (take (r * 64) c.args.text.now) in
    c.fours_of_members.ensures.wrote
    ∙ ap (λ (b : ℕ). ran b 0 0 (digits Dna2bit) c.args.out.now) (sym widths.of_dna2bit)
    ∙ ap (λ (k : AlphabetType). ran (coding_by c.args.alphabet.fold k).width 0 0 (digits k) c.args.out.now) (sym c.in-Dna2bit.is)

pub returns-in-Dna3bit-clause-wrote : goal.returns-in-Dna3bit-clause-wrote
returns-in-Dna3bit-clause-wrote c =
    let a = c.args in
    told a.alphabet.fold a.alphabet.kind Dna3bit a.table.now a.text.now a.out.now 3 c.in-Dna3bit.is widths.of_dna3bit c.requires.0 c.requires.1
    (λ i. (c.type_inv.text i).fits) c.eights_of_members.result c.eights_of_members.new.out c.eights_of_members.ensures.wrote

pub returns-in-DnaIupac-clause-wrote : goal.returns-in-DnaIupac-clause-wrote
returns-in-DnaIupac-clause-wrote c =
    let a = c.args in
    told a.alphabet.fold a.alphabet.kind DnaIupac a.table.now a.text.now a.out.now 4 c.in-DnaIupac.is widths.of_dna_iupac c.requires.0 c.requires.1
    (λ i. (c.type_inv.text i).fits) c.eights_of_members-in-DnaIupac.result c.eights_of_members-in-DnaIupac.new.out c.eights_of_members-in-DnaIupac.ensures.wrote

pub returns-in-Protein-clause-wrote : goal.returns-in-Protein-clause-wrote
returns-in-Protein-clause-wrote c =
    let a = c.args in
    told a.alphabet.fold a.alphabet.kind Protein a.table.now a.text.now a.out.now 5 c.in-Protein.is widths.of_protein c.requires.0 c.requires.1
    (λ i. (c.type_inv.text i).fits) c.eights_of_members-in-Protein.result c.eights_of_members-in-Protein.new.out c.eights_of_members-in-Protein.ensures.wrote

pub returns-in-Ascii-clause-wrote : goal.returns-in-Ascii-clause-wrote
returns-in-Ascii-clause-wrote c = none c.args.alphabet.fold c.args.alphabet.kind c.args.text.now c.args.out.now
