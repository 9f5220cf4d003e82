-- The widths of packed alphabets, and the symbols that come first where bits pend.
use mathlib.Core.Path.{◌≡◌, refl, sym, ap, ap₂, ◌∙◌}
use mathlib.Core.Bool.{Bool}
use mathlib.Core.List.{List, [], ◌++◌, map, append-nil}
use mathlib.Core.Logic.{◌⊎◌, inl, inr}
use Prim.Native.Nat.{ℕ, ◌+◌, ◌-◌, ◌*◌, ◌/◌, ◌%◌, ◌≤◌, ◌<◌, min}
use native.Mathlib.Nat.{add-mul, mul_assoc, mul_comm, zero-mul, mul-le-mul_right}
use native.Mathlib.Decide.{dec_lt}
use native.Mathlib.Omega.{arith}
use lib.ListN.{length, take, drop, length-drop, drop_of_length-le, take-append-drop}
use lib.Seq.{take_all, length-take-le}
use Rattle.bits.specs.Tables.{tabulate, Bytes}
use Rattle.bits.specs.Streams.{word, cut}
use Rattle.bits.specs.Packing.{at_hand}
use Rattle.bits.specs.Memory.{front}
use Rattle.alphabet.specs.declared.kind.AlphabetType.{AlphabetType}
use Rattle.alphabet.specs.declared.kind.AlphabetType.TheVariants.{Dna2bit, Dna3bit, DnaIupac, Protein, Ascii, Unknown}
use Rattle.alphabet.specs.Symbols.{Coding, coding_by}
use Rattle.alphabet.proofs.Laws.{widths}
use Rattle.members.specs.Members.{Passed}
use Rattle.members.proofs.Passing.{plain_passed}
use Rattle.packing.specs.Encode.{digits_of}
use Rattle.packing.specs.Run.{Pends, Ready, Narrow, ran}
use Rattle.packing.proofs.Behind.{part, part_is, ready_behind, ran_head, ran_behind, nothing_held}

-- ---- widths

-- an alphabet of at most five bits has at least two
pub two_to_five : (fold : Bool) (k : AlphabetType) → (coding_by fold k).width ≤ 5 → Narrow (coding_by fold k).width
two_to_five fold Dna2bit h = (omega (arith, widths.of_dna2bit), h)
two_to_five fold Dna3bit h = (omega (arith, widths.of_dna3bit), h)
two_to_five fold DnaIupac h = (omega (arith, widths.of_dna_iupac), h)
two_to_five fold Protein h = (omega (arith, widths.of_protein), h)
two_to_five fold Ascii h = (omega (arith, widths.of_ascii), h)
two_to_five fold Unknown h = (omega (arith, widths.of_unknown), h)

-- and one of eight or more has no non-members
pub wide_passed : (fold : Bool) (k : AlphabetType) (text : List ℕ) → Bytes text → 8 ≤ (coding_by fold k).width → Passed (coding_by fold k) text (length text)
wide_passed fold Dna2bit text bytes h = absurd (omega (arith, widths.of_dna2bit))
wide_passed fold Dna3bit text bytes h = absurd (omega (arith, widths.of_dna3bit))
wide_passed fold DnaIupac text bytes h = absurd (omega (arith, widths.of_dna_iupac))
wide_passed fold Protein text bytes h = absurd (omega (arith, widths.of_protein))
wide_passed fold Ascii text bytes h = plain_passed fold Ascii text bytes (inl refl)
wide_passed fold Unknown text bytes h = plain_passed fold Unknown text bytes (inr refl)

-- ---- the symbols before the next place that eight divides

-- the text ends with them, or nothing pends behind them
pub head_ends : (b seen n h : ℕ) → h ≡ min ((8 - seen % 8) % 8) n → (h ≡ n) ⊎ ((seen * b % 8 + h * b) % 8 ≡ 0)
head_ends b seen n h e = go (dec_lt ((8 - seen % 8) % 8) n)
  where
    go : Dec ((8 - seen % 8) % 8 < n) → (h ≡ n) ⊎ ((seen * b % 8 + h * b) % 8 ≡ 0)
    go (yes l) =
        let whole : (seen + h) / 8 * 8 ≡ seen + h = omega arith in
        let m : ℕ = (seen + h) / 8 in
        let sum : seen * b + h * b ≡ m * b * 8 =
        sym (add-mul seen h b) ∙ ap (λ (x : ℕ). x * b) (sym whole) ∙ mul_assoc m 8 b ∙ ap (λ (x : ℕ). m * x) (mul_comm 8 b) ∙ sym (mul_assoc m b 8) in
        inr (omega (arith, sum))
    go (no l) = inl (omega arith)

-- ---- no blocks

-- a run over nothing leaves memory as it is
pub no_fours : (A : Coding) (text memory : List ℕ) → memory ≡ ran A.width 0 0 (digits_of A (take (0 * 64) text)) memory
unfolding cut tabulate
no_fours A text memory =
    let none : (0 + 0 * A.width) / 8 ≡ 0 = omega (arith, zero-mul A.width) in
    sym (ap (λ (n : ℕ). front (cut 8 (at_hand 0 0 A.width []) 0 n) memory) none)

-- ---- the first of two runs: those symbols

module _ (b seen a : ℕ) (g : ℕ → ℕ) (text memory : List ℕ) (ready : Ready b (seen * b % 8) a (length text) (length memory)) (h : ℕ)
    (first : h ≡ min ((8 - seen % 8) % 8) (length text)) where
  abbrev p : ℕ
  p = seen * b % 8

  abbrev w : ℕ
  w = (p + h * b) / 8

  within : h ≤ length text
  within = omega arith

  pub head_room : (seen * b % 8 + h * b) / 8 ≤ length memory
  head_room = let up : h * b ≤ length text * b = mul-le-mul_right b within in omega (arith, up, ready.fits)

  -- they are fewer
  pub head_pends : Ready b (seen * b % 8) a (length (take h text)) (length memory)
  head_pends =
      let count : length (take h text) ≡ h = length-take-le h text (omega arith) in
      let old : Pends b p a (length text) = ready.pends in
      rw count
      (record {
        pends = record { some = old.some; narrow = old.narrow; few = old.few; small = old.small; bounded = omega (arith, old.bounded) };
        fits = head_room;
      })

  -- where nothing pends behind them
  module _ (whole : (seen * b % 8 + h * b) % 8 ≡ 0) where
    place : p + h * b ≡ w * 8 + 0
    place = omega arith

    held : 0 ≡ word (at_hand p a b (map g text)) (w * 8) 0
    held = nothing_held (at_hand p a b (map g text)) (w * 8)

  -- behind them nothing pends, or nothing comes
  pub head_ready : (out : List ℕ) → length out ≡ length memory → Ready b 0 0 (length (part text h)) (length (part out ((seen * b % 8 + h * b) / 8)))
  head_ready out kept = go (head_ends b seen (length text) h first)
    where
      go : (h ≡ length text) ⊎ ((seen * b % 8 + h * b) % 8 ≡ 0) → Ready b 0 0 (length (part text h)) (length (part out ((seen * b % 8 + h * b) / 8)))
      go (inl all) =
          let none : length (part text h) ≡ 0 = ap length (part_is text h) ∙ length-drop h text ∙ (let z : length text - h ≡ 0 = omega arith in z) in
          rw none
          (record {
            pends = record { some = ready.pends.some; narrow = ready.pends.narrow; few = omega arith; small = omega arith; bounded = omega arith };
            fits = omega (arith, zero-mul b);
          })
      go (inr even) = ready_behind b p a g text memory ready h w 0 0 within (omega arith) (place even) (held even) out kept

  -- so both runs are one over the text
  pub head_ran : (out ys : List ℕ) → out ≡ ran b (seen * b % 8) a (map g (take h text)) memory
      → ys ≡ ran b 0 0 (map g (part text h)) (part out ((seen * b % 8 + h * b) / 8))
      → take ((seen * b % 8 + h * b) / 8) out ++ (ys ++ drop (length out - (seen * b % 8 + h * b) / 8) (drop ((seen * b % 8 + h * b) / 8) out))
      ≡ ran b (seen * b % 8) a (map g text) memory
  unfolding cut tabulate
  head_ran out ys wrote rest = go (head_ends b seen (length text) h first)
    where
      start : out ≡ ran b p a (map g (take h text)) memory
      start = wrote

      go : (h ≡ length text) ⊎ ((seen * b % 8 + h * b) % 8 ≡ 0)
          → take w out ++ (ys ++ drop (length out - w) (drop w out)) ≡ ran b p a (map g text) memory
      go (inl all) =
          let none : part text h ≡ [] = part_is text h ∙ drop_of_length-le text {i = h} (omega arith) in
          let zero' : (0 + 0 * b) / 8 ≡ 0 = omega (arith, zero-mul b) in
          let same : ys ≡ drop w out =
          rest
          ∙ ap (λ (l : List ℕ). ran b 0 0 (map g l) (part out w)) none
          ∙ ap (λ (n : ℕ). front (cut 8 (at_hand 0 0 b []) 0 n) (part out w)) zero'
          ∙ part_is out w in
          let past : drop (length out - w) (drop w out) ≡ [] = drop_of_length-le (drop w out) {i = length out - w} (omega (arith, length-drop w out)) in
          ap₂ (λ (x y : List ℕ). take w out ++ (x ++ y)) same past
          ∙ ap (λ (x : List ℕ). take w out ++ x) (append-nil (drop w out))
          ∙ take-append-drop w out
          ∙ start
          ∙ ap (λ (l : List ℕ). ran b p a (map g l) memory) (take_all h text (omega arith))
      go (inr even) =
          ran_behind b p a g text memory ready h w 0 0 within (omega arith) (place even) (held even) out ys
          (start ∙ ran_head b p a g text memory ready h w 0 0 within (omega arith) (place even) (held even)) rest
