-- `encode_sequence` by its definitions: it packs every text of members for which there is memory, and no other.
use Rattle.std.proofs.Common.{Result, Ok, Err, Option, Some, None}
use mathlib.Core.Path.{◌≡◌, refl, sym, ap, ◌∙◌}
use mathlib.Core.Bool.{Bool, true, false, cond}
use mathlib.Core.List.{List, [], ◌∷◌}
use Prim.Native.Nat.{ℕ, zero, suc, ◌*◌, ◌≤◌}
use native.Mathlib.Nat.{le_of_suc-le-suc, not-suc-le-zero}
use native.Mathlib.Omega.{arith}
use borrow.Author.Tests.{le-leb, leb-true}
use lib.Dec.{leb}
use lib.ListN.{length, take, drop}
use lib.Seq.{take_at}
use Rattle.bits.specs.Packing.{bytes_for}
use Rattle.bits.specs.Memory.{front}
use Rattle.alphabet.specs.Questions.{ask◌else◌then◌, by, limit, in_bounds}
use Rattle.alphabet.specs.Symbols.{Coding}
use Rattle.alphabet.specs.Names.{known, numbered_by}
use Rattle.members.specs.Members.{bad_in}
use Rattle.packing.specs.Encode.{packing, first_from, unless_bad, encode_at, encode_writes, encode_memory}
use Rattle.record.specs.Texts.{Members, Packed}
use Rattle.record.proofs.Tallies.{length-packing}
use Rattle.alphabet.specs.declared.refusal.Refusal.{Refusal}
use Rattle.packing.specs.declared.stranger.Stranger.{Stranger}

members_none : (A : Coding) (i : ℕ) (text : List ℕ) → Members A text → first_from A i text ≡ None
unfolding first_from
members_none A i [] m = refl
members_none A i (x ∷ text) m = rw (m 0 (omega arith)) (members_none A (suc i) text (λ j h. m (suc j) (omega arith)))

none_members : (A : Coding) (i : ℕ) (text : List ℕ) → first_from A i text ≡ None → Members A text
unfolding first_from
none_members A i [] e = λ j h. absurd (not-suc-le-zero h)
none_members A i (x ∷ text) e = go (A.member x) refl e (none_members A (suc i) text)
  where
    go :
        (b : Bool) →
        A.member x ≡ b →
        cond b (first_from A (suc i) text) (Some (record { position = i; byte = x })) ≡ None →
        (first_from A (suc i) text ≡ None → Members A text) →
        Members A (x ∷ text)
    go true m e ih zero h = m
    go true m e ih (suc j) h = ih e j (le_of_suc-le-suc h)
    go false m e ih j h = let z : ◌≡◌ {A = ℕ} 0 1 = cc in absurd (omega arith)

module _ (alphabet : ℕ) (fold : Bool) (text : List ℕ) where
  abbrev need : ℕ
  need = bytes_for (length text * (numbered_by fold alphabet).width)

  -- a text that is packed, in memory that is long enough
  pub encode-packed :
      (packed memory : List ℕ) →
      Packed alphabet fold text packed →
      length packed ≤ length memory →
      (encode_at alphabet fold text (length memory) ≡ Ok (length packed)) × (encode_memory alphabet fold text memory ≡ front packed memory)
  unfolding encode_at encode_writes encode_memory
  encode-packed packed memory p room =
      let bounds : in_bounds (length text) ≡ true = le-leb (length text) limit p.bounded in
      let fits : leb need (length memory) ≡ true = le-leb need (length memory) (omega (arith, p.counted)) in
      let none : first_from (numbered_by fold alphabet) 0 text ≡ None = members_none (numbered_by fold alphabet) 0 text p.members in (
        rw (p.has_alphabet, bounds, fits, none) (ap Ok (sym p.counted)),
        rw (p.has_alphabet, bounds, fits, none) (ap (λ (l : List ℕ). front l memory) (sym p.packs)),
      )

  -- and an accepted call packs its text
  pub encode-accepted :
      (memory : List ℕ) (count : ℕ) →
      encode_at alphabet fold text (length memory) ≡ Ok count →
      Packed alphabet fold text (take count (encode_memory alphabet fold text memory))
  unfolding encode_at encode_writes encode_memory
  encode-accepted memory count e =
      by_cases (known alphabet) (in_bounds (length text)) (leb need (length memory)) (first_from (numbered_by fold alphabet) 0 text) refl refl refl e
    where
      answer : Bool → Bool → Bool → Option Stranger → Result ℕ Refusal
      answer a b c f =
          ask a else Err (by 8 []) then
          ask b else Err (by 2 []) then
          ask c else Err (by 4 []) then
          unless_bad f (λ position byte. Err (by 5 (position ∷ byte ∷ bad_in (numbered_by fold alphabet) text ∷ []))) (Ok need)

      by_cases :
          (a b c : Bool) (f : Option Stranger) →
          known alphabet ≡ a →
          in_bounds (length text) ≡ b →
          first_from (numbered_by fold alphabet) 0 text ≡ f →
          answer a b c f ≡ Ok count →
          Packed alphabet fold text (take count (front (encode_writes alphabet fold text (answer a b c f)) memory))
      by_cases true true true None o h n q =
          let same : need ≡ count = cc in
          let len : length (packing (numbered_by fold alphabet) text) ≡ count = length-packing (numbered_by fold alphabet) text ∙ same in
          rw (take_at (packing (numbered_by fold alphabet) text) (drop (length (packing (numbered_by fold alphabet) text)) memory) count len)
          (record {
            has_alphabet = o;
            members = none_members (numbered_by fold alphabet) 0 text n;
            bounded = leb-true (length text) limit h;
            counted = length-packing (numbered_by fold alphabet) text;
            packs = refl;
          })
      by_cases true true true (Some f) o h n q = let z : ◌≡◌ {A = ℕ} 0 1 = cc in absurd (omega arith)
      by_cases true true false f o h n q = let z : ◌≡◌ {A = ℕ} 0 1 = cc in absurd (omega arith)
      by_cases true false c f o h n q = let z : ◌≡◌ {A = ℕ} 0 1 = cc in absurd (omega arith)
      by_cases false b c f o h n q = let z : ◌≡◌ {A = ℕ} 0 1 = cc in absurd (omega arith)
