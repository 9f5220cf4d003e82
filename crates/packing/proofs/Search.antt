-- The first non-member of a text and how many there are, from the members before the first.
use mathlib.Core.Path.{◌≡◌, refl, sym, ap, ap₂, ◌∙◌}
use mathlib.Core.Bool.{Bool, true, false, cond}
use mathlib.Core.List.{List, [], ◌∷◌}
use Prim.Native.Nat.{ℕ, suc, ◌+◌, ◌≤◌, ◌<◌}
use native.Mathlib.Nat.{add-zero}
use native.Mathlib.Omega.{arith}
use borrow.Author.Tests.{eq-eqb, ne_eqb, eqb-true}
use lib.Dec.{eqb, eqb-zero-suc, eqb-suc-suc}
use lib.ListN.{length}
use Rattle.bits.specs.Tables.{at}
use Rattle.alphabet.specs.Symbols.{Coding}
use Rattle.members.specs.Members.{members_ahead_of}
use Rattle.members.proofs.Laws.{ahead_members, ahead_all, bad_none}
use Rattle.std.proofs.Common.{Option, Some, None}
use Rattle.packing.specs.declared.stranger.Stranger.{Stranger}
use Rattle.packing.specs.Encode.{first_from, bad_from_of}

module _ (A : Coding) where
  pub first-ahead :
      (i : ℕ) (text : List ℕ) →
      first_from A i text ≡ cond (eqb (members_ahead_of A text) (length text)) None (Some (record { position = i + members_ahead_of A text; byte = at text (members_ahead_of A text) }))
  unfolding first_from members_ahead_of
  first-ahead i [] = refl
  first-ahead i (x ∷ text) = go (A.member x) (first-ahead (suc i) text)
    where
      a : ℕ
      a = members_ahead_of A text

      go :
          (m : Bool) →
          first_from A (suc i) text ≡ cond (eqb a (length text)) None (Some (record { position = suc i + a; byte = at text a })) →
          cond m (first_from A (suc i) text) (Some (record { position = i; byte = x }))
          ≡ cond (eqb (cond m (suc a) 0) (suc (length text))) None (Some (record { position = i + cond m (suc a) 0; byte = at (x ∷ text) (cond m (suc a) 0) }))
      go true ih =
          let next : suc i + a ≡ i + suc a = omega arith in
          ih ∙ ap₂ (λ (b : Bool) (j : ℕ). cond b None (Some (record { position = j; byte = at text a }))) (sym (eqb-suc-suc a (length text))) next
      go false ih = rw (eqb-zero-suc (length text)) (ap (λ (j : ℕ). Some (record { position = j; byte = x })) (sym (add-zero i)))

  -- every byte is a member
  pub first_none : (from : ℕ) (text : List ℕ) → ((j : ℕ) → j < length text → A.member (at text j) ≡ true) → first_from A from text ≡ None
  first_none from text h =
      first-ahead from text ∙ rw (eq-eqb (members_ahead_of A text) (length text) (ahead_all A text h))

  -- and so it is where no first non-member is found
  pub none_first : (from : ℕ) (text : List ℕ) → first_from A from text ≡ None → (j : ℕ) → j < length text → A.member (at text j) ≡ true
  none_first from text e j l = ahead_members A text j (go (eqb a (length text)) refl (sym (first-ahead from text) ∙ e))
    where
      a : ℕ
      a = members_ahead_of A text

      go : (b : Bool) → eqb a (length text) ≡ b → cond {A = Option Stranger} b None (Some (record { position = from + a; byte = at text a })) ≡ None → j < a
      go true q h = omega (arith, eqb-true a (length text) q, l)
      go false q h = absurd (let o : ◌≡◌ {A = ℕ} 0 1 = cc in omega arith)

  -- where r is the first one's place
  module _ (text : List ℕ) (r : ℕ) (first : r ≡ members_ahead_of A text) where
    pub first_there : r < length text → (from : ℕ) → first_from A from text ≡ Some (record { position = from + r; byte = at text r })
    first_there h from =
        first-ahead from text
        ∙ ap (λ (a : ℕ). cond (eqb a (length text)) None (Some (record { position = from + a; byte = at text a }))) (sym first)
        ∙ rw (ne_eqb r (length text) (λ e. omega (arith, e, h)))

    -- or there is none
    pub none_there : length text ≤ r → (from : ℕ) → record { first = None; count = 0 } ≡ bad_from_of A from text
    none_there h from =
        let members : (j : ℕ) → j < length text → A.member (at text j) ≡ true = λ j l. ahead_members A text j (omega (arith, l, h, first)) in
        ap₂ (λ (f : Option Stranger) (n : ℕ). record { first = f; count = n }) (sym (first_none from text members))
        (sym (bad_none A text members))
