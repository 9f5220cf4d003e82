-- The laws of a text's members that the crates above cite, for any coding.
use mathlib.Core.Path.{◌≡◌, refl, sym, ap, ◌∙◌}
use mathlib.Core.Bool.{Bool, true, false, cond, not, ◌&&◌, true≢false}
use mathlib.Core.List.{List, [], ◌∷◌}
use Prim.Native.Nat.{ℕ, zero, suc, ◌+◌, ◌-◌, ◌≤◌, ◌<◌}
use native.Mathlib.Nat.{zero-add, le_of_suc-le-suc, not-suc-le-zero}
use native.Mathlib.Omega.{arith}
use lib.ListN.{length, take, drop, length-drop, drop_of_length-le}
use lib.Seq.{take_all, get_or-take, get_or-drop, length-take-le}
use Rattle.bits.specs.Tables.{at}
use Rattle.bits.proofs.Computed.{both_true}
use Rattle.bits.proofs.Counted.{many_rest, many_past, many_none, none_many}
use Rattle.alphabet.specs.Symbols.{Coding}
use Rattle.members.specs.Members.{members_ahead_of, all_members_of, bad_in, Members, Passed}

module _ (A : Coding) where
  -- ---- the first non-member's place, or the end

  pub ahead_within : (text : List ℕ) → members_ahead_of A text ≤ length text
  unfolding members_ahead_of
  ahead_within [] = omega arith
  ahead_within (x ∷ text) = go (A.member x) (ahead_within text)
    where
      go : (m : Bool) → members_ahead_of A text ≤ length text → cond m (suc (members_ahead_of A text)) 0 ≤ suc (length text)
      go true h = omega arith
      go false h = omega arith

  -- the bytes before it are members
  pub ahead_members : (text : List ℕ) (j : ℕ) → j < members_ahead_of A text → A.member (at text j) ≡ true
  unfolding members_ahead_of
  ahead_members [] j h = absurd (not-suc-le-zero h)
  ahead_members (x ∷ text) j h = go (A.member x) refl j h (ahead_members text)
    where
      go : (m : Bool) → A.member x ≡ m → (j : ℕ) → j < cond m (suc (members_ahead_of A text)) 0
          → ((i : ℕ) → i < members_ahead_of A text → A.member (at text i) ≡ true) → A.member (at (x ∷ text) j) ≡ true
      go true e zero l ih = e
      go true e (suc i) l ih = ih i (le_of_suc-le-suc l)
      go false e j l ih = absurd (not-suc-le-zero l)

  -- the byte there is none
  pub ahead_stops : (text : List ℕ) → members_ahead_of A text < length text → A.member (at text (members_ahead_of A text)) ≡ false
  unfolding members_ahead_of
  ahead_stops [] h = absurd (not-suc-le-zero h)
  ahead_stops (x ∷ text) h = go (A.member x) refl h (ahead_stops text)
    where
      a : ℕ
      a = members_ahead_of A text

      go : (m : Bool) → A.member x ≡ m → cond m (suc a) 0 < suc (length text) → (a < length text → A.member (at text a) ≡ false)
          → A.member (at (x ∷ text) (cond m (suc a) 0)) ≡ false
      go true e l ih = ih (le_of_suc-le-suc l)
      go false e l ih = e

  -- r members, and then a non-member or the end
  pub ahead_is : (text : List ℕ) (r : ℕ) → r ≤ length text → ((j : ℕ) → j < r → A.member (at text j) ≡ true)
      → (r < length text → A.member (at text r) ≡ false) → r ≡ members_ahead_of A text
  unfolding members_ahead_of
  ahead_is [] r h members next = omega arith
  ahead_is (x ∷ text) zero h members next = sym (rw (next (omega arith)))
  ahead_is (x ∷ text) (suc r) h members next =
      ap suc (ahead_is text r (le_of_suc-le-suc h) (λ j l. members (suc j) (omega arith)) (λ l. next (omega arith)))
      ∙ sym (rw (members 0 (omega arith)))

  -- ---- the first bytes of a text, where they are members

  pub passed_fewer : (text : List ℕ) (i n : ℕ) → i ≤ n → Passed A text n → Passed A text i
  passed_fewer text i n h p = record { within = omega (arith, p.within); members = λ j l. p.members j (omega arith) }

  -- those that the first h bytes begin with, as these are lent
  pub passed_ahead : (text : List ℕ) (h m : ℕ) → h ≤ length text → m ≡ members_ahead_of A (take h text) → Passed A text m
  passed_ahead text h m within e =
      let long : length (take h text) ≡ h = length-take-le h text (omega arith) in
      let few : m ≤ h = omega (arith, e, long, ahead_within (take h text)) in
      record {
        within = omega (arith, few);
        members = λ j l. ap A.member (sym (get_or-take h text j 0 (omega (arith, few)))) ∙ ahead_members (take h text) j (omega (arith, e));
      }

  -- those that a part begins with, as it is lent
  pub passed_part : (text : List ℕ) (h r : ℕ) → h ≤ length text → Passed A (take (length text - h) (drop h text)) r → (h + r ≤ length text) × Members A text h r
  passed_part text h r within p =
      let whole : take (length text - h) (drop h text) ≡ drop h text = take_all (length text - h) (drop h text) (omega (arith, length-drop h text)) in
      let long : length (take (length text - h) (drop h text)) ≡ length text - h = ap length whole ∙ length-drop h text in
      let each : (j : ℕ) → j < r → A.member (at text (h + j)) ≡ true =
      λ j l. ap A.member (sym (ap (λ (xs : List ℕ). at xs j) whole ∙ get_or-drop h text j 0)) ∙ p.members j l in
      (omega (arith, p.within, long), record { each = each })

  -- behind r members the search goes on with the others, as they are lent
  ahead_behind : (text : List ℕ) (r : ℕ) → r ≤ length text → ((j : ℕ) → j < r → A.member (at text j) ≡ true) → r + members_ahead_of A (drop r text) ≡ members_ahead_of A text
  unfolding members_ahead_of
  ahead_behind text zero h members = zero-add (members_ahead_of A text)
  ahead_behind [] (suc r) h members = absurd (not-suc-le-zero h)
  ahead_behind (x ∷ text) (suc r) h members =
      let next : suc r + members_ahead_of A (drop r text) ≡ suc (r + members_ahead_of A (drop r text)) = omega arith in
      next ∙ ap suc (ahead_behind text r (le_of_suc-le-suc h) (λ j l. members (suc j) (omega arith))) ∙ sym (rw (members 0 (omega arith)))

  pub ahead_part : (text : List ℕ) (r : ℕ) → Passed A text r → r + members_ahead_of A (take (length text - r) (drop r text)) ≡ members_ahead_of A text
  ahead_part text r p =
      ap (λ (l : List ℕ). r + members_ahead_of A l) (take_all (length text - r) (drop r text) (omega (arith, length-drop r text)))
      ∙ ahead_behind text r p.within p.members

  -- ---- whether all bytes are members

  -- of a text from place j on: byte j and those behind it
  all_step : (text : List ℕ) (j : ℕ) → j < length text → all_members_of A (drop j text) ≡ (A.member (at text j) && all_members_of A (drop (suc j) text))
  unfolding all_members_of
  all_step [] j h = absurd (not-suc-le-zero h)
  all_step (x ∷ text) zero h = refl
  all_step (x ∷ text) (suc j) h = all_step text j (le_of_suc-le-suc h)

  -- the first bytes asked, then byte j, and then the others
  pub all_more : (text : List ℕ) (all m : Bool) (j : ℕ) → j < length text → m ≡ A.member (at text j)
      → (all && all_members_of A (drop j text)) ≡ all_members_of A text → ((all && m) && all_members_of A (drop (j + 1) text)) ≡ all_members_of A text
  all_more text all m j h e inv =
      let next : j + 1 ≡ suc j = omega arith in
      rw (next, e) (both all (A.member (at text j)) (all_members_of A (drop (suc j) text)) ∙ ap (λ (b : Bool). all && b) (sym (all_step text j h)) ∙ inv)
    where
      both : (a b c : Bool) → ((a && b) && c) ≡ (a && (b && c))
      both true b c = refl
      both false b c = refl

  -- where none is left
  pub all_end : (text : List ℕ) (all : Bool) (j : ℕ) → length text ≤ j → (all && all_members_of A (drop j text)) ≡ all_members_of A text → all ≡ all_members_of A text
  unfolding all_members_of
  all_end text all j h inv = go all ∙ ap (λ (l : List ℕ). all && all_members_of A l) (sym (drop_of_length-le text {i = j} h)) ∙ inv
    where
      go : (a : Bool) → a ≡ (a && true)
      go true = refl
      go false = refl

  pub all_each : (text : List ℕ) → all_members_of A text ≡ true → (j : ℕ) → j < length text → A.member (at text j) ≡ true
  unfolding all_members_of
  all_each [] e j h = absurd (not-suc-le-zero h)
  all_each (x ∷ text) e zero h = (both_true (A.member x) (all_members_of A text) e).0
  all_each (x ∷ text) e (suc j) h = all_each text (both_true (A.member x) (all_members_of A text) e).1 j (le_of_suc-le-suc h)

  -- of a part of a text, n bytes from place i on, as it is lent
  pub all_part : (text : List ℕ) (i n end : ℕ) → end ≡ i + n → end ≤ length text → all_members_of A (take (end - i) (drop i text)) ≡ true → Members A text i n
  all_part text i n end s h e =
      let long : length (take (end - i) (drop i text)) ≡ end - i = length-take-le (end - i) (drop i text) (omega (arith, length-drop i text)) in
      let lent : (j : ℕ) → j < n → at (take (end - i) (drop i text)) j ≡ at text (i + j) =
      λ j l. get_or-take (end - i) (drop i text) j 0 (omega arith) ∙ get_or-drop i text j 0 in
      record { each = λ j l. ap A.member (sym (lent j l)) ∙ all_each (take (end - i) (drop i text)) e j (omega (arith, long)) }

  -- ---- a text of one byte

  -- it has a member ahead where the byte is one, and else none
  pub alone : (x : ℕ) → members_ahead_of A (x ∷ []) ≡ cond (A.member x) 1 0
  unfolding members_ahead_of
  alone x = refl

  pub alone_member : (x r : ℕ) → r ≡ members_ahead_of A (x ∷ []) → r ≡ 1 → A.member x ≡ true
  alone_member x r e one = go (A.member x) (sym (alone x) ∙ sym e ∙ one)
    where
      go : (m : Bool) → ◌≡◌ {A = ℕ} (cond m 1 0) 1 → m ≡ true
      go true h = refl
      go false h = absurd (omega (arith, h))

  pub alone_stranger : (x r : ℕ) → r ≡ members_ahead_of A (x ∷ []) → (r ≡ 1 → ⊥) → A.member x ≡ false
  alone_stranger x r e other = go (A.member x) (λ h. other (e ∙ alone x ∙ h))
    where
      go : (m : Bool) → (◌≡◌ {A = ℕ} (cond m 1 0) 1 → ⊥) → m ≡ false
      go true h = absurd (h refl)
      go false h = refl

  -- ---- a text all of whose bytes are members

  pub ahead_all : (text : List ℕ) → ((j : ℕ) → j < length text → A.member (at text j) ≡ true) → members_ahead_of A text ≡ length text
  ahead_all text members = sym (ahead_is text (length text) (omega arith) members (λ l. absurd (omega arith)))

  pub bad_none : (text : List ℕ) → ((j : ℕ) → j < length text → A.member (at text j) ≡ true) → bad_in A text ≡ 0
  bad_none text members = many_none (λ v. not (A.member v)) text (λ j l. ap not (members j l))

  -- and so they are where no non-member is counted
  pub none_bad : (text : List ℕ) → bad_in A text ≡ 0 → (j : ℕ) → j < length text → A.member (at text j) ≡ true
  none_bad text e j l = go (A.member (at text j)) (none_many (λ v. not (A.member v)) text e j l)
    where
      go : (m : Bool) → not m ≡ false → m ≡ true
      go true h = refl
      go false h = absurd (true≢false h)

  -- ---- all non-members stand from the first one on

  pub bad_ahead : (text : List ℕ) → bad_in A (drop (members_ahead_of A text) text) ≡ bad_in A text
  bad_ahead text = many_past (λ v. not (A.member v)) text (members_ahead_of A text) (ahead_within text) (λ j l. ap not (ahead_members text j l))

  -- as a part of the text is lent from there on
  pub bad_part : (text : List ℕ) (r : ℕ) → r ≡ members_ahead_of A text → bad_in A (take (length text - r) (drop r text)) ≡ bad_in A text
  bad_part text r e = many_rest (λ v. not (A.member v)) text r ∙ ap (λ (n : ℕ). bad_in A (drop n text)) e ∙ bad_ahead text
