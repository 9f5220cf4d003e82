-- One law for each turn of this crate's loops. The crate packing cites those of what is passed.
use Rattle.std.proofs.Common.{◌≡◌, ℕ, zero, suc, ◌+◌, ◌-◌, ◌*◌, ◌/◌, ◌≤◌, ◌<◌, Bool, true, false, cond, not, List, [], ◌∷◌, length, take, drop, get_or, sym, refl, ap, ◌∙◌, subst, le_of_suc-le-suc, ◌⊎◌, Some, None}
use Rattle.std.proofs.Common.{arith, not-suc-le-zero, lt-ltb, ltb, length-drop}
use Rattle.std.specs.Simd.{first_chunks}
use Rattle.std.specs.List.{prefix_len, position}
use mir.Val.{bool_byte}
use borrow.Author.Tests.{ltb-true, ltb-false}
use Rattle.std.proofs.lemmas.List.{drop-drop, take_rest}
use Rattle.std.proofs.Math.Seq.{take-add, length-take-le}
use Rattle.bits.specs.Tables.{at, Bytes}
use Rattle.bits.specs.Counts.{how_many}
use Rattle.bits.proofs.Counted.{many_append, many_parts, many_step, many_end, many_le}
use Rattle.alphabet.specs.declared.kind.AlphabetType.{AlphabetType}
use Rattle.alphabet.specs.declared.kind.AlphabetType.TheVariants.{Ascii, Unknown}
use Rattle.alphabet.specs.Symbols.{Coding, coding_by}
use Rattle.alphabet.proofs.Laws.{plain_takes}
use Rattle.members.specs.Members.{members_ahead_of, all_members_of, bad_in, Members, Passed}
use Rattle.members.proofs.Laws.{ahead_is, ahead_within, ahead_part, all_part, passed_part, passed_fewer}
use native.Mathlib.Decide.{dec_lt}

-- block i of those that a text begins with
pub chunk_at : (n k : ℕ) (text : List ℕ) (i : ℕ) → i < k → get_or (first_chunks n k text) i [] ≡ take n (drop (i * n) text)
chunk_at n zero text i h = absurd (not-suc-le-zero h)
chunk_at n (suc k) text zero h = let none : 0 ≡ 0 * n = omega arith in ap (λ (j : ℕ). take n (drop j text)) none
chunk_at n (suc k) text (suc i) h =
    let next : n + i * n ≡ suc i * n = omega arith in
    chunk_at n k (drop n text) i (le_of_suc-le-suc h) ∙ ap (take n) (drop-drop (i * n) n text ∙ ap (λ (j : ℕ). drop j text) next)

-- one block more is there
one_more : (n m r : ℕ) → suc r ≤ m → r * n + n ≤ m * n
one_more n m r h = grind arith

-- the first byte that is no member, by the word of std
module _ (A : Coding) where
  passing : (text : List ℕ) → prefix_len (λ x. not (not (A.member x))) text ≡ members_ahead_of A text
  unfolding members_ahead_of
  passing [] = refl
  passing (x ∷ text) = go (A.member x) (passing text)
    where
      go : (m : Bool) → prefix_len (λ y. not (not (A.member y))) text ≡ members_ahead_of A text
          → cond (not (not m)) (1 + prefix_len (λ y. not (not (A.member y))) text) 0 ≡ cond m (suc (members_ahead_of A text)) 0
      go true h = omega (arith, h)
      go false h = refl

  some_first : (text : List ℕ) (k : ℕ) → Some k ≡ position (λ x. not (A.member x)) text → (k ≡ members_ahead_of A text) × (k < length text)
  some_first text k e = go (ltb r (length text)) refl e
    where
      r : ℕ
      r = prefix_len (λ x. not (not (A.member x))) text

      go : (b : Bool) → ltb r (length text) ≡ b → Some k ≡ cond b (Some r) None → (k ≡ members_ahead_of A text) × (k < length text)
      go true l q = let same : k ≡ r = cc in (same ∙ passing text, rw same (ltb-true r (length text) l))
      go false l q = absurd (cc)

  no_first : (text : List ℕ) → None ≡ position (λ x. not (A.member x)) text → members_ahead_of A text ≡ length text
  no_first text e = go (ltb r (length text)) refl e
    where
      r : ℕ
      r = prefix_len (λ x. not (not (A.member x))) text

      go : (b : Bool) → ltb r (length text) ≡ b → None ≡ cond b (Some r) None → members_ahead_of A text ≡ length text
      go true l q = absurd (cc)
      go false l q = omega (arith, ltb-false r (length text) l, passing text, ahead_within A text)

module _ (A : Coding) (text : List ℕ) where
  -- ---- the search

  pub passed_none : Passed A text 0
  passed_none = record { within = omega arith; members = λ j h. absurd (not-suc-le-zero h) }

  -- n members more
  pub passed_more : (i n : ℕ) → Passed A text i → i + n ≤ length text → Members A text i n → Passed A text (i + n)
  passed_more i n p h more = record { within = h; members = λ j l. go j l (dec_lt j i) }
    where
      go : (j : ℕ) → j < i + n → Dec (j < i) → A.member (at text j) ≡ true
      go j l (yes k) = p.members j k
      go j l (no k) =
          let same : i + (j - i) ≡ j = omega arith in
          sym (ap (λ (x : ℕ). A.member (at text x)) same) ∙ more.each (j - i) (omega arith)

  -- two stretches, of which the first need not begin with the text
  pub members_more : (i n m : ℕ) → Members A text i n → Members A text (i + n) m → Members A text i (n + m)
  members_more i n m first more = record { each = λ j l. go j l (dec_lt j n) }
    where
      go : (j : ℕ) → j < n + m → Dec (j < n) → A.member (at text (i + j)) ≡ true
      go j l (yes k) = first.each j k
      go j l (no k) =
          let same : i + n + (j - n) ≡ i + j = omega arith in
          sym (ap (λ (x : ℕ). A.member (at text x)) same) ∙ more.each (j - n) (omega arith)

  -- blocks of n bytes, each of members alone
  chunks : (n m r : ℕ) → m * n ≤ length text → r ≤ m
      → ((i : ℕ) → i < r → all_members_of A (get_or (first_chunks n m text) i []) ≡ true) → Passed A text (r * n)
  chunks n m zero h l each = let none : 0 ≡ 0 * n = omega arith in subst (Passed A text) none passed_none
  chunks n m (suc r) h l each =
      let next : r * n + n ≡ suc r * n = omega arith in
      let within : r * n + n ≤ length text = omega (arith, one_more n m r l) in
      let long : n ≡ r * n + n - r * n = omega arith in
      let block : all_members_of A (take n (drop (r * n) text)) ≡ true = ap (all_members_of A) (sym (chunk_at n m text r l)) ∙ each r (omega arith) in
      let more : Members A text (r * n) n =
      all_part A text (r * n) n (r * n + n) refl within (sym (ap (λ (k : ℕ). all_members_of A (take k (drop (r * n) text))) long) ∙ block) in
      subst (Passed A text) next (passed_more (r * n) n (chunks n m r h (omega arith) (λ i k. each i (omega arith))) within more)

  pub passed_chunks : (n r : ℕ) (blocks : List (List ℕ)) → 0 < n → blocks ≡ first_chunks n (length text / n) text → r ≤ length text / n
      → ((i : ℕ) → i < r → all_members_of A (get_or blocks i []) ≡ true) → Passed A text (r * n)
  passed_chunks n r blocks some e l each =
      chunks n (length text / n) r (omega arith) l (λ i h. ap (λ (bs : List (List ℕ)). all_members_of A (get_or bs i [])) (sym e) ∙ each i h)

  -- the last n, of which some may be passed already
  pub passed_end : (i from n : ℕ) → Passed A text i → from ≤ i → from + n ≡ length text → Members A text from n → Passed A text (length text)
  passed_end i from n p h all more = record { within = omega arith; members = λ j l. go j l (dec_lt j i) }
    where
      go : (j : ℕ) → j < length text → Dec (j < i) → A.member (at text j) ≡ true
      go j l (yes k) = p.members j k
      go j l (no k) =
          let same : from + (j - from) ≡ j = omega arith in
          sym (ap (λ (x : ℕ). A.member (at text x)) same) ∙ more.each (j - from) (omega arith)

  -- those that a part begins with, as it is lent
  pub passed_behind : (i r : ℕ) → Passed A text i → Passed A (take (length text - i) (drop i text)) r → Passed A text (i + r)
  passed_behind i r p more = let part = passed_part A text i r p.within more in passed_more i r p part.0 part.1

  -- block i of 64 bytes has members alone
  block_at : (blocks : List (List ℕ)) → blocks ≡ first_chunks 64 (length text / 64) text → (i : ℕ) → i < length text / 64 → all_members_of A (get_or blocks i []) ≡ true
      → Members A text (i * 64) 64
  block_at blocks e i l all =
      let long : 64 ≡ i * 64 + 64 - i * 64 = omega arith in
      let same = ap (λ (bs : List (List ℕ)). get_or bs i []) e ∙ chunk_at 64 (length text / 64) text i l ∙ ap (λ (n : ℕ). take n (drop (i * 64) text)) long in
      all_part A text (i * 64) 64 (i * 64 + 64) refl (omega (arith, l)) (ap (all_members_of A) (sym same) ∙ all)

  -- of two halves, h blocks each, as many blocks of 64 bytes
  pub record Halves (h k : ℕ) : Type 0 where
    pub first : Passed A text (k * 64)
    pub second : Members A text (h * 64) (k * 64)

  pub halves_none : (h : ℕ) → Halves h 0
  halves_none h = record { first = passed_none; second = record { each = λ j l. absurd (not-suc-le-zero l) } }

  -- a block more of each
  pub halves_more : (h k : ℕ) (blocks : List (List ℕ)) → blocks ≡ first_chunks 64 (length text / 64) text → h ≡ length text / 128 → k < h
      → all_members_of A (get_or blocks k []) ≡ true → all_members_of A (get_or blocks (h + k) []) ≡ true → Halves h k → Halves h (k + 1)
  halves_more h k blocks e q l here there o =
      let one : k * 64 + 64 ≡ (k + 1) * 64 = omega arith in
      let other : (h + k) * 64 ≡ h * 64 + k * 64 = omega arith in
      record {
        first = subst (Passed A text) one (passed_more (k * 64) 64 o.first (omega (arith, q)) (block_at blocks e k (omega (arith, q)) here));
        second = subst (Members A text (h * 64)) one
            (members_more (h * 64) (k * 64) 64 o.second (subst (λ (i : ℕ). Members A text i 64) other (block_at blocks e (h + k) (omega (arith, q)) there)));
      }

  pub halves_all : (h k : ℕ) → h ≡ length text / 128 → h ≤ k → Halves h k → Passed A text (h * 128)
  halves_all h k q l o =
      let twice : h * 64 + h * 64 ≡ h * 128 = omega arith in
      subst (Passed A text) twice
      (passed_more (h * 64) (h * 64) (passed_fewer A text (h * 64) (k * 64) (omega arith) o.first) (omega (arith, q)) (record { each = λ j m. o.second.each j (omega arith) }))

  -- the last n of them, as they are lent
  pub passed_last : (i n : ℕ) (last : List ℕ) → Passed A text i → n ≤ length text → length text - n ≤ i → last ≡ drop (length text - n) text → all_members_of A last ≡ true
      → Passed A text (length text)
  passed_last i n last p l h e all =
      let from : ℕ = length text - n in
      let whole : take (length text - from) (drop from text) ≡ drop from text = take_rest text from in
      passed_end i from (length text - from) p h (omega arith)
      (all_part A text from (length text - from) (length text) (omega arith) (omega arith) (ap (all_members_of A) (whole ∙ sym e) ∙ all))

  pub passed_rest : (i : ℕ) → Passed A text i → all_members_of A (take (length text - i) (drop i text)) ≡ true → Passed A text (length text)
  passed_rest i p all = passed_end i i (length text - i) p (omega arith) (omega (arith, p.within)) (all_part A text i (length text - i) (length text) (omega (arith, p.within)) (omega arith) all)

  pub passed_all : (i : ℕ) → length text ≤ i → Passed A text i → members_ahead_of A text ≡ length text
  passed_all i h p = sym (ahead_is A text (length text) (omega arith) (λ j l. p.members j (omega arith)) (λ l. absurd (omega arith)))

  -- the search behind what is passed: in the other bytes, as they are lent
  pub behind_some : (i k : ℕ) → Passed A text i → k ≡ members_ahead_of A (take (length text - i) (drop i text)) → k < length (take (length text - i) (drop i text))
      → (i + k ≡ members_ahead_of A text) × (i + k < length text)
  behind_some i k p e h =
      let long : length (take (length text - i) (drop i text)) ≡ length text - i = length-take-le (length text - i) (drop i text) (omega (arith, length-drop i text)) in
      (omega (arith, e, ahead_part A text i p), omega (arith, h, long))

  pub behind_none : (i : ℕ) → Passed A text i → members_ahead_of A (take (length text - i) (drop i text)) ≡ length (take (length text - i) (drop i text))
      → members_ahead_of A text ≡ length text
  behind_none i p e =
      let long : length (take (length text - i) (drop i text)) ≡ length text - i = length-take-le (length text - i) (drop i text) (omega (arith, length-drop i text)) in
      omega (arith, e, ahead_part A text i p, long, p.within)

  pub stranger_next : (i k : ℕ) → Passed A text i
      → Some k ≡ position (λ x. not (A.member x)) (take (length text - i) (drop i text)) → (i + k ≡ members_ahead_of A text) × (i + k < length text)
  stranger_next i k p e = let first = some_first A (take (length text - i) (drop i text)) k e in behind_some i k p first.0 first.1

  pub stranger_none : (i : ℕ) → Passed A text i → None ≡ position (λ x. not (A.member x)) (take (length text - i) (drop i text)) → members_ahead_of A text ≡ length text
  stranger_none i p e = behind_none i p (no_first A (take (length text - i) (drop i text)) e)

  -- ---- the count

  at_most_once : (b : Bool) → bool_byte b ≤ 1
  at_most_once true = omega arith
  at_most_once false = omega arith

  byte_cond : (b : Bool) → bool_byte b ≡ cond b 1 0
  byte_cond true = refl
  byte_cond false = refl

  pub counted_byte : (k s x : ℕ) (m : Bool) → k < length text → m ≡ A.member (at text k) → x ≡ bool_byte (not m) → s ≤ k → s + bad_in A (drop k text) ≡ bad_in A text
      → (s + x ≤ k + 1) × (s + x + bad_in A (drop (k + 1) text) ≡ bad_in A text)
  counted_byte k s x m h e q few counted =
      let up : k + 1 ≡ suc k = omega arith in
      let one : x ≡ cond (not (A.member (at text k))) 1 0 = q ∙ byte_cond (not m) ∙ ap (λ (b : Bool). cond (not b) 1 0) e in
      (omega (arith, q, at_most_once (not m)), rw up (omega (arith, counted, one, many_step (λ v. not (A.member v)) text k h)))

  pub counted_all : (k s : ℕ) → length text ≤ k → s + bad_in A (drop k text) ≡ bad_in A text → s ≡ bad_in A text
  counted_all k s h e = omega (arith, e, many_end (λ v. not (A.member v)) text k h)

  -- the bytes before block k of 128, and those behind the last block
  abbrev pub Counted : ℕ → ℕ → Type 0
  Counted k s = s ≡ bad_in A (drop (length text / 128 * 128) text) + bad_in A (take (k * 128) text)

  pub counted_none : (s : ℕ) → s ≡ bad_in A (drop (length text / 128 * 128) text) → Counted 0 s
  unfolding how_many
  counted_none s e = omega (arith, e)

  pub counted_block : (k s x : ℕ) → k < length text / 128 → x ≡ bad_in A (take 128 (drop (k * 128) text)) → Counted k s → Counted (k + 1) (s + x)
  counted_block k s x h e q =
      let next : k * 128 + 128 ≡ (k + 1) * 128 = omega arith in
      let more : bad_in A (take ((k + 1) * 128) text) ≡ bad_in A (take (k * 128) text) + bad_in A (take 128 (drop (k * 128) text)) =
      ap (λ (n : ℕ). bad_in A (take n text)) (sym next) ∙ ap (bad_in A) (take-add (k * 128) 128 text)
      ∙ many_append (λ v. not (A.member v)) (take (k * 128) text) (take 128 (drop (k * 128) text)) in
      omega (arith, q, e, more)

  pub counted_few : (k s : ℕ) → k ≤ length text / 128 → Counted k s → s ≤ length text
  counted_few k s h e =
      let test : ℕ → Bool = λ v. not (A.member v) in
      let end : ℕ = length text / 128 * 128 in
      omega (
        arith,
        e,
        many_le test (drop end text),
        many_le test (take (k * 128) text),
        length-drop end text,
        length-take-le (k * 128) text (omega arith),
      )

  pub counted_blocks : (s k : ℕ) → k ≡ length text / 128 → Counted k s → s ≡ bad_in A text
  counted_blocks s k h e =
      let end : ℕ = length text / 128 * 128 in
      let all = many_parts (λ v. not (A.member v)) text end in
      omega (arith, all, ap (λ (n : ℕ). bad_in A (take (n * 128) text)) h, e)

-- ---- every byte is a member of Ascii, and of Unknown

pub plain_passed : (fold : Bool) (k : AlphabetType) (text : List ℕ) → Bytes text → (k ≡ Ascii) ⊎ (k ≡ Unknown) → Passed (coding_by fold k) text (length text)
plain_passed fold k text bytes plain = record { within = omega arith; members = λ j h. plain_takes fold k (at text j) plain ∙ lt-ltb (at text j) 256 (bytes j) }
