-- What an answer says of a call, and what it leaves in memory.
use Rattle.std.specs.Prelude.{Result, Ok, Err}
use Rattle.std.proofs.Common.{◌≡◌, ℕ, ◌+◌, ◌-◌, ◌^◌, ◌<◌, ◌≤◌, Bool, true, false, ◌&&◌, ltb, leb, List, [], ◌∷◌, ◌++◌, length, drop, sym, refl, ap, ap₂}
use Rattle.std.proofs.Common.{◌∙◌, mul-le-mul_right, arith, ltb-false, ltb-true, le-ltb, lt-ltb, le-leb, leb-true}
use borrow.Author.Tests.{lt-leb}
use Rattle.bits.specs.Tables.{tabulate}
use Rattle.bits.specs.Packing.{first_byte, end_byte}
use Rattle.bits.specs.Memory.{front}
use Rattle.bits.proofs.Computed.{both_true}
use Rattle.alphabet.specs.Questions.{ask◌else◌then◌, by, in_bounds}
use Rattle.alphabet.specs.Symbols.{Coding, coding}
use Rattle.alphabet.specs.Names.{known, kind_of, numbered}
use Rattle.alphabet.specs.declared.kind.AlphabetType.{AlphabetType}
use Rattle.alphabet.specs.declared.kind.AlphabetType.TheVariants.{Protein}
use Rattle.alphabet.specs.declared.refusal.Refusal.{Refusal}
use Rattle.windows.specs.Window.{window, covers, first_lacking_of, all_assigned, read_at, lent_at, looked_at, covered_at, read_writes, read_memory, covered_memory}
use Rattle.windows.proofs.Windows.{window_bases, length-window}
use Rattle.windows.proofs.Assigned.{empty-assigned, others_assigned}

-- ---- an answer with bases passed every question

abbrev counted : Result ℕ Refusal → ℕ
counted (Ok n) = n
counted (Err q) = 0

-- an answer with bases is no answer on "no"
passed : (t : Bool) (no_answer rest : Result ℕ Refusal) (n : ℕ) → counted no_answer ≡ 0 → 0 < n → counted (ask t else no_answer then rest) ≡ n → (t ≡ true) × (counted rest ≡ n)
passed true no_answer rest n z h e = (refl, e)
passed false no_answer rest n z h e = absurd (omega arith)

-- the last question
last : (start end room n : ℕ) → ltb start end ≡ true → in_bounds end ≡ true → leb (end - start) room ≡ true → end - start ≡ n → (start + n ≤ 2 ^ 60) × (n ≤ room)
last start end room n some near space count = (omega (arith, ltb-true start end some, leb-true end (2 ^ 60) near), omega (arith, leb-true (end - start) room space))

pub accepted : (alphabet offset start end room : ℕ) (r : Result ℕ Refusal) (n : ℕ) → r ≡ read_at alphabet offset start end room → r ≡ Ok n → (n ≡ 0 → ⊥)
    → (start + n ≤ 2 ^ 60) × (n ≤ room)
unfolding read_at
accepted alphabet offset start end room r n e told z =
    let h : 0 < n = omega arith in
    let p₁ = passed (ltb start end) _ _ n refl h (sym (ap counted e) ∙ ap counted told) in
    let p₂ = passed (known alphabet) _ _ n refl h p₁.1 in
    let p₃ = passed (in_bounds end && in_bounds offset) _ _ n refl h p₂.1 in
    let p₄ = passed (leb (end - start) room) _ _ n refl h p₃.1 in
    last start end room n p₁.0 (both_true (in_bounds end) (in_bounds offset) p₃.0).0 p₄.0 p₄.1

-- what is known of a covered read that was answered with bases before its codes are looked at
pub record Accepted (alphabet : ℕ) (lent : List ℕ) (offset start end room n : ℕ) : Type 0 where
  pub fits : (start + n ≤ 2 ^ 60) × (n ≤ room)
  pub all : covers (numbered alphabet) lent offset start end ≡ true
  pub whole : start + n ≡ end

pub lent-accepted : (alphabet : ℕ) (lent : List ℕ) (offset start end room : ℕ) (r : Result ℕ Refusal) (n : ℕ)
    → r ≡ lent_at alphabet lent offset start end room → r ≡ Ok n → (n ≡ 0 → ⊥) → Accepted alphabet lent offset start end room n
unfolding lent_at
lent-accepted alphabet lent offset start end room r n e told z =
    let h : 0 < n = omega arith in
    let p₁ = passed (ltb start end) _ _ n refl h (sym (ap counted e) ∙ ap counted told) in
    let p₂ = passed (known alphabet) _ _ n refl h p₁.1 in
    let p₃ = passed (in_bounds end && in_bounds offset) _ _ n refl h p₂.1 in
    let p₄ = passed (covers (numbered alphabet) lent offset start end) _ _ n refl h p₃.1 in
    let p₅ = passed (leb (end - start) room) _ _ n refl h p₄.1 in
    record {
      fits = last start end room n p₁.0 (both_true (in_bounds end) (in_bounds offset) p₃.0).0 p₅.0 p₅.1;
      all = p₄.0;
      whole = omega (arith, ltb-true start end p₁.0, p₅.1);
    }

-- ---- memory afterwards

module _ (alphabet : ℕ) (lent : List ℕ) (offset start : ℕ) (memory : List ℕ) where
  -- what an answer leaves
  abbrev pub After : Result ℕ Refusal → List ℕ → Type 0
  After answer out = out ≡ front (read_writes alphabet lent offset start answer) memory

  same_after : (r answer : Result ℕ Refusal) (out : List ℕ) → r ≡ answer → After r out → After answer out
  same_after r answer out e w = w ∙ ap (λ (x : Result ℕ Refusal). front (read_writes alphabet lent offset start x) memory) e

  pub refused-after : (answer : Result ℕ Refusal) (q : Refusal) → answer ≡ Err q → After answer memory
  unfolding read_writes
  refused-after answer q told = same_after (Err q) answer memory (sym told) refl

  pub empty-after : (answer : Result ℕ Refusal) (n : ℕ) → answer ≡ Ok n → n ≡ 0 → After answer memory
  unfolding read_writes tabulate
  empty-after answer n told z =
      same_after (Ok 0) answer memory (ap Ok (sym z) ∙ sym told)
      (ap (λ (l : List ℕ). front l memory) (sym (window_bases (numbered alphabet) lent offset start 0)))

  -- n bases stand at the front
  pub bases_after : (answer : Result ℕ Refusal) (kind : AlphabetType) (n m : ℕ) (xs : List ℕ) → answer ≡ Ok n → kind ≡ kind_of alphabet → m ≡ n
      → xs ≡ window (coding kind) lent offset start m → After answer (xs ++ drop n memory)
  unfolding read_writes
  bases_after answer kind n m xs told k same w =
      let all : xs ≡ window (numbered alphabet) lent offset start n =
      w ∙ ap₂ (λ (x : AlphabetType) (i : ℕ). window (coding x) lent offset start i) k same in
      let len : length xs ≡ n = ap length all ∙ length-window (numbered alphabet) lent offset start n in
      same_after (Ok n) answer (xs ++ drop n memory) (sym told) (ap (λ (i : ℕ). xs ++ drop i memory) (sym len) ∙ ap (λ (l : List ℕ). front l memory) all)

-- ---- question 6

-- the byte range is lent: it begins no earlier and ends no later than the lent bytes
pub covered-yes : (A : Coding) (lent : List ℕ) (offset start end : ℕ)
    → offset ≤ first_byte A.width start → end_byte A.width end - offset ≤ length lent → covers A lent offset start end ≡ true
unfolding covers
covered-yes A lent offset start end l h = rw (le-leb offset (first_byte A.width start) l, le-leb (end_byte A.width end) (offset + length lent) (omega arith))

pub covered_early : (A : Coding) (lent : List ℕ) (offset start end : ℕ) → first_byte A.width start < offset → covers A lent offset start end ≡ false
unfolding covers
covered_early A lent offset start end l = rw (lt-leb offset (first_byte A.width start) l)

pub covered_late : (A : Coding) (lent : List ℕ) (offset start end : ℕ)
    → offset ≤ first_byte A.width start → length lent < end_byte A.width end - offset → covers A lent offset start end ≡ false
unfolding covers
covered_late A lent offset start end l h = rw (le-leb offset (first_byte A.width start) l, lt-leb (end_byte A.width end) (offset + length lent) (omega arith))

-- a range's first byte stands no later than its end
pub range-order : (b start end : ℕ) → start < end → first_byte b start ≤ end_byte b end
range-order b start end h = omega (arith, mul-le-mul_right {m = start} {n = end} b (omega arith))

-- ---- each answer of a zero-filling read

module _ (alphabet offset start end room : ℕ) where
  pub read-empty : end ≤ start → Ok 0 ≡ read_at alphabet offset start end room
  unfolding read_at
  read-empty h = rw (le-ltb start end h)

  module _ (some : start < end) where
    pub read_unknown : 5 < alphabet → Err (by 8 []) ≡ read_at alphabet offset start end room
    unfolding read_at
    read_unknown h = rw (lt-ltb start end some, lt-leb alphabet 5 h)

    module _ (named : alphabet ≤ 5) where
      pub read_far_end : 2 ^ 60 < end → Err (by 2 []) ≡ read_at alphabet offset start end room
      unfolding read_at
      read_far_end h = rw (lt-ltb start end some, le-leb alphabet 5 named, lt-leb end (2 ^ 60) h)

      module _ (near : end ≤ 2 ^ 60) where
        pub read-far-offset : 2 ^ 60 < offset → Err (by 2 []) ≡ read_at alphabet offset start end room
        unfolding read_at
        read-far-offset h = rw (lt-ltb start end some, le-leb alphabet 5 named, le-leb end (2 ^ 60) near, lt-leb offset (2 ^ 60) h)

        module _ (by_near : offset ≤ 2 ^ 60) where
          pub read_short : room < end - start → Err (by 4 []) ≡ read_at alphabet offset start end room
          unfolding read_at
          read_short h = rw (lt-ltb start end some, le-leb alphabet 5 named, le-leb end (2 ^ 60) near, le-leb offset (2 ^ 60) by_near, lt-leb (end - start) room h)

          pub read_bases : end - start ≤ room → Ok (end - start) ≡ read_at alphabet offset start end room
          unfolding read_at
          read_bases h = rw (lt-ltb start end some, le-leb alphabet 5 named, le-leb end (2 ^ 60) near, le-leb offset (2 ^ 60) by_near, le-leb (end - start) room h)

-- ---- each answer of a covered read before its codes are looked at, by that of a zero-filling one with memory enough

-- what is asked of both, by the three answers, with what follows on "yes"
abbrev asking : Bool → Bool → Bool → Result ℕ Refusal → Result ℕ Refusal
asking some named near rest =
    ask some else Ok 0 then
    ask named else Err (by 8 []) then
    ask near else Err (by 2 []) then
    rest

module _ (alphabet : ℕ) (lent : List ℕ) (offset start end room : ℕ) (r : Result ℕ Refusal) (e : r ≡ read_at alphabet offset start end end) where
  -- what a covered read asks besides
  abbrev besides : Result ℕ Refusal
  besides =
      ask covers (numbered alphabet) lent offset start end else Err (by 3 []) then
      ask leb (end - start) room else Err (by 4 []) then
      Ok (end - start)

  plain : r ≡ asking (ltb start end) (known alphabet) (in_bounds end && in_bounds offset) (Ok (end - start))
  unfolding read_at
  plain = e ∙ rw (le-leb (end - start) end (omega arith))

  -- a refusal is no answer with bases, so that it stays whatever else is asked
  pub lent-refused : (q : Refusal) → r ≡ Err q → r ≡ lent_at alphabet lent offset start end room
  unfolding lent_at
  lent-refused q told = told ∙ go (ltb start end) (known alphabet) (in_bounds end && in_bounds offset) (sym told ∙ plain)
    where
      go : (t u v : Bool) → Err q ≡ asking t u v (Ok (end - start)) → Err q ≡ asking t u v besides
      go true true true p = let z : ◌≡◌ {A = ℕ} 0 1 = cc in absurd (omega arith)
      go true true false p = p
      go true false v p = p
      go false u v p = p

  -- an empty window stays so
  pub lent-empty : (n : ℕ) → r ≡ Ok n → n ≡ 0 → Ok n ≡ lent_at alphabet lent offset start end room
  unfolding lent_at
  lent-empty n told z = go (ltb start end) (known alphabet) (in_bounds end && in_bounds offset) (ltb-true start end) (sym told ∙ plain)
    where
      go : (t u v : Bool) → (t ≡ true → start < end) → Ok n ≡ asking t u v (Ok (end - start)) → Ok n ≡ asking t u v besides
      go true true true some p = absurd (omega (arith, some refl, ap counted p))
      go true true false some p = let x : ◌≡◌ {A = ℕ} 0 1 = cc in absurd (omega arith)
      go true false v some p = let x : ◌≡◌ {A = ℕ} 0 1 = cc in absurd (omega arith)
      go false u v some p = p

-- a window that is not empty, of n bases, whose alphabet has a number and whose positions are in bounds
pub record Placed (alphabet offset start end n : ℕ) : Type 0 where
  pub some : ltb start end ≡ true
  pub named : known alphabet ≡ true
  pub near : in_bounds end && in_bounds offset ≡ true
  pub count : end - start ≡ n

pub placed : (alphabet offset start end : ℕ) (r : Result ℕ Refusal) (n : ℕ) → r ≡ read_at alphabet offset start end end → r ≡ Ok n → (n ≡ 0 → ⊥) → Placed alphabet offset start end n
unfolding read_at
placed alphabet offset start end r n e told z =
    let h : 0 < n = omega arith in
    let p₁ = passed (ltb start end) _ _ n refl h (sym (ap counted e) ∙ ap counted told) in
    let p₂ = passed (known alphabet) _ _ n refl h p₁.1 in
    let p₃ = passed (in_bounds end && in_bounds offset) _ _ n refl h p₂.1 in
    let p₄ = passed (leb (end - start) end) _ _ n refl h p₃.1 in
    record { some = p₁.0; named = p₂.0; near = p₃.0; count = p₄.1 }

module _ {alphabet offset start end n : ℕ} (w : Placed alphabet offset start end n) where
  pub placed_some : start < end
  placed_some = ltb-true start end w.some

  pub placed_near : end ≤ 2 ^ 60
  placed_near = leb-true end (2 ^ 60) (both_true (in_bounds end) (in_bounds offset) w.near).0

  module _ (lent : List ℕ) (room : ℕ) where
    pub lent_not : covers (numbered alphabet) lent offset start end ≡ false → Err (by 3 []) ≡ lent_at alphabet lent offset start end room
    unfolding lent_at
    lent_not h = rw (w.some, w.named, w.near, h)

    module _ (all : covers (numbered alphabet) lent offset start end ≡ true) where
      pub lent_short : room < n → Err (by 4 []) ≡ lent_at alphabet lent offset start end room
      unfolding lent_at
      lent_short h = rw (w.some, w.named, w.near, all, lt-leb (end - start) room (omega (arith, w.count)))

      pub lent_bases : n ≤ room → Ok n ≡ lent_at alphabet lent offset start end room
      unfolding lent_at
      lent_bases h = ap Ok (sym w.count) ∙ rw (w.some, w.named, w.near, all, le-leb (end - start) room (omega (arith, w.count)))

-- ---- the covered read's last question

-- an answer by the answers to all questions but the last
abbrev asked : Bool → Bool → Bool → Bool → Bool → ℕ → Result ℕ Refusal
asked some named near all space n =
    asking some named near (ask all else Err (by 3 []) then ask space else Err (by 4 []) then Ok n)

module _ (alphabet : ℕ) (lent : List ℕ) (offset start end room : ℕ) (r : Result ℕ Refusal) (e : r ≡ lent_at alphabet lent offset start end room) where
  abbrev A : Coding
  A = numbered alphabet

  told : looked_at A lent offset start end r ≡ covered_at alphabet lent offset start end room
  unfolding covered_at
  told = ap (looked_at A lent offset start end) e

  -- a refusal stays
  pub looked-refused : (q : Refusal) → r ≡ Err q → r ≡ covered_at alphabet lent offset start end room
  looked-refused q is = is ∙ ap (looked_at A lent offset start end) (sym is) ∙ told

  -- only an empty window is answered with no bases
  none : (n : ℕ) → r ≡ Ok n → n ≡ 0 → end ≤ start
  unfolding lent_at
  none n is z =
      go (ltb start end) refl (known alphabet) (in_bounds end && in_bounds offset) (covers A lent offset start end) (leb (end - start) room) (sym is ∙ e)
    where
      go : (t : Bool) → ltb start end ≡ t → (u v w x : Bool) → Ok n ≡ asked t u v w x (end - start) → end ≤ start
      go false f u v w x p = ltb-false start end f
      go true f true true true true p = absurd (omega (arith, ltb-true start end f, ap counted p))
      go true f true true true false p = let y : ◌≡◌ {A = ℕ} 0 1 = cc in absurd (omega arith)
      go true f true true false x p = let y : ◌≡◌ {A = ℕ} 0 1 = cc in absurd (omega arith)
      go true f true false w x p = let y : ◌≡◌ {A = ℕ} 0 1 = cc in absurd (omega arith)
      go true f false v w x p = let y : ◌≡◌ {A = ℕ} 0 1 = cc in absurd (omega arith)

  module _ (n : ℕ) (is : r ≡ Ok n) where
    -- bases by the answer to it
    by_codes : (t : Bool) → all_assigned A lent offset start end ≡ t
        → (ask t else Err (by 18 (first_lacking_of A lent offset start end ∷ [])) then Ok n) ≡ covered_at alphabet lent offset start end room
    by_codes t f =
        ap (λ (x : Bool). ask x else Err (by 18 (first_lacking_of A lent offset start end ∷ [])) then Ok n) (sym f)
        ∙ ap (looked_at A lent offset start end) (sym is)
        ∙ told

    pub looked-empty : n ≡ 0 → r ≡ covered_at alphabet lent offset start end room
    looked-empty z = is ∙ by_codes true (empty-assigned A lent offset start end (none n is z))

    module _ (first : ℕ) (found : first ≡ first_lacking_of A lent offset start end) where
      pub looked_lacking : first < end → Err (by 18 (first ∷ [])) ≡ covered_at alphabet lent offset start end room
      looked_lacking h =
          ap (λ (i : ℕ). Err (by 18 (i ∷ []))) found ∙ by_codes false (lt-leb end (first_lacking_of A lent offset start end) (rw (← found) h))

      pub looked_bases : end ≤ first → r ≡ covered_at alphabet lent offset start end room
      looked_bases h = is ∙ by_codes true (le-leb end (first_lacking_of A lent offset start end) (rw (← found) h))

-- an accepted covered read is answered as a zero-filling one, and leaves the same
pub covered_agrees : (alphabet : ℕ) (lent : List ℕ) (offset start end room n : ℕ)
    → covered_at alphabet lent offset start end room ≡ Ok n → read_at alphabet offset start end room ≡ Ok n
unfolding covered_at lent_at read_at
covered_agrees alphabet lent offset start end room n e =
    questions (ltb start end) (known alphabet) (in_bounds end && in_bounds offset) (covers A lent offset start end) (leb (end - start) room)
    (codes (lent_at alphabet lent offset start end room) e)
  where
    A : Coding
    A = numbered alphabet

    codes : (r : Result ℕ Refusal) → looked_at A lent offset start end r ≡ Ok n → r ≡ Ok n
    codes (Err q) f = f
    codes (Ok m) f = go (all_assigned A lent offset start end) f
      where
        go : (t : Bool) → ◌≡◌ {A = Result ℕ Refusal} (ask t else Err (by 18 (first_lacking_of A lent offset start end ∷ [])) then Ok m) (Ok n) → ◌≡◌ {A = Result ℕ Refusal} (Ok m) (Ok n)
        go true f = f
        go false f = let z : ◌≡◌ {A = ℕ} 0 1 = cc in absurd (omega arith)

    questions : (t u v w x : Bool) → asked t u v w x (end - start) ≡ Ok n
        → asking t u v (ask x else Err (by 4 []) then Ok (end - start)) ≡ Ok n
    questions false u v w x f = f
    questions true false v w x f = f
    questions true true false w x f = f
    questions true true true true x f = f
    questions true true true false x f = let z : ◌≡◌ {A = ℕ} 0 1 = cc in absurd (omega arith)

pub covered-leaves : (alphabet : ℕ) (lent : List ℕ) (offset start end : ℕ) (memory : List ℕ) (n : ℕ)
    → covered_at alphabet lent offset start end (length memory) ≡ Ok n
    → covered_memory alphabet lent offset start end memory ≡ read_memory alphabet lent offset start end memory
unfolding covered_memory read_memory
covered-leaves alphabet lent offset start end memory n e =
    ap (λ (x : Result ℕ Refusal). front (read_writes alphabet lent offset start x) memory) (e ∙ sym (covered_agrees alphabet lent offset start end (length memory) n e))

-- in every alphabet but Protein nothing is asked besides
pub other_alphabets : (alphabet : ℕ) → (kind_of alphabet ≡ Protein → ⊥) → (lent : List ℕ) (offset start end room : ℕ)
    → covered_at alphabet lent offset start end room ≡ lent_at alphabet lent offset start end room
unfolding covered_at
other_alphabets alphabet other lent offset start end room = go (lent_at alphabet lent offset start end room)
  where
    go : (r : Result ℕ Refusal) → looked_at (numbered alphabet) lent offset start end r ≡ r
    go (Err q) = refl
    go (Ok n) = rw (others_assigned (kind_of alphabet) other lent offset start end)
