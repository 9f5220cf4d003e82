-- The laws of the calls: what an answer tells by number, and the guesser's calls one after another.
use Rattle.std.proofs.Common.{◌≡◌, ℕ, zero, suc, ◌<◌, ◌≤◌, max, Bool, true, false, cond, ◌&&◌, eqb, leb, List, [], ◌∷◌, ◌++◌, length, get_or}
use Rattle.std.proofs.Common.{Result, Ok, Err, replicate, sym, refl, ap, ◌∙◌, subst, ap₂, true≢false, le_of_suc-le-suc, not-suc-le-zero, arith, lit≤, eqb-true, le-leb}
use Rattle.std.proofs.Common.{leb-false, leb-true}
use mathlib.Core.Option.{some, some-injective, none-ne-some}
use borrow.Author.Tests.{lt-leb}
use denote.Enum.Declared.{tag_of}
use lib.Count.{count_trailing_zeros}
use lib.ListN.{get_or-eq_default}
use Rattle.alphabet.specs.Symbols.{canon, folded, folds, coding_by}
use Rattle.bits.specs.Tables.{at, tabulate, Bytes, bytes_of}
use Rattle.bits.proofs.Tabulated.{is_tabulate, get_d_tabulate, tabulate_ext, replicate-tabulate}
use Rattle.bits.proofs.Computed.{both_true}
use Rattle.alphabet.specs.Questions.{ask◌else◌then◌, Reply, accepted, refused, refusal_reply, refusals, tells, first_telling, by, number_in}
use Rattle.alphabet.specs.declared.refusal.Refusal.{Refusal}
use Rattle.alphabet.specs.declared.refusal.Refused.{Refused}
use Rattle.alphabet.specs.Refusing.{◌keeping◌}
use Rattle.alphabet.specs.declared.refusal.Refusal.TheVariants.{Unsound, TooFar, Uncovered, ShortMemory, NonMember, BadSkip, Outstanding, NoAlphabet, TooWide, NoSymbol}
use Rattle.alphabet.specs.Names.{display_name_of, kinds, number_of, known, kind_of, named_at}
use Rattle.alphabet.specs.Guess.{order, masked, lowest, guess_of, holds_all, fresh_guesser, sound_guesser, guesser_after, guesser_update_at, guess_at}
use Rattle.alphabet.specs.Genome.{later, later_at}
use Rattle.alphabet.specs.Answers.{named_reply, named_told, later_told, fold_number, guesser_updated_reply, guesser_update_told, guessed_reply, guess_told}
use Rattle.alphabet.specs.declared.kind.AlphabetType.{AlphabetType}
use Rattle.alphabet.specs.declared.kind.AlphabetType.TheVariants.{Dna2bit, Dna3bit, DnaIupac, Protein, Ascii, Unknown}
use Rattle.alphabet.specs.declared.guesser.AlphabetGuesser.{AlphabetGuesser}
use Rattle.alphabet.specs.contracts.kind.AlphabetType.{the_type}
use Rattle.alphabet.proofs.Laws.{folded-append, folded_bytes}
use Rattle.alphabet.proofs.Folding.{canon_lt}
use Rattle.alphabet.proofs.Masks.{masked-append, masked_le, masked_sound, zeros_lt, guess_holds}

-- ---- refusals

-- a refusal's values
abbrev pub values_in : Reply → List ℕ
values_in (accepted values) = []
values_in (refused number values) = values

pub is_refused : (q : Refusal) → refusal_reply q ≡ refused (number_in (refusal_reply q)) (values_in (refusal_reply q))
is_refused Unsound = refl
is_refused TooFar = refl
is_refused Uncovered = refl
is_refused ShortMemory = refl
is_refused (NonMember position byte count) = refl
is_refused BadSkip = refl
is_refused (Outstanding bases) = refl
is_refused NoAlphabet = refl
is_refused TooWide = refl
is_refused (NoSymbol base) = refl

-- it is the one that its number and values give: no two have one number
pub by_itself : (q : Refusal) → let values = values_in (refusal_reply q) in first_telling (number_in (refusal_reply q)) values (refusals values) ≡ some q
by_itself Unsound = refl
by_itself TooFar = refl
by_itself Uncovered = refl
by_itself ShortMemory = refl
by_itself (NonMember position byte count) = refl
by_itself BadSkip = refl
by_itself (Outstanding bases) = refl
by_itself NoAlphabet = refl
by_itself TooWide = refl
by_itself (NoSymbol base) = refl

-- as many values as a refusal has are its values
abbrev Made : List ℕ → Refusal → Type 0
Made values q = length values ≡ length (values_in (refusal_reply q)) → values_in (refusal_reply q) ≡ values

-- a list of n values, written out
these : (n : ℕ) (values : List ℕ) → length values ≡ n → tabulate n (at values) ≡ values
these n values e = sym (is_tabulate n (at values) 0 values e (λ i h. refl))

abbrev Each : (Refusal → Type 0) → List Refusal → Type 0
Each P [] = Unit {0}
Each P (q ∷ others) = P q × Each P others

all_made : (values : List ℕ) → Each (Made values) (refusals values)
unfolding tabulate
all_made values =
    let none = these 0 values in (none, (none, (none, (none, (these 3 values, (none, (these 1 values, (none, (none, (these 1 values, tt))))))))))

-- the refusal that definitions write by a number and its values tells just these
pub by_told : (number : ℕ) (values : List ℕ) (q : Refusal) → first_telling number values (refusals values) ≡ some q → refusal_reply q ≡ refused number values
by_told number values q = in_list (refusals values) (all_made values)
  where
    here : (p : Refusal) → Made values p → tells number values (refusal_reply p) ≡ true → refusal_reply p ≡ refused number values
    here p made e =
        let other : ℕ = number_in (refusal_reply p) in
        let others : List ℕ = values_in (refusal_reply p) in
        let same : eqb number other && eqb (length values) (length others) ≡ true = sym (ap (tells number values) (is_refused p)) ∙ e in
        let t = both_true (eqb number other) (eqb (length values) (length others)) same in
        is_refused p ∙ ap₂ refused (sym (eqb-true number other t.0)) (made (eqb-true (length values) (length others) t.1))

    in_list : (ps : List Refusal) → Each (Made values) ps → first_telling number values ps ≡ some q → refusal_reply q ≡ refused number values
    in_list [] m e = absurd (none-ne-some q e)
    in_list (p ∷ ps) m e = go (tells number values (refusal_reply p)) refl e (in_list ps m.1)
      where
        go : (b : Bool) → tells number values (refusal_reply p) ≡ b → cond b (some p) (first_telling number values ps) ≡ some q
            → (first_telling number values ps ≡ some q → refusal_reply q ≡ refused number values) → refusal_reply q ≡ refused number values
        go true w f ih = subst (λ (x : Refusal). refusal_reply x ≡ refused number values) (some-injective p q f) (here p m.0 w)
        go false w f ih = ih f

-- ---- numbers of alphabets

-- a known number's kind has that number
pub number_kind : (n : ℕ) → n ≤ 5 → number_of (kind_of n) ≡ n
unfolding kind_of
number_kind zero h = refl
number_kind (suc zero) h = refl
number_kind (suc (suc zero)) h = refl
number_kind (suc (suc (suc zero))) h = refl
number_kind (suc (suc (suc (suc zero)))) h = refl
number_kind (suc (suc (suc (suc (suc zero))))) h = refl
number_kind (suc (suc (suc (suc (suc (suc n)))))) h = absurd (omega arith)

-- and a kind's number names that kind
pub kind_number : (k : AlphabetType) → kind_of (number_of k) ≡ k
unfolding kind_of
kind_number Dna2bit = refl
kind_number Dna3bit = refl
kind_number DnaIupac = refl
kind_number Protein = refl
kind_number Ascii = refl
kind_number Unknown = refl

-- a kind's place in the enum: what the arm of a choice that has several kinds is told of
abbrev pub place_of : AlphabetType → ℕ
place_of = tag_of the_type

pub known_number : (k : AlphabetType) → known (number_of k) ≡ true
known_number Dna2bit = refl
known_number Dna3bit = refl
known_number DnaIupac = refl
known_number Protein = refl
known_number Ascii = refl
known_number Unknown = refl

-- a number that names none counts as Unknown
pub unknown_kind : (n : ℕ) → known n ≡ false → kind_of n ≡ Unknown
unfolding kind_of
unknown_kind n e =
    let past : 6 ≤ n = omega (arith, leb-false n 5 e) in
    get_or-eq_default kinds Unknown past

-- a place in the order is the number of the alphabet there
order_number : (n : ℕ) → n < 5 → number_of (get_or order n Unknown) ≡ n
order_number zero h = refl
order_number (suc zero) h = refl
order_number (suc (suc zero)) h = refl
order_number (suc (suc (suc zero))) h = refl
order_number (suc (suc (suc (suc zero)))) h = refl
order_number (suc (suc (suc (suc (suc n))))) h = absurd (omega arith)

-- what the answer to a number says of it
pub named_kind : (n : ℕ) (k : AlphabetType) → named_at n ≡ Ok k → (known n ≡ true) × (kind_of n ≡ k)
unfolding named_at
named_kind n k e = go (known n) e
  where
    go : (b : Bool) → (ask b else Err (by 8 []) then Ok (kind_of n)) ≡ Ok k → (b ≡ true) × (kind_of n ≡ k)
    go true q = (refl, cc)
    go false q = absurd (let z : ◌≡◌ {A = ℕ} 0 1 = cc in omega arith)

pub named-refused : (n : ℕ) (q : Refusal) → named_at n ≡ Err q → (known n ≡ false) × (q ≡ by 8 [])
unfolding named_at
named-refused n q e = go (known n) e
  where
    go : (b : Bool) → (ask b else Err (by 8 []) then Ok (kind_of n)) ≡ Err q → (b ≡ false) × (q ≡ by 8 [])
    go true e = absurd (let z : ◌≡◌ {A = ℕ} 0 1 = cc in omega arith)
    go false e = (refl, cc)

-- no two kinds have one number
pub same_kind : (j k : AlphabetType) → number_of j ≡ number_of k → j ≡ k
same_kind j k e = sym (kind_number j) ∙ ap kind_of e ∙ kind_number k

-- ---- the later of two

-- its number is the greater
pub later-max : (j k : AlphabetType) → number_of (later j k) ≡ max (number_of j) (number_of k)
unfolding later
later-max j k = go (leb (number_of j) (number_of k)) refl
  where
    go : (b : Bool) → leb (number_of j) (number_of k) ≡ b → number_of (cond b k j) ≡ max (number_of j) (number_of k)
    go true e = omega (arith, leb-true (number_of j) (number_of k) e)
    go false e = omega (arith, leb-false (number_of j) (number_of k) e)

-- the greater of two numbers names an alphabet exactly where both do
known_max : (one other : ℕ) → known one && known other ≡ known (max one other)
known_max one other = go (known one) refl (known other) refl
  where
    go : (a : Bool) → known one ≡ a → (b : Bool) → known other ≡ b → a && b ≡ known (max one other)
    go true p true q = sym (le-leb (max one other) 5 (omega (arith, leb-true one 5 p, leb-true other 5 q)))
    go true p false q = sym (lt-leb (max one other) 5 (omega (arith, leb-false other 5 q)))
    go false p b q = sym (lt-leb (max one other) 5 (omega (arith, leb-false one 5 p)))

-- and then it names the later one
pub later-named : (one other : ℕ) → later_at one other ≡ named_at (max one other)
unfolding later_at named_at
later-named one other =
    go (known one && known other) refl ∙ ap (λ (b : Bool). ask b else Err (by 8 []) then Ok (kind_of (max one other))) (known_max one other)
  where
    kind : one ≤ 5 → other ≤ 5 → later (kind_of one) (kind_of other) ≡ kind_of (max one other)
    kind h l =
        same_kind _ _
        (later-max (kind_of one) (kind_of other) ∙ ap₂ max (number_kind one h) (number_kind other l) ∙ sym (number_kind (max one other) (omega arith)))

    go : (b : Bool) → known one && known other ≡ b
        → (ask b else Err (by 8 []) then Ok (later (kind_of one) (kind_of other)))
        ≡ (ask b else Err (by 8 []) then Ok (kind_of (max one other)))
    go true e = let p = both_true (known one) (known other) e in ap Ok (kind (leb-true one 5 p.0) (leb-true other 5 p.1))
    go false e = refl

-- of two kinds' numbers it tells the later kind
pub later-kinds : (j k : AlphabetType) → later_at (number_of j) (number_of k) ≡ Ok (later j k)
unfolding later_at
later-kinds j k = rw (known_number j, known_number k, kind_number j, kind_number k)

-- ---- names

pub record Names : Type 0 where
  pub of_dna2bit : display_name_of Dna2bit ≡ bytes_of "dna2bit"
  pub of_dna3bit : display_name_of Dna3bit ≡ bytes_of "dna3bit"
  pub of_dna_iupac : display_name_of DnaIupac ≡ bytes_of "dnaio"
  pub of_protein : display_name_of Protein ≡ bytes_of "protein"
  pub of_ascii : display_name_of Ascii ≡ bytes_of "ASCII"
  pub of_unknown : display_name_of Unknown ≡ bytes_of "Unknown"

pub names : Names
unfolding display_name_of
names = record { of_dna2bit = refl; of_dna3bit = refl; of_dna_iupac = refl; of_protein = refl; of_ascii = refl; of_unknown = refl }

-- ---- what answers tell

-- a number's kind
pub named_told_lem : (n : ℕ) → named_reply (named_at n) ≡ named_told n
unfolding named_at
named_told_lem n = go (known n) refl
  where
    go : (b : Bool) → leb n 5 ≡ b → named_reply (ask b else Err (by 8 []) then Ok (kind_of n)) ≡ (ask b else refused 8 [] then accepted (n ∷ []))
    go true e = ap (λ (x : ℕ). accepted (x ∷ [])) (number_kind n (leb-true n 5 e))
    go false e = refl

-- `later_alphabet`
pub later_told_lem : (one other : ℕ) → named_reply (later_at one other) ≡ later_told one other
later_told_lem one other =
    ap named_reply (later-named one other)
    ∙ named_told_lem (max one other)
    ∙ ap (λ (b : Bool). ask b else refused 8 [] then accepted (max one other ∷ [])) (sym (known_max one other))

-- the guesser's `update`
pub update_told : (g : AlphabetGuesser) (text : List ℕ) → guesser_updated_reply (guesser_update_at g text) ≡ guesser_update_told g text
unfolding guesser_update_at
update_told g text = go (sound_guesser g)
  where
    m : ℕ
    m = masked g.acc (folded g.fold text)

    go : (b : Bool) → guesser_updated_reply (ask b else Err (by 1 [] keeping g) then Ok (guesser_after g text))
        ≡ (ask b else refused 1 [] then accepted (m ∷ fold_number g.fold ∷ []))
    go true = refl
    go false = refl

-- a sound mask is 16 to 31
pub sound_range : (g : AlphabetGuesser) → sound_guesser g ≡ true → (16 ≤ g.acc) × (g.acc ≤ 31)
unfolding sound_guesser
sound_range g e = go (leb 16 g.acc) refl (leb g.acc 31) refl e
  where
    go : (a : Bool) → leb 16 g.acc ≡ a → (b : Bool) → leb g.acc 31 ≡ b → a && b ≡ true → (16 ≤ g.acc) × (g.acc ≤ 31)
    go true p true q e = (leb-true 16 g.acc p, leb-true g.acc 31 q)
    go true p false q e = absurd (true≢false (sym e))
    go false p b q e = absurd (true≢false (sym e))

pub range_sound : (g : AlphabetGuesser) → 16 ≤ g.acc → g.acc ≤ 31 → sound_guesser g ≡ true
unfolding sound_guesser
range_sound g h l = simp (le-leb 16 g.acc h, le-leb g.acc 31 l)

-- the guesser's `guess`
pub guess_told_lem : (g : AlphabetGuesser) → guessed_reply (guess_at g) ≡ guess_told g
unfolding guess_at lowest
guess_told_lem g = go (sound_guesser g) refl
  where
    n : ℕ
    n = count_trailing_zeros 8 g.acc

    go : (b : Bool) → sound_guesser g ≡ b
        → guessed_reply (ask b else Err (by 1 [] keeping g) then Ok (get_or order n Unknown)) ≡ (ask b else refused 1 [] then accepted (n ∷ []))
    go true e =
        let r = sound_range g e in
        ap (λ (x : ℕ). accepted (x ∷ [])) (order_number n (zeros_lt g.acc r.0 r.1))
    go false e = refl

-- ---- the guesser's calls

-- a sound state's answers
pub update_sound : (g : AlphabetGuesser) (text : List ℕ) → sound_guesser g ≡ true → guesser_update_at g text ≡ Ok (guesser_after g text)
unfolding guesser_update_at
update_sound g text e = rw e

pub update_unsound : (g : AlphabetGuesser) (text : List ℕ) → sound_guesser g ≡ false → guesser_update_at g text ≡ Err (by 1 [] keeping g)
unfolding guesser_update_at
update_unsound g text e = rw e

pub guess_unsound : (g : AlphabetGuesser) → sound_guesser g ≡ false → guess_at g ≡ Err (by 1 [] keeping g)
unfolding guess_at
guess_unsound g e = rw e

pub guess_sound : (g : AlphabetGuesser) → sound_guesser g ≡ true → guess_at g ≡ Ok (lowest g.acc)
unfolding guess_at
guess_sound g e = rw e

-- both clauses of a contract follow from the first
pub named-whole : (r : Result AlphabetType Refusal) (n : ℕ) → r ≡ named_at n → (r ≡ named_at n) × (named_reply r ≡ named_told n)
named-whole r n e = (e, ap named_reply e ∙ named_told_lem n)

pub later-whole : (r : Result AlphabetType Refusal) (one other greater : ℕ) → max one other ≡ greater → r ≡ named_at greater → (r ≡ later_at one other) × (named_reply r ≡ later_told one other)
later-whole r one other greater m e =
    let is : r ≡ later_at one other = e ∙ ap named_at (sym m) ∙ sym (later-named one other) in
    (is, ap named_reply is ∙ later_told_lem one other)

pub update-whole : (r : Result AlphabetGuesser (Refused AlphabetGuesser)) (g : AlphabetGuesser) (text : List ℕ) → r ≡ guesser_update_at g text
    → (r ≡ guesser_update_at g text) × (guesser_updated_reply r ≡ guesser_update_told g text)
update-whole r g text e = (e, ap guesser_updated_reply e ∙ update_told g text)

pub guess-whole : (r : Result AlphabetType (Refused AlphabetGuesser)) (g : AlphabetGuesser) → r ≡ guess_at g → (r ≡ guess_at g) × (guessed_reply r ≡ guess_told g)
guess-whole r g e = (e, ap guessed_reply e ∙ guess_told_lem g)

-- a sound state stays sound
pub stays_sound : (g : AlphabetGuesser) (text : List ℕ) → Bytes text → sound_guesser g ≡ true → sound_guesser (guesser_after g text) ≡ true
stays_sound g text bytes e =
    let r = sound_range g e in
    let given : List ℕ = folded g.fold text in
    range_sound (guesser_after g text) (masked_sound g.acc given (folded_bytes g.fold text bytes) r.0 r.1) (omega (arith, masked_le g.acc given, r.1))

-- an update by a piece and then by another is one by the two joined
pub update-pieces : (g : AlphabetGuesser) (a b : List ℕ) → Bytes a → sound_guesser g ≡ true → guesser_update_at (guesser_after g a) b ≡ guesser_update_at g (a ++ b)
update-pieces g a b bytes e =
    let both : masked g.acc (folded g.fold (a ++ b)) ≡ masked (masked g.acc (folded g.fold a)) (folded g.fold b) =
    ap (masked g.acc) (folded-append g.fold a b) ∙ masked-append g.acc (folded g.fold a) (folded g.fold b) in
    update_sound (guesser_after g a) b (stays_sound g a bytes e)
    ∙ ap (λ (m : ℕ). Ok (record { acc = m; fold = g.fold })) (sym both)
    ∙ sym (update_sound g (a ++ b) e)

-- a fresh guesser takes any text, and then guesses as `guess_alphabet`
module _ (fold : Bool) (text : List ℕ) (bytes : Bytes text) where
  abbrev pub after_text : AlphabetGuesser
  after_text = record { acc = masked 31 (folded fold text); fold = fold }

  fresh_sound : sound_guesser (fresh_guesser fold) ≡ true
  unfolding fresh_guesser
  fresh_sound = range_sound (fresh_guesser fold) (lit≤ tt) (lit≤ tt)

  pub fresh-update : (u : Result AlphabetGuesser (Refused AlphabetGuesser)) (g : AlphabetGuesser) → g ≡ fresh_guesser fold → u ≡ guesser_update_at g text → u ≡ Ok after_text
  unfolding fresh_guesser
  fresh-update u g e f = f ∙ ap (λ (x : AlphabetGuesser). guesser_update_at x text) e ∙ update_sound (fresh_guesser fold) text fresh_sound

  pub fresh-guess : (u : Result AlphabetType (Refused AlphabetGuesser)) (g : AlphabetGuesser) → g ≡ after_text → u ≡ guess_at g → u ≡ Ok (guess_of fold text)
  unfolding fresh_guesser guess_of
  fresh-guess u g e f = f ∙ ap guess_at e ∙ guess_sound after_text (stays_sound (fresh_guesser fold) text bytes fresh_sound)

-- each byte of a text that an alphabet holds is a member
pub held-members : (fold : Bool) (k : AlphabetType) (text : List ℕ) → holds_all fold k text ≡ true → (j : ℕ) → j < length text → (coding_by fold k).member (at text j) ≡ true
unfolding holds_all
held-members fold k [] e j h = absurd (not-suc-le-zero h)
held-members fold k (v ∷ text) e zero h = (both_true ((coding_by fold k).member v) (holds_all fold k text) e).0
held-members fold k (v ∷ text) e (suc j) h = held-members fold k text (both_true ((coding_by fold k).member v) (holds_all fold k text) e).1 j (le_of_suc-le-suc h)

-- so every byte of a text is a member of the guessed alphabet, where it is packed by the choice that it was guessed by
pub guess-members : (fold : Bool) (text : List ℕ) → Bytes text → (j : ℕ) → j < length text → (coding_by fold (guess_of fold text)).member (at text j) ≡ true
guess-members fold text bytes = held-members fold (guess_of fold text) text (guess_holds fold text bytes)

-- ---- tables

-- an alphabet's codes, laid into a table of one entry: each byte that stands for no symbol has that
pub codes_over : (fold : Bool) (k : AlphabetType) (other : ℕ) (table : List ℕ) → table ≡ replicate 256 other
    → tabulate 256 (λ v. cond ((coding_by fold k).member v) ((coding_by fold k).code v) (at table (canon (fold && folds k) v)))
    ≡ tabulate 256 (λ v. cond ((coding_by fold k).member v) ((coding_by fold k).code v) other)
codes_over fold k other table t =
    let f : Bool = fold && folds k in
    tabulate_ext 256 (λ v. cond ((coding_by fold k).member v) ((coding_by fold k).code v) (at table (canon f v)))
    (λ v. cond ((coding_by fold k).member v) ((coding_by fold k).code v) other)
    (λ v h.
    ap (cond ((coding_by fold k).member v) ((coding_by fold k).code v))
    (ap (λ (l : List ℕ). at l (canon f v)) (t ∙ replicate-tabulate 256 other) ∙ get_d_tabulate 256 (λ i. other) (canon f v) 0 (canon_lt f v h)))

-- ---- an answer is one of its cases

pub ok_only : {A B : Type 0} {r : Result A B} {a : A} {b : B} → r ≡ Ok a → r ≡ Err b → ⊥
ok_only e f = let z : ◌≡◌ {A = ℕ} 0 1 = cc in omega arith

pub ok_same : {A B : Type 0} {r : Result A B} {a b : A} → r ≡ Ok a → r ≡ Ok b → a ≡ b
ok_same e f = cc
