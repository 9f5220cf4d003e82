-- Request A9, of calls: what the guesses of a genome's chromosomes come to, one after another, is the guess of all of them joined, and packs each.
use Rattle.std.proofs.Common.{Result, Ok}
use mathlib.Core.Path.{◌≡◌, refl, sym, ap, ap₂, subst, ◌∙◌}
use mathlib.Core.Bool.{Bool, true}
use mathlib.Core.List.Perm
use mathlib.Core.List.{List, [], ◌∷◌, ◌++◌, map, flatten, append_assoc, append-nil, Perm}
use Prim.Native.Nat.{ℕ, ◌<◌}
use native.Mathlib.Omega.{arith}
use lib.ListN.{length, get_or}
use Rattle.bits.specs.Tables.{Bytes}
use Rattle.alphabet.specs.declared.kind.AlphabetType.{AlphabetType}
use Rattle.alphabet.specs.Questions.{value_in}
use Rattle.alphabet.specs.Symbols.{Coding, coding_by}
use Rattle.alphabet.specs.Names.{number_of, known, kind_of, numbered_by}
use Rattle.alphabet.specs.Answers.{named_reply}
use Rattle.alphabet.specs.Guess.{guess_of}
use Rattle.alphabet.specs.Genome.{later_at, latest}
use Rattle.alphabet.proofs.Calls.{kind_number, known_number, later-kinds, held-members}
use Rattle.alphabet.proofs.Combining.{combining}
use Rattle.packing.specs.Encode.{packing}
use Rattle.record.specs.Texts.{Members}
use Rattle.record.specs.Made.{GuessCall, LaterCall, EncodeCall}
use Rattle.record.specs.Record.{alphabet_for, fold_for, text_for, before}
use Rattle.record.specs.Genome.{fold_guessed, text_guessed, first_of, second_of, told_by, Chromosome, Follows, Genome}
use Rattle.record.specs.Genome.{texts_of, last_told, texts_in, answer_in, size_for, PacksOne, OneAlphabet}
use Rattle.record.proofs.Tallies.{length-packing}
use Rattle.record.proofs.AtOnce.{encode-packed}
use Rattle.alphabet.specs.declared.refusal.Refusal.{Refusal}

-- ---- the calls, by their contracts

guess_is : (c : GuessCall) → c.result ≡ guess_of (fold_guessed c) (text_guessed c)
guess_is c = c.met

-- combined with the guess of a text so far, the guess of another tells that of both
tells : (fold : Bool) (done text : List ℕ) (c : LaterCall) → first_of c ≡ number_of (guess_of fold done) → second_of c ≡ number_of (guess_of fold text)
    → told_by c ≡ number_of (guess_of fold (done ++ text))
tells fold done text c e f =
    ap (λ (r : Result AlphabetType Refusal). value_in 0 (named_reply r)) (c.met.0 ∙ ap₂ later_at e f ∙ later-kinds (guess_of fold done) (guess_of fold text))
    ∙ ap number_of (sym ((combining fold).joined done text))

all_told : (fold : Bool) (done : List ℕ) (cs : List Chromosome) → Follows fold (number_of (guess_of fold done)) cs
    → last_told (number_of (guess_of fold done)) cs ≡ number_of (guess_of fold (done ++ flatten (texts_of cs)))
unfolding flatten
all_told fold done [] f = ap (λ (t : List ℕ). number_of (guess_of fold t)) (sym (append-nil done))
all_told fold done (c ∷ cs) (choice, (one, (other, rest))) =
    let text : List ℕ = text_guessed c.guess in
    let guess : c.guess.result ≡ guess_of fold text = guess_is c.guess ∙ ap (λ (f : Bool). guess_of f text) choice in
    let told : told_by c.later ≡ number_of (guess_of fold (done ++ text)) = tells fold done text c.later one (other ∙ ap number_of guess) in
    ap (λ (n : ℕ). last_told n cs) told
    ∙ all_told fold (done ++ text) cs (subst (λ (n : ℕ). Follows fold n cs) told rest)
    ∙ ap (λ (t : List ℕ). number_of (guess_of fold t)) (append_assoc done text (flatten (texts_of cs)))

-- a genome's answer is the number of the guess of all texts joined
answer_is : (g : Genome) → answer_in g ≡ number_of (guess_of g.fold (flatten (texts_in g)))
answer_is g =
    let fold : Bool = g.fold in
    let start : 0 ≡ number_of (guess_of fold []) = ap number_of (sym (combining fold).empty) in
    ap (λ (n : ℕ). last_told n g.chromosomes) start ∙ all_told fold [] g.chromosomes (subst (λ (n : ℕ). Follows fold n g.chromosomes) start g.follows)

-- ---- the claim

-- whatever the order
same_guess : (fold : Bool) (texts others : List (List ℕ)) → Perm texts others → guess_of fold (flatten texts) ≡ guess_of fold (flatten others)
same_guess fold texts others p =
    (combining fold).genome texts (map (guess_of fold) others) (Perm.map (guess_of fold) p) ∙ sym ((combining fold).genome others (map (guess_of fold) others) (Perm.refl _))

-- the answer's alphabet holds each text
members : (g : Genome) (i : ℕ) → i < length (texts_in g) → Bytes (get_or (texts_in g) i []) → Members (numbered_by g.fold (answer_in g)) (get_or (texts_in g) i [])
members g i h bytes =
    let fold : Bool = g.fold in
    let k : AlphabetType = latest (map (guess_of fold) (texts_in g)) in
    let is : kind_of (answer_in g) ≡ k =
    ap kind_of (answer_is g) ∙ kind_number (guess_of fold (flatten (texts_in g))) ∙ (combining fold).genome (texts_in g) _ (Perm.refl _) in
    subst (λ (j : AlphabetType). Members (coding_by fold j) (get_or (texts_in g) i [])) (sym is)
    (held-members fold k (get_or (texts_in g) i []) ((combining fold).each (texts_in g) i h bytes))

pub one_alphabet : OneAlphabet
one_alphabet = record { guessed = guessed; packs = packs }
  where
    guessed : (g : Genome) (texts : List (List ℕ)) → Perm (texts_in g) texts → (c : GuessCall) → fold_guessed c ≡ g.fold → text_guessed c ≡ flatten texts
        → answer_in g ≡ number_of c.result
    guessed g texts p c choice text =
        answer_is g ∙ ap number_of (same_guess g.fold (texts_in g) texts p ∙ ap₂ guess_of (sym choice) (sym text) ∙ sym (guess_is c))

    packs : (g : Genome) (i : ℕ) (e : EncodeCall) → PacksOne g i e → e.result ≡ Ok (size_for e)
    packs g i e one =
        let bytes : Bytes (get_or (texts_in g) i []) = subst Bytes one.text one.bytes in
        let A : Coding = numbered_by (fold_for e) (alphabet_for e) in
        let held : Members A (text_for e) =
        subst (λ (t : List ℕ). Members A t) (sym one.text)
        (subst (λ (n : ℕ). Members (numbered_by (fold_for e) n) (get_or (texts_in g) i [])) (sym one.by_alphabet)
        (subst (λ (f : Bool). Members (numbered_by f (answer_in g)) (get_or (texts_in g) i [])) (sym one.by_choice) (members g i one.there bytes))) in
        let packed : List ℕ = packing A (text_for e) in
        let long : length packed ≡ size_for e = length-packing A (text_for e) in
        e.met.0
        ∙ (encode-packed (alphabet_for e) (fold_for e) (text_for e) packed (before e)
        (record {
          has_alphabet = subst (λ (n : ℕ). known n ≡ true) (sym (one.by_alphabet ∙ answer_is g)) (known_number (guess_of g.fold (flatten (texts_in g))));
          members = held;
          bounded = one.bounded;
          counted = long;
          packs = refl;
        })
        (omega (arith, long, one.room))).0
        ∙ ap Ok long
