-- The claim of request A9 leaves no genome out: whatever texts and choice to fold are named, the contracts allow a genome of them, and each chromosome has a call that
-- packs it.
use mathlib.Core.Path.{◌≡◌, refl, sym, ap, ap₂, subst}
use mathlib.Core.Bool.{Bool}
use mathlib.Core.List.{List, [], ◌∷◌}
use Prim.Native.Nat.{ℕ, ◌*◌, ◌<◌, ◌≤◌}
use lib.ListN.{length, get_or}
use Rattle.bits.specs.Tables.{Bytes}
use Rattle.bits.specs.Packing.{bytes_for}
use Rattle.alphabet.specs.Questions.{limit}
use Rattle.alphabet.specs.Names.{number_of, numbered}
use Rattle.alphabet.specs.Guess.{guess_of}
use Rattle.alphabet.specs.Genome.{later_at}
use Rattle.alphabet.proofs.Calls.{later_told_lem}
use Rattle.record.specs.Made.{GuessCall, LaterCall, EncodeCall}
use Rattle.record.specs.Record.{before}
use Rattle.record.specs.Genome.{told_by, Chromosome, Follows, Genome, texts_of, texts_in, answer_in, PacksOne}
use Rattle.record.proofs.Every.{at_some}
use Rattle.record.proofs.EveryText.{every-encode}

abbrev made_guess : Bool → List ℕ → GuessCall
made_guess fold text =
    record { κs = ([], tt); args = (fold, (at_some text, tt)); result = guess_of fold text; exit = (fold, (at_some text, tt)); met = refl }

abbrev made_later : ℕ → ℕ → LaterCall
made_later one other =
    record { κs = tt; args = (one, (other, tt)); result = later_at one other; exit = (one, (other, tt)); met = (refl, later_told_lem one other) }

-- each chromosome, behind a number last told
abbrev made_one : Bool → ℕ → List ℕ → Chromosome
made_one fold number text = record { guess = made_guess fold text; later = made_later number (number_of (guess_of fold text)) }

made : Bool → ℕ → List (List ℕ) → List Chromosome
made fold number [] = []
made fold number (text ∷ texts) = made_one fold number text ∷ made fold (told_by (made_one fold number text).later) texts

made_follows : (fold : Bool) (number : ℕ) (texts : List (List ℕ)) → Follows fold number (made fold number texts)
unfolding made
made_follows fold number [] = tt
made_follows fold number (text ∷ texts) = (refl, (refl, (refl, made_follows fold (told_by (made_one fold number text).later) texts)))

made_texts : (fold : Bool) (number : ℕ) (texts : List (List ℕ)) → texts_of (made fold number texts) ≡ texts
unfolding made
made_texts fold number [] = refl
made_texts fold number (text ∷ texts) = ap (λ (ts : List (List ℕ)). text ∷ ts) (made_texts fold (told_by (made_one fold number text).later) texts)

pub every_genome : (fold : Bool) (texts : List (List ℕ)) → (g : Genome) × ((g.fold ≡ fold) × (texts_in g ≡ texts))
every_genome fold texts = (record { fold = fold; chromosomes = made fold 0 texts; follows = made_follows fold 0 texts }, (refl, made_texts fold 0 texts))

-- a call that packs chromosome i, whatever memory is long enough
pub every_packing : (g : Genome) (i : ℕ) (memory : List ℕ) → i < length (texts_in g) → Bytes (get_or (texts_in g) i []) → length (get_or (texts_in g) i []) ≤ limit
    → bytes_for (length (get_or (texts_in g) i []) * (numbered (answer_in g)).width) ≤ length memory → (e : EncodeCall) × (PacksOne g i e × (before e ≡ memory))
every_packing g i memory there bytes bounded room =
    let (e, (alphabet, (choice, (text, lent)))) = every-encode (answer_in g) g.fold (get_or (texts_in g) i []) memory in (
      e,
      (
        record {
          there = there;
          by_alphabet = alphabet;
          by_choice = choice;
          text = text;
          bytes = subst Bytes (sym text) bytes;
          bounded = subst (λ (t : List ℕ). length t ≤ limit) (sym text) bounded;
          room = subst (λ (n : ℕ). n ≤ length (before e)) (sym (ap₂ (λ (t : List ℕ) (n : ℕ). bytes_for (length t * (numbered n).width)) text alphabet))
              (subst (λ (m : List ℕ). bytes_for (length (get_or (texts_in g) i []) * (numbered (answer_in g)).width) ≤ length m) (sym lent) room);
        },
        lent,
      ),
    )
