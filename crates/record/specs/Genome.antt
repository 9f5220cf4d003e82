-- One alphabet for a genome, as the code finds it. States request A9, "Guess per chromosome, answer per genome", of calls: each chromosome is guessed by itself, and its
-- guess is combined with what the guesses before it came to.
use Rattle.std.specs.Prelude.{ℕ, ◌*◌, ◌<◌, ◌≤◌, ◌≡◌, Bool, length, get_or, Ok}
use mathlib.Core.List.{List, [], ◌∷◌, flatten, Perm}
use Rattle.bits.specs.Tables.{Bytes}
use Rattle.bits.specs.Packing.{bytes_for}
use Rattle.alphabet.specs.Questions.{limit, value_in}
use Rattle.alphabet.specs.Names.{number_of, numbered}
use Rattle.alphabet.specs.Answers.{named_reply}
use Rattle.record.specs.Made.{GuessCall, LaterCall, EncodeCall}
use Rattle.record.specs.Record.{alphabet_for, fold_for, text_for, before}

-- ---- calls

-- the choice to fold and the text that a guess was handed
abbrev pub fold_guessed : GuessCall → Bool
fold_guessed g = let (fold, (text, _)) = g.args in fold

abbrev pub text_guessed : GuessCall → List ℕ
text_guessed g = let (fold, (text, _)) = g.args in text.now

-- the two numbers that were combined, and the number that was told; 0 on a refusal
abbrev pub first_of : LaterCall → ℕ
first_of c = let (one, (other, _)) = c.args in one

abbrev pub second_of : LaterCall → ℕ
second_of c = let (one, (other, _)) = c.args in other

abbrev pub told_by : LaterCall → ℕ
told_by c = value_in 0 (named_reply c.result)

-- a chromosome: the call that guesses it, and the one that combines its guess
pub record Chromosome : Type 0 where
  pub guess : GuessCall
  pub later : LaterCall

-- every chromosome is guessed by one choice to fold, and its guess's number combined with the number last told
abbrev pub Follows : Bool → ℕ → List Chromosome → Type 0
Follows fold number [] = Unit {0}
Follows fold number (c ∷ cs) =
    (fold_guessed c.guess ≡ fold)
    × ((first_of c.later ≡ number) × ((second_of c.later ≡ number_of c.guess.result) × Follows fold (told_by c.later) cs))

-- a genome: a choice to fold, and chromosomes one after another
pub record Genome : Type 0 where
  pub fold : Bool
  pub chromosomes : List Chromosome
  -- from Dna2bit's number on
  pub follows : Follows fold 0 chromosomes

abbrev pub texts_of : List Chromosome → List (List ℕ)
texts_of [] = []
texts_of (c ∷ cs) = text_guessed c.guess ∷ texts_of cs

abbrev pub last_told : ℕ → List Chromosome → ℕ
last_told number [] = number
last_told number (c ∷ cs) = last_told (told_by c.later) cs

abbrev pub texts_in : Genome → List (List ℕ)
texts_in g = texts_of g.chromosomes

-- the alphabet's number that the genome comes to
abbrev pub answer_in : Genome → ℕ
answer_in g = last_told 0 g.chromosomes

-- the bytes that a text to be packed comes to
abbrev pub size_for : EncodeCall → ℕ
size_for e = bytes_for (length (text_for e) * (numbered (alphabet_for e)).width)

-- `encode_sequence` of a chromosome by the genome's alphabet and its choice
pub record PacksOne (g : Genome) (i : ℕ) (e : EncodeCall) : Type 0 where
  pub there : i < length (texts_in g)
  pub by_alphabet : alphabet_for e ≡ answer_in g
  pub by_choice : fold_for e ≡ g.fold
  pub text : text_for e ≡ get_or (texts_in g) i []
  -- of bytes, as all lent memory is
  pub bytes : Bytes (text_for e)
  pub bounded : length (text_for e) ≤ limit
  -- given enough output memory
  pub room : size_for e ≤ length (before e)

-- ---- the claim

pub record OneAlphabet : Type 0 where
  -- the answer is that of one guess, by the same choice, for all chromosomes joined, in whatever order
  pub guessed :
      (g : Genome) (texts : List (List ℕ)) →
      Perm (texts_in g) texts →
      (c : GuessCall) →
      fold_guessed c ≡ g.fold →
      text_guessed c ≡ flatten texts →
      answer_in g ≡ number_of c.result
  -- and its alphabet packs each of them: none is refused
  pub packs :
      (g : Genome) (i : ℕ) (e : EncodeCall) →
      PacksOne g i e →
      e.result ≡ Ok (size_for e)
