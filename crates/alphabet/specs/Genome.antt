-- One alphabet for a genome. States request A9, "Guess per chromosome, answer per genome": the later of two alphabets, what the guesses of a list of texts come to,
-- and the claim about texts.
use Rattle.std.specs.Prelude.{◌≡◌, ℕ, ◌<◌, Bool, true, cond, ◌&&◌, List, [], ◌++◌, map, length, nat_le, slice_index_or, Result, Ok, Err}
use mathlib.Core.List.{foldl, flatten, Perm}
use Rattle.bits.specs.Tables.{Bytes}
use Rattle.alphabet.specs.declared.refusal.Refusal.{Refusal}
use Rattle.alphabet.specs.Questions.{ask◌else◌then◌, by}
use Rattle.alphabet.specs.Names.{number_of, known, kind_of}
use Rattle.alphabet.specs.Guess.{guess_of, holds_all}
use Rattle.alphabet.specs.declared.kind.AlphabetType.{AlphabetType}
use Rattle.alphabet.specs.declared.kind.AlphabetType.TheVariants.{Dna2bit}

-- the later of two in the alphabet order, which is that of the numbers
unfoldable pub later : AlphabetType → AlphabetType → AlphabetType
later one other = cond (nat_le (number_of one) (number_of other)) other one

-- `later_alphabet`: question 1 is asked of both numbers
unfoldable pub later_at : ℕ → ℕ → Result AlphabetType Refusal
later_at one other =
    ask known one && known other else Err (by 8 []) then
    Ok (later (kind_of one) (kind_of other))

-- what a list of guesses comes to: one after another, from Dna2bit on
unfoldable pub latest : List AlphabetType → AlphabetType
latest guesses = foldl later Dna2bit guesses

-- ---- the claim, for texts that are all guessed by one choice to fold

pub record Combining (fold : Bool) : Type 0 where
  -- the guess for one text followed by another is the later of the two guesses
  pub joined : (a b : List ℕ) → guess_of fold (a ++ b) ≡ later (guess_of fold a) (guess_of fold b)
  -- each guess being one of the five that the guesser tries
  pub five : (text : List ℕ) → Bytes text → number_of (guess_of fold text) < 5
  -- this combining is associative and commutative, over all six kinds
  pub associative : (j k l : AlphabetType) → later (later j k) l ≡ later j (later k l)
  pub commutative : (j k : AlphabetType) → later j k ≡ later k j
  -- a guess combined with itself is unchanged
  pub unchanged : (k : AlphabetType) → later k k ≡ k
  -- Dna2bit is its neutral member, and the guess for no text
  pub neutral : (k : AlphabetType) → (later Dna2bit k ≡ k) × (later k Dna2bit ≡ k)
  pub empty : guess_of fold [] ≡ Dna2bit
  -- the guess of a list of texts joined is what their guesses come to, in whatever order these are taken
  pub genome : (texts : List (List ℕ)) (guesses : List AlphabetType) → Perm (map (guess_of fold) texts) guesses → guess_of fold (flatten texts) ≡ latest guesses
  -- an alphabet holds a text exactly when it is the text's guess, or later
  pub holding : (text : List ℕ) → Bytes text → (k : AlphabetType) → holds_all fold k text ≡ nat_le (number_of (guess_of fold text)) (number_of k)
  -- so what the guesses come to holds each of the texts
  pub each : (texts : List (List ℕ)) (i : ℕ) → i < length texts → Bytes (slice_index_or texts i []) → holds_all fold (latest (map (guess_of fold) texts)) (slice_index_or texts i []) ≡ true
