-- Without folding all is as before: what request A1 gave the choice to is, at `false`, the equation that document 01 had. By computation.
use Rattle.std.proofs.Common.{◌≡◌, ℕ, false, ◌&&◌, List, [], ◌∷◌, refl, Ok, Err}
use Rattle.alphabet.specs.Questions.{ask◌else◌then◌, by}
use Rattle.alphabet.specs.Refusing.{◌keeping◌}
use Rattle.alphabet.specs.Symbols.{coding, coding_by}
use Rattle.alphabet.specs.Names.{numbered, numbered_by}
use Rattle.alphabet.specs.Guess.{masked, lowest, guess_of, holds_all, fresh_guesser, sound_guesser, guesser_update_at}
use Rattle.alphabet.specs.declared.kind.AlphabetType.{AlphabetType}
use Rattle.alphabet.specs.declared.guesser.AlphabetGuesser.{AlphabetGuesser}

-- a guesser that does not fold
abbrev plainly : ℕ → AlphabetGuesser
plainly mask = record { acc = mask; fold = false }

pub record AsBefore : Type 0 where
  -- what texts are packed by is what they are read by
  pub codes : (k : AlphabetType) → coding_by false k ≡ coding k
  pub numbers : (n : ℕ) → numbered_by false n ≡ numbered n
  -- the guess, and what it is: the first that holds the text as it came
  pub guesses : (text : List ℕ) → guess_of false text ≡ lowest (masked 31 text)
  pub holds : (k : AlphabetType) (v : ℕ) (text : List ℕ) → holds_all false k (v ∷ text) ≡ (coding k).member v && holds_all false k text
  -- the guesser's calls
  pub starts : fresh_guesser false ≡ plainly 31
  pub updates : (m : ℕ) (text : List ℕ)
      → guesser_update_at (plainly m) text
      ≡ (ask sound_guesser (plainly m) else Err (by 1 [] keeping (plainly m)) then Ok (plainly (masked m text)))

pub as_before : AsBefore
unfolding guess_of holds_all fresh_guesser guesser_update_at
as_before =
    record {
      codes = λ k. refl;
      numbers = λ n. refl;
      guesses = λ text. refl;
      holds = λ k v text. refl;
      starts = refl;
      updates = λ m text. refl;
    }
