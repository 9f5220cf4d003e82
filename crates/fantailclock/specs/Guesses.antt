-- The guesser for hosts: its state as numbers, and what its calls tell.
use Rattle.std.specs.Prelude.{ℕ, ◌&&◌, List, [], ◌∷◌, leb, Result, Ok, Err}
use Rattle.alphabet.specs.Questions.{ask◌else◌then◌, by, Reply, accepted, refusal_reply, number_in}
use Rattle.alphabet.specs.Refusing.{alone}
use Rattle.alphabet.specs.declared.refusal.Refusal.{Refusal}
use Rattle.alphabet.specs.Names.{number_of}
use Rattle.alphabet.specs.Guess.{guess_of, guesser_update_at, guess_at}
use Rattle.alphabet.specs.Answers.{fold_number, guessed_reply}
use Rattle.alphabet.specs.declared.guesser.AlphabetGuesser.{AlphabetGuesser}
use Rattle.fantailclock.specs.declared.shapes.Guesser.{Guesser}
use Rattle.fantailclock.specs.declared.shapes.Guessing.{Guessing}
use Rattle.fantailclock.specs.Shapes.{chosen}

-- the state that a host's numbers stand for, and the numbers of a state
unfoldable pub inside : Guesser → AlphabetGuesser
inside g = record { acc = g.mask; fold = chosen g.fold }

unfoldable pub outside : AlphabetGuesser → Guesser
outside s = record { mask = s.acc; fold = fold_number s.fold }

-- asked first: that numbers fit their fields. `fold` is 0 or 1; a mask above 255 is unsound in any case
unfoldable pub state_of : Guesser → Result AlphabetGuesser Refusal
state_of g = ask leb g.mask 255 && leb g.fold 1 else Err (by 1 []) then Ok (inside g)

-- what a state that fits answers to a text
abbrev pub answer_from : List ℕ → Result AlphabetGuesser Refusal → Result AlphabetGuesser Refusal
answer_from text (Err q) = Err q
answer_from text (Ok s) = alone (guesser_update_at s text)

-- `fc_guesser_update`
abbrev pub updated_by : Guesser → Result AlphabetGuesser Refusal → Guessing
updated_by g (Ok s) = record { refusal = 0; next = outside s }
updated_by g (Err q) = record { refusal = number_in (refusal_reply q); next = g }

unfoldable pub guesser_updated : Guesser → List ℕ → Guessing
guesser_updated g text = updated_by g (answer_from text (state_of g))

-- `fc_guesser_guess`
abbrev pub guess_from : Result AlphabetGuesser Refusal → Reply
guess_from (Err q) = refusal_reply q
guess_from (Ok s) = guessed_reply (guess_at s)

unfoldable pub guesser_told : Guesser → Reply
guesser_told g = guess_from (state_of g)

-- `fc_guess_alphabet`: the number of the alphabet guessed for a text
unfoldable pub guessed_told : ℕ → List ℕ → Reply
guessed_told fold text = accepted (number_of (guess_of (chosen fold) text) ∷ [])
