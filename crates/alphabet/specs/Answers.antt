-- Answers by number. States document 01, "Code places and language forms", its last rule: for each answer that is an enum, the number and the values of
-- its cases, and then what the call tells in these terms. A state that comes back on a refusal is told by the call's own definition.
use Rattle.std.specs.Prelude.{ℕ, max, Bool, true, false, ◌&&◌, List, [], ◌∷◌, Result, Ok, Err}
use Rattle.std.specs.Int.Count.{count_trailing_zeros}
use Rattle.alphabet.specs.Questions.{ask◌else◌then◌, Reply, accepted, refused, refusal_reply}
use Rattle.alphabet.specs.Symbols.{folded}
use Rattle.alphabet.specs.Names.{number_of, known}
use Rattle.alphabet.specs.Guess.{masked, sound_guesser}
use Rattle.alphabet.specs.declared.kind.AlphabetType.{AlphabetType}
use Rattle.alphabet.specs.declared.refusal.Refusal.{Refusal}
use Rattle.alphabet.specs.declared.refusal.Refused.{Refused}
use Rattle.alphabet.specs.declared.guesser.AlphabetGuesser.{AlphabetGuesser}

-- the kind that a number names: its number
abbrev pub named_reply : Result AlphabetType Refusal → Reply
named_reply (Ok k) = accepted (number_of k ∷ [])
named_reply (Err q) = refusal_reply q

-- it is the number asked about
abbrev pub named_told : ℕ → Reply
named_told number = ask known number else refused 8 [] then accepted (number ∷ [])

-- `later_alphabet`: the greater of two numbers that both name an alphabet
abbrev pub later_told : ℕ → ℕ → Reply
later_told one other = ask known one && known other else refused 8 [] then accepted (max one other ∷ [])

-- a count, or a refusal
abbrev pub count_reply : Result ℕ Refusal → Reply
count_reply (Ok count) = accepted (count ∷ [])
count_reply (Err q) = refusal_reply q

-- the choice by number: 1 to fold, 0 not to
abbrev pub fold_number : Bool → ℕ
fold_number true = 1
fold_number false = 0

-- the guesser's `update`: the next mask, and the choice
abbrev pub guesser_updated_reply : Result AlphabetGuesser (Refused AlphabetGuesser) → Reply
guesser_updated_reply (Ok g) = accepted (g.acc ∷ fold_number g.fold ∷ [])
guesser_updated_reply (Err e) = refusal_reply e.refusal

-- it is the mask ANDed with each byte's, by the state's choice, which stays
abbrev pub guesser_update_told : AlphabetGuesser → List ℕ → Reply
guesser_update_told g text = ask sound_guesser g else refused 1 [] then accepted (masked g.acc (folded g.fold text) ∷ fold_number g.fold ∷ [])

-- the guesser's `guess`: the alphabet's number
abbrev pub guessed_reply : Result AlphabetType (Refused AlphabetGuesser) → Reply
guessed_reply (Ok k) = accepted (number_of k ∷ [])
guessed_reply (Err e) = refusal_reply e.refusal

-- it is the count of the mask's trailing zero bits, since the order of the alphabets is that of their numbers
abbrev pub guess_told : AlphabetGuesser → Reply
guess_told g = ask sound_guesser g else refused 1 [] then accepted (count_trailing_zeros 8 g.acc ∷ [])
