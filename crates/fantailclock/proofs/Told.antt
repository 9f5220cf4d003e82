-- States as numbers.
use Rattle.std.proofs.Common.{◌≡◌, ℕ, zero, suc, ◌≤◌, ◌<◌, Bool, true, false, [], Ok, Err, refl, arith, le-leb}
use lib.Dec.{leb}
use Rattle.alphabet.specs.Guess.{sound_guesser}
use Rattle.alphabet.specs.Answers.{fold_number}
use Rattle.alphabet.specs.declared.guesser.AlphabetGuesser.{AlphabetGuesser}
use Rattle.alphabet.proofs.Calls.{sound_range}
use Rattle.fantailclock.specs.declared.shapes.Guesser.{Guesser}
use Rattle.fantailclock.specs.Shapes.{chosen}
use Rattle.alphabet.specs.Questions.{by}
use Rattle.alphabet.specs.Names.{known}
use Rattle.fantailclock.specs.Guesses.{inside, outside, state_of}
use Rattle.fantailclock.specs.Encoders.{echoed}
use Rattle.fantailclock.specs.Encoders as encoders

-- the number of a choice in a state is 0 or 1, and stands for that choice
pub fold_fits : (f : Bool) → leb (fold_number f) 1 ≡ true
fold_fits true = refl
fold_fits false = refl

pub fold-chosen : (f : Bool) → chosen (fold_number f) ≡ f
fold-chosen true = refl
fold-chosen false = refl

pub chosen_number : (n : ℕ) → n ≤ 1 → n ≡ fold_number (chosen n)
chosen_number zero h = refl
chosen_number (suc zero) h = refl
chosen_number (suc (suc n)) h = absurd (omega arith)

-- a mask that does not fit its field is unsound in any case
pub wide_unsound : (g : Guesser) → 255 < g.mask → sound_guesser (inside g) ≡ false
unfolding inside
wide_unsound g h = go (sound_guesser (inside g)) refl
  where
    go : (b : Bool) → sound_guesser (inside g) ≡ b → b ≡ false
    go true e = absurd (omega (arith, (sound_range (inside g) e).1))
    go false e = refl

-- the numbers of a state stand for that state, so that its choice stays from call to call
pub stands_again : (s : AlphabetGuesser) → s.acc ≤ 255 → state_of (outside s) ≡ Ok s
unfolding state_of inside outside
stands_again s h = rw (le-leb s.acc 255 h, fold_fits s.fold, fold-chosen s.fold)

-- a refused start's echo is refused again
pub echo_refused : (n fold : ℕ) → known n ≡ false → encoders.state_of (echoed n fold) ≡ Err (by 8 [])
unfolding encoders.state_of
echo_refused n fold h = rw h
