-- Without folding all is as before: what request A1 gave the choice to is, at 0, the equation that stood here without it.
use mathlib.Core.Path.{◌≡◌, refl, ap}
use mathlib.Core.Bool.{Bool, true, false, ◌&&◌, ◌||◌}
use mathlib.Core.List.{List, [], ◌∷◌}
use Prim.Native.Nat.{ℕ}
use borrow.Author.Tests.{leb-true}
use lib.Dec.{leb, eqb}
use Rattle.alphabet.specs.Questions.{ask◌else◌then◌, accepted, by, number_in}
use Rattle.alphabet.specs.Names.{number_of, known, kind_of}
use Rattle.alphabet.specs.Guess.{guess_of}
use Rattle.alphabet.proofs.Calls.{number_kind}
use Rattle.std.proofs.Common.{Result, Ok, Err}
use Rattle.alphabet.specs.declared.refusal.Refusal.{Refusal}
use Rattle.alphabet.specs.declared.guesser.AlphabetGuesser.{AlphabetGuesser}
use Rattle.packing.specs.declared.encoder.SequenceEncoder.{SequenceEncoder}
use Rattle.packing.specs.Encode.{fresh_encoder, start_encoder_at}
use Rattle.packing.specs.Answers.{encoder_started_reply}
use Rattle.fantailclock.specs.declared.shapes.Guesser.{Guesser}
use Rattle.fantailclock.specs.declared.shapes.Encoder.{Encoder}
use Rattle.fantailclock.specs.declared.shapes.EncoderStarted.{EncoderStarted}
use Rattle.fantailclock.specs.Shapes.{chosen}
use Rattle.fantailclock.specs.Guesses.{guessed_told}
use Rattle.fantailclock.specs.Guesses as guesses
use Rattle.fantailclock.specs.Encoders.{inside, fitting, outside, echoed, started_by, encoder_started}

pub record AsBefore : Type 0 where
  -- a whole text's guess
  pub guessed : (text : List ℕ) → guessed_told 0 text ≡ accepted (number_of (guess_of false text) ∷ [])
  -- a guesser's numbers, and an encoder's: what they stand for, and what is asked of them
  pub guesser : (g : Guesser) → g.fold ≡ 0
      → guesses.state_of g ≡ (ask leb g.mask 255 else Err (by 1 []) then Ok (record { acc = g.mask; fold = false }))
  pub encoder : (e : Encoder) → e.fold ≡ 0 → (inside e).fold ≡ false
  pub fits : (e : Encoder) → e.fold ≡ 0 → fitting e ≡ (eqb e.has_bad 0 || (eqb e.has_bad 1 && leb e.bad_byte 255))
  -- an encoder's start echoes its alphabet, whether refused or not
  pub started : (n : ℕ) → encoder_started n 0 ≡ record { refusal = number_in (encoder_started_reply (start_encoder_at n false)); next = echoed n 0 }

abbrev plain : Guesser → Bool → Result AlphabetGuesser Refusal
plain g fits = ask fits else Err (by 1 []) then Ok (record { acc = g.mask; fold = false })

stands : (g : Guesser) → g.fold ≡ 0 → guesses.state_of g ≡ plain g (leb g.mask 255)
unfolding guesses.state_of guesses.inside
stands g e = rw e (go (leb g.mask 255))
  where
    go : (b : Bool) → plain g (b && true) ≡ plain g b
    go true = refl
    go false = refl

abbrev answer : ℕ → Bool → Result SequenceEncoder Refusal
answer n known = ask known else Err (by 8 []) then Ok (fresh_encoder false (kind_of n))

abbrev echoing : ℕ → Result SequenceEncoder Refusal → EncoderStarted
echoing n x = record { refusal = number_in (encoder_started_reply x); next = echoed n 0 }

starts : (n : ℕ) → encoder_started n 0 ≡ echoing n (start_encoder_at n false)
unfolding encoder_started start_encoder_at fresh_encoder outside
starts n = go (known n) refl
  where
    go : (b : Bool) → known n ≡ b → started_by n 0 (answer n b) ≡ echoing n (answer n b)
    go true e = ap (λ (m : ℕ). record { refusal = 0; next = echoed m 0 }) (number_kind n (leb-true n 5 e))
    go false e = refl

pub as_before : AsBefore
unfolding guessed_told inside fitting
as_before =
    record {
      guessed = λ text. refl;
      guesser = stands;
      encoder = λ e h. ap chosen h;
      fits = λ e h. rw h;
      started = starts;
    }
