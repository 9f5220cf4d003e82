use Rattle.std.proofs.Common.{◌≡◌, ℕ, Bool, true, false, ◌&&◌, List, [], Ok, Err, sym, ap, ap₂, ◌∙◌, refl}
use lib.Dec.{leb}
use borrow.Author.Tests.{leb-true}
use Rattle.bits.proofs.Computed.{both_true}
use Rattle.alphabet.specs.Questions.{ask◌else◌then◌, by}
use Rattle.alphabet.specs.Guess.{sound_guesser, guesser_after}
use Rattle.alphabet.specs.Answers.{fold_number}
use Rattle.alphabet.specs.Refusing.{alone}
use Rattle.alphabet.specs.declared.refusal.Refusal.{Refusal}
use Rattle.alphabet.specs.declared.guesser.AlphabetGuesser.{AlphabetGuesser}
use Rattle.alphabet.proofs.Calls.{update_sound, update_unsound, ok_only, ok_same}
use Rattle.fantailclock.specs.declared.shapes.Guesser.{Guesser}
use Rattle.fantailclock.specs.Guesses.{inside, outside, state_of, answer_from, updated_by, guesser_updated}
use Rattle.fantailclock.proofs.Told.{chosen_number}
use Rattle.fantailclock.proofs.guesses.fc_guesser_update.Goals as goal

-- an accepted update keeps the choice, and the number that came is that of the choice
kept : (g : Guesser) (text : List ℕ) (s : AlphabetGuesser) → answer_from text (state_of g) ≡ Ok s → g.fold ≡ fold_number s.fold
unfolding state_of inside
kept g text s e = go (leb g.mask 255 && leb g.fold 1) refl (sound_guesser (inside g)) refl e
  where
    go : (b : Bool) → leb g.mask 255 && leb g.fold 1 ≡ b → (d : Bool) → sound_guesser (inside g) ≡ d
        → answer_from text (ask b else Err (by 1 []) then Ok (inside g)) ≡ Ok s → g.fold ≡ fold_number s.fold
    go true f true d r =
        let same : guesser_after (inside g) text ≡ s = ok_same {B = Refusal} (ap alone (update_sound (inside g) text d)) r in
        chosen_number g.fold (leb-true g.fold 1 (both_true (leb g.mask 255) (leb g.fold 1) f).1) ∙ ap (λ (x : AlphabetGuesser). fold_number x.fold) same
    go true f false d r = absurd (ok_only r (ap alone (update_unsound (inside g) text d)))
    go false f true d r = absurd (ok_only r refl)
    go false f false d r = absurd (ok_only r refl)

pub returns-in-Ok : goal.returns-in-Ok
unfolding guesser_updated outside
returns-in-Ok c =
    let g = c.args.state in
    let s = c.in-Ok.next in
    let answer = sym c.update.ensures ∙ c.in-Ok.is in
    ap₂ (λ (m n : ℕ). record { refusal = 0; next = record { mask = m; fold = n } }) c.from.ensures (kept g c.args.text.now s answer) ∙ ap (updated_by g) (sym answer)
