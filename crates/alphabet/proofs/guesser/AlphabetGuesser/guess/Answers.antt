use Rattle.std.proofs.Common.{◌≡◌, Ok, Err, true, false, sym, ap, ◌∙◌}
use lib.Count.{count_trailing_zeros}
use Rattle.bits.proofs.Tabulated.{get_or_within}
use Rattle.alphabet.specs.declared.kind.AlphabetType.TheVariants.{Dna2bit, Unknown}
use Rattle.alphabet.specs.Guess.{order, lowest, sound_guesser}
use Rattle.alphabet.proofs.Masks.{zeros_lt}
use Rattle.alphabet.proofs.Calls.{sound_range, guess_sound, guess_unsound, guess-whole}
use Rattle.alphabet.proofs.guesser.AlphabetGuesser.guess.Goals as goal

pub returns-then-not-is_sound : goal.returns-then-not-is_sound
returns-then-not-is_sound c =
    let g = c.args.self in
    let unsound : sound_guesser g ≡ false = sym c.is_sound.ensures ∙ c.if-not-is_sound.true in
    let w = guess-whole _ g (ap Err c.keeping.ensures ∙ sym (guess_unsound g unsound)) in
    record { value = w.0; told = w.1 }

pub bounds-i-i : goal.bounds-i-i
bounds-i-i c =
    let g = c.args.self in
    let r = sound_range g (sym c.is_sound.ensures ∙ c.if-not-is_sound.false) in
    zeros_lt g.acc r.0 r.1

pub returns : goal.returns
unfolding lowest
returns c =
    let g = c.args.self in
    let sound : sound_guesser g ≡ true = sym c.is_sound.ensures ∙ c.if-not-is_sound.false in
    let r = sound_range g sound in
    let kind = get_or_within order (count_trailing_zeros 8 g.acc) Dna2bit Unknown (zeros_lt g.acc r.0 r.1) in
    let w = guess-whole _ g (ap Ok kind ∙ sym (guess_sound g sound)) in
    record { value = w.0; told = w.1 }
