use Rattle.std.proofs.Common.{◌≡◌, ℕ, Ok, Err, true, false, List, sym, ap, ◌∙◌}
use Rattle.alphabet.specs.declared.guesser.AlphabetGuesser.{AlphabetGuesser}
use Rattle.alphabet.specs.Symbols.{folded}
use Rattle.alphabet.specs.Guess.{masked, sound_guesser, guesser_update_at}
use Rattle.alphabet.specs.Answers.{guesser_updated_reply, guesser_update_told}
use Rattle.alphabet.proofs.Laws.{folded_bytes}
use Rattle.alphabet.proofs.Masks.{masked_ascii}
use Rattle.alphabet.proofs.Calls.{sound_range, update_sound, update_unsound, update-whole}
use Rattle.alphabet.proofs.guesser.AlphabetGuesser.update.Goals as goal

-- the answer of a sound state
next : (g : AlphabetGuesser) (text : List ℕ) (m : ℕ) → sound_guesser g ≡ true → m ≡ masked g.acc (folded g.fold text)
    → (Ok (record { acc = m; fold = g.fold }) ≡ guesser_update_at g text) × (guesser_updated_reply (Ok (record { acc = m; fold = g.fold })) ≡ guesser_update_told g text)
next g text m e q = update-whole _ g text (ap (λ (x : ℕ). Ok (record { acc = x; fold = g.fold })) q ∙ sym (update_sound g text e))

pub returns-then-not-is_sound : goal.returns-then-not-is_sound
returns-then-not-is_sound c =
    let g = c.args.self in
    let unsound : sound_guesser g ≡ false = sym c.is_sound.ensures ∙ c.if-not-is_sound.true in
    let w = update-whole _ g c.args.sequence.now (ap Err c.keeping.ensures ∙ sym (update_unsound g c.args.sequence.now unsound)) in
    record { value = w.0; told = w.1 }

pub returns-then-self-eq-ASCII_BIT : goal.returns-then-self-eq-ASCII_BIT
returns-then-self-eq-ASCII_BIT c =
    let g = c.args.self in
    let text = c.args.sequence.now in
    let same : g.acc ≡ masked g.acc (folded g.fold text) = rw c.if-self-eq-ASCII_BIT.true (sym (masked_ascii (folded g.fold text) (folded_bytes g.fold text (λ i. (c.type_inv.sequence i).fits)))) in
    let w = next g text g.acc (sym c.is_sound.ensures ∙ c.if-not-is_sound.false) same in
    record { value = w.0; told = w.1 }

pub scan-acc-requires : goal.scan-acc-requires
scan-acc-requires c = sound_range c.args.self (sym c.is_sound.ensures ∙ c.if-not-is_sound.false)

pub returns : goal.returns
returns c =
    let w = next c.args.self c.args.sequence.now c.scan-acc.result (sym c.is_sound.ensures ∙ c.if-not-is_sound.false) c.scan-acc.ensures in
    record { value = w.0; told = w.1 }
