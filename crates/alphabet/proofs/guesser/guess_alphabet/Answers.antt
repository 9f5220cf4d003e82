use Rattle.std.proofs.Common.{◌≡◌, ℕ, Bool, List, Result, Ok, ap, refl}
use Rattle.bits.specs.Tables.{Bytes}
use Rattle.alphabet.specs.declared.kind.AlphabetType.{AlphabetType}
use Rattle.alphabet.specs.declared.refusal.Refused.{Refused}
use Rattle.alphabet.specs.declared.guesser.AlphabetGuesser.{AlphabetGuesser}
use Rattle.alphabet.specs.Symbols.{folded}
use Rattle.alphabet.specs.Guess.{masked, guess_of, guess_at}
use Rattle.alphabet.proofs.Calls.{fresh-guess, ok_same}
use Rattle.alphabet.proofs.guesser.guess_alphabet.Goals as goal

-- what the state after the scan guesses
guessed : (fold : Bool) (text : List ℕ) (m : ℕ) (r : Result AlphabetType (Refused AlphabetGuesser)) → Bytes text → m ≡ masked 31 (folded fold text)
    → r ≡ guess_at (record { acc = m; fold = fold }) → r ≡ Ok (guess_of fold text)
guessed fold text m r bytes scanned e = fresh-guess fold text bytes r _ (ap (λ (x : ℕ). record { acc = x; fold = fold }) scanned) e

pub unwrap-requires : goal.unwrap-requires
unwrap-requires c =
    let a = c.args in
    rw (guessed a.fold a.sequence.now c.scan-acc.result c.guess.result (λ i. (c.type_inv.sequence i).fits) c.scan-acc.ensures c.guess.ensures.value) refl

pub returns : goal.returns
returns c =
    let a = c.args in
    ok_same c.unwrap.ensures (guessed a.fold a.sequence.now c.scan-acc.result c.guess.result (λ i. (c.type_inv.sequence i).fits) c.scan-acc.ensures c.guess.ensures.value)
