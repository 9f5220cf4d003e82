use Rattle.std.proofs.Common.{◌≡◌, ℕ, refl, sym, ap, ◌∙◌}
use Rattle.std.specs.Prelude.{Result, Ok, Err}
use Rattle.std.specs.Result.{result_unwrap_or}
use Rattle.alphabet.specs.Names.{kind_of, named_at}
use Rattle.alphabet.specs.declared.refusal.Refusal.{Refusal}
use Rattle.alphabet.specs.declared.kind.AlphabetType.{AlphabetType}
use Rattle.alphabet.specs.declared.kind.AlphabetType.TheVariants.{Unknown}
use Rattle.alphabet.proofs.Calls.{named_kind, named-refused, unknown_kind}
use Rattle.windows.proofs.asked.kind_of.Goals as goal

-- of a number that names none, Unknown
named_or : (n : ℕ) → result_unwrap_or (named_at n) Unknown ≡ kind_of n
named_or n = go (named_at n) refl
  where
    go : (r : Result AlphabetType Refusal) → named_at n ≡ r → result_unwrap_or r Unknown ≡ kind_of n
    go (Ok k) e = sym (named_kind n k e).1
    go (Err q) e = sym (unknown_kind n (named-refused n q e).0)

pub returns : goal.returns
returns c = c.unwrap_or.ensures ∙ ap (λ (r : Result AlphabetType Refusal). result_unwrap_or r Unknown) c.try_from.ensures.0 ∙ named_or c.args.alphabet
