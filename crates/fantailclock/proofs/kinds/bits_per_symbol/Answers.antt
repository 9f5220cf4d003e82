use Rattle.std.proofs.Common.{ℕ, [], ◌∷◌, sym, ap, ◌∙◌}
use Rattle.alphabet.specs.Questions.{accepted}
use Rattle.alphabet.proofs.Calls.{named_kind}
use Rattle.fantailclock.specs.Kinds.{bits_told}
use Rattle.fantailclock.proofs.kinds.bits_per_symbol.Goals as goal

pub returns : goal.returns
unfolding bits_told
returns c =
    let s = named_kind c.args.alphabet c.in_ok-kind.kind (sym c.try_from.ensures.0 ∙ c.in_ok-kind.was) in
    rw (s.0, s.1) (ap (λ (w : ℕ). accepted (w ∷ [])) c.bits_per_symbol.ensures)
