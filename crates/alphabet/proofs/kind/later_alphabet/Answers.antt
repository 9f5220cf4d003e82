use Rattle.std.proofs.Common.{sym}
use Rattle.alphabet.proofs.Calls.{later-whole}
use Rattle.alphabet.proofs.kind.later_alphabet.Goals as goal

pub returns : goal.returns
returns c =
    let a = c.args in
    let w = later-whole _ a.one a.other _ (sym c.max.ensures) c.try_from.ensures.0 in
    record { value = w.0; told = w.1 }
