use Rattle.std.proofs.Common.{◌∙◌}
use Rattle.alphabet.specs.Guess.{mask_of}
use Rattle.alphabet.proofs.Turns.{entries-folded}
use Rattle.alphabet.proofs.mask.Masks.by.Goals as goal

pub invariant_of-result : goal.invariant_of-result
invariant_of-result c =
    record { laid = c.fold_entries.ensures ∙ entries-folded c.args.fold mask_of c.alphabet_mask-of_bytes.result c.alphabet_mask-of_bytes.ensures }
