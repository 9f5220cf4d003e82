use Rattle.alphabet.proofs.Turns.{FoldedTo}
use Rattle.alphabet.proofs.fold.fold_entries.Given as goal

-- the letters before this one have the entries of their uppercase letters
abbrev pub invariant-loop-v : goal.invariant-loop-v
invariant-loop-v l = FoldedTo l.fn.table l.v l.table
