use Rattle.std.proofs.Common.{◌≡◌, true}
use Rattle.alphabet.specs.Symbols.{folded}
use Rattle.alphabet.specs.Bases.{Bases}
use Rattle.alphabet.proofs.bases.are_bases.Given as goal

-- while all were told to be bases, those before this one are
abbrev pub invariant-loop-byte : goal.invariant-loop-byte
invariant-loop-byte l = l.all ≡ true → Bases (folded l.fn.fold l.fn.text) 0 l.byte-index
