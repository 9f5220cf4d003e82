-- the codes before are made
use Rattle.std.proofs.Common.{◌≡◌, ℕ, ◌+◌, ◌<◌}
use Rattle.bits.specs.Tables.{at}
use Rattle.alphabet.specs.Symbols.{coding_by}
use Rattle.alphabet.specs.declared.kind.AlphabetType.TheVariants.{Dna2bit}
use Rattle.packing.specs.Encode.{digit_of}
use Rattle.packing.proofs.fours.codes_of.Given as goal

abbrev pub invariant-loop-j : goal.invariant-loop-j
invariant-loop-j l = (k : ℕ) → k < l.j → at l.code-items k ≡ digit_of (coding_by l.fold Dna2bit) (at l.text (l.i + k))
