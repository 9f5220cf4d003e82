-- the blocks packed are of members
use Rattle.std.proofs.Common.{◌*◌}
use Rattle.alphabet.specs.Symbols.{coding_by}
use Rattle.alphabet.specs.declared.kind.AlphabetType.TheVariants.{Dna2bit}
use Rattle.members.specs.Members.{Passed}
use Rattle.packing.proofs.TwoBits.{Packed}
use Rattle.packing.proofs.fours.fours_of_members.Given as goal

abbrev pub invariant-loop-b : goal.invariant-loop-b
invariant-loop-b l = record { packed : Packed l.fold l.text l.fn.out l.b l.out; passed : Passed (coding_by l.fold Dna2bit) l.text (l.b * 64) }
