-- the blocks packed are of members, and what is written is the run over them
use Rattle.std.proofs.Common.{◌≡◌, ◌*◌, take}
use Rattle.alphabet.specs.Symbols.{coding_of}
use Rattle.members.specs.Members.{Passed}
use Rattle.packing.specs.Run.{looked, ran}
use Rattle.packing.proofs.run.eights_of_members.Given as goal

abbrev pub invariant-loop-k : goal.invariant-loop-k
invariant-loop-k l = record {
  wrote : l.out ≡ ran l.b 0 0 (looked l.table (take (l.k * 64) l.text)) l.fn.out;
  passed : Passed (coding_of l.alphabet) l.text (l.k * 64);
}
