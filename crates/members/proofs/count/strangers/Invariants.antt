-- the bytes counted, and those that are left
use Rattle.std.proofs.Common.{◌≡◌, ◌≤◌, ◌+◌}
use Rattle.std.proofs.Math.ListN.{drop}
use Rattle.alphabet.specs.Symbols.{coding_of}
use Rattle.members.specs.Members.{bad_in}
use Rattle.members.proofs.count.strangers.Given as goal

abbrev pub invariant-loop-byte : goal.invariant-loop-byte
invariant-loop-byte l = record {
  few : l.sum ≤ l.byte-index;
  counted : l.sum + bad_in (coding_of l.alphabet) (drop l.byte-index l.text) ≡ bad_in (coding_of l.alphabet) l.text;
}
