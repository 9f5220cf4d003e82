-- the bytes asked, and those that are left
use Rattle.std.proofs.Common.{◌≡◌, ◌&&◌, drop}
use Rattle.alphabet.specs.Symbols.{coding_of}
use Rattle.members.specs.Members.{all_members_of}
use Rattle.members.proofs.find.all_members.Given as goal

abbrev pub invariant-loop-byte : goal.invariant-loop-byte
invariant-loop-byte l = (l.all && all_members_of (coding_of l.alphabet) (drop l.byte-index l.text)) ≡ all_members_of (coding_of l.alphabet) l.text
