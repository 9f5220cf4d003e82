-- the blocks before have members alone
use Rattle.std.proofs.Common.{◌≡◌, ℕ, ◌<◌, true, [], get_or}
use Rattle.alphabet.specs.Symbols.{coding_of}
use Rattle.members.specs.Members.{all_members_of}
use Rattle.members.proofs.find.pass.Given as goal

abbrev pub invariant-loop-k : goal.invariant-loop-k
invariant-loop-k g l = (i : ℕ) → i < l.k → all_members_of (coding_of l.alphabet) (get_or l.blocks i []) ≡ true
