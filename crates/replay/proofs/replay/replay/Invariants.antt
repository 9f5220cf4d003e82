-- Each line that was counted took a byte of the list at least.
use Rattle.std.proofs.Common.{◌+◌, ◌≤◌, length}
use Rattle.std.specs.Slice.Iter.{split_inclusive_rest}
use Rattle.replay.specs.Counts.{lines_of}
use Rattle.replay.proofs.replay.replay.Given as goal

abbrev pub invariant-loop-line : goal.invariant-loop-line
invariant-loop-line l = lines_of l.tally + length (split_inclusive_rest l.line-iterator) ≤ length l.fn.list
