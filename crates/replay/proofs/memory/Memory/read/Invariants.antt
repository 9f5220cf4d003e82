-- The bytes behind those read are as they were.
use Rattle.std.proofs.Common.{◌≡◌, ◌≤◌, ◌-◌, length, drop, replicate}
use Rattle.replay.proofs.memory.Memory.read.Given as goal

abbrev pub invariant-loop-pair : goal.invariant-loop-pair
invariant-loop-pair l =
    record {
      within : l.self.lent ≤ 320;
      long : length l.self.bytes ≡ 320;
      behind : drop l.self.lent l.self.bytes ≡ replicate (320 - l.self.lent) 165;
    }
