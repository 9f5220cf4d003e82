-- What is not lent is left as it was.
use Rattle.std.proofs.Common.{rules}
use Rattle.replay.proofs.Words.{behind_more}
use Rattle.replay.proofs.memory.Memory.read.Goals as goal

pub loop-pair-preserved : goal.loop-pair-preserved
loop-pair-preserved c =
    record {
      within = search rules;
      long = search rules;
      behind = behind_more _ 320 _ _ 165 c.loop-pair.invariant.behind;
    }
