use Rattle.std.proofs.Common.{refl, arith}
use Rattle.bits.specs.Streams.{word}
use Rattle.windows.proofs.WholeBytes.{pushed_first}
use Rattle.windows.proofs.blocks.number.Goals as goal

pub loop-byte-init : goal.loop-byte-init
unfolding word
loop-byte-init c = refl

pub loop-byte-preserved : goal.loop-byte-preserved
loop-byte-preserved c = pushed_first _ (λ i. (c.type_inv.bytes i).fits) c.loop-byte.byte-index _ _ (omega arith) c.loop-byte.invariant c.push_byte-all.ensures
