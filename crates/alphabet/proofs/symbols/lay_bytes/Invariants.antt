use Rattle.std.proofs.Common.{◌≡◌, ℕ, ◌<◌}
use Rattle.bits.specs.Tables.{at}
use Rattle.alphabet.proofs.symbols.lay_bytes.Given as goal

-- the places before this one have their own numbers
abbrev pub invariant-loop-v : goal.invariant-loop-v
invariant-loop-v l = (k : ℕ) → k < l.v → at l.table k ≡ k
