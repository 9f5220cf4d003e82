-- What is read so far and what is left write the word's number.
use Rattle.std.proofs.Common.{◌≡◌, drop}
use Rattle.replay.specs.Fields.{written, written_behind}
use Rattle.replay.proofs.word.decimal.Given as goal

abbrev pub invariant-loop-byte : goal.invariant-loop-byte
invariant-loop-byte l = written_behind l.value (drop l.byte-index l.word) ≡ written l.word
