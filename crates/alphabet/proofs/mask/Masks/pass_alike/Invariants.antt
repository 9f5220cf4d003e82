use Rattle.std.proofs.Common.{◌≡◌, ◌+◌, ◌*◌, drop}
use Rattle.alphabet.specs.Symbols.{folded}
use Rattle.alphabet.specs.Guess.{masked}
use Rattle.alphabet.proofs.mask.Masks.pass_alike.Given as goal

-- the mask gives with the bytes behind those passed what the whole text gives
abbrev pub invariant-loop-k : goal.invariant-loop-k
invariant-loop-k l = masked l.acc (drop (l.bases + l.k * 8) (folded l.fn.self.fold l.fn.text)) ≡ masked l.fn.acc (folded l.fn.self.fold l.fn.text)
