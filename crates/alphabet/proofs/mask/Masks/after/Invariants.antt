use Rattle.std.proofs.Common.{◌≡◌, drop}
use Rattle.alphabet.specs.Symbols.{folded}
use Rattle.alphabet.specs.Guess.{masked}
use Rattle.alphabet.proofs.mask.Masks.after.Given as goal

-- the mask gives with the bytes from this one on what the whole text gives
abbrev pub invariant-loop-byte : goal.invariant-loop-byte
invariant-loop-byte l = masked l.m (drop l.byte-index (folded l.fn.self.fold l.fn.text)) ≡ masked l.fn.acc (folded l.fn.self.fold l.fn.text)
