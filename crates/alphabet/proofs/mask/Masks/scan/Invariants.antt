use Rattle.std.proofs.Common.{drop, ◌++◌}
use Rattle.alphabet.specs.Symbols.{folded}
use Rattle.alphabet.specs.Guess.{masked}
use Rattle.alphabet.proofs.Turns.{Chunked}
use Rattle.alphabet.proofs.mask.Masks.scan.Given as goal

-- a chunk more may be asked for, and what is left gives with the mask what the whole text gives
abbrev pub invariant-chunks : goal.invariant-chunks
invariant-chunks l =
    (goal.iterator-chunks).can_next l.chunk-iterator
    × (goal.iterator-chunks).is_finite l.chunk-iterator
    × Chunked l.fn.self.fold (masked l.fn.mask (folded l.fn.self.fold l.fn.text)) l.acc l.chunk-iterator.rest.now

-- so do the bytes of the chunk from this one on, and what is left behind it
abbrev pub invariant-loop-byte : goal.invariant-loop-byte
invariant-loop-byte l =
    Chunked l.fn.self.fold (masked l.fn.mask (folded l.fn.self.fold l.fn.text)) l.acc (drop l.byte-index l.byte-items ++ l.chunk-iterator.rest.now)
