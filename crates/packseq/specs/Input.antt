-- How far reading the input has come. What a read answers, a count of bytes or that it failed, is all that a program knows of its input.
use Rattle.std.specs.Prelude.{ℕ, zero, suc, ◌+◌, cond, ltb, Result, Ok, Err}
use Rattle.packseq.specs.declared.input.Reading.{Reading}

-- the buffer holds a byte more than is packed, so that a longer input shows
abbrev pub room : ℕ
room = 16385

-- after a read with memory for `free` bytes behind `len` that were read before: a read that fails is that failure, 0 the input's end, and any other the bytes
-- read, with more to be read while memory is left
unfoldable pub reading_after : {E : Type 0} → ℕ → Result ℕ E → ℕ → Result Reading E
reading_after len (Err failure) free = Err failure
reading_after len (Ok zero) free = Ok (Reading.Whole len)
reading_after len (Ok (suc n)) free = Ok (cond (ltb (suc n) free) (Reading.More (len + suc n)) (Reading.Whole (len + free)))
