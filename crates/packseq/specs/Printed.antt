-- What `packseq` prints. States document 01 on the program.
use Rattle.std.specs.Prelude.{ℕ, false, List, leb, length, take, Result, Ok, Err}
use Rattle.bits.specs.Tables.{bytes_of}
use Rattle.alphabet.specs.Questions.{ask◌else◌then◌}
use Rattle.alphabet.specs.Symbols.{coding}
use Rattle.alphabet.specs.Names.{number_of}
use Rattle.alphabet.specs.Guess.{guess_of}
use Rattle.alphabet.specs.declared.kind.AlphabetType.{AlphabetType}
use Rattle.alphabet.specs.declared.refusal.Refusal.{Refusal}
use Rattle.packing.specs.Encode.{packing, encode_at}
use Rattle.lines.specs.Lines.{line, packed_lines_of, refused_line_of}

-- the most bytes that are packed
abbrev pub longest : ℕ
longest = 16384

-- the most bytes that are printed
abbrev pub most : ℕ
most = 32798

-- the lines for what packing answered, with the packed bytes at the front of memory: the three of a packing, or the refusal
unfoldable pub answered : AlphabetType → ℕ → Result ℕ Refusal → List ℕ → List ℕ
answered kind count (Ok n) packed = packed_lines_of kind count (take n packed)
answered kind count (Err refusal) packed = refused_line_of refusal

-- the whole output for a text: it is guessed and packed, both without folding, or it is too long
unfoldable pub printed : List ℕ → List ℕ
printed text =
    ask leb (length text) longest else line (bytes_of "too long") then
    answered (guess_of false text) (length text) (encode_at (number_of (guess_of false text)) false text longest) (packing (coding (guess_of false text)) text)

-- the whole output for what was read into a buffer, so many bytes: a text that was not read to its end is not printed
unfoldable pub output : {E : Type 0} → Result ℕ E → List ℕ → List ℕ
output (Ok len) buffer = printed (take len buffer)
output (Err failure) buffer = line (bytes_of "cannot read")
