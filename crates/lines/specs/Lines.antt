-- Lines of text. States document 01 on the program `packseq`: what stands in each of its lines.
use Rattle.std.specs.Prelude.{ℕ, List, [], ◌∷◌, ◌++◌, leb, length, Option, Some, None}
use Rattle.bits.specs.Tables.{bytes_of}
use Rattle.bits.specs.Memory.{front}
use Rattle.alphabet.specs.Questions.{ask◌else◌then◌, refusal_reply, number_in}
use Rattle.alphabet.specs.Names.{display_name_of}
use Rattle.alphabet.specs.declared.kind.AlphabetType.{AlphabetType}
use Rattle.alphabet.specs.declared.refusal.Refusal.{Refusal}
use Rattle.lines.specs.Digits.{decimal, hex}

-- ---- what the lines are

-- a text, and the line's end
unfoldable pub line : List ℕ → List ℕ
line text = text ++ (10 ∷ [])

-- a packing: the display name, the count in decimal and the packed bytes in hexadecimal, a line each
unfoldable pub packed_lines_of : AlphabetType → ℕ → List ℕ → List ℕ
packed_lines_of kind count packed = line (display_name_of kind) ++ (line (decimal count) ++ line (hex packed))

-- a refusal: `refused` and its number
unfoldable pub refused_line_of : Refusal → List ℕ
refused_line_of refusal = line (bytes_of "refused " ++ decimal (number_in (refusal_reply refusal)))

-- ---- where they go

-- a call that puts a text at the front of memory writes the whole of it, or nothing where the memory is too short: the bytes written
unfoldable pub put_count : List ℕ → ℕ → Option ℕ
put_count text room = ask leb (length text) room else None then Some (length text)

-- and the memory afterwards
unfoldable pub put_memory : List ℕ → List ℕ → List ℕ
put_memory text memory = ask leb (length text) (length memory) else memory then front text memory
