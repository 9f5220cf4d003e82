-- Packing and reading over a width. States document 01, "Middle: packing" and "Middle: windows", for codes that are given as numbers.
-- Packing cuts the bits of codes into bytes; reading cuts the bits of bytes into codes.
use Rattle.std.specs.Prelude.{ℕ, ◌+◌, ◌-◌, ◌*◌, ◌/◌, cond, List, ltb, length}
use Rattle.bits.specs.Tables.{at}
use Rattle.bits.specs.Streams.{bit_at, after, cut}

-- the bytes that n bits take: n / 8, rounded up
abbrev pub bytes_for : ℕ → ℕ
bytes_for n = (n + 7) / 8

-- the packing of codes that are b bits wide, with zeros behind the last of them; only the b low bits of a code count
unfoldable pub pack : ℕ → List ℕ → List ℕ
pack b codes = cut 8 (bit_at b (at codes)) 0 (bytes_for (length codes * b))

-- the bits at hand in a call: the p that pend, of value a, then those of what it is given, w bits each, then zeros
unfoldable pub at_hand : ℕ → ℕ → ℕ → List ℕ → ℕ → ℕ
at_hand p a w given = after p a (bit_at w (at given))

-- byte j of a file of which the bytes from `offset` on are lent; every other byte reads as zero
unfoldable pub file_byte : List ℕ → ℕ → ℕ → ℕ
file_byte lent offset j = cond (ltb j offset) 0 (at lent (j - offset))

-- n codes of a file, b bits wide, from code i on
unfoldable pub codes_from : ℕ → List ℕ → ℕ → ℕ → ℕ → List ℕ
codes_from b lent offset i n = cut b (bit_at 8 (file_byte lent offset)) (i * b) n

-- the first byte that holds a bit of code i, and the end of the bytes that hold the codes before e
abbrev pub first_byte : ℕ → ℕ → ℕ
first_byte b i = i * b / 8

abbrev pub end_byte : ℕ → ℕ → ℕ
end_byte b e = bytes_for (e * b)
