-- The symbols of a packed alphabet by their codes, as the stream's functions promise them to each other. Document 01 says nothing of it.
use Rattle.std.specs.Prelude.{ℕ, ◌/◌, ◌%◌, ◌^◌, ◌<◌, ◌≡◌, List, [], ◌∷◌, map}
use Rattle.std.specs.Int.{w16, to_le_bytes}
use Rattle.alphabet.specs.declared.kind.AlphabetType.{AlphabetType}
use Rattle.alphabet.specs.Symbols.{coding}
use Rattle.bits.specs.Tables.{tabulate, at}
use Rattle.bits.specs.Streams.{fields}

-- an alphabet's decoding table
unfoldable pub decoding : AlphabetType → List ℕ
decoding k = tabulate 32 (coding k).symbol

-- the eight bases whose codes, b bits wide, the low bits of a number write
unfoldable pub block_of : AlphabetType → ℕ → ℕ → List ℕ
block_of k b w = map (at (decoding k)) (fields b 8 w)

-- a table's entries two by two, at each number below `all` that two codes write
abbrev pub Paired : List ℕ → ℕ → ℕ → List ℕ → Type 0
Paired table b all rows = (v : ℕ) → v < all → to_le_bytes w16 (at rows v) ≡ at table (v / 2 ^ b % 2 ^ b) ∷ at table (v % 2 ^ b) ∷ []
