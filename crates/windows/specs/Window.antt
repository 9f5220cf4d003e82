-- Windows. States document 01, "Middle: windows", questions 1, 5, 6 and 9 for reads, and request A7 for the covered read.
-- Every zero-filling read is `read_at` and `read_memory`: `decode_rolling` and `decode_substring_from_bytes_at_offset` as they stand, `decode_2bit`, `decode_3bit`,
-- `decode_4bit` and `decode_5bit` with their own alphabet's number, `decode_substring_from_bytes` with offset 0, `decode_string_from_bytes` with offset and start 0.
use Rattle.std.specs.Prelude.{ℕ, suc, ◌+◌, ◌-◌, Bool, cond, ◌&&◌, leb, List, [], ◌∷◌, map, length, nat_le, nat_lt, Result, Ok, Err}
use Rattle.bits.specs.Packing.{codes_from, first_byte, end_byte}
use Rattle.bits.specs.Memory.{front}
use Rattle.alphabet.specs.declared.refusal.Refusal.{Refusal}
use Rattle.alphabet.specs.Questions.{ask◌else◌then◌, by, in_bounds}
use Rattle.alphabet.specs.Symbols.{Coding}
use Rattle.alphabet.specs.Names.{known, numbered}

-- n symbols from symbol `start` on, of a file of which the bytes from `offset` on are lent: each is the symbol of its own b bits
unfoldable pub window : Coding → List ℕ → ℕ → ℕ → ℕ → List ℕ
window A lent offset start n = map A.symbol (codes_from A.width lent offset start n)

-- question 6: every byte of a window's range is lent
unfoldable pub covers : Coding → List ℕ → ℕ → ℕ → ℕ → Bool
covers A lent offset start end = nat_le offset (first_byte A.width start) && nat_le (end_byte A.width end) (offset + length lent)

-- of some codes, how many stand before the first that the alphabet's own list lacks; all of them where it lacks none
unfoldable pub assigned_front : Coding → List ℕ → ℕ
assigned_front A [] = 0
assigned_front A (c ∷ codes) = cond (A.assigned c) (suc (assigned_front A codes)) 0

-- the first base of a window whose code the alphabet's own list lacks, counted from 0 at the sequence's start; the window's end where it lacks none
unfoldable pub first_lacking_of : Coding → List ℕ → ℕ → ℕ → ℕ → ℕ
first_lacking_of A lent offset start end = start + assigned_front A (codes_from A.width lent offset start (end - start))

-- request A7's question: the alphabet's own list has the code of every base of a window
abbrev pub all_assigned : Coding → List ℕ → ℕ → ℕ → ℕ → Bool
all_assigned A lent offset start end = nat_le end (first_lacking_of A lent offset start end)

-- ---- a zero-filling read

-- an empty window is answered at once; else asked: alphabet number, end and offset, memory for the bases
unfoldable pub read_at : ℕ → ℕ → ℕ → ℕ → ℕ → Result ℕ Refusal
read_at alphabet offset start end room =
    ask nat_lt start end else Ok 0 then
    ask known alphabet else Err (by 8 []) then
    ask in_bounds end && in_bounds offset else Err (by 2 []) then
    ask leb (end - start) room else Err (by 4 []) then
    Ok (end - start)

-- ---- the covered read

-- the same, and before the memory every byte of the window's range; codes are not asked about yet
unfoldable pub lent_at : ℕ → List ℕ → ℕ → ℕ → ℕ → ℕ → Result ℕ Refusal
lent_at alphabet lent offset start end room =
    ask nat_lt start end else Ok 0 then
    ask known alphabet else Err (by 8 []) then
    ask in_bounds end && in_bounds offset else Err (by 2 []) then
    ask covers (numbered alphabet) lent offset start end else Err (by 3 []) then
    ask leb (end - start) room else Err (by 4 []) then
    Ok (end - start)

-- a window that is accepted so far is asked for its bases' codes; an empty one has none
abbrev pub looked_at : Coding → List ℕ → ℕ → ℕ → ℕ → Result ℕ Refusal → Result ℕ Refusal
looked_at A lent offset start end (Err q) = Err q
looked_at A lent offset start end (Ok n) =
    ask all_assigned A lent offset start end else Err (by 18 (first_lacking_of A lent offset start end ∷ [])) then
    Ok n

-- the covered read: the codes last
unfoldable pub covered_at : ℕ → List ℕ → ℕ → ℕ → ℕ → ℕ → Result ℕ Refusal
covered_at alphabet lent offset start end room = looked_at (numbered alphabet) lent offset start end (lent_at alphabet lent offset start end room)

-- ---- memory

-- what an answer of either writes: its bases
unfoldable pub read_writes : ℕ → List ℕ → ℕ → ℕ → Result ℕ Refusal → List ℕ
read_writes alphabet lent offset start (Ok count) = window (numbered alphabet) lent offset start count
read_writes alphabet lent offset start (Err q) = []

-- the output memory afterwards, of a zero-filling and of a covered read
unfoldable pub read_memory : ℕ → List ℕ → ℕ → ℕ → ℕ → List ℕ → List ℕ
read_memory alphabet lent offset start end memory =
    front (read_writes alphabet lent offset start (read_at alphabet offset start end (length memory))) memory

unfoldable pub covered_memory : ℕ → List ℕ → ℕ → ℕ → ℕ → List ℕ → List ℕ
covered_memory alphabet lent offset start end memory =
    front (read_writes alphabet lent offset start (covered_at alphabet lent offset start end (length memory))) memory
