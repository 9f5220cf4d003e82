-- The words of a list's lines.
use Rattle.std.specs.Prelude.{ℕ, suc, ◌+◌, ◌*◌, cond, eqb, List, [], ◌∷◌}

-- the place of the first entry that is the one asked for, and the length where there is none
unfoldable pub index_of : ℕ → List ℕ → ℕ
index_of x [] = 0
index_of x (y ∷ ys) = cond (eqb y x) 0 (suc (index_of x ys))

-- the sixteen hexadecimal digits, 0 to 9 and a to f, as bytes
abbrev pub hex_digits : List ℕ
hex_digits = 48 ∷ 49 ∷ 50 ∷ 51 ∷ 52 ∷ 53 ∷ 54 ∷ 55 ∷ 56 ∷ 57 ∷ 97 ∷ 98 ∷ 99 ∷ 100 ∷ 101 ∷ 102 ∷ []

-- what a byte is worth as a digit: its place among them, and 16 for any other
abbrev pub digit_of : ℕ → ℕ
digit_of byte = index_of byte hex_digits

-- the number that digits write in decimal behind one of value v
unfoldable pub written_behind : ℕ → List ℕ → ℕ
written_behind v [] = v
written_behind v (d ∷ digits) = written_behind (v * 10 + digit_of d) digits

-- the number that digits write in decimal
abbrev pub written : List ℕ → ℕ
written digits = written_behind 0 digits
