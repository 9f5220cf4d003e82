-- Numbers and bytes as text. States what document 01, on the program `packseq`, calls decimal and lowercase hexadecimal.
use Rattle.std.specs.Prelude.{ℕ, zero, suc, ◌/◌, ◌%◌, cond, List, [], ◌∷◌, ◌++◌, ltb}
use Rattle.bits.specs.Tables.{at, bytes_of}

-- the character of a digit
unfoldable pub digit : ℕ → ℕ
digit d = at (bytes_of "0123456789abcdef") d

-- the decimal digits of a number that has at most k of them: below ten it is one digit; else those of n / 10, and that of n % 10 behind them
unfoldable pub decimal_in : ℕ → ℕ → List ℕ
decimal_in zero n = []
decimal_in (suc k) n = cond (ltb n 10) (digit n ∷ []) (decimal_in k (n / 10) ++ (digit (n % 10) ∷ []))

-- the decimal digits of a number of 64 bits, which has at most twenty
unfoldable pub decimal : ℕ → List ℕ
decimal n = decimal_in 20 n

-- bytes in hexadecimal, two digits each
unfoldable pub hex : List ℕ → List ℕ
hex [] = []
hex (v ∷ bytes) = digit (v / 16) ∷ digit (v % 16) ∷ hex bytes
