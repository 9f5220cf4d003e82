-- Tables: a function of a place, written out as a list. And the bytes of a text that is written as a literal.
use Rattle.std.specs.Prelude.{ℕ, zero, suc, ◌<◌, List, [], ◌∷◌, ◌++◌, get_or}
use Prim.Native.Char.{code as ascii}
use Prim.Native.String.{String, [] as ε, ◌∷◌ as ◌then◌}

-- f 0, f 1, .., f (n - 1)
unfoldable pub tabulate : {A : Type 0} → ℕ → (ℕ → A) → List A
tabulate zero f = []
tabulate (suc n) f = tabulate n f ++ (f n ∷ [])

-- entry i of a list of numbers, and 0 past its end
abbrev pub at : List ℕ → ℕ → ℕ
at xs i = get_or xs i 0

-- every entry of a list is a byte
abbrev pub Bytes : List ℕ → Type 0
Bytes xs = (i : ℕ) → at xs i < 256

-- the bytes of a text
unfoldable pub bytes_of : String → List ℕ
bytes_of ε = []
bytes_of (c then text) = ascii c ∷ bytes_of text
