-- Display names and numbers. States the last two points of document 01, "Leaf 1: symbols and codes", and question 1.
use Rattle.std.specs.Prelude.{ℕ, Bool, List, [], ◌∷◌, nat_le, slice_index_or, Result, Ok, Err}
use Rattle.bits.specs.Tables.{bytes_of}
use Rattle.alphabet.specs.declared.refusal.Refusal.{Refusal}
use Rattle.alphabet.specs.Questions.{ask◌else◌then◌, by}
use Rattle.alphabet.specs.Symbols.{Coding, coding, coding_by}
use Rattle.alphabet.specs.declared.kind.AlphabetType.{AlphabetType}
use Rattle.alphabet.specs.declared.kind.AlphabetType.TheVariants.{Dna2bit, Dna3bit, DnaIupac, Protein, Ascii, Unknown}

-- an alphabet's display name
unfoldable pub display_name_of : AlphabetType → List ℕ
display_name_of Dna2bit = bytes_of "dna2bit"
display_name_of Dna3bit = bytes_of "dna3bit"
display_name_of DnaIupac = bytes_of "dnaio"
display_name_of Protein = bytes_of "protein"
display_name_of Ascii = bytes_of "ASCII"
display_name_of Unknown = bytes_of "Unknown"

-- the six kinds in the order of their numbers
abbrev pub kinds : List AlphabetType
kinds = Dna2bit ∷ Dna3bit ∷ DnaIupac ∷ Protein ∷ Ascii ∷ Unknown ∷ []

-- a kind's number
abbrev pub number_of : AlphabetType → ℕ
number_of Dna2bit = 0
number_of Dna3bit = 1
number_of DnaIupac = 2
number_of Protein = 3
number_of Ascii = 4
number_of Unknown = 5

-- question 1: is the alphabet number 0 to 5?
abbrev pub known : ℕ → Bool
known number = nat_le number 5

-- the kind of a known number (of another one nothing is asked; it counts as Unknown)
unfoldable pub kind_of : ℕ → AlphabetType
kind_of number = slice_index_or kinds number Unknown

-- the coding of a known number
abbrev pub numbered : ℕ → Coding
numbered number = coding (kind_of number)

-- the coding of a known number that texts are packed by, with the caller's choice
abbrev pub numbered_by : Bool → ℕ → Coding
numbered_by fold number = coding_by fold (kind_of number)

-- the kind that a number names
unfoldable pub named_at : ℕ → Result AlphabetType Refusal
named_at number = ask known number else Err (by 8 []) then Ok (kind_of number)
