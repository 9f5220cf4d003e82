-- Symbols and codes. States document 01, "Leaf 1: symbols and codes", the rule of request A1 for one byte, and for request A7 which codes a list has.
use Rattle.std.specs.Prelude.{ℕ, suc, ◌-◌, ◌^◌, Bool, true, false, cond, not, ◌&&◌, ◌||◌, List, [], ◌∷◌, map, length, ◌==◌, nat_le, nat_lt}
use Prim.Native.Char.{code as ascii}
use Rattle.bits.specs.Tables.{at, tabulate, bytes_of}
use Rattle.alphabet.specs.declared.kind.AlphabetType.{AlphabetType}
use Rattle.alphabet.specs.declared.text.TextAlphabet.{TextAlphabet}
use Rattle.alphabet.specs.declared.kind.AlphabetType.TheVariants.{Dna2bit, Dna3bit, DnaIupac, Protein, Ascii, Unknown}

-- ---- the four symbol lists

-- pairs of symbol and code, the codes upward from n
unfoldable pub coded : ℕ → List ℕ → List (List ℕ)
coded n [] = []
coded n (v ∷ symbols) = (v ∷ n ∷ []) ∷ coded (suc n) symbols

unfoldable pub dna2bit : List (List ℕ)
dna2bit = coded 0 (bytes_of "TCAG")

unfoldable pub dna3bit : List (List ℕ)
dna3bit = coded 0 (bytes_of "ACGTNRYU")

unfoldable pub dna_iupac : List (List ℕ)
dna_iupac = coded 0 (bytes_of "NACMGRSKTWYUBDHV")

unfoldable pub protein : List (List ℕ)
protein = coded 0 (bytes_of "ACDEFGHIKLMNPQRSTVWY*X-.UBZOJ")

-- ---- what follows from a list

-- a pair's symbol, and its code
abbrev pub symbol_of : List ℕ → ℕ
symbol_of pair = at pair 0

abbrev pub code_of : List ℕ → ℕ
code_of pair = at pair 1

-- whether v stands in a list
unfoldable pub among : List ℕ → ℕ → Bool
among [] v = false
among (x ∷ xs) v = v == x || among xs v

-- the value of the first pair whose key is x, and `none` where no pair has that key
unfoldable pub found : (key value : List ℕ → ℕ) → ℕ → List (List ℕ) → ℕ → ℕ
found key value none [] x = none
found key value none (p ∷ pairs) x = cond (x == key p) (value p) (found key value none pairs x)

-- ---- what a coder knows of an alphabet

pub record Coding : Type 0 where
  -- b, the bits per symbol
  pub width : ℕ
  -- the symbol that a byte stands for
  pub canon : ℕ → ℕ
  -- whether that is a symbol of the alphabet
  pub member : ℕ → Bool
  -- a byte's entry in the encoding table: a member's code, FF for a non-member
  pub code : ℕ → ℕ
  -- a code's symbol
  pub symbol : ℕ → ℕ
  -- whether a code is that of a symbol
  pub assigned : ℕ → Bool

-- the alphabet of b bits that follows from a list: each byte stands for itself, so lowercase letters are no members; codes that the list lacks decode to
-- `unassigned`
unfoldable pub listed : ℕ → List (List ℕ) → ℕ → Coding
listed b pairs unassigned =
    record {
      width = b;
      canon = λ v. v;
      member = among (map symbol_of pairs);
      code = found symbol_of code_of 0xff pairs;
      symbol = found code_of symbol_of unassigned pairs;
      assigned = among (map code_of pairs);
    }

-- the alphabet of all bytes, each its own code
unfoldable pub plain : Coding
plain = record { width = 8; canon = λ v. v; member = λ v. nat_lt v 256; code = λ v. v; symbol = λ c. c; assigned = λ c. nat_lt c 256 }

-- the table of alphabets; Unknown is coded as Ascii. The three lists of bases have a symbol for every code of their width: N stands only for codes
-- that no such width can write, as in the Rust's tables
unfoldable pub coding : AlphabetType → Coding
coding Dna2bit = listed 2 dna2bit (ascii "N")
coding Dna3bit = listed 3 dna3bit (ascii "N")
coding DnaIupac = listed 4 dna_iupac (ascii "N")
coding Protein = listed 5 protein (ascii "X")
coding Ascii = plain
coding Unknown = plain

-- ---- lowercase on the way in. States request A1: a caller may choose that texts are folded. What guesses and packs goes by the choice; what reads knows none

-- a lowercase letter, 61 to 7A
abbrev pub lowercase : ℕ → Bool
lowercase v = nat_le 0x61 v && nat_le v 0x7a

-- the uppercase letter of a lowercase one; any other byte is itself
unfoldable pub upper : ℕ → ℕ
upper v = cond (lowercase v) (v - 0x20) v

-- what a byte stands for: with folding its uppercase letter, without folding itself
abbrev pub canon : Bool → ℕ → ℕ
canon true v = upper v
canon false v = v

-- a text, each byte as what it stands for
abbrev pub folded : Bool → List ℕ → List ℕ
folded true text = map upper text
folded false text = text

-- a table by the bytes' values, each place with the entry of what its byte stands for
abbrev pub folded_entries : Bool → List ℕ → List ℕ
folded_entries fold entries = tabulate (length entries) (λ v. at entries (canon fold v))

-- the alphabets that fold: the four that are bit-packed
abbrev pub folds : AlphabetType → Bool
folds Dna2bit = true
folds Dna3bit = true
folds DnaIupac = true
folds Protein = true
folds Ascii = false
folds Unknown = false

-- an alphabet in which each byte has the membership and the code of f of it; what it reads is as before
abbrev pub through : (ℕ → ℕ) → Coding → Coding
through f A =
    record {
      width = A.width;
      canon = λ v. A.canon (f v);
      member = λ v. A.member (f v);
      code = λ v. A.code (f v);
      symbol = A.symbol;
      assigned = A.assigned;
    }

-- the coding that texts are packed by, with the caller's choice
abbrev pub coding_by : Bool → AlphabetType → Coding
coding_by fold k = through (canon (fold && folds k)) (coding k)

-- the coding of an alphabet that a text is taken by
abbrev pub coding_of : TextAlphabet → Coding
coding_of t = coding_by t.fold t.kind

-- ---- the check of a list, the Rust's `check_symbols`

-- a pair's symbol is a byte and no lowercase letter, and its code fits b bits
abbrev pub fine : ℕ → List ℕ → Bool
fine b pair = nat_lt (symbol_of pair) 256 && (not (lowercase (symbol_of pair)) && nat_lt (code_of pair) (2 ^ b))

-- neither a pair's symbol nor its code stands in any of the pairs behind it
abbrev pub once : List ℕ → List (List ℕ) → Bool
once pair pairs = not (among (map symbol_of pairs) (symbol_of pair)) && not (among (map code_of pairs) (code_of pair))

unfoldable pub check_symbols : ℕ → List (List ℕ) → Bool
check_symbols b [] = true
check_symbols b (p ∷ pairs) = fine b p && (once p pairs && check_symbols b pairs)
