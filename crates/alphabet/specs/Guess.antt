-- The guesser. States document 01, "Leaf 2: the guesser", the mask of "Leaf 1", question 4 for the guesser, and the choice of request A1.
use Rattle.std.specs.Prelude.{ℕ, ◌+◌, ◌*◌, ◌/◌, ◌%◌, ◌^◌, Bool, true, cond, ◌&&◌, List, [], ◌∷◌, ◌==◌, bit_and, nat_le, slice_index_or, Result, Ok, Err}
use Rattle.std.specs.Int.Count.{count_trailing_zeros}
use Rattle.alphabet.specs.Questions.{ask◌else◌then◌, by}
use Rattle.alphabet.specs.Refusing.{◌keeping◌}
use Rattle.alphabet.specs.Symbols.{coding, folded, coding_by}
use Rattle.alphabet.specs.declared.kind.AlphabetType.{AlphabetType}
use Rattle.alphabet.specs.declared.kind.AlphabetType.TheVariants.{Dna2bit, Dna3bit, DnaIupac, Protein, Ascii, Unknown}
use Rattle.alphabet.specs.declared.refusal.Refused.{Refused}
use Rattle.alphabet.specs.declared.guesser.AlphabetGuesser.{AlphabetGuesser}

-- ---- masks

-- the alphabets that the guesser tries, in order
abbrev pub order : List AlphabetType
order = Dna2bit ∷ Dna3bit ∷ DnaIupac ∷ Protein ∷ Ascii ∷ []

-- whether bit i of a number is set, bit 0 being the lowest
abbrev pub is_set : ℕ → ℕ → Bool
is_set i m = m / 2 ^ i % 2 == 1

-- the number whose bit i is set exactly when alphabet i of a list holds the byte v
unfoldable pub holders : List AlphabetType → ℕ → ℕ
holders [] v = 0
holders (k ∷ ks) v = cond ((coding k).member v) 1 0 + 2 * holders ks v

-- a byte's entry in `ALPHABET_MASK`
unfoldable pub mask_of : ℕ → ℕ
mask_of v = holders order v

-- a mask once each byte's mask is ANDed to it
unfoldable pub masked : ℕ → List ℕ → ℕ
masked m [] = m
masked m (v ∷ text) = masked (bit_and m (mask_of v)) text

-- the alphabet whose place in the order is the count of a mask's trailing zero bits; a sound mask has one
unfoldable pub lowest : ℕ → AlphabetType
lowest m = slice_index_or order (count_trailing_zeros 8 m) Unknown

-- ---- the guess for a text

-- `guess_alphabet`: the mask starts at 31, and the masks are looked up for the text by the caller's choice
unfoldable pub guess_of : Bool → List ℕ → AlphabetType
guess_of fold text = lowest (masked 31 (folded fold text))

-- whether an alphabet holds every byte of a text, by the choice
unfoldable pub holds_all : Bool → AlphabetType → List ℕ → Bool
holds_all fold k [] = true
holds_all fold k (v ∷ text) = (coding_by fold k).member v && holds_all fold k text

-- the first alphabet of a list that holds every byte of a text, by the choice
unfoldable pub first_holding : Bool → List AlphabetType → List ℕ → AlphabetType
first_holding fold [] text = Unknown
first_holding fold (k ∷ ks) text = cond (holds_all fold k text) k (first_holding fold ks text)

-- ---- the guesser's calls

-- `new`: a guesser that has seen nothing
unfoldable pub fresh_guesser : Bool → AlphabetGuesser
fresh_guesser fold = record { acc = 31; fold = fold }

-- question 4: is the mask 16 to 31? (Either choice is sound.)
unfoldable pub sound_guesser : AlphabetGuesser → Bool
sound_guesser g = nat_le 16 g.acc && nat_le g.acc 31

-- the state after a text: the choice stays
abbrev pub guesser_after : AlphabetGuesser → List ℕ → AlphabetGuesser
guesser_after g text = record { acc = masked g.acc (folded g.fold text); fold = g.fold }

-- `update`
unfoldable pub guesser_update_at : AlphabetGuesser → List ℕ → Result AlphabetGuesser (Refused AlphabetGuesser)
guesser_update_at g text =
    ask sound_guesser g else Err (by 1 [] keeping g) then
    Ok (guesser_after g text)

-- `guess`: the alphabet of the state's mask
unfoldable pub guess_at : AlphabetGuesser → Result AlphabetType (Refused AlphabetGuesser)
guess_at g = ask sound_guesser g else Err (by 1 [] keeping g) then Ok (lowest g.acc)
