-- Texts and the bytes that pack them. States the words of demand 3's sentences on an accepted `finalize` and on equal packed bytes.
use Rattle.std.specs.Prelude.{ℕ, ◌*◌, ◌^◌, ◌≤◌, ◌<◌, ◌≡◌, Bool, true, List, ◌++◌, map, length}
use Rattle.bits.specs.Tables.{at}
use Rattle.bits.specs.Packing.{bytes_for}
use Rattle.alphabet.specs.Symbols.{Coding}
use Rattle.alphabet.specs.Names.{known, numbered_by}
use Rattle.packing.specs.Encode.{packing}

-- every byte of a text is a member
abbrev pub Members : Coding → List ℕ → Type 0
Members A text = (i : ℕ) → i < length text → A.member (at text i) ≡ true

-- u is t followed by zero or more symbols of code zero; each byte counts as the symbol that it stands for
pub record Extends (A : Coding) (t u : List ℕ) : Type 0 where
  pub more : List ℕ
  pub zeros : (i : ℕ) → i < length more → A.code (at more i) ≡ 0
  pub joined : map A.canon u ≡ map A.canon (t ++ more)

-- a text, and the bytes that pack it by the alphabet of a number and a choice to fold
pub record Packed (alphabet : ℕ) (fold : Bool) (text packed : List ℕ) : Type 0 where
  pub has_alphabet : known alphabet ≡ true
  -- n members of one alphabet, n at most 2^60
  pub members : Members (numbered_by fold alphabet) text
  pub bounded : length text ≤ 2 ^ 60
  -- ceil(n · b / 8) bytes, and these
  pub counted : length packed ≡ bytes_for (length text * (numbered_by fold alphabet).width)
  pub packs : packed ≡ packing (numbered_by fold alphabet) text
