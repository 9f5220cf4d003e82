-- What the calls on alphabets tell. States document 01, "Leaf 1: symbols and codes", and questions 1 and 9, for hosts.
use Rattle.std.specs.Prelude.{ℕ, cond, List, [], ◌∷◌, leb, length}
use Rattle.bits.specs.Memory.{front}
use Rattle.alphabet.specs.Questions.{ask◌else◌then◌, Reply, accepted, refused}
use Rattle.alphabet.specs.Names.{display_name_of, known, kind_of, numbered}

-- the bits per symbol
unfoldable pub bits_told : ℕ → Reply
bits_told alphabet = ask known alphabet else refused 8 [] then accepted ((numbered alphabet).width ∷ [])

-- 1 for a member, else 0
unfoldable pub contains_told : ℕ → ℕ → Reply
contains_told alphabet byte = ask known alphabet else refused 8 [] then accepted (cond ((numbered alphabet).member byte) 1 0 ∷ [])

-- the length of the display name, where the memory holds it
unfoldable pub name_told : ℕ → ℕ → Reply
name_told alphabet room =
    ask known alphabet else refused 8 [] then
    ask leb (length (display_name_of (kind_of alphabet))) room else refused 4 [] then
    accepted (length (display_name_of (kind_of alphabet)) ∷ [])

-- the memory afterwards: the name at the front of one that holds it
unfoldable pub name_memory : ℕ → List ℕ → List ℕ
name_memory alphabet memory =
    ask known alphabet else memory then
    ask leb (length (display_name_of (kind_of alphabet))) (length memory) else memory then
    front (display_name_of (kind_of alphabet)) memory
