-- The members of an alphabet in a text. States for document 01, questions 8 and 10, which byte of a text is its first non-member, and for request A5 how many
-- non-members it has. A text is looked at as it came: the choice to fold is in the coding.
use Rattle.std.specs.Prelude.{ℕ, suc, ◌+◌, ◌<◌, ◌≤◌, ◌≡◌, Bool, true, cond, not, ◌&&◌, List, [], ◌∷◌, length}
use Rattle.bits.specs.Tables.{at}
use Rattle.bits.specs.Counts.{how_many}
use Rattle.alphabet.specs.Symbols.{Coding}

-- the members before a text's first non-member: its place, and the text's length where there is none
unfoldable pub members_ahead_of : Coding → List ℕ → ℕ
members_ahead_of A [] = 0
members_ahead_of A (x ∷ xs) = cond (A.member x) (suc (members_ahead_of A xs)) 0

-- whether all of its bytes are members
unfoldable pub all_members_of : Coding → List ℕ → Bool
all_members_of A [] = true
all_members_of A (x ∷ xs) = A.member x && all_members_of A xs

-- how many of its bytes are no members
abbrev pub bad_in : Coding → List ℕ → ℕ
bad_in A text = how_many (λ v. not (A.member v)) text

-- ---- what is passed many bytes at a test: how far is free, and changes no answer

-- the n bytes from place i on are members
pub record Members (A : Coding) (text : List ℕ) (i n : ℕ) : Type 0 where
  pub each : (j : ℕ) → j < n → A.member (at text (i + j)) ≡ true

-- the first r bytes of a text are members
pub record Passed (A : Coding) (text : List ℕ) (r : ℕ) : Type 0 where
  pub within : r ≤ length text
  pub members : (j : ℕ) → j < r → A.member (at text j) ≡ true
