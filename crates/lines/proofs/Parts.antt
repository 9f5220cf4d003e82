-- Laws of text at the front of memory.
use mathlib.Core.Path.{◌≡◌, sym, ap, ◌∙◌}
use mathlib.Core.List.{List, [], ◌∷◌, ◌++◌, append_assoc}
use Prim.Native.Nat.{ℕ, ◌+◌, ◌≤◌, ◌<◌}
use native.Mathlib.Omega.{arith}
use borrow.Author.Tests.{le-leb, lt-leb}
use lib.ListN.{length, drop, set, length-append}
use lib.Seq.{drop_at}
use Rattle.std.specs.Prelude.{Some, None}
use Rattle.bits.specs.Memory.{front}
use Rattle.lines.specs.Lines.{line, put_count, put_memory}

pub line_length : (text : List ℕ) → length (line text) ≡ length text + 1
unfolding line
line_length text = length-append text (10 ∷ [])

-- a text with a byte behind it in which the line's end is stored
pub ended : (text wanted last : List ℕ) → text ≡ wanted → length last ≡ 1 → text ++ set last 0 10 ≡ line wanted
unfolding line
ended text wanted (v ∷ []) e h = ap (λ (l : List ℕ). l ++ (10 ∷ [])) e
ended text wanted [] e h = absurd (omega arith)
ended text wanted (v ∷ w ∷ last) e h = absurd (omega arith)

-- what a function answers where the text fits, and where it does not
module _ (text memory : List ℕ) where
  pub whole_count : length text ≤ length memory → put_count text (length memory) ≡ Some (length text)
  unfolding put_count
  whole_count h = rw (le-leb (length text) (length memory) h)

  pub whole_memory : length text ≤ length memory → put_memory text memory ≡ front text memory
  unfolding put_memory
  whole_memory h = rw (le-leb (length text) (length memory) h)

  pub short_count : length memory < length text → put_count text (length memory) ≡ None
  unfolding put_count
  short_count h = rw (lt-leb (length text) (length memory) h)

  pub short_memory : length memory < length text → put_memory text memory ≡ memory
  unfolding put_memory
  short_memory h = rw (lt-leb (length text) (length memory) h)

-- a text that was put over as many bytes of memory, in one part or more
pub one_over : (text memory was rest : List ℕ) → memory ≡ was ++ rest → length text ≡ length was → text ++ rest ≡ put_memory text memory
one_over text memory was rest e n =
    ap (λ (l : List ℕ). text ++ l) (sym (ap (drop (length text)) e ∙ drop_at was rest (length text) (sym n)))
    ∙ sym (whole_memory text memory (omega (arith, ap length e, length-append was rest)))

pub two_over :
    (a b memory x y rest : List ℕ) → memory ≡ x ++ (y ++ rest) → length a ≡ length x → length b ≡ length y → a ++ (b ++ rest) ≡ put_memory (a ++ b) memory
two_over a b memory x y rest e m n =
    sym (append_assoc a b rest)
    ∙ one_over (a ++ b) memory (x ++ y) rest (e ∙ sym (append_assoc x y rest)) (omega (arith, length-append a b, length-append x y))

pub three_over :
    (a b d memory x y z rest : List ℕ) → memory ≡ x ++ (y ++ (z ++ rest)) → length a ≡ length x → length b ≡ length y → length d ≡ length z
    → a ++ (b ++ (d ++ rest)) ≡ put_memory (a ++ (b ++ d)) memory
three_over a b d memory x y z rest e l m n =
    ap (λ (k : List ℕ). a ++ k) (sym (append_assoc b d rest))
    ∙ two_over a (b ++ d) memory x (y ++ z) rest (e ∙ ap (λ (k : List ℕ). x ++ k) (sym (append_assoc y z rest))) l (omega (arith, length-append b d, length-append y z))
