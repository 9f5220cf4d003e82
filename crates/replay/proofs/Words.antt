-- The place of a byte in a word, a word's number, and memory behind what is lent.
use Rattle.std.proofs.Common.{◌≡◌, refl, sym, ap, ◌∙◌, drop-set-lt, drop-drop, ℕ, ◌+◌, ◌-◌, ◌*◌, ◌<◌, ◌≤◌, ◌==◌, IfSome, Some, None, add-one, arith}
use Rattle.std.proofs.Common.{List, [], ◌∷◌, length, get_or, take, drop, position, replicate, slice_set}
use Rattle.std.specs.List.{position_or_len}
use Rattle.std.proofs.lemmas.List.Recursion.{is_position_or_len}
use Rattle.std.proofs.lemmas.Grind.{common_steps}
use Rattle.std.proofs.lemmas.List.{drop_all, drop-replicate}
use Rattle.std.proofs.Math.Seq.{drop-cons}
use Rattle.replay.specs.Fields.{index_of, digit_of, written_behind}

-- the place of the first entry is the library's, by the test whether an entry is it
index_of_is : (x : ℕ) (xs : List ℕ) → index_of x xs ≡ position_or_len (λ (y : ℕ). y == x) xs
unfolding index_of
index_of_is x xs = is_position_or_len (index_of x) (λ (y : ℕ). y == x) refl (λ y ys. grind (arith, common_steps)) xs

-- where there is one
pub place_at : (x : ℕ) (xs : List ℕ) (i : ℕ) → position (λ (y : ℕ). y == x) xs ≡ Some i → (i ≡ index_of x xs) × (i < length xs)
place_at x xs i e = let f = index_of_is x xs in grind (arith, common_steps)

pub place_some : (x : ℕ) (xs : List ℕ) → IfSome (position (λ (y : ℕ). y == x) xs) (λ i. (i ≡ index_of x xs) × (i < length xs))
place_some x xs = let f = index_of_is x xs in grind (arith, common_steps)

-- where there is none
index_of_within : (x : ℕ) (xs : List ℕ) → index_of x xs ≤ length xs
unfolding index_of
index_of_within x [] = omega arith
index_of_within x (y ∷ ys) = let here = index_of_within x ys in grind (arith, common_steps)

pub place_none : (x : ℕ) (xs : List ℕ) → position (λ (y : ℕ). y == x) xs ≡ None → index_of x xs ≡ length xs
place_none x xs e = let f = index_of_is x xs in let w = index_of_within x xs in grind (arith, common_steps)

-- one digit more
pub written_more : (v : ℕ) (word : List ℕ) (i : ℕ) → i < length word
    → written_behind (v * 10 + digit_of (get_or word i 0)) (drop (i + 1) word) ≡ written_behind v (drop i word)
unfolding written_behind
written_more v word i h = rw (drop-cons word i 0 h, add-one) refl

-- no digit left
pub written_whole : (v : ℕ) (word : List ℕ) (i : ℕ) → length word ≤ i → written_behind v (drop i word) ≡ v
unfolding written_behind
written_whole v word i h = rw (drop_all i word h) refl

-- a line without a space is its name
pub named_whole : (x : ℕ) (xs : List ℕ) → position (λ (y : ℕ). y == x) xs ≡ None → xs ≡ take (index_of x xs) xs
named_whole x xs e = let n = place_none x xs e in grind (arith, common_steps)

-- one byte more in front of what is left as it was
pub behind_more : (bytes : List ℕ) (room i byte blank : ℕ) → drop i bytes ≡ replicate (room - i) blank
    → drop (i + 1) (slice_set bytes i byte) ≡ replicate (room - (i + 1)) blank
behind_more bytes room i byte blank h =
    drop-set-lt (i + 1) bytes i byte (omega arith) ∙ sym (drop-drop 1 i bytes) ∙ ap (drop 1) h ∙ drop-replicate 1 (room - i) blank
    ∙ ap (λ n. replicate n blank) (omega arith)
