-- Laws of `put_at`: memory that is written part by part.
use mathlib.Core.Path.{◌≡◌, sym, ap, ap₂, ◌∙◌}
use mathlib.Core.List.{List, [], ◌∷◌, ◌++◌, append_assoc}
use Prim.Native.Nat.{ℕ, ◌+◌, ◌≤◌, ◌<◌}
use native.Mathlib.Nat.{add-zero, zero-add, add_assoc}
use native.Mathlib.Numerals.{add-one}
use native.Mathlib.Omega.{arith}
use lib.ListN.{length, take, drop, set, length-append, length-drop, take-append-drop}
use lib.Seq.{length-take-le, take_at, drop_at, drop-drop, set_split}
use Rattle.bits.specs.Tables.{tabulate}
use Rattle.bits.specs.Memory.{front, put_at}
use Rattle.bits.proofs.Tabulated.{length-tabulate, tabulate-add}

pub put_none : (k : ℕ) (memory : List ℕ) → put_at k [] memory ≡ memory
unfolding put_at
put_none k memory = ap (λ (n : ℕ). take k memory ++ drop n memory) (add-zero k) ∙ take-append-drop k memory

pub put_front : (xs memory : List ℕ) → put_at 0 xs memory ≡ front xs memory
unfolding put_at
put_front xs memory = ap (λ (n : ℕ). xs ++ drop n memory) (zero-add (length xs))

-- a store
pub put_one : (k v : ℕ) (memory : List ℕ) → k < length memory → set memory k v ≡ put_at k (v ∷ []) memory
unfolding put_at
put_one k v memory h = set_split memory k v h ∙ ap (λ (n : ℕ). take k memory ++ v ∷ drop n memory) (sym (add-one k))

module _ (k : ℕ) (xs memory : List ℕ) (room : k + length xs ≤ length memory) where
  head : length (take k memory ++ xs) ≡ k + length xs
  head = length-append (take k memory) xs ∙ ap (λ (n : ℕ). n + length xs) (length-take-le k memory (omega arith))

  cut_in_two : put_at k xs memory ≡ (take k memory ++ xs) ++ drop (k + length xs) memory
  unfolding put_at
  cut_in_two = sym (append_assoc (take k memory) xs (drop (k + length xs) memory))

  pub put_length : length (put_at k xs memory) ≡ length memory
  put_length =
      ap length cut_in_two
      ∙ length-append (take k memory ++ xs) (drop (k + length xs) memory)
      ∙ ap₂ (λ (m n : ℕ). m + n) head (length-drop (k + length xs) memory)
      ∙ omega arith

  -- what is written behind what was written before
  pub put_put : (ys : List ℕ) → put_at (k + length xs) ys (put_at k xs memory) ≡ put_at k (xs ++ ys) memory
  unfolding put_at
  put_put ys =
      let p : List ℕ = take k memory ++ xs in
      let n : ℕ = k + length xs in
      let rest : List ℕ = drop n memory in
      let whole : n + length ys ≡ k + length (xs ++ ys) = add_assoc k (length xs) (length ys) ∙ ap (λ (m : ℕ). k + m) (sym (length-append xs ys)) in
      ap (λ (l : List ℕ). take n l ++ (ys ++ drop (n + length ys) l)) cut_in_two
      ∙ ap₂ (λ (l m : List ℕ). l ++ (ys ++ m)) (take_at p rest n head)
      (sym (drop-drop (length ys) n (p ++ rest)) ∙ ap (drop (length ys)) (drop_at p rest n head) ∙ drop-drop (length ys) n memory)
      ∙ append_assoc (take k memory) xs (ys ++ drop (n + length ys) memory)
      ∙ ap (λ (l : List ℕ). take k memory ++ l) (sym (append_assoc xs ys (drop (n + length ys) memory)))
      ∙ ap (λ (m : ℕ). take k memory ++ ((xs ++ ys) ++ drop m memory)) whole

-- ---- a table written from place `from` on, entry by entry or part by part

module _ (f : ℕ → ℕ) (from : ℕ) (memory : List ℕ) where
  -- its first n entries stand in memory
  abbrev pub Filled : ℕ → List ℕ → Type 0
  Filled n out = out ≡ put_at from (tabulate n f) memory

  pub none_filled : Filled 0 memory
  unfolding tabulate
  none_filled = sym (put_none from memory)

  module _ (n : ℕ) (out : List ℕ) (done : Filled n out) where
    pub filled-length : from + n ≤ length memory → length out ≡ length memory
    filled-length room = ap length done ∙ put_length from (tabulate n f) memory (omega (arith, length-tabulate n f))

    -- m entries more
    pub more_filled : (m : ℕ) (xs : List ℕ) → from + n + m ≤ length memory → xs ≡ tabulate m (λ i. f (n + i)) → Filled (n + m) (put_at (from + n) xs out)
    more_filled m xs room e =
        ap (λ (k : ℕ). put_at (from + k) xs out) (sym (length-tabulate n f))
        ∙ ap (put_at (from + length (tabulate n f)) xs) done
        ∙ put_put from (tabulate n f) memory (omega (arith, length-tabulate n f)) xs
        ∙ ap (λ (l : List ℕ). put_at from l memory) (ap (λ (l : List ℕ). tabulate n f ++ l) e ∙ sym (tabulate-add n m f))

    -- one entry more
    pub one_filled : (v : ℕ) → from + n < length memory → v ≡ f n → Filled (n + 1) (set out (from + n) v)
    unfolding tabulate
    one_filled v room e =
        put_one (from + n) v out (omega (arith, filled-length (omega arith)))
        ∙ more_filled 1 (v ∷ []) (omega arith) (ap (λ (x : ℕ). x ∷ []) (e ∙ ap f (sym (add-zero n))))
