-- Laws of `tabulate`: its length, its entries, and a store into it.
use mathlib.Core.Path.{◌≡◌, refl, sym, ap, ap₂, ◌∙◌}
use mathlib.Core.Bool.{Bool, true, false, cond}
use mathlib.Core.List.{List, [], ◌∷◌, ◌++◌, map, map-append, append-nil, append_assoc}
use Prim.Native.Nat.{ℕ, zero, suc, ◌+◌, ◌<◌}
use native.Mathlib.Nat.{add-zero, add-suc, not-suc-le-zero, le_of_suc-le-suc}
use native.Mathlib.Decide.{dec_lt}
use native.Mathlib.Omega.{arith}
use borrow.Author.Count.{below_more}
use borrow.Author.Tests.{eqb-true, eqb-false}
use lib.Dec.{eqb}
use lib.ListN.{length, get_or, set, drop, replicate, length-append, length-set, length-replicate, get_or-replicate, get_or-append}
use lib.Seq.{ext_get_or, drop-cons, set_at, get_or_at, get_or-set_same, get_or-set_other}
use Rattle.bits.specs.Tables.{tabulate}

module _ {A : Type 0} where
  pub length-tabulate : (n : ℕ) (f : ℕ → A) → length (tabulate n f) ≡ n
  unfolding tabulate
  length-tabulate zero f = refl
  length-tabulate (suc n) f = rw (length-append (tabulate n f)) (omega (arith, length-tabulate n f))

  -- entry i is f i
  pub get_d_tabulate : (n : ℕ) (f : ℕ → A) (i : ℕ) (d : A) → i < n → get_or (tabulate n f) i d ≡ f i
  unfolding tabulate
  get_d_tabulate zero f i d h = absurd (not-suc-le-zero h)
  get_d_tabulate (suc n) f i d h = go (λ l. get_d_tabulate n f i d l) (dec_lt i n)
    where
      go : (i < n → get_or (tabulate n f) i d ≡ f i) → Dec (i < n) → get_or (tabulate n f ++ (f n ∷ [])) i d ≡ f i
      go ih (yes l) = get_or-append (tabulate n f) (f n ∷ []) d i (rw (length-tabulate n f) l) ∙ ih l
      go ih (no m) =
          let e : n ≡ i = omega arith in
          get_or_at (tabulate n f) (f n) [] d i (length-tabulate n f ∙ e) ∙ ap f e

  -- a list of n entries that are f's is f written out
  pub is_tabulate : (n : ℕ) (f : ℕ → A) (d : A) (t : List A) → length t ≡ n → ((i : ℕ) → i < n → get_or t i d ≡ f i) → t ≡ tabulate n f
  is_tabulate n f d t e h =
      ext_get_or d t (tabulate n f) (e ∙ sym (length-tabulate n f)) (λ i l. h i (rw e at l) ∙ sym (get_d_tabulate n f i d (rw e at l)))

  pub tabulate_ext : (n : ℕ) (f g : ℕ → A) → ((i : ℕ) → i < n → f i ≡ g i) → tabulate n f ≡ tabulate n g
  unfolding tabulate
  tabulate_ext zero f g h = refl
  tabulate_ext (suc n) f g h =
      ap₂ (λ (l : List A) (x : A). l ++ (x ∷ [])) (tabulate_ext n f g (λ i m. h i (omega arith))) (h n (omega arith))

  -- a table of one value
  pub replicate-tabulate : (n : ℕ) (d : A) → replicate n d ≡ tabulate n (λ i. d)
  replicate-tabulate n d = is_tabulate n (λ i. d) d (replicate n d) (length-replicate n d) (λ i h. get_or-replicate n i d d h)

  -- f with the value a at k
  abbrev pub with_at : (ℕ → A) → ℕ → A → ℕ → A
  with_at f k a i = cond (eqb i k) a (f i)

  -- a store at any place, past the end too, where it changes nothing
  pub set_tabulate : (n : ℕ) (f : ℕ → A) (k : ℕ) (a : A) → set (tabulate n f) k a ≡ tabulate n (with_at f k a)
  set_tabulate n f k a =
      is_tabulate n (with_at f k a) a (set (tabulate n f) k a) (length-set (tabulate n f) k a ∙ length-tabulate n f) (λ i h. go i h (eqb i k) refl)
    where
      go : (i : ℕ) → i < n → (b : Bool) → eqb i k ≡ b → get_or (set (tabulate n f) k a) i a ≡ cond b a (f i)
      go i h true e =
          let q : i ≡ k = eqb-true i k e in
          rw q (get_or-set_same (tabulate n f) k a a (rw (length-tabulate n f) (rw q at h)))
      go i h false e = get_or-set_other (tabulate n f) k i a a (eqb-false i k e) ∙ get_d_tabulate n f i a h

  -- a table filled from the front: one more entry
  pub front_more : (f : ℕ → A) (d : A) (t : List A) (v : ℕ) → v < length t → ((k : ℕ) → k < v → get_or t k d ≡ f k)
      → (k : ℕ) → k < v + 1 → get_or (set t v (f v)) k d ≡ f k
  front_more f d t v h e =
      below_more _ _ (λ k l. get_or-set_other t v k (f v) d (λ q. omega arith) ∙ e k l) (get_or-set_same t v (f v) d h)

  -- within a list it does not matter what stands past its end
  pub get_or_within : (l : List A) (i : ℕ) (d e : A) → i < length l → get_or l i d ≡ get_or l i e
  get_or_within [] i d e h = absurd (not-suc-le-zero h)
  get_or_within (x ∷ l) zero d e h = refl
  get_or_within (x ∷ l) (suc i) d e h = get_or_within l i d e (le_of_suc-le-suc h)

-- a turn that stores entry n behind the first n
pub store : (n : ℕ) (f : ℕ → ℕ) (out : List ℕ) (v : ℕ) → n < length out → v ≡ f n
    → set (tabulate n f ++ drop n out) n v ≡ tabulate (suc n) f ++ drop (suc n) out
unfolding tabulate
store n f out v h e =
    rw (drop-cons out n 0 h, set_at (tabulate n f) (get_or out n 0) (drop (suc n) out) v n (length-tabulate n f), e)
    (sym (append_assoc (tabulate n f) (f n ∷ []) (drop (suc n) out)))

pub tabulate-add : (m n : ℕ) (f : ℕ → ℕ) → tabulate (m + n) f ≡ tabulate m f ++ tabulate n (λ i. f (m + i))
unfolding tabulate
tabulate-add m zero f = rw (add-zero m) (sym (append-nil (tabulate m f)))
tabulate-add m (suc n) f =
    rw (add-suc m n, tabulate-add m n f)
    (append_assoc (tabulate m f) (tabulate n (λ i. f (m + i))) (f (m + n) ∷ []))

-- a function of a table's entries
pub map-tabulate : (f g : ℕ → ℕ) (n : ℕ) → map f (tabulate n g) ≡ tabulate n (λ i. f (g i))
unfolding tabulate
map-tabulate f g zero = refl
map-tabulate f g (suc n) = map-append f (tabulate n g) (g n ∷ []) ∙ ap (λ (l : List ℕ). l ++ (f (g n) ∷ [])) (map-tabulate f g n)
