-- What is written: a window base by base, part by part and block by block.
use Rattle.std.proofs.Common.{◌≡◌, ℕ, ◌+◌, ◌-◌, ◌*◌, ◌<◌, ◌≤◌, List, [], ◌++◌, length, take, drop, sym, refl, ap, ◌∙◌, ap₂, append_assoc, append-nil, arith, length-append}
use Rattle.std.proofs.Common.{length-drop, ◌∷◌, ◌/◌, set, add-mul, one-mul, length-take-le, mul-le-mul_right, div-mul-le_self}
use native.Mathlib.Decide.{dec_lt}
use Rattle.std.proofs.lemmas.List.{drop_all}
use lib.Seq.{take_at, drop_at, drop-drop}
use borrow.Rule.Slice.PartMut.{put_mid}
use Rattle.bits.specs.Tables.{tabulate, at}
use Rattle.bits.specs.Memory.{front}
use Rattle.bits.proofs.Tabulated.{is_tabulate}
use Rattle.alphabet.specs.Symbols.{Coding}
use Rattle.windows.specs.Window.{window}
use Rattle.windows.proofs.Windows.{base_at, window_bases, length-window, window-add}

-- ---- parts of memory

-- the length of a part, and of the rest
pub part_length : (xs : List ℕ) (i k n : ℕ) → k ≡ n → i + n ≤ length xs → length (take k (drop i xs)) ≡ n
part_length xs i k n same room = ap (λ (m : ℕ). length (take m (drop i xs))) same ∙ length-take-le n (drop i xs) (omega (arith, length-drop i xs))

pub rest_length : (xs : List ℕ) (i : ℕ) → length (take (length xs - i) (drop i xs)) ≡ length xs - i
rest_length xs i = length-take-le (length xs - i) (drop i xs) (omega (arith, length-drop i xs))

-- ---- memory whose front is written

-- a part of it that begins where the written front ends, and is written
pub front_more : (xs memory out ys : List ℕ) (n k : ℕ) → out ≡ front xs memory → length xs ≡ n → length ys ≡ k → put_mid n k out ys ≡ front (xs ++ ys) memory
front_more xs memory out ys n k e len more =
    let whole : n + k ≡ length (xs ++ ys) = omega (arith, length-append xs ys) in
    ap₂ (λ (p q : List ℕ). p ++ (ys ++ drop k q)) (ap (take n) e ∙ take_at xs (drop (length xs) memory) n len)
    (ap (drop n) e ∙ drop_at xs (drop (length xs) memory) n len ∙ ap (λ (m : ℕ). drop m memory) len)
    ∙ ap (λ (l : List ℕ). xs ++ (ys ++ l)) (drop-drop k n memory ∙ ap (λ (m : ℕ). drop m memory) whole)
    ∙ sym (append_assoc xs ys (drop (length (xs ++ ys)) memory))

-- written to its end
pub front_whole : (xs memory : List ℕ) → length xs ≡ length memory → front xs memory ≡ xs
front_whole xs memory e = ap (λ (l : List ℕ). xs ++ l) (drop_all (length xs) memory (omega arith)) ∙ append-nil xs

module _ (A : Coding) (lent : List ℕ) (offset start : ℕ) where
  -- every base in its place
  pub each_written : (n : ℕ) (out : List ℕ) → length out ≡ n → ((i : ℕ) → i < n → at out i ≡ base_at A lent offset (start + i)) → out ≡ window A lent offset start n
  each_written n out len each = is_tabulate n (λ i. base_at A lent offset (start + i)) 0 out len each ∙ sym (window_bases A lent offset start n)

  -- a window that has no bases may begin anywhere
  pub begins_at : (at n : ℕ) → (0 < n → at ≡ start) → window A lent offset at n ≡ window A lent offset start n
  unfolding tabulate
  begins_at at n e = go (dec_lt 0 n)
    where
      go : Dec (0 < n) → window A lent offset at n ≡ window A lent offset start n
      go (yes h) = ap (λ (i : ℕ). window A lent offset i n) (e h)
      go (no h) = let none : n ≡ 0 = omega arith in rw none (window_bases A lent offset at 0 ∙ sym (window_bases A lent offset start 0))

  -- two parts
  pub two_parts : (m n k : ℕ) (xs ys : List ℕ) → xs ≡ window A lent offset start m → ys ≡ window A lent offset (start + m) n → m + n ≡ k → xs ++ ys ≡ window A lent offset start k
  two_parts m n k xs ys e f sum = ap₂ (λ (p q : List ℕ). p ++ q) e f ∙ sym (window-add A lent offset start m n) ∙ ap (window A lent offset start) sum

  -- n bases at the front of memory
  abbrev pub Begun : ℕ → List ℕ → List ℕ → Type 0
  Begun n memory out = out ≡ front (window A lent offset start n) memory

  pub none_begun : (memory : List ℕ) → Begun 0 memory memory
  unfolding tabulate
  none_begun memory = sym (ap (λ (l : List ℕ). front l memory) (window_bases A lent offset start 0))

  -- k more behind them
  pub more_begun : (n k : ℕ) (memory out ys : List ℕ) → Begun n memory out → ys ≡ window A lent offset (start + n) k → Begun (n + k) memory (put_mid n k out ys)
  more_begun n k memory out ys done e =
      front_more (window A lent offset start n) memory out ys n k done (length-window A lent offset start n) (ap length e ∙ length-window A lent offset (start + n) k)
      ∙ ap (λ (l : List ℕ). front l memory) (ap (λ (l : List ℕ). window A lent offset start n ++ l) e ∙ sym (window-add A lent offset start n k))

  -- and all that is left
  pub rest_begun : (n : ℕ) (memory out ys : List ℕ) → Begun n memory out → n ≤ length memory → length out ≡ length memory
      → ys ≡ window A lent offset (start + n) (length (take (length out - n) (drop n out))) → put_mid n (length out - n) out ys ≡ window A lent offset start (length memory)
  rest_begun n memory out ys done h len e =
      let all : n + (length out - n) ≡ length memory = omega arith in
      more_begun n (length out - n) memory out ys done (e ∙ ap (window A lent offset (start + n)) (rest_length out n))
      ∙ ap (λ (m : ℕ). front (window A lent offset start m) memory) all
      ∙ front_whole (window A lent offset start (length memory)) memory (length-window A lent offset start (length memory))

  -- block m of c bases, behind those before it
  pub next_begun : (c m k : ℕ) (memory out ys : List ℕ) → k ≡ c → Begun (m * c) memory out → ys ≡ window A lent offset (start + m * c) c → Begun ((m + 1) * c) memory (put_mid (m * c) k out ys)
  next_begun c m k memory out ys same done e =
      let next : m * c + k ≡ (m + 1) * c = omega (arith, add-mul m 1 c, one-mul c) in
      more_begun (m * c) k memory out ys done (e ∙ ap (window A lent offset (start + m * c)) (sym same)) ∙ ap (λ (n : ℕ). front (window A lent offset start n) memory) next

-- c entries a block, where there is room for block m
pub block_room : (m count c n : ℕ) → m < count → count ≤ n / c → m * c + c ≤ n
block_room m count c n h most =
    let up : (m + 1) * c ≤ n / c * c = mul-le-mul_right c (omega arith) in
    omega (arith, up, div-mul-le_self n c, add-mul m 1 c, one-mul c)

-- four stores
pub four_stores : (xs out : List ℕ) → length xs ≡ 4 → length out ≡ 4 → set (set (set (set out 0 (at xs 0)) 1 (at xs 1)) 2 (at xs 2)) 3 (at xs 3) ≡ xs
four_stores (a ∷ b ∷ c ∷ d ∷ []) (p ∷ q ∷ r ∷ s ∷ []) e f = refl
four_stores xs out e f = absurd (omega arith)
