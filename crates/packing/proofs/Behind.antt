-- A text packed in two runs, one behind the other: the first over its first n symbols, the second, behind what pends then and into the memory behind what is written, over
-- the others.
use mathlib.Core.Path.{◌≡◌, refl, sym, ap, ap₂, ◌∙◌}
use mathlib.Core.Bool.{Bool}
use mathlib.Core.List.{List, [], ◌∷◌, ◌++◌, map, append_assoc, append-nil}
use Prim.Native.Nat.{ℕ, zero, suc, ◌+◌, ◌-◌, ◌*◌, ◌/◌, ◌%◌, ◌^◌, ◌≤◌, ◌<◌}
use native.Mathlib.Nat.{zero-mul, add-mul, mul_comm, mul_assoc, mul-le-mul_right, div-lt_iff_lt-mul, mul-add-div_right, mul-add-mod_self_right}
use native.Mathlib.Decide.{dec_lt}
use native.Mathlib.Omega.{arith}
use borrow.Author.Tests.{lt-ltb, le-ltb}
use lib.ListN.{length, take, drop, length-map, length-drop, drop_of_length-le}
use lib.Seq.{take_all, take_at, take-take, take-add, drop_at, drop-drop, get_or-take, get_or-drop, length-take-le}
use Rattle.bits.specs.Tables.{at, tabulate}
use Rattle.bits.specs.Streams.{bit_at, word, after, cut}
use Rattle.bits.specs.Packing.{at_hand}
use Rattle.bits.specs.Memory.{front}
use Rattle.bits.proofs.Words.{word_lt, word_bit, bit_cong}
use Rattle.bits.proofs.Hand.{hand_lt, hand-plain, cut_ext}
use Rattle.bits.proofs.Appended.{length_cut, cut_moved, cut-add}
use Rattle.alphabet.specs.Symbols.{Coding}
use Rattle.packing.specs.Run.{Pends, Ready, Clean, ran}

-- a part of a slice, as it is lent
abbrev pub part : List ℕ → ℕ → List ℕ
part xs k = take (length xs - k) (drop k xs)

pub part_is : (xs : List ℕ) (k : ℕ) → part xs k ≡ drop k xs
part_is xs k = take_all (length xs - k) (drop k xs) (omega (arith, length-drop k xs))

-- of a clean text it is clean
pub clean_part : (clean : Bool) (A : Coding) (text : List ℕ) (k : ℕ) → Clean clean A text → Clean clean A (part text k)
clean_part clean A text k all e j l =
    let long : length (part text k) ≡ length text - k = ap length (part_is text k) ∙ length-drop k text in
    ap (λ (xs : List ℕ). A.member (at xs j)) (part_is text k) ∙ ap A.member (get_or-drop k text j 0) ∙ all e (k + j) (omega (arith, long, l))

pub map-take : (f : ℕ → ℕ) (xs : List ℕ) (n : ℕ) → map f (take n xs) ≡ take n (map f xs)
map-take f xs zero = refl
map-take f [] (suc n) = refl
map-take f (x ∷ xs) (suc n) = ap (λ (l : List ℕ). f x ∷ l) (map-take f xs n)

pub map-drop : (f : ℕ → ℕ) (xs : List ℕ) (n : ℕ) → map f (drop n xs) ≡ drop n (map f xs)
map-drop f xs zero = refl
map-drop f [] (suc n) = refl
map-drop f (x ∷ xs) (suc n) = map-drop f xs n

-- the bits of the digits from digit n on
bit_drop : (b : ℕ) → 0 < b → (given : List ℕ) (n k : ℕ) → bit_at b (at (drop n given)) k ≡ bit_at b (at given) (n * b + k)
unfolding bit_at
bit_drop b some given n k =
    ap₂ (λ (x y : ℕ). x / 2 ^ (b - 1 - y) % 2)
    (get_or-drop n given (k / b) 0 ∙ ap (at given) (sym (mul-add-div_right some n k)))
    (sym (mul-add-mod_self_right n b k))

-- the bits up to the end of n digits are those of these digits alone
hand-take : (p a b : ℕ) → 0 < b → (given : List ℕ) (n k : ℕ) → k < p + n * b → at_hand p a b (take n given) k ≡ at_hand p a b given k
unfolding at_hand after
hand-take p a b some given n k h = go (dec_lt k p)
  where
    go : Dec (k < p) → after p a (bit_at b (at (take n given))) k ≡ after p a (bit_at b (at given)) k
    go (yes l) = rw (lt-ltb k p l)
    go (no m) =
        let low : p ≤ k = omega arith in
        let within : (k - p) / b < n = (div-lt_iff_lt-mul some).1 (omega arith) in
        rw (le-ltb k p low) (bit_cong b (at (take n given)) (at given) (k - p) (get_or-take n given ((k - p) / b) 0 within))

-- so a run over them alone is the beginning of a run over all
pub ran-take : (p a b : ℕ) → 0 < b → (given memory : List ℕ) (n : ℕ) → n ≤ length given
    → ran b p a (take n given) memory ≡ front (cut 8 (at_hand p a b given) 0 ((p + n * b) / 8)) memory
ran-take p a b some given memory n within =
    let w : ℕ = (p + n * b) / 8 in
    ap (λ (m : ℕ). front (cut 8 (at_hand p a b (take n given)) 0 ((p + m * b) / 8)) memory) (length-take-le n given within)
    ∙ ap (λ (l : List ℕ). front l memory)
    (cut_moved 8 (at_hand p a b (take n given)) (at_hand p a b given) 0 0 w (λ i h. hand-take p a b some given n (0 + i) (omega arith)))

-- where n digits end with a byte's bits, or leave q of the next byte, of value c
module _ (b p a : ℕ) (some : 0 < b) (given : List ℕ) (n w q c : ℕ) (place : p + n * b ≡ w * 8 + q) (held : c ≡ word (at_hand p a b given) (w * 8) q) where
  -- the bits from there on are those that pend, and then those of the other digits
  hand-drop : (k : ℕ) → at_hand q c b (drop n given) k ≡ at_hand p a b given (w * 8 + k)
  unfolding at_hand after
  hand-drop k = go (dec_lt k q)
    where
      go : Dec (k < q) → after q c (bit_at b (at (drop n given))) k ≡ after p a (bit_at b (at given)) (w * 8 + k)
      go (yes l) =
          rw (lt-ltb k q l) (ap (λ (x : ℕ). x / 2 ^ (q - 1 - k) % 2) held ∙ word_bit (at_hand p a b given) (hand_lt p a b given) (w * 8) q k l)
      go (no m) =
          let low : q ≤ k = omega arith in
          let past : p ≤ w * 8 + k = omega arith in
          let same : n * b + (k - q) ≡ w * 8 + k - p = omega arith in
          rw (le-ltb k q low, le-ltb (w * 8 + k) p past) (bit_drop b some given n (k - q) ∙ ap (bit_at b (at given)) same)

  -- so both runs are one over all
  ran_then : (memory out ys : List ℕ) → n ≤ length given → q < 8 → out ≡ front (cut 8 (at_hand p a b given) 0 w) memory
      → ys ≡ ran b q c (drop n given) (drop w out) → take w out ++ ys ≡ ran b p a given memory
  ran_then memory out ys fits few wrote r =
      let s : ℕ → ℕ = at_hand p a b given in
      let t : ℕ → ℕ = at_hand q c b (drop n given) in
      let rest : ℕ = length (drop n given) in
      let v : ℕ = (q + rest * b) / 8 in
      let sum : n + rest ≡ length given = omega (arith, length-drop n given) in
      let all : length given * b ≡ n * b + rest * b = ap (λ (x : ℕ). x * b) (sym sum) ∙ add-mul n rest b in
      let count : w + v ≡ (p + length given * b) / 8 = omega (arith, all, place) in
      let first : List ℕ = cut 8 s 0 w in
      let long : length first ≡ w = length_cut 8 s 0 w in
      let plain : out ≡ first ++ drop w memory = wrote ∙ ap (λ (x : ℕ). first ++ drop x memory) long in
      let kept : take w out ≡ first = ap (take w) plain ∙ take_at first (drop w memory) w long in
      let past : drop w out ≡ drop w memory = ap (drop w) plain ∙ drop_at first (drop w memory) w long in
      let second : List ℕ = cut 8 s (0 + w * 8) v in
      let behind : cut 8 t 0 v ≡ second = cut_moved 8 t s 0 (0 + w * 8) v (λ i h. hand-drop (0 + i) ∙ ap s (let z : w * 8 + (0 + i) ≡ 0 + w * 8 + i = omega arith in z)) in
      let tail : ys ≡ second ++ drop (w + v) memory =
      r
      ∙ ap₂ (λ (x : List ℕ) (y : ℕ). x ++ drop y (drop w out)) behind (length_cut 8 t 0 v)
      ∙ ap (λ (y : List ℕ). second ++ drop v y) past
      ∙ ap (λ (y : List ℕ). second ++ y) (drop-drop v w memory) in
      ap₂ (λ (x y : List ℕ). x ++ y) kept tail
      ∙ sym (append_assoc first second (drop (w + v) memory))
      ∙ ap (λ (x : List ℕ). x ++ drop (w + v) memory) (sym (cut-add 8 s 0 w v))
      ∙ ap (λ (y : ℕ). cut 8 s 0 (w + v) ++ drop y memory) (sym (length_cut 8 s 0 (w + v)))
      ∙ ap (λ (k : ℕ). front (cut 8 s 0 k) memory) count

-- the same of a text's digits, as the calls hand its parts on
module _ (b p a : ℕ) (g : ℕ → ℕ) (text memory : List ℕ) (ready : Ready b p a (length text) (length memory)) (n w q c : ℕ) (within : n ≤ length text) (few : q < 8)
    (place : p + n * b ≡ w * 8 + q) (held : c ≡ word (at_hand p a b (map g text)) (w * 8) q) where
  pub room : w ≤ length memory
  room = let up : n * b ≤ length text * b = mul-le-mul_right b within in omega (arith, place, up, ready.fits)

  pub ready_behind : (out : List ℕ) → length out ≡ length memory → Ready b q c (length (part text n)) (length (part out w))
  ready_behind out kept =
      let rest : length (part text n) ≡ length text - n = ap length (part_is text n) ∙ length-drop n text in
      let behind : length (part out w) ≡ length memory - w = ap length (part_is out w) ∙ length-drop w out ∙ ap (λ (x : ℕ). x - w) kept in
      let sum : n + (length text - n) ≡ length text = omega arith in
      let all : length text * b ≡ n * b + (length text - n) * b = ap (λ (x : ℕ). x * b) (sym sum) ∙ add-mul n (length text - n) b in
      let small : c < 2 ^ q = rw held (word_lt (at_hand p a b (map g text)) (hand_lt p a b (map g text)) (w * 8) q) in
      let old : Pends b p a (length text) = ready.pends in
      record {
        pends = record { some = old.some; narrow = old.narrow; few = few; small = small; bounded = omega (arith, rest, old.bounded) };
        fits = rw (rest, behind) (omega (arith, all, place, ready.fits));
      }

  -- what the first run leaves
  pub ran_head : ran b p a (map g (take n text)) memory ≡ front (cut 8 (at_hand p a b (map g text)) 0 w) memory
  ran_head =
      let inside : n ≤ length (map g text) = rw (length-map text g) within in
      let count : (p + n * b) / 8 ≡ w = omega (arith, place) in
      ap (λ (d : List ℕ). ran b p a d memory) (map-take g text n)
      ∙ ran-take p a b ready.pends.some (map g text) memory n inside
      ∙ ap (λ (x : ℕ). front (cut 8 (at_hand p a b (map g text)) 0 x) memory) count

  pub ran_behind : (out ys : List ℕ) → out ≡ front (cut 8 (at_hand p a b (map g text)) 0 w) memory → ys ≡ ran b q c (map g (part text n)) (part out w)
      → take w out ++ (ys ++ drop (length out - w) (drop w out)) ≡ ran b p a (map g text) memory
  ran_behind out ys wrote rest =
      let tail : map g (part text n) ≡ drop n (map g text) = ap (map g) (part_is text n) ∙ map-drop g text n in
      let other : ys ≡ ran b q c (drop n (map g text)) (drop w out) = rest ∙ ap₂ (λ (d m : List ℕ). ran b q c d m) tail (part_is out w) in
      let none : drop (length out - w) (drop w out) ≡ [] = drop_of_length-le (drop w out) {i = length out - w} (omega (arith, length-drop w out)) in
      let inside : n ≤ length (map g text) = rw (length-map text g) within in
      ap (λ (l : List ℕ). take w out ++ (ys ++ l)) none
      ∙ ap (λ (l : List ℕ). take w out ++ l) (append-nil ys)
      ∙ ran_then b p a ready.pends.some (map g text) n w q c place held memory out ys inside few wrote other

-- ---- where nothing pends

-- no bits have the value 0
pub nothing_held : (s : ℕ → ℕ) (k : ℕ) → 0 ≡ word s k 0
unfolding word
nothing_held s k = refl

-- the bits at hand are the digits'
pub front-plain : (b n : ℕ) (given memory : List ℕ) → front (cut 8 (bit_at b (at given)) 0 n) memory ≡ front (cut 8 (at_hand 0 0 b given) 0 n) memory
front-plain b n given memory = ap (λ (l : List ℕ). front l memory) (cut_ext 8 (bit_at b (at given)) (at_hand 0 0 b given) 0 n (λ i. sym (hand-plain 0 b given i)))

-- k blocks of c symbols are k blocks of m bytes, where one is
pub blocks_place : (b c m k : ℕ) → c * b ≡ m * 8 → 0 + k * c * b ≡ k * m * 8 + 0
blocks_place b c m k e =
    let both : k * c * b ≡ k * m * 8 = mul_assoc k c b ∙ ap (λ (x : ℕ). k * x) e ∙ sym (mul_assoc k m 8) in
    omega (arith, both)

-- 64 symbols of b bits are 8 · b bytes
pub blocks_bytes : (b k : ℕ) → k * 64 * b ≡ k * 8 * b * 8
blocks_bytes b k =
    let eight : k * 64 ≡ k * 8 * 8 = omega arith in
    ap (λ (x : ℕ). x * b) eight ∙ mul_assoc (k * 8) 8 b ∙ ap (λ (x : ℕ). k * 8 * x) (mul_comm 8 b) ∙ sym (mul_assoc (k * 8) b 8)

-- a run over n symbols that fill w bytes, and one over the m behind them, as these are lent, are one over all of them
module _ (b : ℕ) (g : ℕ → ℕ) (text memory : List ℕ) (ready : Ready b 0 0 (length text) (length memory)) (n m w : ℕ) (within : n + m ≤ length text) (place : n * b ≡ w * 8) where
  abbrev both : List ℕ
  both = take (n + m) text

  long : length both ≡ n + m
  long = length-take-le (n + m) text within

  both_ready : Ready b 0 0 (length both) (length memory)
  both_ready =
      let up : length both * b ≤ length text * b = mul-le-mul_right b (let z : length both ≤ length text = omega (arith, long) in z) in
      let old : Pends b 0 0 (length text) = ready.pends in
      record {
        pends = record { some = old.some; narrow = old.narrow; few = old.few; small = old.small; bounded = omega (arith, long, old.bounded) };
        fits = omega (arith, up, ready.fits);
      }

  there : 0 + n * b ≡ w * 8 + 0
  there = omega (arith, place)

  first : take n both ≡ take n text
  first = take-take n (n + m) text (omega arith)

  rest : part both n ≡ take (n + m - n) (drop n text)
  rest =
      let count : n + m - n ≡ m = omega arith in
      let short : length (take n text) ≡ n = length-take-le n text (omega arith) in
      part_is both n
      ∙ ap (drop n) (take-add n m text)
      ∙ drop_at (take n text) (take m (drop n text)) n short
      ∙ ap (λ (k : ℕ). take k (drop n text)) (sym count)

  pub more_room : w ≤ length memory
  more_room = room b 0 0 g both memory both_ready n w 0 0 (omega (arith, long)) (omega arith) there (nothing_held (at_hand 0 0 b (map g both)) (w * 8))

  -- they have memory
  pub block_long : length (take (n + m - n) (drop n text)) ≡ m
  block_long = length-take-le (n + m - n) (drop n text) (omega (arith, length-drop n text)) ∙ (let z : n + m - n ≡ m = omega arith in z)

  pub more_fits : (out : List ℕ) → length out ≡ length memory → length (take (n + m - n) (drop n text)) * b / 8 ≤ length (part out w)
  more_fits out kept =
      let behind : length (part out w) ≡ length memory - w = ap length (part_is out w) ∙ length-drop w out ∙ ap (λ (x : ℕ). x - w) kept in
      let up : (n + m) * b ≤ length text * b = mul-le-mul_right b within in
      rw (block_long, behind) (omega (arith, up, add-mul n m b, place, ready.fits))

  pub ran_more : (out ys : List ℕ) → out ≡ ran b 0 0 (map g (take n text)) memory → ys ≡ ran b 0 0 (map g (take (n + m - n) (drop n text))) (part out w)
      → take w out ++ (ys ++ drop (length out - w) (drop w out)) ≡ ran b 0 0 (map g (take (n + m) text)) memory
  ran_more out ys e h =
      let inside : n ≤ length both = omega (arith, long) in
      let held = nothing_held (at_hand 0 0 b (map g both)) (w * 8) in
      ran_behind b 0 0 g both memory both_ready n w 0 0 inside (omega arith) there held out ys
      (e ∙ ap (λ (l : List ℕ). ran b 0 0 (map g l) memory) (sym first) ∙ ran_head b 0 0 g both memory both_ready n w 0 0 inside (omega arith) there held)
      (h ∙ ap (λ (l : List ℕ). ran b 0 0 (map g l) (part out w)) (sym rest))

-- a run over no symbols leaves memory as it is
pub ran_none : (b : ℕ) (g : ℕ → ℕ) (text memory : List ℕ) → memory ≡ ran b 0 0 (map g (take (0 * 64) text)) memory
unfolding cut tabulate
ran_none b g text memory =
    let none : (0 + 0 * b) / 8 ≡ 0 = omega (arith, zero-mul b) in
    sym (ap (λ (n : ℕ). front (cut 8 (at_hand 0 0 b []) 0 n) memory) none)

-- whole blocks of eight symbols, packed by themselves, are a run
pub ran_eights : (b : ℕ) (given memory out : List ℕ) (n : ℕ) → length given ≡ n * 8 → out ≡ front (cut 8 (bit_at b (at given)) 0 (n * b)) memory → out ≡ ran b 0 0 given memory
ran_eights b given memory out n long e =
    let turned : n * 8 * b ≡ n * b * 8 = mul_assoc n 8 b ∙ ap (λ (x : ℕ). n * x) (mul_comm 8 b) ∙ sym (mul_assoc n b 8) in
    let bits : length given * b ≡ n * b * 8 = ap (λ (x : ℕ). x * b) long ∙ turned in
    let count : n * b ≡ (0 + length given * b) / 8 = omega (arith, bits) in
    e ∙ front-plain b (n * b) given memory ∙ ap (λ (k : ℕ). front (cut 8 (at_hand 0 0 b given) 0 k) memory) count
