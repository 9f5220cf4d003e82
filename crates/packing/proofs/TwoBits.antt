-- Dna2bit packed by arithmetic: a byte's digit, four digits as one byte, 64 digits as 16, and all whole blocks of a text.
use mathlib.Core.Path.{◌≡◌, sym, ap, ap₂, ◌∙◌, subst}
use mathlib.Core.Bool.{Bool, true, cond, ◌||◌}
use mathlib.Core.List.{List, map, ◌++◌}
use borrow.Rule.Slice.PartMut.{put_mid, Post-is}
use Rattle.bits.proofs.Appended.{length_cut}
use Prim.Native.Nat.{ℕ, ◌+◌, ◌-◌, ◌*◌, ◌/◌, ◌%◌, ◌^◌, ◌≤◌, ◌<◌}
use native.Mathlib.Nat.{zero-add, add-zero, add_comm, mod-eq_of_lt, lt_of_le_of_lt, mul-add-div_right, mul-add-mod_self_right}
use native.Mathlib.Omega.{arith}
use lib.Bits.{bit_and, and_le_l}
use lib.Dec.{T, eqb, eqb→eq, lit<}
use lib.ListN.{length, take, drop, length-map, get_or-map}
use lib.Pow.{high, low}
use lib.Seq.{get_or-take, length-take-le}
use Rattle.bits.specs.Tables.{tabulate, at, Bytes}
use Rattle.bits.specs.Streams.{bit_at, word, cut}
use Rattle.bits.specs.Packing.{at_hand}
use Rattle.bits.specs.Memory.{front, put_at}
use Rattle.bits.proofs.Computed.{passes, below}
use Rattle.bits.proofs.Tabulated.{tabulate_ext, get_d_tabulate, get_or_within}
use Rattle.bits.proofs.Words.{word-add, word_ext, word-whole, bit_cong}
use Rattle.bits.proofs.Hand.{hand-plain}
use Rattle.bits.proofs.Put.{Filled, none_filled, more_filled, put_front}
use Rattle.alphabet.specs.Symbols.{coding_by}
use Rattle.alphabet.specs.declared.kind.AlphabetType.TheVariants.{Dna2bit}
use Rattle.alphabet.proofs.Laws.{dna2bit_digits, dna2bit-bits, ucsc_digit, taken, widths}
use Rattle.packing.specs.Encode.{digit_of, digits_of}
use Rattle.packing.specs.Run.{ran}

-- ---- a byte

-- what `tame` and `code` make of one
abbrev pub tamed : ℕ → ℕ
tamed x = cond (eqb (bit_and x 0xfd) 65 || eqb x 84) x 71

abbrev pub code_in : ℕ → ℕ
code_in x = (6 - x / 2 % 4) % 4

-- at every byte that is the digit by its bits: computed
abbrev is_digit : ℕ → Bool
is_digit x = eqb (code_in (tamed x)) (ucsc_digit x)

every_byte : T (passes is_digit 0 256)
every_byte = tt

-- digits of two bits
width : (fold : Bool) → (coding_by fold Dna2bit).width ≡ 2
width fold = (taken fold Dna2bit).same_width ∙ widths.of_dna2bit

-- the rule over all 256 bytes, by either choice
pub digit_made : (fold : Bool) (v : ℕ) → v < 256 → code_in (tamed (bit_and v (cond fold 0xdf 0xff))) ≡ digit_of (coding_by fold Dna2bit) v
unfolding digit_of
digit_made fold v h =
    let x : ℕ = bit_and v (cond fold 0xdf 0xff) in
    eqb→eq (code_in (tamed x)) (ucsc_digit x) (below is_digit 256 every_byte x (lt_of_le_of_lt (and_le_l v (cond fold 0xdf 0xff)) h))
    ∙ sym (dna2bit_digits fold v h)
    ∙ ap (λ (b : ℕ). cond ((coding_by fold Dna2bit).member v) ((coding_by fold Dna2bit).code v) (2 ^ b - 1)) (sym (width fold))

-- of a member that is the code by its own bits
pub member_made : (fold : Bool) (v : ℕ) → v < 256 → (coding_by fold Dna2bit).member v ≡ true → code_in v ≡ digit_of (coding_by fold Dna2bit) v
unfolding digit_of
member_made fold v h m = sym (rw m (dna2bit-bits fold v h m))

digit_small : (fold : Bool) (v : ℕ) → v < 256 → digit_of (coding_by fold Dna2bit) v < 4
digit_small fold v h = rw (← digit_made fold v h) (omega arith)

-- ---- a number's k low bits, and what stands above them

above : (k a n x : ℕ) → a < 2 ^ k → x ≡ a + n * 2 ^ k → x / 2 ^ k ≡ n
above k a n x h e = ap (λ (y : ℕ). y / 2 ^ k) (e ∙ add_comm a (n * 2 ^ k)) ∙ high n k h

beneath : (k a n x : ℕ) → a < 2 ^ k → x ≡ a + n * 2 ^ k → x % 2 ^ k ≡ a
beneath k a n x h e = ap (λ (y : ℕ). y % 2 ^ k) (e ∙ add_comm a (n * 2 ^ k)) ∙ low n k h

-- ---- four codes, each in its byte of a number, the first lowest

abbrev pub FourCodes : ℕ → Type 0
FourCodes x = (x % 2 ^ 8 < 4) × ((x / 2 ^ 8 % 2 ^ 8 < 4) × ((x / 2 ^ 16 % 2 ^ 8 < 4) × (x / 2 ^ 24 < 4)))

-- the first on top
abbrev pub squeezed : ℕ → ℕ
squeezed x = x % 2 ^ 8 * 64 + x / 2 ^ 8 % 2 ^ 8 * 16 + x / 2 ^ 16 % 2 ^ 8 * 4 + x / 2 ^ 24

-- each joined with the next
abbrev pub pairs : ℕ → ℕ
pairs x = x * 2 ^ 2 % 2 ^ 32 + x / 2 ^ 8

of_pairs : (a b c d x : ℕ) → a < 4 → b < 4 → c < 4 → d < 4 → x ≡ a + b * 2 ^ 8 + c * 2 ^ 16 + d * 2 ^ 24
    → pairs x ≡ (a * 4 + b) + (b * 4 + c) * 2 ^ 8 + (c * 4 + d) * 2 ^ 16 + d * 4 * 2 ^ 24
of_pairs a b c d x ha hb hc hd e =
    let fits : x * 2 ^ 2 % 2 ^ 32 ≡ x * 2 ^ 2 = mod-eq_of_lt (omega arith) in
    let next : x / 2 ^ 8 ≡ b + c * 2 ^ 8 + d * 2 ^ 16 = above 8 a (b + c * 2 ^ 8 + d * 2 ^ 16) x (omega arith) (omega arith) in
    omega arith

-- and then each of these pairs with the one behind the next: the lowest byte has all four
of_fours : (p q r s y : ℕ) → p < 16 → q < 16 → r < 16 → s < 16 → y ≡ p + q * 2 ^ 8 + r * 2 ^ 16 + s * 2 ^ 24
    → (y * 2 ^ 4 % 2 ^ 32 + y / 2 ^ 16 < 2 ^ 32) × ((y * 2 ^ 4 % 2 ^ 32 + y / 2 ^ 16) % 2 ^ 8 ≡ p * 16 + r)
of_fours p q r s y hp hq hr hs e =
    let fits : y * 2 ^ 4 % 2 ^ 32 ≡ y * 2 ^ 4 = mod-eq_of_lt (omega arith) in
    let next : y / 2 ^ 16 ≡ r + s * 2 ^ 8 = above 16 (p + q * 2 ^ 8) (r + s * 2 ^ 8) y (omega arith) (omega arith) in
    let sum : y * 2 ^ 4 % 2 ^ 32 + y / 2 ^ 16 ≡ (p * 16 + r) + (q * 16 + s + r * 2 ^ 12 + s * 2 ^ 20) * 2 ^ 8 = omega arith in
    (omega arith, beneath 8 (p * 16 + r) (q * 16 + s + r * 2 ^ 12 + s * 2 ^ 20) (y * 2 ^ 4 % 2 ^ 32 + y / 2 ^ 16) (omega arith) sum)

pub squeezing : (x : ℕ) → FourCodes x → (pairs x * 2 ^ 4 % 2 ^ 32 + pairs x / 2 ^ 16 < 2 ^ 32) × ((pairs x * 2 ^ 4 % 2 ^ 32 + pairs x / 2 ^ 16) % 256 ≡ squeezed x)
squeezing x (ha, (hb, (hc, hd))) =
    let a : ℕ = x % 2 ^ 8 in
    let b : ℕ = x / 2 ^ 8 % 2 ^ 8 in
    let c : ℕ = x / 2 ^ 16 % 2 ^ 8 in
    let d : ℕ = x / 2 ^ 24 in
    let parts : x ≡ a + b * 2 ^ 8 + c * 2 ^ 16 + d * 2 ^ 24 = omega arith in
    let two = of_fours (a * 4 + b) (b * 4 + c) (c * 4 + d) (d * 4) (pairs x) (omega arith) (omega arith) (omega arith) (omega arith) (of_pairs a b c d x ha hb hc hd parts) in
    (two.0, two.1 ∙ omega arith)

-- of a number that four codes make they are these
codes_of_word : (a b c d x : ℕ) → a < 4 → b < 4 → c < 4 → d < 4 → x ≡ a + b * 2 ^ 8 + c * 2 ^ 16 + d * 2 ^ 24
    → FourCodes x × (squeezed x ≡ a * 64 + b * 16 + c * 4 + d)
codes_of_word a b c d x ha hb hc hd e =
    let n₁ : x / 2 ^ 8 ≡ b + (c + d * 2 ^ 8) * 2 ^ 8 = above 8 a (b + (c + d * 2 ^ 8) * 2 ^ 8) x (omega arith) (omega arith) in
    let n₂ : x / 2 ^ 16 ≡ c + d * 2 ^ 8 = above 16 (a + b * 2 ^ 8) (c + d * 2 ^ 8) x (omega arith) (omega arith) in
    let ea : x % 2 ^ 8 ≡ a = beneath 8 a (b + (c + d * 2 ^ 8) * 2 ^ 8) x (omega arith) (omega arith) in
    let eb : x / 2 ^ 8 % 2 ^ 8 ≡ b = beneath 8 b (c + d * 2 ^ 8) (x / 2 ^ 8) (omega arith) n₁ in
    let ec : x / 2 ^ 16 % 2 ^ 8 ≡ c = beneath 8 c d (x / 2 ^ 16) (omega arith) n₂ in
    let ed : x / 2 ^ 24 ≡ d = above 24 (a + b * 2 ^ 8 + c * 2 ^ 16) d x (omega arith) (omega arith) in
    ((rw ea ha, (rw eb hb, (rw ec hc, rw ed hd))), rw (ea, eb, ec, ed))

-- digits of two bits, four of which such a number has
module _ (f : ℕ → ℕ) (j x : ℕ) (small : (t : ℕ) → t < 4 → f (j * 4 + t) < 4)
    (e : x ≡ f (j * 4) + f (j * 4 + 1) * 2 ^ 8 + f (j * 4 + 2) * 2 ^ 16 + f (j * 4 + 3) * 2 ^ 24) where
  first : f (j * 4) < 4
  first = subst (λ (n : ℕ). f n < 4) (add-zero (j * 4)) (small 0 (omega arith))

  told : FourCodes x × (squeezed x ≡ f (j * 4) * 64 + f (j * 4 + 1) * 16 + f (j * 4 + 2) * 4 + f (j * 4 + 3))
  told = codes_of_word (f (j * 4)) (f (j * 4 + 1)) (f (j * 4 + 2)) (f (j * 4 + 3)) x first (small 1 (omega arith)) (small 2 (omega arith)) (small 3 (omega arith)) e

  pub four_codes : FourCodes x
  four_codes = told.0

  -- they are byte j of their bits
  pub byte_of_four : squeezed x ≡ word (bit_at 2 f) (0 + j * 8) 8
  byte_of_four =
      let s : ℕ → ℕ = bit_at 2 f in
      let k : ℕ = 0 + j * 8 in
      let one : (t : ℕ) → t < 4 → word s (k + t * 2) 2 ≡ f (j * 4 + t) = λ t h.
      let place : k + t * 2 ≡ (j * 4 + t) * 2 = omega arith in
      ap (λ (i : ℕ). word s i 2) place ∙ word-whole 2 f (j * 4 + t) ∙ mod-eq_of_lt (small t h) in
      let here : k ≡ j * 4 * 2 = omega arith in
      let top : word s k 2 ≡ f (j * 4) = ap (λ (i : ℕ). word s i 2) here ∙ word-whole 2 f (j * 4) ∙ mod-eq_of_lt first in
      omega (arith, told.1, top, word-add s k 6 2, word-add s k 4 2, word-add s k 2 2, one 1 (omega arith), one 2 (omega arith), one 3 (omega arith))

-- ---- digits from digit i on

bit_from : (w : ℕ) → 0 < w → (f : ℕ → ℕ) (i k : ℕ) → bit_at w (λ j. f (i + j)) k ≡ bit_at w f (i * w + k)
unfolding bit_at
bit_from w some f i k =
    ap₂ (λ (x y : ℕ). x / 2 ^ (w - 1 - y) % 2) (ap f (sym (mul-add-div_right some i k))) (sym (mul-add-mod_self_right i w k))

-- 64 of them, a byte each, have their bits
bytes_of_block : (f : ℕ → ℕ) (i : ℕ) → cut 8 (bit_at 2 (at (tabulate 64 (λ j. f (i + j))))) 0 16 ≡ cut 8 (bit_at 2 f) (i * 2) 16
unfolding cut
bytes_of_block f i =
    let g : ℕ → ℕ = λ j. f (i + j) in
    let s : ℕ → ℕ = bit_at 2 (at (tabulate 64 g)) in
    tabulate_ext 16 (λ t. word s (0 + t * 8) 8) (λ t. word (bit_at 2 f) (i * 2 + t * 8) 8)
    (λ t h.
    word_ext s (bit_at 2 f) (0 + t * 8) (i * 2 + t * 8) 8
    (λ u l.
    let k : ℕ = 0 + t * 8 + u in
    let within : k / 2 < 64 = omega arith in
    let place : i * 2 + k ≡ i * 2 + t * 8 + u = omega arith in
    bit_cong 2 (at (tabulate 64 g)) g k (get_d_tabulate 64 g (k / 2) 0 within) ∙ bit_from 2 (lit< tt) f i k ∙ ap (bit_at 2 f) place))

-- so the bytes that are made of 64 codes and stored in the place of 16 are those of the digits
pub block_stored : (f : ℕ → ℕ) (i : ℕ) (codes bytes : List ℕ) → codes ≡ tabulate 64 (λ j. f (i + j)) → bytes ≡ cut 8 (bit_at 2 (at codes)) 0 16
    → (w : ℕ) (memory : List ℕ) → w + 16 ≤ length memory → put_mid w (w + 16 - w) memory bytes ≡ put_at w (cut 8 (bit_at 2 f) (i * 2) 16) memory
unfolding put_at
block_stored f i codes bytes e h w memory room =
    let whole : bytes ≡ cut 8 (bit_at 2 f) (i * 2) 16 = h ∙ ap (λ (l : List ℕ). cut 8 (bit_at 2 (at l)) 0 16) e ∙ bytes_of_block f i in
    let long : length bytes ≡ 16 = ap length whole ∙ length_cut 8 (bit_at 2 f) (i * 2) 16 in
    ap (λ (l : List ℕ). take w memory ++ (bytes ++ l)) (Post-is w (w + 16) memory (omega arith) ∙ ap (λ (n : ℕ). drop (w + n) memory) (sym long))
    ∙ ap (λ (l : List ℕ). put_at w l memory) whole

-- and a text's digits are codes of two bits
pub block_small : (fold : Bool) (text codes : List ℕ) (i : ℕ) → Bytes text → codes ≡ tabulate 64 (λ j. digit_of (coding_by fold Dna2bit) (at text (i + j)))
    → (j : ℕ) → j < 64 → at codes j < 4
block_small fold text codes i bytes e j h =
    rw (e, get_d_tabulate 64 (λ j. digit_of (coding_by fold Dna2bit) (at text (i + j))) j 0 h) (digit_small fold (at text (i + j)) (bytes (i + j)))

-- ---- the blocks that a text begins with

-- digit j of a text, and byte j of the digits' bits
abbrev pub digit_at : Bool → List ℕ → ℕ → ℕ
digit_at fold text j = digit_of (coding_by fold Dna2bit) (at text j)

abbrev pub byte_at : Bool → List ℕ → ℕ → ℕ
byte_at fold text j = word (bit_at 2 (digit_at fold text)) (0 + j * 8) 8

module _ (fold : Bool) (text memory : List ℕ) where
  -- the bytes of b blocks stand in memory
  abbrev pub Packed : ℕ → List ℕ → Type 0
  Packed b out = Filled (byte_at fold text) 0 memory (b * 16) out

  pub none_packed : Packed 0 memory
  none_packed = none_filled (byte_at fold text) 0 memory

  pub more_packed : (b : ℕ) (out : List ℕ) → Packed b out → b * 16 + 16 ≤ length memory
      → Packed (b + 1) (put_at (b * 16) (cut 8 (bit_at 2 (digit_at fold text)) (b * 64 * 2) 16) out)
  unfolding cut
  more_packed b out done room =
      let byte : ℕ → ℕ = byte_at fold text in
      let s : ℕ → ℕ = bit_at 2 (digit_at fold text) in
      let xs : List ℕ = tabulate 16 (λ t. word s (b * 64 * 2 + t * 8) 8) in
      let place : (t : ℕ) → b * 64 * 2 + t * 8 ≡ 0 + (b * 16 + t) * 8 = λ t. omega arith in
      let count : b * 16 + 16 ≡ (b + 1) * 16 = omega arith in
      ap (λ (k : ℕ). put_at k xs out) (sym (zero-add (b * 16)))
      ∙ more_filled byte 0 memory (b * 16) out done 16 xs (omega arith)
      (tabulate_ext 16 (λ t. word s (b * 64 * 2 + t * 8) 8) (λ t. byte (b * 16 + t)) (λ t h. ap (λ (k : ℕ). word s k 8) (place t)))
      ∙ ap (λ (n : ℕ). put_at 0 (tabulate n byte) memory) count

  -- and these are a run over their bytes
  pub blocks_ran : (n : ℕ) (out : List ℕ) → n * 64 ≤ length text → Packed n out → out ≡ ran 2 0 0 (digits_of (coding_by fold Dna2bit) (take (n * 64) text)) memory
  unfolding cut
  blocks_ran n out fits done =
      let byte : ℕ → ℕ = byte_at fold text in
      let digit : ℕ → ℕ = digit_of (coding_by fold Dna2bit) in
      let part : List ℕ = take (n * 64) text in
      let digits : List ℕ = map digit part in
      let long : length digits ≡ n * 64 = length-map part digit ∙ length-take-le (n * 64) text fits in
      let count : n * 16 ≡ (0 + length digits * 2) / 8 = omega (arith, long) in
      let s : ℕ → ℕ = at_hand 0 0 2 digits in
      let same : (k : ℕ) → k < n * 128 → bit_at 2 (digit_at fold text) k ≡ s k = λ k h.
      let within : k / 2 < n * 64 = omega arith in
      let inside : k / 2 < length digits = omega (arith, long) in
      sym
      (hand-plain 0 2 digits k
      ∙ bit_cong 2 (at digits) (digit_at fold text) k
      (get_or_within digits (k / 2) 0 (digit 0) inside ∙ get_or-map digit part (k / 2) 0 ∙ ap digit (get_or-take (n * 64) text (k / 2) 0 within))) in
      done
      ∙ put_front (tabulate (n * 16) byte) memory
      ∙ ap (λ (xs : List ℕ). front xs memory)
      (tabulate_ext (n * 16) byte (λ j. word s (0 + j * 8) 8)
      (λ j h. word_ext (bit_at 2 (digit_at fold text)) s (0 + j * 8) (0 + j * 8) 8 (λ u l. same (0 + j * 8 + u) (omega arith))))
      ∙ ap (λ (m : ℕ). front (cut 8 s 0 m) memory) count
