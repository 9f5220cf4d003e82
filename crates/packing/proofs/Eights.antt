-- Packing in blocks of eight symbols, where nothing pends: eight digits of b bits are b bytes.
use mathlib.Core.Path.{◌≡◌, sym, ap, ap₂, ◌∙◌}
use mathlib.Core.List.{List}
use Prim.Native.Nat.{ℕ, ◌+◌, ◌-◌, ◌*◌, ◌/◌, ◌%◌, ◌^◌, ◌≤◌, ◌<◌}
use native.Mathlib.Nat.{add-zero, zero-add, zero-mul, add-mul, one-mul, mul_comm, mul_assoc, mul-le-mul_right, mod-eq_of_lt, lt_of_lt_of_le}
use native.Mathlib.Omega.{arith}
use lib.Pow.{pow_mono}
use lib.ListN.{length}
use Rattle.bits.specs.Tables.{tabulate}
use Rattle.bits.specs.Streams.{bit_at, word, cut, fields}
use Rattle.bits.specs.Memory.{front, put_at}
use Rattle.bits.proofs.Words.{word-add, word_lt, bit_lt}
use Rattle.bits.proofs.Appended.{length_cut, cut-add}
use Rattle.bits.proofs.Blocks.{cut_within}
use Rattle.bits.proofs.Put.{put_none, put_front, put_put, put_length}
use Rattle.packing.proofs.Turns.{shift_fits}
use Rattle.packing.proofs.Blocks.{gather_more}

module _ (b : ℕ) (f : ℕ → ℕ) (few : b ≤ 5) where
  abbrev s : ℕ → ℕ
  s = bit_at b f

  -- up to eight digits fit a word
  word_small : (i j x : ℕ) → j ≤ 8 → x ≡ word (bit_at b f) (i * b) (j * b) → x < 2 ^ (j * b)
  word_small i j x h e = rw e (word_lt s (bit_lt b f) (i * b) (j * b))

  -- with up to four of them there is room for m more
  pub shifted : (i j x m : ℕ) → j ≤ 4 → m ≤ 4 → x ≡ word (bit_at b f) (i * b) (j * b) → x * 2 ^ (m * b) % 2 ^ 64 ≡ x * 2 ^ (m * b)
  shifted i j x m h l e =
      let most : j * b ≤ 4 * b = mul-le-mul_right b h in
      let more : m * b ≤ 4 * b = mul-le-mul_right b l in
      mod-eq_of_lt (shift_fits x (m * b) (j * b) (word_small i j x (omega arith) e) (omega arith))

  -- one more digit behind j of them
  pub four_more : (i j x d : ℕ) → j < 4 → x ≡ word (bit_at b f) (i * b) (j * b) → d ≡ f (i + j) → d < 2 ^ b
      → (x * 2 ^ b % 2 ^ 64 + d ≡ word (bit_at b f) (i * b) ((j + 1) * b)) × (x * 2 ^ b % 2 ^ 64 + d < 2 ^ 64)
  four_more i j x d h e q l =
      let alone : 2 ^ b ≡ 2 ^ (1 * b) = ap (λ (n : ℕ). 2 ^ n) (sym (one-mul b)) in
      let plain : x * 2 ^ b % 2 ^ 64 ≡ x * 2 ^ b =
      ap (λ (n : ℕ). x * n % 2 ^ 64) alone ∙ shifted i j x 1 (omega arith) (omega arith) e ∙ ap (λ (n : ℕ). x * n) (sym alone) in
      let digit : d ≡ f (i + j) % 2 ^ b = sym (mod-eq_of_lt l) ∙ ap (λ (n : ℕ). n % 2 ^ b) q in
      let next : x * 2 ^ b % 2 ^ 64 + d ≡ word s (i * b) ((j + 1) * b) = ap (λ (n : ℕ). n + d) plain ∙ gather_more b f i j x d e digit in
      let fits : (j + 1) * b ≤ 4 * b = mul-le-mul_right b (let z : j + 1 ≤ 4 = omega arith in z) in
      let under : (j + 1) * b ≤ 64 = omega arith in
      let most : 2 ^ ((j + 1) * b) ≤ 2 ^ 64 = pow_mono under in
      (next, lt_of_lt_of_le (word_small i (j + 1) (x * 2 ^ b % 2 ^ 64 + d) (omega arith) next) most)

  -- four digits behind four
  pub eight_of : (i x y : ℕ) → x ≡ word (bit_at b f) (i * b) (4 * b) → y ≡ word (bit_at b f) ((i + 4) * b) (4 * b)
      → (x * 2 ^ (4 * b) % 2 ^ 64 + y ≡ word (bit_at b f) (i * b) (8 * b)) × (x * 2 ^ (4 * b) % 2 ^ 64 + y < 2 ^ 64)
  eight_of i x y e q =
      let all : 8 * b ≡ 4 * b + 4 * b = omega arith in
      let whole : x * 2 ^ (4 * b) % 2 ^ 64 + y ≡ word s (i * b) (8 * b) =
      ap₂ (λ (m n : ℕ). m + n) (shifted i 4 x 4 (omega arith) (omega arith) e) (q ∙ ap (λ (k : ℕ). word s k (4 * b)) (add-mul i 4 b))
      ∙ ap (λ (m : ℕ). m * 2 ^ (4 * b) + word s (i * b + 4 * b) (4 * b)) e
      ∙ sym (word-add s (i * b) (4 * b) (4 * b))
      ∙ ap (word s (i * b)) (sym all) in
      let under : 8 * b ≤ 64 = omega arith in
      let most : 2 ^ (8 * b) ≤ 2 ^ 64 = pow_mono under in
      (whole, lt_of_lt_of_le (word_small i 8 (x * 2 ^ (4 * b) % 2 ^ 64 + y) (omega arith) whole) most)

  -- what is stored of the first four digits, and then of all eight, are their b bytes
  pub eight_put : (i w t x y : ℕ) (memory : List ℕ) → t ≡ b - 4 → w + b ≤ length memory → x ≡ word (bit_at b f) (i * b) (4 * b) → y ≡ word (bit_at b f) (i * b) (8 * b)
      → put_at (w + t) (fields 8 (b - t) (y / 2 ^ 0)) (put_at w (fields 8 t (x / 2 ^ (4 * b - 8 * t))) memory) ≡ put_at w (cut 8 (bit_at b f) (i * b) b) memory
  eight_put i w t x y memory e room p q =
      let r : ℕ = 4 * b - 8 * t in
      let four : 0 + t * 8 + r ≡ 4 * b = omega arith in
      let eight : t * 8 + (b - t) * 8 + 0 ≡ 8 * b = omega arith in
      let parts : t + (b - t) ≡ b = omega arith in
      let first : fields 8 t (x / 2 ^ r) ≡ cut 8 s (i * b) t =
      ap (λ (v : ℕ). fields 8 t (v / 2 ^ r)) (p ∙ ap (word s (i * b)) (sym four))
      ∙ sym (cut_within s (bit_lt b f) 8 t (i * b) 0 r)
      ∙ ap (λ (k : ℕ). cut 8 s k t) (add-zero (i * b)) in
      let rest : fields 8 (b - t) (y / 2 ^ 0) ≡ cut 8 s (i * b + t * 8) (b - t) =
      ap (λ (v : ℕ). fields 8 (b - t) (v / 2 ^ 0)) (q ∙ ap (word s (i * b)) (sym eight)) ∙ sym (cut_within s (bit_lt b f) 8 (b - t) (i * b) (t * 8) 0) in
      let long : length (cut 8 s (i * b) t) ≡ t = length_cut 8 s (i * b) t in
      ap₂ (λ (m n : List ℕ). put_at (w + t) n (put_at w m memory)) first rest
      ∙ ap (λ (k : ℕ). put_at (w + k) (cut 8 s (i * b + t * 8) (b - t)) (put_at w (cut 8 s (i * b) t) memory)) (sym long)
      ∙ put_put w (cut 8 s (i * b) t) memory (omega (arith, long)) (cut 8 s (i * b + t * 8) (b - t))
      ∙ ap (λ (l : List ℕ). put_at w l memory) (sym (cut-add 8 s (i * b) t (b - t)) ∙ ap (cut 8 s (i * b)) parts)

  -- ---- k blocks

  pub no_blocks : (memory : List ℕ) → memory ≡ put_at 0 (cut 8 (bit_at b f) 0 (0 * b)) memory
  unfolding cut tabulate
  no_blocks memory = sym (ap (λ (n : ℕ). put_at 0 (cut 8 s 0 n) memory) (zero-mul b) ∙ put_none 0 memory)

  pub more_blocks : (memory : List ℕ) (k : ℕ) (out : List ℕ) → out ≡ put_at 0 (cut 8 (bit_at b f) 0 (k * b)) memory → (k + 1) * b ≤ length memory
      → put_at (b * k) (cut 8 (bit_at b f) (8 * k * b) b) out ≡ put_at 0 (cut 8 (bit_at b f) 0 ((k + 1) * b)) memory
  more_blocks memory k out e room =
      let n : ℕ = k * b in
      let next : (k + 1) * b ≡ n + b = add-mul k 1 b ∙ ap (λ (x : ℕ). n + x) (one-mul b) in
      let long : length (cut 8 s 0 n) ≡ n = length_cut 8 s 0 n in
      let place : b * k ≡ 0 + length (cut 8 s 0 n) = mul_comm b k ∙ sym long ∙ sym (zero-add (length (cut 8 s 0 n))) in
      let from : 8 * k * b ≡ 0 + n * 8 = mul_assoc 8 k b ∙ mul_comm 8 n ∙ sym (zero-add (n * 8)) in
      ap₂ (λ (w i : ℕ). put_at w (cut 8 s i b) out) place from
      ∙ ap (put_at (0 + length (cut 8 s 0 n)) (cut 8 s (0 + n * 8) b)) e
      ∙ put_put 0 (cut 8 s 0 n) memory (omega (arith, long, next)) (cut 8 s (0 + n * 8) b)
      ∙ ap (λ (l : List ℕ). put_at 0 l memory) (sym (cut-add 8 s 0 n b) ∙ ap (cut 8 s 0) (sym next))

  pub blocks_length : (memory : List ℕ) (k : ℕ) (out : List ℕ) → out ≡ put_at 0 (cut 8 (bit_at b f) 0 (k * b)) memory → k * b ≤ length memory
      → length out ≡ length memory
  blocks_length memory k out e room =
      ap length e ∙ put_length 0 (cut 8 s 0 (k * b)) memory (omega (arith, length_cut 8 s 0 (k * b)))

  pub blocks_front : (memory : List ℕ) (k : ℕ) (out : List ℕ) → out ≡ put_at 0 (cut 8 (bit_at b f) 0 (k * b)) memory → out ≡ front (cut 8 (bit_at b f) 0 (k * b)) memory
  blocks_front memory k out e = e ∙ put_front (cut 8 s 0 (k * b)) memory

-- where a text has one more block, memory for its bytes has a place for that block's
pub block_fits : (b k n room : ℕ) → k < n / 8 → n * b / 8 ≤ room → (k + 1) * b ≤ room
block_fits b k n room h fits =
    let some : (k + 1) * 8 ≤ n = omega arith in
    let up : (k + 1) * 8 * b ≤ n * b = mul-le-mul_right b some in
    let turned : (k + 1) * 8 * b ≡ (k + 1) * b * 8 = mul_assoc (k + 1) 8 b ∙ ap (λ (x : ℕ). (k + 1) * x) (mul_comm 8 b) ∙ sym (mul_assoc (k + 1) b 8) in
    omega (arith, up, turned)

pub block_end : (b k : ℕ) → b * k + b ≡ (k + 1) * b
block_end b k = omega (arith, mul_comm b k, add-mul k 1 b)
