-- The rolling accumulator: digits of b bits go in one after another, and each time eight bits are there a byte comes out.
use mathlib.Core.Path.{◌≡◌, sym, ap, ap₂, ◌∙◌}
use mathlib.Core.List.{List}
use Prim.Native.Nat.{ℕ, suc, ◌+◌, ◌*◌, ◌/◌, ◌%◌, ◌^◌, ◌≤◌, ◌<◌}
use native.Mathlib.Nat.{zero-add, zero-mul, add-mul, one-mul, mul-le-mul_right, suc-mul, pow-le-pow_right}
use native.Mathlib.Omega.{arith}
use lib.Dec.{lit<}
use lib.ListN.{length, set}
use Rattle.bits.specs.Streams.{word, cut}
use Rattle.bits.specs.Memory.{front}
use Rattle.bits.proofs.Put.{Filled, none_filled, one_filled, put_front}
use Rattle.bits.proofs.Words.{word-add, word_lt, word_high, word_low}

-- after i digits behind p0 bits: w bytes are written, and the p bits after them write the number acc
pub record Rolled (s : ℕ → ℕ) (b p0 : ℕ) (memory : List ℕ) (i acc p w : ℕ) (out : List ℕ) : Type 0 where
  pub place : p0 + i * b ≡ w * 8 + p
  pub few : p < 8
  pub held : acc ≡ word s (w * 8) p
  pub wrote : Filled (λ j. word s (0 + j * 8) 8) 0 memory w out

module _ (s : ℕ → ℕ) (bits : (i : ℕ) → s i < 2) (b p0 : ℕ) (memory : List ℕ) where
  -- before the first digit
  pub rolled_start : (acc : ℕ) → p0 < 8 → acc ≡ word s 0 p0 → Rolled s b p0 memory 0 acc p0 0 memory
  rolled_start acc h e =
      record { place = rw (zero-mul b) (omega arith); few = h; held = e; wrote = none_filled (λ j. word s (0 + j * 8) 8) 0 memory }

  -- the accumulator is narrow
  pub rolled_lt : (i acc p w : ℕ) (out : List ℕ) → Rolled s b p0 memory i acc p w out → acc < 2 ^ p
  rolled_lt i acc p w out r = rw r.held (word_lt s bits (w * 8) p)

  pub rolled_byte : (i acc p w : ℕ) (out : List ℕ) → Rolled s b p0 memory i acc p w out → acc < 256
  rolled_byte i acc p w out r =
      let few : 2 ^ p ≤ 2 ^ 8 = pow-le-pow_right {n = 2} (lit< tt) {i = p} {j = 8} (omega (arith, r.few)) in
      omega (arith, rolled_lt i acc p w out r, few)

  -- a digit goes in
  pushed : (i acc p w d : ℕ) (out : List ℕ) → Rolled s b p0 memory i acc p w out → d ≡ word s (p0 + i * b) b → acc * 2 ^ b + d ≡ word s (w * 8) (p + b)
  pushed i acc p w d out r e =
      ap₂ (λ (x y : ℕ). x * 2 ^ b + y) r.held (e ∙ ap (λ (k : ℕ). word s k b) r.place) ∙ sym (word-add s (w * 8) p b)

  more : (i : ℕ) → (i + 1) * b ≡ i * b + b
  more i = add-mul i 1 b ∙ ap (λ (x : ℕ). i * b + x) (one-mul b)

  -- and no byte is full
  pub turn : (i acc p w d : ℕ) (out : List ℕ) → Rolled s b p0 memory i acc p w out → d ≡ word s (p0 + i * b) b → p + b < 8
      → Rolled s b p0 memory (i + 1) (acc * 2 ^ b + d) (p + b) w out
  turn i acc p w d out r e h =
      record { place = omega (arith, r.place, more i); few = h; held = pushed i acc p w d out r e; wrote = r.wrote }

  -- what is at hand then is at most as wide as it is counted
  pub pushed_lt : (i acc p w d : ℕ) (out : List ℕ) → Rolled s b p0 memory i acc p w out → d ≡ word s (p0 + i * b) b → acc * 2 ^ b + d < 2 ^ (p + b)
  pushed_lt i acc p w d out r e = rw (pushed i acc p w d out r e) (word_lt s bits (w * 8) (p + b))

  -- or a byte is full: the bits above the q that are left
  pub turn_byte : (i acc p w d q : ℕ) (out : List ℕ) → Rolled s b p0 memory i acc p w out → d ≡ word s (p0 + i * b) b
      → p + b ≡ 8 + q → q < 8 → w < length memory
      → Rolled s b p0 memory (i + 1) ((acc * 2 ^ b + d) % 2 ^ q) q (w + 1) (set out w ((acc * 2 ^ b + d) / 2 ^ q))
  turn_byte i acc p w d q out r e sum few h =
      let whole : acc * 2 ^ b + d ≡ word s (w * 8) (8 + q) = pushed i acc p w d out r e ∙ ap (word s (w * 8)) sum in
      let next : (w + 1) * 8 ≡ w * 8 + 8 = omega arith in
      let byte : (acc * 2 ^ b + d) / 2 ^ q ≡ word s (0 + w * 8) 8 =
      ap (λ (x : ℕ). x / 2 ^ q) whole ∙ word_high s bits (w * 8) 8 q ∙ ap (λ (k : ℕ). word s k 8) (sym (zero-add (w * 8))) in
      record {
        place = omega (arith, r.place, more i);
        few = few;
        held = ap (λ (x : ℕ). x % 2 ^ q) whole ∙ word_low s bits (w * 8) 8 q ∙ ap (λ (k : ℕ). word s k q) (sym next);
        wrote =
            ap (λ (k : ℕ). set out k ((acc * 2 ^ b + d) / 2 ^ q)) (sym (zero-add w))
            ∙ one_filled (λ j. word s (0 + j * 8) 8) 0 memory w out r.wrote ((acc * 2 ^ b + d) / 2 ^ q) (omega arith) byte;
      }

  -- there is memory for it
  pub turn_room : (i acc p w n : ℕ) (out : List ℕ) → Rolled s b p0 memory i acc p w out → i < n → 8 ≤ p + b → (p0 + n * b) / 8 ≤ length memory → w < length memory
  turn_room i acc p w n out r l h room =
      let up : suc i * b ≤ n * b = mul-le-mul_right b l in
      omega (arith, r.place, up, suc-mul i b)

  -- after the last digit
  pub rolled_count : (i acc p w : ℕ) (out : List ℕ) → Rolled s b p0 memory i acc p w out → (w ≡ (p0 + i * b) / 8) × (p ≡ (p0 + i * b) % 8)
  rolled_count i acc p w out r = (rw r.place (omega (arith, r.few)), rw r.place (omega (arith, r.few)))

  pub rolled_front : (i acc p w : ℕ) (out : List ℕ) → Rolled s b p0 memory i acc p w out → out ≡ front (cut 8 s 0 w) memory
  unfolding cut
  rolled_front i acc p w out r = r.wrote ∙ put_front (cut 8 s 0 w) memory
