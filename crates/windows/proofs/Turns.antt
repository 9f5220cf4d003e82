-- What the rolling accumulator holds, and what is decoded.
use Rattle.std.proofs.Common.{◌≡◌, ℕ, ◌+◌, ◌-◌, ◌*◌, ◌/◌, ◌%◌, ◌^◌, ◌<◌, ◌≤◌, List, sym, ap}
use Rattle.std.proofs.Common.{◌∙◌, ap₂, lt_of_lt_of_le, add_assoc, mul_comm, add-mul, mul-le-mul, one-mul, arith, pow_mono}
use native.Mathlib.Nat.{mod-one}
use lib.Pow.{high, low, field, mod-pow-add, mod-mod-pow}
use Rattle.bits.specs.Tables.{tabulate, at, Bytes}
use Rattle.bits.specs.Streams.{bit_at, word}
use Rattle.bits.specs.Packing.{file_byte}
use Rattle.bits.proofs.Tabulated.{get_d_tabulate}
use Rattle.bits.proofs.Words.{word-add, word_lt, word_high, word_low, bit_lt}
use Rattle.bits.proofs.Blocks.{word_byte}
use Rattle.bits.proofs.Files.{file_small}
use Rattle.bits.proofs.Shifts.{field_is}
use Rattle.alphabet.specs.Symbols.{Coding}
use Rattle.windows.specs.declared.rolling.Held.{Held}
use Rattle.windows.specs.Workers.{Holds}
use Rattle.windows.proofs.Windows.{base_at}

-- ---- what is decoded

-- the table's entry at a code of a file is the base
pub decoded : (A : Coding) (lent : List ℕ) (offset b i code : ℕ) (table : List ℕ) → A.width ≡ b → b ≤ 5 → table ≡ tabulate 32 A.symbol
    → code ≡ word (bit_at 8 (file_byte lent offset)) (i * b) b → (code < 32) × (at table code ≡ base_at A lent offset i)
unfolding base_at
decoded A lent offset b i code table width five entries e =
    let s : ℕ → ℕ = bit_at 8 (file_byte lent offset) in
    let fit : word s (i * b) b < 2 ^ 5 = lt_of_lt_of_le (word_lt s (bit_lt 8 (file_byte lent offset)) (i * b) b) (pow_mono five) in
    let less : code < 32 = omega arith in
    (less, ap (λ (t : List ℕ). at t code) entries ∙ get_d_tabulate 32 A.symbol code 0 less ∙ ap A.symbol (e ∙ ap (λ (w : ℕ). word s (i * w) w) (sym width)))

-- a bit's place fits 64 bits
pub bit_fits : {i b : ℕ} → i ≤ 2 ^ 60 → b ≤ 8 → i * b ≤ 2 ^ 63
bit_fits l h = mul-le-mul {n₂ = 2 ^ 60} {m₂ = 8} l h

-- one code on
pub one_on : (s n b : ℕ) → (s + n) * b + b ≡ (s + (n + 1)) * b
one_on s n b = rw (← add_assoc s n 1, add-mul (s + n) 1 b, one-mul b)

-- ---- what is held

module _ (byte : ℕ → ℕ) (small : (j : ℕ) → byte j < 256) where
  byte_word : (j : ℕ) → word (bit_at 8 byte) (8 * j) 8 ≡ byte j
  byte_word j = ap (λ (x : ℕ). word (bit_at 8 byte) x 8) (mul_comm 8 j) ∙ word_byte byte small j

  -- at a byte's first bit nothing is held
  pub prime_none : (bit : ℕ) (h : Held) → bit % 8 ≡ 0 → h.next ≡ bit / 8 → h.have ≡ 0 → Holds byte bit h
  unfolding word
  prime_none bit h e n f =
      record {
        up_to = omega arith;
        value = ap (λ (x : ℕ). h.acc % 2 ^ x) f ∙ mod-one h.acc ∙ sym (ap (word (bit_at 8 byte) bit) f);
      }

  -- elsewhere, what is left of the byte
  pub prime_some : (bit : ℕ) (h : Held) → h.next ≡ bit / 8 + 1 → h.have ≡ 8 - bit % 8 → h.acc ≡ byte (bit / 8) → Holds byte bit h
  prime_some bit h n f a =
      let skip : ℕ = bit % 8 in
      let have : ℕ = 8 - skip in
      let sum : 8 ≡ skip + have = omega arith in
      let start : 8 * (bit / 8) + skip ≡ bit = omega arith in
      record {
        up_to = omega arith;
        value =
            ap₂ (λ (x y : ℕ). x % 2 ^ y) (a ∙ sym (byte_word (bit / 8)) ∙ ap (word (bit_at 8 byte) (8 * (bit / 8))) sum) f
            ∙ word_low (bit_at 8 byte) (bit_lt 8 byte) (8 * (bit / 8)) skip have
            ∙ ap₂ (word (bit_at 8 byte)) start (sym f);
      }

  -- one byte more
  pub refill_more : (place : ℕ) (h h' : Held) → Holds byte place h → h.have < 8
      → h'.next ≡ h.next + 1 → h'.have ≡ h.have + 8 → h'.acc ≡ h.acc % 2 ^ 56 * 256 + byte h.next → Holds byte place h'
  refill_more place h h' r few n f a =
      let v : ℕ = byte h.next in
      let q : ℕ = h.acc % 2 ^ 56 in
      let room : 56 - h.have + h.have ≡ 56 = omega arith in
      let above : h'.acc / 2 ^ 8 ≡ q = ap (λ (x : ℕ). x / 2 ^ 8) a ∙ high q 8 {lo = v} (small h.next) in
      let below : h'.acc % 2 ^ 8 ≡ v = ap (λ (x : ℕ). x % 2 ^ 8) a ∙ low q 8 {lo = v} (small h.next) in
      let kept : q % 2 ^ h.have ≡ h.acc % 2 ^ h.have = ap (λ (x : ℕ). h.acc % 2 ^ x % 2 ^ h.have) (sym room) ∙ mod-mod-pow h.acc (56 - h.have) h.have in
      record {
        up_to = omega (arith, r.up_to);
        value =
            ap (λ (x : ℕ). h'.acc % 2 ^ x) f
            ∙ mod-pow-add h'.acc h.have 8
            ∙ ap₂ (λ (x y : ℕ). x % 2 ^ h.have * 2 ^ 8 + y) above below
            ∙ ap₂ (λ (x y : ℕ). x * 2 ^ 8 + y) (kept ∙ r.value) (sym (byte_word h.next) ∙ ap (λ (x : ℕ). word (bit_at 8 byte) x 8) r.up_to)
            ∙ sym (word-add (bit_at 8 byte) place h.have 8)
            ∙ ap (word (bit_at 8 byte) place) (sym f);
      }

  -- the next code, and the bits behind it
  module _ (b place : ℕ) (h : Held) (r : Holds byte place h) (full : b ≤ h.have) where
    whole : h.acc % 2 ^ (b + (h.have - b)) ≡ word (bit_at 8 byte) place (b + (h.have - b))
    whole =
        let sum : h.have ≡ b + (h.have - b) = omega arith in
        ap (λ (x : ℕ). h.acc % 2 ^ x) (sym sum) ∙ r.value ∙ ap (word (bit_at 8 byte) place) sum

    pub take-code : h.acc / 2 ^ (h.have - b) % 2 ^ b ≡ word (bit_at 8 byte) place b
    take-code =
        sym (field h.acc b (h.have - b))
        ∙ ap (λ (x : ℕ). x / 2 ^ (h.have - b)) whole
        ∙ word_high (bit_at 8 byte) (bit_lt 8 byte) place b (h.have - b)

    pub take_rest : (h' : Held) → h'.next ≡ h.next → h'.have ≡ h.have - b → h'.acc ≡ h.acc → Holds byte (place + b) h'
    take_rest h' n f a =
        record {
          up_to = omega (arith, r.up_to);
          value =
              ap₂ (λ (x y : ℕ). x % 2 ^ y) a f
              ∙ sym (mod-mod-pow h.acc b (h.have - b))
              ∙ ap (λ (x : ℕ). x % 2 ^ (h.have - b)) whole
              ∙ word_low (bit_at 8 byte) (bit_lt 8 byte) place b (h.have - b)
              ∙ ap (word (bit_at 8 byte) (place + b)) (sym f);
        }

-- the next base, from what is held
pub next_base : (A : Coding) (lent : List ℕ) (offset b i code : ℕ) (table : List ℕ) (held : Held) → Bytes lent → b ≡ A.width → A.width ≤ 5 → table ≡ tabulate 32 A.symbol
    → Holds (file_byte lent offset) (i * b) held → b ≤ held.have → held.have < b + 8 → code ≡ held.acc / 2 ^ ((held.have - b) % 64) % 2 ^ (b % 64)
    → (code < 32) × (at table code ≡ base_at A lent offset i)
next_base A lent offset b i code table held bytes width five entries r full few e =
    let narrow : b ≤ 5 = omega (arith, width) in
    let bits : held.have - b < 64 = omega arith in
    decoded A lent offset b i code table (sym width) narrow entries
    (e ∙ field_is bits {b = b} (omega (arith, narrow)) held.acc ∙ take-code (file_byte lent offset) (λ j. file_small lent offset j bytes) b (i * b) held r full)
