-- A block of eight symbols, entry by entry, one by one and two by two.
use mathlib.Core.Path.{◌≡◌, sym, ap, ◌∙◌}
use mathlib.Core.List.{List, [], ◌∷◌}
use Rattle.std.specs.Int.{w16, to_le_bytes}
use Prim.Native.Nat.{ℕ, ◌+◌, ◌-◌, ◌*◌, ◌/◌, ◌%◌, ◌^◌, ◌≤◌, ◌<◌}
use native.Mathlib.Nat.{add-mul, one-mul, mul_assoc, mul_comm, mod-eq_of_lt, mul-le-mul}
use native.Mathlib.Omega.{arith}
use borrow.Author.Count.{below_more}
use lib.ListN.{length, set}
use lib.Seq.{get_or-set_same, get_or-set_other}
use lib.Pow.{shr-shr, field, mod-mod-pow}
use Rattle.alphabet.specs.declared.kind.AlphabetType.{AlphabetType}
use Rattle.alphabet.specs.declared.symbols.DecodingTable.{DecodingTable}
use Rattle.bits.specs.Tables.{at}
use Rattle.bits.proofs.Shifts.{field_is, code_lt, low_lt}
use Rattle.bits.proofs.Tabulated.{is_tabulate}
use Rattle.bits.proofs.Blocks.{entry_at, entries_at}
use Rattle.streaming.specs.Symbols.{decoding, block_of, Paired}

-- what a decoding table holds
pub entries : (t : DecodingTable) → t.symbols ≡ decoding t.kind
unfolding decoding
entries t = t.laid

-- a field of a number, as an index into a table of 32 entries
pub code_is : {r p b : ℕ} (x : ℕ) → p < 64 → b ≤ 5 → r ≡ x / 2 ^ (p % 64) % 2 ^ (b % 64) → (r ≡ x / 2 ^ p % 2 ^ b) × (r < 32)
code_is {r} {p} {b} x h l e =
    let is : r ≡ x / 2 ^ p % 2 ^ b = e ∙ field_is h {b = b} (omega arith) x in
    (is, omega (arith, is, code_lt (x / 2 ^ p) b l))

-- how many bits stand behind a code of a block
pub few_behind : (t b : ℕ) → b ≤ 5 → (7 - t) * b ≤ 35
few_behind t b h = mul-le-mul {n₂ = 7} {m₂ = 5} (omega arith) h

-- eight entries in their places are the block
pub block_is : (kind : AlphabetType) (b codes : ℕ) (block : List ℕ) → length block ≡ 8
    → ((k : ℕ) → k < 8 → at block k ≡ entry_at (decoding kind) b 8 codes k) → block ≡ block_of kind b codes
unfolding block_of
block_is kind b codes block eight all =
    is_tabulate 8 (entry_at (decoding kind) b 8 codes) 0 block eight all ∙ sym (entries_at (decoding kind) b 8 codes)

-- one entry more
pub entry_more : (f : ℕ → ℕ) (t v : ℕ) (block : List ℕ) → t < length block → ((k : ℕ) → k < t → at block k ≡ f k) → v ≡ f t
    → (k : ℕ) → k < t + 1 → at (set block t v) k ≡ f k
entry_more f t v block h done e =
    below_more _ _ (λ k l. get_or-set_other block t k v 0 (λ q. omega arith) ∙ done k l) (get_or-set_same block t v 0 h ∙ e)

-- ---- pairs of entries

-- one more is laid out
pub paired_more : (table rows : List ℕ) (b v r : ℕ) → v < length rows → Paired table b v rows
    → to_le_bytes w16 r ≡ at table (v / 2 ^ b % 2 ^ b) ∷ at table (v % 2 ^ b) ∷ [] → Paired table b (v + 1) (set rows v r)
paired_more table rows b v r h e f =
    below_more _ _
    (λ k l. ap (to_le_bytes w16) (get_or-set_other rows v k r 0 (λ q. omega arith)) ∙ e k l)
    (ap (to_le_bytes w16) (get_or-set_same rows v r 0 h) ∙ f)

-- where they stand
pub pair_behind : (t b : ℕ) → b ≤ 5 → (3 - t) * (b * 2) ≤ 30
pair_behind t b h = mul-le-mul {n₂ = 3} {m₂ = 10} (omega arith) (omega arith)

second_place : (b t : ℕ) → t < 4 → (3 - t) * (b * 2) ≡ (8 - 1 - (t * 2 + 1)) * b
second_place b t h =
    let even : (3 - t) * 2 ≡ 8 - 1 - (t * 2 + 1) = omega arith in
    ap (λ (x : ℕ). (3 - t) * x) (mul_comm b 2) ∙ sym (mul_assoc (3 - t) 2 b) ∙ ap (λ (x : ℕ). x * b) even

first_place : (b t : ℕ) → t < 4 → (3 - t) * (b * 2) + b ≡ (8 - 1 - t * 2) * b
first_place b t h =
    let one : 8 - 1 - (t * 2 + 1) + 1 ≡ 8 - 1 - t * 2 = omega arith in
    omega (arith, second_place b t h, add-mul (8 - 1 - (t * 2 + 1)) 1 b, one-mul b, ap (λ (x : ℕ). x * b) one)

-- the entries of a block's pair t: those at the fields 2 t and 2 t + 1
module _ (table rows : List ℕ) (b w t : ℕ) (all : Paired table b (2 ^ (b * 2)) rows) (four : t < 4) where
  abbrev two : ℕ
  two = w / 2 ^ ((3 - t) * (b * 2)) % 2 ^ (b * 2)

  small : two < 2 ^ (b * 2)
  small = low_lt (w / 2 ^ ((3 - t) * (b * 2))) (b * 2)

  twice : b * 2 ≡ b + b
  twice = omega arith

  pub pair_first : at (to_le_bytes w16 (at rows two)) 0 ≡ entry_at table b 8 w (t * 2)
  pair_first =
      let x : ℕ = w / 2 ^ ((3 - t) * (b * 2)) in
      let place : (3 - t) * (b * 2) + b ≡ (8 - 1 - t * 2) * b = first_place b t four in
      ap (λ (l : List ℕ). at l 0) (all two small)
      ∙ ap (at table)
      (ap (λ (k : ℕ). x % 2 ^ k / 2 ^ b % 2 ^ b) twice
      ∙ ap (λ (k : ℕ). k % 2 ^ b) (field x b b)
      ∙ mod-eq_of_lt (low_lt (x / 2 ^ b) b)
      ∙ ap (λ (k : ℕ). k % 2 ^ b) (shr-shr w ((3 - t) * (b * 2)) b)
      ∙ ap (λ (k : ℕ). w / 2 ^ k % 2 ^ b) place)

  pub pair_second : at (to_le_bytes w16 (at rows two)) 1 ≡ entry_at table b 8 w (t * 2 + 1)
  pair_second =
      let x : ℕ = w / 2 ^ ((3 - t) * (b * 2)) in
      let place : (3 - t) * (b * 2) ≡ (8 - 1 - (t * 2 + 1)) * b = second_place b t four in
      ap (λ (l : List ℕ). at l 1) (all two small)
      ∙ ap (at table) (ap (λ (k : ℕ). x % 2 ^ k % 2 ^ b) twice ∙ mod-mod-pow x b b ∙ ap (λ (k : ℕ). w / 2 ^ k % 2 ^ b) place)
