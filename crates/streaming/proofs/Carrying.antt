-- The turns of `carry`, for an alphabet of whole bytes.
use mathlib.Core.Path.{◌≡◌, refl, sym, ap, ap₂, ◌∙◌}
use mathlib.Core.List.{List, ◌++◌}
use Prim.Native.Nat.{ℕ, ◌+◌, ◌-◌, ◌*◌, ◌/◌, ◌%◌, ◌^◌, ◌≤◌, ◌<◌, min}
use native.Mathlib.Nat.{add-zero, add_comm, add-mul, one-mul, zero-mul, mod-eq_of_lt}
use native.Mathlib.Decide.{dec_lt}
use native.Mathlib.Omega.{arith}
use lib.ListN.{length, drop}
use lib.Pow.{shr_mod}
use Rattle.std.specs.List.{between}
use Rattle.std.proofs.lemmas.List.Edits.{get_or-between, length-between}
use Rattle.bits.specs.Tables.{at, Bytes}
use Rattle.bits.specs.Streams.{word}
use Rattle.bits.specs.Memory.{front}
use Rattle.bits.proofs.Words.{word-whole}
use Rattle.bits.proofs.Tabulated.{is_tabulate}
use Rattle.streaming.specs.declared.decoder.StreamingDecoder.{StreamingDecoder}
use Rattle.streaming.specs.Stream.{reads_by, source_bits, used, bases_of}
use Rattle.streaming.specs.Flow.{Level, base_at, filled}
use Rattle.streaming.proofs.Hand.{hand_past}
use Rattle.streaming.proofs.Levels.{level_lt, level_field, level-drop, level_all, level_dry}

module _ (s : StreamingDecoder) (source : List ℕ) (eight : (reads_by s).width ≡ 8) where
  abbrev W : ℕ
  W = (reads_by s).width

  module _ {bits taken n : ℕ} (have : ℕ) (r : Level s source bits (have + 8) taken n) where
    pub carry_lt : bits < 2 ^ (8 + have)
    carry_lt = rw (add_comm 8 have) (level_lt r)

    -- the byte above the bits that stay is the next base
    pub carry_base : ((c : ℕ) → (reads_by s).symbol c ≡ c) → {v : ℕ} → v ≡ bits / 2 ^ have → v ≡ base_at s source n
    unfolding base_at
    carry_base same e =
        let left : have ≡ have + 8 - (0 + 1) * W = omega (arith, one-mul W) in
        e
        ∙ sym (shr_mod 8 have carry_lt)
        ∙ ap₂ (λ (x y : ℕ). bits / 2 ^ x % 2 ^ y) left (sym eight)
        ∙ level_field r 0 (omega (arith, one-mul W))
        ∙ ap (λ (k : ℕ). word (source_bits s source) (used s k) W) (add-zero n)
        ∙ sym (same (word (source_bits s source) (used s n) W))

    -- and cut off
    pub carry_level : {acc : ℕ} → acc ≡ bits % 2 ^ have → Level s source acc have taken (n + 1)
    carry_level e =
        let left : have + 8 - 1 * W ≡ have = omega (arith, one-mul W) in
        rw left at (level-drop r 1 (omega (arith, one-mul W)) (e ∙ ap (λ (x : ℕ). bits % 2 ^ x) (sym left)))

  -- the count is the greatest: all that is allowed, or all that the source has bytes for
  pub carry_count : {acc have n : ℕ} (from limit room : ℕ) → s.bits < 8 → have < 8 → Level s source acc have (from + n) n → limit ≡ min s.budget room
      → n ≡ min limit (length source - from) → n ≡ bases_of s source room
  carry_count {acc} {have} {n} from limit room small few r e f = go (dec_lt n limit)
    where
      go : Dec (n < limit) → n ≡ bases_of s source room
      go (yes l) = level_dry r room small few (omega arith) (omega (arith, r.within)) (omega arith)
      go (no l) = level_all r room few (omega arith)

-- ---- bases that are bytes as they come

module _ (s : StreamingDecoder) (source : List ℕ) (eight : (reads_by s).width ≡ 8) {acc : ℕ} (from : ℕ) (r : Level s source acc 0 from 0) where
  place : (n : ℕ) → used s n ≡ s.bits + (from + n) * 8
  unfolding used
  place n = omega (arith, r.place, ap (λ (x : ℕ). n * x) eight, zero-mul (reads_by s).width, add-mul from n 8)

  -- n bytes are taken
  pub copy_level : (n : ℕ) → from + n ≤ length source → Level s source 0 0 (from + n) n
  unfolding word
  copy_level n h = record { place = omega (arith, place n); within = h; held = refl }

  copy_base : Bytes source → ((c : ℕ) → (reads_by s).symbol c ≡ c) → (n : ℕ) → at source (from + n) ≡ base_at s source n
  unfolding base_at source_bits
  copy_base bytes same n =
      sym
      (same (word (source_bits s source) (used s n) (reads_by s).width)
      ∙ ap₂ (word (source_bits s source)) (place n) eight
      ∙ hand_past s.bits s.pending 8 source ((from + n) * 8) 8
      ∙ word-whole 8 (at source) (from + n)
      ∙ mod-eq_of_lt (bytes (from + n)))

  -- and they are the bases
  pub copy_memory : Bytes source → ((c : ℕ) → (reads_by s).symbol c ≡ c) → (n m e : ℕ) (memory : List ℕ) {new : List ℕ} → from + n ≤ length source → e ≡ from + n
      → new ≡ front (between from e source) memory → n ≡ m → new ≡ filled s source m memory
  unfolding filled
  copy_memory bytes same n m e memory fits end is f =
      let run : List ℕ = between from e source in
      let long : length run ≡ n = length-between source from e (omega arith) ∙ omega arith in
      is
      ∙ ap (λ (k : ℕ). run ++ drop k memory) long
      ∙ ap (λ (l : List ℕ). l ++ drop n memory)
      (is_tabulate n (base_at s source) 0 run long (λ i l. get_or-between source from e i 0 (omega arith) ∙ copy_base bytes same i))
      ∙ ap (λ (k : ℕ). filled s source k memory) f
