-- Blocks: eight bases from as many bytes as a base has bits.
use mathlib.Core.Path.{◌≡◌, refl, sym, ap, ◌∙◌}
use mathlib.Core.List.{List, ◌++◌, map}
use Prim.Native.Nat.{ℕ, ◌+◌, ◌-◌, ◌*◌, ◌/◌, ◌%◌, ◌^◌, ◌≤◌, ◌<◌}
use native.Mathlib.Nat.{zero-add, add-zero, lt_of_lt_of_le}
use native.Mathlib.Omega.{arith}
use borrow.Rule.Slice.PartMut.{put_mid}
use lib.ListN.{length, take, drop}
use lib.Seq.{drop-drop}
use lib.Arith.{digits_lt}
use lib.Pow.{pow-add, pow_mono}
use Rattle.std.specs.List.{between}
use Rattle.std.proofs.lemmas.List.Edits.{get_or-between}
use Rattle.bits.specs.Tables.{tabulate, at, Bytes}
use Rattle.bits.specs.Streams.{bit_at, word, cut, fields}
use Rattle.bits.specs.Memory.{put_at}
use Rattle.bits.proofs.Shifts.{push_byte_is}
use Rattle.bits.proofs.Words.{word_lt, word_ext, bit_lt}
use Rattle.bits.proofs.Tabulated.{length-tabulate, get_d_tabulate, tabulate_ext, map-tabulate}
use Rattle.bits.proofs.Put.{put_front, more_filled}
use Rattle.bits.proofs.Blocks.{cut_within, word_bytes}
use Rattle.streaming.specs.declared.decoder.StreamingDecoder.{StreamingDecoder}
use Rattle.streaming.specs.Stream.{reads_by, source_bits, used}
use Rattle.streaming.specs.Symbols.{decoding, block_of}
use Rattle.streaming.specs.Flow.{Level, base_at, filled}
use Rattle.streaming.proofs.Levels.{source_lt, used-add}

-- ---- bytes gathered behind a number

module _ (bytes : List ℕ) where
  abbrev bits : ℕ → ℕ
  bits = bit_at 8 (at bytes)

  -- the number that the first i bytes write
  abbrev pub Gathered : ℕ → ℕ → Type 0
  Gathered i w = w ≡ word (bit_at 8 (at bytes)) 0 (i * 8)

  pub gather_lt : (i w : ℕ) → Gathered i w → w < 2 ^ (i * 8)
  gather_lt i w e = rw e (word_lt bits (bit_lt 8 (at bytes)) 0 (i * 8))

  pub gather_more : Bytes bytes → (i w : ℕ) → i < 5 → Gathered i w → w % 2 ^ 56 * 256 + at bytes i ≡ word (bit_at 8 (at bytes)) 0 ((i + 1) * 8)
  gather_more small i w few e =
      let next : i * 8 + 8 ≡ (i + 1) * 8 = omega arith in
      push_byte_is w (at bytes i) (lt_of_lt_of_le (gather_lt i w e) (pow_mono {i = i * 8} {j = 56} (omega arith)))
      ∙ ap (λ (x : ℕ). x * 256 + at bytes i) e
      ∙ ap (λ (k : ℕ). word bits 0 (i * 8) * 256 + at bytes k) (sym (zero-add i))
      ∙ sym (word_bytes (at bytes) small 0 i)
      ∙ ap (word bits 0) next

  -- and a number before them, which leaves them all in a word
  pub gather_behind : (acc m w : ℕ) → acc < 2 ^ 8 → m ≤ 5 → Gathered m w → acc * 2 ^ (m * 8) + w < 2 ^ 64
  gather_behind acc m w small few e =
      let below : acc * 2 ^ (m * 8) + w < 2 ^ 8 * 2 ^ (m * 8) = digits_lt small (gather_lt m w e) in
      lt_of_lt_of_le (rw (← pow-add 2 8 (m * 8)) at below) (pow_mono {i = 8 + m * 8} {j = 64} (omega arith))

-- a run of the source's bytes writes what it writes in the source
pub run_word : (source : List ℕ) (from m e : ℕ) → e ≡ from + m
    → word (bit_at 8 (at (between from e source))) 0 (m * 8) ≡ word (bit_at 8 (at source)) (from * 8) (m * 8)
unfolding bit_at
run_word source from m e end =
    let run : List ℕ = between from e source in
    word_ext (bit_at 8 (at run)) (bit_at 8 (at source)) 0 (from * 8) (m * 8)
    (λ i h.
    let first : 0 + i ≡ i = zero-add i in
    let byte : (from * 8 + i) / 8 ≡ from + i / 8 = omega arith in
    let bit : (from * 8 + i) % 8 ≡ i % 8 = omega arith in
    let same : at run (i / 8) ≡ at source (from + i / 8) = get_or-between source from e (i / 8) 0 (omega arith) in
    rw (first, byte, bit) (ap (λ (x : ℕ). x / 2 ^ (8 - 1 - i % 8) % 2) same))

-- ---- a block within a call

-- a part of memory that is written whole
mid_put : (n : ℕ) (out xs : List ℕ) → length xs ≡ 8 → put_mid n 8 out xs ≡ put_at n xs out
unfolding put_at
mid_put n out xs long = ap (λ (l : List ℕ). take n out ++ (xs ++ l)) (drop-drop 8 n out ∙ ap (λ (k : ℕ). drop (n + k) out) (sym long))

module _ (s : StreamingDecoder) (source : List ℕ) where
  abbrev b : ℕ
  b = (reads_by s).width

  -- a code looked up in the decoding table
  pub looked_up : (k c : ℕ) → c < 32 → c ≡ word (source_bits s source) (used s k) b → at (decoding s.alphabet) c ≡ base_at s source k
  unfolding base_at decoding
  looked_up k c h e = get_d_tabulate 32 (reads_by s).symbol c 0 h ∙ ap (reads_by s).symbol e

  -- the first n bases at the front of memory
  pub filled_put : (n : ℕ) (memory : List ℕ) → filled s source n memory ≡ put_at 0 (tabulate n (base_at s source)) memory
  unfolding filled
  filled_put n memory =
      let base : ℕ → ℕ = base_at s source in
      ap (λ (k : ℕ). tabulate n base ++ drop k memory) (sym (length-tabulate n base)) ∙ sym (put_front (tabulate n base) memory)

  -- the bases of a block: eight codes that stand above the `have` low bits at hand
  pub block_bases : {bits taken n : ℕ} (have : ℕ) → b ≤ 5 → Level s source bits (have + b * 8) taken n
      → block_of s.alphabet b (bits / 2 ^ have) ≡ tabulate 8 (λ i. base_at s source (n + i))
  unfolding cut block_of
  block_bases {bits} {taken} {n} have five r =
      let S : ℕ → ℕ = source_bits s source in
      let table : List ℕ = decoding s.alphabet in
      let all : have + b * 8 ≡ 0 + 8 * b + have = omega arith in
      let codes : fields b 8 (bits / 2 ^ have) ≡ cut b S (used s n) 8 =
      ap (λ (x : ℕ). fields b 8 (x / 2 ^ have)) (r.held ∙ ap (word S (used s n)) all)
      ∙ sym (cut_within S (source_lt s source) b 8 (used s n) 0 have)
      ∙ ap (λ (k : ℕ). cut b S k 8) (add-zero (used s n)) in
      ap (map (at table)) codes
      ∙ map-tabulate (at table) (λ i. word S (used s n + i * b) b) 8
      ∙ tabulate_ext 8 (λ i. at table (word S (used s n + i * b) b)) (λ i. base_at s source (n + i))
      (λ i h.
      looked_up (n + i) (word S (used s n + i * b) b) (lt_of_lt_of_le (word_lt S (source_lt s source) (used s n + i * b) b) (pow_mono {i = b} {j = 5} five))
      (ap (λ (k : ℕ). word S k b) (sym (used-add s n i))))

  -- eight bases more are in memory
  pub block_written : {bits taken n : ℕ} (have : ℕ) (out out₀ : List ℕ) {block : List ℕ} (k : ℕ)
      → b ≤ 5 → Level s source bits (have + b * 8) taken n → n + 8 ≤ length out₀ → length out ≡ length out₀ → k ≡ 8
      → out ≡ filled s source n out₀ → block ≡ block_of s.alphabet b (bits / 2 ^ have) → put_mid n k out block ≡ filled s source (n + 8) out₀
  block_written {bits} {taken} {n} have out out₀ {block} k five r room same eight e f =
      let xs : List ℕ = tabulate 8 (λ i. base_at s source (n + i)) in
      let is : block ≡ xs = f ∙ block_bases have five r in
      let long : length xs ≡ 8 = length-tabulate 8 (λ i. base_at s source (n + i)) in
      rw (is, eight)
      (mid_put n out xs long
      ∙ ap (λ (m : ℕ). put_at m xs out) (sym (zero-add n))
      ∙ more_filled (base_at s source) 0 out₀ n out (e ∙ filled_put n out₀) 8 xs (omega arith) refl
      ∙ sym (filled_put (n + 8) out₀))
