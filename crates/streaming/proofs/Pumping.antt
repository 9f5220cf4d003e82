-- The turns of `blocks` and of `finish`, whose b is the width of the alphabet.
use mathlib.Core.Path.{◌≡◌, refl, sym, ap, ◌∙◌}
use mathlib.Core.List.{List}
use Prim.Native.Nat.{ℕ, ◌+◌, ◌-◌, ◌*◌, ◌/◌, ◌%◌, ◌^◌, ◌≤◌, ◌<◌}
use native.Mathlib.Nat.{add-zero, one-mul, zero-mul, add-mul, mul-le-mul_right, div-mul-le_self}
use native.Mathlib.Omega.{arith}
use borrow.Rule.Slice.PartMut.{put_mid}
use lib.ListN.{length}
use Rattle.std.specs.List.{between}
use Rattle.alphabet.specs.declared.kind.AlphabetType.{AlphabetType}
use Rattle.alphabet.specs.declared.kind.AlphabetType.TheVariants.{Dna2bit, Dna3bit, DnaIupac, Protein, Ascii, Unknown}
use Rattle.alphabet.specs.Symbols.{coding}
use Rattle.alphabet.proofs.Laws.{widths}
use Rattle.bits.specs.Tables.{at}
use Rattle.bits.specs.Streams.{bit_at, word}
use Rattle.streaming.specs.declared.decoder.StreamingDecoder.{StreamingDecoder}
use Rattle.streaming.specs.declared.decoder.Streamed.{Streamed}
use Rattle.streaming.specs.declared.flow.Flow.{Flow}
use Rattle.streaming.specs.Stream.{reads_by, source_bits, used, bases_of, moved_by}
use Rattle.streaming.specs.Symbols.{decoding, block_of}
use Rattle.streaming.specs.Flow.{Level, Stands, base_at, filled, all_moved, all_filled}
use Rattle.streaming.proofs.Levels.{level_field, level-drop, level_gather, level_same, level-most, fill_none, fill_over}
use Rattle.streaming.proofs.Blocks.{looked_up, block_written, run_word}

-- no alphabet's code is a single bit
pub more_than_one : (k : AlphabetType) → 1 < (coding k).width
more_than_one Dna2bit = omega (arith, widths.of_dna2bit)
more_than_one Dna3bit = omega (arith, widths.of_dna3bit)
more_than_one DnaIupac = omega (arith, widths.of_dna_iupac)
more_than_one Protein = omega (arith, widths.of_protein)
more_than_one Ascii = omega (arith, widths.of_ascii)
more_than_one Unknown = omega (arith, widths.of_unknown)

-- the width of a state's alphabet, told of the symbols that are looked up
pub width_is : {b : ℕ} {kind : AlphabetType} (s : StreamingDecoder) → (coding kind).width ≡ b → kind ≡ s.alphabet → b ≡ (reads_by s).width
width_is s w e = sym w ∙ ap (λ (k : AlphabetType). (coding k).width) e

-- the bytes of one block more are in the source, where those of `count` blocks are
pub block_bytes : (b : ℕ) {from k count size : ℕ} → k < count → count ≤ (size - from) / b → from ≤ size → from + k * b + b ≤ size
block_bytes b {from} {k} {count} {size} h m within =
    let next : (k + 1) * b ≤ count * b = mul-le-mul_right b (omega arith) in
    let most : count * b ≤ (size - from) / b * b = mul-le-mul_right b m in
    omega (arith, next, most, div-mul-le_self (size - from) b, add-mul k 1 b, one-mul b)

module _ (s : StreamingDecoder) (source : List ℕ) (b : ℕ) (w : b ≡ (reads_by s).width) where
  abbrev W : ℕ
  W = (reads_by s).width

  -- a block's bases are cut off, and as many bits are at hand as before it
  pub block_next : {bits taken n : ℕ} (have : ℕ) → Level s source bits (have + b * 8) taken n → {acc : ℕ} → acc ≡ bits % 2 ^ have → Level s source acc have taken (n + 8)
  block_next {bits} {taken} {n} have r {acc} e =
      let left : have + b * 8 - 8 * W ≡ have = omega arith in
      rw left at (level-drop r 8 (omega arith) (e ∙ ap (λ (x : ℕ). bits % 2 ^ x) (sym left)))

  module _ {acc have taken n : ℕ} (r : Level s source acc have taken n) (fits : b ≤ have) where
    -- the next base, looked up by its code
    pub next_base : (c : ℕ) → c < 32 → c ≡ acc / 2 ^ (have - b) % 2 ^ b → at (decoding s.alphabet) c ≡ base_at s source n
    next_base c h e =
        let left : have - b ≡ have - (0 + 1) * W = omega (arith, one-mul W) in
        looked_up s source n c h
        (e
        ∙ ap (λ (x : ℕ). acc / 2 ^ x % 2 ^ b) left
        ∙ ap (λ (x : ℕ). acc / 2 ^ (have - (0 + 1) * W) % 2 ^ x) w
        ∙ level_field r 0 (omega (arith, one-mul W))
        ∙ ap (λ (k : ℕ). word (source_bits s source) (used s k) W) (add-zero n))

    -- and cut off
    pub next_level : {acc' : ℕ} → acc' ≡ acc % 2 ^ (have - b) → Level s source acc' (have - b) taken (n + 1)
    next_level e =
        let left : have - 1 * W ≡ have - b = omega (arith, one-mul W) in
        rw left at (level-drop r 1 (omega (arith, one-mul W)) (e ∙ ap (λ (x : ℕ). acc % 2 ^ x) (sym left)))

-- ---- blocks one after another

-- k blocks are read
pub record Read (s : StreamingDecoder) (source : List ℕ) (b have from : ℕ) (memory : List ℕ) (k acc : ℕ) (out : List ℕ) : Type 0 where
  pub level : Level s source acc have (from + k * b) (k * 8)
  pub bases : out ≡ filled s source (k * 8) memory

module _ (s : StreamingDecoder) (source : List ℕ) (b : ℕ) (w : b ≡ (reads_by s).width) (have from : ℕ) (memory : List ℕ) where
  pub none_read : {acc : ℕ} → Level s source acc have from 0 → Read s source b have from memory 0 acc memory
  none_read r = record { level = level_same r refl refl (omega (arith, zero-mul b)); bases = fill_none s source memory }

  pub one_read : (k : ℕ) {acc bits acc' : ℕ} {out block : List ℕ} (m e p : ℕ) → Read s source b have from memory k acc out
      → b ≤ 5 → from + k * b + b ≤ length source → k * 8 + 8 ≤ length memory → length out ≡ length memory
      → m ≡ b → e ≡ from + k * b + b → bits ≡ acc * 2 ^ (m * 8) + word (bit_at 8 (at (between (from + k * b) e source))) 0 (m * 8)
      → block ≡ block_of s.alphabet b (bits / 2 ^ have) → p ≡ 8 → acc' ≡ bits % 2 ^ have
      → Read s source b have from memory (k + 1) acc' (put_mid (k * 8) p out block)
  one_read k {acc} {bits} {acc'} {out} {block} m e p done five given room same long end f g eight h =
      let run : bits ≡ acc * 2 ^ (b * 8) + word (bit_at 8 (at source)) ((from + k * b) * 8) (b * 8) =
      f ∙ ap (λ (x : ℕ). acc * 2 ^ (x * 8) + word (bit_at 8 (at (between (from + k * b) e source))) 0 (x * 8)) long
      ∙ ap (λ (x : ℕ). acc * 2 ^ (b * 8) + x) (run_word source (from + k * b) b e end) in
      let next = level_gather done.level b given run in
      let on : from + k * b + b ≡ from + (k + 1) * b = omega (arith, add-mul k 1 b, one-mul b) in
      let up : k * 8 + 8 ≡ (k + 1) * 8 = omega arith in
      record {
        level = rw (on, up) at (block_next s source b w have next h);
        bases =
            rw up at
            (block_written s source have out memory p (omega (arith, w, five)) (rw w at next) room same eight done.bases
            (g ∙ ap (λ (x : ℕ). block_of s.alphabet x (bits / 2 ^ have)) w));
      }

-- ---- the bases of a call

-- blocks, and then the rest
pub blocks_then_rest : (s : StreamingDecoder) (source out₀ out₁ out₂ : List ℕ) {f : Flow} {r : Streamed} → Stands s source (length out₀) f → length out₁ ≡ length out₀
    → out₁ ≡ filled s source f.written out₀
    → r ≡ all_moved s source (length out₁) → out₂ ≡ all_filled s source out₁ → (r ≡ all_moved s source (length out₀)) × (out₂ ≡ all_filled s source out₀)
blocks_then_rest s source out₀ out₁ out₂ {f} {r} stands len e answer written =
    let n : ℕ = bases_of s source (length out₀) in (
      answer ∙ ap (λ (room : ℕ). moved_by s source room (bases_of s source room)) len,
      written
          ∙ ap (λ (room : ℕ). filled s source (bases_of s source room) out₁) len
          ∙ ap (filled s source n) e
          ∙ fill_over s source out₀ f.written n (level-most stands.level (length out₀) stands.few stands.most),
    )
