-- A call's answer and its memory, by the questions that it asks.
use mathlib.Core.Path.{◌≡◌, refl, sym, ap, ap₂, ◌∙◌}
use mathlib.Core.Bool.{true, false, ◌||◌}
use mathlib.Core.List.{List, [], ◌++◌, map}
use Prim.Native.Nat.{ℕ, ◌+◌, ◌*◌}
use lib.Dec.{eqb, ltb}
use lib.ListN.{length, drop}
use Rattle.std.specs.Prelude.{Result, Ok, Err}
use Rattle.alphabet.specs.declared.refusal.Refused.{Refused}
use Rattle.alphabet.specs.Questions.{by}
use Rattle.alphabet.specs.Refusing.{◌keeping◌}
use Rattle.bits.specs.Tables.{tabulate}
use Rattle.bits.specs.Streams.{word, cut}
use Rattle.bits.specs.Memory.{front}
use Rattle.bits.proofs.Tabulated.{length-tabulate, map-tabulate}
use Rattle.streaming.specs.declared.decoder.StreamingDecoder.{StreamingDecoder}
use Rattle.streaming.specs.declared.decoder.Streamed.{Streamed}
use Rattle.streaming.specs.Stream.{reads_by, sound_stream, source_bits, used, bases_of, moved_by, waiting, stream_at, stream_writes, stream_memory}
use Rattle.streaming.specs.Flow.{base_at, filled, all_moved, all_filled}

-- an answer and the memory with it
unfoldable pub Met : StreamingDecoder → List ℕ → List ℕ → Result Streamed (Refused StreamingDecoder) → List ℕ → Type 0
Met s source memory r after = (r ≡ stream_at s source (length memory)) × (after ≡ stream_memory s source memory)

module _ (s : StreamingDecoder) (source memory : List ℕ) where
  -- the bases of a call, written out
  pub bases_are : (n : ℕ) → map (reads_by s).symbol (cut (reads_by s).width (source_bits s source) s.skip n) ≡ tabulate n (base_at s source)
  unfolding cut base_at used
  bases_are n = map-tabulate (reads_by s).symbol (λ i. word (source_bits s source) (s.skip + i * (reads_by s).width) (reads_by s).width) n

  pub refuses : sound_stream s ≡ false → Met s source memory (Err (by 1 [] keeping s)) memory
  unfolding Met stream_memory stream_at stream_writes
  refuses e = rw e (refl, refl)

  pub waits : sound_stream s ≡ true → eqb s.skip 0 || ltb 0 (length source) ≡ false → Met s source memory (Ok (waiting s)) memory
  unfolding Met stream_memory stream_at stream_writes cut tabulate
  waits e f = rw (e, f) (refl, refl)

  pub moves : sound_stream s ≡ true → eqb s.skip 0 || ltb 0 (length source) ≡ true → {r : Streamed} {after : List ℕ}
      → r ≡ moved_by s source (length memory) (bases_of s source (length memory)) → after ≡ filled s source (bases_of s source (length memory)) memory
      → Met s source memory (Ok r) after
  unfolding Met stream_memory stream_at stream_writes moved_by filled
  moves e f q m =
      let n : ℕ = bases_of s source (length memory) in
      rw (e, f)
      (ap Ok q, m ∙ ap (λ (k : ℕ). tabulate n (base_at s source) ++ drop k memory) (sym (length-tabulate n (base_at s source))) ∙ ap (λ (l : List ℕ). front l memory) (sym (bases_are n)))

  -- the same, where the loops know state and source by other names
  pub moves_as : sound_stream s ≡ true → eqb s.skip 0 || ltb 0 (length source) ≡ true → {s' : StreamingDecoder} {source' : List ℕ} → s' ≡ s → source' ≡ source
      → {r : Streamed} {after : List ℕ} → r ≡ all_moved s' source' (length memory) → after ≡ all_filled s' source' memory → Met s source memory (Ok r) after
  moves_as e f p o q m =
      moves e f (q ∙ ap₂ (λ (x : StreamingDecoder) (y : List ℕ). all_moved x y (length memory)) p o) (m ∙ ap₂ (λ (x : StreamingDecoder) (y : List ℕ). all_filled x y memory) p o)
