-- The stream. States document 01, "Top: the stream", for one call from any state, and questions 1, 3, 4 and 7.
use Rattle.std.specs.Prelude.{ℕ, zero, suc, ◌+◌, ◌-◌, ◌*◌, ◌^◌, min, Bool, cond, ◌&&◌, ◌||◌, List, [], ◌∷◌, map, leb, ltb, eqb, length, Result, Ok, Err}
use Rattle.alphabet.specs.declared.kind.AlphabetType.{AlphabetType}
use Rattle.alphabet.specs.declared.refusal.Refusal.{Refusal}
use Rattle.alphabet.specs.declared.refusal.Refused.{Refused}
use Rattle.alphabet.specs.Questions.{ask◌else◌then◌, by}
use Rattle.alphabet.specs.Refusing.{◌keeping◌}
use Rattle.alphabet.specs.Symbols.{Coding, coding}
use Rattle.alphabet.specs.Names.{known, kind_of}
use Rattle.bits.specs.Streams.{word, cut}
use Rattle.bits.specs.Packing.{bytes_for, at_hand}
use Rattle.bits.specs.Memory.{front}
use Rattle.streaming.specs.declared.decoder.StreamingDecoder.{StreamingDecoder}
use Rattle.streaming.specs.declared.status.Status.{Status}
use Rattle.streaming.specs.declared.status.Status.TheVariants.{Hungry, Done, Full}
use Rattle.streaming.specs.declared.decoder.Streamed.{Streamed}

-- ---- the state

-- the coding that a state reads by
abbrev pub reads_by : StreamingDecoder → Coding
reads_by s = coding s.alphabet

-- a stream that has taken nothing
unfoldable pub fresh_stream : AlphabetType → ℕ → ℕ → StreamingDecoder
fresh_stream k skip budget = record { alphabet = k; skip = skip; budget = budget; bits = 0; pending = 0 }

-- question 4: skip, pending bit count, pending value, nothing pending while the skip is due
unfoldable pub sound_stream : StreamingDecoder → Bool
sound_stream s = ltb s.skip 8 && ltb s.bits 8 && ltb s.pending (2 ^ s.bits) && (eqb s.skip 0 || eqb s.bits 0)

-- ---- `new`

-- asked: alphabet number, skip
unfoldable pub start_stream_at : ℕ → ℕ → ℕ → Result StreamingDecoder Refusal
start_stream_at alphabet skip budget =
    ask known alphabet else Err (by 8 []) then
    ask ltb skip 8 else Err (by 6 []) then
    Ok (fresh_stream (kind_of alphabet) skip budget)

-- ---- a stream call

-- the largest number up to m that passes a test, 0 where none does
unfoldable pub greatest : (ℕ → Bool) → ℕ → ℕ
greatest test zero = 0
greatest test (suc m) = cond (test (suc m)) (suc m) (greatest test m)

-- the bits at hand: those that pend, then the source's; the skip's stand first
unfoldable pub source_bits : StreamingDecoder → List ℕ → ℕ → ℕ
source_bits s source = at_hand s.bits s.pending 8 source

-- the bits that n bases use up, the skip's included
unfoldable pub used : StreamingDecoder → ℕ → ℕ
used s n = s.skip + n * (reads_by s).width

-- the source bytes that n bases take: those for the bits that do not pend
unfoldable pub takes : StreamingDecoder → ℕ → ℕ
takes s n = bytes_for (used s n - s.bits)

-- the bases that a call writes: the most that budget and space allow and the source's bytes suffice for
unfoldable pub bases_of : StreamingDecoder → List ℕ → ℕ → ℕ
bases_of s source room = greatest (λ n. leb (takes s n) (length source)) (min s.budget room)

-- the status once the skip is done, from the budget and the space that are left
abbrev pub status_for : ℕ → ℕ → Status
status_for budget room = cond (eqb budget 0) Done (cond (eqb room 0) Full Hungry)

-- the state after n bases: the bits that were taken and not used pend
unfoldable pub moved : StreamingDecoder → List ℕ → ℕ → StreamingDecoder
moved s source n =
    record {
      alphabet = s.alphabet;
      skip = 0;
      budget = s.budget - n;
      bits = s.bits + takes s n * 8 - used s n;
      pending = word (source_bits s source) (used s n) (s.bits + takes s n * 8 - used s n);
    }

-- the answer of a call that writes n bases
unfoldable pub moved_by : StreamingDecoder → List ℕ → ℕ → ℕ → Streamed
moved_by s source room n = record { taken = takes s n; written = n; status = status_for (s.budget - n) (room - n); next = moved s source n }

-- the answer with the skip due and no source
abbrev pub waiting : StreamingDecoder → Streamed
waiting s = record { taken = 0; written = 0; status = Hungry; next = s }

-- asked: state; then, with the skip due and no source, Hungry at once
unfoldable pub stream_at : StreamingDecoder → List ℕ → ℕ → Result Streamed (Refused StreamingDecoder)
stream_at s source room =
    ask sound_stream s else Err (by 1 [] keeping s) then
    ask eqb s.skip 0 || ltb 0 (length source) else Ok (waiting s) then
    Ok (moved_by s source room (bases_of s source room))

-- the bases that an answer writes
unfoldable pub stream_writes : StreamingDecoder → List ℕ → Result Streamed (Refused StreamingDecoder) → List ℕ
stream_writes s source (Ok m) = map (reads_by s).symbol (cut (reads_by s).width (source_bits s source) s.skip m.written)
stream_writes s source (Err e) = []

-- the output memory afterwards
unfoldable pub stream_memory : StreamingDecoder → List ℕ → List ℕ → List ℕ
stream_memory s source memory = front (stream_writes s source (stream_at s source (length memory))) memory

-- ---- the end call

-- asked: state; then, that the skip is done and the budget used, else refused by 7 with the bases outstanding
unfoldable pub end_at : StreamingDecoder → Result Unit (Refused StreamingDecoder)
end_at s =
    ask sound_stream s else Err (by 1 [] keeping s) then
    ask eqb s.skip 0 && eqb s.budget 0 else Err (by 7 (s.budget ∷ []) keeping s) then
    Ok tt
