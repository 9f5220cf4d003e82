-- The stream for hosts: its state as numbers, and what its calls tell.
use Rattle.std.specs.Prelude.{ℕ, ◌&&◌, List, [], leb, Result, Ok, Err}
use Rattle.alphabet.specs.Questions.{ask◌else◌then◌, by, Reply, refusal_reply, number_in}
use Rattle.alphabet.specs.Refusing.{alone}
use Rattle.alphabet.specs.declared.refusal.Refusal.{Refusal}
use Rattle.alphabet.specs.Names.{number_of, known, kind_of}
use Rattle.streaming.specs.declared.decoder.StreamingDecoder.{StreamingDecoder}
use Rattle.streaming.specs.declared.decoder.Streamed.{Streamed as Answer}
use Rattle.streaming.specs.Stream.{start_stream_at, stream_at, stream_memory, end_at}
use Rattle.streaming.specs.Answers.{stream_started_reply, status_number, ended_reply}
use Rattle.fantailclock.specs.declared.shapes.Stream.{Stream}
use Rattle.fantailclock.specs.declared.shapes.StreamStarted.{StreamStarted}
use Rattle.fantailclock.specs.declared.shapes.Streamed.{Streamed}

-- the state that a host's numbers stand for, and the numbers of a state
unfoldable pub inside : Stream → StreamingDecoder
inside s = record { alphabet = kind_of s.alphabet; skip = s.skip; budget = s.budget; bits = s.pending_bits; pending = s.pending }

unfoldable pub outside : StreamingDecoder → Stream
outside s = record { alphabet = number_of s.alphabet; skip = s.skip; budget = s.budget; pending_bits = s.bits; pending = s.pending }

-- asked first: the alphabet, and that numbers fit their fields; above 255 they are unsound in any case
unfoldable pub state_of : Stream → Result StreamingDecoder Refusal
state_of s =
    ask known s.alphabet else Err (by 8 []) then
    ask leb s.skip 255 && leb s.pending_bits 255 && leb s.pending 255 else Err (by 1 []) then
    Ok (inside s)

-- `fc_stream_new`: a refused start echoes its arguments
unfoldable pub stream_started : ℕ → ℕ → ℕ → StreamStarted
stream_started alphabet skip budget =
    record {
      refusal = number_in (stream_started_reply (start_stream_at alphabet skip budget));
      next = record { alphabet = alphabet; skip = skip; budget = budget; pending_bits = 0; pending = 0 };
    }

-- what a state that fits answers to a source
abbrev pub answer_from : List ℕ → ℕ → Result StreamingDecoder Refusal → Result Answer Refusal
answer_from source room (Err q) = Err q
answer_from source room (Ok d) = alone (stream_at d source room)

-- `fc_stream_read`
abbrev pub streamed_by : Stream → Result Answer Refusal → Streamed
streamed_by s (Ok m) = record { refusal = 0; taken = m.taken; written = m.written; status = status_number m.status; next = outside m.next }
streamed_by s (Err q) = record { refusal = number_in (refusal_reply q); taken = 0; written = 0; status = 0; next = s }

unfoldable pub streamed : Stream → List ℕ → ℕ → Streamed
streamed s source room = streamed_by s (answer_from source room (state_of s))

abbrev pub memory_from : List ℕ → List ℕ → Result StreamingDecoder Refusal → List ℕ
memory_from source memory (Err q) = memory
memory_from source memory (Ok d) = stream_memory d source memory

unfoldable pub streamed_memory : Stream → List ℕ → List ℕ → List ℕ
streamed_memory s source memory = memory_from source memory (state_of s)

-- `fc_stream_end`
abbrev pub end_from : Result StreamingDecoder Refusal → Reply
end_from (Err q) = refusal_reply q
end_from (Ok d) = ended_reply (end_at d)

unfoldable pub end_told : Stream → Reply
end_told s = end_from (state_of s)
