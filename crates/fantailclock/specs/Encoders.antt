-- The encoder for hosts: its state as numbers, and what its calls tell.
use Rattle.std.specs.Prelude.{ℕ, Bool, cond, ◌&&◌, ◌||◌, List, [], leb, eqb, Option, Some, None, Result, Ok, Err}
use Rattle.alphabet.specs.Questions.{ask◌else◌then◌, by, Reply, refusal_reply, number_in}
use Rattle.alphabet.specs.Refusing.{alone}
use Rattle.alphabet.specs.declared.refusal.Refusal.{Refusal}
use Rattle.alphabet.specs.Names.{number_of, known, kind_of}
use Rattle.alphabet.specs.Answers.{fold_number}
use Rattle.packing.specs.declared.stranger.Stranger.{Stranger}
use Rattle.packing.specs.declared.encoder.SequenceEncoder.{SequenceEncoder}
use Rattle.packing.specs.declared.encoder.Updated.{Updated as Answer}
use Rattle.packing.specs.Encode.{start_encoder_at, update_at, update_memory, finalize_at, finalize_memory}
use Rattle.packing.specs.Answers.{finalized_reply}
use Rattle.fantailclock.specs.declared.shapes.Encoder.{Encoder}
use Rattle.fantailclock.specs.declared.shapes.EncoderStarted.{EncoderStarted}
use Rattle.fantailclock.specs.declared.shapes.Updated.{Updated}
use Rattle.fantailclock.specs.Shapes.{chosen}

-- ---- states

-- the state that a host's numbers stand for
unfoldable pub inside : Encoder → SequenceEncoder
inside e =
    record {
      alphabet = kind_of e.alphabet;
      seen = e.seen;
      bits = e.pending_bits;
      pending = e.pending;
      bad = record { first = cond (eqb e.has_bad 0) None (Some (record { position = e.bad_position; byte = e.bad_byte })); count = e.bad_count };
      fold = chosen e.fold;
    }

-- `fold` is 0 or 1, `has_bad` is 0 or 1, and a first non-member is a byte
unfoldable pub fitting : Encoder → Bool
fitting e = leb e.fold 1 && (eqb e.has_bad 0 || (eqb e.has_bad 1 && leb e.bad_byte 255))

-- a state as a host's numbers; position and byte are zeros where there is no first non-member
abbrev pub outside_with : SequenceEncoder → Option Stranger → Encoder
outside_with s None =
    record {
      alphabet = number_of s.alphabet;
      seen = s.seen;
      pending_bits = s.bits;
      pending = s.pending;
      has_bad = 0;
      bad_position = 0;
      bad_byte = 0;
      fold = fold_number s.fold;
      bad_count = s.bad.count;
    }
outside_with s (Some first) =
    record {
      alphabet = number_of s.alphabet;
      seen = s.seen;
      pending_bits = s.bits;
      pending = s.pending;
      has_bad = 1;
      bad_position = first.position;
      bad_byte = first.byte;
      fold = fold_number s.fold;
      bad_count = s.bad.count;
    }

unfoldable pub outside : SequenceEncoder → Encoder
outside s = outside_with s s.bad.first

-- ---- calls

-- `fc_encoder_new`: a fresh state, or the arguments as they came with zeros beside them
abbrev pub echoed : ℕ → ℕ → Encoder
echoed alphabet fold =
    record {
      alphabet = alphabet;
      seen = 0;
      pending_bits = 0;
      pending = 0;
      has_bad = 0;
      bad_position = 0;
      bad_byte = 0;
      fold = fold;
      bad_count = 0;
    }

abbrev pub started_by : ℕ → ℕ → Result SequenceEncoder Refusal → EncoderStarted
started_by alphabet fold (Ok s) = record { refusal = 0; next = outside s }
started_by alphabet fold (Err q) = record { refusal = number_in (refusal_reply q); next = echoed alphabet fold }

unfoldable pub encoder_started : ℕ → ℕ → EncoderStarted
encoder_started alphabet fold = started_by alphabet fold (start_encoder_at alphabet (chosen fold))

-- the questions that come first, for a state as numbers: its alphabet, and that its fields fit. Pending numbers above 255 are unsound in any case
unfoldable pub state_of : Encoder → Result SequenceEncoder Refusal
state_of e =
    ask known e.alphabet else Err (by 8 []) then
    ask fitting e else Err (by 1 []) then
    ask leb e.pending_bits 255 && leb e.pending 255 else Err (by 1 []) then
    Ok (inside e)

-- what a state that fits answers to a piece
abbrev pub answer_from : List ℕ → ℕ → Result SequenceEncoder Refusal → Result Answer Refusal
answer_from piece room (Err q) = Err q
answer_from piece room (Ok s) = alone (update_at s piece room)

-- `fc_encoder_update`, and `fc_encoder_ask`, where `room` is the length that is asked about
abbrev pub updated_by : Encoder → Result Answer Refusal → Updated
updated_by e (Ok u) = record { refusal = 0; count = u.count; next = outside u.next }
updated_by e (Err q) = record { refusal = number_in (refusal_reply q); count = 0; next = e }

unfoldable pub encoder_updated : Encoder → List ℕ → ℕ → Updated
encoder_updated e piece room = updated_by e (answer_from piece room (state_of e))

abbrev pub update_memory_from : List ℕ → List ℕ → Result SequenceEncoder Refusal → List ℕ
update_memory_from piece memory (Err q) = memory
update_memory_from piece memory (Ok s) = update_memory s piece memory

unfoldable pub encoder_update_memory : Encoder → List ℕ → List ℕ → List ℕ
encoder_update_memory e piece memory = update_memory_from piece memory (state_of e)

-- `fc_encoder_finalize`
abbrev pub finalize_from : ℕ → Result SequenceEncoder Refusal → Reply
finalize_from room (Err q) = refusal_reply q
finalize_from room (Ok s) = finalized_reply (finalize_at s room)

unfoldable pub finalize_told : Encoder → ℕ → Reply
finalize_told e room = finalize_from room (state_of e)

abbrev pub finalize_memory_from : List ℕ → Result SequenceEncoder Refusal → List ℕ
finalize_memory_from memory (Err q) = memory
finalize_memory_from memory (Ok s) = finalize_memory s memory

unfoldable pub encoder_finalize_memory : Encoder → List ℕ → List ℕ
encoder_finalize_memory e memory = finalize_memory_from memory (state_of e)
