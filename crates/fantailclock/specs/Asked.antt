-- The questions of each call in their order. States document 01, "The questions, and the number when the answer is no", and request A7's question: a number comes
-- out only for its own "no". A call's number is that of the first of its questions that is answered no, and 0 where none is.
use Rattle.std.specs.Prelude.{ℕ, ◌+◌, ◌-◌, ◌*◌, ◌/◌, Bool, true, false, cond, ◌&&◌, List, [], ◌∷◌, leb, ltb, eqb, length, Option, Some, None}
use Rattle.bits.specs.Packing.{bytes_for}
use Rattle.alphabet.specs.Questions.{in_bounds}
use Rattle.alphabet.specs.Names.{known, numbered, numbered_by}
use Rattle.alphabet.specs.Guess.{sound_guesser}
use Rattle.alphabet.specs.declared.guesser.AlphabetGuesser.{AlphabetGuesser}
use Rattle.packing.specs.declared.stranger.Stranger.{Stranger}
use Rattle.packing.specs.declared.encoder.SequenceEncoder.{SequenceEncoder}
use Rattle.packing.specs.Encode.{first_from, sound_encoder, piece_bit_count}
use Rattle.windows.specs.Window.{covers, all_assigned}
use Rattle.streaming.specs.declared.decoder.StreamingDecoder.{StreamingDecoder}
use Rattle.streaming.specs.Stream.{sound_stream}
use Rattle.fantailclock.specs.declared.shapes.Guesser.{Guesser}
use Rattle.fantailclock.specs.declared.shapes.Encoder.{Encoder}
use Rattle.fantailclock.specs.declared.shapes.Stream.{Stream}
use Rattle.fantailclock.specs.Encoders.{fitting}

infix 4 ◌unless◌
-- a question: the number when the answer is no, and the answer
pub data Asked : Type 0 where
  ◌unless◌ : ℕ → Bool → Asked

unfoldable pub first_no : List Asked → ℕ
first_no [] = 0
first_no ((number unless answer) ∷ others) = cond answer (first_no others) number

-- whether every byte was a member
abbrev pub clean : Option Stranger → Bool
clean None = true
clean (Some first) = false

-- 4, of the guesser's calls
unfoldable pub asked_of_guesser : AlphabetGuesser → List Asked
asked_of_guesser g = (1 unless sound_guesser g) ∷ []

-- 1, of `kind_of_number` and of the encoder's `new`
unfoldable pub asked_of_alphabet : ℕ → List Asked
asked_of_alphabet alphabet = (8 unless known alphabet) ∷ []

-- 1 of both numbers, of `later_alphabet`
unfoldable pub asked_of_two : ℕ → ℕ → List Asked
asked_of_two one other = (8 unless known one && known other) ∷ []

-- 1, 5, 9, 10, of `encode_sequence`
unfoldable pub asked_of_text : ℕ → Bool → List ℕ → ℕ → List Asked
asked_of_text alphabet fold text room =
    (8 unless known alphabet)
    ∷ (2 unless in_bounds (length text))
    ∷ (4 unless leb (bytes_for (length text * (numbered alphabet).width)) room)
    ∷ (5 unless clean (first_from (numbered_by fold alphabet) 0 text))
    ∷ []

-- 4, 5, 9, of `update`, and of `ask`, where `room` is the length that is asked about
unfoldable pub asked_of_piece : SequenceEncoder → List ℕ → ℕ → List Asked
asked_of_piece s piece room =
    (1 unless sound_encoder s)
    ∷ (2 unless in_bounds (s.seen + length piece))
    ∷ (4 unless leb (piece_bit_count s (length piece) / 8) room)
    ∷ []

-- 4, 8, 9, of `finalize`
unfoldable pub asked_of_end : SequenceEncoder → ℕ → List Asked
asked_of_end s room = (1 unless sound_encoder s) ∷ (5 unless clean s.bad.first) ∷ (4 unless leb (bytes_for s.bits) room) ∷ []

-- 2, 5, of `byte_range_for_bases`
unfoldable pub asked_of_range : ℕ → ℕ → ℕ → List Asked
asked_of_range start end bits = (9 unless leb bits 8) ∷ (2 unless in_bounds start && in_bounds end) ∷ []

-- 1, 5, 9, of a read whose window is not empty; of a covered one 6 before the last, and request A7's behind it
unfoldable pub asked_of_read : ℕ → ℕ → ℕ → ℕ → ℕ → List Asked
asked_of_read alphabet offset start end room =
    cond (ltb start end) ((8 unless known alphabet) ∷ (2 unless in_bounds end && in_bounds offset) ∷ (4 unless leb (end - start) room) ∷ []) []

unfoldable pub asked_of_covered : ℕ → List ℕ → ℕ → ℕ → ℕ → ℕ → List Asked
asked_of_covered alphabet lent offset start end room =
    cond (ltb start end)
    ((8 unless known alphabet)
    ∷ (2 unless in_bounds end && in_bounds offset)
    ∷ (3 unless covers (numbered alphabet) lent offset start end)
    ∷ (4 unless leb (end - start) room)
    ∷ (18 unless all_assigned (numbered alphabet) lent offset start end)
    ∷ [])
    []

-- 1, 3, of the stream's `new`
unfoldable pub asked_of_start : ℕ → ℕ → List Asked
asked_of_start alphabet skip = (8 unless known alphabet) ∷ (6 unless ltb skip 8) ∷ []

-- 4, of a stream call, which has no question 9
unfoldable pub asked_of_stream : StreamingDecoder → List Asked
asked_of_stream s = (1 unless sound_stream s) ∷ []

-- 4, 7, of the end call
unfoldable pub asked_of_stream_end : StreamingDecoder → List Asked
asked_of_stream_end s = (1 unless sound_stream s) ∷ (7 unless eqb s.skip 0 && eqb s.budget 0) ∷ []

-- ---- of a state as a host's numbers, before what its call asks of the state: is its alphabet one, and do the numbers fit their fields?

unfoldable pub asked_of_guesser_numbers : Guesser → List Asked → List Asked
asked_of_guesser_numbers g others = (1 unless leb g.mask 255 && leb g.fold 1) ∷ others

unfoldable pub asked_of_encoder_numbers : Encoder → List Asked → List Asked
asked_of_encoder_numbers e others =
    (8 unless known e.alphabet)
    ∷ (1 unless fitting e)
    ∷ (1 unless leb e.pending_bits 255 && leb e.pending 255)
    ∷ others

unfoldable pub asked_of_stream_numbers : Stream → List Asked → List Asked
asked_of_stream_numbers s others =
    (8 unless known s.alphabet) ∷ (1 unless leb s.skip 255 && leb s.pending_bits 255 && leb s.pending 255) ∷ others
