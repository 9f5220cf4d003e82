-- Answers by number. States document 01, "Code places and language forms", its last rule, for the stream. A next state is told by the call's own definition.
use Rattle.std.specs.Prelude.{ℕ, [], ◌∷◌, Result, Ok, Err}
use Rattle.alphabet.specs.Questions.{Reply, accepted, refusal_reply}
use Rattle.alphabet.specs.declared.refusal.Refusal.{Refusal}
use Rattle.alphabet.specs.declared.refusal.Refused.{Refused}
use Rattle.streaming.specs.declared.status.Status.{Status}
use Rattle.streaming.specs.declared.status.Status.TheVariants.{Hungry, Done, Full}
use Rattle.streaming.specs.declared.decoder.StreamingDecoder.{StreamingDecoder}
use Rattle.streaming.specs.declared.decoder.Streamed.{Streamed}

-- the stream's `new`
abbrev pub stream_started_reply : Result StreamingDecoder Refusal → Reply
stream_started_reply (Ok s) = accepted []
stream_started_reply (Err q) = refusal_reply q

-- a status by its number, which is the host library's
abbrev pub status_number : Status → ℕ
status_number Hungry = 1
status_number Done = 2
status_number Full = 3

-- a stream call: bytes taken, bases written, status
abbrev pub streamed_reply : Result Streamed (Refused StreamingDecoder) → Reply
streamed_reply (Ok m) = accepted (m.taken ∷ m.written ∷ status_number m.status ∷ [])
streamed_reply (Err e) = refusal_reply e.refusal

-- the end call
abbrev pub ended_reply : Result Unit (Refused StreamingDecoder) → Reply
ended_reply (Ok done) = accepted []
ended_reply (Err e) = refusal_reply e.refusal
