-- A number comes out only for its own "no": each call's is that of the first of its questions that is answered no.
use mathlib.Core.Path.{◌≡◌, refl, ap, ◌∙◌}
use mathlib.Core.Bool.{Bool, true, false, cond, ◌&&◌, ◌||◌}
use mathlib.Core.List.{List, [], ◌∷◌}
use Prim.Native.Nat.{ℕ, ◌+◌, ◌-◌, ◌*◌, ◌/◌, ◌<◌, min}
use native.Mathlib.Omega.{arith}
use borrow.Author.Tests.{eq-eqb, ne_eqb, ltb-false}
use lib.Dec.{leb, ltb, eqb}
use lib.ListN.{length}
use Rattle.bits.specs.Packing.{bytes_for}
use Rattle.alphabet.specs.Questions.{ask◌else◌then◌, by, number_in, refusal_reply, in_bounds}
use Rattle.alphabet.specs.Symbols.{Coding}
use Rattle.alphabet.specs.Names.{known, numbered, numbered_by, named_at}
use Rattle.alphabet.specs.Guess.{sound_guesser, guesser_update_at}
use Rattle.alphabet.specs.Genome.{later_at}
use Rattle.alphabet.specs.Answers.{named_reply, guesser_updated_reply, guesser_update_told, guess_told}
use Rattle.alphabet.specs.declared.guesser.AlphabetGuesser.{AlphabetGuesser}
use Rattle.alphabet.specs.declared.refusal.Refusal.{Refusal}
use Rattle.alphabet.specs.declared.refusal.Refused.{Refused}
use Rattle.alphabet.specs.Refusing.{alone}
use Rattle.packing.specs.declared.stranger.Stranger.{Stranger}
use Rattle.packing.specs.declared.range.ByteRange.{ByteRange}
use Rattle.std.proofs.Common.{Option, Some, None, Result, Ok, Err}
use Rattle.alphabet.proofs.Calls.{named_told_lem, later_told_lem, update_told, guess_told_lem}
use Rattle.packing.specs.declared.encoder.SequenceEncoder.{SequenceEncoder}
use Rattle.packing.specs.Encode.{first_from, unless_bad, sound_encoder, piece_bit_count, start_encoder_at, encode_at, update_at, finalize_at}
use Rattle.packing.specs.declared.encoder.Updated.{Updated}
use Rattle.packing.specs.Range.{range_at}
use Rattle.packing.specs.Answers.{encoder_started_reply, encoded_reply, updated_reply, finalized_reply, range_reply}
use Rattle.windows.specs.Window.{covers, all_assigned, read_at, lent_at, looked_at, covered_at}
use Rattle.windows.specs.Answers.{read_reply}
use Rattle.windows.proofs.Assigned.{empty-assigned}
use Rattle.streaming.specs.declared.decoder.StreamingDecoder.{StreamingDecoder}
use Rattle.streaming.specs.declared.status.Status.{Status}
use Rattle.streaming.specs.declared.status.Status.TheVariants.{Full}
use Rattle.streaming.specs.declared.decoder.Streamed.{Streamed}
use Rattle.streaming.specs.Stream.{start_stream_at, stream_at, waiting, moved_by, moved, takes, bases_of, status_for, end_at, greatest, sound_stream}
use Rattle.streaming.specs.Answers.{stream_started_reply, streamed_reply, ended_reply}
use Rattle.fantailclock.specs.Asked.{Asked, ◌unless◌, first_no, clean, asked_of_guesser, asked_of_alphabet, asked_of_two, asked_of_text, asked_of_piece, asked_of_end, asked_of_range}
use Rattle.fantailclock.specs.Asked.{asked_of_read, asked_of_covered, asked_of_start, asked_of_stream, asked_of_stream_end}
use Rattle.fantailclock.specs.Asked.{asked_of_guesser_numbers, asked_of_encoder_numbers, asked_of_stream_numbers}
use Rattle.fantailclock.specs.declared.shapes.Guesser.{Guesser}
use Rattle.fantailclock.specs.declared.shapes.Encoder.{Encoder}
use Rattle.fantailclock.specs.declared.shapes.Stream.{Stream}
use Rattle.fantailclock.specs.Shapes.{chosen}
use Rattle.fantailclock.specs.Guesses as guesses
use Rattle.fantailclock.specs.Encoders as encoders
use Rattle.fantailclock.specs.Streams as streams

-- what an answer tells where a question decides it
asked : {A : Type 0} (tell : A → ℕ) (b : Bool) (no_answer rest : A) {n m : ℕ} → tell no_answer ≡ n → tell rest ≡ m → tell (ask b else no_answer then rest) ≡ cond b m n
asked tell true no_answer rest e f = f
asked tell false no_answer rest e f = e

-- and where it is the question whether every byte was a member
members : {A : Type 0} (tell : A → ℕ) (first : Option Stranger) (bad : ℕ → ℕ → A) (rest : A) {n m : ℕ} → ((position byte : ℕ) → tell (bad position byte) ≡ n) → tell rest ≡ m
    → tell (unless_bad first bad rest) ≡ cond (clean first) m n
members tell None bad rest e f = f
members tell (Some first) bad rest e f = e first.position first.byte

-- ---- the guesser, and an alphabet's number

pub guesser_number : (g : AlphabetGuesser) (text : List ℕ) → number_in (guesser_update_told g text) ≡ first_no (asked_of_guesser g)
unfolding first_no asked_of_guesser
guesser_number g text = asked number_in (sound_guesser g) _ _ refl refl

pub guess_number : (g : AlphabetGuesser) → number_in (guess_told g) ≡ first_no (asked_of_guesser g)
unfolding first_no asked_of_guesser
guess_number g = asked number_in (sound_guesser g) _ _ refl refl

pub named_number : (n : ℕ) → number_in (named_reply (named_at n)) ≡ first_no (asked_of_alphabet n)
unfolding first_no asked_of_alphabet
named_number n = ap number_in (named_told_lem n) ∙ asked number_in (known n) _ _ refl refl

pub later_number : (one other : ℕ) → number_in (named_reply (later_at one other)) ≡ first_no (asked_of_two one other)
unfolding first_no asked_of_two
later_number one other = ap number_in (later_told_lem one other) ∙ asked number_in (known one && known other) _ _ refl refl

-- ---- packing

pub start_number : (n : ℕ) (fold : Bool) → number_in (encoder_started_reply (start_encoder_at n fold)) ≡ first_no (asked_of_alphabet n)
unfolding first_no asked_of_alphabet start_encoder_at
start_number n fold = asked (λ x. number_in (encoder_started_reply x)) (known n) _ _ refl refl

pub encode_number : (n : ℕ) (fold : Bool) (text : List ℕ) (room : ℕ) → number_in (encoded_reply (encode_at n fold text room)) ≡ first_no (asked_of_text n fold text room)
unfolding first_no asked_of_text encode_at
encode_number n fold text room =
    let tell : Result ℕ Refusal → ℕ = λ x. number_in (encoded_reply x) in
    asked tell (known n) _ _ refl
    (asked tell (in_bounds (length text)) _ _ refl (asked tell (leb (bytes_for (length text * (numbered n).width)) room) _ _ refl
    (members tell (first_from (numbered_by fold n) 0 text) _ _ (λ position byte. refl) refl)))

pub update_number : (s : SequenceEncoder) (piece : List ℕ) (room : ℕ) → number_in (updated_reply (update_at s piece room)) ≡ first_no (asked_of_piece s piece room)
unfolding first_no asked_of_piece update_at
update_number s piece room =
    let tell : Result Updated (Refused SequenceEncoder) → ℕ = λ x. number_in (updated_reply x) in
    asked tell (sound_encoder s) _ _ refl
    (asked tell (in_bounds (s.seen + length piece)) _ _ refl (asked tell (leb (piece_bit_count s (length piece) / 8) room) _ _ refl refl))

pub finalize_number : (s : SequenceEncoder) (room : ℕ) → number_in (finalized_reply (finalize_at s room)) ≡ first_no (asked_of_end s room)
unfolding first_no asked_of_end finalize_at
finalize_number s room =
    let tell : Result ℕ (Refused SequenceEncoder) → ℕ = λ x. number_in (finalized_reply x) in
    asked tell (sound_encoder s) _ _ refl
    (members tell s.bad.first _ _ (λ position byte. refl) (asked tell (leb (bytes_for s.bits) room) _ _ refl refl))

pub range_number : (start end bits : ℕ) → number_in (range_reply (range_at start end bits)) ≡ first_no (asked_of_range start end bits)
unfolding first_no asked_of_range range_at
range_number start end bits =
    let tell : Result ByteRange Refusal → ℕ = λ x. number_in (range_reply x) in
    asked tell (leb bits 8) _ _ refl (asked tell (in_bounds start && in_bounds end) _ _ refl refl)

-- ---- windows

-- an empty window is answered before any question
empty_or : {A : Type 0} (tell : A → ℕ) (b : Bool) (empty rest : A) (questions : List Asked) → tell empty ≡ 0 → tell rest ≡ first_no questions
    → tell (ask b else empty then rest) ≡ first_no (cond b questions [])
unfolding first_no
empty_or tell true empty rest questions e f = f
empty_or tell false empty rest questions e f = e

pub read_number : (n offset start end room : ℕ) → number_in (read_reply (read_at n offset start end room)) ≡ first_no (asked_of_read n offset start end room)
unfolding first_no asked_of_read read_at
read_number n offset start end room =
    let tell : Result ℕ Refusal → ℕ = λ x. number_in (read_reply x) in
    empty_or tell (ltb start end) _ _ _ refl
    (asked tell (known n) _ _ refl
    (asked tell (in_bounds end && in_bounds offset) _ _ refl (asked tell (leb (end - start) room) _ _ refl refl)))

-- of an empty window no code is asked about either
pub covered_number : (n : ℕ) (lent : List ℕ) (offset start end room : ℕ)
    → number_in (read_reply (covered_at n lent offset start end room)) ≡ first_no (asked_of_covered n lent offset start end room)
unfolding first_no asked_of_covered covered_at lent_at
covered_number n lent offset start end room = go (ltb start end) refl
  where
    A : Coding
    A = numbered n

    tell : Result ℕ Refusal → ℕ
    tell x = number_in (read_reply (looked_at A lent offset start end x))

    rest : Result ℕ Refusal
    rest =
        ask known n else Err (by 8 []) then
        ask in_bounds end && in_bounds offset else Err (by 2 []) then
        ask covers A lent offset start end else Err (by 3 []) then
        ask leb (end - start) room else Err (by 4 []) then
        Ok (end - start)

    questions : List Asked
    questions =
        (8 unless known n)
        ∷ (2 unless in_bounds end && in_bounds offset)
        ∷ (3 unless covers A lent offset start end)
        ∷ (4 unless leb (end - start) room)
        ∷ (18 unless all_assigned A lent offset start end)
        ∷ []

    go : (t : Bool) → ltb start end ≡ t → tell (ask t else Ok 0 then rest) ≡ first_no (cond t questions [])
    go true e =
        asked tell (known n) _ _ refl
        (asked tell (in_bounds end && in_bounds offset) _ _ refl
        (asked tell (covers A lent offset start end) _ _ refl
        (asked tell (leb (end - start) room) _ _ refl
        (asked (λ x. number_in (read_reply x)) (all_assigned A lent offset start end) _ _ refl refl))))
    go false e = rw (empty-assigned A lent offset start end (ltb-false start end e))

-- ---- the stream

pub stream_start_number : (n skip budget : ℕ) → number_in (stream_started_reply (start_stream_at n skip budget)) ≡ first_no (asked_of_start n skip)
unfolding first_no asked_of_start start_stream_at
stream_start_number n skip budget =
    let tell : Result StreamingDecoder Refusal → ℕ = λ x. number_in (stream_started_reply x) in
    asked tell (known n) _ _ refl (asked tell (ltb skip 8) _ _ refl refl)

-- with the skip due and no source a call is accepted, and so is one that moves: 1 is its only number
pub stream_number : (s : StreamingDecoder) (source : List ℕ) (room : ℕ) → number_in (streamed_reply (stream_at s source room)) ≡ first_no (asked_of_stream s)
unfolding first_no asked_of_stream stream_at moved_by
stream_number s source room =
    let tell : Result Streamed (Refused StreamingDecoder) → ℕ = λ x. number_in (streamed_reply x) in
    asked tell (sound_stream s) _ _ refl (either (eqb s.skip 0 || ltb 0 (length source)))
  where
    either : (b : Bool) → number_in (streamed_reply (ask b else Ok (waiting s) then Ok (moved_by s source room (bases_of s source room)))) ≡ 0
    either true = refl
    either false = refl

pub stream_end_number : (s : StreamingDecoder) → number_in (ended_reply (end_at s)) ≡ first_no (asked_of_stream_end s)
unfolding first_no asked_of_stream_end end_at
stream_end_number s =
    let tell : Result (Unit {0}) (Refused StreamingDecoder) → ℕ = λ x. number_in (ended_reply x) in
    asked tell (sound_stream s) _ _ refl (asked tell (eqb s.skip 0 && eqb s.budget 0) _ _ refl refl)

-- and where there is no memory for a base that is due it answers Full
status_full : (budget room : ℕ) → 0 < budget → room ≡ 0 → status_for budget room ≡ Full
status_full budget room h e = rw (ne_eqb budget 0 (λ z. omega arith), eq-eqb room 0 e)

pub no_memory_full : (s : StreamingDecoder) (source : List ℕ) → sound_stream s ≡ true → eqb s.skip 0 || ltb 0 (length source) ≡ true → 0 < s.budget
    → stream_at s source 0 ≡ Ok (record { taken = takes s 0; written = 0; status = Full; next = moved s source 0 })
unfolding stream_at bases_of greatest moved_by
no_memory_full s source e f h =
    let none : min s.budget 0 ≡ 0 = omega arith in
    let bases : bases_of s source 0 ≡ 0 = ap (greatest (λ n. leb (takes s n) (length source))) none in
    rw (e, f)
    (ap (λ (n : ℕ). Ok (moved_by s source 0 n)) bases
    ∙ ap (λ (x : Status). Ok (record { taken = takes s 0; written = 0; status = x; next = moved s source 0 })) (status_full (s.budget - 0) (0 - 0) (omega arith) (omega arith)))

-- ---- where hosts call: the numbers of a state are asked first, then what its call asks of the state

module _ (g : Guesser) where
  guesser_asked : (tell : Result AlphabetGuesser Refusal → ℕ) (others : List Asked) → ((q : Refusal) → tell (Err q) ≡ number_in (refusal_reply q)) → tell (Ok (guesses.inside g)) ≡ first_no others
      → tell (guesses.state_of g) ≡ first_no (asked_of_guesser_numbers g others)
  unfolding first_no asked_of_guesser_numbers guesses.state_of
  guesser_asked tell others says h = asked tell (leb g.mask 255 && leb g.fold 1) _ _ (says (by 1 [])) h

  pub hosted_guesser_number : (text : List ℕ) → (guesses.guesser_updated g text).refusal ≡ first_no (asked_of_guesser_numbers g (asked_of_guesser (guesses.inside g)))
  unfolding guesses.guesser_updated
  hosted_guesser_number text =
      let s : AlphabetGuesser = guesses.inside g in
      guesser_asked (λ x. (guesses.updated_by g (guesses.answer_from text x)).refusal) _ (λ q. refl)
      (same (guesser_update_at s text) ∙ ap number_in (update_told s text) ∙ guesser_number s text)
    where
      same : (u : Result AlphabetGuesser (Refused AlphabetGuesser)) → (guesses.updated_by g (alone u)).refusal ≡ number_in (guesser_updated_reply u)
      same (Ok s) = refl
      same (Err e) = refl

  pub hosted_guess_number : number_in (guesses.guesser_told g) ≡ first_no (asked_of_guesser_numbers g (asked_of_guesser (guesses.inside g)))
  unfolding guesses.guesser_told
  hosted_guess_number =
      guesser_asked (λ x. number_in (guesses.guess_from x)) _ (λ q. refl) (ap number_in (guess_told_lem (guesses.inside g)) ∙ guess_number (guesses.inside g))

pub hosted_start_number : (n fold : ℕ) → (encoders.encoder_started n fold).refusal ≡ first_no (asked_of_alphabet n)
unfolding encoders.encoder_started
hosted_start_number n fold = same (start_encoder_at n (chosen fold)) ∙ start_number n (chosen fold)
  where
    same : (x : Result SequenceEncoder Refusal) → (encoders.started_by n fold x).refusal ≡ number_in (encoder_started_reply x)
    same (Ok s) = refl
    same (Err q) = refl

module _ (e : Encoder) where
  encoder-asked : (tell : Result SequenceEncoder Refusal → ℕ) (others : List Asked) → ((q : Refusal) → tell (Err q) ≡ number_in (refusal_reply q)) → tell (Ok (encoders.inside e)) ≡ first_no others
      → tell (encoders.state_of e) ≡ first_no (asked_of_encoder_numbers e others)
  unfolding first_no asked_of_encoder_numbers encoders.state_of
  encoder-asked tell others says h =
      asked tell (known e.alphabet) _ _ (says (by 8 []))
      (asked tell (encoders.fitting e) _ _ (says (by 1 [])) (asked tell (leb e.pending_bits 255 && leb e.pending 255) _ _ (says (by 1 [])) h))

  pub hosted_update_number : (piece : List ℕ) (room : ℕ)
      → (encoders.encoder_updated e piece room).refusal ≡ first_no (asked_of_encoder_numbers e (asked_of_piece (encoders.inside e) piece room))
  unfolding encoders.encoder_updated
  hosted_update_number piece room =
      let s : SequenceEncoder = encoders.inside e in
      encoder-asked (λ x. (encoders.updated_by e (encoders.answer_from piece room x)).refusal) _ (λ q. refl) (same (update_at s piece room) ∙ update_number s piece room)
    where
      same : (x : Result Updated (Refused SequenceEncoder)) → (encoders.updated_by e (alone x)).refusal ≡ number_in (updated_reply x)
      same (Ok u) = refl
      same (Err r) = refl

  pub hosted_finalize_number : (room : ℕ) → number_in (encoders.finalize_told e room) ≡ first_no (asked_of_encoder_numbers e (asked_of_end (encoders.inside e) room))
  unfolding encoders.finalize_told
  hosted_finalize_number room =
      encoder-asked (λ x. number_in (encoders.finalize_from room x)) _ (λ q. refl) (finalize_number (encoders.inside e) room)

module _ (s : Stream) where
  stream-asked : (tell : Result StreamingDecoder Refusal → ℕ) (others : List Asked) → ((q : Refusal) → tell (Err q) ≡ number_in (refusal_reply q)) → tell (Ok (streams.inside s)) ≡ first_no others
      → tell (streams.state_of s) ≡ first_no (asked_of_stream_numbers s others)
  unfolding first_no asked_of_stream_numbers streams.state_of
  stream-asked tell others says h =
      asked tell (known s.alphabet) _ _ (says (by 8 []))
      (asked tell (leb s.skip 255 && leb s.pending_bits 255 && leb s.pending 255) _ _ (says (by 1 [])) h)

  pub hosted_stream_number : (source : List ℕ) (room : ℕ)
      → (streams.streamed s source room).refusal ≡ first_no (asked_of_stream_numbers s (asked_of_stream (streams.inside s)))
  unfolding streams.streamed
  hosted_stream_number source room =
      let d : StreamingDecoder = streams.inside s in
      stream-asked (λ x. (streams.streamed_by s (streams.answer_from source room x)).refusal) _ (λ q. refl) (same (stream_at d source room) ∙ stream_number d source room)
    where
      same : (x : Result Streamed (Refused StreamingDecoder)) → (streams.streamed_by s (alone x)).refusal ≡ number_in (streamed_reply x)
      same (Ok m) = refl
      same (Err e) = refl

  pub hosted_end_number : number_in (streams.end_told s) ≡ first_no (asked_of_stream_numbers s (asked_of_stream_end (streams.inside s)))
  unfolding streams.end_told
  hosted_end_number = stream-asked (λ x. number_in (streams.end_from x)) _ (λ q. refl) (stream_end_number (streams.inside s))
