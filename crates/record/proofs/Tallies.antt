-- A list of calls by the encoder's definitions, refused calls included, is told by the tally.
use Rattle.std.proofs.Common.{Result, Ok, Err, Option, Some, None}
use mathlib.Core.Path.{◌≡◌, refl, sym, ap, ap₂, ◌∙◌}
use mathlib.Core.Bool.{Bool, true, false, cond}
use mathlib.Core.List.{List, [], ◌∷◌, ◌++◌, append-nil}
use Prim.Native.Nat.{ℕ, ◌+◌, ◌*◌, ◌/◌, ◌%◌, ◌≤◌, ◌<◌}
use native.Mathlib.Nat.{zero-add, add-mul}
use native.Mathlib.Omega.{arith}
use borrow.Author.Tests.{leb-true, le-leb, lt-leb, eqb-true, eqb-false, ltb-true, ltb-false}
use lib.Dec.{leb, ltb, eqb}
use lib.ListN.{length, take, drop, length-append, length-map}
use Rattle.bits.specs.Tables.{tabulate, at}
use Rattle.bits.specs.Streams.{cut}
use Rattle.bits.specs.Packing.{bytes_for, pack}
use Rattle.bits.specs.Memory.{front}
use Rattle.bits.proofs.Appended.{length_cut, cut_moved, drop-cut, part_cut}
use Rattle.alphabet.specs.declared.kind.AlphabetType.{AlphabetType}
use Rattle.alphabet.specs.Questions.{ask◌else◌then◌, by, limit, in_bounds, accepted, refused}
use Rattle.alphabet.specs.Symbols.{Coding, coding_by}
use Rattle.packing.specs.declared.encoder.SequenceEncoder.{SequenceEncoder}
use Rattle.packing.specs.declared.encoder.Updated.{Updated}
use Rattle.packing.specs.Answers.{updated_reply, finalized_reply}
use Rattle.members.specs.Members.{bad_in, members_ahead_of}
use Rattle.packing.specs.Encode.{digit_of, packing, first_from, unless_bad, fresh_encoder, piece_bits, piece_bit_count}
use Rattle.packing.specs.Encode.{update_at, update_writes, update_memory, finalize_at, finalize_writes, finalize_memory}
use Rattle.packing.proofs.Search.{first-ahead}
use Rattle.record.specs.Calls.{Call, update, finalize, Outcome, is_accepted}
use Rattle.record.specs.Tally.{text_packed, bytes_filled, Turn, stay, completes, update_turn, finalize_turn, shown, tally}
use Rattle.record.specs.Runs.{next_encoder, unless_final, run}
use Rattle.record.proofs.States.{text_bits, state_of, fresh_state, state_sound, length_both, piece-bits, state_updated}
use Rattle.alphabet.specs.declared.refusal.Refused.{Refused}
use Rattle.alphabet.specs.Refusing.{◌keeping◌}
use Rattle.packing.specs.declared.stranger.Stranger.{Stranger}

-- ---- the tally's words and the encoder's

module _ (A : Coding) where
  pub same_packing : (text : List ℕ) → text_packed A text ≡ packing A text
  unfolding text_packed packing digit_of
  same_packing text = refl

  -- a text's packing is cut from its bits
  pub packing-cut : (text : List ℕ) → packing A text ≡ cut 8 (text_bits A text) 0 (bytes_for (length text * A.width))
  unfolding packing pack
  packing-cut text = ap (λ (n : ℕ). cut 8 (text_bits A text) 0 (bytes_for (n * A.width))) (length-map text (digit_of A))

  pub length-packing : (text : List ℕ) → length (packing A text) ≡ bytes_for (length text * A.width)
  length-packing text = ap length (packing-cut text) ∙ length_cut 8 (text_bits A text) 0 (bytes_for (length text * A.width))

-- the question of memory for one byte
due : (s : SequenceEncoder) (c d room : ℕ) (b : Bool) → c ≡ d → leb d room ≡ b
    → (ask leb c room else Err (by 4 [] keeping s) then Ok c) ≡ (ask b else Err (by 4 [] keeping s) then Ok d)
due s c d room b e l = rw (e, l)

-- ---- by an alphabet and a choice to fold

module _ (fold : Bool) (k : AlphabetType) where
  abbrev A : Coding
  A = coding_by fold k

  -- the state of a text
  abbrev state : List ℕ → SequenceEncoder
  state text = state_of fold k text

  -- ---- `update`

  module _ (text piece : List ℕ) where
    count_same : piece_bit_count (state text) (length piece) / 8 ≡ completes A text piece
    unfolding piece_bit_count state_of completes
    count_same = omega (arith, add-mul (length text) (length piece) A.width)

    bytes_same :
        cut 8 (piece_bits (state text) piece) 0 (completes A text piece)
        ≡ take (completes A text piece) (drop (bytes_filled A (length text)) (text_packed A (text ++ piece)))
    unfolding completes
    bytes_same =
        let f : ℕ = bytes_filled A (length text) in
        let c : ℕ = completes A text piece in
        let fits : f + c ≤ bytes_for (length (text ++ piece) * A.width) = omega (arith, length_both fold k text piece, add-mul (length text) (length piece) A.width) in
        cut_moved 8 (piece_bits (state text) piece) (text_bits A (text ++ piece)) 0 (f * 8) c
        (λ i h. ap (piece_bits (state text) piece) (zero-add i) ∙ piece-bits fold k text piece i)
        ∙ sym (part_cut 8 (text_bits A (text ++ piece)) f c (bytes_for (length (text ++ piece) * A.width)) fits)
        ∙ ap (λ (l : List ℕ). take c (drop f l)) (sym (same_packing A (text ++ piece) ∙ packing-cut A (text ++ piece)))

    update-answer :
        (room : ℕ) →
        length text ≤ limit →
        update_at (state text) piece room
        ≡ (ask in_bounds (length text + length piece) else Err (by 2 [] keeping state text) then
        ask leb (completes A text piece) room else Err (by 4 [] keeping state text) then
        Ok (record { count = completes A text piece; next = state (text ++ piece) }))
    unfolding update_at state_of
    update-answer room h = rw (state_sound fold k text h, count_same, state_updated fold k text piece)

  -- the rest of a list goes on alike after an `update`
  step-update :
      (text piece memory : List ℕ) (cs : List Call) →
      length text ≤ limit →
      ((u : List ℕ) → length u ≤ limit → run (state u) cs ≡ tally A u cs) →
      run (state text) (update piece memory ∷ cs) ≡ tally A text (update piece memory ∷ cs)
  unfolding run tally update_memory update_writes update_turn
  step-update text piece memory cs h go =
      ap after (update-answer text piece (length memory) h) ∙ by_cases (in_bounds (length text + length piece)) (leb (completes A text piece) (length memory)) refl
    where
      after : Result Updated (Refused SequenceEncoder) → List Outcome
      after r = record { reply = updated_reply r; memory = front (update_writes (state text) piece r) memory } ∷ run (next_encoder r) cs

      next : Turn → List Outcome
      next turn = shown turn memory ∷ tally A turn.text cs

      by_cases :
          (a b : Bool) →
          in_bounds (length text + length piece) ≡ a →
          after
          (ask a else Err (by 2 [] keeping state text) then
          ask b else Err (by 4 [] keeping state text) then
          Ok (record { count = completes A text piece; next = state (text ++ piece) }))
          ≡ next
          (ask a else stay text (refused 2 []) then
          ask b else stay text (refused 4 []) then
          record {
            reply = accepted (completes A text piece ∷ []);
            bytes = take (completes A text piece) (drop (bytes_filled A (length text)) (text_packed A (text ++ piece)));
            text = text ++ piece;
          })
      by_cases true true e =
          ap₂ (λ (w : List ℕ) (os : List Outcome). record { reply = accepted (completes A text piece ∷ []); memory = front w memory } ∷ os) (bytes_same text piece)
          (go (text ++ piece) (omega (arith, length-append text piece, leb-true (length text + length piece) limit e)))
      by_cases true false e = ap (λ (os : List Outcome). record { reply = refused 4 []; memory = front [] memory } ∷ os) (go text h)
      by_cases false b e = ap (λ (os : List Outcome). record { reply = refused 2 []; memory = front [] memory } ∷ os) (go text h)

  -- ---- `finalize`

  module _ (text : List ℕ) where
    abbrev pends : ℕ
    pends = length text * A.width % 8

    last_same : (pends ≡ 0 → ⊥) → cut 8 (piece_bits (state text) []) 0 1 ≡ drop (bytes_filled A (length text)) (text_packed A text)
    last_same z =
        let f : ℕ = bytes_filled A (length text) in
        let one_more : bytes_for (length text * A.width) ≡ f + 1 = omega arith in
        cut_moved 8 (piece_bits (state text) []) (text_bits A text) 0 (f * 8) 1
        (λ i h. ap (piece_bits (state text) []) (zero-add i) ∙ piece-bits fold k text [] i ∙ ap (λ (l : List ℕ). text_bits A l (f * 8 + i)) (append-nil text))
        ∙ sym (drop-cut 8 (text_bits A text) f 1)
        ∙ ap (λ (n : ℕ). drop f (cut 8 (text_bits A text) 0 n)) (sym one_more)
        ∙ ap (drop f) (sym (same_packing A text ∙ packing-cut A text))

    finalize-answer :
        (room : ℕ) →
        length text ≤ limit →
        finalize_at (state text) room
        ≡ (ask eqb (members_ahead_of A text) (length text)
        else Err (by 5 (members_ahead_of A text ∷ at text (members_ahead_of A text) ∷ bad_in A text ∷ []) keeping state text) then
        ask leb (bytes_for pends) room else Err (by 4 [] keeping state text) then
        Ok (bytes_for pends))
    unfolding finalize_at state_of
    finalize-answer room h =
        ap (λ (b : Bool). ask b else Err (by 1 [] keeping state text) then asked (first_from A 0 text)) (state_sound fold k text h)
        ∙ ap asked (first-ahead A 0 text ∙ ap (λ (j : ℕ). cond (eqb a (length text)) None (Some (record { position = j; byte = at text a }))) (zero-add a))
        ∙ go (eqb a (length text))
      where
        a : ℕ
        a = members_ahead_of A text

        rest : Result ℕ (Refused SequenceEncoder)
        rest = ask leb (bytes_for pends) room else Err (by 4 [] keeping state text) then Ok (bytes_for pends)

        asked : Option Stranger → Result ℕ (Refused SequenceEncoder)
        asked first = unless_bad first (λ position byte. Err (by 5 (position ∷ byte ∷ bad_in A text ∷ []) keeping state text)) rest

        go :
            (b : Bool) →
            asked (cond b None (Some (record { position = a; byte = at text a })))
            ≡ (ask b else Err (by 5 (a ∷ at text a ∷ bad_in A text ∷ []) keeping state text) then rest)
        go true = refl
        go false = refl

  step-finalize :
      (text memory : List ℕ) (cs : List Call) →
      length text ≤ limit →
      run (state text) cs ≡ tally A text cs →
      run (state text) (finalize memory ∷ cs) ≡ tally A text (finalize memory ∷ cs)
  unfolding run tally finalize_memory finalize_writes finalize_turn cut tabulate
  step-finalize text memory cs h go =
      ap after (finalize-answer text (length memory) h) ∙ by_cases (eqb a (length text)) (eqb (pends text) 0) (ltb 0 (length memory)) refl refl
    where
      a : ℕ
      a = members_ahead_of A text

      after : Result ℕ (Refused SequenceEncoder) → List Outcome
      after r =
          record { reply = finalized_reply r; memory = front (finalize_writes (state text) r) memory }
          ∷ unless_final r [] (λ s. run s cs)

      next : Turn → List Outcome
      next turn = shown turn memory ∷ cond (is_accepted turn.reply) [] (tally A text cs)

      lone : List ℕ → List Outcome
      lone w = record { reply = accepted (1 ∷ []); memory = front w memory } ∷ []

      by_cases :
          (b p m : Bool) →
          eqb (pends text) 0 ≡ p →
          ltb 0 (length memory) ≡ m →
          after
          (ask b else Err (by 5 (a ∷ at text a ∷ bad_in A text ∷ []) keeping state text) then
          ask leb (bytes_for (pends text)) (length memory) else Err (by 4 [] keeping state text) then
          Ok (bytes_for (pends text)))
          ≡ next
          (ask b else stay text (refused 5 (a ∷ at text a ∷ bad_in A text ∷ [])) then
          cond p (stay text (accepted (0 ∷ [])))
          (ask m else stay text (refused 4 []) then
          record { reply = accepted (1 ∷ []); bytes = drop (bytes_filled A (length text)) (text_packed A text); text = text }))
      by_cases false p m e q = ap (λ (os : List Outcome). record { reply = refused 5 (a ∷ at text a ∷ bad_in A text ∷ []); memory = front [] memory } ∷ os) go
      by_cases true true m e q =
          let z : pends text ≡ 0 = eqb-true (pends text) 0 e in
          ap after (due (state text) (bytes_for (pends text)) 0 (length memory) true (omega arith) (le-leb 0 (length memory) (omega arith)))
      by_cases true false false e q =
          let z : pends text ≡ 0 → ⊥ = eqb-false (pends text) 0 e in
          let none : length memory ≤ 0 = ltb-false 0 (length memory) q in
          ap after (due (state text) (bytes_for (pends text)) 1 (length memory) false (omega arith) (lt-leb 1 (length memory) (omega arith)))
          ∙ ap (λ (os : List Outcome). record { reply = refused 4 []; memory = front [] memory } ∷ os) go
      by_cases true false true e q =
          let z : pends text ≡ 0 → ⊥ = eqb-false (pends text) 0 e in
          let some : 0 < length memory = ltb-true 0 (length memory) q in
          ap after (due (state text) (bytes_for (pends text)) 1 (length memory) true (omega arith) (le-leb 1 (length memory) (omega arith)))
          ∙ ap lone (last_same text z)

  -- ---- lists

  pub state_tally : (text : List ℕ) → length text ≤ limit → (cs : List Call) → run (state text) cs ≡ tally A text cs
  unfolding run tally
  state_tally text h [] = refl
  state_tally text h (update piece memory ∷ cs) = step-update text piece memory cs h (λ u l. state_tally u l cs)
  state_tally text h (finalize memory ∷ cs) = step-finalize text memory cs h (state_tally text h cs)

  -- every list of calls from a fresh encoder
  pub fresh-tally : (cs : List Call) → run (fresh_encoder fold k) cs ≡ tally A [] cs
  fresh-tally cs = ap (λ (s : SequenceEncoder). run s cs) (fresh_state fold k) ∙ state_tally [] (omega arith) cs
