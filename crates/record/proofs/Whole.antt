-- After an accepted `finalize` the bytes written, joined, are the packing of the accepted pieces, joined.
use mathlib.Core.Path.{◌≡◌, refl, sym, ap, ap₂, ◌∙◌}
use mathlib.Core.Bool.{Bool, true, false, cond, true≢false}
use mathlib.Core.List.{List, [], ◌∷◌, ◌++◌, append-nil, append_assoc, map-append}
use Prim.Native.Nat.{ℕ, zero, suc, ◌+◌, ◌-◌, ◌*◌, ◌/◌, ◌%◌, ◌≤◌}
use native.Mathlib.Nat.{add-mul, zero-mul, le_of_suc-le-suc, not-suc-le-zero}
use native.Mathlib.Omega.{arith}
use borrow.Author.Tests.{leb-true, eqb-true, eqb-false}
use lib.Dec.{leb, ltb, eqb}
use lib.ListN.{length, take, drop, length-append, length-map, length-drop, take-append-drop, drop_of_length-le}
use lib.Seq.{take_at, drop-drop, length-take-le}
use Rattle.bits.specs.Tables.{at}
use Rattle.bits.specs.Streams.{bit_at, cut}
use Rattle.bits.specs.Packing.{bytes_for}
use Rattle.bits.specs.Memory.{front}
use Rattle.bits.proofs.Appended.{cut_moved, part_cut, bits_left}
use Rattle.alphabet.specs.declared.kind.AlphabetType.{AlphabetType}
use Rattle.alphabet.specs.Questions.{ask◌else◌then◌, limit, in_bounds, accepted, refused, value_in}
use Rattle.alphabet.specs.Symbols.{Coding, coding_by}
use Rattle.alphabet.specs.Names.{known, kind_of, numbered_by}
use Rattle.alphabet.proofs.Laws.{lawful}
use Rattle.members.specs.Members.{bad_in, members_ahead_of}
use Rattle.packing.specs.Encode.{digit_of, digits_of, packing, fresh_encoder}
use Rattle.record.specs.Calls.{Call, update, finalize, Outcome, is_accepted, written, accepted_text, finished}
use Rattle.record.specs.Tally.{text_packed, bytes_filled, Turn, stay, completes, update_turn, finalize_turn, tally}
use Rattle.record.specs.Runs.{run}
use Rattle.record.specs.Texts.{Members, Packed}
use Rattle.record.proofs.States.{text_bits, length_both}
use Rattle.record.proofs.Tallies.{same_packing, packing-cut, length-packing, fresh-tally}

-- from a text on, to the end of a list: the text grew by `more`, all of it is members, and these bytes of its packing were written
record Reaches (A : Coding) (text more bytes : List ℕ) : Type 0 where
  wrote : bytes ≡ drop (bytes_filled A (length text)) (packing A (text ++ more))
  all : members_ahead_of A (text ++ more) ≡ length (text ++ more)
  fits : length (text ++ more) ≤ limit

take-front : (bytes memory : List ℕ) (n : ℕ) → length bytes ≡ n → take n (front bytes memory) ≡ bytes
take-front bytes memory n e = take_at bytes (drop (length bytes) memory) n e

-- ---- texts of members

all_members : (A : Coding) (text : List ℕ) → members_ahead_of A text ≡ length text → Members A text
unfolding members_ahead_of
all_members A [] e = λ i h. absurd (not-suc-le-zero h)
all_members A (x ∷ text) e = go (A.member x) refl e (all_members A text)
  where
    go : (m : Bool) → A.member x ≡ m → cond m (suc (members_ahead_of A text)) 0 ≡ suc (length text) → (members_ahead_of A text ≡ length text → Members A text) → Members A (x ∷ text)
    go true m e ih zero h = m
    go true m e ih (suc i) h = ih (omega arith) i (le_of_suc-le-suc h)
    go false m e ih i h = absurd (omega arith)

pub accepted_nil : (cs : List Call) → accepted_text cs [] ≡ []
unfolding accepted_text
accepted_nil [] = refl
accepted_nil (c ∷ cs) = refl

-- ---- bytes that are full stay as the text goes on

module _ (fold : Bool) (k : AlphabetType) where
  abbrev A : Coding
  A = coding_by fold k

  part : (t : List ℕ) (f c : ℕ) → f + c ≤ bytes_for (length t * A.width) → take c (drop f (packing A t)) ≡ cut 8 (text_bits A t) (f * 8) c
  part t f c h = ap (λ (l : List ℕ). take c (drop f l)) (packing-cut A t) ∙ part_cut 8 (text_bits A t) f c (bytes_for (length t * A.width)) h

  stays : (t u : List ℕ) (f c : ℕ) → (f + c) * 8 ≤ length t * A.width → take c (drop f (packing A t)) ≡ take c (drop f (packing A (t ++ u)))
  stays t u f c h =
      part t f c (omega arith)
      ∙ cut_moved 8 (text_bits A t) (text_bits A (t ++ u)) (f * 8) (f * 8) c
      (λ i l.
      sym
      (ap (λ (l : List ℕ). bit_at A.width (at l) (f * 8 + i)) (map-append (digit_of A) t u)
      ∙ bits_left A.width (lawful fold k).some_bits (digits_of A t) (digits_of A u) (f * 8 + i) (omega (arith, ap (λ (m : ℕ). m * A.width) (length-map t (digit_of A))))))
      ∙ sym (part (t ++ u) f c (omega (arith, length_both fold k t u)))

  -- ---- `update`

  module _ (text piece memory : List ℕ) (cs : List Call) where
    abbrev c : ℕ
    c = completes A text piece

    abbrev f : ℕ
    f = bytes_filled A (length text)

    -- what a turn of `update` and the rest of its list come to
    abbrev AfterUpdate : Turn → Type 0
    AfterUpdate turn =
        finished cs (tally A turn.text cs) ≡ true →
        Reaches A text (cond (is_accepted turn.reply) piece [] ++ accepted_text cs (tally A turn.text cs))
        (take (value_in 0 turn.reply) (front turn.bytes memory) ++ written 0 (tally A turn.text cs))

    abbrev taken : Turn
    taken = record { reply = accepted (c ∷ []); bytes = take c (drop f (text_packed A (text ++ piece))); text = text ++ piece }

    filled : f + c ≡ bytes_filled A (length (text ++ piece))
    unfolding completes
    filled = omega (arith, length_both fold k text piece, add-mul (length text) (length piece) A.width)

    counted : length (take c (drop f (text_packed A (text ++ piece)))) ≡ c
    counted =
        ap (λ (l : List ℕ). length (take c (drop f l))) (same_packing A (text ++ piece))
        ∙ length-take-le c (drop f (packing A (text ++ piece)))
        (omega (arith, length-drop f (packing A (text ++ piece)), length-packing A (text ++ piece), filled))

    joins : (more bytes : List ℕ) → Reaches A (text ++ piece) more bytes → Reaches A text (piece ++ more) (take c (drop f (text_packed A (text ++ piece))) ++ bytes)
    joins more bytes r =
        let whole : List ℕ = packing A (text ++ piece ++ more) in
        record {
          wrote =
              ap₂ (λ (x y : List ℕ). x ++ y)
              (ap (λ (l : List ℕ). take c (drop f l)) (same_packing A (text ++ piece)) ∙ stays (text ++ piece) more f c (omega (arith, filled)))
              (r.wrote ∙ ap (λ (j : ℕ). drop j whole) (sym filled) ∙ sym (drop-drop c f whole))
              ∙ take-append-drop c (drop f whole)
              ∙ ap (λ (l : List ℕ). drop f (packing A l)) (append_assoc text piece more);
          all = rw (append_assoc text piece more) at r.all;
          fits = rw (append_assoc text piece more) at r.fits;
        }

    whole-update :
        ((u : List ℕ) → length u ≤ limit → finished cs (tally A u cs) ≡ true → Reaches A u (accepted_text cs (tally A u cs)) (written 0 (tally A u cs))) →
        length text ≤ limit →
        AfterUpdate (update_turn A text piece (length memory))
    unfolding update_turn
    whole-update ih h = by_cases (in_bounds (length text + length piece)) (leb c (length memory)) refl
      where
        by_cases : (a b : Bool) → in_bounds (length text + length piece) ≡ a → AfterUpdate (ask a else stay text (refused 2 []) then ask b else stay text (refused 4 []) then taken)
        by_cases true true e g =
            rw (take-front (take c (drop f (text_packed A (text ++ piece)))) memory c counted)
            (joins (accepted_text cs (tally A (text ++ piece) cs)) (written 0 (tally A (text ++ piece) cs))
            (ih (text ++ piece) (omega (arith, length-append text piece, leb-true (length text + length piece) limit e)) g))
        by_cases true false e g = ih text h g
        by_cases false b e g = ih text h g

  -- ---- `finalize`

  module _ (text memory : List ℕ) (cs : List Call) where
    abbrev rest : Turn → List Outcome
    rest turn = cond (is_accepted turn.reply) [] (tally A text cs)

    -- what a turn of `finalize` and the rest of its list come to
    abbrev AfterFinalize : Turn → Type 0
    AfterFinalize turn =
        cond (is_accepted turn.reply) true (finished cs (rest turn)) ≡ true →
        Reaches A text (accepted_text cs (rest turn)) (take (value_in 0 turn.reply) (front turn.bytes memory) ++ written 0 (rest turn))

    abbrev last : List ℕ
    last = drop (bytes_filled A (length text)) (text_packed A text)

    ends : (bytes : List ℕ) → length text ≤ limit → members_ahead_of A text ≡ length text → bytes ≡ last → Reaches A text (accepted_text cs []) (bytes ++ written 0 [])
    unfolding written
    ends bytes h n q =
        rw (accepted_nil cs, append-nil)
        (record {
          wrote = rw append-nil (q ∙ ap (drop (bytes_filled A (length text))) (same_packing A text));
          all = rw append-nil n;
          fits = rw append-nil h;
        })

    length_last : length last ≡ bytes_for (length text * A.width) - bytes_filled A (length text)
    length_last =
        length-drop (bytes_filled A (length text)) (text_packed A text)
        ∙ ap (λ (n : ℕ). n - bytes_filled A (length text)) (ap length (same_packing A text) ∙ length-packing A text)

    whole-finalize :
        (finished cs (tally A text cs) ≡ true → Reaches A text (accepted_text cs (tally A text cs)) (written 0 (tally A text cs))) →
        length text ≤ limit →
        AfterFinalize (finalize_turn A text (length memory))
    unfolding finalize_turn
    whole-finalize ih h = by_cases (eqb a (length text)) (eqb (length text * A.width % 8) 0) (ltb 0 (length memory)) refl refl
      where
        a : ℕ
        a = members_ahead_of A text

        by_cases :
            (b p m : Bool) →
            eqb a (length text) ≡ b →
            eqb (length text * A.width % 8) 0 ≡ p →
            AfterFinalize
            (ask b else stay text (refused 5 (a ∷ at text a ∷ bad_in A text ∷ [])) then
            cond p (stay text (accepted (0 ∷ [])))
            (ask m else stay text (refused 4 []) then record { reply = accepted (1 ∷ []); bytes = last; text = text }))
        by_cases false p m e q g = ih g
        by_cases true true m e q g =
            let z : length text * A.width % 8 ≡ 0 = eqb-true (length text * A.width % 8) 0 q in
            ends [] h (eqb-true a (length text) e)
            (sym (drop_of_length-le (text_packed A text) {i = bytes_filled A (length text)} (omega (arith, ap length (same_packing A text) ∙ length-packing A text))))
        by_cases true false false e q g = ih g
        by_cases true false true e q g =
            let z : length text * A.width % 8 ≡ 0 → ⊥ = eqb-false (length text * A.width % 8) 0 q in
            ends (take 1 (front last memory)) h (eqb-true a (length text) e) (take-front last memory 1 (length_last ∙ omega arith))

  -- ---- lists

  whole :
      (text : List ℕ) (cs : List Call) →
      length text ≤ limit →
      finished cs (tally A text cs) ≡ true →
      Reaches A text (accepted_text cs (tally A text cs)) (written 0 (tally A text cs))
  unfolding tally finished accepted_text written
  whole text [] h e = absurd (true≢false (sym e))
  whole text (update piece memory ∷ cs) h e = whole-update text piece memory cs (λ u. whole u cs) h e
  whole text (finalize memory ∷ cs) h e = whole-finalize text memory cs (whole text cs h) h e

-- after an accepted `finalize`
pub fresh-packs :
    (alphabet : ℕ) (fold : Bool) →
    known alphabet ≡ true →
    (cs : List Call) →
    finished cs (run (fresh_encoder fold (kind_of alphabet)) cs) ≡ true →
    Packed alphabet fold (accepted_text cs (run (fresh_encoder fold (kind_of alphabet)) cs)) (written 0 (run (fresh_encoder fold (kind_of alphabet)) cs))
fresh-packs alphabet fold o cs e = rw told (packed (tally (numbered_by fold alphabet) [] cs) (whole fold (kind_of alphabet) [] cs (omega arith) (rw told at e)))
  where
    told : run (fresh_encoder fold (kind_of alphabet)) cs ≡ tally (numbered_by fold alphabet) [] cs
    told = fresh-tally fold (kind_of alphabet) cs

    packed : (os : List Outcome) → Reaches (numbered_by fold alphabet) [] (accepted_text cs os) (written 0 os) → Packed alphabet fold (accepted_text cs os) (written 0 os)
    packed os r =
        let bytes : written 0 os ≡ packing (numbered_by fold alphabet) (accepted_text cs os) =
        r.wrote ∙ ap (λ (j : ℕ). drop (j / 8) (packing (numbered_by fold alphabet) (accepted_text cs os))) (zero-mul (numbered_by fold alphabet).width) in
        record {
          has_alphabet = o;
          members = all_members (numbered_by fold alphabet) (accepted_text cs os) r.all;
          bounded = r.fits;
          counted = ap length bytes ∙ length-packing (numbered_by fold alphabet) (accepted_text cs os);
          packs = bytes;
        }
