-- The claim leaves no text out: every text of members by either choice to fold, at most 2^60 of them, has a finished list with that choice, and whatever text,
-- choice and memory are named, `encode_sequence` has a call with them.
use mathlib.Core.Path.{◌≡◌, refl, ap, ◌∙◌}
use mathlib.Core.Bool.{Bool, true, false, cond}
use mathlib.Core.List.{List, [], ◌∷◌, ◌++◌, append-nil}
use Prim.Native.Nat.{ℕ, suc, ◌+◌, ◌*◌, ◌%◌, ◌≤◌}
use native.Mathlib.Nat.{zero-add}
use native.Mathlib.Omega.{arith}
use borrow.Author.Tests.{le-leb, eq-eqb}
use lib.Dec.{leb, eqb}
use lib.ListN.{length, drop, replicate, length-replicate}
use Rattle.bits.specs.Packing.{bytes_for}
use Rattle.alphabet.specs.Questions.{limit, in_bounds, accepted}
use Rattle.alphabet.specs.declared.kind.AlphabetType.{AlphabetType}
use Rattle.alphabet.specs.Symbols.{Coding, coding_by}
use Rattle.alphabet.specs.Names.{known, kind_of, numbered_by}
use Rattle.members.specs.Members.{members_ahead_of}
use Rattle.packing.specs.Encode.{fresh_encoder, encode_at, encode_memory}
use Rattle.record.specs.Calls.{Call, update, finalize, is_accepted, accepted_text, finished}
use Rattle.record.specs.Texts.{Members}
use Rattle.record.specs.Runs.{run}
use Rattle.record.specs.Tally.{Turn, stay, bytes_filled, text_packed, completes, update_turn, finalize_turn, tally}
use Rattle.record.specs.Made.{EncodeCall}
use Rattle.record.specs.EncoderLists.{EncoderList, alphabet_in, fold_in, Finished, text_in, bytes_in}
use Rattle.record.specs.Record.{alphabet_for, fold_for, text_for, before, AtOnce}
use Rattle.record.proofs.Tallies.{fresh-tally}
use Rattle.record.proofs.Every.{at_some, at_some_mut, every-finished}

-- ---- `encode_sequence`

abbrev made_encode : ℕ → Bool → List ℕ → List ℕ → EncodeCall
made_encode alphabet fold text memory =
    record {
      κs = ([], ([], tt));
      args = (alphabet, (fold, (at_some text, (at_some_mut memory, tt))));
      result = encode_at alphabet fold text (length memory);
      exit = (alphabet, (fold, (at_some text, (at_some_mut (encode_memory alphabet fold text memory), tt))));
      met = (refl, refl);
    }

pub every-encode :
    (alphabet : ℕ) (fold : Bool) (text memory : List ℕ) →
    (e : EncodeCall) × ((alphabet_for e ≡ alphabet) × ((fold_for e ≡ fold) × ((text_for e ≡ text) × (before e ≡ memory))))
every-encode alphabet fold text memory = (made_encode alphabet fold text memory, (refl, (refl, (refl, refl))))

-- with the pieces of a list, joined
pub every_at_once : (l : EncoderList) (memory : List ℕ) → length (bytes_in l) ≤ length memory → (e : EncodeCall) × (AtOnce l e × (before e ≡ memory))
every_at_once l memory room = (
  made_encode (alphabet_in l) (fold_in l) (text_in l) memory,
  (record { by_alphabet = refl; by_choice = refl; text = refl; room = room }, refl),
)

-- ---- a text of members: one `update` with all of it, then `finalize`

ahead_all : (A : Coding) (text : List ℕ) → Members A text → members_ahead_of A text ≡ length text
unfolding members_ahead_of
ahead_all A [] m = refl
ahead_all A (x ∷ text) m = rw (m 0 (omega arith)) (ap suc (ahead_all A text (λ i h. m (suc i) (omega arith))))

module _ (fold : Bool) (k : AlphabetType) (text : List ℕ) (all : Members (coding_by fold k) text) (bounded : length text ≤ limit) where
  abbrev A : Coding
  A = coding_by fold k

  abbrev memory : List ℕ
  memory = replicate (bytes_for (length text * A.width)) 0

  abbrev plan : List Call
  plan = update text memory ∷ finalize (0 ∷ []) ∷ []

  abbrev joins : Turn
  joins = update_turn A [] text (length memory)

  near : in_bounds (0 + length text) ≡ true
  near = le-leb (0 + length text) limit (omega arith)

  room : leb (completes A [] text) (length memory) ≡ true
  unfolding completes
  room = le-leb (completes A [] text) (length memory) (omega (arith, length-replicate {A = ℕ} (bytes_for (length text * A.width)) 0, zero-add (length text)))

  joined : joins.text ≡ text
  unfolding update_turn
  joined = rw (near, room)

  taken : is_accepted joins.reply ≡ true
  unfolding update_turn
  taken = rw (near, room)

  closes : is_accepted (finalize_turn A text 1).reply ≡ true
  unfolding finalize_turn
  closes = rw (eq-eqb (members_ahead_of A text) (length text) (ahead_all A text all)) (go (eqb (length text * A.width % 8) 0))
    where
      last : Turn
      last = record { reply = accepted (1 ∷ []); bytes = drop (bytes_filled A (length text)) (text_packed A text); text = text }

      go : (b : Bool) → is_accepted (cond b (stay text (accepted (0 ∷ []))) last).reply ≡ true
      go true = refl
      go false = refl

  closed : is_accepted (finalize_turn A joins.text 1).reply ≡ true
  closed = ap (λ (t : List ℕ). is_accepted (finalize_turn A t 1).reply) joined ∙ closes

  tally-ends : finished plan (tally A [] plan) ≡ true
  unfolding tally finished
  tally-ends = ap (λ (b : Bool). cond b true (finished [] (cond b [] []))) closed

  tally_text : accepted_text plan (tally A [] plan) ≡ text
  unfolding tally accepted_text
  tally_text = ap (λ (b : Bool). cond b text [] ++ []) taken ∙ append-nil text

  plan-ends : finished plan (run (fresh_encoder fold k) plan) ≡ true
  plan-ends = ap (finished plan) (fresh-tally fold k plan) ∙ tally-ends

  plan_text : accepted_text plan (run (fresh_encoder fold k) plan) ≡ text
  plan_text = ap (accepted_text plan) (fresh-tally fold k plan) ∙ tally_text

pub every-text :
    (alphabet : ℕ) (fold : Bool) (text : List ℕ) →
    known alphabet ≡ true →
    Members (numbered_by fold alphabet) text →
    length text ≤ limit →
    (l : EncoderList) × (Finished l × ((alphabet_in l ≡ alphabet) × ((fold_in l ≡ fold) × (text_in l ≡ text))))
every-text alphabet fold text named all bounded =
    let k : AlphabetType = kind_of alphabet in
    let l = every-finished alphabet fold named (plan fold k text all bounded) (plan-ends fold k text all bounded) in
    (l.0, (l.1.0, (l.1.1.0, (l.1.1.1.0, l.1.1.1.1 ∙ plan_text fold k text all bounded))))
