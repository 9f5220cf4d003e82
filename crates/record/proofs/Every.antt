-- The claim leaves no list out: whatever pieces and memory a list of calls names, for each known alphabet number and either choice to fold there is a list
-- that the contracts allow and in which these calls are made, those behind an accepted `finalize` excepted; and it is a finished one wherever the definitions
-- accept a `finalize`. That the code meets its contracts is proved with the functions, not here.
use Rattle.std.proofs.Common.{Result, Ok, Err}
use mathlib.Core.Path.{◌≡◌, refl, sym, ap, ap₂, ◌∙◌}
use mathlib.Core.Bool.{Bool, true, cond}
use mathlib.Core.List.{List, [], ◌∷◌, ◌++◌}
use Prim.Native.Nat.{ℕ}
use denote.Ref.{Bor, MutBor}
use lib.ListN.{length, take}
use Rattle.alphabet.specs.Names.{known, kind_of}
use Rattle.packing.specs.Answers.{updated_reply, finalized_reply}
use Rattle.packing.specs.Encode.{fresh_encoder, start_encoder_at, update_at, update_memory, finalize_at, finalize_memory}
use Rattle.packing.specs.declared.encoder.SequenceEncoder.{SequenceEncoder}
use Rattle.record.specs.Calls.{Call, update, finalize, Outcome, is_accepted, accepted_text, finished}
use Rattle.record.specs.Runs.{next_encoder, unless_final, run}
use Rattle.record.specs.Made.{NewCall, UpdateCall, FinalizeCall}
use Rattle.record.specs.EncoderLists.{CodeCall, updates, finalizes, Ends, Follows, calls_of, outcomes_of, EncoderList, alphabet_in, fold_in, Finished, text_in}
use Rattle.record.proofs.Whole.{accepted_nil}
use Rattle.alphabet.specs.declared.refusal.Refused.{Refused}
use Rattle.alphabet.specs.Refusing.{◌keeping◌}

-- ---- a call for any state, piece and memory; of lifetimes and places in memory the contracts say nothing

abbrev pub at_some : List ℕ → Bor (List ℕ)
at_some l = record { ref_ptr = (0, 0); now = l }

-- and memory that is lent to be written
abbrev pub at_some_mut : List ℕ → MutBor (List ℕ)
at_some_mut l = record { ref_ptr = (0, 0); ghost_name = 0; now = l }

abbrev pub made_update : SequenceEncoder → List ℕ → List ℕ → UpdateCall
made_update s piece memory =
    record {
      κs = ([], ([], tt));
      args = (s, (at_some piece, (at_some_mut memory, tt)));
      result = update_at s piece (length memory);
      exit = (s, (at_some piece, (at_some_mut (update_memory s piece memory), tt)));
      met = (refl, refl);
    }

abbrev made_finalize : SequenceEncoder → List ℕ → FinalizeCall
made_finalize s memory =
    record {
      κs = ([], tt);
      args = (s, (at_some_mut memory, tt));
      result = finalize_at s (length memory);
      exit = (s, (at_some_mut (finalize_memory s memory), tt));
      met = (refl, refl);
    }

-- the calls that a list comes to, up to an accepted `finalize`
made : SequenceEncoder → List Call → List CodeCall
made s [] = []
made s (update piece memory ∷ cs) = updates (made_update s piece memory) ∷ made (next_encoder (update_at s piece (length memory))) cs
made s (finalize memory ∷ cs) = finalizes (made_finalize s memory) ∷ unless_final (finalize_at s (length memory)) [] (λ next. made next cs)

made_follows : (s : SequenceEncoder) (cs : List Call) → Follows s (made s cs)
unfolding made
made_follows s [] = tt
made_follows s (update piece memory ∷ cs) = (refl, made_follows (next_encoder (update_at s piece (length memory))) cs)
made_follows s (finalize memory ∷ cs) = (refl, go (finalize_at s (length memory)) (λ next. made_follows next cs))
  where
    go : (r : Result ℕ (Refused SequenceEncoder)) → ((next : SequenceEncoder) → Follows next (made next cs))
        → unless_final r (Ends (unless_final r [] (λ next. made next cs))) (λ next. Follows next (unless_final r [] (λ next. made next cs)))
    go (Ok count) ih = tt
    go (Err e) ih = ih e.state

made_outcomes : (s : SequenceEncoder) (cs : List Call) → outcomes_of (made s cs) ≡ run s cs
unfolding made run
made_outcomes s [] = refl
made_outcomes s (update piece memory ∷ cs) =
    ap (λ (os : List Outcome). record { reply = updated_reply (update_at s piece (length memory)); memory = update_memory s piece memory } ∷ os)
    (made_outcomes (next_encoder (update_at s piece (length memory))) cs)
made_outcomes s (finalize memory ∷ cs) =
    ap (λ (os : List Outcome). record { reply = finalized_reply (finalize_at s (length memory)); memory = finalize_memory s memory } ∷ os)
    (go (finalize_at s (length memory)) (λ next. made_outcomes next cs))
  where
    go : (r : Result ℕ (Refused SequenceEncoder)) → ((next : SequenceEncoder) → outcomes_of (made next cs) ≡ run next cs)
        → outcomes_of (unless_final r [] (λ next. made next cs)) ≡ unless_final r [] (λ next. run next cs)
    go (Ok count) ih = refl
    go (Err e) ih = ih e.state

-- each call that the definitions answer is made, in the order of the list
made_calls : (s : SequenceEncoder) (cs : List Call) → calls_of (made s cs) ≡ take (length (run s cs)) cs
unfolding made run
made_calls s [] = refl
made_calls s (update piece memory ∷ cs) =
    ap (λ (l : List Call). update piece memory ∷ l) (made_calls (next_encoder (update_at s piece (length memory))) cs)
made_calls s (finalize memory ∷ cs) =
    ap (λ (l : List Call). finalize memory ∷ l) (go (finalize_at s (length memory)) (λ next. made_calls next cs))
  where
    go :
        (r : Result ℕ (Refused SequenceEncoder)) →
        ((next : SequenceEncoder) → calls_of (made next cs) ≡ take (length (run next cs)) cs) →
        calls_of (unless_final r [] (λ next. made next cs)) ≡ take (length (unless_final r [] (λ next. run next cs))) cs
    go (Ok count) ih = refl
    go (Err e) ih = ih e.state

-- ---- the list, from an accepted `new`

abbrev made_new : ℕ → Bool → NewCall
made_new alphabet fold = record { κs = tt; args = (alphabet, (fold, tt)); result = start_encoder_at alphabet fold; exit = (alphabet, (fold, tt)); met = refl }

new-accepted : (alphabet : ℕ) (fold : Bool) → known alphabet ≡ true → start_encoder_at alphabet fold ≡ Ok (fresh_encoder fold (kind_of alphabet))
unfolding start_encoder_at
new-accepted alphabet fold o = rw o

pub every-list :
    (alphabet : ℕ) (fold : Bool) →
    known alphabet ≡ true →
    (cs : List Call) →
    (l : EncoderList)
    × ((alphabet_in l ≡ alphabet)
    × ((fold_in l ≡ fold)
    × ((calls_of l.calls ≡ take (length (run (fresh_encoder fold (kind_of alphabet)) cs)) cs)
    × (outcomes_of l.calls ≡ run (fresh_encoder fold (kind_of alphabet)) cs))))
every-list alphabet fold o cs = (
  record {
    new = made_new alphabet fold;
    fresh = fresh_encoder fold (kind_of alphabet);
    started = new-accepted alphabet fold o;
    calls = made (fresh_encoder fold (kind_of alphabet)) cs;
    follows = made_follows (fresh_encoder fold (kind_of alphabet)) cs;
  },
  (refl, (refl, (made_calls (fresh_encoder fold (kind_of alphabet)) cs, made_outcomes (fresh_encoder fold (kind_of alphabet)) cs))),
)

-- ---- the calls that are not made, behind an accepted `finalize`, count for nothing

made_finished : (s : SequenceEncoder) (cs : List Call) → finished (take (length (run s cs)) cs) (run s cs) ≡ finished cs (run s cs)
unfolding run finished
made_finished s [] = refl
made_finished s (update piece memory ∷ cs) = made_finished (next_encoder (update_at s piece (length memory))) cs
made_finished s (finalize memory ∷ cs) = go (finalize_at s (length memory)) (λ next. made_finished next cs)
  where
    go :
        (r : Result ℕ (Refused SequenceEncoder)) →
        ((next : SequenceEncoder) → finished (take (length (run next cs)) cs) (run next cs) ≡ finished cs (run next cs)) →
        cond (is_accepted (finalized_reply r)) true
        (finished (take (length (unless_final r [] (λ next. run next cs))) cs) (unless_final r [] (λ next. run next cs)))
        ≡ cond (is_accepted (finalized_reply r)) true (finished cs (unless_final r [] (λ next. run next cs)))
    go (Ok count) ih = refl
    go (Err e) ih = ap (cond (is_accepted (finalized_reply (Err (e.refusal keeping e.state)))) true) (ih e.state)

made_text : (s : SequenceEncoder) (cs : List Call) → accepted_text (take (length (run s cs)) cs) (run s cs) ≡ accepted_text cs (run s cs)
unfolding run accepted_text
made_text s [] = refl
made_text s (update piece memory ∷ cs) =
    ap (λ (rest : List ℕ). cond (is_accepted (updated_reply (update_at s piece (length memory)))) piece [] ++ rest)
    (made_text (next_encoder (update_at s piece (length memory))) cs)
made_text s (finalize memory ∷ cs) = go (finalize_at s (length memory)) (λ next. made_text next cs)
  where
    go :
        (r : Result ℕ (Refused SequenceEncoder)) →
        ((next : SequenceEncoder) → accepted_text (take (length (run next cs)) cs) (run next cs) ≡ accepted_text cs (run next cs)) →
        accepted_text (take (length (unless_final r [] (λ next. run next cs))) cs) (unless_final r [] (λ next. run next cs))
        ≡ accepted_text cs (unless_final r [] (λ next. run next cs))
    go (Ok count) ih = accepted_nil (take 0 cs) ∙ sym (accepted_nil cs)
    go (Err e) ih = ih e.state

-- every list of calls of which a `finalize` is accepted is a finished one
pub every-finished :
    (alphabet : ℕ) (fold : Bool) →
    known alphabet ≡ true →
    (cs : List Call) →
    finished cs (run (fresh_encoder fold (kind_of alphabet)) cs) ≡ true →
    (l : EncoderList)
    × (Finished l × ((alphabet_in l ≡ alphabet) × ((fold_in l ≡ fold) × (text_in l ≡ accepted_text cs (run (fresh_encoder fold (kind_of alphabet)) cs)))))
every-finished alphabet fold o cs h =
    let s : SequenceEncoder = fresh_encoder fold (kind_of alphabet) in
    let l = every-list alphabet fold o cs in
    let calls = l.1.1.1.0 in
    let outcomes = l.1.1.1.1 in (
      l.0,
      (
        record { ended = ap₂ finished calls outcomes ∙ made_finished s cs ∙ h },
        (l.1.0, (l.1.1.0, ap₂ accepted_text calls outcomes ∙ made_text s cs)),
      ),
    )
