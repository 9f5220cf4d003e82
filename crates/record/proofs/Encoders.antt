-- Demand 3, what it says of encoders, is proved: calls that the contracts allow run as the definitions do, and these are told by the tally.
use Rattle.std.proofs.Common.{Result, Ok, Err}
use mathlib.Core.Path.{◌≡◌, refl, sym, ap, ap₂, ◌∙◌, subst}
use mathlib.Core.Bool.{Bool, true, false}
use mathlib.Core.List.{List, [], ◌∷◌}
use Prim.Native.Nat.{ℕ, ◌≤◌}
use native.Mathlib.Omega.{arith}
use lib.ListN.{length, take}
use Rattle.bits.specs.Memory.{front}
use Rattle.alphabet.specs.Questions.{ask◌else◌then◌, by}
use Rattle.alphabet.specs.Names.{known, kind_of}
use Rattle.packing.specs.Answers.{updated_reply, finalized_reply}
use Rattle.packing.specs.Encode.{update_memory, finalize_memory, fresh_encoder, start_encoder_at, encode_at, encode_memory}
use Rattle.packing.specs.declared.encoder.SequenceEncoder.{SequenceEncoder}
use Rattle.packing.specs.declared.encoder.Updated.{Updated}
use Rattle.record.specs.Calls.{Outcome, written, accepted_text, finished}
use Rattle.record.specs.Runs.{next_encoder, unless_final, run}
use Rattle.record.specs.Texts.{Packed}
use Rattle.record.specs.Made.{EncodeCall}
use Rattle.record.specs.EncoderLists.{CodeCall, updates, finalizes, Ends, Follows, calls_of, outcomes_of, EncoderList, alphabet_in, fold_in, Finished, text_in, bytes_in}
use Rattle.record.specs.Record.{alphabet_for, fold_for, text_for, before, afterwards}
use Rattle.record.proofs.Whole.{fresh-packs}
use Rattle.record.proofs.AtOnce.{encode-packed, encode-accepted}
use Rattle.alphabet.specs.declared.refusal.Refused.{Refused}

-- ---- calls that follow each other run as the definitions do

ends_none : (cs : List CodeCall) → Ends cs → outcomes_of cs ≡ []
ends_none [] e = refl
ends_none (c ∷ cs) e = absurd e

pub code-run : (s : SequenceEncoder) (cs : List CodeCall) → Follows s cs → outcomes_of cs ≡ run s (calls_of cs)
unfolding run
code-run s [] f = refl
code-run s (updates c ∷ cs) f = step s f.0 (code-run (next_encoder c.result) cs f.1)
  where
    step : (s : SequenceEncoder) → c.args.0 ≡ s → outcomes_of cs ≡ run (next_encoder c.result) (calls_of cs) → outcomes_of (updates c ∷ cs) ≡ run s (calls_of (updates c ∷ cs))
    step s e ih =
        rw (← e)
        (ap₂ (λ (m : List ℕ) (os : List Outcome). record { reply = updated_reply c.result; memory = m } ∷ os) c.met.1 ih ∙ ap told c.met.0)
      where
        told : Result Updated (Refused SequenceEncoder) → List Outcome
        told r =
            let (self, (piece, (out, _))) = c.args in
            record { reply = updated_reply r; memory = update_memory self piece.now out.now } ∷ run (next_encoder r) (calls_of cs)
code-run s (finalizes c ∷ cs) f = step s f.0 (go c.result (λ next. code-run next cs) f.1)
  where
    go :
        (r : Result ℕ (Refused SequenceEncoder)) →
        ((next : SequenceEncoder) → Follows next cs → outcomes_of cs ≡ run next (calls_of cs)) →
        unless_final r (Ends cs) (λ next. Follows next cs) →
        outcomes_of cs ≡ unless_final r [] (λ next. run next (calls_of cs))
    go (Ok count) ih e = ends_none cs e
    go (Err e) ih f = ih e.state f

    step :
        (s : SequenceEncoder) →
        c.args.0 ≡ s →
        outcomes_of cs ≡ unless_final c.result [] (λ next. run next (calls_of cs)) →
        outcomes_of (finalizes c ∷ cs) ≡ run s (calls_of (finalizes c ∷ cs))
    step s e ih =
        rw (← e)
        (ap₂ (λ (m : List ℕ) (os : List Outcome). record { reply = finalized_reply c.result; memory = m } ∷ os) c.met.1 ih ∙ ap told c.met.0)
      where
        told : Result ℕ (Refused SequenceEncoder) → List Outcome
        told r =
            let (self, (out, _)) = c.args in
            record { reply = finalized_reply r; memory = finalize_memory self out.now } ∷ unless_final r [] (λ next. run next (calls_of cs))

-- an accepted `new` was handed a known number and returned a fresh encoder of its kind, with the choice
started-fresh : (n : ℕ) (fold : Bool) (s : SequenceEncoder) → start_encoder_at n fold ≡ Ok s → (known n ≡ true) × (fresh_encoder fold (kind_of n) ≡ s)
unfolding start_encoder_at
started-fresh n fold s e = go (known n) e
  where
    go :
        (b : Bool) →
        (ask b else Err (by 8 []) then Ok (fresh_encoder fold (kind_of n))) ≡ Ok s →
        (b ≡ true) × (fresh_encoder fold (kind_of n) ≡ s)
    go true q = (refl, cc)
    go false q = let z : ◌≡◌ {A = ℕ} 0 1 = cc in absurd (omega arith)

module _ (l : EncoderList) where
  fresh_known : known (alphabet_in l) ≡ true
  fresh_known = (started-fresh (alphabet_in l) (fold_in l) l.fresh (sym l.new.met ∙ l.started)).0

  pub list_run : outcomes_of l.calls ≡ run (fresh_encoder (fold_in l) (kind_of (alphabet_in l))) (calls_of l.calls)
  list_run =
      code-run l.fresh l.calls l.follows
      ∙ ap (λ (s : SequenceEncoder). run s (calls_of l.calls)) (sym (started-fresh (alphabet_in l) (fold_in l) l.fresh (sym l.new.met ∙ l.started)).1)

  pub list_packs : Finished l → Packed (alphabet_in l) (fold_in l) (text_in l) (bytes_in l)
  list_packs h =
      subst (λ (os : List Outcome). Packed (alphabet_in l) (fold_in l) (accepted_text (calls_of l.calls) os) (written 0 os)) (sym list_run)
      (fresh-packs (alphabet_in l) (fold_in l) fresh_known (calls_of l.calls) (ap (finished (calls_of l.calls)) (sym list_run) ∙ h.ended))

-- ---- `encode_sequence`

pub once-packed :
    (e : EncodeCall) (alphabet : ℕ) (fold : Bool) (text packed : List ℕ) →
    Packed alphabet fold text packed →
    alphabet_for e ≡ alphabet →
    fold_for e ≡ fold →
    text_for e ≡ text →
    length packed ≤ length (before e) →
    (e.result ≡ Ok (length packed)) × (afterwards e ≡ front packed (before e))
once-packed e alphabet fold text packed p a f t room =
    let one = encode-packed alphabet fold text packed (before e) p room in (
      e.met.0 ∙ (λ i. encode_at (a i) (f i) (t i) (length (before e))) ∙ one.0,
      e.met.1 ∙ (λ i. encode_memory (a i) (f i) (t i) (before e)) ∙ one.1,
    )

pub once-accepted : (e : EncodeCall) (count : ℕ) → e.result ≡ Ok count → Packed (alphabet_for e) (fold_for e) (text_for e) (take count (afterwards e))
once-accepted e count r =
    subst (λ (m : List ℕ). Packed (alphabet_for e) (fold_for e) (text_for e) (take count m)) (sym e.met.1)
    (encode-accepted (alphabet_for e) (fold_for e) (text_for e) (before e) count (sym e.met.0 ∙ r))
