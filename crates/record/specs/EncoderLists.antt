-- An encoder's lists as the code makes them. States document 01, "The record": the first call gets a fresh state, each later one the state last returned, and
-- an accepted `finalize` ends the list.
use Rattle.std.specs.Prelude.{ℕ, ◌≡◌, Bool, true, List, [], ◌∷◌, Ok}
use Rattle.alphabet.specs.Symbols.{Coding}
use Rattle.alphabet.specs.Names.{numbered_by}
use Rattle.packing.specs.declared.encoder.SequenceEncoder.{SequenceEncoder}
use Rattle.packing.specs.Answers.{updated_reply, finalized_reply}
use Rattle.record.specs.Calls.{Call, update, finalize, Outcome, written, accepted_text, finished}
use Rattle.record.specs.Runs.{next_encoder, unless_final}
use Rattle.record.specs.Made.{NewCall, UpdateCall, FinalizeCall}

-- a call of an encoder's list
pub data CodeCall : Type 0 where
  updates : UpdateCall → CodeCall
  finalizes : FinalizeCall → CodeCall

-- no call is made
abbrev pub Ends : List CodeCall → Type 0
Ends [] = Unit {0}
Ends (c ∷ cs) = ⊥

-- the first call is handed the state s, each later one the state last returned, and an accepted `finalize` ends the list
abbrev pub Follows : SequenceEncoder → List CodeCall → Type 0
Follows s [] = Unit {0}
Follows s (updates c ∷ cs) = let (self, _) = c.args in (self ≡ s) × Follows (next_encoder c.result) cs
Follows s (finalizes c ∷ cs) = let (self, _) = c.args in (self ≡ s) × unless_final c.result (Ends cs) (λ next. Follows next cs)

-- what the calls are handed besides: pieces, and what memory holds before
abbrev pub calls_of : List CodeCall → List Call
calls_of [] = []
calls_of (updates c ∷ cs) = let (self, (piece, (out, _))) = c.args in update piece.now out.now ∷ calls_of cs
calls_of (finalizes c ∷ cs) = let (self, (out, _)) = c.args in finalize out.now ∷ calls_of cs

-- what comes of them: what each tells, and what its memory holds afterwards
abbrev pub outcomes_of : List CodeCall → List Outcome
outcomes_of [] = []
outcomes_of (updates c ∷ cs) =
    let (self, (piece, (out, _))) = c.exit in record { reply = updated_reply c.result; memory = out.now } ∷ outcomes_of cs
outcomes_of (finalizes c ∷ cs) =
    let (self, (out, _)) = c.exit in record { reply = finalized_reply c.result; memory = out.now } ∷ outcomes_of cs

-- a fresh encoder, which an accepted `new` returned, and a list of calls from it
pub record EncoderList : Type 0 where
  pub new : NewCall
  pub fresh : SequenceEncoder
  pub started : new.result ≡ Ok fresh
  pub calls : List CodeCall
  pub follows : Follows fresh calls

-- the alphabet number and the choice to fold that `new` was handed
abbrev pub alphabet_in : EncoderList → ℕ
alphabet_in l = let (alphabet, (fold, _)) = l.new.args in alphabet

abbrev pub fold_in : EncoderList → Bool
fold_in l = let (alphabet, (fold, _)) = l.new.args in fold

-- the coding that its texts are packed by
abbrev pub coding_in : EncoderList → Coding
coding_in l = numbered_by (fold_in l) (alphabet_in l)

-- a finished list
pub record Finished (l : EncoderList) : Type 0 where
  -- a `finalize` of it was accepted
  pub ended : finished (calls_of l.calls) (outcomes_of l.calls) ≡ true

-- the accepted pieces, joined, and the bytes written, joined
abbrev pub text_in : EncoderList → List ℕ
text_in l = accepted_text (calls_of l.calls) (outcomes_of l.calls)

abbrev pub bytes_in : EncoderList → List ℕ
bytes_in l = written 0 (outcomes_of l.calls)
