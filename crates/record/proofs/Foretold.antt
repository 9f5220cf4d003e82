-- Request A10, of calls: `ask` answers what `update` does, and the count that it tells is what memory is measured by. No state, piece or length is left out.
use Rattle.std.proofs.Common.{Result, Ok, Err}
use mathlib.Core.Path.{◌≡◌, refl, sym, ap, ap₂, ◌∙◌}
use mathlib.Core.List.{List, []}
use Prim.Native.Nat.{ℕ, ◌≤◌}
use lib.Dec.{leb}
use lib.ListN.{length, drop}
use Rattle.alphabet.specs.Questions.{ask◌else◌then◌, by, limit, number_in}
use Rattle.packing.specs.Answers.{updated_reply}
use Rattle.packing.specs.Encode.{update_at}
use Rattle.packing.specs.declared.encoder.SequenceEncoder.{SequenceEncoder}
use Rattle.packing.specs.declared.encoder.Updated.{Updated}
use Rattle.packing.proofs.Rooms.{accepted_at, never_short, kept_behind}
use Rattle.record.specs.Made.{AskCall, UpdateCall}
use Rattle.record.specs.Foretold.{state_asked, piece_asked, room_asked, state_given, piece_given, memory_given, memory_left, AsAsked, AskedAgain, Foretold}
use Rattle.record.proofs.Every.{at_some, made_update}
use Rattle.alphabet.specs.declared.refusal.Refused.{Refused}
use Rattle.alphabet.specs.Refusing.{◌keeping◌}

-- ---- the calls, by their contracts

ask_is : (a : AskCall) → a.result ≡ update_at (state_asked a) (piece_asked a) (room_asked a)
ask_is a = a.met

update_is : (u : UpdateCall) → u.result ≡ update_at (state_given u) (piece_given u) (length (memory_given u))
update_is u = u.met.0

-- the real call is answered by the same term
same_term : (a : AskCall) (u : UpdateCall) → AsAsked a u → a.result ≡ update_at (state_given u) (piece_given u) (length (memory_given u))
same_term a u h = ask_is a ∙ ap₂ (λ (s : SequenceEncoder) (p : List ℕ). update_at s p (room_asked a)) (sym h.state) (sym h.piece) ∙ ap (update_at _ _) (sym h.room)

-- ---- the claim

pub foretold : Foretold
foretold = record { answered = answered; used = used; enough = enough; always = always }
  where
    answered : (a : AskCall) (u : UpdateCall) → AsAsked a u → a.result ≡ u.result
    answered a u h = same_term a u h ∙ sym (update_is u)

    used : (a : AskCall) (u : UpdateCall) → AsAsked a u → (count : ℕ) (next : SequenceEncoder) → a.result ≡ Ok (record { count = count; next = next })
        → drop count (memory_left u) ≡ drop count (memory_given u)
    used a u h count next e =
        ap (drop count) u.met.1 ∙ kept_behind (state_given u) (piece_given u) (memory_given u) count next (sym (same_term a u h) ∙ e)

    enough : (a b : AskCall) → AskedAgain a b → (count : ℕ) (next : SequenceEncoder) → a.result ≡ Ok (record { count = count; next = next })
        → b.result ≡ (ask leb count (room_asked b) else Err (by 4 [] keeping state_asked b) then Ok (record { count = count; next = next }))
    enough a b h count next e =
        let first : update_at (state_asked b) (piece_asked b) (room_asked a) ≡ Ok (record { count = count; next = next }) =
        ap₂ (λ (s : SequenceEncoder) (p : List ℕ). update_at s p (room_asked a)) h.state h.piece ∙ sym (ask_is a) ∙ e in
        ask_is b ∙ accepted_at (state_asked b) (piece_asked b) (room_asked a) count next first (room_asked b)

    always : (a : AskCall) → limit ≤ room_asked a → number_in (updated_reply a.result) ≡ 4 → ⊥
    always a l n =
        never_short (state_asked a) (piece_asked a) (room_asked a) l (ap (λ (r : Result Updated (Refused SequenceEncoder)). number_in (updated_reply r)) (sym (ask_is a)) ∙ n)

-- ---- and it leaves none out: whatever state, piece and memory are named, there is a call that asks and one that packs as it was asked about

abbrev made_ask : SequenceEncoder → List ℕ → ℕ → AskCall
made_ask s piece room =
    record { κs = ([], tt); args = (s, (at_some piece, (room, tt))); result = update_at s piece room; exit = (s, (at_some piece, (room, tt))); met = refl }

pub every_asked : (s : SequenceEncoder) (piece memory : List ℕ)
    → (a : AskCall) × ((u : UpdateCall) × (AsAsked a u × ((state_given u ≡ s) × ((piece_given u ≡ piece) × (memory_given u ≡ memory)))))
every_asked s piece memory = (
  made_ask s piece (length memory),
  (made_update s piece memory, (record { state = refl; piece = refl; room = refl }, (refl, (refl, refl)))),
)

-- and two that ask about any two lengths
pub every_length : (s : SequenceEncoder) (piece : List ℕ) (room other : ℕ)
    → (a : AskCall) × ((b : AskCall) × (AskedAgain a b × ((state_asked a ≡ s) × ((piece_asked a ≡ piece) × ((room_asked a ≡ room) × (room_asked b ≡ other))))))
every_length s piece room other =
    (made_ask s piece room, (made_ask s piece other, (record { state = refl; piece = refl }, (refl, (refl, (refl, refl))))))
