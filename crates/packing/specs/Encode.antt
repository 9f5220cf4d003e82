-- Packing texts. States document 01, "Middle: packing", questions 1, 4, 5, 8, 9 and 10 for `encode_sequence`, `new`, `update` and `finalize`, and for them request
-- A1: the choice to fold is in the coding that a text is packed by, so that a text is looked at as it came, and a refusal 5 has the byte received; and request A5:
-- non-members are counted, and a refusal 5 tells how many there are. Request A10 has no definition of its own: `ask` answers what `update` answers, `update_at`.
-- Each call has its answer, from what it is given and the length `room` of its output memory, and the memory afterwards.
use Rattle.std.specs.Prelude.{ℕ, suc, ◌+◌, ◌-◌, ◌*◌, ◌/◌, ◌%◌, ◌^◌, Bool, true, cond, not, ◌&&◌, List, [], ◌∷◌, map, leb, ltb, eqb, length, Option, Some, None, Result, Ok, Err}
use Rattle.bits.specs.Streams.{word, cut}
use Rattle.bits.specs.Packing.{bytes_for, pack, at_hand}
use Rattle.bits.specs.Memory.{front}
use Rattle.alphabet.specs.declared.kind.AlphabetType.{AlphabetType}
use Rattle.alphabet.specs.declared.refusal.Refusal.{Refusal}
use Rattle.alphabet.specs.declared.refusal.Refused.{Refused}
use Rattle.alphabet.specs.Questions.{ask◌else◌then◌, by, in_bounds}
use Rattle.alphabet.specs.Refusing.{◌keeping◌}
use Rattle.alphabet.specs.Symbols.{Coding, coding_by}
use Rattle.alphabet.specs.Names.{known, kind_of, numbered_by}
use Rattle.members.specs.Members.{bad_in}
use Rattle.packing.specs.declared.stranger.Stranger.{Stranger}
use Rattle.packing.specs.declared.bad.Bad.{Bad}
use Rattle.packing.specs.declared.encoder.SequenceEncoder.{SequenceEncoder}
use Rattle.packing.specs.declared.encoder.Updated.{Updated}

-- ---- texts

-- the b bits of a byte: a member's code, and for a non-member b ones
unfoldable pub digit_of : Coding → ℕ → ℕ
digit_of A v = cond (A.member v) (A.code v) (2 ^ A.width - 1)

abbrev pub digits_of : Coding → List ℕ → List ℕ
digits_of A text = map (digit_of A) text

-- a text's packing
unfoldable pub packing : Coding → List ℕ → List ℕ
packing A text = pack A.width (digits_of A text)

-- the first non-member of a text whose first byte has position i
unfoldable pub first_from : Coding → ℕ → List ℕ → Option Stranger
first_from A i [] = None
first_from A i (x ∷ xs) = cond (A.member x) (first_from A (suc i) xs) (Some (record { position = i; byte = x }))

-- with it how many of its bytes are no members
abbrev pub bad_from_of : Coding → ℕ → List ℕ → Bad
bad_from_of A i text = record { first = first_from A i text; count = bad_in A text }

-- a first non-member that is known stays
abbrev pub or_first_of : Option Stranger → Option Stranger → Option Stranger
or_first_of None later = later
or_first_of (Some known) later = Some known

-- the non-members of a text and of one behind it: of the first what is known stays, and the counts add
abbrev pub both_bad_of : Bad → Bad → Bad
both_bad_of before later = record { first = or_first_of before.first later.first; count = before.count + later.count }

-- the question whether every byte was a member: what is answered for the first that was none, and what follows where there is none
abbrev pub unless_bad : {A : Type 0} → Option Stranger → (ℕ → ℕ → A) → A → A
unless_bad None bad rest = rest
unless_bad (Some first) bad rest = bad first.position first.byte

-- ---- `encode_sequence`

-- asked of a text by its coding: length, memory for the packing, every byte a member; where one is none, all that are none are counted
abbrev pub encode_by : Coding → List ℕ → ℕ → Result ℕ Refusal
encode_by A text room =
    ask in_bounds (length text) else Err (by 2 []) then
    ask leb (bytes_for (length text * A.width)) room else Err (by 4 []) then
    unless_bad (first_from A 0 text) (λ position byte. Err (by 5 (position ∷ byte ∷ bad_in A text ∷ [])))
    (Ok (bytes_for (length text * A.width)))

-- and before it: alphabet number
unfoldable pub encode_at : ℕ → Bool → List ℕ → ℕ → Result ℕ Refusal
encode_at alphabet fold text room = ask known alphabet else Err (by 8 []) then encode_by (numbered_by fold alphabet) text room

-- the bytes that an answer writes: the whole packing
unfoldable pub encode_writes : ℕ → Bool → List ℕ → Result ℕ Refusal → List ℕ
encode_writes alphabet fold text (Ok count) = packing (numbered_by fold alphabet) text
encode_writes alphabet fold text (Err q) = []

-- the output memory afterwards
unfoldable pub encode_memory : ℕ → Bool → List ℕ → List ℕ → List ℕ
encode_memory alphabet fold text memory = front (encode_writes alphabet fold text (encode_at alphabet fold text (length memory))) memory

-- ---- the encoder's state

-- the coding that a state packs by: its alphabet's, by its choice
abbrev pub packs_by : SequenceEncoder → Coding
packs_by s = coding_by s.fold s.alphabet

-- an encoder that has seen nothing
unfoldable pub fresh_encoder : Bool → AlphabetType → SequenceEncoder
fresh_encoder fold k = record { alphabet = k; seen = 0; bits = 0; pending = 0; bad = record { first = None; count = 0 }; fold = fold }

-- a first non-member is no member, and was seen
abbrev pub sound_first : Coding → ℕ → Option Stranger → Bool
sound_first A seen None = true
sound_first A seen (Some first) = not (A.member first.byte) && ltb first.position seen

-- the count of non-members is zero exactly when there is no first one, and at most the symbols seen from the first one's position on
abbrev pub sound_count : ℕ → Option Stranger → ℕ → Bool
sound_count seen None count = eqb count 0
sound_count seen (Some first) count = ltb 0 count && leb count (seen - first.position)

abbrev pub sound_bad : Coding → ℕ → Bad → Bool
sound_bad A seen bad = sound_first A seen bad.first && sound_count seen bad.first bad.count

-- question 4: symbols seen, pending bit count, pending value, first non-member and their count. (Either choice is sound.)
unfoldable pub sound_encoder : SequenceEncoder → Bool
sound_encoder s =
    in_bounds s.seen
    && eqb s.bits (s.seen * (packs_by s).width % 8)
    && ltb s.pending (2 ^ s.bits)
    && sound_bad (packs_by s) s.seen s.bad

-- ---- `new`

-- asked: alphabet number
unfoldable pub start_encoder_at : ℕ → Bool → Result SequenceEncoder Refusal
start_encoder_at alphabet fold =
    ask known alphabet else Err (by 8 []) then
    Ok (fresh_encoder fold (kind_of alphabet))

-- ---- `update`

-- the bits at hand: those that pend, then the piece's
unfoldable pub piece_bits : SequenceEncoder → List ℕ → ℕ → ℕ
piece_bits s piece = at_hand s.bits s.pending (packs_by s).width (digits_of (packs_by s) piece)

-- how many they are
unfoldable pub piece_bit_count : SequenceEncoder → ℕ → ℕ
piece_bit_count s len = s.bits + len * (packs_by s).width

-- the state after an accepted piece: the bits past the last whole byte pend, its non-members join those before, and the choice stays
unfoldable pub updated : SequenceEncoder → List ℕ → SequenceEncoder
updated s piece =
    record {
      alphabet = s.alphabet;
      seen = s.seen + length piece;
      bits = piece_bit_count s (length piece) % 8;
      pending = word (piece_bits s piece) (piece_bit_count s (length piece) / 8 * 8) (piece_bit_count s (length piece) % 8);
      bad = both_bad_of s.bad (bad_from_of (packs_by s) s.seen piece);
      fold = s.fold;
    }

-- asked: state, symbols seen, memory for the bytes that the piece completes
unfoldable pub update_at : SequenceEncoder → List ℕ → ℕ → Result Updated (Refused SequenceEncoder)
update_at s piece room =
    ask sound_encoder s else Err (by 1 [] keeping s) then
    ask in_bounds (s.seen + length piece) else Err (by 2 [] keeping s) then
    ask leb (piece_bit_count s (length piece) / 8) room else Err (by 4 [] keeping s) then
    Ok (record { count = piece_bit_count s (length piece) / 8; next = updated s piece })

-- the bytes that an answer writes: the first whole bytes at hand
unfoldable pub update_writes : SequenceEncoder → List ℕ → Result Updated (Refused SequenceEncoder) → List ℕ
update_writes s piece (Ok u) = cut 8 (piece_bits s piece) 0 u.count
update_writes s piece (Err e) = []

-- the output memory afterwards
unfoldable pub update_memory : SequenceEncoder → List ℕ → List ℕ → List ℕ
update_memory s piece memory = front (update_writes s piece (update_at s piece (length memory))) memory

-- ---- `finalize`

-- asked last: memory for a byte where bits pend
abbrev pub finalize_rest : SequenceEncoder → ℕ → Result ℕ (Refused SequenceEncoder)
finalize_rest s room = ask leb (bytes_for s.bits) room else Err (by 4 [] keeping s) then Ok (bytes_for s.bits)

-- and before it: state, every byte a member
unfoldable pub finalize_at : SequenceEncoder → ℕ → Result ℕ (Refused SequenceEncoder)
finalize_at s room =
    ask sound_encoder s else Err (by 1 [] keeping s) then
    unless_bad s.bad.first (λ position byte. Err (by 5 (position ∷ byte ∷ s.bad.count ∷ []) keeping s)) (finalize_rest s room)

-- the byte that an answer writes: the bits that pend, then zeros
unfoldable pub finalize_writes : SequenceEncoder → Result ℕ (Refused SequenceEncoder) → List ℕ
finalize_writes s (Ok count) = cut 8 (piece_bits s []) 0 count
finalize_writes s (Err e) = []

-- the output memory afterwards
unfoldable pub finalize_memory : SequenceEncoder → List ℕ → List ℕ
finalize_memory s memory = front (finalize_writes s (finalize_at s (length memory))) memory
