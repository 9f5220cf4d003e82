-- The count over a list of calls. States document 01, "Top: the stream", its rule on k, and "The record", where a stream's sources begin.
-- It knows coding, skip, budget and lent bytes, and holds whether the skip is due and k, the bases written in all; nothing of a stream's state.
use Rattle.std.specs.Prelude.{ℕ, ◌+◌, ◌-◌, ◌*◌, min, Bool, false, cond, not, ◌&&◌, ◌||◌, List, [], ◌∷◌, ◌++◌, map, leb, ltb, eqb, length, take, drop, Result, Ok, Err}
use Rattle.alphabet.specs.declared.kind.AlphabetType.{AlphabetType}
use Rattle.alphabet.specs.declared.refusal.Refused.{Refused}
use Rattle.alphabet.specs.Questions.{ask◌else◌then◌}
use Rattle.alphabet.specs.Symbols.{Coding, coding}
use Rattle.bits.specs.Tables.{at}
use Rattle.bits.specs.Streams.{bit_at, word, cut}
use Rattle.bits.specs.Packing.{bytes_for}
use Rattle.streaming.specs.declared.decoder.StreamingDecoder.{StreamingDecoder}
use Rattle.streaming.specs.declared.decoder.Streamed.{Streamed}
use Rattle.streaming.specs.Stream.{fresh_stream, greatest, stream_at, stream_writes}

-- where a list of calls stands
pub record Place : Type 0 where
  pub due : Bool
  pub k : ℕ

-- before the first call, with skip q
abbrev pub begin : ℕ → Place
begin q = record { due = ltb 0 q; k = 0 }

-- the bytes taken in all: none while the skip is due
unfoldable pub taken_by : Coding → ℕ → Place → ℕ
taken_by A q p = cond p.due 0 (bytes_for (q + p.k * A.width))

-- what the end call asks of a place: the skip done, and every base written
abbrev pub complete : ℕ → Place → Bool
complete budget p = not p.due && eqb p.k budget

-- a call: how many of the lent bytes not yet taken it is given, at most, and its output space
pub record Feed : Type 0 where
  pub given : ℕ
  pub room : ℕ

-- the run of at most m lent bytes from the first not yet taken
abbrev pub source_of : List ℕ → ℕ → ℕ → List ℕ
source_of lent taken m = take m (drop taken lent)

module _ (A : Coding) (q budget : ℕ) (lent : List ℕ) where
  -- the bytes taken before a call, and those that it is given
  unfoldable pub offered : Place → ℕ → ℕ
  offered p m = taken_by A q p + length (source_of lent (taken_by A q p) m)

  -- k after a call that gets past the skip: the largest within budget and space whose bytes have been offered
  unfoldable pub reached : Place → ℕ → ℕ → ℕ
  reached p m room = greatest (λ k. leb (bytes_for (q + k * A.width)) (offered p m)) (min budget (p.k + room))

  -- where a call leaves the list: as it was, while the skip is due and nothing is offered
  unfoldable pub place_after : Place → ℕ → ℕ → Place
  place_after p m room = ask not p.due || ltb 0 (offered p m) else p then record { due = false; k = reached p m room }

  -- where a list of calls leads
  unfoldable pub place_after_all : Place → List Feed → Place
  place_after_all p [] = p
  place_after_all p (c ∷ cs) = place_after_all (place_after p c.given c.room) cs

  -- the bases written between two places
  unfoldable pub bases_between : ℕ → ℕ → List ℕ
  bases_between k n = map A.symbol (cut A.width (bit_at 8 (at lent)) (q + k * A.width) n)

-- ---- the calls as they are made

-- what has come of a list of calls: the state, the bytes taken and the bases written, joined
pub record Fed : Type 0 where
  pub state : StreamingDecoder
  pub taken : ℕ
  pub bases : List ℕ

-- what an answer took, and the state that it left
abbrev pub took_by : Result Streamed (Refused StreamingDecoder) → ℕ
took_by (Ok m) = m.taken
took_by (Err e) = 0

abbrev pub next_by : Result Streamed (Refused StreamingDecoder) → StreamingDecoder
next_by (Ok m) = m.next
next_by (Err e) = e.state

module _ (lent : List ℕ) where
  -- one call more, its source the lent bytes from the first not yet taken
  unfoldable pub fed_by : Fed → Feed → Fed
  fed_by f c =
      record {
        state = next_by (stream_at f.state (source_of lent f.taken c.given) c.room);
        taken = f.taken + took_by (stream_at f.state (source_of lent f.taken c.given) c.room);
        bases =
            f.bases
            ++ stream_writes f.state (source_of lent f.taken c.given)
            (stream_at f.state (source_of lent f.taken c.given) c.room);
      }

  unfoldable pub fed_all : Fed → List Feed → Fed
  fed_all f [] = f
  fed_all f (c ∷ cs) = fed_all (fed_by f c) cs

-- ---- the state that a place stands for

module _ (kind : AlphabetType) (q budget : ℕ) (lent : List ℕ) where
  -- once the skip is done: the bits of the bytes taken that the k bases have not used
  unfoldable pub flowing : ℕ → StreamingDecoder
  flowing k =
      record {
        alphabet = kind;
        skip = 0;
        budget = budget - k;
        bits = bytes_for (q + k * (coding kind).width) * 8 - (q + k * (coding kind).width);
        pending =
            word (bit_at 8 (at lent)) (q + k * (coding kind).width)
            (bytes_for (q + k * (coding kind).width) * 8 - (q + k * (coding kind).width));
      }

  unfoldable pub stands_for : Place → StreamingDecoder
  stands_for p = cond p.due (fresh_stream kind q budget) (flowing p.k)

  -- what has come of the calls that lead to a place
  unfoldable pub fed_at : Place → Fed
  fed_at p = record { state = stands_for p; taken = taken_by (coding kind) q p; bases = bases_between (coding kind) q budget lent 0 p.k }
