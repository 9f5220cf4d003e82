-- What the functions within the crate are handed, and what comes of them: of a run over a text, digits of b bits behind bits that pend. The public calls' definitions are
-- in Encode.antt; this is the contract between them and the loops, which know digits and mostly no alphabet.
use Rattle.std.specs.Prelude.{ℕ, ◌+◌, ◌*◌, ◌/◌, ◌%◌, ◌^◌, ◌≤◌, ◌<◌, ◌≡◌, Bool, true, List, [], map, leb, length, Result, Ok, Err}
use Rattle.bits.specs.Tables.{at, tabulate}
use Rattle.bits.specs.Streams.{word, cut}
use Rattle.bits.specs.Packing.{at_hand}
use Rattle.bits.specs.Memory.{front}
use Rattle.alphabet.specs.declared.refusal.Refusal.{Refusal}
use Rattle.alphabet.specs.Questions.{ask◌else◌then◌, by, limit, in_bounds}
use Rattle.alphabet.specs.Symbols.{Coding}
use Rattle.packing.specs.declared.encoder.SequenceEncoder.{SequenceEncoder}
use Rattle.packing.specs.Encode.{digit_of, piece_bit_count}

-- what is asked of a piece of `len` symbols once the state is known to be sound, for `ask` and `update`: the bytes that it completes, or the refusal
unfoldable pub due_at : SequenceEncoder → ℕ → ℕ → Result ℕ Refusal
due_at s len room =
    ask in_bounds (s.seen + len) else Err (by 2 []) then
    ask leb (piece_bit_count s len / 8) room else Err (by 4 []) then
    Ok (piece_bit_count s len / 8)

-- p bits of value a pend, and n digits of b bits come behind them
pub record Pends (b p a n : ℕ) : Type 0 where
  pub some : 0 < b
  pub narrow : b ≤ 8
  pub few : p < 8
  pub small : a < 2 ^ p
  pub bounded : n ≤ limit

-- and there is memory for the bytes that these complete
pub record Ready (b p a n room : ℕ) : Type 0 where
  pub pends : Pends b p a n
  pub fits : (p + n * b) / 8 ≤ room

-- a width of a packed alphabet
abbrev pub Narrow : ℕ → Type 0
Narrow b = (2 ≤ b) × (b ≤ 5)

-- no entry of a table is wider than a digit of b bits
abbrev pub Digits : ℕ → List ℕ → Type 0
Digits b table = (x : ℕ) → at table x < 2 ^ b

-- a call's table: in a packed alphabet each byte's digit. A plain one needs none
abbrev pub Tabled : Coding → List ℕ → Type 0
Tabled A table = A.width < 8 → table ≡ tabulate 256 (digit_of A)

-- a text that is taken to be clean has members alone
abbrev pub Clean : Bool → Coding → List ℕ → Type 0
Clean clean A text = clean ≡ true → (j : ℕ) → j < length text → A.member (at text j) ≡ true

-- a text's entries in a table
abbrev pub looked : List ℕ → List ℕ → List ℕ
looked table text = map (at table) text

-- memory after a run: the whole bytes of the bits at hand are written at its front
abbrev pub ran : ℕ → ℕ → ℕ → List ℕ → List ℕ → List ℕ
ran b p a digits memory = front (cut 8 (at_hand p a b digits) 0 ((p + length digits * b) / 8)) memory

-- the value of the bits behind these, which pend after it
abbrev pub left_over_of : ℕ → ℕ → ℕ → List ℕ → ℕ
left_over_of b p a digits = word (at_hand p a b digits) ((p + length digits * b) / 8 * 8) ((p + length digits * b) % 8)
