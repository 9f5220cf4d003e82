-- What the private functions of this crate ask and say; no public contract cites it.
use Rattle.std.specs.Prelude.{◌≡◌, ℕ, ◌+◌, ◌*◌, ◌%◌, ◌^◌, ◌<◌, ◌≤◌, true, List, map, length, Option, None, Some}
use Rattle.bits.specs.Tables.{tabulate}
use Rattle.bits.specs.Streams.{bit_at, word, fields}
use Rattle.bits.specs.Packing.{file_byte, first_byte, end_byte}
use Rattle.alphabet.specs.Symbols.{Coding}
use Rattle.alphabet.specs.declared.kind.AlphabetType.{AlphabetType}
use Rattle.alphabet.specs.declared.kind.AlphabetType.TheVariants.{Dna3bit, DnaIupac, Protein}
use Rattle.windows.specs.Window.{first_lacking_of}
use Rattle.windows.specs.declared.blocks.ByBlocks.{ByBlocks}
use Rattle.windows.specs.declared.rolling.Held.{Held}

-- a window, or the rest of one, whose end is near
pub record Near (start end : ℕ) : Type 0 where
  pub order : start ≤ end
  pub far : end ≤ 2 ^ 60

-- a window of Protein, or the rest of one, whose bytes are lent
pub record Covered (lent : List ℕ) (offset start end : ℕ) : Type 0 where
  pub near : Near start end
  pub begins : offset ≤ first_byte 5 start
  pub ends : end_byte 5 end ≤ offset + length lent

-- base `at` is reached from `start` over bases whose codes the alphabet's own list has
pub record Passes (A : Coding) (lent : List ℕ) (offset start at end : ℕ) : Type 0 where
  pub from : start ≤ at
  pub to : at ≤ end
  pub each : (i : ℕ) → start ≤ i → i < at → A.assigned (word (bit_at 8 (file_byte lent offset)) (i * A.width) A.width) ≡ true

-- the first base whose code the alphabet's own list lacks, if there is one
abbrev pub FirstLacking : Coding → List ℕ → ℕ → ℕ → ℕ → Option ℕ → Type 0
FirstLacking A lent offset start end None = first_lacking_of A lent offset start end ≡ end
FirstLacking A lent offset start end (Some i) = (i ≡ first_lacking_of A lent offset start end) × (i < end)

-- a block: c codes of an alphabet, of at most five bits, fill n bytes, and these and one more write a number of at most 64 bits
pub record Fills (A : Coding) (c n : ℕ) : Type 0 where
  pub five : A.width ≤ 5
  pub some : 0 < n
  pub few : n ≤ 7
  pub whole : c * A.width ≡ n * 8

-- the kind whose bases each of the three engines of blocks writes
abbrev pub written_by : ByBlocks → AlphabetType
written_by ByBlocks.Three = Dna3bit
written_by ByBlocks.Four = DnaIupac
written_by ByBlocks.Five = Protein

-- the bits at hand are those from bit `place` on, up to byte `next`; the low bits of `acc` are the number that they write
pub record Holds (byte : ℕ → ℕ) (place : ℕ) (held : Held) : Type 0 where
  pub up_to : 8 * held.next ≡ place + held.have
  pub value : held.acc % 2 ^ held.have ≡ word (bit_at 8 byte) place held.have

-- the symbols of the c codes, b bits wide, that a number writes
unfoldable pub symbols_of : Coding → ℕ → ℕ → List ℕ
symbols_of A c v = map A.symbol (fields A.width c v)

-- n bytes of a file from byte `start` on
unfoldable pub file_bytes : List ℕ → ℕ → ℕ → ℕ → List ℕ
file_bytes lent offset start n = tabulate n (λ i. file_byte lent offset (start + i))
