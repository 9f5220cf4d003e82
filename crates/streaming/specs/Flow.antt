-- Within a call: what the stream's own functions promise each other. Document 01 says nothing of it.
use Rattle.std.specs.Prelude.{ℕ, ◌+◌, ◌-◌, ◌*◌, ◌/◌, ◌≤◌, ◌<◌, min, ◌≡◌, List, ◌++◌, length, drop}
use Rattle.bits.specs.Tables.{tabulate}
use Rattle.bits.specs.Streams.{word}
use Rattle.streaming.specs.Stream.{reads_by, source_bits, used, status_for, bases_of, moved_by}
use Rattle.streaming.specs.declared.decoder.StreamingDecoder.{StreamingDecoder}
use Rattle.streaming.specs.declared.decoder.Streamed.{Streamed}
use Rattle.streaming.specs.declared.flow.Flow.{Flow}

-- base i of a call
unfoldable pub base_at : StreamingDecoder → List ℕ → ℕ → ℕ
base_at s source i = (reads_by s).symbol (word (source_bits s source) (used s i) (reads_by s).width)

-- memory with the first n bases of a call at its front
unfoldable pub filled : StreamingDecoder → List ℕ → ℕ → List ℕ → List ℕ
filled s source n memory = tabulate n (base_at s source) ++ drop n memory

-- with n bases written and `taken` bytes taken, `have` bits are taken and not used, and they write `acc`
pub record Level (s : StreamingDecoder) (source : List ℕ) (acc have taken n : ℕ) : Type 0 where
  pub place : used s n + have ≡ s.bits + taken * 8
  pub within : taken ≤ length source
  pub held : acc ≡ word (source_bits s source) (used s n) have

-- with bases written, not more than budget and space allow, fewer bits are at hand than a byte has. No invariant of a type: it tells of the memory's length, which
-- no value of the crate's holds
pub record Stands (s : StreamingDecoder) (source : List ℕ) (room : ℕ) (f : Flow) : Type 0 where
  pub few : f.have < 8
  pub most : f.written ≤ min s.budget room
  pub level : Level s source f.acc f.have f.taken f.written

-- the answer where the loops of a call end, with n bases written and output memory for `room`
unfoldable pub answered_by : StreamingDecoder → ℕ → ℕ → ℕ → ℕ → ℕ → Streamed
answered_by s acc have taken n room =
    record {
      taken = taken;
      written = n;
      status = status_for (s.budget - n) (room - n);
      next = record { alphabet = s.alphabet; skip = 0; budget = s.budget - n; bits = have; pending = acc };
    }

-- a call's answer and memory once all of its bases are written
abbrev pub all_moved : StreamingDecoder → List ℕ → ℕ → Streamed
all_moved s source room = moved_by s source room (bases_of s source room)

abbrev pub all_filled : StreamingDecoder → List ℕ → List ℕ → List ℕ
all_filled s source memory = filled s source (bases_of s source (length memory)) memory

-- ---- blocks of eight bases

-- how many bases the blocks of a call write: budget and space allow for as many blocks, and the source's bytes suffice for as many
abbrev pub count_in_blocks : StreamingDecoder → List ℕ → ℕ → ℕ → ℕ
count_in_blocks s source room taken = min (min s.budget room / 8) ((length source - taken) / (reads_by s).width) * 8
