use Rattle.std.proofs.Common.{length, ◌-◌, ◌≡◌, ◌<◌, take}
use Rattle.std.specs.Io.KnownBytes.{Consumes}
use Rattle.packseq.specs.Input.{room}
use Rattle.packseq.proofs.input.read_input.Given as goal

-- the bytes before `len` are the reader's first, and memory is left
abbrev pub invariant-loop-more : goal.invariant-loop-more
invariant-loop-more g l =
    record {
      left : l.len < room;
      long : length l.buf ≡ room;
      taken : Consumes (g.R.Read.remaining l.fn.reader) (g.R.Read.remaining l.reader) (take l.len l.buf);
    }

abbrev pub decreases-loop-more : goal.decreases-loop-more
decreases-loop-more g l = room - l.len
