-- What is kept of a run.
use Rattle.std.specs.Prelude.{ℕ, ◌≤◌}
use Rattle.replay.specs.declared.tally.Run.{Run}

-- the calls of the present run are among all, and those that agreed among them
abbrev pub Kept : Run → ℕ → Type 0
Kept run calls = (run.agreed ≤ run.put) × (run.put ≤ calls)
