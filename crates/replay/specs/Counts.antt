-- The count of a list's lines.
use Rattle.std.specs.Prelude.{ℕ, ◌+◌}
use Rattle.replay.specs.declared.tally.Tally.{Tally}

-- the lines counted: each is a call, a comment or bad
abbrev pub lines_of : Tally → ℕ
lines_of t = t.calls + t.comments + t.bad
