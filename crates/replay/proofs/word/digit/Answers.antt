-- A digit is its place among the sixteen.
use Rattle.replay.specs.Fields.{hex_digits}
use Rattle.replay.proofs.Words.{place_some}
use Rattle.replay.proofs.word.digit.Goals as goal

pub returns-clause-some : goal.returns-clause-some
returns-clause-some c = rw (c.find.ensures) (place_some c.args.byte hex_digits)
