use Rattle.alphabet.specs.Symbols.{coding_of}
use Rattle.members.proofs.Passing.{passed_none}
use Rattle.packing.proofs.bad.bad_from.Goals as goal

pub bad_behind-requires : goal.bad_behind-requires
bad_behind-requires c = record { bounded = c.requires; known = passed_none (coding_of c.args.alphabet) c.args.text.now }
