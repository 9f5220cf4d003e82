use Rattle.std.proofs.Common.{arith}
use Rattle.streaming.proofs.Pumping.{more_than_one}
use Rattle.streaming.proofs.flow.pump.Goals as goal

-- a width that is none of 2, 3 and 4 is 5
pub of-requires-in_default : goal.of-requires-in_default
of-requires-in_default c = (omega arith, (omega (arith, more_than_one c.args.start.state.alphabet), (omega arith, omega arith)))
