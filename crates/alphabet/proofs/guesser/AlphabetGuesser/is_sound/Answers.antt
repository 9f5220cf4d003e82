use Rattle.std.proofs.Common.{le-leb}
use borrow.Author.Tests.{lt-leb}
use Rattle.alphabet.specs.Guess.{sound_guesser}
use Rattle.alphabet.proofs.guesser.AlphabetGuesser.is_sound.Goals as goal

pub returns-then-self-ge-ASCII_BIT : goal.returns-then-self-ge-ASCII_BIT
unfolding sound_guesser
returns-then-self-ge-ASCII_BIT c = simp (le-leb 16 c.args.self.acc c.if-self-ge-ASCII_BIT.true)

pub returns-else-self-ge-ASCII_BIT : goal.returns-else-self-ge-ASCII_BIT
unfolding sound_guesser
returns-else-self-ge-ASCII_BIT c = simp (lt-leb 16 c.args.self.acc c.if-self-ge-ASCII_BIT.false)
