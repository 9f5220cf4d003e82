use Rattle.std.proofs.Common.{refl}
use Rattle.alphabet.specs.Guess.{fresh_guesser}
use Rattle.alphabet.proofs.guesser.AlphabetGuesser.new.Goals as goal

pub returns : goal.returns
unfolding fresh_guesser
returns c = refl
