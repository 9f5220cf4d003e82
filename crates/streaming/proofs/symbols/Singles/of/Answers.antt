use Rattle.std.proofs.Common.{ap, ◌∙◌}
use Rattle.alphabet.specs.declared.kind.AlphabetType.{AlphabetType}
use Rattle.alphabet.specs.Symbols.{coding}
use Rattle.streaming.proofs.symbols.Singles.of.Goals as goal

pub invariant_of-result : goal.invariant_of-result
invariant_of-result g c =
    record { wide = ap (λ (k : AlphabetType). (coding k).width) c.of.ensures ∙ c.requires.wide; some = c.requires.some; five = c.requires.five }
