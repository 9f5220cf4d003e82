use Rattle.std.proofs.Common.{ap, ◌∙◌, lit≤}
use Rattle.alphabet.specs.Symbols.{coding}
use Rattle.alphabet.specs.declared.kind.AlphabetType.{AlphabetType}
use Rattle.alphabet.proofs.Laws.{widths}
use Rattle.windows.proofs.blocks.ThreeBitsEngine.write.Goals as goal

pub eights-requires : goal.eights-requires
eights-requires c = ((ap (λ (k : AlphabetType). (coding k).width) c.of-table.ensures ∙ widths.of_dna3bit, lit≤ tt), c.requires)
