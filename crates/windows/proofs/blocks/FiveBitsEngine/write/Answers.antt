use Rattle.std.proofs.Common.{ap, ◌∙◌, lit≤}
use Rattle.alphabet.specs.Symbols.{coding}
use Rattle.alphabet.specs.declared.kind.AlphabetType.{AlphabetType}
use Rattle.alphabet.proofs.Laws.{widths}
use Rattle.windows.proofs.blocks.FiveBitsEngine.write.Goals as goal

pub eights-requires : goal.eights-requires
eights-requires c = ((ap (λ (k : AlphabetType). (coding k).width) c.of-table.ensures ∙ widths.of_protein, lit≤ tt), c.requires)
