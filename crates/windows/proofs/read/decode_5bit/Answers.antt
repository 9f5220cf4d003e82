use Rattle.std.proofs.Common.{sym}
use Rattle.alphabet.specs.declared.kind.AlphabetType.TheVariants.{Protein}
use Rattle.alphabet.proofs.Calls.{kind_number}
use Rattle.windows.proofs.read.decode_5bit.Goals as goal

pub zero_filling-requires : goal.zero_filling-requires
zero_filling-requires c = sym (kind_number Protein)
