use Rattle.alphabet.specs.Symbols.{coding}
use Rattle.alphabet.specs.declared.kind.AlphabetType.TheVariants.{Dna2bit}
use Rattle.windows.specs.Workers.{symbols_of}
use Rattle.windows.proofs.Written.{four_stores}
use Rattle.windows.proofs.WholeBytes.{length_symbols}
use Rattle.windows.proofs.fours.put_four.Goals as goal

pub returns : goal.returns
returns c =
    rw (c.base_in.ensures, c.base_in-2.ensures, c.base_in-3.ensures, c.base_in-4.ensures)
    (four_stores (symbols_of (coding Dna2bit) 4 c.args.byte) c.args.out.now (length_symbols (coding Dna2bit) 4 c.args.byte) c.requires)
