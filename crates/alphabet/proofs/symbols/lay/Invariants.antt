use Rattle.bits.specs.Tables.{at}
use Rattle.alphabet.specs.Symbols.{symbol_of, code_of, found}
use Rattle.alphabet.proofs.Turns.{Lays}
use Rattle.alphabet.proofs.symbols.lay.Given as goal

-- the pairs that are left, over the table as it is, give what all give over the table as it was
abbrev pub invariant-loop-symbol : goal.invariant-loop-symbol
invariant-loop-symbol l =
    Lays symbol_of code_of 256 (λ j. found symbol_of code_of (at l.fn.table j) l.fn.symbols j) l.symbol-iterator.iter.rest.now l.table
