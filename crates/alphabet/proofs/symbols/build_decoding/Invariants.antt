use Rattle.alphabet.specs.Symbols.{symbol_of, code_of, found}
use Rattle.alphabet.proofs.Turns.{Lays}
use Rattle.alphabet.proofs.symbols.build_decoding.Given as goal

-- the pairs that are left, over the table as it is, give what all give over the table as it was
abbrev pub invariant-loop-symbol : goal.invariant-loop-symbol
invariant-loop-symbol l =
    Lays code_of symbol_of 32 (λ j. found code_of symbol_of l.fn.unassigned l.fn.symbols j) l.symbol-iterator.iter.rest.now l.table
