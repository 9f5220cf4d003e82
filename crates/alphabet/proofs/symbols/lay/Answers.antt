use Rattle.std.proofs.Common.{◌≡◌, List, ℕ, [], ◌∷◌, ◌++◌, sym, subst, rules}
use Rattle.bits.specs.Tables.{at}
use Rattle.alphabet.specs.Symbols.{symbol_of, code_of, found}
use Rattle.alphabet.proofs.Turns.{Lays, lay_last, all_laid, to_lay}
use Rattle.alphabet.proofs.symbols.lay.Goals as goal

pub loop-symbol-init : goal.loop-symbol-init
loop-symbol-init c =
    let t = c.args.table.now in
    let all : c.into_iter-symbol-iterator.result.iter.rest.now ≡ c.args.symbols.now = search rules in
    subst (λ (pairs : List (List ℕ)). Lays symbol_of code_of 256 (λ j. found symbol_of code_of (at t j) c.args.symbols.now j) pairs t) (sym all)
    (to_lay symbol_of code_of 256 c.args.symbols.now t c.told-table)

pub loop-symbol-preserved : goal.loop-symbol-preserved
loop-symbol-preserved c =
    let l = c.loop-symbol in
    let pair = c.in-Some.field-0.now in
    let rest = c.next.new.self.iter.rest.now in
    let step : l.symbol-iterator.iter.rest.now ≡ rest ++ pair ∷ [] = search rules in
    let whole : ℕ → ℕ = λ j. found symbol_of code_of (at c.args.table.now j) c.args.symbols.now j in
    lay_last symbol_of code_of 256 whole rest pair c.from.result l.table c.from.ensures
    (subst (λ (pairs : List (List ℕ)). Lays symbol_of code_of 256 whole pairs l.table) step l.invariant)

pub returns : goal.returns
returns c = all_laid symbol_of code_of 256 _ c.loop-symbol.symbol-iterator.iter.rest.now c.loop-symbol.table (search rules) c.loop-symbol.invariant
