use Rattle.std.proofs.Common.{◌≡◌, List, ℕ, [], ◌∷◌, ◌++◌, replicate, sym, subst, rules}
use Rattle.alphabet.specs.Symbols.{symbol_of, code_of, found}
use Rattle.alphabet.proofs.Turns.{Lays, lay_last, pass_last, all_laid, to_lay_over}
use Rattle.alphabet.proofs.symbols.build_decoding.Goals as goal

pub loop-symbol-init : goal.loop-symbol-init
loop-symbol-init c =
    let u = c.args.unassigned in
    let all : c.into_iter-symbol-iterator.result.iter.rest.now ≡ c.args.symbols.now = search rules in
    subst (λ (pairs : List (List ℕ)). Lays code_of symbol_of 32 (λ j. found code_of symbol_of u c.args.symbols.now j) pairs (replicate 32 u)) (sym all)
    (to_lay_over code_of symbol_of 32 u c.args.symbols.now)

pub loop-symbol-preserved-then-code-lt32 : goal.loop-symbol-preserved-then-code-lt32
loop-symbol-preserved-then-code-lt32 c =
    let l = c.loop-symbol in
    let pair = c.in-Some.field-0.now in
    let rest = c.next.new.self.iter.rest.now in
    let step : l.symbol-iterator.iter.rest.now ≡ rest ++ pair ∷ [] = search rules in
    let whole : ℕ → ℕ = λ j. found code_of symbol_of c.args.unassigned c.args.symbols.now j in
    lay_last code_of symbol_of 32 whole rest pair c.from.result l.table c.from.ensures
    (subst (λ (pairs : List (List ℕ)). Lays code_of symbol_of 32 whole pairs l.table) step l.invariant)

pub loop-symbol-preserved : goal.loop-symbol-preserved
loop-symbol-preserved c =
    let l = c.loop-symbol in
    let pair = c.in-Some.field-0.now in
    let rest = c.next.new.self.iter.rest.now in
    let step : l.symbol-iterator.iter.rest.now ≡ rest ++ pair ∷ [] = search rules in
    let whole : ℕ → ℕ = λ j. found code_of symbol_of c.args.unassigned c.args.symbols.now j in
    pass_last code_of symbol_of 32 whole rest pair l.table c.if-code-lt32.false
    (subst (λ (pairs : List (List ℕ)). Lays code_of symbol_of 32 whole pairs l.table) step l.invariant)

pub returns : goal.returns
returns c =
    let l = c.loop-symbol in
    all_laid code_of symbol_of 32 (found code_of symbol_of c.args.unassigned c.args.symbols.now) l.symbol-iterator.iter.rest.now l.table (search rules) l.invariant
