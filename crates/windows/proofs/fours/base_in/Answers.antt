use Rattle.std.proofs.Common.{ℕ, List, sym, ap, ◌∙◌, arith}
use lib.Bits.{bit_xor}
use Rattle.bits.specs.Tables.{at}
use Rattle.bits.proofs.Tabulated.{get_d_tabulate}
use Rattle.windows.proofs.AllBytes.{code_in, made, four_symbols}
use Rattle.windows.proofs.fours.base_in.Goals as goal

pub returns : goal.returns
returns c =
    let a = c.args in
    ap (λ (x : ℕ). bit_xor x 67) c.min.ensures
    ∙ sym (get_d_tabulate 4 (λ t. made (code_in a.byte t)) a.t 0 c.requires)
    ∙ ap (λ (xs : List ℕ). at xs a.t) (four_symbols a.byte (omega arith))
