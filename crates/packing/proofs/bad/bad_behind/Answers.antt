use Rattle.std.proofs.Common.{Option, ℕ, sym, ap₂, ◌∙◌, List, arith}
use Rattle.alphabet.specs.Symbols.{Coding, coding_of}
use Rattle.members.proofs.Laws.{bad_part}
use Rattle.packing.specs.declared.stranger.Stranger.{Stranger}
use Rattle.packing.proofs.Search.{first_there, none_there}
use Rattle.packing.proofs.bad.bad_behind.Goals as goal

pub returns-in-Some : goal.returns-in-Some
returns-in-Some c =
    let A : Coding = coding_of c.args.alphabet in
    let text : List ℕ = c.args.text.now in
    let there = c.in-Some.ensures in
    ap₂ (λ (x : Option Stranger) (n : ℕ). record { first = x; count = n }) (sym (first_there A text c.in-Some.i there.0 there.1 c.args.from))
    (c.count_strangers.ensures ∙ bad_part A text c.in-Some.i there.0)

pub returns-in-None : goal.returns-in-None
returns-in-None c = none_there (coding_of c.args.alphabet) c.args.text.now _ (sym c.in-None.ensures) (omega arith) c.args.from
