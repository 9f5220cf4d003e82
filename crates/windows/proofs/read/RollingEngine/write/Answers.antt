use Rattle.std.proofs.Common.{◌≤◌, sym, ◌∙◌, length}
use Rattle.alphabet.specs.Symbols.{coding}
use Rattle.windows.proofs.WholeBytes.{window-plain, plain_of, five_of}
use Rattle.windows.proofs.read.RollingEngine.write.Goals as goal

pub returns-then-bits_per_symbol-eq8 : goal.returns-then-bits_per_symbol-eq8
returns-then-bits_per_symbol-eq8 c =
    let a = c.args in
    c.copy_file.ensures
    ∙ sym
    (window-plain (coding a.self.kind) (plain_of a.self.kind (sym c.bits_per_symbol.ensures ∙ c.if-bits_per_symbol-eq8.true)) a.bytes.now (λ i. (c.type_inv.bytes i).fits) a.offset a.start
    (length a.out.now))

pub roll-requires : goal.roll-requires
roll-requires c =
    let k = c.args.self.kind in
    let five : (coding k).width ≤ 5 = five_of k (λ q. c.if-bits_per_symbol-eq8.false (c.bits_per_symbol.ensures ∙ q)) in
    (rw c.of.ensures five, c.requires)
