use Rattle.std.proofs.Common.{false, arith}
use Rattle.alphabet.specs.Symbols.{coding}
use Rattle.alphabet.proofs.Laws.{lawful}
use Rattle.windows.proofs.Written.{rest_begun}
use Rattle.windows.proofs.blocks.eights.Goals as goal

pub blocks-done-requires : goal.blocks-done-requires
blocks-done-requires g c =
    let k = c.args.table.now in
    (record { five = omega (arith, c.requires.0); some = omega (arith, (lawful false k.kind).some_bits, c.requires.0); few = omega (arith, c.requires.0); whole = omega (arith, c.requires.0) }, c.requires.1)

pub returns : goal.returns
returns g c =
    let a = c.args in
    let A = coding a.table.now.kind in
    rest_begun A _ _ a.start c.blocks-done.result a.out.now c.blocks-done.new.out c.singles.new.out c.blocks-done.ensures.1 c.blocks-done.ensures.0 c.blocks-done.auto.out
    c.singles.ensures
