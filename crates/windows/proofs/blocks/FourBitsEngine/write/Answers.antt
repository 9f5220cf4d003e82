use Rattle.std.proofs.Common.{◌≡◌, length, ap, ◌∙◌, arith, lit<, lit≤}
use Rattle.alphabet.specs.Symbols.{coding}
use Rattle.alphabet.specs.declared.kind.AlphabetType.{AlphabetType}
use Rattle.alphabet.proofs.Laws.{widths}
use Rattle.windows.specs.Window.{window}
use Rattle.windows.proofs.Written.{rest_begun, rest_length}
use Rattle.windows.proofs.blocks.FourBitsEngine.write.Goals as goal

pub blocks-done-requires : goal.blocks-done-requires
blocks-done-requires c =
    let width : (coding c.of-table.result.kind).width ≡ 4 = ap (λ (k : AlphabetType). (coding k).width) c.of-table.ensures ∙ widths.of_dna_iupac in
    (record { five = omega (arith, width); some = lit< tt; few = lit≤ tt; whole = omega (arith, width) }, c.requires)

pub eights-requires : goal.eights-requires
eights-requires c = ((ap (λ (k : AlphabetType). (coding k).width) c.of-table.ensures ∙ widths.of_dna_iupac, lit≤ tt), omega (arith, rest_length c.blocks-done.new.out c.blocks-done.result, c.blocks-done.auto.out, c.blocks-done.ensures.0, c.requires))

pub returns : goal.returns
returns c =
    let a = c.args in
    let k = c.of-table.result.kind in
    rest_begun (coding k) _ _ a.start c.blocks-done.result a.out.now c.blocks-done.new.out c.eights.new.out c.blocks-done.ensures.1 c.blocks-done.ensures.0 c.blocks-done.auto.out
    c.eights.ensures
    ∙ ap (λ (x : AlphabetType). window (coding x) a.bytes.now a.offset a.start (length a.out.now)) c.of-table.ensures
