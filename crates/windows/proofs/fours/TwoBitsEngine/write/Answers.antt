use Rattle.alphabet.specs.Symbols.{coding}
use Rattle.alphabet.specs.declared.kind.AlphabetType.TheVariants.{Dna2bit}
use Rattle.windows.proofs.Written.{rest_begun}
use Rattle.windows.proofs.fours.TwoBitsEngine.write.Goals as goal

pub returns : goal.returns
returns c =
    let d = c.fours-done in
    rest_begun (coding Dna2bit) _ _ c.args.start d.result c.args.out.now d.new.out c.singles-2.new.out d.ensures.1 d.ensures.0 d.auto.out c.singles-2.ensures
