use Rattle.std.proofs.Common.{◌+◌, ◌-◌, ap, ◌∙◌}
use borrow.Rule.Slice.PartMut.{put_mid}
use Rattle.bits.specs.Tables.{at}
use Rattle.alphabet.specs.Symbols.{coding_by}
use Rattle.alphabet.specs.declared.kind.AlphabetType.TheVariants.{Dna2bit}
use Rattle.packing.specs.Encode.{digit_of}
use Rattle.packing.proofs.TwoBits.{block_small, block_stored}
use Rattle.packing.proofs.fours.put_64.Goals as goal

pub packed16-requires : goal.packed16-requires
packed16-requires c = block_small c.args.fold c.args.text.now c.codes_of-codes.result c.args.i (λ j. (c.type_inv.text j).fits) c.codes_of-codes.ensures

pub returns : goal.returns
returns c =
    let a = c.args in
    ap (put_mid a.w (a.w + 16 - a.w) a.out.now) c.copy_from_slice.ensures.after
    ∙ block_stored (λ j. digit_of (coding_by a.fold Dna2bit) (at a.text.now j)) a.i c.codes_of-codes.result c.packed16.result c.codes_of-codes.ensures c.packed16.ensures a.w a.out.now c.requires.1.0
