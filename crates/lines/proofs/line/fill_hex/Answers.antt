use Rattle.std.proofs.Common.{◌∙◌}
use Rattle.lines.proofs.Spelling.{hex-encoded}
use Rattle.lines.proofs.line.fill_hex.Goals as goal

pub returns : goal.returns
returns c =
    let written = rw c.unwrap.ensures at c.encode_to_slice.ensures.written in
    written ∙ hex-encoded _
