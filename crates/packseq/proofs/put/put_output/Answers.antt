use Rattle.bits.specs.Tables.{bytes_of}
use Rattle.packseq.specs.Printed.{output}
use Rattle.packseq.proofs.Output.{output_fits, not_read, is_put, all_put}
use Rattle.packseq.proofs.put.put_output.Goals as goal

pub unwrap-requires : goal.unwrap-requires
unfolding bytes_of
unwrap-requires c =
    let read = c.args.read in
    let buf = c.args.buf.now in
    is_put (output read buf) _ _ _ (not_read read _ buf c.in-Err.is) (output_fits read buf) c.requires.most_in_bounds c.text_line.ensures.value

pub returns-in-Err-clause-value : goal.returns-in-Err-clause-value
unfolding bytes_of
returns-in-Err-clause-value c =
    let read = c.args.read in
    let buf = c.args.buf.now in
    let put = c.text_line.ensures in
    (all_put (output read buf) _ _ _ (not_read read _ buf c.in-Err.is) (output_fits read buf) c.requires.most_in_bounds put.value _ _ c.unwrap.ensures put.memory).0

pub returns-in-Err-clause-memory : goal.returns-in-Err-clause-memory
unfolding bytes_of
returns-in-Err-clause-memory c =
    let read = c.args.read in
    let buf = c.args.buf.now in
    let put = c.text_line.ensures in
    (all_put (output read buf) _ _ _ (not_read read _ buf c.in-Err.is) (output_fits read buf) c.requires.most_in_bounds put.value _ _ c.unwrap.ensures put.memory).1
