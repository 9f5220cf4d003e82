use Rattle.std.proofs.Common.{ℕ}
use lib.ListN.{length-replicate}
use Rattle.bits.specs.Tables.{bytes_of}
use Rattle.packseq.specs.Printed.{printed}
use Rattle.packseq.proofs.Output.{is_long, is_answered, packed_within, printed_fits, is_put, all_put}
use Rattle.packseq.proofs.put.put_printed.Goals as goal

pub unwrap-requires : goal.unwrap-requires
unfolding bytes_of
unwrap-requires c =
    let text = c.args.text.now in
    is_put (printed text) _ _ _ (is_long text c.if-text-gt-LONGEST.true) (printed_fits text) c.requires c.text_line.ensures.value

pub put_answer-requires : goal.put_answer-requires
put_answer-requires c =
    let e = c.encode_sequence-answer in
    packed_within c.args.text.now _ _ _ _ _ c.guess_alphabet-kind.ensures c.from.ensures e.ensures.value e.ensures.memory

pub unwrap-requires-2 : goal.unwrap-requires-2
unwrap-requires-2 c =
    let text = c.args.text.now in
    let e = c.encode_sequence-answer.ensures in
    let made = is_answered text _ _ _ _ _ c.guess_alphabet-kind.ensures c.from.ensures e.value e.memory c.if-text-gt-LONGEST.false (length-replicate {A = ℕ} 16384 0) in
    is_put (printed text) _ _ _ made (printed_fits text) c.requires c.put_answer.ensures.value

pub returns-clause-value : goal.returns-clause-value
returns-clause-value c =
    let text = c.args.text.now in
    let e = c.encode_sequence-answer.ensures in
    let made = is_answered text _ _ _ _ _ c.guess_alphabet-kind.ensures c.from.ensures e.value e.memory c.if-text-gt-LONGEST.false (length-replicate {A = ℕ} 16384 0) in
    (all_put (printed text) _ _ _ made (printed_fits text) c.requires c.put_answer.ensures.value _ _ c.unwrap-2.ensures c.put_answer.ensures.memory).0

pub returns-clause-memory : goal.returns-clause-memory
returns-clause-memory c =
    let text = c.args.text.now in
    let e = c.encode_sequence-answer.ensures in
    let made = is_answered text _ _ _ _ _ c.guess_alphabet-kind.ensures c.from.ensures e.value e.memory c.if-text-gt-LONGEST.false (length-replicate {A = ℕ} 16384 0) in
    (all_put (printed text) _ _ _ made (printed_fits text) c.requires c.put_answer.ensures.value _ _ c.unwrap-2.ensures c.put_answer.ensures.memory).1
