use Rattle.std.proofs.Common.{Err, sym, ap, ◌∙◌}
use Rattle.streaming.proofs.Closing.{end_unsound, end_due, end_short, end_complete}
use Rattle.streaming.proofs.decoder.StreamingDecoder.end.Goals as goal

pub returns-then-not-is_sound : goal.returns-then-not-is_sound
returns-then-not-is_sound c = ap Err c.keeping.ensures ∙ end_unsound c.args.self (sym c.is_sound.ensures ∙ c.if-not-is_sound.true)

pub returns-then-self-gt0 : goal.returns-then-self-gt0
returns-then-self-gt0 c = ap Err c.keeping-then-self-gt0.ensures ∙ end_due c.args.self (sym c.is_sound.ensures ∙ c.if-not-is_sound.false) c.if-self-gt0.true

pub returns-then-self-gt0-2 : goal.returns-then-self-gt0-2
returns-then-self-gt0-2 c =
    ap Err c.keeping-then-self-gt0-2.ensures ∙ end_short c.args.self (sym c.is_sound.ensures ∙ c.if-not-is_sound.false) c.if-self-gt0.false c.if-self-gt0-2.true

pub returns : goal.returns
returns c = end_complete c.args.self (sym c.is_sound.ensures ∙ c.if-not-is_sound.false) c.if-self-gt0.false c.if-self-gt0-2.false
