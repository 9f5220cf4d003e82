use Rattle.windows.proofs.Answering.{read-empty, read_unknown, read_far_end, read-far-offset, read_short, read_bases}
use Rattle.windows.proofs.asked.asked.Goals as goal

-- each question answered with no, and at the end none
pub returns-then-end-start : goal.returns-then-end-start
returns-then-end-start c = let a = c.args in read-empty a.alphabet a.offset a.start a.end a.room c.if-end-start.true

pub returns-then-alphabet-gt-LAST_ALPHABET : goal.returns-then-alphabet-gt-LAST_ALPHABET
returns-then-alphabet-gt-LAST_ALPHABET c =
    let a = c.args in read_unknown a.alphabet a.offset a.start a.end a.room c.if-end-start.false c.if-alphabet-gt-LAST_ALPHABET.true

pub returns-then-end-gt-LIMIT : goal.returns-then-end-gt-LIMIT
returns-then-end-gt-LIMIT c =
    let a = c.args in
    read_far_end a.alphabet a.offset a.start a.end a.room c.if-end-start.false c.if-alphabet-gt-LAST_ALPHABET.false c.if-end-gt-LIMIT.true

pub returns-then-offset-gt-LIMIT : goal.returns-then-offset-gt-LIMIT
returns-then-offset-gt-LIMIT c =
    let a = c.args in
    read-far-offset a.alphabet a.offset a.start a.end a.room c.if-end-start.false c.if-alphabet-gt-LAST_ALPHABET.false c.if-end-gt-LIMIT.false c.if-offset-gt-LIMIT.true

pub returns-then-room-end : goal.returns-then-room-end
returns-then-room-end c =
    let a = c.args in
    read_short a.alphabet a.offset a.start a.end a.room c.if-end-start.false c.if-alphabet-gt-LAST_ALPHABET.false c.if-end-gt-LIMIT.false c.if-offset-gt-LIMIT.false
    c.if-room-end.true

pub returns : goal.returns
returns c =
    let a = c.args in
    read_bases a.alphabet a.offset a.start a.end a.room c.if-end-start.false c.if-alphabet-gt-LAST_ALPHABET.false c.if-end-gt-LIMIT.false c.if-offset-gt-LIMIT.false
    c.if-room-end.false
