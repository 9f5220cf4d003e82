use Rattle.std.proofs.Common.{rules, arith}
use Rattle.packseq.proofs.Reading.{turned, turned_last}
use Rattle.packseq.proofs.input.read_input.Goals as goal

pub loop-more-smaller : goal.loop-more-smaller
loop-more-smaller g c =
    let l = c.loop-more in
    let read = c.read.ensures in
    let judged = rw c.in-More.is at c.in_ok-more.ensures in
    let next = turned _ _ _ l.buf c.read.new.buf l.len (omega arith) l.invariant.long l.invariant.taken _ _ read.bound read.bytes judged in
    omega (arith, next.0, next.1)

pub loop-more-preserved : goal.loop-more-preserved
loop-more-preserved g c =
    let l = c.loop-more in
    let read = c.read.ensures in
    let judged = rw c.in-More.is at c.in_ok-more.ensures in
    let next = turned _ _ _ l.buf c.read.new.buf l.len (omega arith) l.invariant.long l.invariant.taken _ _ read.bound read.bytes judged in
    record { left = next.1; long = search rules; taken = next.2 }

pub returns-in-Whole-clause-within : goal.returns-in-Whole-clause-within
returns-in-Whole-clause-within g c =
    let l = c.loop-more in
    let inv = l.invariant in
    let read = c.read.ensures in
    let judged = rw c.in-Whole.is at c.in_ok-more.ensures in
    (turned_last _ _ _ l.buf c.read.new.buf l.len (omega arith) inv.long inv.taken _ _ read.bound read.bytes inv.left (search rules) judged).0

pub returns-in-Whole-clause-whole : goal.returns-in-Whole-clause-whole
returns-in-Whole-clause-whole g c =
    let l = c.loop-more in
    let inv = l.invariant in
    let read = c.read.ensures in
    let judged = rw c.in-Whole.is at c.in_ok-more.ensures in
    (turned_last _ _ _ l.buf c.read.new.buf l.len (omega arith) inv.long inv.taken _ _ read.bound read.bytes inv.left (search rules) judged).1
