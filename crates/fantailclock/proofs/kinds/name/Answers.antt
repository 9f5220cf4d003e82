use Rattle.std.proofs.Common.{◌≡◌, true, false, length, sym, ◌∙◌, le-leb}
use borrow.Author.Tests.{lt-leb}
use lib.Dec.{leb}
use Rattle.alphabet.specs.Names.{display_name_of}
use Rattle.alphabet.proofs.Calls.{named_kind}
use Rattle.fantailclock.specs.Kinds.{name_told, name_memory}
use Rattle.fantailclock.proofs.kinds.name.Goals as goal

pub returns-then-out-name : goal.returns-then-out-name
unfolding name_told name_memory
returns-then-out-name c =
    let k = c.in_ok-kind.kind in
    let s = named_kind c.args.alphabet k (sym c.try_from.ensures.0 ∙ c.in_ok-kind.was) in
    let text = c.as_bytes-name.ensures.value ∙ c.display_name.ensures in
    let no : leb (length (display_name_of k)) (length c.args.out.now) ≡ false = lt-leb (length (display_name_of k)) (length c.args.out.now) (rw text at c.if-out-name.true) in
    record { value = rw (s.0, s.1, no); memory = rw (s.0, s.1, no) }

pub returns : goal.returns
unfolding name_told name_memory
returns c =
    let k = c.in_ok-kind.kind in
    let s = named_kind c.args.alphabet k (sym c.try_from.ensures.0 ∙ c.in_ok-kind.was) in
    let text = c.as_bytes-name.ensures.value ∙ c.display_name.ensures in
    let yes' : leb (length (display_name_of k)) (length c.args.out.now) ≡ true = le-leb (length (display_name_of k)) (length c.args.out.now) (rw text at c.if-out-name.false) in
    record { value = rw (s.0, s.1, yes', text); memory = rw (s.0, s.1, yes', c.copy_from_slice.ensures.after, text) }
