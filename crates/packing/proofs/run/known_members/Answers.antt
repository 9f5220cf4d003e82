use Rattle.std.proofs.Common.{◌≡◌, ℕ, List, length, take, sym, ◌∙◌, arith}
use Rattle.std.proofs.Math.Seq.{length-take-le}
use Rattle.alphabet.specs.Symbols.{Coding, coding_of}
use Rattle.members.specs.Members.{members_ahead_of}
use Rattle.members.proofs.Laws.{passed_ahead}
use Rattle.members.proofs.Passing.{passed_more}
use Rattle.packing.proofs.run.known_members.Goals as goal

pub returns-in-Some : goal.returns-in-Some
returns-in-Some c = passed_ahead (coding_of c.args.alphabet) c.args.text.now c.args.h c.in-Some.m (omega (arith, c.requires.0)) c.in-Some.ensures.0

pub returns-in-None : goal.returns-in-None
returns-in-None c =
    let A : Coding = coding_of c.args.alphabet in
    let text : List ℕ = c.args.text.now in
    let h : ℕ = c.args.h in
    let long : length (take h text) ≡ h = length-take-le h text (omega (arith, c.requires.0)) in
    let all : h ≡ members_ahead_of A (take h text) = sym (c.in-None.ensures ∙ long) in
    passed_more A text h c.args.r (passed_ahead A text h h (omega (arith, c.requires.0)) all) c.requires.0 c.requires.1
