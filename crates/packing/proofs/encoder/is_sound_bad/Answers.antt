use Rattle.std.proofs.Common.{refl, sym, ◌∙◌, arith}
use Rattle.alphabet.specs.Symbols.{Coding, coding_of}
use Rattle.members.proofs.Laws.{alone_member, alone_stranger}
use Rattle.packing.proofs.Ends.{sound_none, sound_at_member, sound_at_stranger}
use Rattle.packing.proofs.encoder.is_sound_bad.Goals as goal

pub returns-in_default : goal.returns-in_default
returns-in_default c = sound_none (coding_of c.args.alphabet) c.args.seen c.args.bad c.in_default.is

pub returns-in-None : goal.returns-in-None
returns-in-None c =
    let A : Coding = coding_of c.args.alphabet in
    sound_at_member A c.args.seen c.args.bad c.in-Some.first c.in-Some.is (alone_member A c.in-Some.first.byte 1 (sym c.in-None.ensures) refl)

pub returns-in-Some-first_stranger : goal.returns-in-Some-first_stranger
returns-in-Some-first_stranger c =
    let A : Coding = coding_of c.args.alphabet in
    let there = c.in-Some-first_stranger.ensures in
    let none = alone_stranger A c.in-Some.first.byte c.in-Some-first_stranger.field-0 there.0 (λ e. absurd (omega (arith, e, there.1))) in
    c.is_counted.ensures ∙ sound_at_stranger A c.args.seen c.args.bad c.in-Some.first c.in-Some.is none
