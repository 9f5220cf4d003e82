use Rattle.std.proofs.Common.{◌≡◌, ℕ, ◌≤◌, Bool, true, false, cond, [], ◌∷◌, sym, ap, ◌∙◌, refl, arith}
use mir.Val.{bool_byte}
use borrow.Author.Tests.{le-ltb}
use Rattle.alphabet.specs.Questions.{accepted}
use Rattle.alphabet.specs.Symbols.{coding}
use Rattle.alphabet.specs.declared.kind.AlphabetType.{AlphabetType}
use Rattle.alphabet.proofs.Laws.{lawful}
use Rattle.alphabet.proofs.Calls.{named_kind}
use Rattle.fantailclock.specs.Kinds.{contains_told}
use Rattle.fantailclock.proofs.kinds.contained.Goals.{then-byte-lt256, else-byte-lt256}
use Rattle.fantailclock.proofs.kinds.contained.Goals as goal

-- no number above 255 is a member
no_byte : (k : AlphabetType) (v : ℕ) → 256 ≤ v → false ≡ (coding k).member v
no_byte k v h = go ((coding k).member v) refl
  where
    go : (b : Bool) → (coding k).member v ≡ b → false ≡ b
    go true m = absurd (omega (arith, (lawful false k).byte v m))
    go false m = refl

-- a choice as a number
byte_of : (b : Bool) → bool_byte b ≡ cond b 1 0
byte_of true = refl
byte_of false = refl

pub returns : goal.returns
unfolding contains_told
returns c =
    let v = c.args.byte in
    let k = c.in_ok-kind.kind in
    let s = named_kind c.args.alphabet k (sym c.try_from.ensures.0 ∙ c.in_ok-kind.was) in
    let member : c.if-byte-lt256.member ≡ (coding k).member v =
    elim c.if-byte-lt256.branch [ then-byte-lt256 w ↦ w.member-is ∙ w.contains-member.ensures | else-byte-lt256 w ↦ w.member-is ∙ le-ltb v 256 w.if-byte-lt256.false ∙ no_byte k v w.if-byte-lt256.false ] in
    rw (s.0, s.1) (ap (λ (w : ℕ). accepted (w ∷ [])) (c.from.ensures ∙ byte_of _ ∙ ap (λ (b : Bool). cond b 1 0) member))
