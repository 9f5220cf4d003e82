use Rattle.std.proofs.Common.{◌≡◌, ◌≤◌, Bool, true, false, ◌&&◌, ◌||◌, sym, ap, ◌∙◌, true≢false, arith}
use lib.Dec.{leb, eqb}
use borrow.Author.Tests.{leb-true, ne_eqb}
use Rattle.bits.proofs.Computed.{both_true}
use Rattle.fantailclock.specs.declared.shapes.Encoder.{Encoder}
use Rattle.fantailclock.specs.Encoders.{fitting}
use Rattle.fantailclock.proofs.shapes.Encoder.first.Goals as goal

-- a first non-member of fitting numbers is a byte
fitting_byte : (e : Encoder) → fitting e ≡ true → (e.has_bad ≡ 0 → ⊥) → e.bad_byte ≤ 255
unfolding fitting
fitting_byte e f h =
    let rest : Bool = eqb e.has_bad 1 && leb e.bad_byte 255 in
    let bad : eqb e.has_bad 0 || rest ≡ true = (both_true (leb e.fold 1) (eqb e.has_bad 0 || rest) f).1 in
    leb-true e.bad_byte 255
    (last (eqb e.has_bad 1) (leb e.bad_byte 255) (sym (ap (λ (b : Bool). b || rest) (ne_eqb e.has_bad 0 h)) ∙ bad))
  where
    last : (a b : Bool) → (false || (a && b)) ≡ true → b ≡ true
    last true b q = q
    last false b q = absurd (true≢false (sym q))

pub overflow_cast-result : goal.overflow_cast-result
overflow_cast-result c = omega (arith, fitting_byte c.args.self c.requires c.if-self-eq0.false)
