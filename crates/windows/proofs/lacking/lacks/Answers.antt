use Rattle.std.proofs.Common.{◌≡◌, ◌*◌, ◌%◌, ◌^◌, ◌≤◌, ℕ, mod-eq_of_lt, arith, lit<, pow_mono, eqb-true}
use lib.Bits.{bit_and}
use borrow.Author.Tests.{not-false}
use Rattle.bits.proofs.Carries.{in_each, carried, no_carry_above}
use Rattle.windows.proofs.lacking.lacks.Goals as goal

-- both numbers keep their bits where they are shifted
few : (n : ℕ) → n ≤ 7 → 2 ^ n ≤ 2 ^ 7
few n h = pow_mono {i = n} {j = 7} h

threes : (n : ℕ) → n ≤ 7 → in_each 5 3 11 * 2 ^ n % 2 ^ 64 ≡ in_each 5 3 11 * 2 ^ n
threes n h = mod-eq_of_lt (omega (arith, few n h))

carries : (n : ℕ) → n ≤ 7 → in_each 5 1 11 * 2 ^ 5 * 2 ^ n % 2 ^ 64 ≡ in_each 5 1 11 * 2 ^ 5 * 2 ^ n
carries n h = mod-eq_of_lt (omega (arith, few n h))

pub overflow_add-result : goal.overflow_add-result
overflow_add-result c = omega (arith, few c.args.n c.requires.1, threes c.args.n c.requires.1, c.requires.0)

pub returns : goal.returns
returns c e i h =
    let x = c.args.codes in
    let n = c.args.n in
    let none : bit_and (carried x (in_each 5 3 11 * 2 ^ n % 2 ^ 64)) (in_each 5 1 11 * 2 ^ 5 * 2 ^ n % 2 ^ 64) ≡ 0 = eqb-true _ 0 (not-false _ e) in
    omega (arith, no_carry_above 4 3 (lit< tt) n 11 x (rw (threes n c.requires.1, carries n c.requires.1) at none) i h)
