use Rattle.std.proofs.Common.{ℕ, ◌+◌, ◌-◌, ◌*◌, ◌%◌, ◌^◌, sym, ap, ◌∙◌, arith}
use native.Mathlib.Nat.{mod-lt}
use lib.Bits.{bit_or, or_shifted}
use Rattle.bits.proofs.Shifts.{low_lt, shl_part}
use Rattle.bits.proofs.word.push.Goals as goal

-- the bits put behind meet zeros
pub returns : goal.returns
returns c =
    let a = c.args in
    let k : ℕ = a.n % 64 in
    ap (bit_or (a.x * 2 ^ k % 2 ^ 64)) c.low.ensures
    ∙ ap (λ (m : ℕ). bit_or m (a.y % 2 ^ k)) (shl_part a.x k (mod-lt a.n (omega arith)))
    ∙ or_shifted (a.x % 2 ^ (64 - k)) k (a.y % 2 ^ k) (low_lt a.y k)
    ∙ ap (λ (m : ℕ). m + a.y % 2 ^ k) (sym (shl_part a.x k (mod-lt a.n (omega arith))))
