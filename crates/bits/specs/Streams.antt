-- Streams of bits. States the layout rule of document 01, "Middle: packing": codes one after another, most significant bit first.
-- A run of digits is a function from places to numbers, a stream is a function from places to bits, and both begin at place 0.
use Rattle.std.specs.Prelude.{ℕ, zero, suc, ◌+◌, ◌-◌, ◌*◌, ◌/◌, ◌%◌, ◌^◌, cond, List, ltb}
use Rattle.bits.specs.Tables.{tabulate}

-- bit k of digits that are w bits wide: within its digit, the most significant bit is the first
unfoldable pub bit_at : ℕ → (ℕ → ℕ) → ℕ → ℕ
bit_at w digit k = digit (k / w) / 2 ^ (w - 1 - k % w) % 2

-- the number that n bits of s write, from bit k on, the first of them the most significant
unfoldable pub word : (ℕ → ℕ) → ℕ → ℕ → ℕ
word s k zero = 0
word s k (suc n) = word s k n * 2 + s (k + n)

-- the p bits of the number a, then the bits of s
unfoldable pub after : ℕ → ℕ → (ℕ → ℕ) → ℕ → ℕ
after p a s k = cond (ltb k p) (a / 2 ^ (p - 1 - k) % 2) (s (k - p))

-- n digits, each w bits wide, cut from the bits of s from bit k on
unfoldable pub cut : ℕ → (ℕ → ℕ) → ℕ → ℕ → List ℕ
cut w s k n = tabulate n (λ i. word s (k + i * w) w)

-- the c fields of a number, each b bits wide, the most significant first
unfoldable pub fields : ℕ → ℕ → ℕ → List ℕ
fields b c v = tabulate c (λ t. v / 2 ^ ((c - 1 - t) * b) % 2 ^ b)
