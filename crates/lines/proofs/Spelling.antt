-- Laws of digits: that the libraries' numerals are the rules', and how long numerals are.
use mathlib.Core.Path.{◌≡◌, refl, sym, ap}
use mathlib.Core.Bool.{Bool, true, false, cond}
use mathlib.Core.List.{List, [], ◌∷◌, ◌++◌}
use Prim.Native.Nat.{ℕ, zero, suc, ◌+◌, ◌*◌, ◌/◌, ◌%◌, ◌^◌, ◌≤◌, ◌<◌}
use native.Mathlib.Omega.{arith}
use borrow.Author.Tests.{lt-ltb, le-ltb}
use lib.Dec.{ltb, eqb, eqb→eq, lit<, lit≤}
use lib.ListN.{length, length-append}
use Rattle.std.specs.Fmt.{decimal as numeral}
use Rattle.std.proofs.lemmas.Fmt.{AppendsLastDigit, decimal_from_appends, length-decimal-le}
use Rattle.hex.specs.Hex.{encode_with, encode_lower}
use Rattle.bits.specs.Tables.{bytes_of}
use Rattle.bits.proofs.Computed.{below}
use Rattle.lines.specs.Digits.{digit, decimal_in, decimal, hex}

-- ---- decimal

pub digit_low : (d : ℕ) → d < 10 → digit d ≡ 48 + d
unfolding digit bytes_of
digit_low d h = sym (eqb→eq (48 + d) (digit d) (below (λ k. eqb (48 + k) (digit k)) 10 tt d h))

appends : AppendsLastDigit decimal_in
unfolding decimal_in
appends =
    record {
      one = λ k n h. rw (lt-ltb n 10 h) (ap (λ (d : ℕ). d ∷ []) (digit_low n h));
      more = λ k n h. rw (le-ltb n 10 h) (ap (λ (d : ℕ). decimal_in k (n / 10) ++ (d ∷ [])) (digit_low (n % 10) (omega arith)));
    }

pub decimal-numeral : (n : ℕ) → n < 2 ^ 64 → numeral n ≡ decimal n
unfolding decimal
decimal-numeral n h = sym (decimal_from_appends decimal_in appends 20 n h (length-decimal-le 20 n (lit< tt) (omega arith) h))

in_short : (k n : ℕ) → length (decimal_in k n) ≤ k
unfolding decimal_in
in_short zero n = lit≤ tt
in_short (suc k) n = go (in_short k (n / 10)) (ltb n 10)
  where
    go : length (decimal_in k (n / 10)) ≤ k → (b : Bool) → length (cond b (digit n ∷ []) (decimal_in k (n / 10) ++ (digit (n % 10) ∷ []))) ≤ suc k
    go ih true = omega arith
    go ih false = omega (arith, length-append (decimal_in k (n / 10)) (digit (n % 10) ∷ []))

pub decimal_short : (n : ℕ) → length (decimal n) ≤ 20
unfolding decimal
decimal_short n = in_short 20 n

-- ---- hexadecimal

pub hex-encoded : (bytes : List ℕ) → encode_lower bytes ≡ hex bytes
unfolding hex digit bytes_of encode_with
hex-encoded [] = refl
hex-encoded (v ∷ bytes) = ap (λ (ds : List ℕ). digit (v / 16) ∷ digit (v % 16) ∷ ds) (hex-encoded bytes)

pub hex-length : (bytes : List ℕ) → length (hex bytes) ≡ 2 * length bytes
unfolding hex
hex-length [] = refl
hex-length (v ∷ bytes) = omega (arith, hex-length bytes)

-- for the function that writes them
pub ruleset numerals = (decimal-numeral, decimal_short)
