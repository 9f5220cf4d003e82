-- Laws of `file_byte`: the bytes of a file of which some are lent.
use mathlib.Core.Path.{◌≡◌, ap, ap₂, ◌∙◌}
use mathlib.Core.Bool.{Bool, true, false, cond}
use mathlib.Core.List.{List}
use Prim.Native.Nat.{ℕ, ◌+◌, ◌-◌, ◌*◌, ◌/◌, ◌%◌, ◌^◌, ◌≤◌, ◌<◌}
use native.Mathlib.Omega.{arith}
use borrow.Author.Tests.{lt-ltb, le-ltb}
use lib.Dec.{ltb}
use lib.ListN.{length, get_or-eq_default}
use Rattle.bits.specs.Tables.{at, Bytes}
use Rattle.bits.specs.Streams.{bit_at, word}
use Rattle.bits.specs.Packing.{file_byte}
use Rattle.bits.proofs.Words.{word_ext}

module _ (lent : List ℕ) (offset j : ℕ) where
  pub file_before : j < offset → file_byte lent offset j ≡ 0
  unfolding file_byte
  file_before h = rw (lt-ltb j offset h)

  pub file_lent : offset ≤ j → file_byte lent offset j ≡ at lent (j - offset)
  unfolding file_byte
  file_lent h = rw (le-ltb j offset h)

  pub file_past : offset + length lent ≤ j → file_byte lent offset j ≡ 0
  file_past h = file_lent (omega arith) ∙ get_or-eq_default lent 0 (omega arith)

  pub file_small : Bytes lent → file_byte lent offset j < 256
  unfolding file_byte
  file_small bytes = go (ltb j offset)
    where
      go : (t : Bool) → cond t 0 (at lent (j - offset)) < 256
      go true = omega arith
      go false = bytes (j - offset)

-- a word that begins with a lent byte and is read in the lent bytes; past their end both read zeros
pub word-lent : (lent : List ℕ) (offset j n : ℕ) → offset ≤ j → word (bit_at 8 (file_byte lent offset)) (j * 8) n ≡ word (bit_at 8 (at lent)) ((j - offset) * 8) n
unfolding bit_at
word-lent lent offset j n h =
    word_ext (bit_at 8 (file_byte lent offset)) (bit_at 8 (at lent)) (j * 8) ((j - offset) * 8) n
    (λ i l.
    let place : (j * 8 + i) / 8 - offset ≡ ((j - offset) * 8 + i) / 8 = omega arith in
    let rest : (j * 8 + i) % 8 ≡ ((j - offset) * 8 + i) % 8 = omega arith in
    ap₂ (λ (x y : ℕ). x / 2 ^ (8 - 1 - y) % 2) (file_lent lent offset ((j * 8 + i) / 8) (omega arith) ∙ ap (at lent) place) rest)
