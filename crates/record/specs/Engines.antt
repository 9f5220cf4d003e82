-- The engines beside the rolling one. States request A12, "each equals the rolling engine on every input, offsets, edges and zero filling included", of calls, and of
-- every zero-filling read besides.
use Rattle.std.specs.Prelude.{◌≡◌, Bool, true, false}
use Rattle.record.specs.Made.{RollingCall}
use Rattle.record.specs.Decoders.{DecoderCall, at_offset, substring, string, covered, two_bit, three_bit, four_bit, five_bit, rolling, handed}

-- whether a decoder takes a byte that is not lent for zero: each does but the covered read
abbrev pub fills_zero : DecoderCall → Bool
fills_zero (at_offset c) = true
fills_zero (substring c) = true
fills_zero (string c) = true
fills_zero (covered c) = false
fills_zero (two_bit c) = true
fills_zero (three_bit c) = true
fills_zero (four_bit c) = true
fills_zero (five_bit c) = true
fills_zero (rolling c) = true

-- the rolling engine, handed what a decoder is: the alphabet that it is asked for, or that it serves, the bytes, the offset, the window, and memory
pub record Rolled (c : DecoderCall) (r : RollingCall) : Type 0 where
  pub fills : fills_zero c ≡ true
  pub by_alphabet : (handed (rolling r)).alphabet ≡ (handed c).alphabet
  pub lends : (handed (rolling r)).lent ≡ (handed c).lent
  pub at_byte : (handed (rolling r)).offset ≡ (handed c).offset
  pub at_start : (handed (rolling r)).start ≡ (handed c).start
  pub at_end : (handed (rolling r)).end ≡ (handed c).end
  pub into : (handed (rolling r)).memory ≡ (handed c).memory

pub record Engines : Type 0 where
  -- the same answer, a refusal or the count
  pub answered : (c : DecoderCall) (r : RollingCall) → Rolled c r → (handed c).result ≡ (handed (rolling r)).result
  -- and the same memory afterwards, the whole of it
  pub left : (c : DecoderCall) (r : RollingCall) → Rolled c r → (handed c).afterwards ≡ (handed (rolling r)).afterwards
