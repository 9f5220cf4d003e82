-- Each zero-filling decoder does what the rolling engine does: both are `read_at` and `read_memory` of what they are handed. And the claim leaves no call out.
use mathlib.Core.Path.{◌≡◌, refl, sym, ◌∙◌}
use mathlib.Core.Bool.{true, true≢false}
use mathlib.Core.List.{List}
use Prim.Native.Nat.{ℕ}
use lib.ListN.{length}
use Rattle.windows.specs.Window.{read_at, read_memory}
use Rattle.record.specs.Made.{CoveredCall, RollingCall, TwoBitCall, ThreeBitCall, FourBitCall, FiveBitCall}
use Rattle.record.specs.Decoders.{DecoderCall, at_offset, substring, string, covered, two_bit, three_bit, four_bit, five_bit, rolling, Handed, handed}
use Rattle.record.specs.Engines.{fills_zero, Rolled, Engines}
use Rattle.record.proofs.EveryRead.{made_rolling, made_engine}

-- ---- the claim

-- what a zero-filling decoder's contract says
abbrev Reads : Handed → Type 0
Reads h =
    (h.result ≡ read_at h.alphabet h.offset h.start h.end (length h.memory))
    × (h.afterwards ≡ read_memory h.alphabet h.lent h.offset h.start h.end h.memory)

reads : (c : DecoderCall) → fills_zero c ≡ true → Reads (handed c)
reads (at_offset c) t = c.met
reads (substring c) t = c.met
reads (string c) t = c.met
reads (covered c) t = absurd (true≢false (sym t))
reads (two_bit c) t = c.met
reads (three_bit c) t = c.met
reads (four_bit c) t = c.met
reads (five_bit c) t = c.met
reads (rolling c) t = c.met

pub engines : Engines
engines =
    record {
      answered = λ c r like. (reads c like.fills).0
          ∙ sym
          (r.met.0
          ∙ (λ i. read_at (like.by_alphabet i) (like.at_byte i) (like.at_start i) (like.at_end i) (length (like.into i))));
      left = λ c r like. (reads c like.fills).1
          ∙ sym
          (r.met.1
          ∙ (λ i. read_memory (like.by_alphabet i) (like.lends i) (like.at_byte i) (like.at_start i) (like.at_end i) (like.into i)));
    }

-- ---- every call

-- no decoder is left out but the covered read
pub others_fill : (c : DecoderCall) → ((d : CoveredCall) → c ≡ covered d → ⊥) → fills_zero c ≡ true
others_fill (at_offset c) other = refl
others_fill (substring c) other = refl
others_fill (string c) other = refl
others_fill (covered c) other = absurd (other c refl)
others_fill (two_bit c) other = refl
others_fill (three_bit c) other = refl
others_fill (four_bit c) other = refl
others_fill (five_bit c) other = refl
others_fill (rolling c) other = refl

-- beside every call of a zero-filling decoder there is one of the rolling engine
pub every_rolled : (c : DecoderCall) → fills_zero c ≡ true → (r : RollingCall) × Rolled c r
every_rolled c t =
    let h = handed c in (
      made_rolling h.alphabet h.lent h.offset h.start h.end h.memory,
      record { fills = t; by_alphabet = refl; lends = refl; at_byte = refl; at_start = refl; at_end = refl; into = refl },
    )

-- and each engine of one alphabet has a call for all bytes, numbers and memory
module _ (lent : List ℕ) (offset start end : ℕ) (memory : List ℕ) where
  abbrev Given : DecoderCall → Type 0
  Given c =
      let h = handed c in
      (h.lent ≡ lent) × ((h.offset ≡ offset) × ((h.start ≡ start) × ((h.end ≡ end) × (h.memory ≡ memory))))

  pub record EachEngine : Type 0 where
    pub by_two_bit : (c : TwoBitCall) × Given (two_bit c)
    pub by_three_bit : (c : ThreeBitCall) × Given (three_bit c)
    pub by_four_bit : (c : FourBitCall) × Given (four_bit c)
    pub by_five_bit : (c : FiveBitCall) × Given (five_bit c)

  pub each_engine : EachEngine
  each_engine =
      record {
        by_two_bit = (made_engine 0 lent offset start end memory (refl, refl), (refl, (refl, (refl, (refl, refl)))));
        by_three_bit = (made_engine 1 lent offset start end memory (refl, refl), (refl, (refl, (refl, (refl, refl)))));
        by_four_bit = (made_engine 2 lent offset start end memory (refl, refl), (refl, (refl, (refl, (refl, refl)))));
        by_five_bit = (made_engine 3 lent offset start end memory (refl, refl), (refl, (refl, (refl, (refl, refl)))));
      }
