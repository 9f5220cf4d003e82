-- The bits at hand before the first base.
use mathlib.Core.Path.{◌≡◌, sym, ap, ◌∙◌}
use mathlib.Core.Bool.{Bool, true, ◌||◌}
use mathlib.Core.List.{List}
use mathlib.Core.Logic.{◌⊎◌, inl, inr}
use Prim.Native.Nat.{ℕ, ◌+◌, ◌-◌, ◌%◌, ◌^◌, ◌<◌}
use native.Mathlib.Nat.{mod-eq_of_lt}
use native.Mathlib.Omega.{arith}
use borrow.Author.Tests.{ltb-true, ne_eqb}
use lib.Dec.{ltb, eqb}
use lib.ListN.{length}
use Rattle.bits.specs.Tables.{at}
use Rattle.bits.specs.Streams.{bit_at, word}
use Rattle.bits.proofs.Words.{word_low, word-whole, bit_lt}
use Rattle.streaming.specs.declared.decoder.StreamingDecoder.{StreamingDecoder}
use Rattle.streaming.specs.Stream.{sound_stream, source_bits, used}
use Rattle.streaming.specs.Flow.{Level}
use Rattle.streaming.proofs.Hand.{hand_head, hand_past}
use Rattle.streaming.proofs.Levels.{used_none}
use Rattle.streaming.proofs.Calls.{sound_facts}

module _ (s : StreamingDecoder) (source : List ℕ) (sound : sound_stream s ≡ true) where
  -- without a skip, those that pend
  pub open_pending : s.skip ≡ 0 → Level s source s.pending s.bits 0 0
  unfolding source_bits
  open_pending e =
      record {
        place = omega (arith, used_none s);
        within = omega arith;
        held = sym (ap (λ (x : ℕ). word (source_bits s source) x s.bits) (used_none s ∙ e) ∙ hand_head s.bits s.pending 8 source (sound_facts s sound).small);
      }

  -- with the skip due there is a byte
  pub due_source : (s.skip ≡ 0 → ⊥) → eqb s.skip 0 || ltb 0 (length source) ≡ true → 0 < length source
  due_source due e = ltb-true 0 (length source) (sym (ap (λ (x : Bool). x || ltb 0 (length source)) (ne_eqb s.skip 0 due)) ∙ e)

  -- and nothing pends
  none_pends : (s.skip ≡ 0 → ⊥) → s.bits ≡ 0
  none_pends due = go (sound_facts s sound).apart
    where
      go : (s.skip ≡ 0) ⊎ (s.bits ≡ 0) → s.bits ≡ 0
      go (inl z) = absurd (due z)
      go (inr z) = z

  -- so the first byte's low bits are at hand
  pub open_skip : (s.skip ≡ 0 → ⊥) → 0 < length source → at source 0 < 256 → {acc : ℕ} → acc ≡ at source 0 % 2 ^ (8 - s.skip) → Level s source acc (8 - s.skip) 1 0
  unfolding source_bits
  open_skip due some byte {acc} e =
      let few = (sound_facts s sound).skips in
      let none = none_pends due in
      let eight : 8 ≡ s.skip + (8 - s.skip) = omega arith in
      let bytes : ℕ → ℕ = bit_at 8 (at source) in
      let whole : word bytes 0 8 ≡ at source 0 = word-whole 8 (at source) 0 ∙ mod-eq_of_lt byte in
      let first : s.bits + s.skip ≡ used s 0 = omega (arith, used_none s) in
      record {
        place = omega (arith, used_none s);
        within = some;
        held =
            e
            ∙ ap (λ (x : ℕ). x % 2 ^ (8 - s.skip)) (sym whole ∙ ap (word bytes 0) eight)
            ∙ word_low bytes (bit_lt 8 (at source)) 0 s.skip (8 - s.skip)
            ∙ ap (λ (x : ℕ). word bytes x (8 - s.skip)) (omega arith)
            ∙ sym (hand_past s.bits s.pending 8 source s.skip (8 - s.skip))
            ∙ ap (λ (x : ℕ). word (source_bits s source) x (8 - s.skip)) first;
      }
