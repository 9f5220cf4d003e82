-- What the answer to a piece tells of output memory: of memory of other lengths, and of the bytes behind those that are written. Request A10 has it told before
-- memory is lent.
use mathlib.Core.Path.{◌≡◌, refl, sym, ap, ap₂, ◌∙◌}
use mathlib.Core.Bool.{Bool, true, false}
use mathlib.Core.List.{List, []}
use Prim.Native.Nat.{ℕ, ◌+◌, ◌*◌, ◌/◌, ◌≤◌, ◌<◌}
use native.Mathlib.Omega.{arith}
use borrow.Author.Tests.{leb-true, le-leb}
use lib.Dec.{leb}
use lib.ListN.{length, drop}
use lib.Seq.{drop_at}
use Rattle.bits.specs.Streams.{cut}
use Rattle.bits.specs.Memory.{front}
use Rattle.bits.proofs.Appended.{length_cut}
use Rattle.alphabet.specs.Questions.{ask◌else◌then◌, by, limit, in_bounds, number_in}
use Rattle.alphabet.proofs.Laws.{lawful}
use Rattle.packing.specs.declared.encoder.SequenceEncoder.{SequenceEncoder}
use Rattle.std.proofs.Common.{Result, Ok, Err}
use Rattle.alphabet.specs.declared.refusal.Refused.{Refused}
use Rattle.alphabet.specs.Refusing.{◌keeping◌}
use Rattle.packing.specs.declared.encoder.Updated.{Updated}
use Rattle.packing.specs.Encode.{packs_by, sound_encoder, piece_bits, piece_bit_count, updated, update_at, update_writes, update_memory}
use Rattle.packing.specs.Answers.{updated_reply}
use Rattle.packing.proofs.Ends.{product_le, sound, few_bits, update-accepted}

module _ (s : SequenceEncoder) (piece : List ℕ) where
  abbrev due : ℕ
  due = (s.bits + length piece * (packs_by s).width) / 8

  -- past the questions of state and symbols the length alone decides
  by_length : sound_encoder s ≡ true → in_bounds (s.seen + length piece) ≡ true → (room : ℕ)
      → update_at s piece room ≡ (ask leb due room else Err (by 4 [] keeping s) then Ok (record { count = due; next = updated s piece }))
  unfolding update_at piece_bit_count
  by_length e near room = rw (e, near)

  -- a piece accepted with one length is accepted with every length that has its count, and with none that is shorter
  pub accepted_at : (room count : ℕ) (next : SequenceEncoder) → update_at s piece room ≡ Ok (record { count = count; next = next }) → (other : ℕ)
      → update_at s piece other ≡ (ask leb count other else Err (by 4 [] keeping s) then Ok (record { count = count; next = next }))
  accepted_at room count next e other =
      let h = update-accepted s piece room count next e in
      let near : in_bounds (s.seen + length piece) ≡ true = le-leb (s.seen + length piece) limit h.bounded in
      let same : ◌≡◌ {A = Result Updated (Refused SequenceEncoder)} (Ok (record { count = due; next = updated s piece })) (Ok (record { count = count; next = next })) = sym (by_length h.is_sound near room ∙ rw (le-leb due room h.fits)) ∙ e in
      by_length h.is_sound near other
      ∙ ap₂ (λ (n : ℕ) (wrote : Result Updated (Refused SequenceEncoder)). ask leb n other else Err (by 4 [] keeping s) then wrote) (sym h.counted) same

  -- no piece completes more than 2^60 bytes
  due_few : sound_encoder s ≡ true → s.seen + length piece ≤ limit → due ≤ limit
  due_few e l =
      let bits : s.bits < 8 = few_bits s (sound s e) in
      omega (arith, bits, product_le (length piece) (packs_by s).width (omega arith) (lawful s.fold s.alphabet).narrow)

  pub never_short : (room : ℕ) → limit ≤ room → number_in (updated_reply (update_at s piece room)) ≡ 4 → ⊥
  unfolding update_at piece_bit_count
  never_short room l = go (sound_encoder s) refl (in_bounds (s.seen + length piece)) refl
    where
      go : (b : Bool) → sound_encoder s ≡ b → (c : Bool) → in_bounds (s.seen + length piece) ≡ c
          → number_in (updated_reply
          (ask b else Err (by 1 [] keeping s) then
          ask c else Err (by 2 [] keeping s) then
          ask leb due room else Err (by 4 [] keeping s) then
          Ok (record { count = due; next = updated s piece }))) ≡ 4 → ⊥
      go false e c f n = omega (arith, n)
      go true e false f n = omega (arith, n)
      go true e true f n =
          let fits = le-leb due room (omega (arith, due_few e (leb-true (s.seen + length piece) limit f), l)) in
          let told : Bool → ℕ = λ b. number_in (updated_reply (ask b else Err (by 4 [] keeping s) then Ok (record { count = due; next = updated s piece }))) in
          let none : ◌≡◌ {A = ℕ} 0 4 = sym (ap told fits) ∙ n in
          omega (arith, none)

  -- the bytes behind those that are counted hold what they held
  pub kept_behind : (memory : List ℕ) (count : ℕ) (next : SequenceEncoder) → update_at s piece (length memory) ≡ Ok (record { count = count; next = next })
      → drop count (update_memory s piece memory) ≡ drop count memory
  unfolding update_memory update_writes
  kept_behind memory count next e =
      let bytes : List ℕ = cut 8 (piece_bits s piece) 0 count in
      let long : length bytes ≡ count = length_cut 8 (piece_bits s piece) 0 count in
      ap (λ (r : Result Updated (Refused SequenceEncoder)). drop count (front (update_writes s piece r) memory)) e
      ∙ drop_at bytes (drop (length bytes) memory) count long
      ∙ ap (λ (n : ℕ). drop n memory) long
