-- What the public calls answer, case by case: each refusal, and the memory.
use mathlib.Core.Path.{◌≡◌, refl, sym, ap, ap₂, ◌∙◌}
use mathlib.Core.Bool.{Bool, true, false, not, ◌&&◌}
use mathlib.Core.List.{List, [], ◌∷◌}
use Prim.Native.Nat.{ℕ, ◌+◌, ◌-◌, ◌*◌, ◌/◌, ◌%◌, ◌^◌, ◌≤◌, ◌<◌}
use native.Mathlib.Nat.{mul-le-mul, mod-lt, zero-mul}
use native.Mathlib.Omega.{arith}
use borrow.Author.Tests.{le-leb, lt-leb, leb-true, lt-ltb, le-ltb, ltb-true, eq-eqb, ne_eqb, eqb-true}
use lib.Dec.{leb, ltb, eqb, lit<}
use lib.ListN.{length, length-map, set}
use Rattle.bits.specs.Tables.{tabulate, at}
use Rattle.bits.specs.Streams.{word, cut}
use Rattle.bits.specs.Packing.{bytes_for, at_hand}
use Rattle.bits.specs.Memory.{front}
use Rattle.bits.proofs.Computed.{both_true}
use Rattle.bits.proofs.Hand.{hand_head}
use Rattle.alphabet.specs.declared.kind.AlphabetType.{AlphabetType}
use Rattle.alphabet.specs.declared.refusal.Refusal.{Refusal}
use Rattle.alphabet.specs.Questions.{ask◌else◌then◌, by, limit, in_bounds}
use Rattle.alphabet.specs.Symbols.{Coding, coding_by}
use Rattle.alphabet.specs.Names.{named_at}
use Rattle.alphabet.proofs.Laws.{lawful}
use Rattle.alphabet.proofs.Calls.{named_kind, named-refused}
use Rattle.std.proofs.Common.{Option, Some, None, Result, Ok, Err}
use Rattle.alphabet.specs.declared.refusal.Refused.{Refused}
use Rattle.alphabet.specs.Refusing.{◌keeping◌}
use Rattle.packing.specs.declared.stranger.Stranger.{Stranger}
use Rattle.packing.specs.declared.bad.Bad.{Bad}
use Rattle.packing.specs.declared.encoder.SequenceEncoder.{SequenceEncoder}
use Rattle.packing.specs.declared.encoder.Updated.{Updated}
use Rattle.packing.specs.Encode.{digit_of, digits_of, packing, first_from, bad_from_of, both_bad_of, unless_bad}
use Rattle.members.specs.Members.{bad_in}
use Rattle.packing.specs.Encode.{encode_by, encode_at, encode_writes, encode_memory, packs_by, fresh_encoder, sound_first, sound_count, sound_bad, sound_encoder, start_encoder_at}
use Rattle.packing.specs.Encode.{piece_bits, piece_bit_count, updated, update_at, update_writes, update_memory}
use Rattle.packing.specs.Encode.{finalize_rest, finalize_at, finalize_writes, finalize_memory}
use Rattle.packing.specs.Range.{range_at}
use Rattle.packing.specs.Run.{due_at, Pends, ran, left_over_of}
use Rattle.packing.proofs.Search.{none_first}
use Rattle.packing.proofs.Padded.{last_byte}

-- ---- byte ranges

-- a position within the limit times a width fits
pub product_le : (n b : ℕ) → n ≤ limit → b ≤ 8 → n * b ≤ limit * 8
product_le n b h l = mul-le-mul h l

module _ (s e b : ℕ) where
  pub range-wide : 8 < b → Err (by 9 []) ≡ range_at s e b
  unfolding range_at
  range-wide h = sym (rw (lt-leb b 8 h))

  pub range_start : b ≤ 8 → limit < s → Err (by 2 []) ≡ range_at s e b
  unfolding range_at
  range_start h l = sym (rw (le-leb b 8 h, lt-leb s limit l))

  pub range_end : b ≤ 8 → s ≤ limit → limit < e → Err (by 2 []) ≡ range_at s e b
  unfolding range_at
  range_end h l m = sym (rw (le-leb b 8 h, le-leb s limit l, lt-leb e limit m))

  pub range-fine : b ≤ 8 → s ≤ limit → e ≤ limit → Ok (record { from = s * b / 8; to = (e * b + 7) / 8 }) ≡ range_at s e b
  unfolding range_at
  range-fine h l m = sym (rw (le-leb b 8 h, le-leb s limit l, le-leb e limit m))

-- ---- `new`

module _ (n : ℕ) (fold : Bool) where
  pub start_known : (k : AlphabetType) → named_at n ≡ Ok k → Ok (fresh_encoder fold k) ≡ start_encoder_at n fold
  unfolding start_encoder_at
  start_known k e =
      let s = named_kind n k e in
      sym (rw s.0 (ap (λ (x : AlphabetType). Ok (fresh_encoder fold x)) s.1))

  pub start_refused : (q : Refusal) → named_at n ≡ Err q → Err q ≡ start_encoder_at n fold
  unfolding start_encoder_at
  start_refused q e =
      let s = named-refused n q e in
      sym (rw s.0 (ap Err (sym s.1)))

-- ---- question 4

-- what a sound state has
pub record Sound (s : SequenceEncoder) : Type 0 where
  pub bounded : s.seen ≤ limit
  pub left : s.bits ≡ s.seen * (packs_by s).width % 8
  pub small : s.pending < 2 ^ s.bits
  pub non-members : sound_bad (packs_by s) s.seen s.bad ≡ true

module _ (s : SequenceEncoder) where
  pub sound_far : limit < s.seen → false ≡ sound_encoder s
  unfolding sound_encoder
  sound_far h = sym (rw (lt-leb s.seen limit h))

  pub sound_bits : s.seen ≤ limit → (s.bits ≡ s.seen * (packs_by s).width % 8 → ⊥) → false ≡ sound_encoder s
  unfolding sound_encoder
  sound_bits h n = sym (rw (le-leb s.seen limit h, ne_eqb s.bits (s.seen * (packs_by s).width % 8) n))

  pub sound_value : s.seen ≤ limit → s.bits ≡ s.seen * (packs_by s).width % 8 → 2 ^ s.bits ≤ s.pending → false ≡ sound_encoder s
  unfolding sound_encoder
  sound_value h e l = sym (rw (le-leb s.seen limit h, eq-eqb s.bits (s.seen * (packs_by s).width % 8) e, le-ltb s.pending (2 ^ s.bits) l))

  pub sound_rest : s.seen ≤ limit → s.bits ≡ s.seen * (packs_by s).width % 8 → s.pending < 2 ^ s.bits
      → (r : Bool) → r ≡ sound_bad (packs_by s) s.seen s.bad → r ≡ sound_encoder s
  unfolding sound_encoder
  sound_rest h e l r q =
      q ∙ sym (rw (le-leb s.seen limit h, eq-eqb s.bits (s.seen * (packs_by s).width % 8) e, lt-ltb s.pending (2 ^ s.bits) l))

  pub sound : sound_encoder s ≡ true → Sound s
  unfolding sound_encoder
  sound e =
      let left : Bool = eqb s.bits (s.seen * (packs_by s).width % 8) in
      let small : Bool = ltb s.pending (2 ^ s.bits) in
      let b3 = both_true (in_bounds s.seen && left && small) (sound_bad (packs_by s) s.seen s.bad) e in
      let b2 = both_true (in_bounds s.seen && left) small b3.0 in
      let b1 = both_true (in_bounds s.seen) left b2.0 in
      record {
        bounded = leb-true s.seen limit b1.0;
        left = eqb-true s.bits (s.seen * (packs_by s).width % 8) b1.1;
        small = ltb-true s.pending (2 ^ s.bits) b2.1;
        non-members = b3.1;
      }

  -- the pending bits are fewer than a byte
  pub few_bits : Sound s → s.bits < 8
  few_bits h = rw h.left (mod-lt (s.seen * (packs_by s).width) (lit< tt))

-- in a plain alphabet none do
pub whole-bits : (s : SequenceEncoder) → sound_encoder s ≡ true → 8 ≤ (packs_by s).width → s.bits ≡ 0
whole-bits s e h =
    let eight : (packs_by s).width ≡ 8 = omega (arith, (lawful s.fold s.alphabet).narrow) in
    let none : s.seen * 8 % 8 ≡ 0 = omega arith in
    (sound s e).left ∙ ap (λ (b : ℕ). s.seen * b % 8) eight ∙ none

-- ---- questions

-- an answer that a "no" would not give: the answer was yes
asked-yes : {A : Type 0} {no rest r : A} (b : Bool) → (no ≡ r → ⊥) → (ask b else no then rest) ≡ r → (b ≡ true) × (rest ≡ r)
asked-yes true n e = (refl, e)
asked-yes false n e = absurd (n e)

-- ---- `update`

-- questions 5 and 9 of a piece of so many symbols
module _ (s : SequenceEncoder) (bounded : s.seen ≤ limit) (len room : ℕ) where
  pub due_far : limit - s.seen < len → Err (by 2 []) ≡ due_at s len room
  unfolding due_at
  due_far l = sym (rw (lt-leb (s.seen + len) limit (omega arith)))

  near : len ≤ limit - s.seen → in_bounds (s.seen + len) ≡ true
  near l = le-leb (s.seen + len) limit (omega arith)

  pub due_short : len ≤ limit - s.seen → room < (s.bits + len * (packs_by s).width) / 8 → Err (by 4 []) ≡ due_at s len room
  unfolding due_at piece_bit_count
  due_short l m = sym (rw (near l, lt-leb ((s.bits + len * (packs_by s).width) / 8) room m))

  pub due_fine : len ≤ limit - s.seen → (s.bits + len * (packs_by s).width) / 8 ≤ room → Ok ((s.bits + len * (packs_by s).width) / 8) ≡ due_at s len room
  unfolding due_at piece_bit_count
  due_fine l m = sym (rw (near l, le-leb ((s.bits + len * (packs_by s).width) / 8) room m))

module _ (s : SequenceEncoder) (piece : List ℕ) where
  abbrev total : ℕ
  total = s.bits + length piece * (packs_by s).width

  module _ (room : ℕ) where
    pub update_unsound : sound_encoder s ≡ false → Err (by 1 [] keeping s) ≡ update_at s piece room
    unfolding update_at
    update_unsound e = sym (rw e)

    -- the other questions, in two steps
    abbrev by_due : Result ℕ Refusal → Result Updated (Refused SequenceEncoder)
    by_due (Ok count) = Ok (record { count = count; next = updated s piece })
    by_due (Err q) = Err (q keeping s)

    pub update_due : sound_encoder s ≡ true → (d : Result ℕ Refusal) → d ≡ due_at s (length piece) room → by_due d ≡ update_at s piece room
    unfolding update_at due_at
    update_due e d h = ap by_due h ∙ go (in_bounds (s.seen + length piece)) (leb (piece_bit_count s (length piece) / 8) room) ∙ sym (rw e)
      where
        go : (b c : Bool)
            → by_due (ask b else Err (by 2 []) then ask c else Err (by 4 []) then Ok (piece_bit_count s (length piece) / 8))
            ≡ (ask b else Err (by 2 [] keeping s) then ask c else Err (by 4 [] keeping s) then Ok (record { count = piece_bit_count s (length piece) / 8; next = updated s piece }))
        go false c = refl
        go true false = refl
        go true true = refl

    pub update-refused : sound_encoder s ≡ true → (d : Result ℕ Refusal) → d ≡ due_at s (length piece) room → (q : Refusal) → d ≡ Err q → Err (q keeping s) ≡ update_at s piece room
    update-refused e d h q f = ap by_due (sym f) ∙ update_due e d h

    pub update-fine : sound_encoder s ≡ true → (d : Result ℕ Refusal) → d ≡ due_at s (length piece) room → (count : ℕ) → d ≡ Ok count
        → Ok (record { count = count; next = updated s piece }) ≡ update_at s piece room
    update-fine e d h count f = ap by_due (sym f) ∙ update_due e d h

    -- an accepted piece: what was asked, and the count
    pub record Accepted (count : ℕ) : Type 0 where
      pub is_sound : sound_encoder s ≡ true
      pub bounded : s.seen + length piece ≤ limit
      pub fits : (s.bits + length piece * (packs_by s).width) / 8 ≤ room
      pub counted : count ≡ (s.bits + length piece * (packs_by s).width) / 8

    pub update-accepted : (count : ℕ) (next : SequenceEncoder) → update_at s piece room ≡ Ok (record { count = count; next = next }) → Accepted count
    unfolding update_at piece_bit_count
    update-accepted count next e =
        let no : (q : Refusal) → ◌≡◌ {A = Result Updated (Refused SequenceEncoder)} (Err (q keeping s)) (Ok (record { count = count; next = next })) → ⊥ = λ q z. let o : ◌≡◌ {A = ℕ} 0 1 = cc in omega arith in
        let y₁ = asked-yes (sound_encoder s) (no (by 1 [])) e in
        let y₂ = asked-yes (in_bounds (s.seen + length piece)) (no (by 2 [])) y₁.1 in
        let y₃ = asked-yes (leb (total / 8) room) (no (by 4 [])) y₂.1 in
        let wrote = y₃.1 in
        record {
          is_sound = y₁.0;
          bounded = leb-true (s.seen + length piece) limit y₂.0;
          fits = leb-true (total / 8) room y₃.0;
          counted = ap count_of (sym wrote);
        }
      where
        count_of : Result Updated (Refused SequenceEncoder) → ℕ
        count_of (Ok u) = u.count
        count_of (Err e) = 0

  -- what is asked of an accepted piece, by the count that is due
  pub met : (room : ℕ) → sound_encoder s ≡ true → (d : Result ℕ Refusal) → d ≡ due_at s (length piece) room → (count : ℕ) → d ≡ Ok count → Accepted room count
  met room sure d due count is = update-accepted room count (updated s piece) (sym (update-fine room sure d due count is))

  -- p bits pend in a sound state
  pub pends : sound_encoder s ≡ true → s.seen + length piece ≤ limit → Pends (packs_by s).width s.bits s.pending (length piece)
  pends e l =
      let h = sound s e in
      record {
        some = (lawful s.fold s.alphabet).some_bits;
        narrow = (lawful s.fold s.alphabet).narrow;
        few = few_bits s h;
        small = h.small;
        bounded = omega arith;
      }

  -- the next state, field by field
  pub next_state : (bits pending : ℕ) (bad : Bad) → bits ≡ (s.bits + length piece * (packs_by s).width) % 8
      → pending ≡ left_over_of (packs_by s).width s.bits s.pending (digits_of (packs_by s) piece)
      → bad ≡ both_bad_of s.bad (bad_from_of (packs_by s) s.seen piece)
      → record { alphabet = s.alphabet; seen = s.seen + length piece; bits = bits; pending = pending; bad = bad; fold = s.fold } ≡ updated s piece
  unfolding updated piece_bits piece_bit_count
  next_state bits pending bad e f g =
      let A : Coding = packs_by s in
      let hand : ℕ → ℕ = piece_bits s piece in
      let same : length (digits_of A piece) ≡ length piece = length-map piece (digit_of A) in
      let value : pending ≡ word hand (total / 8 * 8) (total % 8) =
      f ∙ ap (λ (n : ℕ). word hand ((s.bits + n * A.width) / 8 * 8) ((s.bits + n * A.width) % 8)) same in
      rw (e, value, g)

  module _ (memory : List ℕ) where
    pub update_kept : (e : Refused SequenceEncoder) → update_at s piece (length memory) ≡ Err e → memory ≡ update_memory s piece memory
    unfolding update_memory update_writes
    update_kept refused e = sym (ap (λ (r : Result Updated (Refused SequenceEncoder)). front (update_writes s piece r) memory) e)

    pub update-wrote : (count : ℕ) (next : SequenceEncoder) → update_at s piece (length memory) ≡ Ok (record { count = count; next = next }) → (out : List ℕ)
        → out ≡ ran (packs_by s).width s.bits s.pending (digits_of (packs_by s) piece) memory → out ≡ update_memory s piece memory
    unfolding update_memory update_writes piece_bits
    update-wrote count next e out w =
        let A : Coding = packs_by s in
        let same : (s.bits + length (digits_of A piece) * A.width) / 8 ≡ count =
        ap (λ (n : ℕ). (s.bits + n * A.width) / 8) (length-map piece (digit_of A)) ∙ sym (update-accepted (length memory) count next e).counted in
        w
        ∙ ap (λ (n : ℕ). front (cut 8 (piece_bits s piece) 0 n) memory) same
        ∙ sym (ap (λ (r : Result Updated (Refused SequenceEncoder)). front (update_writes s piece r) memory) e)

-- ---- `finalize`

module _ (s : SequenceEncoder) where
  module _ (room : ℕ) where
    pub finalize_unsound : sound_encoder s ≡ false → Err (by 1 [] keeping s) ≡ finalize_at s room
    unfolding finalize_at
    finalize_unsound e = sym (rw e)

    -- past the first question
    after_sound : sound_encoder s ≡ true → (f : Option Stranger) → s.bad.first ≡ f
        → finalize_at s room ≡ unless_bad f (λ position byte. Err (by 5 (position ∷ byte ∷ s.bad.count ∷ []) keeping s)) (finalize_rest s room)
    unfolding finalize_at
    after_sound e f q =
        rw e (ap (λ (x : Option Stranger). unless_bad x (λ position byte. Err (by 5 (position ∷ byte ∷ s.bad.count ∷ []) keeping s)) (finalize_rest s room)) q)

    pub finalize_bad : sound_encoder s ≡ true → (first : Stranger) → s.bad.first ≡ Some first
        → Err (by 5 (first.position ∷ first.byte ∷ s.bad.count ∷ []) keeping s) ≡ finalize_at s room
    finalize_bad e first q = sym (after_sound e (Some first) q)

    pub finalize_short : sound_encoder s ≡ true → s.bad.first ≡ None → room < bytes_for s.bits → Err (by 4 [] keeping s) ≡ finalize_at s room
    finalize_short e q l = sym (after_sound e None q ∙ rw (lt-leb (bytes_for s.bits) room l))

    pub finalize-fine : sound_encoder s ≡ true → s.bad.first ≡ None → bytes_for s.bits ≤ room → Ok (bytes_for s.bits) ≡ finalize_at s room
    finalize-fine e q l = sym (after_sound e None q ∙ rw (le-leb (bytes_for s.bits) room l))

    -- an accepted call: what was asked, and the count
    pub record Ended (count : ℕ) : Type 0 where
      pub is_sound : sound_encoder s ≡ true
      pub fits : bytes_for s.bits ≤ room
      pub counted : count ≡ bytes_for s.bits

    pub finalize-accepted : (count : ℕ) → finalize_at s room ≡ Ok count → Ended count
    unfolding finalize_at
    finalize-accepted count e =
        let y₁ = asked-yes (sound_encoder s) (no (by 1 [])) e in
        let y₂ = asked-yes (leb (bytes_for s.bits) room) (no (by 4 [])) (member s.bad.first y₁.1) in
        let wrote = y₂.1 in
        record { is_sound = y₁.0; fits = leb-true (bytes_for s.bits) room y₂.0; counted = cc }
      where
        no : (q : Refusal) → Err (q keeping s) ≡ Ok count → ⊥
        no q z = let o : ◌≡◌ {A = ℕ} 0 1 = cc in omega arith

        member : (f : Option Stranger) →
            unless_bad f (λ position byte. Err (by 5 (position ∷ byte ∷ s.bad.count ∷ []) keeping s)) (finalize_rest s room) ≡ Ok count
            → finalize_rest s room ≡ Ok count
        member None h = h
        member (Some first) h = absurd (no (by 5 (first.position ∷ first.byte ∷ s.bad.count ∷ [])) h)

  module _ (memory : List ℕ) where
    pub finalize_kept : (e : Refused SequenceEncoder) → finalize_at s (length memory) ≡ Err e → memory ≡ finalize_memory s memory
    unfolding finalize_memory finalize_writes
    finalize_kept refused e = sym (ap (λ (r : Result ℕ (Refused SequenceEncoder)). front (finalize_writes s r) memory) e)

    module _ (count : ℕ) (answer : finalize_at s (length memory) ≡ Ok count) where
      accepted : Ended (length memory) count
      accepted = finalize-accepted (length memory) count answer

      -- nothing pends
      pub finalize_none : count ≡ 0 → memory ≡ finalize_memory s memory
      unfolding finalize_memory finalize_writes cut tabulate
      finalize_none z = sym (ap (λ (r : Result ℕ (Refused SequenceEncoder)). front (finalize_writes s r) memory) (answer ∙ ap Ok z))

      -- a byte is due
      pub finalize_last : (count ≡ 0 → ⊥) → (0 < length memory) × ((s.bits < 8) × (s.pending < 2 ^ s.bits))
      finalize_last z =
          let h = sound s accepted.is_sound in
          (omega (arith, accepted.counted, accepted.fits), (few_bits s h, h.small))

      pub finalize-wrote : (count ≡ 0 → ⊥) → (v : ℕ) → v ≡ s.pending * 2 ^ (8 - s.bits) → set memory 0 v ≡ finalize_memory s memory
      unfolding finalize_memory finalize_writes piece_bits cut tabulate
      finalize-wrote z v e =
          let A : Coding = packs_by s in
          let h = sound s accepted.is_sound in
          let few : s.bits < 8 = few_bits s h in
          let hand : ℕ → ℕ = at_hand s.bits s.pending A.width [] in
          let n : s.bits + 0 * A.width ≡ s.bits = omega (arith, zero-mul A.width) in
          let w : (s.bits + 0 * A.width) / 8 ≡ 0 = omega (arith, n, few) in
          let q : (s.bits + 0 * A.width) % 8 ≡ s.bits = omega (arith, n, few) in
          let left : s.pending ≡ left_over_of A.width s.bits s.pending [] =
          sym (hand_head s.bits s.pending A.width [] h.small) ∙ ap₂ (λ (x y : ℕ). word hand (x * 8) y) (sym w) (sym q) in
          let byte : v ≡ left_over_of A.width s.bits s.pending [] * 2 ^ (8 - (s.bits + 0 * A.width) % 8) =
          e ∙ ap₂ (λ (x y : ℕ). x * 2 ^ (8 - y)) left (sym q) in
          let none : memory ≡ ran A.width s.bits s.pending [] memory = sym (ap (λ (x : ℕ). front (cut 8 hand 0 x) memory) w) in
          let last = last_byte A.width s.bits s.pending (lawful s.fold s.alphabet).some_bits [] memory memory v
          (omega (arith, q, accepted.counted)) byte (omega (arith, w, (finalize_last z).0)) none in
          let all : bytes_for (s.bits + 0 * A.width) ≡ count = ap bytes_for n ∙ sym accepted.counted in
          ap (λ (x : ℕ). set memory x v) (sym w)
          ∙ last
          ∙ ap (λ (x : ℕ). front (cut 8 hand 0 x) memory) all
          ∙ sym (ap (λ (r : Result ℕ (Refused SequenceEncoder)). front (finalize_writes s r) memory) answer)

-- ---- `encode_sequence`

-- the questions of a text by its coding
module _ (A : Coding) (text : List ℕ) (room : ℕ) where
  abbrev due : ℕ
  due = bytes_for (length text * A.width)

  pub encode_long : limit < length text → Err (by 2 []) ≡ encode_by A text room
  encode_long h = sym (rw (lt-leb (length text) limit h))

  pub encode_short : length text ≤ limit → room < bytes_for (length text * A.width) → Err (by 4 []) ≡ encode_by A text room
  encode_short h l = sym (rw (le-leb (length text) limit h, lt-leb due room l))

  pub encode_first : length text ≤ limit → bytes_for (length text * A.width) ≤ room → (f : Option Stranger) → first_from A 0 text ≡ f
      → unless_bad f (λ position byte. Err (by 5 (position ∷ byte ∷ bad_in A text ∷ []))) (Ok (bytes_for (length text * A.width)))
      ≡ encode_by A text room
  encode_first h l f e = sym (rw (le-leb (length text) limit h, le-leb due room l, e))

  -- an accepted text: what was asked
  pub encode-accepted : (count : ℕ) → encode_by A text room ≡ Ok count
      → (length text ≤ limit) × ((bytes_for (length text * A.width) ≤ room) × ((j : ℕ) → j < length text → A.member (at text j) ≡ true))
  encode-accepted count e =
      let no : (q : Refusal) → Err q ≡ Ok count → ⊥ = λ q z. let o : ◌≡◌ {A = ℕ} 0 1 = cc in omega arith in
      let y₁ = asked-yes (in_bounds (length text)) (no (by 2 [])) e in
      let y₂ = asked-yes (leb due room) (no (by 4 [])) y₁.1 in
      (leb-true (length text) limit y₁.0, (leb-true due room y₂.0, none_first A 0 text (none (first_from A 0 text) y₂.1)))
    where
      none : (f : Option Stranger)
          → unless_bad f (λ position byte. Err (by 5 (position ∷ byte ∷ bad_in A text ∷ []))) (Ok (bytes_for (length text * A.width))) ≡ Ok count
          → f ≡ None
      none None h = refl
      none (Some first) h = absurd (let o : ◌≡◌ {A = ℕ} 0 1 = cc in omega arith)

-- and of its alphabet's number
module _ (n : ℕ) (fold : Bool) (text memory : List ℕ) where
  pub encode_unknown : (q : Refusal) → named_at n ≡ Err q
      → (Err q ≡ encode_at n fold text (length memory)) × (memory ≡ encode_memory n fold text memory)
  unfolding encode_at encode_writes encode_memory
  encode_unknown q e = let k = named-refused n q e in (ap Err k.1 ∙ sym (rw k.0), sym (rw k.0))

  module _ (k : AlphabetType) (named : named_at n ≡ Ok k) where
    pub encode_known : encode_at n fold text (length memory) ≡ encode_by (coding_by fold k) text (length memory)
    unfolding encode_at
    encode_known = let s = named_kind n k named in rw s.0 (ap (λ (x : AlphabetType). encode_by (coding_by fold x) text (length memory)) s.1)

    -- what an answer leaves in memory
    after_answer : (r : Result ℕ Refusal) → encode_by (coding_by fold k) text (length memory) ≡ r → encode_memory n fold text memory ≡ front (encode_writes n fold text r) memory
    unfolding encode_memory
    after_answer r e = ap (λ (x : Result ℕ Refusal). front (encode_writes n fold text x) memory) (encode_known ∙ e)

    pub encode_kept : (q : Refusal) → encode_by (coding_by fold k) text (length memory) ≡ Err q → memory ≡ encode_memory n fold text memory
    unfolding encode_writes
    encode_kept q e = sym (after_answer (Err q) e)

    pub encode-wrote : (count : ℕ) → encode_by (coding_by fold k) text (length memory) ≡ Ok count
        → front (packing (coding_by fold k) text) memory ≡ encode_memory n fold text memory
    unfolding encode_writes
    encode-wrote count e =
        ap (λ (x : AlphabetType). front (packing (coding_by fold x) text) memory) (sym (named_kind n k named).1) ∙ sym (after_answer (Ok count) e)

-- ---- question 4 of the non-members: none, or a first one

module _ (A : Coding) (seen : ℕ) (bad : Bad) where
  pub sound_none : bad.first ≡ None → eqb bad.count 0 ≡ sound_bad A seen bad
  sound_none e = sym (ap (λ (f : Option Stranger). sound_first A seen f && sound_count seen f bad.count) e)

  pub sound_at_member : (first : Stranger) → bad.first ≡ Some first → A.member first.byte ≡ true → false ≡ sound_bad A seen bad
  sound_at_member first e m = sym (ap (λ (f : Option Stranger). sound_first A seen f && sound_count seen f bad.count) e ∙ rw m)

  pub sound_at_stranger : (first : Stranger) → bad.first ≡ Some first → A.member first.byte ≡ false
      → (ltb first.position seen && (ltb 0 bad.count && leb bad.count (seen - first.position))) ≡ sound_bad A seen bad
  sound_at_stranger first e m = sym (ap (λ (f : Option Stranger). sound_first A seen f && sound_count seen f bad.count) e ∙ rw m)

  -- its cases: the first one was not seen yet; it was, and the count alone decides: with none, with some
  module _ (first : Stranger) (known : bad.first ≡ Some first) (m : A.member first.byte ≡ false) where
    pub sound_at_unseen : seen ≤ first.position → false ≡ sound_bad A seen bad
    sound_at_unseen h = sym (rw (le-ltb first.position seen h)) ∙ sound_at_stranger first known m

    pub sound_at_count : first.position < seen → ltb 0 bad.count && leb bad.count (seen - first.position) ≡ sound_bad A seen bad
    sound_at_count h = sym (rw (lt-ltb first.position seen h)) ∙ sound_at_stranger first known m

    pub sound_at_zero : first.position < seen → bad.count ≡ 0 → false ≡ sound_bad A seen bad
    sound_at_zero h z = sym (rw (le-ltb 0 bad.count (omega arith))) ∙ sound_at_count h

    pub sound_at_some : first.position < seen → (bad.count ≡ 0 → ⊥) → leb bad.count (seen - first.position) ≡ sound_bad A seen bad
    sound_at_some h z = sym (rw (lt-ltb 0 bad.count (omega arith))) ∙ sound_at_count h

  -- no more of them than symbols
  pub few_bad : sound_bad A seen bad ≡ true → bad.count ≤ seen
  few_bad = go bad.first
    where
      go : (f : Option Stranger) → sound_first A seen f && sound_count seen f bad.count ≡ true → bad.count ≤ seen
      go None e = let z = eqb-true bad.count 0 e in omega arith
      go (Some first) e =
          let b = both_true (not (A.member first.byte) && ltb first.position seen) (ltb 0 bad.count && leb bad.count (seen - first.position)) e in
          omega (arith, leb-true bad.count (seen - first.position) (both_true (ltb 0 bad.count) (leb bad.count (seen - first.position)) b.1).1)
