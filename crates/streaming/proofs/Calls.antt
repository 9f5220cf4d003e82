-- What the stream's calls answer, by the questions that they ask.
use mathlib.Core.Path.{◌≡◌, refl, sym, ap}
use mathlib.Core.Bool.{Bool, true, false, ◌&&◌, ◌||◌}
use mathlib.Core.List.{[]}
use mathlib.Core.Logic.{◌⊎◌, inl, inr}
use Prim.Native.Nat.{ℕ, ◌^◌, ◌≤◌, ◌<◌}
use native.Mathlib.Omega.{arith}
use borrow.Author.Tests.{ltb-true, eqb-true, lt-ltb, le-ltb}
use lib.Dec.{ltb, eqb}
use Rattle.std.specs.Prelude.{Ok, Err}
use Rattle.bits.proofs.Computed.{both_true}
use Rattle.alphabet.specs.declared.kind.AlphabetType.{AlphabetType}
use Rattle.alphabet.specs.declared.refusal.Refusal.{Refusal}
use Rattle.alphabet.specs.Questions.{by}
use Rattle.alphabet.specs.Symbols.{coding}
use Rattle.alphabet.specs.Names.{named_at}
use Rattle.alphabet.proofs.Laws.{Packed, Plain, shape}
use Rattle.alphabet.proofs.Calls.{named_kind, named-refused}
use Rattle.streaming.specs.declared.decoder.StreamingDecoder.{StreamingDecoder}
use Rattle.streaming.specs.Stream.{fresh_stream, sound_stream, start_stream_at}

-- ---- question 4

pub or_true : (x y : Bool) → x || y ≡ true → (x ≡ true) ⊎ (y ≡ true)
or_true true y e = inl refl
or_true false y e = inr e

pub record Sound (s : StreamingDecoder) : Type 0 where
  pub skips : s.skip < 8
  pub few : s.bits < 8
  pub small : s.pending < 2 ^ s.bits
  -- nothing pends while the skip is due
  pub apart : (s.skip ≡ 0) ⊎ (s.bits ≡ 0)

module _ (s : StreamingDecoder) where
  pub sound_facts : sound_stream s ≡ true → Sound s
  unfolding sound_stream
  sound_facts e =
      let three = both_true (ltb s.skip 8 && ltb s.bits 8 && ltb s.pending (2 ^ s.bits)) (eqb s.skip 0 || eqb s.bits 0) e in
      let two = both_true (ltb s.skip 8 && ltb s.bits 8) (ltb s.pending (2 ^ s.bits)) three.0 in
      let one = both_true (ltb s.skip 8) (ltb s.bits 8) two.0 in
      record {
        skips = ltb-true s.skip 8 one.0;
        few = ltb-true s.bits 8 one.1;
        small = ltb-true s.pending (2 ^ s.bits) two.1;
        apart = which (or_true (eqb s.skip 0) (eqb s.bits 0) three.1);
      }
    where
      which : (eqb s.skip 0 ≡ true) ⊎ (eqb s.bits 0 ≡ true) → (s.skip ≡ 0) ⊎ (s.bits ≡ 0)
      which (inl z) = inl (eqb-true s.skip 0 z)
      which (inr z) = inr (eqb-true s.bits 0 z)

  -- the last of its four parts decides where the others hold
  pub sound_last : s.skip < 8 → s.bits < 8 → s.pending < 2 ^ s.bits → sound_stream s ≡ eqb s.skip 0 || eqb s.bits 0
  unfolding sound_stream
  sound_last a b c = rw (lt-ltb s.skip 8 a, lt-ltb s.bits 8 b, lt-ltb s.pending (2 ^ s.bits) c)

  pub unsound_skip : 8 ≤ s.skip → sound_stream s ≡ false
  unfolding sound_stream
  unsound_skip a = rw (le-ltb s.skip 8 a)

  pub unsound_bits : s.skip < 8 → 8 ≤ s.bits → sound_stream s ≡ false
  unfolding sound_stream
  unsound_bits a b = rw (lt-ltb s.skip 8 a, le-ltb s.bits 8 b)

  pub unsound_pending : s.skip < 8 → s.bits < 8 → 2 ^ s.bits ≤ s.pending → sound_stream s ≡ false
  unfolding sound_stream
  unsound_pending a b c = rw (lt-ltb s.skip 8 a, lt-ltb s.bits 8 b, le-ltb s.pending (2 ^ s.bits) c)

-- ---- `new`

module _ (alphabet skip budget : ℕ) where
  pub start_unknown : (q : Refusal) → Err q ≡ named_at alphabet → Err (by 8 []) ≡ start_stream_at alphabet skip budget
  unfolding start_stream_at
  start_unknown q e = rw (named-refused alphabet q (sym e)).0

  pub start_skip : (k : AlphabetType) → Ok k ≡ named_at alphabet → 8 ≤ skip → Err (by 6 []) ≡ start_stream_at alphabet skip budget
  unfolding start_stream_at
  start_skip k e h = rw ((named_kind alphabet k (sym e)).0, le-ltb skip 8 h)

  pub start_fresh : (k : AlphabetType) → Ok k ≡ named_at alphabet → skip < 8 → Ok (fresh_stream k skip budget) ≡ start_stream_at alphabet skip budget
  unfolding start_stream_at
  start_fresh k e h =
      let s = named_kind alphabet k (sym e) in
      rw (s.0, lt-ltb skip 8 h) (ap (λ (x : AlphabetType). Ok (fresh_stream x skip budget)) (sym s.1))

-- ---- the two shapes of alphabets

module _ (k : AlphabetType) where
  -- where a base has eight bits it is a byte as it stands
  pub plain_of_eight : (coding k).width ≡ 8 → (c : ℕ) → (coding k).symbol c ≡ c
  plain_of_eight e c = go (shape false k)
    where
      go : Packed (coding k) ⊎ Plain (coding k) → (coding k).symbol c ≡ c
      go (inl p) = absurd (omega (arith, p.five))
      go (inr p) = p.same_symbol c

  -- and else it has at most five
  pub packed_else : ((coding k).width ≡ 8 → ⊥) → (coding k).width ≤ 5
  packed_else h = go (shape false k)
    where
      go : Packed (coding k) ⊎ Plain (coding k) → (coding k).width ≤ 5
      go (inl p) = p.five
      go (inr p) = absurd (h p.eight)
