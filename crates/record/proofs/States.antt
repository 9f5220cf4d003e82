-- The state that a text stands for: what an encoder holds once the text's pieces were accepted, however they were cut.
use Rattle.std.proofs.Common.{Option, Some}
use mathlib.Core.Path.{◌≡◌, refl, sym, ap, ap₂, ◌∙◌}
use mathlib.Core.Bool.{Bool, true, false, cond, not, ◌&&◌}
use mathlib.Core.List.{List, [], ◌∷◌, ◌++◌, map-append}
use Prim.Native.Nat.{ℕ, suc, ◌+◌, ◌-◌, ◌*◌, ◌/◌, ◌%◌, ◌≤◌}
use native.Mathlib.Nat.{add-zero, zero-add, zero-mul, add-mul}
use native.Mathlib.Omega.{arith}
use borrow.Author.Tests.{le-leb, lt-ltb}
use lib.Dec.{ltb}
use lib.ListN.{length, length-append, length-map}
use Rattle.bits.specs.Tables.{at}
use Rattle.bits.specs.Counts.{how_many}
use Rattle.bits.specs.Streams.{bit_at, word}
use Rattle.bits.proofs.Words.{word_lt, word_ext, bit_lt}
use Rattle.bits.proofs.Appended.{hand-append}
use Rattle.bits.proofs.Counted.{many_append, many_le}
use Rattle.alphabet.specs.declared.kind.AlphabetType.{AlphabetType}
use Rattle.alphabet.specs.Questions.{limit}
use Rattle.alphabet.specs.Symbols.{Coding, coding_by}
use Rattle.alphabet.proofs.Laws.{lawful}
use Rattle.packing.specs.declared.encoder.SequenceEncoder.{SequenceEncoder}
use Rattle.members.specs.Members.{bad_in}
use Rattle.packing.specs.Encode.{digit_of, digits_of, first_from, bad_from_of, or_first_of, both_bad_of, sound_first, sound_count, sound_bad, sound_encoder}
use Rattle.packing.specs.Encode.{fresh_encoder, piece_bits, piece_bit_count, updated}
use Rattle.packing.proofs.Ends.{sound_rest}
use Rattle.packing.specs.declared.stranger.Stranger.{Stranger}

-- the bits of a text's digits, one after another
abbrev pub text_bits : Coding → List ℕ → ℕ → ℕ
text_bits A text = bit_at A.width (at (digits_of A text))

-- ---- the first non-member, and how many

module _ (A : Coding) where
  pub first_append : (i : ℕ) (t u : List ℕ) → first_from A i (t ++ u) ≡ or_first_of (first_from A i t) (first_from A (i + length t) u)
  unfolding first_from
  first_append i [] u = ap (λ (j : ℕ). first_from A j u) (sym (add-zero i))
  first_append i (x ∷ t) u =
      let next : suc i + length t ≡ i + suc (length t) = omega arith in
      go (A.member x) (first_append (suc i) t u ∙ ap (λ (j : ℕ). or_first_of (first_from A (suc i) t) (first_from A j u)) next)
    where
      go : (m : Bool) → first_from A (suc i) (t ++ u) ≡ or_first_of (first_from A (suc i) t) (first_from A (i + suc (length t)) u)
          → cond m (first_from A (suc i) (t ++ u)) (Some (record { position = i; byte = x })) ≡ or_first_of (cond m (first_from A (suc i) t) (Some (record { position = i; byte = x }))) (first_from A (i + suc (length t)) u)
      go true ih = ih
      go false ih = refl

  pub first_sound : (i n : ℕ) (t : List ℕ) → i + length t ≤ n → sound_first A n (first_from A i t) ≡ true
  unfolding first_from
  first_sound i n [] h = refl
  first_sound i n (x ∷ t) h = go (A.member x) refl (first_sound (suc i) n t (omega arith))
    where
      go : (m : Bool) → A.member x ≡ m → sound_first A n (first_from A (suc i) t) ≡ true → sound_first A n (cond m (first_from A (suc i) t) (Some (record { position = i; byte = x }))) ≡ true
      go true e ih = ih
      go false e ih = ap (λ (c : Bool). not c && ltb i n) e ∙ lt-ltb i n (omega arith)

  -- the non-members of joined texts: the counts add
  pub bad_append : (i : ℕ) (t u : List ℕ) → bad_from_of A i (t ++ u) ≡ both_bad_of (bad_from_of A i t) (bad_from_of A (i + length t) u)
  bad_append i t u = ap₂ (λ (f : Option Stranger) (n : ℕ). record { first = f; count = n }) (first_append i t u) (many_append (λ v. not (A.member v)) t u)

  -- as many as there are from the first one on, and none where there is none
  count_sound : (i n : ℕ) (t : List ℕ) → i + length t ≤ n → sound_count n (first_from A i t) (bad_in A t) ≡ true
  unfolding first_from how_many
  count_sound i n [] h = refl
  count_sound i n (x ∷ t) h = go (A.member x) (count_sound (suc i) n t (omega arith)) (many_le (λ v. not (A.member v)) t)
    where
      go : (m : Bool) → sound_count n (first_from A (suc i) t) (bad_in A t) ≡ true → bad_in A t ≤ length t
          → sound_count n (cond m (first_from A (suc i) t) (Some (record { position = i; byte = x }))) (cond (not m) 1 0 + bad_in A t) ≡ true
      go true ih few = ap (sound_count n (first_from A (suc i) t)) (zero-add (bad_in A t)) ∙ ih
      go false ih few = rw (lt-ltb 0 (1 + bad_in A t) (omega arith)) (le-leb (1 + bad_in A t) (n - i) (omega arith))

  pub bad_sound : (i n : ℕ) (t : List ℕ) → i + length t ≤ n → sound_bad A n (bad_from_of A i t) ≡ true
  bad_sound i n t h = rw (first_sound i n t h) (count_sound i n t h)

-- ---- the state of a text, by an alphabet and a choice to fold

module _ (fold : Bool) (k : AlphabetType) where
  abbrev A : Coding
  A = coding_by fold k

  unfoldable pub state_of : List ℕ → SequenceEncoder
  state_of text =
      record {
        alphabet = k;
        seen = length text;
        bits = length text * A.width % 8;
        pending = word (text_bits A text) (length text * A.width / 8 * 8) (length text * A.width % 8);
        bad = bad_from_of A 0 text;
        fold = fold;
      }

  pub fresh_state : fresh_encoder fold k ≡ state_of []
  unfolding fresh_encoder state_of first_from how_many word
  fresh_state = rw (zero-mul A.width)

  -- it is sound
  pub state_sound : (text : List ℕ) → length text ≤ limit → sound_encoder (state_of text) ≡ true
  unfolding state_of
  state_sound text h =
      sym
      (sound_rest (state_of text) h refl
      (word_lt (text_bits A text) (bit_lt A.width (at (digits_of A text))) (length text * A.width / 8 * 8) (length text * A.width % 8)) true
      (sym (bad_sound A 0 (length text) text (omega arith))))

  -- ---- a piece more

  module _ (text piece : List ℕ) where
    abbrev n : ℕ
    n = length text * A.width

    pub length_both : length (text ++ piece) * A.width ≡ length text * A.width + length piece * A.width
    length_both = ap (λ (m : ℕ). m * A.width) (length-append text piece) ∙ add-mul (length text) (length piece) A.width

    -- the bits at hand are those of the longer text, from the first byte that the shorter does not fill
    pub piece-bits : (i : ℕ) → piece_bits (state_of text) piece i ≡ text_bits A (text ++ piece) (length text * A.width / 8 * 8 + i)
    unfolding piece_bits state_of
    piece-bits i =
        let len : length (digits_of A text) * A.width ≡ n / 8 * 8 + n % 8 = ap (λ (m : ℕ). m * A.width) (length-map text (digit_of A)) ∙ omega arith in
        hand-append A.width (lawful fold k).some_bits (digits_of A text) (digits_of A piece) (n / 8) (n % 8) len i
        ∙ ap (λ (l : List ℕ). bit_at A.width (at l) (n / 8 * 8 + i)) (sym (map-append (digit_of A) text piece))

    pub state_updated : updated (state_of text) piece ≡ state_of (text ++ piece)
    unfolding updated state_of piece_bit_count
    state_updated = λ i.
        record {
          alphabet = k;
          seen = sym (length-append text piece) i;
          bits = left i;
          pending = value i;
          bad = both i;
          fold = fold;
        }
      where
        c : ℕ
        c = length text * A.width % 8 + length piece * A.width

        left : c % 8 ≡ length (text ++ piece) * A.width % 8
        left = omega (arith, length_both)

        both : both_bad_of (bad_from_of A 0 text) (bad_from_of A (length text) piece) ≡ bad_from_of A 0 (text ++ piece)
        both = sym (bad_append A 0 text piece ∙ ap (λ (j : ℕ). both_bad_of (bad_from_of A 0 text) (bad_from_of A j piece)) (zero-add (length text)))

        value :
            word (piece_bits (state_of text) piece) (c / 8 * 8) (c % 8)
            ≡ word (text_bits A (text ++ piece)) (length (text ++ piece) * A.width / 8 * 8) (length (text ++ piece) * A.width % 8)
        value =
            word_ext (piece_bits (state_of text) piece) (text_bits A (text ++ piece)) (c / 8 * 8) (length (text ++ piece) * A.width / 8 * 8) (c % 8)
            (λ j h.
            let place : length text * A.width / 8 * 8 + (c / 8 * 8 + j) ≡ length (text ++ piece) * A.width / 8 * 8 + j = omega (arith, length_both) in
            piece-bits (c / 8 * 8 + j) ∙ ap (text_bits A (text ++ piece)) place)
            ∙ ap (word (text_bits A (text ++ piece)) (length (text ++ piece) * A.width / 8 * 8)) left
