-- What an answer tells in each of its cases, and what a call tells of a state that its numbers are, or are not.
use Rattle.std.proofs.Common.{◌≡◌, ℕ, ◌≤◌, Bool, List, [], ◌∷◌, length, Result, Ok, Err, sym, ap, ap₂, ◌∙◌, le-leb}
use Rattle.alphabet.specs.Questions.{Reply, accepted, refusal_reply, number_in, value_in, detail_in}
use Rattle.alphabet.specs.Refusing.{alone}
use Rattle.alphabet.specs.Names.{number_of}
use Rattle.alphabet.specs.Answers.{named_reply}
use Rattle.alphabet.specs.declared.kind.AlphabetType.{AlphabetType}
use Rattle.alphabet.specs.declared.guesser.AlphabetGuesser.{AlphabetGuesser}
use Rattle.alphabet.specs.declared.refusal.Refusal.{Refusal}
use Rattle.alphabet.specs.declared.refusal.Refused.{Refused}
use Rattle.alphabet.proofs.Calls.{is_refused}
use Rattle.packing.specs.declared.encoder.SequenceEncoder.{SequenceEncoder}
use Rattle.packing.specs.declared.encoder.Updated.{Updated as Answer}
use Rattle.packing.specs.Encode.{encode_memory, update_at, update_memory}
use Rattle.windows.specs.Answers.{read_reply}
use Rattle.fantailclock.specs.declared.shapes.Details.{Details}
use Rattle.fantailclock.specs.declared.shapes.Encoder.{Encoder}
use Rattle.fantailclock.specs.declared.shapes.Guesser.{Guesser}
use Rattle.fantailclock.specs.declared.shapes.Updated.{Updated}
use Rattle.fantailclock.specs.Shapes.{chosen, count, covered, details, number}
use Rattle.fantailclock.specs.Encoders.{answer_from, encoder_update_memory, encoder_updated, outside, state_of, update_memory_from, updated_by}
use Rattle.fantailclock.specs.Guesses as guesses

-- ---- an alphabet, or a refusal

pub kind_told :
    (r : Result AlphabetType Refusal) (k : AlphabetType) (m : ℕ) → r ≡ Ok k → m ≡ number_of k → record { refusal = 0; value = m } ≡ number (named_reply r)
kind_told r k m e q = ap (λ (x : ℕ). record { refusal = 0; value = x }) q ∙ ap (λ (x : Result AlphabetType Refusal). number (named_reply x)) (sym e)

pub refusal_told :
    (r : Result AlphabetType Refusal) (q : Refusal) (m : ℕ) → r ≡ Err q → m ≡ number_in (refusal_reply q)
    → record { refusal = m; value = 0 } ≡ number (named_reply r)
refusal_told r q m e f =
    ap (λ (x : ℕ). record { refusal = x; value = 0 }) f
    ∙ ap number (sym (is_refused q))
    ∙ ap (λ (x : Result AlphabetType Refusal). number (named_reply x)) (sym e)

-- ---- reads

-- what is told of an answer, in any shape, is told of its case
module _ {A : Type 0} (tell : Reply → A) (x : Result ℕ Refusal) where
  pub read_bases : (n : ℕ) → x ≡ Ok n → tell (accepted (n ∷ [])) ≡ tell (read_reply x)
  read_bases n e = ap (λ (y : Result ℕ Refusal). tell (read_reply y)) (sym e)

  pub read-refused : (q : Refusal) → x ≡ Err q → tell (refusal_reply q) ≡ tell (read_reply x)
  read-refused q e = ap (λ (y : Result ℕ Refusal). tell (read_reply y)) (sym e)

-- a refusal as numbers: a read's, and the covered read's
pub count_refused : (q : Refusal) (m : ℕ) → m ≡ number_in (refusal_reply q) → record { refusal = m; count = 0 } ≡ count (refusal_reply q)
count_refused q m h = ap (λ (n : ℕ). record { refusal = n; count = 0 }) h ∙ ap count (sym (is_refused q))

pub covered-refused :
    (q : Refusal) (m : ℕ) (d : Details) → m ≡ number_in (refusal_reply q) → d ≡ details (refusal_reply q)
    → record { refusal = m; count = 0; value = d.first } ≡ covered (refusal_reply q)
covered-refused q m d h e =
    ap₂ (λ (n : ℕ) (x : Details). record { refusal = n; count = 0; value = x.first }) h e
    ∙ ap
    (λ (k : ℕ). record { refusal = number_in (refusal_reply q); count = k; value = detail_in 0 (refusal_reply q) })
    (sym (ap (value_in 0) (is_refused q)))

-- ---- states

-- a guesser of its numbers and a choice
abbrev chosen_guesser : Guesser → Bool → Result AlphabetGuesser Refusal
chosen_guesser g fold = Ok (record { acc = g.mask; fold = fold })

-- a guesser's numbers that fit are the state of that mask and that choice
pub state_fine :
    (g : Guesser) → g.mask ≤ 255 → g.fold ≤ 1 → (fold : Bool) → fold ≡ chosen g.fold
    → chosen_guesser g fold ≡ guesses.state_of g
unfolding guesses.state_of guesses.inside
state_fine g h l fold e =
    ap (chosen_guesser g) e ∙ sym (rw (le-leb g.mask 255 h, le-leb g.fold 1 l))

-- an answer to a piece, as numbers
module _ (e : Encoder) (x : Result Answer Refusal) where
  pub told_wrote :
      (count : ℕ) (s : SequenceEncoder) → x ≡ Ok (record { count = count; next = s }) → (n : Encoder) → n ≡ outside s
      → record { refusal = 0; count = count; next = n } ≡ updated_by e x
  told_wrote count s p n h = ap (λ (y : Encoder). record { refusal = 0; count = count; next = y }) h ∙ ap (updated_by e) (sym p)

  pub told_refused : (q : Refusal) → x ≡ Err q → (m : ℕ) → m ≡ number_in (refusal_reply q) → record { refusal = m; count = 0; next = e } ≡ updated_by e x
  told_refused q p m h = ap (λ (y : ℕ). record { refusal = y; count = 0; next = e }) h ∙ ap (updated_by e) (sym p)

module _ (e : Encoder) (piece : List ℕ) where
  -- asked about with any length of memory, or packed
  module _ (room : ℕ) where
    pub piece-no : (q : Refusal) → Err q ≡ state_of e → record { refusal = number_in (refusal_reply q); count = 0; next = e } ≡ encoder_updated e piece room
    unfolding encoder_updated
    piece-no q h = ap (λ (y : Result SequenceEncoder Refusal). updated_by e (answer_from piece room y)) h

    pub piece_told :
        (s : SequenceEncoder) → Ok s ≡ state_of e → (x : Result Answer (Refused SequenceEncoder)) → x ≡ update_at s piece room
        → (r : Updated) → r ≡ updated_by e (alone x) → r ≡ encoder_updated e piece room
    unfolding encoder_updated
    piece_told s q x f r h =
        h
        ∙ ap (λ (y : Result Answer (Refused SequenceEncoder)). updated_by e (alone y)) f
        ∙ ap (λ (y : Result SequenceEncoder Refusal). updated_by e (answer_from piece room y)) q

  module _ (memory : List ℕ) where
    pub memory-no : (q : Refusal) → Err q ≡ state_of e → memory ≡ encoder_update_memory e piece memory
    unfolding encoder_update_memory
    memory-no q h = ap (update_memory_from piece memory) h

    pub memory_told : (s : SequenceEncoder) → Ok s ≡ state_of e → (out : List ℕ) → out ≡ update_memory s piece memory → out ≡ encoder_update_memory e piece memory
    unfolding encoder_update_memory
    memory_told s q out w = w ∙ ap (update_memory_from piece memory) q

-- ---- a text in one call

-- memory that is written by a choice is written by the number that the choice was chosen by
pub encode-memory :
    (n fold : ℕ) (text memory : List ℕ) (f : Bool) → f ≡ chosen fold → (out : List ℕ) → out ≡ encode_memory n f text memory
    → out ≡ encode_memory n (chosen fold) text memory
encode-memory n fold text memory f c out w = w ∙ ap (λ (g : Bool). encode_memory n g text memory) c
