-- The encoder's numbers and its state.
use Rattle.std.proofs.Common.{◌≡◌, ℕ, ◌≤◌, Bool, true, Option, None, Some, Result, Ok, Err, sym, ap, ap₂, ◌∙◌, le-leb}
use Rattle.alphabet.specs.Names.{kind_of, named_at}
use Rattle.alphabet.specs.declared.kind.AlphabetType.{AlphabetType}
use Rattle.alphabet.specs.declared.refusal.Refusal.{Refusal}
use Rattle.alphabet.proofs.Calls.{kind_number, known_number, named_kind}
use Rattle.packing.specs.declared.stranger.Stranger.{Stranger}
use Rattle.packing.specs.declared.encoder.SequenceEncoder.{SequenceEncoder}
use Rattle.fantailclock.specs.declared.shapes.Encoder.{Encoder}
use Rattle.fantailclock.specs.Shapes.{chosen}
use Rattle.fantailclock.specs.Encoders.{fitting, inside, outside, state_of}
use Rattle.fantailclock.proofs.Told.{fold_fits, fold-chosen}

-- ---- numbers that fit are the state of their alphabet, their first non-member and their choice

module _ (e : Encoder) (k : AlphabetType) (n : named_at e.alphabet ≡ Ok k) where
  abbrev pub standing : AlphabetType → Option Stranger → Bool → Result SequenceEncoder Refusal
  standing x y z =
      Ok (
      record {
        alphabet = x;
        seen = e.seen;
        bits = e.pending_bits;
        pending = e.pending;
        bad = record { first = y; count = e.bad_count };
        fold = z;
      }
      )

  pub state_fine : fitting e ≡ true → e.pending_bits ≤ 255 → e.pending ≤ 255 → (first : Option Stranger) → first ≡ (inside e).bad.first
      → (fold : Bool) → fold ≡ chosen e.fold → standing k first fold ≡ state_of e
  unfolding state_of inside
  state_fine f h l first q fold c =
      ap₂ (λ x y. standing x y fold) (sym (named_kind e.alphabet k n).1) q
      ∙ ap (standing (kind_of e.alphabet) (inside e).bad.first) c
      ∙ sym (rw ((named_kind e.alphabet k n).0, f, le-leb e.pending_bits 255 h, le-leb e.pending 255 l))

-- ---- a state's numbers stand for it, so that its count of non-members and its choice stay from call to call

-- a first non-member is a byte
abbrev pub ByteIn : Option Stranger → Type 0
ByteIn None = Unit {0}
ByteIn (Some first) = first.byte ≤ 255

module _ (s : SequenceEncoder) (h : s.bits ≤ 255) (l : s.pending ≤ 255) where
  abbrev seeing : Option Stranger → SequenceEncoder
  seeing first =
      record { alphabet = s.alphabet; seen = s.seen; bits = s.bits; pending = s.pending; bad = record { first = first; count = s.bad.count }; fold = s.fold }

  again : (first : Option Stranger) → ByteIn first → state_of (outside (seeing first)) ≡ Ok (seeing first)
  unfolding state_of inside outside fitting
  again None b = rw (known_number s.alphabet, kind_number s.alphabet, le-leb s.bits 255 h, le-leb s.pending 255 l, fold_fits s.fold, fold-chosen s.fold)
  again (Some first) b =
      rw (
        known_number s.alphabet,
        kind_number s.alphabet,
        le-leb s.bits 255 h,
        le-leb s.pending 255 l,
        fold_fits s.fold,
        fold-chosen s.fold,
        le-leb first.byte 255 b,
      )

  pub stands_again : ByteIn s.bad.first → state_of (outside s) ≡ Ok s
  stands_again = again s.bad.first
