-- Without folding all is as before: what request A1 gave the choice to is, at `false`, the equation that document 01 had, with request A5's count. By computation.
use mathlib.Core.Path.{◌≡◌, refl, ap}
use mathlib.Core.Bool.{Bool, false}
use mathlib.Core.List.{List, []}
use Rattle.std.proofs.Common.{None, Ok, Err}
use Prim.Native.Nat.{ℕ}
use Rattle.alphabet.specs.Questions.{ask◌else◌then◌, by}
use Rattle.alphabet.specs.Symbols.{coding, coding_by}
use Rattle.alphabet.specs.Names.{known, kind_of, numbered}
use Rattle.packing.specs.declared.encoder.SequenceEncoder.{SequenceEncoder}
use Rattle.packing.specs.Encode.{packing, encode_by, encode_at, encode_writes, packs_by, fresh_encoder, start_encoder_at}

pub record AsBefore : Type 0 where
  -- `encode_sequence`: what it answers, and the bytes that it writes
  pub answers : (n : ℕ) (text : List ℕ) (room : ℕ)
      → encode_at n false text room ≡ (ask known n else Err (by 8 []) then encode_by (numbered n) text room)
  pub writes : (n : ℕ) (text : List ℕ) (count : ℕ) → encode_writes n false text (Ok count) ≡ packing (numbered n) text
  -- `new`
  pub starts : (n : ℕ) → start_encoder_at n false ≡ (
      ask known n else Err (by 8 []) then
      Ok (record { alphabet = kind_of n; seen = 0; bits = 0; pending = 0; bad = record { first = None; count = 0 }; fold = false }))
  -- `update` and `finalize`: all that they know of the choice is the coding that a state packs by
  pub packs : (s : SequenceEncoder) → s.fold ≡ false → packs_by s ≡ coding s.alphabet

pub as_before : AsBefore
unfolding encode_at encode_writes start_encoder_at fresh_encoder
as_before =
    record {
      answers = λ n text room. refl;
      writes = λ n text count. refl;
      starts = λ n. refl;
      packs = λ s e. ap (λ (b : Bool). coding_by b s.alphabet) e;
    }
