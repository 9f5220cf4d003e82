-- Reading into the buffer: what each read adds to what was taken, and what is there when reading ends.
use Rattle.std.proofs.Common.{◌≡◌, ℕ, zero, suc, ◌+◌, ◌-◌, ◌≤◌, ◌<◌, Bool, true, false, cond, List, ◌++◌, IfSome, Option, Some, None, Result, Ok, Err, length, take}
use Rattle.std.proofs.Common.{refl, sym, ap, ap₂, ◌∙◌, subst, arith, drop_at, length-take-le}
use Rattle.std.specs.Io.{ReadsAtMost}
use Rattle.std.specs.Io.KnownBytes.{Consumes, IsAtEnd, ReadConsumes}
use Rattle.std.proofs.KnownBytes.{Consumes-trans, Consumes-whole}
use borrow.Author.Tests.{ltb-true, ltb-false}
use borrow.Rule.Slice.PartMut.{put_mid, post_of}
use lib.Dec.{ltb}
use lib.ListN.{length-take}
use lib.Seq.{take_at, take-add, take-append-le, take_all}
use Rattle.packseq.specs.Input.{room, reading_after}
use Rattle.packseq.specs.declared.input.Reading.{Reading}

-- a read of n bytes into the part behind the first `len`
pub taken_more :
    (a b c : Option (List ℕ)) (buf part : List ℕ) (len k n : ℕ) → len ≤ length buf → n ≤ length part
    → Consumes a b (take len buf) → Consumes b c (take n part) → Consumes a c (take (len + n) (put_mid len k buf part))
taken_more a b c buf part len k n h m p q =
    let front : length (take len buf) ≡ len = length-take-le len buf h in
    let after : List ℕ = part ++ post_of len k buf in
    let split : take (len + n) (put_mid len k buf part) ≡ take len buf ++ take n part =
    take-add len n (take len buf ++ after)
    ∙ ap₂ (λ (x y : List ℕ). x ++ y) (take_at (take len buf) after len front)
    (ap (take n) (drop_at (take len buf) after len front) ∙ take-append-le n part (post_of len k buf) m) in
    subst (Consumes a c) (sym split) (Consumes-trans a b c (take len buf) (take n part) p q)

-- one of no bytes, at the reader's end
pub ended :
    (a b c : Option (List ℕ)) (buf part : List ℕ) (len k n : ℕ) → len ≤ length buf → n ≤ length part → Consumes a b (take len buf) → Consumes b c (take n part)
    → n ≡ 0 → IsAtEnd c → len ≤ room → IfSome a (λ text. take len (put_mid len k buf part) ≡ take room text)
ended a b c buf part len k n h m p q none e within =
    let out : List ℕ = put_mid len k buf part in
    let same : len + n ≡ len = omega arith in
    let taken : Consumes a c (take len out) = subst (λ l. Consumes a c (take l out)) same (taken_more a b c buf part len k n h m p q) in
    Consumes-whole a c (take len out) (λ text. take len out ≡ take room text) taken e (sym (take_all room (take len out) (omega (arith, length-take len out))))

-- the buffer is full
pub filled : (a b : Option (List ℕ)) (bytes : List ℕ) → Consumes a b bytes → length bytes ≡ room → IfSome a (λ text. bytes ≡ take room text)
filled None b bytes p h = tt
filled (Some xs) None bytes p h = absurd p
filled (Some xs) (Some ys) bytes p h = sym (ap (take room) p ∙ take_at bytes ys room h)

-- ---- a turn of the loop: a read into all that the buffer has behind its first `len` bytes

-- the buffer then
abbrev pub read_into : ℕ → List ℕ → List ℕ → List ℕ
read_into len buf part = put_mid len (length buf - len) buf part

module _ (a b c : Option (List ℕ)) (buf part : List ℕ) (len : ℕ) (all : len + length part ≡ room) (long : length buf ≡ room) (taken : Consumes a b (take len buf)) where
  taken_then : (n m : ℕ) → n ≤ length part → Consumes b c (take n part) → len + n ≡ m → Consumes a c (take m (read_into len buf part))
  taken_then n m fits q same =
      subst (λ l. Consumes a c (take l (read_into len buf part))) same (taken_more a b c buf part len (length buf - len) n (omega arith) fits taken q)

  -- more is to be read only after some bytes that left memory
  pub turned :
      {E : Type 0} (read : Result ℕ E) (more : ℕ) → ReadsAtMost read part → ReadConsumes b c read part
      → Ok (Reading.More more) ≡ reading_after len read (length part) → (len < more) × (more < room) × Consumes a c (take more (read_into len buf part))
  unfolding reading_after
  turned (Ok zero) more fits bytes e = cc
  turned {E = E} (Ok (suc n)) more fits bytes e = go (ltb (suc n) (length part)) refl e
    where
      go :
          (t : Bool) → ltb (suc n) (length part) ≡ t
          → ◌≡◌ {A = Result Reading E} (Ok (Reading.More more)) (Ok (cond t (Reading.More (len + suc n)) (Reading.Whole (len + length part))))
          → (len < more) × (more < room) × Consumes a c (take more (read_into len buf part))
      go true h e =
          let same : len + suc n ≡ more = cc in
          let left : suc n < length part = ltb-true (suc n) (length part) h in
          (omega arith, omega arith, taken_then (suc n) more fits.0 bytes.0 same)
      go false h e = cc
  turned (Err failure) more fits bytes e = cc

  -- and reading ends with the reader, or with the buffer full
  pub turned_last :
      {E : Type 0} (read : Result ℕ E) (whole : ℕ) → ReadsAtMost read part → ReadConsumes b c read part → len < room → length (read_into len buf part) ≡ room
      → Ok (Reading.Whole whole) ≡ reading_after len read (length part)
      → (whole ≤ room) × IfSome a (λ text. take whole (read_into len buf part) ≡ take room text)
  unfolding reading_after
  turned_last (Ok zero) whole fits bytes left kept e =
      let same : len ≡ whole = cc in
      let end = ended a b c buf part len (length buf - len) zero (omega arith) fits.0 taken bytes.0 refl (bytes.1 refl (omega arith)) (omega arith) in
      (omega arith, subst (λ l. IfSome a (λ text. take l (read_into len buf part) ≡ take room text)) same end)
  turned_last {E = E} (Ok (suc n)) whole fits bytes left kept e = go (ltb (suc n) (length part)) refl e
    where
      go :
          (t : Bool) → ltb (suc n) (length part) ≡ t
          → ◌≡◌ {A = Result Reading E} (Ok (Reading.Whole whole)) (Ok (cond t (Reading.More (len + suc n)) (Reading.Whole (len + length part))))
          → (whole ≤ room) × IfSome a (λ text. take whole (read_into len buf part) ≡ take room text)
      go true h e = cc
      go false h e =
          let full : len + length part ≡ whole = cc in
          let above : length part ≤ suc n = ltb-false (suc n) (length part) h in
          let last : List ℕ = take whole (read_into len buf part) in
          let held : length last ≡ room = omega (arith, length-take-le whole (read_into len buf part) (omega arith)) in
          (omega arith, filled a c last (taken_then (suc n) whole fits.0 bytes.0 (omega (arith, fits.0))) held)
  turned_last (Err failure) whole fits bytes left kept e = cc
