-- Reads of a packed text, whatever the choice to fold by which it was packed: for a window within the text every question is answered yes, and the symbols stand
-- at the front of memory afterwards.
use Rattle.std.specs.Prelude.{Ok}
use Rattle.std.proofs.Common.{◌≡◌, ℕ, ◌+◌, ◌-◌, ◌*◌, ◌<◌, ◌≤◌, Bool, true, ◌&&◌, List, map, length, take, drop, ap, mul-le-mul_right}
use Rattle.std.proofs.Common.{mul-le-mul_left, arith, lt-ltb, le-leb}
use Rattle.bits.specs.Tables.{at}
use Rattle.bits.specs.Streams.{bit_at}
use Rattle.bits.specs.Packing.{pack, file_byte, first_byte, end_byte}
use Rattle.bits.specs.Memory.{front}
use Rattle.alphabet.specs.Questions.{limit, in_bounds}
use Rattle.alphabet.specs.Symbols.{Coding}
use Rattle.alphabet.specs.Names.{known, kind_of, numbered, numbered_by}
use Rattle.alphabet.proofs.Laws.{lawful}
use Rattle.windows.specs.Window.{window, covers, first_lacking_of, all_assigned, read_at, lent_at, covered_at, read_writes, read_memory, covered_memory}
use Rattle.windows.specs.Workers.{Passes}
use Rattle.windows.proofs.Windows.{window_of_text}
use Rattle.windows.proofs.Assigned.{text_passes, lacking_none}

-- bytes lent for the window from s to e of a text: they begin no later than the window's range, and the bits of the window's symbols are the packing's
pub record Serves (A : Coding) (text lent : List ℕ) (offset s e : ℕ) : Type 0 where
  pub some : s < e
  pub inside : e ≤ length text
  pub bounded : length text ≤ limit
  pub members : (i : ℕ) → i < length text → A.member (at text i) ≡ true
  pub begins : offset ≤ first_byte A.width s
  pub own : (k : ℕ) → s * A.width ≤ k → k < e * A.width → bit_at 8 (file_byte lent offset) k ≡ bit_at 8 (at (pack A.width (map A.code text))) k

module _ (fold : Bool) (alphabet : ℕ) (text lent : List ℕ) (offset s e : ℕ) (serves : Serves (numbered_by fold alphabet) text lent offset s e) where
  abbrev A : Coding
  A = numbered_by fold alphabet

  abbrev symbols : List ℕ
  symbols = map A.canon (take (e - s) (drop s text))

  -- the first symbols of the window, however many
  pub window_first : (n : ℕ) → s + n ≤ e → window A lent offset s n ≡ map A.canon (take n (drop s text))
  window_first n h =
      window_of_text A (lawful fold (kind_of alphabet)) text lent offset s n (omega (arith, serves.inside)) (λ i l. serves.members (s + i) (omega (arith, serves.inside)))
      (λ k a b. serves.own k a (omega (arith, mul-le-mul_right A.width h)))

  module _ (named : known alphabet ≡ true) (memory : List ℕ) (room : e - s ≤ length memory) where
    near : in_bounds e && in_bounds offset ≡ true
    near =
        let narrow : s * A.width ≤ s * 8 = mul-le-mul_left s (lawful fold (kind_of alphabet)).narrow in
        let end-near : in_bounds e ≡ true = le-leb e limit (omega (arith, serves.inside, serves.bounded)) in
        let first-near : in_bounds offset ≡ true = le-leb offset limit (omega (arith, serves.some, serves.inside, serves.bounded, serves.begins)) in
        rw (end-near, first-near)

    -- a zero-filling read
    pub read_told : read_at alphabet offset s e (length memory) ≡ Ok (e - s)
    unfolding read_at
    read_told = rw (lt-ltb s e serves.some, named, near, le-leb (e - s) (length memory) room)

    pub read_left : read_memory alphabet lent offset s e memory ≡ front symbols memory
    unfolding read_memory read_writes window
    read_left = rw read_told (ap (λ (l : List ℕ). front l memory) (window_first (e - s) (omega (arith, serves.some))))

    -- the covered read, where the lent bytes reach the range's end
    module _ (ends : end_byte A.width e ≤ offset + length lent) where
      covering : covers A lent offset s e ≡ true
      unfolding covers
      covering = rw (le-leb offset (first_byte A.width s) serves.begins, le-leb (end_byte A.width e) (offset + length lent) ends)

      -- a member's code is a symbol's, so that a window of what was packed is never refused by 18
      passes : Passes (numbered alphabet) lent offset s e e
      passes =
          let p = text_passes A (lawful fold (kind_of alphabet)) text lent offset s e (omega (arith, serves.some)) serves.inside serves.members serves.own in
          record { from = p.from; to = p.to; each = p.each }

      pub never_lacking : all_assigned (numbered alphabet) lent offset s e ≡ true
      never_lacking = le-leb e (first_lacking_of (numbered alphabet) lent offset s e) (omega (arith, lacking_none (numbered alphabet) lent offset passes))

      pub covered_told : covered_at alphabet lent offset s e (length memory) ≡ Ok (e - s)
      unfolding covered_at lent_at covers
      covered_told = rw (lt-ltb s e serves.some, named, near, covering, le-leb (e - s) (length memory) room, never_lacking)

      pub covered_left : covered_memory alphabet lent offset s e memory ≡ front symbols memory
      unfolding covered_memory read_writes window
      covered_left = rw covered_told (ap (λ (l : List ℕ). front l memory) (window_first (e - s) (omega (arith, serves.some))))
