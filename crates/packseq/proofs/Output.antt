-- What is printed for each answer, that it fits the program's memory, and that no text of bytes is refused.
use mathlib.Core.Path.{◌≡◌, refl, sym, ap, ◌∙◌}
use mathlib.Core.Bool.{Bool, true, false}
use mathlib.Core.List.{List, [], ◌∷◌, ◌++◌}
use Prim.Native.Nat.{ℕ, ◌*◌, ◌≤◌, ◌<◌}
use native.Mathlib.Nat.{mul-le-mul}
use native.Mathlib.Omega.{arith}
use borrow.Author.Tests.{le-leb, lt-leb, leb-true}
use lib.Dec.{leb}
use lib.ListN.{length, take, drop, length-append, length-take}
use lib.Seq.{take_at, take_all}
use Rattle.bits.specs.Tables.{Bytes, bytes_of}
use Rattle.bits.specs.Packing.{bytes_for}
use Rattle.bits.specs.Memory.{front}
use Rattle.alphabet.specs.Questions.{ask◌else◌then◌, by, limit, in_bounds}
use Rattle.alphabet.specs.Symbols.{Coding, coding}
use Rattle.alphabet.specs.Names.{number_of, known, kind_of, numbered}
use Rattle.alphabet.specs.Guess.{guess_of}
use Rattle.alphabet.specs.declared.kind.AlphabetType.{AlphabetType}
use Rattle.alphabet.specs.declared.refusal.Refusal.{Refusal}
use Rattle.alphabet.proofs.Laws.{lawful}
use Rattle.alphabet.proofs.Calls.{kind_number, known_number, guess-members}
use Rattle.packing.specs.declared.stranger.Stranger.{Stranger}
use Rattle.members.specs.Members.{bad_in}
use Rattle.packing.specs.Encode.{packing, first_from, unless_bad, encode_at, encode_writes, encode_memory}
use Rattle.packing.proofs.Search.{first_none}
use Rattle.packing.proofs.Laid.{packing-length}
use Rattle.lines.specs.Lines.{line, packed_lines_of, put_count, put_memory}
use Rattle.lines.proofs.Parts.{line_length, whole_count, whole_memory}
use Rattle.lines.proofs.Made.{refused-most, packed-most}
use Rattle.packseq.specs.Input.{room}
use Rattle.packseq.specs.Printed.{longest, most, answered, printed, output}
use Rattle.std.specs.Prelude.{Option, Some, None, IsSome, Result, Ok, Err, IfOk}

-- ---- what an accepted call wrote

-- its count is the packing's length
encode-count :
    (n : ℕ) (text : List ℕ) (room count : ℕ) → encode_at n false text room ≡ Ok count → length (packing (numbered n) text) ≡ count
unfolding encode_at
encode-count n text room count e =
    packing-length (numbered n) text ∙ go (known n) (in_bounds (length text)) (leb (bytes_for (length text * (numbered n).width)) room) (first_from (numbered n) 0 text) e
  where
    go : (a b c : Bool) (f : Option Stranger) → (
        ask a else Err (by 8 []) then
        ask b else Err (by 2 []) then
        ask c else Err (by 4 []) then
        unless_bad f (λ position byte. Err (by 5 (position ∷ byte ∷ bad_in (numbered n) text ∷ [])))
        (Ok (bytes_for (length text * (numbered n).width)))) ≡ Ok count
        → bytes_for (length text * (numbered n).width) ≡ count
    go true true true None q = cc
    go true true true (Some first) q = cc
    go true true false f q = cc
    go true false c f q = cc
    go false b c f q = cc

-- a call on the guessed alphabet
module _ (text memory out : List ℕ) (kind : AlphabetType) (n : ℕ) (answer : Result ℕ Refusal)
    (k : kind ≡ guess_of false text) (m : n ≡ number_of kind) (a : answer ≡ encode_at n false text (length memory)) (o : out ≡ encode_memory n false text memory) where
  -- the number is that of the guess
  same_coding : numbered n ≡ coding (guess_of false text)
  same_coding = ap coding (ap kind_of m ∙ kind_number kind ∙ k)

  module _ (count : ℕ) (w : answer ≡ Ok count) where
    counted : length (packing (numbered n) text) ≡ count
    counted = encode-count n text (length memory) count (sym a ∙ w)

    written : out ≡ packing (numbered n) text ++ drop (length (packing (numbered n) text)) memory
    unfolding encode_memory encode_writes
    written = o ∙ ap (λ (x : Result ℕ Refusal). front (encode_writes n false text x) memory) (sym a ∙ w)

    count_within : count ≤ length out
    count_within =
        omega (arith, counted, ap length written, length-append (packing (numbered n) text) (drop (length (packing (numbered n) text)) memory))

    -- the bytes that are printed
    packed_part : take count out ≡ take count (packing (coding (guess_of false text)) text)
    packed_part =
        ap (take count) written
        ∙ take_at (packing (numbered n) text) (drop (length (packing (numbered n) text)) memory) count counted
        ∙ sym (take_all count (packing (numbered n) text) (omega (arith, counted)))
        ∙ ap (λ (c : Coding). take count (packing c text)) same_coding

  pub packed_within : IfOk answer (λ n. n ≤ length out)
  packed_within = go answer refl
    where
      go : (x : Result ℕ Refusal) → answer ≡ x → IfOk x (λ n. n ≤ length out)
      go (Ok count) w = count_within count w
      go (Err q) w = tt

  -- what is printed for the answer
  pub is_answered : length text ≤ longest → length memory ≡ longest → answered kind (length text) answer out ≡ printed text
  unfolding printed answered
  is_answered short room = go answer refl ∙ sym by_answer
    where
      packed : List ℕ
      packed = packing (coding (guess_of false text)) text

      by_answer : printed text ≡ answered (guess_of false text) (length text) answer packed
      by_answer =
          rw (le-leb (length text) longest short)
          (ap (λ (x : Result ℕ Refusal). answered (guess_of false text) (length text) x packed)
          (ap (λ (x : AlphabetType). encode_at (number_of x) false text longest) (sym k)
          ∙ ap (λ (x : ℕ). encode_at x false text longest) (sym m)
          ∙ ap (encode_at n false text) (sym room)
          ∙ sym a))

      go : (x : Result ℕ Refusal) → answer ≡ x → answered kind (length text) answer out ≡ answered (guess_of false text) (length text) answer packed
      go (Ok count) w =
          rw w
          (ap (λ (x : AlphabetType). packed_lines_of x (length text) (take count out)) k
          ∙ ap (packed_lines_of (guess_of false text) (length text)) (packed_part count w))
      go (Err q) w = rw w

-- a text that is too long
pub is_long : (text : List ℕ) → longest < length text → line (bytes_of "too long") ≡ printed text
unfolding printed
is_long text h = rw (lt-leb (length text) longest h)

-- ---- what is printed fits

packed_short : (k : AlphabetType) (text : List ℕ) → length text ≤ longest → length (packing (coding k) text) ≤ longest
packed_short k text h =
    let bits : length text * (coding k).width ≤ longest * 8 = mul-le-mul h (lawful false k).narrow in
    omega (arith, packing-length (coding k) text)

pub printed_fits : (text : List ℕ) → length (printed text) ≤ most
unfolding printed answered bytes_of
printed_fits text = go (leb (length text) longest) refl (encode_at (number_of (guess_of false text)) false text longest)
  where
    packed : List ℕ
    packed = packing (coding (guess_of false text)) text

    go :
        (b : Bool) → leb (length text) longest ≡ b → (e : Result ℕ Refusal)
        → length (ask b else line (bytes_of "too long") then answered (guess_of false text) (length text) e packed) ≤ most
    go true h (Ok count) =
        let short = packed_short (guess_of false text) text (leb-true (length text) longest h) in
        omega (arith, packed-most (guess_of false text) (length text) (take count packed), length-take count packed, short)
    go true h (Err q) = omega (arith, refused-most q)
    go false h e = omega (arith, line_length (bytes_of "too long"))

-- lines that fit are put whole
module _ (wanted made memory : List ℕ) (r : Option ℕ) (e : made ≡ wanted) (fits : length wanted ≤ most) (room : most ≤ length memory)
    (q : r ≡ put_count made (length memory)) where
  put_room : length made ≤ length memory
  put_room = rw e (omega arith)

  put_counted : r ≡ Some (length wanted)
  put_counted = q ∙ whole_count made memory put_room ∙ ap (λ (l : List ℕ). Some (length l)) e

  pub is_put : IsSome r
  is_put = rw put_counted refl

  pub all_put : (out : List ℕ) (n : ℕ) → r ≡ Some n → out ≡ put_memory made memory → (n ≡ length wanted) × (out ≡ front wanted memory)
  all_put out n some o =
      let same : Some n ≡ Some (length wanted) = sym some ∙ put_counted in
      (cc, o ∙ whole_memory made memory put_room ∙ ap (λ (l : List ℕ). front l memory) e)

-- ---- what was read

pub output_fits : {E : Type 0} (read : Result ℕ E) (buffer : List ℕ) → length (output read buffer) ≤ most
unfolding output bytes_of
output_fits (Ok len) buffer = printed_fits (take len buffer)
output_fits (Err failure) buffer = omega (arith, line_length (bytes_of "cannot read"))

pub not_read : {E : Type 0} (read : Result ℕ E) (failure : E) (buffer : List ℕ) → read ≡ Err failure → line (bytes_of "cannot read") ≡ output read buffer
unfolding output
not_read read failure buffer e = rw e refl

-- ---- the two outputs of a text, with the number that document 01 has

-- three lines for every text of at most 16,384 bytes
pub three-lines :
    (text : List ℕ) → Bytes text → length text ≤ 16384 → printed text ≡ packed_lines_of (guess_of false text) (length text) (packing (coding (guess_of false text)) text)
unfolding printed answered encode_at
three-lines text bytes h =
    let k : AlphabetType = guess_of false text in
    let packed : List ℕ = packing (coding k) text in
    let same : numbered (number_of k) ≡ coding k = ap coding (kind_number k) in
    let none : first_from (coding k) 0 text ≡ None = first_none (coding k) 0 text (guess-members false text bytes) in
    let count : ℕ = bytes_for (length text * (coding k).width) in
    let long : length packed ≡ count = packing-length (coding k) text in
    let fits : leb count longest ≡ true = le-leb count longest (omega (arith, long, packed_short k text h)) in
    rw (le-leb (length text) longest h, known_number k, le-leb (length text) limit (omega arith), same, fits, none)
    (ap (packed_lines_of k (length text)) (take_all count packed (omega (arith, long))))

-- and one for every text that is longer
pub too_long : (text : List ℕ) → 16384 < length text → printed text ≡ bytes_of "too long" ++ (10 ∷ [])
unfolding line
too_long text h = sym (is_long text h)

-- so does a buffer that reading has filled: no longer input passes cut
pub full_is_too_long : (E : Type 0) (buffer : List ℕ) → length buffer ≡ room → output {E = E} (Ok room) buffer ≡ bytes_of "too long" ++ (10 ∷ [])
unfolding output
full_is_too_long E buffer h = too_long (take room buffer) (omega (arith, length-take room buffer, h))

-- for the functions that put the output
pub ruleset printing = (whole_count, whole_memory, printed_fits, is_long)
