-- Codes that an alphabet's own list lacks: what `first_lacking_of` says of a window, how far bases may be passed, and eleven codes at once.
use Rattle.std.proofs.Common.{◌≡◌, ℕ, zero, suc, ◌+◌, ◌-◌, ◌*◌, ◌/◌, ◌%◌, ◌^◌, ◌<◌, ◌≤◌, Bool, true, false, leb, List, []}
use Rattle.std.proofs.Common.{◌∷◌, ◌++◌, map, length, sym, refl, ap, ◌∙◌, subst, lt_of_lt_of_le, add-zero, mul-le-mul_right, add-mul, suc-add, zero-add, zero-mul}
use Rattle.std.proofs.Common.{arith, pow_mono, shr-shr, le-ltb, lt-ltb, le-leb, leb-true}
use Rattle.std.specs.Prelude.{Option, None, Some}
use native.Mathlib.Decide.{dec_lt}
use Rattle.bits.specs.Tables.{tabulate, at}
use Rattle.bits.specs.Streams.{bit_at, word, cut}
use Rattle.bits.specs.Packing.{pack, file_byte, codes_from, first_byte, end_byte}
use Rattle.bits.proofs.Computed.{both_true}
use Rattle.bits.proofs.Tabulated.{length-tabulate, tabulate_ext, tabulate-add, get_d_tabulate}
use Rattle.bits.proofs.Words.{word_lt, word_high, bit_lt}
use Rattle.bits.proofs.Files.{word-lent}
use Rattle.bits.proofs.Blocks.{word_field}
use Rattle.alphabet.specs.Symbols.{Coding, coding}
use Rattle.alphabet.specs.declared.kind.AlphabetType.{AlphabetType}
use Rattle.alphabet.specs.declared.kind.AlphabetType.TheVariants.{Protein}
use Rattle.alphabet.proofs.Laws.{Lawful, widths, every_assigned, protein-assigned}
use Rattle.windows.specs.Window.{covers, assigned_front, first_lacking_of, all_assigned}
use Rattle.windows.specs.Workers.{Near, Covered, Passes, FirstLacking}
use Rattle.windows.proofs.Windows.{codes_of_text}

-- ---- a list of codes

module _ (A : Coding) where
  -- codes that the list has are passed
  pub front_past : (xs ys : List ℕ) → ((i : ℕ) → i < length xs → A.assigned (at xs i) ≡ true) → assigned_front A (xs ++ ys) ≡ length xs + assigned_front A ys
  unfolding assigned_front
  front_past [] ys h = sym (zero-add (assigned_front A ys))
  front_past (x ∷ xs) ys h =
      rw (h 0 (omega arith)) (ap suc (front_past xs ys (λ i l. h (suc i) (omega arith))) ∙ sym (suc-add (length xs) (assigned_front A ys)))

  -- and one that it lacks is not
  front_here : (c : ℕ) (ys : List ℕ) → A.assigned c ≡ false → assigned_front A (c ∷ ys) ≡ 0
  unfolding assigned_front
  front_here c ys e = rw e

-- ---- the codes of a file

module _ (A : Coding) (lent : List ℕ) (offset : ℕ) where
  abbrev s : ℕ → ℕ
  s = bit_at 8 (file_byte lent offset)

  abbrev b : ℕ
  b = A.width

  -- code i
  abbrev pub code_at : ℕ → ℕ
  code_at i = word s (i * b) b

  codes_at : (start n i : ℕ) → i < n → at (codes_from b lent offset start n) i ≡ code_at (start + i)
  unfolding codes_from cut
  codes_at start n i h = get_d_tabulate n (λ t. word s (start * b + t * b) b) i 0 h ∙ ap (λ (k : ℕ). word s k b) (sym (add-mul start i b))

  length-codes : (start n : ℕ) → length (codes_from b lent offset start n) ≡ n
  unfolding codes_from cut
  length-codes start n = length-tabulate n (λ t. word s (start * b + t * b) b)

  codes-add : (start m n : ℕ) → codes_from b lent offset start (m + n) ≡ codes_from b lent offset start m ++ codes_from b lent offset (start + m) n
  unfolding codes_from cut
  codes-add start m n =
      let f : ℕ → ℕ = λ t. word s (start * b + t * b) b in
      tabulate-add m n f
      ∙ ap (λ (l : List ℕ). tabulate m f ++ l)
      (tabulate_ext n (λ t. f (m + t)) (λ t. word s ((start + m) * b + t * b) b)
      (λ t h. ap (λ (k : ℕ). word s k b) (omega (arith, add-mul m t b, add-mul start m b))))

  codes_one : (start : ℕ) → codes_from b lent offset start 1 ≡ code_at start ∷ []
  unfolding codes_from cut tabulate
  codes_one start = ap (λ (k : ℕ). word s k b ∷ []) (omega (arith, zero-mul b))

  -- ---- the first base whose code the list lacks

  -- where a window has no bases it is the window's end
  pub lacking_end : (end : ℕ) → first_lacking_of A lent offset end end ≡ end
  unfolding first_lacking_of codes_from cut tabulate assigned_front
  lacking_end end =
      let none : end - end ≡ 0 = omega arith in
      ap (λ (n : ℕ). end + assigned_front A (codes_from b lent offset end n)) none ∙ add-zero end

  -- a base with such a code is the first of the bases from it on
  pub lacking_here : (start end : ℕ) → start < end → A.assigned (code_at start) ≡ false → first_lacking_of A lent offset start end ≡ start
  unfolding first_lacking_of
  lacking_here start end some e =
      let parts : end - start ≡ 1 + (end - start - 1) = omega arith in
      let rest : List ℕ = codes_from b lent offset (start + 1) (end - start - 1) in
      ap (λ (l : List ℕ). start + assigned_front A l)
      (ap (codes_from b lent offset start) parts ∙ codes-add start 1 (end - start - 1) ∙ ap (λ (l : List ℕ). l ++ rest) (codes_one start))
      ∙ ap (λ (n : ℕ). start + n) (front_here A (code_at start) rest e)
      ∙ add-zero start

  -- bases that are passed are not it
  pub lacking_past : {start at end : ℕ} → Passes A lent offset start at end → first_lacking_of A lent offset start end ≡ first_lacking_of A lent offset at end
  unfolding first_lacking_of
  lacking_past {start} {at} {end} p =
      let m : ℕ = at - start in
      let n : ℕ = end - at in
      let parts : end - start ≡ m + n = omega (arith, p.from, p.to) in
      let here : start + m ≡ at = omega (arith, p.from) in
      let passed : assigned_front A (codes_from b lent offset start m ++ codes_from b lent offset at n) ≡ m + assigned_front A (codes_from b lent offset at n) =
      front_past A (codes_from b lent offset start m) (codes_from b lent offset at n)
      (λ i h.
      let inner : i < m = rw (length-codes start m) at h in
      ap A.assigned (codes_at start m i inner) ∙ p.each (start + i) (omega arith) (omega arith))
      ∙ ap (λ (k : ℕ). k + assigned_front A (codes_from b lent offset at n)) (length-codes start m) in
      ap (λ (l : List ℕ). start + assigned_front A l)
      (ap (codes_from b lent offset start) parts ∙ codes-add start m n ∙ ap (λ (k : ℕ). codes_from b lent offset start m ++ codes_from b lent offset k n) here)
      ∙ ap (λ (k : ℕ). start + k) passed
      ∙ omega (arith, here)

  -- and where all are passed there is none
  pub lacking_none : {start end : ℕ} → Passes A lent offset start end end → first_lacking_of A lent offset start end ≡ end
  lacking_none {start} {end} p = lacking_past p ∙ lacking_end end

  -- ---- passing bases

  pub passes_none : (start end : ℕ) → start ≤ end → Passes A lent offset start start end
  passes_none start end h = record { from = omega arith; to = h; each = λ i l m. absurd (omega arith) }

  pub passes_more : {start at end : ℕ} (n : ℕ) → Passes A lent offset start at end → at + n ≤ end
      → ((t : ℕ) → t < n → A.assigned (code_at (at + t)) ≡ true) → Passes A lent offset start (at + n) end
  passes_more {start} {at} {end} n p room more = record { from = omega (arith, p.from); to = room; each = λ i l m. go i l m (dec_lt i at) }
    where
      go : (i : ℕ) → start ≤ i → i < at + n → Dec (i < at) → A.assigned (code_at i) ≡ true
      go i l m (yes h) = p.each i l h
      go i l m (no h) =
          let place : at + (i - at) ≡ i = omega arith in
          ap (λ (k : ℕ). A.assigned (code_at k)) (sym place) ∙ more (i - at) (omega arith)

-- ---- what it tells of a window: every base before it has a code that the list has, and it has not, unless it is the window's end

pub record IsFirst (A : Coding) (lent : List ℕ) (offset start end first : ℕ) : Type 0 where
  pub before : Passes A lent offset start first end
  pub there : first < end → A.assigned (code_at A lent offset first) ≡ false

module _ (A : Coding) (lent : List ℕ) (offset start end : ℕ) where
  abbrev Told : Type 0
  Told = IsFirst A lent offset start end (first_lacking_of A lent offset start end)

  -- from base i on, which is reached, n bases are left
  from : (n i : ℕ) → i + n ≡ end → Passes A lent offset start i end → Told
  from zero i e p =
      let all : i ≡ end = omega arith in
      let first : first_lacking_of A lent offset start end ≡ end =
      lacking_past A lent offset p ∙ ap (λ (k : ℕ). first_lacking_of A lent offset k end) all ∙ lacking_end A lent offset end in
      rw first (record { before = rw all at p; there = λ l. absurd (omega arith) })
  from (suc n) i e p = by_code (from n (i + 1) (omega arith)) (A.assigned (code_at A lent offset i)) refl
    where
      by_code : (Passes A lent offset start (i + 1) end → Told) → (t : Bool) → A.assigned (code_at A lent offset i) ≡ t → Told
      by_code on true q =
          on
          (passes_more A lent offset 1 p (omega arith)
          (λ t l.
          let same : i + t ≡ i = omega arith in
          ap (λ (k : ℕ). A.assigned (code_at A lent offset k)) same ∙ q))
      by_code on false q = rw (lacking_past A lent offset p ∙ lacking_here A lent offset i end (omega arith) q) (record { before = p; there = λ l. q })

  pub is_first : start ≤ end → Told
  is_first h = from (end - start) start (omega arith) (passes_none A lent offset start end h)

-- ---- the codes of a packed text are its members', so that all of its bases are passed

pub text_passes : (A : Coding) → Lawful A → (text lent : List ℕ) (offset start end : ℕ) → start ≤ end → end ≤ length text
    → ((i : ℕ) → i < length text → A.member (at text i) ≡ true)
    → ((k : ℕ) → start * A.width ≤ k → k < end * A.width → bit_at 8 (file_byte lent offset) k ≡ bit_at 8 (at (pack A.width (map A.code text))) k)
    → Passes A lent offset start end end
text_passes A law text lent offset start end order inside members own = record { from = order; to = omega arith; each = each }
  where
    each : (i : ℕ) → start ≤ i → i < end → A.assigned (code_at A lent offset i) ≡ true
    each i l h =
        let w : ℕ = A.width in
        let f : ℕ → ℕ = λ t. A.code (at text (i + t)) in
        let low : start * w ≤ i * w = mul-le-mul_right w l in
        let high : (i + 1) * w ≤ end * w = mul-le-mul_right w (omega arith) in
        let here : i + 0 ≡ i = add-zero i in
        let one : codes_from w lent offset i 1 ≡ tabulate 1 f =
        codes_of_text A law text lent offset i 1 (omega arith) (λ t m. members (i + t) (omega arith)) (λ k a z. own k (omega arith) (omega arith)) in
        let code : code_at A lent offset i ≡ A.code (at text i) =
        ap (code_at A lent offset) (sym here)
        ∙ sym (codes_at A lent offset i 1 0 (omega arith))
        ∙ ap (λ (l : List ℕ). at l 0) one
        ∙ get_d_tabulate 1 f 0 0 (omega arith)
        ∙ ap (λ (k : ℕ). A.code (at text k)) here in
        ap A.assigned code ∙ law.has_symbol (at text i) (members i (omega arith))

-- ---- in every alphabet but Protein all bases are passed, whatever their codes

pub others_pass : (k : AlphabetType) → (k ≡ Protein → ⊥) → (lent : List ℕ) (offset start end : ℕ) → start ≤ end → Passes (coding k) lent offset start end end
others_pass k other lent offset start end h =
    let w : ℕ = (coding k).width in
    record {
      from = h;
      to = omega arith;
      each = λ i l m. every_assigned k other (code_at (coding k) lent offset i) (word_lt (bit_at 8 (file_byte lent offset)) (bit_lt 8 (file_byte lent offset)) (i * w) w);
    }

-- a window's question is answered yes there, and where it has no bases
pub empty-assigned : (A : Coding) (lent : List ℕ) (offset start end : ℕ) → end ≤ start → all_assigned A lent offset start end ≡ true
unfolding first_lacking_of
empty-assigned A lent offset start end h = le-leb end (first_lacking_of A lent offset start end) (omega arith)

pub others_assigned : (k : AlphabetType) → (k ≡ Protein → ⊥) → (lent : List ℕ) (offset start end : ℕ) → all_assigned (coding k) lent offset start end ≡ true
others_assigned k other lent offset start end = go (dec_lt start end)
  where
    go : Dec (start < end) → all_assigned (coding k) lent offset start end ≡ true
    go (yes h) =
        let none : first_lacking_of (coding k) lent offset start end ≡ end =
        lacking_none (coding k) lent offset (others_pass k other lent offset start end (omega arith)) in
        le-leb end (first_lacking_of (coding k) lent offset start end) (omega (arith, none))
    go (no h) = empty-assigned (coding k) lent offset start end (omega arith)

-- ---- Protein's codes, five bits each

-- a covered window's bytes are lent, and so are those of the rest of it
pub covered-lent : {lent : List ℕ} {offset start end : ℕ} → Near start end → covers (coding Protein) lent offset start end ≡ true → Covered lent offset start end
unfolding covers
covered-lent {lent} {offset} {start} {end} near all =
    let b : ℕ = (coding Protein).width in
    let range = both_true (leb offset (first_byte b start)) (leb (end_byte b end) (offset + length lent)) all in
    record {
      near = near;
      begins = subst (λ (w : ℕ). offset ≤ first_byte w start) widths.of_protein (leb-true offset (first_byte b start) range.0);
      ends = subst (λ (w : ℕ). end_byte w end ≤ offset + length lent) widths.of_protein (leb-true (end_byte b end) (offset + length lent) range.1);
    }

pub rest_lent : {lent : List ℕ} {offset start end i : ℕ} → Covered lent offset start end → start ≤ i → i ≤ end → Covered lent offset i end
rest_lent l from to = record { near = record { order = to; far = l.near.far }; begins = omega (arith, l.begins); ends = l.ends }

module _ (lent : List ℕ) (offset : ℕ) where
  abbrev bits : ℕ → ℕ
  bits = bit_at 8 (file_byte lent offset)

  pub protein-code : (i : ℕ) → code_at (coding Protein) lent offset i ≡ word bits (i * 5) 5
  protein-code i = ap (λ (w : ℕ). word bits (i * w) w) widths.of_protein

  code_fits : (i : ℕ) → code_at (coding Protein) lent offset i < 32
  code_fits i = rw (protein-code i) (word_lt bits (bit_lt 8 (file_byte lent offset)) (i * 5) 5)

  pub protein_has : (i : ℕ) → word bits (i * 5) 5 < 29 → (coding Protein).assigned (code_at (coding Protein) lent offset i) ≡ true
  protein_has i h = protein-assigned (code_at (coding Protein) lent offset i) (code_fits i) ∙ lt-ltb (code_at (coding Protein) lent offset i) 29 (rw (protein-code i) h)

  pub protein_lacks : (i : ℕ) → 29 ≤ word bits (i * 5) 5 → (coding Protein).assigned (code_at (coding Protein) lent offset i) ≡ false
  protein_lacks i h = protein-assigned (code_at (coding Protein) lent offset i) (code_fits i) ∙ le-ltb (code_at (coding Protein) lent offset i) 29 (rw (protein-code i) h)

  -- n codes, eleven at most, from code i on, which stands in byte `first`: x is the number that the m bytes from there on write, of which r bits stand behind them
  module _ (x first i n m r : ℕ) (begins : offset ≤ first) (before : first * 8 ≤ i * 5) (fill : m * 8 ≡ i * 5 - first * 8 + n * 5 + r)
      (e : x ≡ word (bit_at 8 (at lent)) ((first - offset) * 8) (m * 8)) where
    abbrev q : ℕ
    q = i * 5 - first * 8

    shifted : x / 2 ^ r ≡ word bits (first * 8) (q + n * 5)
    shifted =
        ap (λ (y : ℕ). y / 2 ^ r) (e ∙ sym (word-lent lent offset first (m * 8) begins) ∙ ap (word bits (first * 8)) fill)
        ∙ word_high bits (bit_lt 8 (file_byte lent offset)) (first * 8) (q + n * 5) r

    pub shifted_fits : i * 5 - first * 8 + n * 5 ≤ 62 → x / 2 ^ r < 2 ^ 62
    shifted_fits h = rw shifted (lt_of_lt_of_le (word_lt bits (bit_lt 8 (file_byte lent offset)) (first * 8) (q + n * 5)) (pow_mono h))

    -- where the eleven fields above those bits, of which v are shifted out and p passed over, are below 29, all are symbols'
    pub eleven : (v p : ℕ) → v + p ≡ r → n ≤ 11 → ((j : ℕ) → j < 11 → x / 2 ^ v / 2 ^ (p + j * 5) % 2 ^ 5 < 29)
        → (t : ℕ) → t < n → (coding Protein).assigned (code_at (coding Protein) lent offset (i + t)) ≡ true
    eleven v p sum few small t h =
        let u : ℕ = n - 1 - t in
        let place : v + (p + u * 5) ≡ r + u * 5 = omega (arith, sum) in
        let field : x / 2 ^ v / 2 ^ (p + u * 5) ≡ x / 2 ^ r / 2 ^ (u * 5) = shr-shr x v (p + u * 5) ∙ ap (λ (k : ℕ). x / 2 ^ k) place ∙ sym (shr-shr x r (u * 5)) in
        let whole : q + n * 5 ≡ q + t * 5 + 5 + u * 5 = omega arith in
        let here : first * 8 + (q + t * 5) ≡ (i + t) * 5 = omega arith in
        let code : x / 2 ^ r / 2 ^ (u * 5) % 2 ^ 5 ≡ word bits ((i + t) * 5) 5 =
        ap (λ (y : ℕ). y / 2 ^ (u * 5) % 2 ^ 5) (shifted ∙ ap (word bits (first * 8)) whole)
        ∙ word_field bits (bit_lt 8 (file_byte lent offset)) (first * 8) (q + t * 5) 5 (u * 5)
        ∙ ap (λ (k : ℕ). word bits k 5) here in
        protein_has (i + t) (rw (← code, ← field) (small u (omega arith)))

-- ---- the first such base, behind bases that are passed

pub first_past : (A : Coding) (lent : List ℕ) (offset start at end : ℕ) (r : Option ℕ) → Passes A lent offset start at end → FirstLacking A lent offset at end r
    → FirstLacking A lent offset start end r
first_past A lent offset start at end None p e = lacking_past A lent offset p ∙ e
first_past A lent offset start at end (Some i) p e = (e.0 ∙ sym (lacking_past A lent offset p), e.1)
