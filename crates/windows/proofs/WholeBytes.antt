-- Windows that are read by whole bytes: blocks of codes over any width, and plain bytes.
use Rattle.std.proofs.Common.{◌≡◌, ℕ, suc, ◌+◌, ◌-◌, ◌*◌, ◌/◌, ◌%◌, ◌^◌, ◌<◌, ◌≤◌, min, false, List, ◌++◌, map, length, take, drop, replicate}
use Rattle.std.proofs.Common.{sym, ap, ◌∙◌, ap₂, ⊎_elim, lt_of_lt_of_le, add-zero, zero-add, mod-lt, mod-eq_of_lt}
use Rattle.std.proofs.Common.{mul_assoc, suc-mul, add-mul, div-add-mod', mul-div_cancel, arith, pow_mono, length-drop, length-take-le, get_or-drop, get_or-take}
use native.Mathlib.Nat.{mod_self}
use native.Mathlib.Decide.{dec_lt}
use lib.ListN.{length-map}
use lib.Seq.{ext_get_or}
use Rattle.bits.specs.Tables.{tabulate, at, Bytes}
use Rattle.bits.specs.Streams.{bit_at, word, fields}
use Rattle.bits.specs.Packing.{file_byte, codes_from}
use Rattle.bits.proofs.Tabulated.{length-tabulate, tabulate_ext, tabulate-add, get_d_tabulate, is_tabulate, replicate-tabulate, map-tabulate}
use Rattle.bits.proofs.Words.{word_ext, word_lt, bit_lt}
use Rattle.bits.proofs.Shifts.{push_byte_is, code_lt}
use Rattle.bits.proofs.Blocks.{block_codes, aligned_codes, cut-fields, word_byte, word_bytes, two_bytes}
use Rattle.bits.proofs.Files.{file_before, file_lent, file_past, file_small, word-lent}
use Rattle.alphabet.specs.Symbols.{Coding, coding}
use Rattle.alphabet.specs.declared.kind.AlphabetType.{AlphabetType}
use Rattle.alphabet.proofs.Laws.{Plain, shape}
use Rattle.windows.specs.Window.{window}
use Rattle.windows.specs.Workers.{symbols_of, file_bytes}
use Rattle.windows.proofs.Windows.{base_at, window_bases}

-- ---- the number that some bytes of a list write

pub number_part : (xs : List ℕ) (i k n v : ℕ) → k ≡ n → i + n ≤ length xs
    → v ≡ word (bit_at 8 (at (take k (drop i xs)))) 0 (length (take k (drop i xs)) * 8) → v ≡ word (bit_at 8 (at xs)) (i * 8) (n * 8)
unfolding bit_at
number_part xs i k n v same room e =
    let part : List ℕ = take n (drop i xs) in
    let len : length part ≡ n = length-take-le n (drop i xs) (omega (arith, length-drop i xs)) in
    e
    ∙ ap (λ (m : ℕ). word (bit_at 8 (at (take m (drop i xs)))) 0 (length (take m (drop i xs)) * 8)) same
    ∙ ap (λ (m : ℕ). word (bit_at 8 (at part)) 0 (m * 8)) len
    ∙ word_ext (bit_at 8 (at part)) (bit_at 8 (at xs)) 0 (i * 8) (n * 8)
    (λ t l.
    let place : i + (0 + t) / 8 ≡ (i * 8 + t) / 8 = omega arith in
    let rest : (0 + t) % 8 ≡ (i * 8 + t) % 8 = omega arith in
    ap₂ (λ (x y : ℕ). x / 2 ^ (8 - 1 - y) % 2) (get_or-take n (drop i xs) ((0 + t) / 8) 0 (omega arith) ∙ get_or-drop i xs ((0 + t) / 8) 0 ∙ ap (at xs) place) rest)

-- ---- blocks: c bases that fill n bytes

-- where the first begins with byte j
window_block : (A : Coding) (lent : List ℕ) (offset c n i j : ℕ) → i * A.width ≡ j * 8 → c * A.width ≡ n * 8
    → window A lent offset i c ≡ symbols_of A c (word (bit_at 8 (file_byte lent offset)) (j * 8) (n * 8))
unfolding window codes_from symbols_of
window_block A lent offset c n i j first whole = ap (map A.symbol) (aligned_codes (file_byte lent offset) A.width c n i j first whole)

module _ (A : Coding) (lent : List ℕ) (offset c n : ℕ) (whole : c * A.width ≡ n * 8) where
  -- where the first begins anywhere, and its bytes and the next one are lent: v is the number that these write
  pub block_of_lent : (i j skip v : ℕ) → i * A.width ≡ j * 8 + skip → skip ≤ 8 → offset ≤ j → v ≡ word (bit_at 8 (at lent)) ((j - offset) * 8) ((n + 1) * 8)
      → symbols_of A c (v / 2 ^ (8 - skip)) ≡ window A lent offset i c
  unfolding window codes_from symbols_of
  block_of_lent i j skip v begins h l e =
      let all : skip + c * A.width + (8 - skip) ≡ (n + 1) * 8 = omega (arith, whole) in
      ap (λ (x : ℕ). map A.symbol (fields A.width c (x / 2 ^ (8 - skip)))) (e ∙ sym (word-lent lent offset j ((n + 1) * 8) l))
      ∙ sym (ap (map A.symbol) (block_codes (file_byte lent offset) A.width c (n + 1) i j skip (8 - skip) begins all))

  -- block m begins at the bit of its byte at which the first one does
  pub next_block : (start first skip m : ℕ) → start * A.width ≡ first * 8 + skip → (start + m * c) * A.width ≡ (first + m * n) * 8 + skip
  next_block start first skip m e =
      let bytes : m * c * A.width ≡ m * n * 8 = mul_assoc m c A.width ∙ ap (λ (x : ℕ). m * x) whole ∙ sym (mul_assoc m n 8) in
      add-mul start (m * c) A.width ∙ omega (arith, e, bytes)

-- a block in one byte
pub block_of_byte : (A : Coding) (lent : List ℕ) (offset c : ℕ) → Bytes lent → c * A.width ≡ 8 → (i j : ℕ) → i * A.width ≡ j * 8
    → symbols_of A c (file_byte lent offset j) ≡ window A lent offset i c
block_of_byte A lent offset c bytes whole i j begins =
    ap (symbols_of A c) (sym (word_byte (file_byte lent offset) (λ k. file_small lent offset k bytes) j)) ∙ sym (window_block A lent offset c 1 i j begins whole)

-- a base is one of its byte's
pub base_of_byte : (A : Coding) (lent : List ℕ) (offset c : ℕ) → Bytes lent → c * A.width ≡ 8 → 0 < c → (i : ℕ)
    → at (symbols_of A c (file_byte lent offset (i / c))) (i % c) ≡ base_at A lent offset i
base_of_byte A lent offset c bytes whole some i =
    let first : ℕ = i / c * c in
    let begins : first * A.width ≡ i / c * 8 = mul_assoc (i / c) c A.width ∙ ap (λ (x : ℕ). i / c * x) whole in
    ap (λ (xs : List ℕ). at xs (i % c)) (block_of_byte A lent offset c bytes whole first (i / c) begins ∙ window_bases A lent offset first c)
    ∙ get_d_tabulate c (λ t. base_at A lent offset (first + t)) (i % c) 0 (mod-lt i some)
    ∙ ap (base_at A lent offset) (div-add-mod' i c)

-- ---- a byte's worth of bases that begins anywhere

-- c bases that fill eight bits, from base i on: of x, their byte, and y, the next one, which may be any where the first base begins with its byte
module _ (A : Coding) (lent : List ℕ) (offset c i j skip x y : ℕ) (bytes : Bytes lent) (whole : c * A.width ≡ 8) (begins : i * A.width ≡ j * 8 + skip) (h : skip < 8) where
  abbrev byte : ℕ → ℕ
  byte = file_byte lent offset

  pub window_across : x ≡ byte j → y < 256 → (0 < skip → y ≡ byte (j + 1)) → symbols_of A c ((x * 256 + y) / 2 ^ (8 - skip) % 256) ≡ window A lent offset i c
  unfolding window codes_from symbols_of
  window_across e small next =
      let bits : skip + 8 + (8 - skip) ≡ 16 = omega arith in
      let run : (x * 256 + y) / 2 ^ (8 - skip) % 256 ≡ word (bit_at 8 byte) (j * 8 + skip) 8 =
      two_bytes byte (λ k. file_small lent offset k bytes) j skip 8 (8 - skip) x y bits e small (λ l. next (omega arith)) in
      ap (λ (v : ℕ). map A.symbol (fields A.width c v)) (run ∙ ap₂ (word (bit_at 8 byte)) (sym begins) (sym whole))
      ∙ sym (ap (map A.symbol) (cut-fields (bit_at 8 byte) (bit_lt 8 byte) A.width (i * A.width) c))

-- both of lent bytes: of byte k, and of it and the one behind it where bits of that are needed
module _ (A : Coding) (lent : List ℕ) (offset c i j k : ℕ) (bytes : Bytes lent) (whole : c * A.width ≡ 8) (e : j ≡ offset + k) where
  of_file : (m : ℕ) → at lent (k + m) ≡ file_byte lent offset (j + m)
  of_file m = let place : k + m ≡ j + m - offset = omega arith in ap (at lent) place ∙ sym (file_lent lent offset (j + m) (omega arith))

  itself : at lent k ≡ file_byte lent offset j
  itself = ap (at lent) (sym (add-zero k)) ∙ of_file 0 ∙ ap (file_byte lent offset) (add-zero j)

  pub block_of_lent_byte : i * A.width ≡ j * 8 → symbols_of A c (at lent k) ≡ window A lent offset i c
  block_of_lent_byte begins = ap (symbols_of A c) itself ∙ block_of_byte A lent offset c bytes whole i j begins

  pub lent_across : (skip next : ℕ) → i * A.width ≡ j * 8 + skip → skip < 8 → (0 < skip → next ≡ 1)
      → symbols_of A c ((at lent k * 256 + at lent (k + next)) / 2 ^ (8 - skip) % 256) ≡ window A lent offset i c
  lent_across skip next begins h one =
      window_across A lent offset c i j skip (at lent k) (at lent (k + next)) bytes whole begins h itself (bytes (k + next))
      (λ l. ap (λ (m : ℕ). at lent (k + m)) (one l) ∙ of_file 1)

-- bytes pushed one after another (`push_byte`) write the number that they write; up to eight of them nothing falls out
pub pushed : (byte : ℕ → ℕ) → ((j : ℕ) → byte j < 256) → (j n x : ℕ) → n < 8 → x ≡ word (bit_at 8 byte) (j * 8) (n * 8)
    → x % 2 ^ 56 * 256 + byte (j + n) ≡ word (bit_at 8 byte) (j * 8) (n * 8 + 8)
pushed byte small j n x h e =
    let most : n * 8 ≤ 56 = omega arith in
    let fit : word (bit_at 8 byte) (j * 8) (n * 8) < 2 ^ 56 = lt_of_lt_of_le (word_lt (bit_at 8 byte) (bit_lt 8 byte) (j * 8) (n * 8)) (pow_mono most) in
    push_byte_is x (byte (j + n)) (rw e fit) ∙ ap (λ (y : ℕ). y * 256 + byte (j + n)) e ∙ sym (word_bytes byte small j n)

-- the same from the first byte on
pub pushed_first : (byte : ℕ → ℕ) → ((j : ℕ) → byte j < 256) → (n x y : ℕ) → n < 8 → x ≡ word (bit_at 8 byte) 0 (n * 8) → y ≡ x % 2 ^ 56 * 256 + byte n
    → y ≡ word (bit_at 8 byte) 0 ((n + 1) * 8)
pushed_first byte small n x y h e more =
    let next : n * 8 + 8 ≡ (n + 1) * 8 = omega arith in
    more
    ∙ ap (λ (k : ℕ). x % 2 ^ 56 * 256 + byte k) (sym (zero-add n))
    ∙ pushed byte small 0 n x h e
    ∙ ap (word (bit_at 8 byte) 0) next

-- ---- the symbols of a block, from the table

pub length_symbols : (A : Coding) (c v : ℕ) → length (symbols_of A c v) ≡ c
unfolding symbols_of fields
length_symbols A c v = simp (length-map, length-tabulate)

-- the entries at the fields of a number
pub entry_fields : (table : List ℕ) (b c v : ℕ) → map (at table) (fields b c v) ≡ tabulate c (λ t. at table (v / 2 ^ ((c - 1 - t) * b) % 2 ^ b))
unfolding fields
entry_fields table b c v = map-tabulate (at table) (λ t. v / 2 ^ ((c - 1 - t) * b) % 2 ^ b) c

pub entries : (A : Coding) (table : List ℕ) (b c v : ℕ) → A.width ≤ 5 → table ≡ tabulate 32 A.symbol → A.width ≡ b → map (at table) (fields b c v) ≡ symbols_of A c v
unfolding symbols_of fields
entries A table b c v narrow laid width =
    let f : ℕ → ℕ = λ t. v / 2 ^ ((c - 1 - t) * b) % 2 ^ b in
    let five : b ≤ 5 = omega (arith, narrow) in
    map-tabulate (at table) f c
    ∙ tabulate_ext c (λ t. at table (f t)) (λ t. A.symbol (f t))
    (λ t h.
    let small : f t < 32 = code_lt (v / 2 ^ ((c - 1 - t) * b)) b five in
    ap (λ (l : List ℕ). at l (f t)) laid ∙ get_d_tabulate 32 A.symbol (f t) 0 small)
    ∙ sym (map-tabulate A.symbol f c)
    ∙ ap (λ (w : ℕ). map A.symbol (fields w c v)) (sym width)

-- block m of those that begin with base `start`, from the number that its bytes and the next one write
pub block_written : (A : Coding) (lent : List ℕ) (offset start c n b m k from v : ℕ) (table : List ℕ) → c * A.width ≡ n * 8 → A.width ≤ 5 → table ≡ tabulate 32 A.symbol → b ≡ A.width
    → offset ≤ start * b / 8 → from ≡ start * b / 8 - offset + m * n → k ≡ n + 1 → from + (n + 1) ≤ length lent
    → v ≡ word (bit_at 8 (at (take k (drop from lent)))) 0 (length (take k (drop from lent)) * 8)
    → map (at table) (fields b c (v / 2 ^ (8 - start * b % 8))) ≡ window A lent offset (start + m * c) c
block_written A lent offset start c n b m k from v table whole narrow laid width lends place same room e =
    let bit : ℕ = start * b in
    let first : ℕ = bit / 8 in
    let skip : ℕ = bit % 8 in
    let begins : start * A.width ≡ first * 8 + skip = ap (λ (x : ℕ). start * x) (sym width) ∙ omega arith in
    let number : v ≡ word (bit_at 8 (at lent)) ((first + m * n - offset) * 8) ((n + 1) * 8) =
    number_part lent from k (n + 1) v same room e ∙ ap (λ (x : ℕ). word (bit_at 8 (at lent)) (x * 8) ((n + 1) * 8)) (omega arith) in
    entries A table b c (v / 2 ^ (8 - skip)) narrow laid (sym width)
    ∙ block_of_lent A lent offset c n whole (start + m * c) (first + m * n) skip v (next_block A lent offset c n whole start first skip m begins) (omega arith) (omega arith) number

-- ---- where whole blocks of g bases begin

module _ (g start count head : ℕ) (some : 0 < g) (e : head ≡ min ((g - start % g) % g) count) where
  -- bases are left behind the head, so it reaches a multiple of g
  pub aligned : head < count → (start + head) / g * g ≡ start + head
  aligned inner = go (dec_lt 0 (start % g))
    where
      parts : start / g * g + start % g ≡ start
      parts = div-add-mod' start g

      go : Dec (0 < start % g) → (start + head) / g * g ≡ start + head
      go (yes h) =
          let up : (g - start % g) % g ≡ g - start % g = mod-eq_of_lt (omega (arith, mod-lt start some)) in
          let sum : start + head ≡ suc (start / g) * g = omega (arith, inner, parts, up, suc-mul (start / g) g, mod-lt start some) in
          rw sum (ap (λ (x : ℕ). x * g) (mul-div_cancel (suc (start / g)) some))
      go (no h) =
          let full : g - start % g ≡ g = omega arith in
          let up : (g - start % g) % g ≡ 0 = ap (λ (x : ℕ). x % g) full ∙ mod_self g in
          let sum : start + head ≡ start / g * g = omega (arith, inner, parts, up) in
          rw sum (ap (λ (x : ℕ). x * g) (mul-div_cancel (start / g) some))

-- ---- plain bytes

-- a window of plain bytes
pub window-plain : (A : Coding) → Plain A → (lent : List ℕ) → Bytes lent → (offset start n : ℕ) → window A lent offset start n ≡ file_bytes lent offset start n
unfolding base_at file_bytes
window-plain A plain lent bytes offset start n =
    let s : ℕ → ℕ = bit_at 8 (file_byte lent offset) in
    window_bases A lent offset start n
    ∙ tabulate_ext n (λ i. base_at A lent offset (start + i)) (λ i. file_byte lent offset (start + i))
    (λ i h.
    plain.same_symbol (word s ((start + i) * A.width) A.width)
    ∙ ap (λ (w : ℕ). word s ((start + i) * w) w) plain.eight
    ∙ word_byte (file_byte lent offset) (λ k. file_small lent offset k bytes) (start + i))

-- such a window is in three parts: zeros before the lent bytes, some of these, zeros behind them
plain_parts : (lent : List ℕ) (offset start n before first m rest : ℕ) → before ≡ min (offset - start) n → first ≡ min (start + before - offset) (length lent)
    → m ≡ min (length lent - first) (n - before) → rest ≡ n - before - m
    → replicate before 0 ++ (take m (drop first lent) ++ replicate rest 0) ≡ file_bytes lent offset start n
unfolding file_bytes
plain_parts lent offset start n before first m rest eb ef em er =
    let f : ℕ → ℕ = λ i. file_byte lent offset (start + i) in
    let whole : before + (m + rest) ≡ n = omega arith in
    let zeros : replicate before 0 ≡ tabulate before f =
    replicate-tabulate before 0 ∙ tabulate_ext before (λ i. 0) f (λ i h. sym (file_before lent offset (start + i) (omega arith))) in
    let some : take m (drop first lent) ≡ tabulate m (λ i. f (before + i)) =
    is_tabulate m (λ i. f (before + i)) 0 (take m (drop first lent)) (length-take-le m (drop first lent) (omega (arith, length-drop first lent)))
    (λ i h.
    let place : first + i ≡ start + (before + i) - offset = omega arith in
    get_or-take m (drop first lent) i 0 h ∙ get_or-drop first lent i 0 ∙ ap (at lent) place ∙ sym (file_lent lent offset (start + (before + i)) (omega arith))) in
    let past : replicate rest 0 ≡ tabulate rest (λ i. f (before + (m + i))) =
    replicate-tabulate rest 0 ∙ tabulate_ext rest (λ i. 0) (λ i. f (before + (m + i))) (λ i h. sym (file_past lent offset (start + (before + (m + i))) (omega arith))) in
    ap₂ (λ (x y : List ℕ). x ++ y) zeros (ap₂ (λ (x y : List ℕ). x ++ y) some past ∙ sym (tabulate-add m rest (λ i. f (before + i))))
    ∙ sym (tabulate-add before (m + rest) f)
    ∙ ap (λ (k : ℕ). tabulate k f) whole

-- memory in three parts, of which the second is copied
pub parts_written : (lent : List ℕ) (offset start n before first m a b : ℕ) (xs ys zs : List ℕ) → before ≡ min (offset - start) n → first ≡ min (start + before - offset) (length lent)
    → m ≡ min (length lent - first) (n - before) → a ≡ before → length ys ≡ m → b ≡ n - before - m
    → xs ≡ replicate a 0 → ((i : ℕ) → i < m → at ys i ≡ at lent (first + i)) → zs ≡ replicate b 0 → xs ++ (ys ++ zs) ≡ file_bytes lent offset start n
parts_written lent offset start n before first m a b xs ys zs eb ef em ea len er ex each ez =
    let part : List ℕ = take m (drop first lent) in
    let whole : length part ≡ m = length-take-le m (drop first lent) (omega (arith, length-drop first lent)) in
    let copy : ys ≡ part =
    ext_get_or 0 ys part (len ∙ sym whole) (λ i h. each i (rw len at h) ∙ sym (get_or-take m (drop first lent) i 0 (rw len at h) ∙ get_or-drop first lent i 0)) in
    ap₂ (λ (x y : List ℕ). x ++ y) (ex ∙ ap (λ (i : ℕ). replicate i 0) ea) (ap₂ (λ (x y : List ℕ). x ++ y) copy ez) ∙ plain_parts lent offset start n before first m b eb ef em er

-- ---- the two shapes of alphabets, by their width

pub plain_of : (k : AlphabetType) → (coding k).width ≡ 8 → Plain (coding k)
plain_of k e = ⊎_elim (λ p. absurd (omega (arith, p.five))) (λ p. p) (shape false k)

pub five_of : (k : AlphabetType) → ((coding k).width ≡ 8 → ⊥) → (coding k).width ≤ 5
five_of k e = ⊎_elim (λ p. p.five) (λ p. absurd (e p.eight)) (shape false k)
