-- The laws of windows that other crates cite: each base by itself, a window in two parts, a window of a packed text.
use Rattle.std.proofs.Common.{◌≡◌, ℕ, suc, ◌+◌, ◌-◌, ◌*◌, ◌/◌, ◌%◌, ◌^◌, ◌<◌, ◌≤◌, true, leb, List, [], ◌∷◌, ◌++◌, map}
use Rattle.std.proofs.Common.{length, get_or, take, drop, sym, ap, ◌∙◌, ap₂, add-zero, add_assoc, mul-le-mul_right, mod-eq_of_lt, suc-mul, add-mul, arith, length-drop}
use Rattle.std.proofs.Common.{length-take-le, get_or-drop, get_or-take, leb-true}
use lib.ListN.{length-map, get_or-map}
use Rattle.bits.specs.Tables.{tabulate, at}
use Rattle.bits.specs.Streams.{bit_at, word, cut}
use Rattle.bits.specs.Packing.{pack, file_byte, codes_from, first_byte, end_byte}
use Rattle.bits.proofs.Computed.{both_true}
use Rattle.bits.proofs.Tabulated.{length-tabulate, tabulate_ext, tabulate-add, is_tabulate, get_or_within, map-tabulate}
use Rattle.bits.proofs.Words.{word_ext, bit_cong}
use Rattle.bits.proofs.Files.{file_lent}
use Rattle.bits.proofs.Packed.{codes-of-pack}
use Rattle.alphabet.specs.Symbols.{Coding}
use Rattle.alphabet.proofs.Laws.{Lawful}
use Rattle.windows.specs.Window.{window, covers}

module _ (A : Coding) (lent : List ℕ) (offset : ℕ) where
  -- base i of a file: the symbol of the b bits at i * b
  unfoldable pub base_at : ℕ → ℕ
  base_at i = A.symbol (word (bit_at 8 (file_byte lent offset)) (i * A.width) A.width)

  -- a window is its bases
  pub window_bases : (start n : ℕ) → window A lent offset start n ≡ tabulate n (λ i. base_at (start + i))
  unfolding window codes_from cut base_at
  window_bases start n =
      let b : ℕ = A.width in
      let s : ℕ → ℕ = bit_at 8 (file_byte lent offset) in
      map-tabulate A.symbol (λ i. word s (start * b + i * b) b) n
      ∙ tabulate_ext n (λ i. A.symbol (word s (start * b + i * b) b)) (λ i. base_at (start + i))
      (λ i h. ap (λ (x : ℕ). A.symbol (word s x b)) (sym (add-mul start i b)))

  pub length-window : (start n : ℕ) → length (window A lent offset start n) ≡ n
  length-window start n = ap length (window_bases start n) ∙ length-tabulate n (λ i. base_at (start + i))

  -- a window splits at any inner base
  pub window-add : (start m n : ℕ) → window A lent offset start (m + n) ≡ window A lent offset start m ++ window A lent offset (start + m) n
  window-add start m n =
      window_bases start (m + n)
      ∙ tabulate-add m n (λ i. base_at (start + i))
      ∙ ap (λ (l : List ℕ). tabulate m (λ i. base_at (start + i)) ++ l)
      (tabulate_ext n (λ i. base_at (start + (m + i))) (λ i. base_at (start + m + i)) (λ i h. ap base_at (sym (add_assoc start m i))))
      ∙ ap₂ (λ (k l : List ℕ). k ++ l) (sym (window_bases start m)) (sym (window_bases (start + m) n))

  -- a window of one base
  pub window_one : (start : ℕ) → window A lent offset start 1 ≡ base_at start ∷ []
  unfolding tabulate
  window_one start = window_bases start 1 ∙ ap (λ (i : ℕ). base_at i ∷ []) (add-zero start)

-- a base depends on its own b bits and on nothing else: files that have them in common have the base in common
pub base_own : (A : Coding) (lent lent' : List ℕ) (offset offset' i : ℕ)
    → ((t : ℕ) → t < A.width → bit_at 8 (file_byte lent offset) (i * A.width + t) ≡ bit_at 8 (file_byte lent' offset') (i * A.width + t))
    → base_at A lent offset i ≡ base_at A lent' offset' i
unfolding base_at
base_own A lent lent' offset offset' i own =
    ap A.symbol (word_ext (bit_at 8 (file_byte lent offset)) (bit_at 8 (file_byte lent' offset')) (i * A.width) (i * A.width) A.width own)

-- and so for a window and the bits of its bases
pub window-own : (A : Coding) (lent lent' : List ℕ) (offset offset' start n : ℕ)
    → ((k : ℕ) → start * A.width ≤ k → k < (start + n) * A.width → bit_at 8 (file_byte lent offset) k ≡ bit_at 8 (file_byte lent' offset') k)
    → window A lent offset start n ≡ window A lent' offset' start n
window-own A lent lent' offset offset' start n own =
    let b : ℕ = A.width in
    window_bases A lent offset start n
    ∙ tabulate_ext n (λ i. base_at A lent offset (start + i)) (λ i. base_at A lent' offset' (start + i))
    (λ i h.
    base_own A lent lent' offset offset' (start + i)
    (λ t l.
    let up : suc i * b ≤ n * b = mul-le-mul_right b h in
    own ((start + i) * b + t) (omega (arith, add-mul start i b)) (omega (arith, add-mul start i b, add-mul start n b, up, suc-mul i b))))
    ∙ sym (window_bases A lent' offset' start n)

-- a window of a packed text has the codes of the text's symbols, where the file's bits are the packing's at the window's bases and these are members
pub codes_of_text : (A : Coding) → Lawful A → (text lent : List ℕ) (offset start n : ℕ)
    → start + n ≤ length text
    → ((i : ℕ) → i < n → A.member (at text (start + i)) ≡ true)
    → ((k : ℕ) → start * A.width ≤ k → k < (start + n) * A.width → bit_at 8 (file_byte lent offset) k ≡ bit_at 8 (at (pack A.width (map A.code text))) k)
    → codes_from A.width lent offset start n ≡ tabulate n (λ i. A.code (at text (start + i)))
codes_of_text A law text lent offset start n room members own =
    let b : ℕ = A.width in
    let coded : (i : ℕ) → i < n → at (map A.code text) (start + i) % 2 ^ b ≡ A.code (at text (start + i)) = λ i h.
    let v : ℕ = at text (start + i) in
    let code : at (map A.code text) (start + i) ≡ A.code v =
    get_or_within (map A.code text) (start + i) 0 (A.code 0) (rw (length-map text A.code) (omega arith)) ∙ get_or-map A.code text (start + i) 0 in
    ap (λ (x : ℕ). x % 2 ^ b) code ∙ mod-eq_of_lt (law.fits v (members i h)) in
    codes-of-pack b (map A.code text) lent offset start n (rw (length-map text A.code) room) own
    ∙ tabulate_ext n (λ i. at (map A.code text) (start + i) % 2 ^ b) (λ i. A.code (at text (start + i))) coded

-- and so it gives the symbols back
pub window_of_text : (A : Coding) → Lawful A → (text lent : List ℕ) (offset start n : ℕ)
    → start + n ≤ length text
    → ((i : ℕ) → i < n → A.member (at text (start + i)) ≡ true)
    → ((k : ℕ) → start * A.width ≤ k → k < (start + n) * A.width → bit_at 8 (file_byte lent offset) k ≡ bit_at 8 (at (pack A.width (map A.code text))) k)
    → window A lent offset start n ≡ map A.canon (take n (drop start text))
unfolding window
window_of_text A law text lent offset start n room members own =
    let part : List ℕ = take n (drop start text) in
    let len : length part ≡ n = length-take-le n (drop start text) (omega (arith, length-drop start text)) in
    let given : (i : ℕ) → i < n → get_or (map A.canon part) i (A.canon 0) ≡ A.canon (at text (start + i)) = λ i h.
    get_or-map A.canon part i 0 ∙ ap A.canon (get_or-take n (drop start text) i 0 h ∙ get_or-drop start text i 0) in
    ap (map A.symbol) (codes_of_text A law text lent offset start n room members own)
    ∙ map-tabulate A.symbol (λ i. A.code (at text (start + i))) n
    ∙ tabulate_ext n (λ i. A.symbol (A.code (at text (start + i)))) (λ i. A.canon (at text (start + i))) (λ i h. law.back (at text (start + i)) (members i h))
    ∙ sym (is_tabulate n (λ i. A.canon (at text (start + i))) (A.canon 0) (map A.canon part) (length-map part A.canon ∙ len) given)

before_byte : (s k offset : ℕ) → s ≤ k → offset ≤ s / 8 → offset ≤ k / 8
before_byte s k offset h l = omega arith

within_bytes : (e k offset n : ℕ) → k < e → offset ≤ k / 8 → (e + 7) / 8 ≤ offset + n → k / 8 - offset < n
within_bytes e k offset n h f l = omega arith

-- the same where the lent bytes are the packing's and cover the window
pub covered_text : (A : Coding) → Lawful A → (text lent : List ℕ) (offset start end : ℕ)
    → start ≤ end → end ≤ length text
    → ((i : ℕ) → i < end - start → A.member (at text (start + i)) ≡ true)
    → ((j : ℕ) → j < length lent → at lent j ≡ at (pack A.width (map A.code text)) (offset + j))
    → covers A lent offset start end ≡ true
    → window A lent offset start (end - start) ≡ map A.canon (take (end - start) (drop start text))
unfolding covers
covered_text A law text lent offset start end order inner members same all =
    let b : ℕ = A.width in
    let packed : List ℕ = pack b (map A.code text) in
    let whole : start + (end - start) ≡ end = omega arith in
    let range = both_true (leb offset (first_byte b start)) (leb (end_byte b end) (offset + length lent)) all in
    let low : offset ≤ start * b / 8 = leb-true offset (first_byte b start) range.0 in
    let high : (end * b + 7) / 8 ≤ offset + length lent = leb-true (end_byte b end) (offset + length lent) range.1 in
    window_of_text A law text lent offset start (end - start) (omega arith) members
    (λ k from to.
    let to' : k < end * b = rw whole at to in
    let first : offset ≤ k / 8 = before_byte (start * b) k offset from low in
    let last : k / 8 - offset < length lent = within_bytes (end * b) k offset (length lent) to' first high in
    let place : offset + (k / 8 - offset) ≡ k / 8 = omega (arith, first) in
    bit_cong 8 (file_byte lent offset) (at packed) k
    (file_lent lent offset (k / 8) first ∙ same (k / 8 - offset) last ∙ ap (at packed) place))
