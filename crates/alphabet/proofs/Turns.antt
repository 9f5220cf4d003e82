-- One law for each turn of this crate's loops.
use Rattle.std.proofs.Common.{◌≡◌, ℕ, suc, ◌+◌, ◌-◌, ◌<◌, ◌≤◌, Bool, true, false, cond, ◌&&◌, ◌||◌, eqb, ◌⊎◌, List, [], ◌∷◌, ◌++◌, map}
use Rattle.std.specs.List.{list_any}
use Rattle.std.proofs.Common.{length, drop, set, sym, refl, ap, ◌∙◌, subst, inl, inr, add-one, arith, length-set, drop_of_length-le, get_or-drop, drop-cons}
use Rattle.std.proofs.Common.{get_or-set_same, get_or-set_other, le_trans, take, take_all, length-drop, lt-ltb, ne_eqb, replicate}
use native.Mathlib.Decide.{dec_lt}
use borrow.Author.Tests.{eqb-true, eqb-false}
use lib.Bits.{bit_and, and_le_l}
use Rattle.std.proofs.lemmas.List.{take-append-drop, drop-drop, drop-append-le}
use Rattle.bits.specs.Tables.{tabulate, at, Bytes}
use Rattle.bits.proofs.Tabulated.{length-tabulate, get_d_tabulate, is_tabulate, tabulate_ext, front_more, replicate-tabulate}
use Rattle.bits.proofs.Computed.{and_true, and_false}
use Rattle.alphabet.specs.declared.kind.AlphabetType.{AlphabetType}
use Rattle.alphabet.specs.declared.kind.AlphabetType.TheVariants.{Ascii, Unknown}
use Rattle.alphabet.specs.Symbols.{symbol_of, code_of, among, found, Coding, listed, plain, coding, canon, folded, upper, folded_entries, folds, coding_by}
use Rattle.alphabet.specs.Guess.{mask_of, masked}
use Rattle.alphabet.proofs.Folding.{upper_below, upper_above, upper_between, canon_lt}
use Rattle.alphabet.proofs.Laws.{at_folded, length-folded, folded-drop, folded-append, folded_bytes}
use Rattle.alphabet.proofs.Masks.{masked_ascii, masked-append}
use Rattle.alphabet.proofs.Pairs.{found_or}

-- ---- a table filled from a list, read from its end: place j is for the key j

module _ (key value : List ℕ → ℕ) where
  -- the last pair counts where no pair before it has the key
  found_push : (none : ℕ) (pairs : List (List ℕ)) (p : List ℕ) (x : ℕ)
      → found key value none (pairs ++ p ∷ []) x ≡ found key value (cond (eqb x (key p)) (value p) none) pairs x
  unfolding found
  found_push none [] p x = refl
  found_push none (q ∷ pairs) p x = ap (cond (eqb x (key q)) (value q)) (found_push none pairs p x)

  module _ (n : ℕ) (whole : ℕ → ℕ) where
    -- pairs that are left to lay, over the table as it is, give the whole
    pub record Lays (pairs : List (List ℕ)) (table : List ℕ) : Type 0 where
      pub long : length table ≡ n
      pub each : (j : ℕ) → j < n → found key value (at table j) pairs j ≡ whole j

    -- the last of them is laid at its key's place
    pub lay_last : (pairs : List (List ℕ)) (p : List ℕ) (k : ℕ) (table : List ℕ) → k ≡ key p → Lays (pairs ++ p ∷ []) table → Lays pairs (set table k (value p))
    lay_last pairs p k table q l =
        record {
          long = length-set table k (value p) ∙ l.long;
          each = λ j h. ap (λ (x : ℕ). found key value x pairs j) (stored j h (eqb j k) refl) ∙ sym (found_push (at table j) pairs p j) ∙ l.each j h;
        }
      where
        stored : (j : ℕ) → j < n → (b : Bool) → eqb j k ≡ b → at (set table k (value p)) j ≡ cond (eqb j (key p)) (value p) (at table j)
        stored j h true e =
            let here : j ≡ k = eqb-true j k e in
            ap (at (set table k (value p))) here ∙ get_or-set_same table k (value p) 0 (rw (l.long, sym here) h)
            ∙ sym (ap (λ (b : Bool). cond b (value p) (at table j)) (ap (eqb j) (sym q) ∙ e))
        stored j h false e =
            get_or-set_other table k j (value p) 0 (eqb-false j k e)
            ∙ sym (ap (λ (b : Bool). cond b (value p) (at table j)) (ap (eqb j) (sym q) ∙ e))

    -- it is left out where its key has no place
    pub pass_last : (pairs : List (List ℕ)) (p : List ℕ) (table : List ℕ) → n ≤ key p → Lays (pairs ++ p ∷ []) table → Lays pairs table
    pass_last pairs p table past l =
        record {
          long = l.long;
          each = λ j h.
              ap (λ (b : Bool). found key value (cond b (value p) (at table j)) pairs j) (sym (ne_eqb j (key p) (λ e. omega arith)))
              ∙ sym (found_push (at table j) pairs p j)
              ∙ l.each j h;
        }

    -- none is left
    pub all_laid : (pairs : List (List ℕ)) (table : List ℕ) → length pairs ≡ 0 → Lays pairs table → table ≡ tabulate n whole
    unfolding found
    all_laid [] table e l = is_tabulate n whole 0 table l.long l.each
    all_laid (p ∷ pairs) table e l = absurd (omega (arith, e))

-- a list laid over a table as it is
pub to_lay : (key value : List ℕ → ℕ) (n : ℕ) (pairs : List (List ℕ)) (table : List ℕ) → length table ≡ n
    → Lays key value n (λ j. found key value (at table j) pairs j) pairs table
to_lay key value n pairs table e = record { long = e; each = λ j h. refl }

-- and over one value everywhere
pub to_lay_over : (key value : List ℕ → ℕ) (n none : ℕ) (pairs : List (List ℕ)) → Lays key value n (λ j. found key value none pairs j) pairs (replicate n none)
to_lay_over key value n none pairs =
    record {
      long = ap length (replicate-tabulate n none) ∙ length-tabulate n (λ j. none);
      each = λ j h.
          ap (λ (x : ℕ). found key value x pairs j)
          (ap (λ (t : List ℕ). at t j) (replicate-tabulate n none) ∙ get_d_tabulate n (λ i. none) j 0 h);
    }

-- ---- a table that gets an alphabet's codes, and keeps its other entries

module _ (entries : List ℕ) where
  -- what it has at first is what it keeps
  pub entries_kept : length entries ≡ 256 → entries ≡ tabulate 256 (at entries)
  entries_kept long = is_tabulate 256 (at entries) 0 entries long (λ v h. refl)

  abbrev pub Laid : Coding → List ℕ → Type 0
  Laid A table = table ≡ tabulate 256 (λ v. cond (A.member v) (A.code v) (at entries v))

  -- by a list
  pub laid : (b : ℕ) (pairs : List (List ℕ)) (other : ℕ) (table : List ℕ) → table ≡ tabulate 256 (λ v. found symbol_of code_of (at entries v) pairs v)
      → Laid (listed b pairs other) table
  unfolding listed
  laid b pairs other table e = e ∙ tabulate_ext 256 _ _ (λ v h. found_or symbol_of code_of 0xff (at entries v) pairs v)

  -- each byte its own code
  pub bytes_laid : (table : List ℕ) → table ≡ tabulate 256 (λ v. v) → Laid plain table
  unfolding plain
  bytes_laid table e = e ∙ tabulate_ext 256 (λ v. v) _ (λ v h. sym (ap (λ (b : Bool). cond b v (at entries v)) (lt-ltb v 256 h)))

-- ---- a table whose lowercase letters get the entries of their uppercase letters

module _ (entries : List ℕ) where
  -- the letters below v have them, and from v on nothing is changed
  pub record FoldedTo (v : ℕ) (table : List ℕ) : Type 0 where
    pub from : 0x61 ≤ v
    pub until : v ≤ 0x7b
    pub long : length table ≡ length entries
    pub done : (k : ℕ) → k < v → at table k ≡ at entries (upper k)
    pub rest : (k : ℕ) → v ≤ k → at table k ≡ at entries k

  pub fold_none : FoldedTo 0x61 entries
  fold_none = record { from = omega arith; until = omega arith; long = refl; done = λ k h. sym (ap (at entries) (upper_below k h)); rest = λ k h. refl }

  -- the next letter gets the entry that stands 32 places before its own: no letter's, so still the first one
  pub fold_more : (table : List ℕ) (v : ℕ) → v < 0x7b → v < length table → FoldedTo v table → FoldedTo (v + 1) (set table v (at table (v - 0x20)))
  fold_more table v h within p =
      let x : at table (v - 0x20) ≡ at entries (upper v) =
      p.done (v - 0x20) (omega (arith, p.from))
      ∙ ap (at entries) (upper_below (v - 0x20) (omega arith) ∙ sym (upper_between v p.from (omega arith))) in
      record {
        from = omega (arith, p.from);
        until = omega arith;
        long = length-set table v (at table (v - 0x20)) ∙ p.long;
        done = λ k l. ap (λ (y : ℕ). at (set table v y) k) x ∙ front_more (λ j. at entries (upper j)) 0 table v within p.done k l;
        rest = λ k l. get_or-set_other table v k (at table (v - 0x20)) 0 (λ e. omega arith) ∙ p.rest k (omega arith);
      }

  -- all letters that the table has places for are done
  pub fold_done : (table : List ℕ) (v : ℕ) → (0x7b ≤ v) ⊎ (length table ≤ v) → FoldedTo v table → table ≡ folded_entries true entries
  fold_done table v e p = is_tabulate (length entries) (λ k. at entries (upper k)) 0 table p.long (λ k l. go k l e (dec_lt k v))
    where
      go : (k : ℕ) → k < length entries → (0x7b ≤ v) ⊎ (length table ≤ v) → Dec (k < v) → at table k ≡ at entries (upper k)
      go k l e (yes h) = p.done k h
      go k l (inl a) (no n) = p.rest k (omega arith) ∙ sym (ap (at entries) (upper_above k (omega arith)))
      go k l (inr b) (no n) = absurd (omega (arith, p.long))

  -- without folding a table stays as it is
  pub fold_kept : entries ≡ folded_entries false entries
  fold_kept = is_tabulate (length entries) (at entries) 0 entries refl (λ k l. refl)

-- a table of f, folded by a choice, is the table of f by the choice
pub entries-folded : (fold : Bool) (f : ℕ → ℕ) (entries : List ℕ) → entries ≡ tabulate 256 f → folded_entries fold entries ≡ tabulate 256 (λ v. f (canon fold v))
entries-folded fold f entries e =
    ap (λ (n : ℕ). tabulate n (λ v. at entries (canon fold v))) (ap length e ∙ length-tabulate 256 f)
    ∙ tabulate_ext 256 (λ v. at entries (canon fold v)) (λ v. f (canon fold v))
    (λ v h. ap (λ (l : List ℕ). at l (canon fold v)) e ∙ get_d_tabulate 256 f (canon fold v) 0 (canon_lt fold v h))

-- ---- an alphabet's codes, laid by a choice to fold

module _ (entries : List ℕ) where
  -- each byte that stands for a symbol has its code, and any other the entry of what it stands for
  abbrev pub LaidBy : Bool → AlphabetType → List ℕ → Type 0
  LaidBy fold k table = table ≡ tabulate 256 (λ v. cond ((coding_by fold k).member v) ((coding_by fold k).code v) (at entries (canon (fold && folds k) v)))

  -- where the choice comes to f in the alphabet
  by_choice : (fold f : Bool) (k : AlphabetType) (table : List ℕ) → (fold && folds k) ≡ f
      → table ≡ tabulate 256 (λ v. cond ((coding k).member (canon f v)) ((coding k).code (canon f v)) (at entries (canon f v))) → LaidBy fold k table
  by_choice fold f k table e h =
      h ∙ ap (λ (g : Bool). tabulate 256 (λ v. cond ((coding k).member (canon g v)) ((coding k).code (canon g v)) (at entries (canon g v)))) (sym e)

  -- in an alphabet that folds
  pub laid_folding : (fold : Bool) (k : AlphabetType) → folds k ≡ true → (codes table : List ℕ) → Laid entries (coding k) codes → table ≡ folded_entries fold codes
      → LaidBy fold k table
  laid_folding fold k does codes table e q =
      by_choice fold fold k table (ap (λ (b : Bool). fold && b) does ∙ and_true fold)
      (q ∙ entries-folded fold (λ v. cond ((coding k).member v) ((coding k).code v) (at entries v)) codes e)

  -- and in one that does not
  pub laid_whole : (fold : Bool) (k : AlphabetType) → folds k ≡ false → (table : List ℕ) → Laid entries (coding k) table → LaidBy fold k table
  laid_whole fold k not table e = by_choice fold false k table (ap (λ (b : Bool). fold && b) not ∙ and_false fold) e

  pub laid_plain : (fold : Bool) (k : AlphabetType) → (k ≡ Ascii) ⊎ (k ≡ Unknown) → (table : List ℕ) → Laid entries plain table → LaidBy fold k table
  unfolding coding
  laid_plain fold k (inl e) table l = subst (λ (j : AlphabetType). LaidBy fold j table) (sym e) (laid_whole fold Ascii refl table l)
  laid_plain fold k (inr e) table l = subst (λ (j : AlphabetType). LaidBy fold j table) (sym e) (laid_whole fold Unknown refl table l)

-- ---- a list searched for a symbol

pub any_among : (pairs : List (List ℕ)) (v : ℕ) → list_any (λ (p : List ℕ). eqb v (symbol_of p)) pairs ≡ among (map symbol_of pairs) v
unfolding among
any_among [] v = refl
any_among (p ∷ pairs) v = ap (λ (b : Bool). eqb v (symbol_of p) || b) (any_among pairs v)

-- ---- a text scanned by masks, each byte as what it stands for

-- the byte at i is taken, and those after it are left
pub scan_more : (fold : Bool) (table text : List ℕ) (m i v : ℕ) {r : ℕ} → table ≡ tabulate 256 (λ x. mask_of (canon fold x)) → v ≡ at text i → v < 256 → i < length text
    → masked m (drop i (folded fold text)) ≡ r → masked (bit_and m (at table v)) (drop (i + 1) (folded fold text)) ≡ r
unfolding masked
scan_more fold table text m i v t q b h e =
    let given : List ℕ = folded fold text in
    let here : at table v ≡ mask_of (at given i) =
    ap (λ (l : List ℕ). at l v) t
    ∙ get_d_tabulate 256 (λ x. mask_of (canon fold x)) v 0 b
    ∙ ap (λ (x : ℕ). mask_of (canon fold x)) q
    ∙ ap mask_of (sym (at_folded fold text i)) in
    rw (add-one, here) (sym (ap (masked m) (drop-cons given i 0 (omega (arith, h, length-folded fold text)))) ∙ e)

-- nothing is left
pub scan_done : (text : List ℕ) (m i : ℕ) {r : ℕ} → length text ≤ i → masked m (drop i text) ≡ r → m ≡ r
unfolding masked
scan_done text m i h e = sym (ap (masked m) (drop_of_length-le text h)) ∙ e

-- only Ascii remains, and what is left changes nothing
pub scan_break : (text : List ℕ) (m i : ℕ) {r : ℕ} → Bytes text → m ≡ 16 → masked m (drop i text) ≡ r → m ≡ r
scan_break text m i bytes e q =
    e ∙ sym (masked_ascii (drop i text) (λ j. rw (get_or-drop i text j 0) (bytes (i + j)))) ∙ ap (λ (n : ℕ). masked n (drop i text)) (sym e) ∙ q

-- n bytes that leave a mask as it is are passed
pub scan_past : (fold : Bool) (text : List ℕ) (m i n : ℕ) {r : ℕ} → masked m (folded fold (take n (drop i text))) ≡ m → masked m (drop i (folded fold text)) ≡ r
    → masked m (drop (i + n) (folded fold text)) ≡ r
scan_past fold text m i n same e =
    let part : List ℕ = drop i text in
    let both : drop i (folded fold text) ≡ folded fold (take n part) ++ folded fold (drop n part) =
    sym (folded-drop fold i text) ∙ ap (folded fold) (sym (take-append-drop n part)) ∙ folded-append fold (take n part) (drop n part) in
    let rest : folded fold (drop n part) ≡ drop (i + n) (folded fold text) = ap (folded fold) (drop-drop n i text) ∙ folded-drop fold (i + n) text in
    ap (masked m) (sym rest)
    ∙ sym (ap (masked m) both ∙ masked-append m (folded fold (take n part)) (folded fold (drop n part)) ∙ ap (λ (k : ℕ). masked k (folded fold (drop n part))) same)
    ∙ e

-- a text scanned by chunks: what is left gives, with the mask, the whole, and is of bytes
pub record Chunked (fold : Bool) (whole acc : ℕ) (rest : List ℕ) : Type 0 where
  pub sound : acc ≤ 31
  pub bytes : Bytes rest
  pub gives : masked acc (folded fold rest) ≡ whole

-- the bytes of a part of what is left
bytes_behind : (chunk rest : List ℕ) (n : ℕ) → n ≤ length chunk → Bytes (chunk ++ rest) → Bytes (drop n chunk ++ rest)
bytes_behind chunk rest n h bytes = subst Bytes (drop-append-le n chunk rest h) (λ i. rw (get_or-drop n (chunk ++ rest) i 0) (bytes (n + i)))

-- what it is at first
pub chunk_first : (fold : Bool) (mask : ℕ) (text : List ℕ) → mask ≤ 31 → Bytes text → Chunked fold (masked mask (folded fold text)) mask text
chunk_first fold mask text h bytes = record { sound = h; bytes = bytes; gives = refl }

-- bytes that a chunk begins with and that leave the mask as it is are passed
pub chunk_passed : (fold : Bool) {whole acc : ℕ} (chunk rest : List ℕ) (start : ℕ) → start ≤ length chunk → masked acc (drop start (folded fold chunk)) ≡ masked acc (folded fold chunk)
    → Chunked fold whole acc (chunk ++ rest) → Chunked fold whole acc (take (length chunk - start) (drop start chunk) ++ rest)
chunk_passed fold {whole} {acc} chunk rest start within alike c =
    let all : take (length chunk - start) (drop start chunk) ≡ drop start chunk = take_all (length chunk - start) (drop start chunk) (omega (arith, length-drop start chunk)) in
    let both : (l : List ℕ) → masked acc (folded fold (l ++ rest)) ≡ masked (masked acc (folded fold l)) (folded fold rest) =
    λ l. ap (masked acc) (folded-append fold l rest) ∙ masked-append acc (folded fold l) (folded fold rest) in
    rw all
    (record {
      sound = c.sound;
      bytes = bytes_behind chunk rest start within c.bytes;
      gives = both (drop start chunk)
          ∙ ap (λ (m : ℕ). masked m (folded fold rest)) (ap (masked acc) (folded-drop fold start chunk) ∙ alike)
          ∙ sym (both chunk)
          ∙ c.gives;
    })

-- a byte is taken
pub chunk_byte : (fold : Bool) {whole acc : ℕ} (table part rest : List ℕ) (i v : ℕ) → table ≡ tabulate 256 (λ x. mask_of (canon fold x)) → v ≡ at part i → i < length part
    → Chunked fold whole acc (drop i part ++ rest) → Chunked fold whole (bit_and acc (at table v)) (drop (i + 1) part ++ rest)
chunk_byte fold {whole} {acc} table part rest i v t q h c =
    let left : List ℕ = drop i part ++ rest in
    let tail : List ℕ = drop (i + 1) part ++ rest in
    let split : left ≡ at part i ∷ tail = rw add-one (ap (λ (l : List ℕ). l ++ rest) (drop-cons part i 0 h)) in
    let first : at left 0 ≡ at part i = ap (λ (l : List ℕ). at l 0) split in
    let some : 0 < length left = rw split (lit<' tail) in
    let behind : drop (0 + 1) (folded fold left) ≡ folded fold tail = sym (folded-drop fold 1 left) ∙ ap (λ (l : List ℕ). folded fold (drop 1 l)) split in
    record {
      sound = le_trans (and_le_l acc (at table v)) c.sound;
      bytes = λ j. subst Bytes split c.bytes (suc j);
      gives = ap (masked (bit_and acc (at table v))) (sym behind) ∙ scan_more fold table left acc 0 v t (q ∙ sym first) (rw (q, sym first) (c.bytes 0)) some c.gives;
    }
  where
    lit<' : (l : List ℕ) → 0 < length (at part i ∷ l)
    lit<' l = omega arith

-- all bytes of a chunk are taken
pub chunk_taken : (fold : Bool) {whole acc : ℕ} (part rest : List ℕ) (i : ℕ) → length part ≤ i → Chunked fold whole acc (drop i part ++ rest) → Chunked fold whole acc rest
chunk_taken fold part rest i h c = rw (drop_of_length-le part h) at c

-- nothing is left, or only Ascii remains
pub chunk_none : (fold : Bool) {whole acc : ℕ} (rest : List ℕ) → length rest ≡ 0 → Chunked fold whole acc rest → acc ≡ whole
chunk_none fold {whole} {acc} rest none c = scan_done (folded fold rest) acc 0 (omega (arith, none, length-folded fold rest)) c.gives

pub chunk_ascii : (fold : Bool) {whole acc : ℕ} (rest : List ℕ) → acc ≡ 16 → Chunked fold whole acc rest → acc ≡ whole
chunk_ascii fold {whole} {acc} rest e c = scan_break (folded fold rest) acc 0 (folded_bytes fold rest c.bytes) e c.gives
