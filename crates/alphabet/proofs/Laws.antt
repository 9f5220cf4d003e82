-- The laws of symbols and codes that the crates above cite. They open no definition of this crate: what they know of an alphabet stands here and in Calls.
use Rattle.std.proofs.Common.{◌≡◌, ℕ, zero, suc, ◌+◌, ◌-◌, ◌/◌, ◌%◌, ◌^◌, ◌<◌, ◌≤◌, Bool, true, false, cond, not, ◌&&◌, ◌||◌, T}
use Rattle.std.proofs.Common.{eqb, ltb, ◌⊎◌, List, [], ◌∷◌, ◌++◌, map, length, take, drop, sym, refl, ap, ◌∙◌, subst, ap₂, inl, inr, true≢false}
use Rattle.std.proofs.Common.{zero-add, arith, lit<, lit≤, eqb→eq, length-drop, length-take-le, get_or-drop, get_or-take, ltb-true, lt-ltb, eq-eqb, ne_eqb, eqb-true}
use mathlib.Core.List.{map-append}
use Prim.Native.Char.{code as ascii}
use native.Mathlib.Nat.{pow-le-pow_right}
use lib.Bits.{bit_and}
use lib.ListN.{length-map}
use Rattle.bits.specs.Tables.{at, Bytes, bytes_of}
use Rattle.bits.proofs.Computed.{passes, below, and_true, and_false, alike, are_alike}
use Rattle.alphabet.specs.declared.kind.AlphabetType.{AlphabetType}
use Rattle.alphabet.specs.declared.kind.AlphabetType.TheVariants.{Dna2bit, Dna3bit, DnaIupac, Protein, Ascii, Unknown}
use Rattle.alphabet.specs.Symbols.{coded, dna2bit, dna3bit, dna_iupac, protein, symbol_of, code_of, among, found, Coding, listed, plain, coding, check_symbols}
use Rattle.alphabet.specs.Symbols.{upper, canon, folded, folds, through, coding_by}
use Rattle.alphabet.specs.Bases.{base, Bases, Run}
use Rattle.alphabet.proofs.Folding as folding
use Rattle.alphabet.proofs.Pairs.{found_none, found_among, found_back, found_fits, among_byte, symbols_apart, codes_apart}

-- ---- the check of the four lists, computed

pub record ListsChecked : Type 0 where
  pub of_dna2bit : T (check_symbols 2 dna2bit)
  pub of_dna3bit : T (check_symbols 3 dna3bit)
  pub of_dna_iupac : T (check_symbols 4 dna_iupac)
  pub of_protein : T (check_symbols 5 protein)

pub lists_checked : ListsChecked
unfolding check_symbols among dna2bit dna3bit dna_iupac protein coded bytes_of
lists_checked = record { of_dna2bit = tt; of_dna3bit = tt; of_dna_iupac = tt; of_protein = tt }

-- ---- every alphabet

pub record Lawful (A : Coding) : Type 0 where
  -- the width is 1 to 8
  pub some_bits : 0 < A.width
  pub narrow : A.width ≤ 8
  -- members are bytes
  pub byte : (v : ℕ) → A.member v ≡ true → v < 256
  -- a member's code fits the width, and its symbol is what the byte stands for
  pub fits : (v : ℕ) → A.member v ≡ true → A.code v < 2 ^ A.width
  pub back : (v : ℕ) → A.member v ≡ true → A.symbol (A.code v) ≡ A.canon v
  -- which the list has
  pub has_symbol : (v : ℕ) → A.member v ≡ true → A.assigned (A.code v) ≡ true
  -- no code belongs to two symbols
  pub one_code : (v w : ℕ) → A.member v ≡ true → A.member w ≡ true → A.code v ≡ A.code w → A.canon v ≡ A.canon w

one_of_back : (A : Coding) → ((v : ℕ) → A.member v ≡ true → A.symbol (A.code v) ≡ A.canon v)
    → (v w : ℕ) → A.member v ≡ true → A.member w ≡ true → A.code v ≡ A.code w → A.canon v ≡ A.canon w
one_of_back A back v w m n e = sym (back v m) ∙ ap A.symbol e ∙ back w n

listed_lawful : (b : ℕ) (pairs : List (List ℕ)) (other : ℕ) → 0 < b → b ≤ 8 → T (check_symbols b pairs) → Lawful (listed b pairs other)
unfolding listed
listed_lawful b pairs other some narrow t =
    let back : (v : ℕ) → among (map symbol_of pairs) v ≡ true → found code_of symbol_of other pairs (found symbol_of code_of 0xff pairs v) ≡ v =
    λ v m. found_back symbol_of code_of 0xff other pairs v (codes_apart b pairs t) m in
    record {
      some_bits = some;
      narrow = narrow;
      byte = λ v m. among_byte b pairs t v m;
      fits = λ v m. found_fits b 0xff pairs t v m;
      back = back;
      has_symbol = λ v m. found_among symbol_of code_of 0xff pairs v m;
      one_code = one_of_back (listed b pairs other) back;
    }

plain_lawful : Lawful plain
unfolding plain
plain_lawful =
    record {
      some_bits = lit< tt;
      narrow = lit≤ tt;
      byte = λ v m. ltb-true v 256 m;
      fits = λ v m. ltb-true v 256 m;
      back = λ v m. refl;
      has_symbol = λ v m. m;
      one_code = λ v w m n e. e;
    }

-- Ascii and Unknown are coded alike
pub plain_kind : {k : AlphabetType} → (k ≡ Ascii) ⊎ (k ≡ Unknown) → coding k ≡ plain
unfolding coding
plain_kind (inl e) = ap coding e
plain_kind (inr e) = ap coding e

lists_lawful : (k : AlphabetType) → Lawful (coding k)
unfolding coding
lists_lawful Dna2bit = listed_lawful 2 dna2bit _ (lit< tt) (lit≤ tt) lists_checked.of_dna2bit
lists_lawful Dna3bit = listed_lawful 3 dna3bit _ (lit< tt) (lit≤ tt) lists_checked.of_dna3bit
lists_lawful DnaIupac = listed_lawful 4 dna_iupac _ (lit< tt) (lit≤ tt) lists_checked.of_dna_iupac
lists_lawful Protein = listed_lawful 5 protein _ (lit< tt) (lit≤ tt) lists_checked.of_protein
lists_lawful Ascii = plain_lawful
lists_lawful Unknown = plain_lawful

through_lawful : (f : ℕ → ℕ) → ((v : ℕ) → f v < 256 → v < 256) → (A : Coding) → Lawful A → Lawful (through f A)
through_lawful f h A l =
    record {
      some_bits = l.some_bits;
      narrow = l.narrow;
      byte = λ v m. h v (l.byte (f v) m);
      fits = λ v m. l.fits (f v) m;
      back = λ v m. l.back (f v) m;
      has_symbol = λ v m. l.has_symbol (f v) m;
      one_code = λ v w m n e. l.one_code (f v) (f w) m n e;
    }

pub lawful : (fold : Bool) (k : AlphabetType) → Lawful (coding_by fold k)
lawful fold k = through_lawful (canon (fold && folds k)) (folding.lt_canon (fold && folds k)) (coding k) (lists_lawful k)

-- ---- what a coder knows of a byte depends on the symbol that the byte stands for alone

-- bytes that stand for one symbol are members alike and have one code
abbrev pub ByCanon : Coding → Type 0
ByCanon A = (v w : ℕ) → A.canon v ≡ A.canon w → (A.member v ≡ A.member w) × (A.code v ≡ A.code w)

listed_by_canon : (b : ℕ) (pairs : List (List ℕ)) (other : ℕ) → ByCanon (listed b pairs other)
unfolding listed
listed_by_canon b pairs other v w e = (ap (among (map symbol_of pairs)) e, ap (found symbol_of code_of 0xff pairs) e)

plain_by_canon : ByCanon plain
unfolding plain
plain_by_canon v w e = (ap plain.member e, e)

lists_by_canon : (k : AlphabetType) → ByCanon (coding k)
unfolding coding
lists_by_canon Dna2bit = listed_by_canon 2 dna2bit _
lists_by_canon Dna3bit = listed_by_canon 3 dna3bit _
lists_by_canon DnaIupac = listed_by_canon 4 dna_iupac _
lists_by_canon Protein = listed_by_canon 5 protein _
lists_by_canon Ascii = plain_by_canon
lists_by_canon Unknown = plain_by_canon

pub by_canon : (fold : Bool) (k : AlphabetType) → ByCanon (coding_by fold k)
by_canon fold k v w e = let f : ℕ → ℕ = canon (fold && folds k) in lists_by_canon k (f v) (f w) e

-- ---- the four packed alphabets, and the two plain ones

pub record Packed (A : Coding) : Type 0 where
  -- a code is below 32
  pub five : A.width ≤ 5
  -- a non-member's entry is FF, and no member's is
  pub none : (v : ℕ) → A.member v ≡ false → A.code v ≡ 0xff
  pub told : (v : ℕ) → A.member v ≡ not (eqb (A.code v) 0xff)

pub record Plain (A : Coding) : Type 0 where
  pub eight : A.width ≡ 8
  -- every byte is a member, stands for itself and is its own code
  pub all : (v : ℕ) → v < 256 → A.member v ≡ true
  pub itself : (v : ℕ) → A.canon v ≡ v
  pub same_code : (v : ℕ) → A.code v ≡ v
  pub same_symbol : (c : ℕ) → A.symbol c ≡ c

listed-packed : (b : ℕ) (pairs : List (List ℕ)) (other : ℕ) → b ≤ 5 → T (check_symbols b pairs) → Packed (listed b pairs other)
unfolding listed
listed-packed b pairs other five t =
    record {
      five = five;
      none = λ v m. found_none symbol_of code_of 0xff pairs v m;
      told = λ v. go v (among (map symbol_of pairs) v) refl;
    }
  where
    go : (x : ℕ) (m : Bool) → among (map symbol_of pairs) x ≡ m → m ≡ not (eqb (found symbol_of code_of 0xff pairs x) 0xff)
    go x true e =
        let fit : found symbol_of code_of 0xff pairs x < 2 ^ b = found_fits b 0xff pairs t x e in
        let small : 2 ^ b ≤ 2 ^ 5 = pow-le-pow_right {n = 2} (lit< tt) five in
        sym (ap not (ne_eqb (found symbol_of code_of 0xff pairs x) 0xff (λ q. omega arith)))
    go x false e = sym (ap not (eq-eqb (found symbol_of code_of 0xff pairs x) 0xff (found_none symbol_of code_of 0xff pairs x e)))

plain-plain : Plain plain
unfolding plain
plain-plain = record { eight = refl; all = λ v h. lt-ltb v 256 h; itself = λ v. refl; same_code = λ v. refl; same_symbol = λ c. refl }

through-packed : (f : ℕ → ℕ) (A : Coding) → Packed A → Packed (through f A)
through-packed f A p = record { five = p.five; none = λ v m. p.none (f v) m; told = λ v. p.told (f v) }

-- no choice changes which are packed and which plain
pub shape : (fold : Bool) (k : AlphabetType) → Packed (coding_by fold k) ⊎ Plain (coding_by fold k)
unfolding coding
shape fold Dna2bit = inl (through-packed (canon (fold && true)) (coding Dna2bit) (listed-packed 2 dna2bit _ (lit≤ tt) lists_checked.of_dna2bit))
shape fold Dna3bit = inl (through-packed (canon (fold && true)) (coding Dna3bit) (listed-packed 3 dna3bit _ (lit≤ tt) lists_checked.of_dna3bit))
shape fold DnaIupac = inl (through-packed (canon (fold && true)) (coding DnaIupac) (listed-packed 4 dna_iupac _ (lit≤ tt) lists_checked.of_dna_iupac))
shape fold Protein = inl (through-packed (canon (fold && true)) (coding Protein) (listed-packed 5 protein _ (lit≤ tt) lists_checked.of_protein))
shape fold Ascii = inr (subst (λ (b : Bool). Plain (through (canon b) plain)) (sym (and_false fold)) plain-plain)
shape fold Unknown = inr (subst (λ (b : Bool). Plain (through (canon b) plain)) (sym (and_false fold)) plain-plain)

-- ---- the bits per symbol

pub record Widths : Type 0 where
  pub of_dna2bit : (coding Dna2bit).width ≡ 2
  pub of_dna3bit : (coding Dna3bit).width ≡ 3
  pub of_dna_iupac : (coding DnaIupac).width ≡ 4
  pub of_protein : (coding Protein).width ≡ 5
  pub of_ascii : (coding Ascii).width ≡ 8
  pub of_unknown : (coding Unknown).width ≡ 8

pub widths : Widths
unfolding coding listed plain
widths = record { of_dna2bit = refl; of_dna3bit = refl; of_dna_iupac = refl; of_protein = refl; of_ascii = refl; of_unknown = refl }

-- ---- exactly which bytes are members, by the choice

pub record Members (fold : Bool) : Type 0 where
  pub of_dna2bit : (v : ℕ) → (coding_by fold Dna2bit).member v ≡ among (bytes_of "TCAG") (canon fold v)
  pub of_dna3bit : (v : ℕ) → (coding_by fold Dna3bit).member v ≡ among (bytes_of "ACGTNRYU") (canon fold v)
  pub of_dna_iupac : (v : ℕ) → (coding_by fold DnaIupac).member v ≡ among (bytes_of "NACMGRSKTWYUBDHV") (canon fold v)
  pub of_protein : (v : ℕ) → (coding_by fold Protein).member v ≡ among (bytes_of "ACDEFGHIKLMNPQRSTVWY*X-.UBZOJ") (canon fold v)
  pub of_ascii : (v : ℕ) → (coding_by fold Ascii).member v ≡ ltb v 256
  pub of_unknown : (v : ℕ) → (coding_by fold Unknown).member v ≡ ltb v 256

pub members : (fold : Bool) → Members fold
unfolding coding listed plain among dna2bit dna3bit dna_iupac protein coded bytes_of
members fold =
    let folds-here : (k : AlphabetType) (v : ℕ) → (coding k).member (canon (fold && true) v) ≡ (coding k).member (canon fold v) = λ k v.
    ap (λ (b : Bool). (coding k).member (canon b v)) (and_true fold) in
    let as-it-is : (v : ℕ) → ltb (canon (fold && false) v) 256 ≡ ltb v 256 = λ v. ap (λ (b : Bool). ltb (canon b v) 256) (and_false fold) in
    record {
      of_dna2bit = folds-here Dna2bit;
      of_dna3bit = folds-here Dna3bit;
      of_dna_iupac = folds-here DnaIupac;
      of_protein = folds-here Protein;
      of_ascii = as-it-is;
      of_unknown = as-it-is;
    }

-- a plain alphabet takes every byte
pub plain_takes : (fold : Bool) (k : AlphabetType) (v : ℕ) → (k ≡ Ascii) ⊎ (k ≡ Unknown) → (coding_by fold k).member v ≡ ltb v 256
plain_takes fold k v (inl e) = ap (λ (j : AlphabetType). (coding_by fold j).member v) e ∙ (members fold).of_ascii v
plain_takes fold k v (inr e) = ap (λ (j : AlphabetType). (coding_by fold j).member v) e ∙ (members fold).of_unknown v

-- ---- a text by the choice

map_at : (f : ℕ → ℕ) (text : List ℕ) (i : ℕ) → f 0 ≡ 0 → at (map f text) i ≡ f (at text i)
map_at f [] i z = sym z
map_at f (v ∷ text) zero z = refl
map_at f (v ∷ text) (suc i) z = map_at f text i z

-- a function that takes each byte to what it stands for takes the text to the folded one
pub map-folded : (fold : Bool) (f : ℕ → ℕ) → ((v : ℕ) → f v ≡ canon fold v) → (text : List ℕ) → map f text ≡ folded fold text
map-folded true f e [] = refl
map-folded true f e (v ∷ text) = ap₂ (λ (x : ℕ) (l : List ℕ). x ∷ l) (e v) (map-folded true f e text)
map-folded false f e [] = refl
map-folded false f e (v ∷ text) = ap₂ (λ (x : ℕ) (l : List ℕ). x ∷ l) (e v) (map-folded false f e text)

map-drop : (f : ℕ → ℕ) (n : ℕ) (text : List ℕ) → map f (drop n text) ≡ drop n (map f text)
map-drop f zero text = refl
map-drop f (suc n) [] = refl
map-drop f (suc n) (v ∷ text) = map-drop f n text

pub folded-drop : (fold : Bool) (n : ℕ) (text : List ℕ) → folded fold (drop n text) ≡ drop n (folded fold text)
folded-drop true n text = map-drop upper n text
folded-drop false n text = refl

pub length-folded : (fold : Bool) (text : List ℕ) → length (folded fold text) ≡ length text
length-folded true text = length-map text upper
length-folded false text = refl

pub at_folded : (fold : Bool) (text : List ℕ) (i : ℕ) → at (folded fold text) i ≡ canon fold (at text i)
at_folded true text i = map_at upper text i (folding.upper_below 0 (omega arith))
at_folded false text i = refl

pub folded-append : (fold : Bool) (a b : List ℕ) → folded fold (a ++ b) ≡ folded fold a ++ folded fold b
folded-append true a b = map-append upper a b
folded-append false a b = refl

pub folded_bytes : (fold : Bool) (text : List ℕ) → Bytes text → Bytes (folded fold text)
folded_bytes fold text bytes i = subst (λ (n : ℕ). n < 256) (sym (at_folded fold text i)) (folding.canon_lt fold (at text i) (bytes i))

-- ---- what the choice changes, and what it leaves

-- in a list each byte stands for itself
itself : (k : AlphabetType) (v : ℕ) → (coding k).canon v ≡ v
unfolding coding listed plain
itself Dna2bit v = refl
itself Dna3bit v = refl
itself DnaIupac v = refl
itself Protein v = refl
itself Ascii v = refl
itself Unknown v = refl

pub record Taken (fold : Bool) (k : AlphabetType) : Type 0 where
  -- what reads sees no choice
  pub same_width : (coding_by fold k).width ≡ (coding k).width
  pub same_symbol : (c : ℕ) → (coding_by fold k).symbol c ≡ (coding k).symbol c
  pub same_assigned : (c : ℕ) → (coding_by fold k).assigned c ≡ (coding k).assigned c
  -- a byte has the membership and the code of the byte that it stands for
  pub stands : (v : ℕ) → (coding_by fold k).canon v ≡ canon (fold && folds k) v
  pub by_member : (v : ℕ) → (coding_by fold k).member v ≡ (coding k).member ((coding_by fold k).canon v)
  pub by_code : (v : ℕ) → (coding_by fold k).code v ≡ (coding k).code ((coding_by fold k).canon v)
  -- which stands for itself
  pub once_only : (v : ℕ) → (coding_by fold k).canon ((coding_by fold k).canon v) ≡ (coding_by fold k).canon v

pub taken : (fold : Bool) (k : AlphabetType) → Taken fold k
taken fold k =
    let f : ℕ → ℕ = canon (fold && folds k) in
    record {
      same_width = refl;
      same_symbol = λ c. refl;
      same_assigned = λ c. refl;
      stands = λ v. itself k (f v);
      by_member = λ v. sym (ap (coding k).member (itself k (f v)));
      by_code = λ v. sym (ap (coding k).code (itself k (f v)));
      once_only = λ v. itself k (f ((coding k).canon (f v))) ∙ ap f (itself k (f v)) ∙ folding.canon-canon (fold && folds k) v ∙ sym (itself k (f v));
    }

-- the symbols that a text's bytes stand for: the uppercased text where the alphabet folds and the caller chose so, else the text itself
pub text_stands : (fold : Bool) (k : AlphabetType) (text : List ℕ) → map (coding_by fold k).canon text ≡ folded (fold && folds k) text
text_stands fold k text = map-folded (fold && folds k) (coding_by fold k).canon (taken fold k).stands text

-- in every alphabet a byte is taken as what it stands for is: Ascii and Unknown hold a letter in either case
pub member-folded : (fold : Bool) (k : AlphabetType) (v : ℕ) → (coding k).member (canon fold v) ≡ (coding_by fold k).member v
member-folded false k v = refl
member-folded true Dna2bit v = refl
member-folded true Dna3bit v = refl
member-folded true DnaIupac v = refl
member-folded true Protein v = refl
member-folded true Ascii v = (members false).of_ascii (canon true v) ∙ folding.upper_below_256 v ∙ sym ((members false).of_ascii v)
member-folded true Unknown v = (members false).of_unknown (canon true v) ∙ folding.upper_below_256 v ∙ sym ((members false).of_unknown v)

-- ---- assigned codes: no symbol has two, and those of Protein end at 28

-- the codes 0 to n - 1 have symbols, each a member, whose code it is; of the codes that the width can write no others are assigned
pub record Assigned (A : Coding) (n : ℕ) : Type 0 where
  pub each : (c : ℕ) → c < n → (A.member (A.symbol c) ≡ true) × (A.code (A.symbol c) ≡ c)
  pub only : (c : ℕ) → c < 2 ^ A.width → A.assigned c ≡ ltb c n

listed-assigned : (b : ℕ) (pairs : List (List ℕ)) (other n : ℕ) → n ≤ 2 ^ b → T (check_symbols b pairs)
    → T (passes (λ c. alike (among (map code_of pairs) c) (ltb c n)) 0 (2 ^ b)) → Assigned (listed b pairs other) n
unfolding listed
listed-assigned b pairs other n few t told = record { each = each; only = only }
  where
    only : (c : ℕ) → c < 2 ^ b → among (map code_of pairs) c ≡ ltb c n
    only c h = are_alike (among (map code_of pairs) c) (ltb c n) (below (λ c. alike (among (map code_of pairs) c) (ltb c n)) (2 ^ b) told c h)

    each : (c : ℕ) → c < n
        → (among (map symbol_of pairs) (found code_of symbol_of other pairs c) ≡ true) × (found symbol_of code_of 0xff pairs (found code_of symbol_of other pairs c) ≡ c)
    each c h =
        let m : among (map code_of pairs) c ≡ true = only c (omega arith) ∙ lt-ltb c n h in
        (found_among code_of symbol_of other pairs c m, found_back code_of symbol_of other 0xff pairs c (symbols_apart b pairs t) m)

plain-assigned : Assigned plain 256
unfolding plain
plain-assigned = record { each = λ c h. (lt-ltb c 256 h, refl); only = λ c h. refl }

pub record AssignedCodes : Type 0 where
  pub of_dna2bit : Assigned (coding Dna2bit) 4
  pub of_dna3bit : Assigned (coding Dna3bit) 8
  pub of_dna_iupac : Assigned (coding DnaIupac) 16
  pub of_protein : Assigned (coding Protein) 29
  pub of_ascii : Assigned (coding Ascii) 256
  pub of_unknown : Assigned (coding Unknown) 256
  -- unassigned codes decode to X
  pub past_protein : (i : ℕ) → i < 3 → (coding Protein).symbol (29 + i) ≡ ascii "X"

pub assigned-codes : AssignedCodes
unfolding coding listed among found dna2bit dna3bit dna_iupac protein coded bytes_of
assigned-codes =
    record {
      of_dna2bit = listed-assigned 2 dna2bit _ 4 (lit≤ tt) lists_checked.of_dna2bit tt;
      of_dna3bit = listed-assigned 3 dna3bit _ 8 (lit≤ tt) lists_checked.of_dna3bit tt;
      of_dna_iupac = listed-assigned 4 dna_iupac _ 16 (lit≤ tt) lists_checked.of_dna_iupac tt;
      of_protein = listed-assigned 5 protein _ 29 (lit≤ tt) lists_checked.of_protein tt;
      of_ascii = plain-assigned;
      of_unknown = plain-assigned;
      past_protein = λ i h. eqb→eq ((coding Protein).symbol (29 + i)) (ascii "X") (below (λ j. eqb ((coding Protein).symbol (29 + j)) (ascii "X")) 3 tt i h);
    }

-- so Protein's codes from 29 on are the only ones of all that a list lacks (request A7)
pub every_assigned : (k : AlphabetType) → (k ≡ Protein → ⊥) → (c : ℕ) → c < 2 ^ (coding k).width → (coding k).assigned c ≡ true
every_assigned Dna2bit other c h = assigned-codes.of_dna2bit.only c h ∙ lt-ltb c 4 (rw widths.of_dna2bit at h)
every_assigned Dna3bit other c h = assigned-codes.of_dna3bit.only c h ∙ lt-ltb c 8 (rw widths.of_dna3bit at h)
every_assigned DnaIupac other c h = assigned-codes.of_dna_iupac.only c h ∙ lt-ltb c 16 (rw widths.of_dna_iupac at h)
every_assigned Protein other c h = absurd (other refl)
every_assigned Ascii other c h = assigned-codes.of_ascii.only c h ∙ lt-ltb c 256 (rw widths.of_ascii at h)
every_assigned Unknown other c h = assigned-codes.of_unknown.only c h ∙ lt-ltb c 256 (rw widths.of_unknown at h)

pub protein-assigned : (c : ℕ) → c < 32 → (coding Protein).assigned c ≡ ltb c 29
protein-assigned c h = assigned-codes.of_protein.only c (rw widths.of_protein h)

-- ---- UCSC's codes

-- a member of Dna2bit is one of four letters, with these codes
pub data Ucsc (v : ℕ) : Type 0 where
  is_t : v ≡ ascii "T" → (coding Dna2bit).code v ≡ 0 → Ucsc v
  is_c : v ≡ ascii "C" → (coding Dna2bit).code v ≡ 1 → Ucsc v
  is_a : v ≡ ascii "A" → (coding Dna2bit).code v ≡ 2 → Ucsc v
  is_g : v ≡ ascii "G" → (coding Dna2bit).code v ≡ 3 → Ucsc v

pub dna2bit-codes : (v : ℕ) → (coding Dna2bit).member v ≡ true → Ucsc v
unfolding coding listed among found dna2bit coded bytes_of
dna2bit-codes v m = go (eqb v (ascii "T")) refl (eqb v (ascii "C")) refl (eqb v (ascii "A")) refl (eqb v (ascii "G")) refl m
  where
    go : (t : Bool) → eqb v (ascii "T") ≡ t → (c : Bool) → eqb v (ascii "C") ≡ c → (a : Bool) → eqb v (ascii "A") ≡ a → (g : Bool) → eqb v (ascii "G") ≡ g
        → (t || (c || (a || (g || false)))) ≡ true → Ucsc v
    go true p c q a r g s e = let h : v ≡ ascii "T" = eqb-true v (ascii "T") p in is_t h (ap (coding Dna2bit).code h)
    go false p true q a r g s e = let h : v ≡ ascii "C" = eqb-true v (ascii "C") q in is_c h (ap (coding Dna2bit).code h)
    go false p false q true r g s e = let h : v ≡ ascii "A" = eqb-true v (ascii "A") r in is_a h (ap (coding Dna2bit).code h)
    go false p false q false r true s e = let h : v ≡ ascii "G" = eqb-true v (ascii "G") s in is_g h (ap (coding Dna2bit).code h)
    go false p false q false r false s e = absurd (true≢false (sym e))

-- and the symbols of its codes are these letters
pub dna2bit-symbols : (c : ℕ) → c < 4 → (coding Dna2bit).symbol c ≡ at (bytes_of "TCAG") c
unfolding coding listed found dna2bit coded bytes_of
dna2bit-symbols c h =
    eqb→eq ((coding Dna2bit).symbol c) (at (bytes_of "TCAG") c) (below (λ k. eqb ((coding Dna2bit).symbol k) (at (bytes_of "TCAG") k)) 4 tt c h)

-- what a byte is packed as, by the bits that tell a base: T as 0, C as 1, A as 2, and as 3 G and every byte that is no member. Computed, by either choice
abbrev pub ucsc_digit : ℕ → ℕ
ucsc_digit x = cond (eqb x (ascii "T")) 0 (cond (eqb x (ascii "C")) 1 (cond (eqb x (ascii "A")) 2 3))

abbrev told_digit : Bool → ℕ → Bool
told_digit fold v = eqb (cond ((coding_by fold Dna2bit).member v) ((coding_by fold Dna2bit).code v) 3) (ucsc_digit (bit_and v (cond fold 0xdf 0xff)))

pub dna2bit_digits : (fold : Bool) (v : ℕ) → v < 256
    → cond ((coding_by fold Dna2bit).member v) ((coding_by fold Dna2bit).code v) 3 ≡ ucsc_digit (bit_and v (cond fold 0xdf 0xff))
unfolding coding listed among found dna2bit coded bytes_of upper
dna2bit_digits true v h = eqb→eq _ _ (below (told_digit true) 256 tt v h)
dna2bit_digits false v h = eqb→eq _ _ (below (told_digit false) 256 tt v h)

-- a member's code is told by two of its bits, in either case of letters: 0, 1, 2 and 3 in A, C, T and G, which have the codes 2, 1, 0 and 3. Computed, by either choice
abbrev told_code : Bool → ℕ → Bool
told_code fold v = cond ((coding_by fold Dna2bit).member v) (eqb ((coding_by fold Dna2bit).code v) ((6 - v / 2 % 4) % 4)) true

where_true : (m t : Bool) → m ≡ true → T (cond m t true) → T t
where_true true t e h = h
where_true false t e h = absurd (true≢false (sym e))

pub dna2bit-bits : (fold : Bool) (v : ℕ) → v < 256 → (coding_by fold Dna2bit).member v ≡ true → (coding_by fold Dna2bit).code v ≡ (6 - v / 2 % 4) % 4
unfolding coding listed among found dna2bit coded bytes_of upper
dna2bit-bits true v h m = eqb→eq _ _ (where_true ((coding_by true Dna2bit).member v) _ m (below (told_code true) 256 tt v h))
dna2bit-bits false v h m = eqb→eq _ _ (where_true ((coding_by false Dna2bit).member v) _ m (below (told_code false) 256 tt v h))

-- ---- the four bases

either : {P : Type 0} (t u : Bool) → (t ≡ true → P) → (u ≡ true → P) → t || u ≡ true → P
either true u f g e = f refl
either false u f g e = g e

-- what holds of the four holds of a base
pub one_of_four : (P : ℕ → Type 0) → P 65 → P 67 → P 71 → P 84 → (x : ℕ) → base x ≡ true → P x
one_of_four P a c g t x =
    let is : (k : ℕ) → P k → eqb x k ≡ true → P x = λ k p q. subst P (sym (eqb-true x k q)) p in
    let two : eqb x 65 || eqb x 67 ≡ true → P x = either (eqb x 65) (eqb x 67) (is 65 a) (is 67 c) in
    let three : (eqb x 65 || eqb x 67) || eqb x 71 ≡ true → P x = either (eqb x 65 || eqb x 67) (eqb x 71) two (is 71 g) in
    either ((eqb x 65 || eqb x 67) || eqb x 71) (eqb x 84) three (is 84 t)

-- every alphabet holds them
list_holds : (k : AlphabetType) (x : ℕ) → base x ≡ true → (coding k).member x ≡ true
unfolding coding listed plain among dna2bit dna3bit dna_iupac protein coded bytes_of
list_holds Dna2bit = one_of_four (λ (x : ℕ). (coding Dna2bit).member x ≡ true) refl refl refl refl
list_holds Dna3bit = one_of_four (λ (x : ℕ). (coding Dna3bit).member x ≡ true) refl refl refl refl
list_holds DnaIupac = one_of_four (λ (x : ℕ). (coding DnaIupac).member x ≡ true) refl refl refl refl
list_holds Protein = one_of_four (λ (x : ℕ). (coding Protein).member x ≡ true) refl refl refl refl
list_holds Ascii = one_of_four (λ (x : ℕ). (coding Ascii).member x ≡ true) refl refl refl refl
list_holds Unknown = one_of_four (λ (x : ℕ). (coding Unknown).member x ≡ true) refl refl refl refl

-- and whatever stands for them
pub base_member : (fold : Bool) (k : AlphabetType) (x : ℕ) → base (canon fold x) ≡ true → (coding_by fold k).member x ≡ true
base_member fold k x e = sym (member-folded fold k x) ∙ list_holds k (canon fold x) e

-- a run of a part of a text is one of the text, from where the part begins
pub run_in_part : (fold : Bool) (text : List ℕ) (i n r : ℕ) → i + n ≤ length text → Run (folded fold (take n (drop i text))) r → (r ≤ n) × Bases (folded fold text) i r
run_in_part fold text i n r h run = (few, record { each = λ j l. same j (omega (arith, few)) ∙ run.bases.each j l })
  where
    part : List ℕ
    part = take n (drop i text)

    few : r ≤ n
    few = omega (arith, run.within, length-folded fold part, length-take-le n (drop i text) (omega (arith, length-drop i text)))

    same : (j : ℕ) → j < n → base (at (folded fold text) (i + j)) ≡ base (at (folded fold part) (0 + j))
    same j l =
        ap base
        (at_folded fold text (i + j)
        ∙ ap (canon fold) (sym (get_or-take n (drop i text) j 0 l ∙ get_or-drop i text j 0))
        ∙ sym (at_folded fold part j)
        ∙ ap (at (folded fold part)) (sym (zero-add j)))
