-- The laws of masks: what each bit of a byte's mask says, what a text leaves of a mask, and which alphabet a mask gives.
use Rattle.std.proofs.Common.{◌≡◌, ℕ, zero, suc, ◌+◌, ◌-◌, ◌*◌, ◌/◌, ◌%◌, ◌^◌, ◌<◌, ◌≤◌, Bool, true, false, cond, ◌&&◌, eqb, List}
use Rattle.std.proofs.Common.{[], ◌∷◌, ◌++◌, length, get_or, sym, refl, ap, ◌∙◌, subst, ap₂, true≢false, le_trans, le_refl, le_of_suc-le-suc, not-suc-le-zero}
use Rattle.std.proofs.Common.{mod-lt, mul_comm, pow-suc, arith, lit<, lit≤, eqb→eq, lt-ltb, eq-eqb, eqb-true}
use native.Mathlib.Nat.{pow-zero, div-div-eq-div-mul}
use lib.Bits.{bit_and, and_shr, and_mod, and_le_l}
use lib.Count.{count_trailing_zeros}
use Rattle.bits.specs.Tables.{Bytes}
use Rattle.bits.proofs.Computed.{below, and_true}
use Rattle.alphabet.specs.declared.kind.AlphabetType.{AlphabetType}
use Rattle.alphabet.specs.declared.kind.AlphabetType.TheVariants.{Dna2bit, Dna3bit, DnaIupac, Protein, Ascii, Unknown}
use Rattle.alphabet.specs.Symbols.{coding, canon, folded, coding_by}
use Rattle.alphabet.specs.Guess.{order, is_set, holders, mask_of, masked, lowest, guess_of, holds_all, first_holding}
use Rattle.alphabet.proofs.Laws.{members, member-folded, folded_bytes}

-- ---- bits

-- two binary digits
digits : (p q : ℕ) → p < 2 → q < 2 → eqb (bit_and p q) 1 ≡ eqb p 1 && eqb q 1
digits zero q h l = refl
digits (suc zero) zero h l = refl
digits (suc zero) (suc zero) h l = refl
digits (suc zero) (suc (suc q)) h l = absurd (not-suc-le-zero (le_of_suc-le-suc (le_of_suc-le-suc l)))
digits (suc (suc p)) q h l = absurd (not-suc-le-zero (le_of_suc-le-suc (le_of_suc-le-suc h)))

-- a bit of `a & b`
set_and : (i a b : ℕ) → is_set i (bit_and a b) ≡ is_set i a && is_set i b
set_and i a b =
    ap (λ (n : ℕ). eqb (n % 2) 1) (and_shr a b i)
    ∙ ap (λ (n : ℕ). eqb n 1) (and_mod (a / 2 ^ i) (b / 2 ^ i) 1)
    ∙ digits (a / 2 ^ i % 2) (b / 2 ^ i % 2) (mod-lt (a / 2 ^ i) (lit< tt)) (mod-lt (b / 2 ^ i) (lit< tt))

-- a flag in front of a number's bits
set_first : (h : Bool) (n : ℕ) → is_set 0 (cond h 1 0 + 2 * n) ≡ h
set_first true n = eq-eqb ((1 + 2 * n) / 1 % 2) 1 (omega arith)
set_first false n = ap (λ (x : ℕ). eqb x 1) (let e : (0 + 2 * n) / 1 % 2 ≡ 0 = omega arith in e)

set_later : (i : ℕ) (h : Bool) (n : ℕ) → is_set (suc i) (cond h 1 0 + 2 * n) ≡ is_set i n
set_later i h n = ap (λ (x : ℕ). eqb (x % 2) 1) (go (half h))
  where
    half : (b : Bool) → (cond b 1 0 + 2 * n) / 2 ≡ n
    half true = omega arith
    half false = omega arith

    go : (cond h 1 0 + 2 * n) / 2 ≡ n → (cond h 1 0 + 2 * n) / 2 ^ suc i ≡ n / 2 ^ i
    go e = rw (pow-suc 2 i, mul_comm (2 ^ i) 2, ← div-div-eq-div-mul (cond h 1 0 + 2 * n) 2 (2 ^ i), e)

-- ---- the mask of a byte

-- bit i of a list's mask
pub holders_bit : (ks : List AlphabetType) (i v : ℕ) → i < length ks → is_set i (holders ks v) ≡ (coding (get_or ks i Unknown)).member v
unfolding holders
holders_bit [] i v h = absurd (not-suc-le-zero h)
holders_bit (k ∷ ks) zero v h = set_first ((coding k).member v) (holders ks v)
holders_bit (k ∷ ks) (suc i) v h = set_later i ((coding k).member v) (holders ks v) ∙ holders_bit ks i v (le_of_suc-le-suc h)

pub holders_lt : (ks : List AlphabetType) (v : ℕ) → holders ks v < 2 ^ length ks
unfolding holders
holders_lt [] v = rw (pow-zero 2) (lit< tt)
holders_lt (k ∷ ks) v = rw (pow-suc 2 (length ks)) (go ((coding k).member v) (holders_lt ks v))
  where
    go : (h : Bool) → holders ks v < 2 ^ length ks → cond h 1 0 + 2 * holders ks v < 2 ^ length ks * 2
    go true l = omega arith
    go false l = omega arith

-- the rule of `ALPHABET_MASK`: bit i is set exactly when alphabet i of the order holds the byte
pub mask_bit : (i v : ℕ) → i < 5 → is_set i (mask_of v) ≡ (coding (get_or order i Unknown)).member v
unfolding mask_of
mask_bit i v h = holders_bit order i v h

-- and bits 5 to 7 are zero
pub mask_lt : (v : ℕ) → mask_of v < 32
unfolding mask_of
mask_lt v = holders_lt order v

-- ---- a mask after a text

and_assoc : (a b c : Bool) → (a && b) && c ≡ a && (b && c)
and_assoc true b c = refl
and_assoc false b c = refl

-- bit i stays while alphabet i holds each byte
pub masked_bit : (i : ℕ) → i < 5 → (m : ℕ) (text : List ℕ) → is_set i (masked m text) ≡ is_set i m && holds_all false (get_or order i Unknown) text
unfolding masked holds_all
masked_bit i h m [] = sym (and_true (is_set i m))
masked_bit i h m (v ∷ text) =
    masked_bit i h (bit_and m (mask_of v)) text
    ∙ ap (λ (b : Bool). b && holds_all false (get_or order i Unknown) text) (set_and i m (mask_of v) ∙ ap (λ (b : Bool). is_set i m && b) (mask_bit i v h))
    ∙ and_assoc (is_set i m) ((coding (get_or order i Unknown)).member v) (holds_all false (get_or order i Unknown) text)

-- piece by piece is the whole
pub masked-append : (m : ℕ) (a b : List ℕ) → masked m (a ++ b) ≡ masked (masked m a) b
unfolding masked
masked-append m [] b = refl
masked-append m (v ∷ a) b = masked-append (bit_and m (mask_of v)) a b

-- a mask never grows
pub masked_le : (m : ℕ) (text : List ℕ) → masked m text ≤ m
unfolding masked
masked_le m [] = le_refl m
masked_le m (v ∷ text) = le_trans (masked_le (bit_and m (mask_of v)) text) (and_le_l m (mask_of v))

-- Ascii holds every byte
pub ascii_holds : (fold : Bool) (text : List ℕ) → Bytes text → holds_all fold Ascii text ≡ true
unfolding holds_all
ascii_holds fold [] h = refl
ascii_holds fold (v ∷ text) h =
    ap₂ (λ (a b : Bool). a && b) ((members fold).of_ascii v ∙ lt-ltb v 256 (h 0)) (ascii_holds fold text (λ i. h (suc i)))

-- so a sound mask stays sound
pub masked_sound : (m : ℕ) (text : List ℕ) → Bytes text → 16 ≤ m → m ≤ 31 → 16 ≤ masked m text
masked_sound m text bytes h l =
    let was : is_set 4 m ≡ true = eq-eqb (m / 2 ^ 4 % 2) 1 (omega arith) in
    let is : is_set 4 (masked m text) ≡ true = masked_bit 4 (lit< tt) m text ∙ ap₂ (λ (a b : Bool). a && b) was (ascii_holds false text bytes) in
    let e : masked m text / 2 ^ 4 % 2 ≡ 1 = eqb-true _ _ is in
    omega arith

-- and once only Ascii remains, nothing changes
pub masked_ascii : (text : List ℕ) → Bytes text → masked 16 text ≡ 16
masked_ascii text bytes = omega (arith, masked_le 16 text, masked_sound 16 text bytes (lit≤ tt) (lit≤ tt))

-- ---- the alphabet of a mask

-- the lowest set bit of a sound mask
abbrev lowest_bit : ℕ → ℕ
lowest_bit m = cond (is_set 0 m) 0 (cond (is_set 1 m) 1 (cond (is_set 2 m) 2 (cond (is_set 3 m) 3 4)))

abbrev right : ℕ → Bool
unfolding count_trailing_zeros
right k = eqb (count_trailing_zeros 8 (16 + k)) (lowest_bit (16 + k))

zeros-lowest : (m : ℕ) → 16 ≤ m → m ≤ 31 → count_trailing_zeros 8 m ≡ lowest_bit m
unfolding count_trailing_zeros
zeros-lowest m h l =
    let e : 16 + (m - 16) ≡ m = omega arith in
    subst (λ (n : ℕ). count_trailing_zeros 8 n ≡ lowest_bit n) e (eqb→eq _ _ (below right 16 tt (m - 16) (omega arith)))

lowest_lt : (a b c d : Bool) → cond a 0 (cond b 1 (cond c 2 (cond d 3 4))) < 5
lowest_lt true b c d = lit< tt
lowest_lt false true c d = lit< tt
lowest_lt false false true d = lit< tt
lowest_lt false false false true = lit< tt
lowest_lt false false false false = lit< tt

-- the count of a sound mask's trailing zero bits is a place in the order
pub zeros_lt : (m : ℕ) → 16 ≤ m → m ≤ 31 → count_trailing_zeros 8 m < 5
zeros_lt m h l = rw (zeros-lowest m h l) (lowest_lt (is_set 0 m) (is_set 1 m) (is_set 2 m) (is_set 3 m))

picked : (a b c d : Bool)
    → get_or order (cond a 0 (cond b 1 (cond c 2 (cond d 3 4)))) Unknown ≡ cond a Dna2bit (cond b Dna3bit (cond c DnaIupac (cond d Protein (cond true Ascii Unknown))))
picked true b c d = refl
picked false true c d = refl
picked false false true d = refl
picked false false false true = refl
picked false false false false = refl

-- bit i of the mask of what a byte stands for is set exactly when alphabet i of the order takes the byte by that choice
pub mask_takes : (fold : Bool) (i v : ℕ) → i < 5 → is_set i (mask_of (canon fold v)) ≡ (coding_by fold (get_or order i Unknown)).member v
mask_takes fold i v h = mask_bit i (canon fold v) h ∙ member-folded fold (get_or order i Unknown) v

-- an alphabet holds a text by the choice exactly when it holds the text by the choice as it is
pub holds_folded : (fold : Bool) (k : AlphabetType) (text : List ℕ) → holds_all false k (folded fold text) ≡ holds_all fold k text
unfolding holds_all
holds_folded false k text = refl
holds_folded true k [] = refl
holds_folded true k (v ∷ text) = ap₂ (λ (a b : Bool). a && b) (member-folded true k v) (holds_folded true k text)

-- the guess for a text is the first alphabet in the order that holds every byte of it, by the choice
pub guess_first : (fold : Bool) (text : List ℕ) → Bytes text → guess_of fold text ≡ first_holding fold order text
unfolding guess_of lowest first_holding
guess_first fold text bytes =
    let given : List ℕ = folded fold text in
    let m : ℕ = masked 31 given in
    let bit : (i : ℕ) → i < 5 → is_set i m ≡ is_set i 31 && holds_all fold (get_or order i Unknown) text =
    λ i h. masked_bit i h 31 given ∙ ap (λ (b : Bool). is_set i 31 && b) (holds_folded fold (get_or order i Unknown) text) in
    ap (λ (n : ℕ). get_or order n Unknown) (zeros-lowest m (masked_sound 31 given (folded_bytes fold text bytes) (lit≤ tt) (lit≤ tt)) (masked_le 31 given))
    ∙ picked (is_set 0 m) (is_set 1 m) (is_set 2 m) (is_set 3 m)
    ∙ simp (bit 0 (lit< tt), bit 1 (lit< tt), bit 2 (lit< tt), bit 3 (lit< tt), ascii_holds fold text bytes)

-- the empty text gives Dna2bit
pub guess-empty : (fold : Bool) → guess_of fold [] ≡ Dna2bit
unfolding guess_of masked lowest count_trailing_zeros
guess-empty true = refl
guess-empty false = refl

-- the first of a list that holds a text holds it, where one does
first_holds : (fold : Bool) (ks : List AlphabetType) (text : List ℕ) (i : ℕ) → holds_all fold (get_or ks i Unknown) text ≡ true → i < length ks
    → holds_all fold (first_holding fold ks text) text ≡ true
unfolding first_holding
first_holds fold [] text i e h = absurd (not-suc-le-zero h)
first_holds fold (k ∷ ks) text i e h = go (holds_all fold k text) refl i e h (λ j q l. first_holds fold ks text j q l)
  where
    go : (b : Bool) → holds_all fold k text ≡ b → (j : ℕ) → holds_all fold (get_or (k ∷ ks) j Unknown) text ≡ true → j < length (k ∷ ks)
        → ((n : ℕ) → holds_all fold (get_or ks n Unknown) text ≡ true → n < length ks → holds_all fold (first_holding fold ks text) text ≡ true)
        → holds_all fold (cond b k (first_holding fold ks text)) text ≡ true
    go true q j m l ih = q
    go false q zero m l ih = absurd (true≢false (sym m ∙ q))
    go false q (suc j) m l ih = ih j m (le_of_suc-le-suc l)

-- so the guessed alphabet holds the text
pub guess_holds : (fold : Bool) (text : List ℕ) → Bytes text → holds_all fold (guess_of fold text) text ≡ true
guess_holds fold text bytes = rw (guess_first fold text bytes) (first_holds fold order text 4 (ascii_holds fold text bytes) (lit< tt))
