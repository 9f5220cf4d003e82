-- What the record says of a text, by an alphabet and a choice to fold, it says, without folding, of the text as it is meant: uppercased where folding was chosen
-- and the alphabet is one of the four packed ones, and else as it is. Only the byte of a refusal 5 is taken from the text that came.
use mathlib.Core.Path.{◌≡◌, refl, sym, ap, ◌∙◌}
use mathlib.Core.Bool.{Bool, true, false, cond, ◌&&◌}
use mathlib.Core.List.{List, [], ◌∷◌, ◌++◌, map}
use mathlib.Core.Logic.{◌↔◌, ◌⊎◌, inl, inr, ⊎_elim}
use Prim.Native.Nat.{ℕ, suc, ◌+◌, ◌-◌, ◌<◌}
use lib.ListN.{length, take, drop}
use lib.Seq.{ext_get_or, get_or-append-add}
use Rattle.bits.specs.Tables.{at}
use Rattle.alphabet.specs.declared.kind.AlphabetType.{AlphabetType}
use Rattle.alphabet.specs.Symbols.{Coding, coding, upper, canon, folded, folds, through, coding_by}
use Rattle.alphabet.specs.Names.{kind_of, numbered, numbered_by}
use Rattle.alphabet.proofs.Laws.{taken, text_stands, length-folded, at_folded, folded-append}
use Rattle.members.specs.Members.{members_ahead_of}
use Rattle.packing.specs.Encode.{packing}
use Rattle.packing.proofs.Laid.{packing-folded}
use Rattle.record.specs.Tally.{text_packed}
use Rattle.record.specs.Texts.{Members, Extends}
use Rattle.record.specs.EncoderLists.{EncoderList, alphabet_in, fold_in, coding_in, text_in}
use Rattle.record.specs.Decoders.{Window, symbols_in}
use Rattle.record.proofs.Tallies.{same_packing}
use Rattle.record.proofs.Alike.{alike}

-- a text as it is meant: uppercased, or as it is
abbrev pub meant : Bool → AlphabetType → List ℕ → List ℕ
meant fold k text = folded (fold && folds k) text

-- u is t followed by zero or more symbols of code zero
pub record Followed (A : Coding) (t u : List ℕ) : Type 0 where
  pub more : List ℕ
  pub zeros : (i : ℕ) → i < length more → A.code (at more i) ≡ 0
  pub joined : u ≡ t ++ more

pub record InUppercase (fold : Bool) (k : AlphabetType) : Type 0 where
  -- the symbols that a text's bytes stand for are the text as it is meant
  pub symbols : (text : List ℕ) → map (coding_by fold k).canon text ≡ meant fold k text
  -- the tally packs that text, and counts its members
  pub packed : (text : List ℕ) → text_packed (coding_by fold k) text ≡ text_packed (coding k) (meant fold k text)
  pub ahead : (text : List ℕ) → members_ahead_of (coding_by fold k) text ≡ members_ahead_of (coding k) (meant fold k text)
  pub members : (text : List ℕ) → Members (coding_by fold k) text ↔ Members (coding k) (meant fold k text)
  -- one text counts as another followed by symbols of code zero exactly when the one as it is meant is the other as it is meant, followed by such symbols
  pub extends : (t u : List ℕ) → Extends (coding_by fold k) t u ↔ Followed (coding k) (meant fold k t) (meant fold k u)

-- ---- proved over the effect of the choice

ahead_through : (A : Coding) (b : Bool) (text : List ℕ) → members_ahead_of (through (canon b) A) text ≡ members_ahead_of A (folded b text)
unfolding members_ahead_of
ahead_through A false text = refl
ahead_through A true [] = refl
ahead_through A true (v ∷ text) = ap (λ (n : ℕ). cond (A.member (upper v)) (suc n) 0) (ahead_through A true text)

module _ (fold : Bool) (k : AlphabetType) where
  abbrev b : Bool
  b = fold && folds k

  shorter : (text : List ℕ) (i : ℕ) → i < length (folded b text) → i < length text
  shorter text i h = rw (length-folded b text) at h

  longer : (text : List ℕ) (i : ℕ) → i < length text → i < length (folded b text)
  longer text i h = rw (length-folded b text) h

  members-meant : (text : List ℕ) → Members (coding_by fold k) text ↔ Members (coding k) (meant fold k text)
  members-meant text = (
    λ m i h. ap (coding k).member (at_folded b text i) ∙ m i (shorter text i h),
    λ m i h. ap (coding k).member (sym (at_folded b text i)) ∙ m i (longer text i h),
  )

  to_followed : (t u : List ℕ) → Extends (coding_by fold k) t u → Followed (coding k) (meant fold k t) (meant fold k u)
  to_followed t u x =
      record {
        more = folded b x.more;
        zeros = λ i h. ap (coding k).code (at_folded b x.more i) ∙ x.zeros i (shorter x.more i h);
        joined = sym (text_stands fold k u) ∙ x.joined ∙ text_stands fold k (t ++ x.more) ∙ folded-append b t x.more;
      }

  -- a byte that stands for another stands for itself
  again : (v : ℕ) → canon b (canon b v) ≡ canon b v
  again v = sym ((taken fold k).stands (canon b v)) ∙ ap (coding_by fold k).canon (sym ((taken fold k).stands v)) ∙ (taken fold k).once_only v ∙ (taken fold k).stands v

  from_followed : (t u : List ℕ) → Followed (coding k) (meant fold k t) (meant fold k u) → Extends (coding_by fold k) t u
  from_followed t u y =
      record {
        more = y.more;
        zeros = λ i h. ap (coding k).code (stays i) ∙ y.zeros i h;
        joined =
            text_stands fold k u
            ∙ y.joined
            ∙ ap (λ (l : List ℕ). folded b t ++ l) (sym (ext_get_or 0 (folded b y.more) y.more (length-folded b y.more) (λ i h. at_folded b y.more i ∙ stays i)))
            ∙ sym (folded-append b t y.more)
            ∙ sym (text_stands fold k (t ++ y.more));
      }
    where
      -- what follows is uppercased as u is
      place : ℕ → ℕ
      place i = length (folded b t) + i

      from_u : (i : ℕ) → at y.more i ≡ canon b (at u (place i))
      from_u i = sym (ap (λ (l : List ℕ). at l (place i)) y.joined ∙ get_or-append-add (folded b t) y.more i 0) ∙ at_folded b u (place i)

      stays : (i : ℕ) → canon b (at y.more i) ≡ at y.more i
      stays i = ap (canon b) (from_u i) ∙ again (at u (place i)) ∙ sym (from_u i)

pub in_uppercase : (fold : Bool) (k : AlphabetType) → InUppercase fold k
in_uppercase fold k =
    record {
      symbols = text_stands fold k;
      packed = λ text. same_packing (coding_by fold k) text ∙ packing-folded fold k text ∙ sym (same_packing (coding k) (meant fold k text));
      ahead = ahead_through (coding k) (fold && folds k);
      members = members-meant fold k;
      extends = λ t u. (to_followed fold k t u, from_followed fold k t u);
    }

-- two texts of members pack alike exactly when one as it is meant is the other as it is meant, followed by symbols of code zero, and their byte counts agree
pub alike-in-uppercase :
    (fold : Bool) (k : AlphabetType) (t u : List ℕ) →
    Members (coding_by fold k) t →
    Members (coding_by fold k) u →
    (packing (coding_by fold k) t ≡ packing (coding_by fold k) u)
    ↔ ((Followed (coding k) (meant fold k t) (meant fold k u) ⊎ Followed (coding k) (meant fold k u) (meant fold k t))
    × (length (packing (coding_by fold k) t) ≡ length (packing (coding_by fold k) u)))
alike-in-uppercase fold k t u mt mu =
    let same = alike fold k t u mt mu in
    let ways = (in_uppercase fold k).extends in (
      λ e. (⊎_elim (λ x. inl ((ways t u).0 x)) (λ x. inr ((ways u t).0 x)) (same.0 e).0, (same.0 e).1),
      λ p. same.1 (⊎_elim (λ y. inl ((ways t u).1 y)) (λ y. inr ((ways u t).1 y)) p.0, p.1),
    )

-- ---- so it is of an encoder's list

-- what comes back of a window: the bytes from s to e - 1 of the text, as they are meant
pub window-symbols : (l : EncoderList) (w : Window l) → symbols_in l w ≡ meant (fold_in l) (kind_of (alphabet_in l)) (take (w.e - w.s) (drop w.s (text_in l)))
window-symbols l w = text_stands (fold_in l) (kind_of (alphabet_in l)) (take (w.e - w.s) (drop w.s (text_in l)))

-- without folding all is as before: the list is told, packed and read by the coding of its alphabet
pub as_before : (l : EncoderList) → fold_in l ≡ false → coding_in l ≡ numbered (alphabet_in l)
as_before l e = ap (λ (fold : Bool). numbered_by fold (alphabet_in l)) e
