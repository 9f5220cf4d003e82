use Rattle.std.proofs.Common.{◌≡◌, ℕ, ◌+◌, ◌<◌, Bool, true, cond, List, sym, ap, ◌∙◌, arith, zero-add, below_more}
use lib.Bits.{bit_and}
use Rattle.bits.specs.Tables.{at}
use Rattle.bits.proofs.Computed.{both_true}
use Rattle.alphabet.specs.Symbols.{folded}
use Rattle.alphabet.specs.Bases.{base}
use Rattle.alphabet.proofs.Folding.{base_bits}
use Rattle.alphabet.proofs.Laws.{at_folded}
use Rattle.alphabet.proofs.bases.are_bases.Goals as goal

-- a byte that is told to be a base is one of the text by the choice
told : (fold : Bool) (text : List ℕ) (bits k : ℕ) (b : Bool) → bits ≡ cond fold 0xdf 0xff → at text k < 256 → b ≡ base (bit_and (at text k) bits) → b ≡ true
    → base (at (folded fold text) k) ≡ true
told fold text bits k b e h q t =
    ap base (at_folded fold text k)
    ∙ sym (base_bits fold (at text k) h)
    ∙ ap (λ (m : ℕ). base (bit_and (at text k) m)) (sym e)
    ∙ sym q
    ∙ t

pub loop-byte-preserved : goal.loop-byte-preserved
loop-byte-preserved c =
    let a = c.args in
    let l = c.loop-byte in
    let P : ℕ → Type 0 = λ k. base (at (folded a.fold a.text.now) (0 + k)) ≡ true in
    let here : c.is_base-all.result ≡ true → base (at (folded a.fold a.text.now) l.byte-index) ≡ true =
    told a.fold a.text.now c.telling_bits-bits.result l.byte-index c.is_base-all.result c.telling_bits-bits.ensures (c.type_inv.text l.byte-index).fits c.is_base-all.ensures in
    λ e. let t = both_true l.all c.is_base-all.result e in
    record { each = below_more P l.byte-index (l.invariant t.0).each (rw zero-add (here t.1)) }

pub returns : goal.returns
returns c = λ e. record { each = λ j h. (c.loop-byte.invariant e).each j (omega (arith, h, c.loop-byte-test.false)) }
