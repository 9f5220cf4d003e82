use mathlib.Core.Path.{◌≡◌, sym, ap, ◌∙◌, subst}
use mathlib.Core.Bool.{Bool}
use mathlib.Core.List.{List, ◌++◌}
use Prim.Native.Nat.{ℕ, ◌+◌, ◌-◌, ◌*◌, ◌/◌, ◌%◌, min}
use native.Mathlib.Omega.{arith}
use lib.ListN.{length, take, drop}
use Rattle.bits.specs.Tables.{tabulate, Bytes}
use Rattle.alphabet.specs.declared.kind.AlphabetType.{AlphabetType}
use Rattle.alphabet.specs.Symbols.{Coding, coding_by, coding_of}
use Rattle.members.proofs.Laws.{passed_part}
use Rattle.packing.specs.Encode.{digit_of, digits_of}
use Rattle.packing.specs.Run.{Ready, ran, looked}
use Rattle.packing.proofs.Behind.{part}
use Rattle.packing.proofs.Digits.{looked_part}
use Rattle.packing.proofs.Even.{head_ran}
use Rattle.packing.proofs.run.pack_narrow.Goals as goal

-- both runs are one
whole : (fold : Bool) (kind : AlphabetType) (table text memory : List ℕ) (seen a h b : ℕ) → b ≡ (coding_by fold kind).width
    → Ready (coding_by fold kind).width (seen * (coding_by fold kind).width % 8) a (length text) (length memory)
    → table ≡ tabulate 256 (digit_of (coding_by fold kind)) → Bytes text → h ≡ min ((8 - seen % 8) % 8) (length text) → (out ys : List ℕ)
    → out ≡ ran b (seen * b % 8) a (looked table (take h text)) memory
    → ys ≡ ran (coding_by fold kind).width 0 0 (digits_of (coding_by fold kind) (part text h)) (part out ((seen * b % 8 + h * b) / 8))
    → take ((seen * b % 8 + h * b) / 8) out ++ (ys ++ drop (length out - (seen * b % 8 + h * b) / 8) (drop ((seen * b % 8 + h * b) / 8) out))
    ≡ ran (coding_by fold kind).width (seen * (coding_by fold kind).width % 8) a (digits_of (coding_by fold kind) text) memory
whole fold kind table text memory seen a h b bits ready tabled bytes count out ys =
    let A : Coding = coding_by fold kind in
    let p : ℕ = seen * A.width % 8 in
    subst
    (λ (x : ℕ). out ≡ ran x (seen * x % 8) a (looked table (take h text)) memory
    → ys ≡ ran A.width 0 0 (digits_of A (part text h)) (part out ((seen * x % 8 + h * x) / 8))
    → take ((seen * x % 8 + h * x) / 8) out ++ (ys ++ drop (length out - (seen * x % 8 + h * x) / 8) (drop ((seen * x % 8 + h * x) / 8) out))
    ≡ ran A.width p a (digits_of A text) memory)
    (sym bits)
    (λ first rest. head_ran A.width seen a (digit_of A) text memory ready h count out ys
    (first ∙ ap (λ (d : List ℕ). ran A.width p a d memory) (looked_part fold kind table tabled text bytes 0 h)) rest)

pub returns-then-h-eq0-clause-wrote : goal.returns-then-h-eq0-clause-wrote
returns-then-h-eq0-clause-wrote c =
    let a = c.args in
    whole a.alphabet.fold a.alphabet.kind a.table.now a.text.now a.out.now a.seen a.a c.min-h.result c.bits_per_symbol-b.result c.bits_per_symbol-b.ensures c.requires.0 c.requires.1.1.1.0
    (λ i. (c.type_inv.text i).fits) c.min-h.ensures c.pack_rolling.new.out c.pack_blocks-r.new.out c.pack_rolling.ensures c.pack_blocks-r.ensures.wrote

pub known_members-requires : goal.known_members-requires
known_members-requires c =
    passed_part (coding_of c.args.alphabet) c.args.text.now c.min-h.result c.pack_blocks-r.result (omega (arith, c.min-h.ensures)) c.pack_blocks-r.ensures.passed

pub returns-clause-wrote : goal.returns-clause-wrote
returns-clause-wrote c =
    let a = c.args in
    whole a.alphabet.fold a.alphabet.kind a.table.now a.text.now a.out.now a.seen a.a c.min-h.result c.bits_per_symbol-b.result c.bits_per_symbol-b.ensures c.requires.0 c.requires.1.1.1.0
    (λ i. (c.type_inv.text i).fits) c.min-h.ensures c.pack_rolling.new.out c.pack_blocks-r.new.out c.pack_rolling.ensures c.pack_blocks-r.ensures.wrote
