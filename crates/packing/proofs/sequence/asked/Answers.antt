use mathlib.Core.Path.{sym, ap, ap₂, ◌∙◌, subst}
use mathlib.Core.List.{[], ◌∷◌}
use Prim.Native.Nat.{ℕ, ◌*◌, ◌≤◌, ◌<◌}
use native.Mathlib.Nat.{zero-add}
use native.Mathlib.Omega.{arith}
use lib.ListN.{length}
use Rattle.bits.specs.Tables.{at}
use Rattle.bits.specs.Packing.{bytes_for}
use Rattle.alphabet.specs.Questions.{by}
use Rattle.alphabet.specs.Symbols.{coding_of}
use Rattle.alphabet.proofs.Laws.{lawful}
use Rattle.members.proofs.Laws.{bad_part}
use Rattle.std.proofs.Common.{Result, Ok, Err, None}
use Rattle.alphabet.specs.declared.refusal.Refusal.{Refusal}
use Rattle.packing.specs.declared.bad.Bad.{Bad}
use Rattle.packing.proofs.Search.{first_there, none_there}
use Rattle.packing.proofs.Ends.{product_le, encode_long, encode_short, encode_first}
use Rattle.packing.proofs.sequence.asked.Goals as goal

pub returns-then-len-gt-LIMIT : goal.returns-then-len-gt-LIMIT
returns-then-len-gt-LIMIT c =
    let a = c.args in
    encode_long (coding_of a.alphabet) a.text.now a.room c.if-len-gt-LIMIT.true

-- the text's bits are few
pub overflow_mul-count : goal.overflow_mul-count
overflow_mul-count c =
    let a = c.args in
    let narrow = subst (λ (b : ℕ). b ≤ 8) (sym c.bits_per_symbol.ensures) (lawful a.alphabet.fold a.alphabet.kind).narrow in
    omega (arith, product_le (length a.text.now) c.bits_per_symbol.result c.if-len-gt-LIMIT.false narrow)

pub overflow_add-count : goal.overflow_add-count
overflow_add-count c =
    let a = c.args in
    let narrow = subst (λ (b : ℕ). b ≤ 8) (sym c.bits_per_symbol.ensures) (lawful a.alphabet.fold a.alphabet.kind).narrow in
    omega (arith, product_le (length a.text.now) c.bits_per_symbol.result c.if-len-gt-LIMIT.false narrow)

pub returns-then-room-count : goal.returns-then-room-count
returns-then-room-count c =
    let a = c.args in
    let short = subst (λ (b : ℕ). a.room < bytes_for (length a.text.now * b)) c.bits_per_symbol.ensures c.if-room-count.true in
    encode_short (coding_of a.alphabet) a.text.now a.room c.if-len-gt-LIMIT.false short

-- past the question the memory holds the packing
pub returns-in-Some : goal.returns-in-Some
returns-in-Some c =
    let a = c.args in
    let A = coding_of a.alphabet in
    let i : ℕ = c.in-Some.i in
    let there = c.in-Some.ensures in
    let byte : ℕ = at a.text.now i in
    let fits = subst (λ (b : ℕ). bytes_for (length a.text.now * b) ≤ a.room) c.bits_per_symbol.ensures c.if-room-count.false in
    let told : ℕ → ℕ → Result ℕ Refusal = λ m n. Err (by 5 (m ∷ byte ∷ n ∷ [])) in
    ap₂ told (sym (zero-add i)) (c.count_strangers.ensures ∙ bad_part A a.text.now i there.0)
    ∙ encode_first A a.text.now a.room c.if-len-gt-LIMIT.false fits _ (first_there A a.text.now i there.0 there.1 0)

pub returns-in-None : goal.returns-in-None
returns-in-None c =
    let a = c.args in
    let A = coding_of a.alphabet in
    let fits = subst (λ (b : ℕ). bytes_for (length a.text.now * b) ≤ a.room) c.bits_per_symbol.ensures c.if-room-count.false in
    let none = none_there A a.text.now (length a.text.now) (sym c.in-None.ensures) (omega arith) 0 in
    ap Ok (ap (λ (b : ℕ). bytes_for (length a.text.now * b)) c.bits_per_symbol.ensures)
    ∙ encode_first A a.text.now a.room c.if-len-gt-LIMIT.false fits None (sym (ap (λ (b : Bad). b.first) none))
