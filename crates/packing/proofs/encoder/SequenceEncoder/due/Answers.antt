use Rattle.std.proofs.Common.{ℕ, ◌+◌, ◌*◌, ◌/◌, ◌≤◌, ◌<◌, Ok, sym, ap, ◌∙◌, subst, arith}
use Rattle.alphabet.proofs.Laws.{lawful}
use Rattle.packing.proofs.Ends.{product_le, sound, few_bits, due_far, due_short, due_fine}
use Rattle.packing.proofs.encoder.SequenceEncoder.due.Goals as goal

pub overflow_sub-self : goal.overflow_sub-self
overflow_sub-self c = (sound c.args.self c.requires).bounded

pub returns-then-self-len : goal.returns-then-self-len
returns-then-self-len c = due_far c.args.self (sound c.args.self c.requires).bounded c.args.len c.args.room c.if-self-len.true

pub overflow_mul-count : goal.overflow_mul-count
overflow_mul-count c =
    let a = c.args in
    let narrow = subst (λ (b : ℕ). b ≤ 8) (sym c.bits_per_symbol.ensures) (lawful a.self.fold a.self.alphabet).narrow in
    omega (arith, product_le a.len c.bits_per_symbol.result (omega (arith, c.if-self-len.false)) narrow)

pub overflow_add-count : goal.overflow_add-count
overflow_add-count c =
    let a = c.args in
    let narrow = subst (λ (b : ℕ). b ≤ 8) (sym c.bits_per_symbol.ensures) (lawful a.self.fold a.self.alphabet).narrow in
    omega (arith, c.from.ensures, few_bits a.self (sound a.self c.requires), product_le a.len c.bits_per_symbol.result (omega (arith, c.if-self-len.false)) narrow)

pub returns-then-room-count : goal.returns-then-room-count
returns-then-room-count c =
    let a = c.args in
    let bits = subst (λ (x : ℕ). a.room < (x + a.len * c.bits_per_symbol.result) / 8) c.from.ensures c.if-room-count.true in
    due_short a.self (sound a.self c.requires).bounded a.len a.room c.if-self-len.false (subst (λ (b : ℕ). a.room < (a.self.bits + a.len * b) / 8) c.bits_per_symbol.ensures bits)

pub returns : goal.returns
returns c =
    let a = c.args in
    let bits = subst (λ (x : ℕ). (x + a.len * c.bits_per_symbol.result) / 8 ≤ a.room) c.from.ensures c.if-room-count.false in
    ap (λ (x : ℕ). Ok ((x + a.len * c.bits_per_symbol.result) / 8)) c.from.ensures
    ∙ ap (λ (b : ℕ). Ok ((a.self.bits + a.len * b) / 8)) c.bits_per_symbol.ensures
    ∙ due_fine a.self (sound a.self c.requires).bounded a.len a.room c.if-self-len.false (subst (λ (b : ℕ). (a.self.bits + a.len * b) / 8 ≤ a.room) c.bits_per_symbol.ensures bits)
