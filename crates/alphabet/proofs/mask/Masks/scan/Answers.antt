use Rattle.std.proofs.Common.{◌≡◌, ℕ, ◌+◌, ◌-◌, List, length, take, drop, ◌++◌, sym, subst, rules}
use Rattle.alphabet.specs.Symbols.{folded}
use Rattle.alphabet.specs.Guess.{masked}
use Rattle.alphabet.proofs.Turns.{Chunked, chunk_first, chunk_passed, chunk_byte, chunk_taken, chunk_none, chunk_ascii}
use Rattle.alphabet.proofs.mask.Masks.scan.Goals as goal

pub chunks-init : goal.chunks-init
chunks-init c =
    let a = c.args in
    let fold = a.self.now.fold in
    let all : c.into_iter-chunk-iterator.result.rest.now ≡ a.text.now = search rules in (
      search rules,
      search rules,
      subst (λ (t : List ℕ). Chunked fold (masked a.mask (folded fold a.text.now)) a.mask t) (sym all) (chunk_first fold a.mask a.text.now c.requires.1 (λ i. (c.type_inv.text i).fits)),
    )

pub chunks-preserved : goal.chunks-preserved
chunks-preserved c =
    let l = c.loop-byte in
    let chunk = c.in-Some.chunk.now in
    let start = c.pass_alike-start.result in
    let part = take (length chunk - start) (drop start chunk) in
    (search rules, search rules, chunk_taken c.args.self.now.fold part c.next.new.self.rest.now l.byte-index c.loop-byte-test.false l.invariant)

pub loop-byte-init : goal.loop-byte-init
loop-byte-init c =
    let fold = c.args.self.now.fold in
    let chunk = c.in-Some.chunk.now in
    let rest = c.next.new.self.rest.now in
    let p = c.pass_alike-start in
    let both : c.chunks.chunk-iterator.rest.now ≡ chunk ++ rest = search rules in
    let whole = masked c.args.mask (folded fold c.args.text.now) in
    chunk_passed fold chunk rest p.result p.ensures.within p.ensures.alike (subst (Chunked fold whole c.chunks.acc) both c.chunks.invariant.2)

pub loop-byte-preserved : goal.loop-byte-preserved
loop-byte-preserved c =
    let m = c.args.self.now in
    let l = c.loop-byte in
    let chunk = c.in-Some.chunk.now in
    let start = c.pass_alike-start.result in
    let part = take (length chunk - start) (drop start chunk) in
    chunk_byte m.fold m.of_bytes part c.next.new.self.rest.now l.byte-index c.from.result m.laid c.from.ensures c.loop-byte-test.true l.invariant

pub returns-in-None : goal.returns-in-None
returns-in-None c = chunk_none c.args.self.now.fold c.chunks.chunk-iterator.rest.now (search rules) c.chunks.invariant.2

pub returns-then-acc-eq-ASCII_BIT : goal.returns-then-acc-eq-ASCII_BIT
returns-then-acc-eq-ASCII_BIT c =
    let m = c.args.self.now in
    let l = c.loop-byte in
    let chunk = c.in-Some.chunk.now in
    let start = c.pass_alike-start.result in
    let part = take (length chunk - start) (drop start chunk) in
    let rest = c.next.new.self.rest.now in
    chunk_ascii m.fold (drop (l.byte-index + 1) part ++ rest) c.if-acc-eq-ASCII_BIT.true
    (chunk_byte m.fold m.of_bytes part rest l.byte-index c.from.result m.laid c.from.ensures c.loop-byte-test.true l.invariant)
