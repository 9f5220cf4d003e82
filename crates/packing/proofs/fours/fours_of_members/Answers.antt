use mathlib.Core.Path.{◌≡◌, refl, sym, ◌∙◌, subst}
use mathlib.Core.List.{List}
use Prim.Native.Nat.{ℕ, ◌+◌, ◌*◌, ◌/◌, ◌≤◌}
use native.Mathlib.Omega.{arith}
use lib.ListN.{length}
use Rattle.alphabet.specs.Symbols.{Coding, coding_by}
use Rattle.alphabet.specs.declared.kind.AlphabetType.TheVariants.{Dna2bit}
use Rattle.members.specs.Members.{Passed}
use Rattle.members.proofs.Laws.{all_part}
use Rattle.members.proofs.Passing.{passed_none, passed_more}
use Rattle.packing.proofs.TwoBits.{Packed, none_packed, more_packed, blocks_ran}
use Rattle.packing.proofs.fours.fours_of_members.Goals as goal

pub loop-b-init : goal.loop-b-init
loop-b-init c = record {
  packed = none_packed c.args.fold c.args.text.now c.args.out.now;
  passed = passed_none (coding_by c.args.fold Dna2bit) c.args.text.now;
}

pub put_64-requires : goal.put_64-requires
put_64-requires c =
    let A : Coding = coding_by c.args.fold Dna2bit in
    let i : ℕ = c.loop-b.b * 64 in
    let block : i + 64 ≤ length c.args.text.now = omega (arith, c.loop-b-test.true) in
    let room : c.loop-b.b * 16 + 16 ≤ length c.loop-b.out = omega (arith, c.loop-b-test.true, c.requires, c.loop-b.auto.out) in
    (block, (room, λ e. all_part A c.args.text.now i 64 (i + 64) refl block (sym c.all_members.ensures ∙ c.if-not-all_members.false)))

pub loop-b-preserved : goal.loop-b-preserved
loop-b-preserved c =
    let A : Coding = coding_by c.args.fold Dna2bit in
    let text : List ℕ = c.args.text.now in
    let o = c.loop-b.invariant in
    let i : ℕ = c.loop-b.b * 64 in
    let block : i + 64 ≤ length text = omega (arith, c.loop-b-test.true) in
    let room : c.loop-b.b * 16 + 16 ≤ length c.args.out.now = omega (arith, c.loop-b-test.true, c.requires) in
    let members = all_part A text i 64 (i + 64) refl block (sym c.all_members.ensures ∙ c.if-not-all_members.false) in
    let next : i + 64 ≡ (c.loop-b.b + 1) * 64 = omega arith in
    record {
      packed = c.put_64.ensures ∙ more_packed c.args.fold text c.args.out.now c.loop-b.b c.loop-b.out o.packed room;
      passed = subst (Passed A text) next (passed_more A text i 64 o.passed block members);
    }

pub returns-then-not-all_members-clause-wrote : goal.returns-then-not-all_members-clause-wrote
returns-then-not-all_members-clause-wrote c =
    blocks_ran c.args.fold c.args.text.now c.args.out.now c.loop-b.b c.loop-b.out (omega (arith, c.loop-b-test.true)) c.loop-b.invariant.packed

pub returns-clause-wrote : goal.returns-clause-wrote
returns-clause-wrote c =
    let n : ℕ = length c.args.text.now / 64 in
    let all : c.loop-b.b ≡ n = omega (arith, c.loop-b-test.false, c.loop-b.auto.b-end) in
    blocks_ran c.args.fold c.args.text.now c.args.out.now n c.loop-b.out (omega arith)
    (subst (λ (k : ℕ). Packed c.args.fold c.args.text.now c.args.out.now k c.loop-b.out) all c.loop-b.invariant.packed)
