use Rattle.std.proofs.Common.{◌≡◌, ℕ, ◌+◌, ◌*◌, ◌<◌, sym, ◌∙◌, subst, arith, set, length-set}
use Rattle.bits.specs.Tables.{at}
use Rattle.bits.specs.Streams.{bit_at, word, cut}
use Rattle.bits.proofs.Tabulated.{is_tabulate, front_more}
use Rattle.packing.proofs.TwoBits.{four_codes, byte_of_four}
use Rattle.packing.proofs.fours.packed16.Goals as goal

-- each is a code
small : (c : goal.After-word4) (k : ℕ) → k < 4 → at c.args.codes.now (c.loop-j.j * 4 + k) < 4
small c k l = c.requires (c.loop-j.j * 4 + k) (omega (arith, c.loop-j-test.true))

pub squeeze-requires : goal.squeeze-requires
squeeze-requires c = four_codes (at c.args.codes.now) c.loop-j.j c.word4.result (small c) c.word4.ensures

pub loop-j-preserved : goal.loop-j-preserved
loop-j-preserved c =
    let o = c.loop-j in
    let f : ℕ → ℕ = λ k. word (bit_at 2 (at c.args.codes.now)) (0 + k * 8) 8 in
    let few : (k : ℕ) → k < 4 → at c.args.codes.now (o.j * 4 + k) < 4 = λ k l. c.requires (o.j * 4 + k) (omega (arith, c.loop-j-test.true)) in
    let byte : c.squeeze.result ≡ f o.j = c.squeeze.ensures ∙ byte_of_four (at c.args.codes.now) o.j c.word4.result few c.word4.ensures in
    record {
      long = simp length-set o.invariant.long;
      made = subst (λ (x : ℕ). (k : ℕ) → k < o.j + 1 → at (set o.bytes o.j x) k ≡ f k) (sym byte)
          (front_more f 0 o.bytes o.j (omega (arith, c.loop-j-test.true, o.invariant.long)) o.invariant.made);
    }

pub returns : goal.returns
unfolding cut
returns c =
    is_tabulate 16 (λ k. word (bit_at 2 (at c.args.codes.now)) (0 + k * 8) 8) 0 c.loop-j.bytes c.loop-j.invariant.long
    (λ k l. c.loop-j.invariant.made k (omega (arith, c.loop-j-test.false)))
