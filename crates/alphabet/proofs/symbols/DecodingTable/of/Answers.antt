use Rattle.std.proofs.Common.{sym, ap, ◌∙◌}
use Rattle.bits.specs.Tables.{tabulate, bytes_of}
use Rattle.alphabet.specs.declared.kind.AlphabetType.{AlphabetType}
use Rattle.alphabet.specs.Symbols.{Coding, coded, dna2bit, dna3bit, dna_iupac, protein, listed, plain, coding}
use Rattle.alphabet.proofs.Laws.{plain_kind}
use Rattle.alphabet.proofs.symbols.DecodingTable.of.Goals.{in-Dna2bit, in-Dna3bit, in-DnaIupac, in-Protein, in-Ascii}
use Rattle.alphabet.proofs.symbols.DecodingTable.of.Goals as goal

pub invariant_of-result : goal.invariant_of-result
unfolding coding listed plain dna2bit dna3bit dna_iupac protein coded bytes_of
invariant_of-result c =
    record {
      laid = elim c.match-kind.branch [
        | in-Dna2bit w ↦ w.symbols-is ∙ w.build_decoding-symbols.ensures ∙ ap (λ (k : AlphabetType). tabulate 32 (coding k).symbol) (sym w.in-Dna2bit.is)
        | in-Dna3bit w ↦ w.symbols-is ∙ w.build_decoding-symbols-in-Dna3bit.ensures ∙ ap (λ (k : AlphabetType). tabulate 32 (coding k).symbol) (sym w.in-Dna3bit.is)
        | in-DnaIupac w ↦ w.symbols-is ∙ w.build_decoding-symbols-in-DnaIupac.ensures ∙ ap (λ (k : AlphabetType). tabulate 32 (coding k).symbol) (sym w.in-DnaIupac.is)
        | in-Protein w ↦ w.symbols-is ∙ w.build_decoding-symbols-in-Protein.ensures ∙ ap (λ (k : AlphabetType). tabulate 32 (coding k).symbol) (sym w.in-Protein.is)
        | in-Ascii w ↦ w.symbols-is ∙ w.identity_32-symbols.ensures ∙ ap (λ (A : Coding). tabulate 32 A.symbol) (sym (plain_kind w.in-Ascii.is))
      ];
    }
