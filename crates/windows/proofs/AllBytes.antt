-- Four bases from a byte of Dna2bit, by arithmetic: the rule over all 256 bytes.
use Rattle.std.proofs.Common.{◌≡◌, ℕ, ◌+◌, ◌-◌, ◌*◌, ◌/◌, ◌%◌, ◌^◌, ◌<◌, min, Bool, T, eqb, map, sym, ap, ◌∙◌, mod-lt, lit<, eqb→eq}
use lib.Bits.{bit_xor}
use Rattle.bits.specs.Tables.{tabulate, at, bytes_of}
use Rattle.bits.specs.Streams.{fields}
use Rattle.bits.proofs.Computed.{passes, below}
use Rattle.bits.proofs.Tabulated.{tabulate_ext, map-tabulate}
use Rattle.alphabet.specs.Symbols.{coding}
use Rattle.alphabet.specs.declared.kind.AlphabetType.TheVariants.{Dna2bit}
use Rattle.alphabet.proofs.Laws.{dna2bit-symbols, widths}
use Rattle.windows.specs.Workers.{symbols_of}

-- code t of a byte, and what `base_in` makes of a code
abbrev pub code_in : ℕ → ℕ → ℕ
code_in v t = v / 2 ^ ((3 - t) * 2) % 4

abbrev pub made : ℕ → ℕ
made c = bit_xor (min ((c * 2 + 254) % 2 ^ 8) (bit_xor 84 67)) 67

-- at every byte, of each of its four codes, the letter is made: computed
abbrev is_made : ℕ → ℕ → Bool
is_made v t = eqb (made (code_in v t)) (at (bytes_of "TCAG") (code_in v t))

abbrev all_made : ℕ → Bool
all_made v = passes (is_made v) 0 4

every_byte : T (passes all_made 0 256)
unfolding bytes_of
every_byte = tt

-- the rule over all 256 bytes: what is made of a byte is its four symbols
pub four_symbols : (v : ℕ) → v < 256 → tabulate 4 (λ t. made (code_in v t)) ≡ symbols_of (coding Dna2bit) 4 v
unfolding symbols_of fields
four_symbols v h =
    let symbol : ℕ → ℕ = (coding Dna2bit).symbol in
    tabulate_ext 4 (λ t. made (code_in v t)) (λ t. symbol (code_in v t))
    (λ t l.
    eqb→eq (made (code_in v t)) (at (bytes_of "TCAG") (code_in v t)) (below (is_made v) 4 (below all_made 256 every_byte v h) t l)
    ∙ sym (dna2bit-symbols (code_in v t) (mod-lt (v / 2 ^ ((3 - t) * 2)) (lit< tt))))
    ∙ sym (map-tabulate symbol (code_in v) 4)
    ∙ ap (λ (b : ℕ). map symbol (fields b 4 v)) (sym widths.of_dna2bit)
