-- The rows of the worked table hold: one claim, by computation.
use mathlib.Core.Path.{refl}
use lib.Count.{count_trailing_zeros}
use Rattle.bits.specs.Tables.{tabulate, bytes_of}
use Rattle.bits.specs.Counts.{how_many}
use Rattle.bits.specs.Streams.{bit_at, word, after, cut}
use Rattle.bits.specs.Packing.{pack, at_hand, file_byte, codes_from}
use Rattle.alphabet.specs.Symbols.{coded, dna2bit, dna3bit, dna_iupac, protein, among, found, listed, plain, coding, upper}
use Rattle.alphabet.specs.Names.{display_name_of, kind_of, named_at}
use Rattle.alphabet.specs.Guess.{holders, mask_of, masked, lowest, guess_of, sound_guesser, guesser_update_at, guess_at}
use Rattle.alphabet.specs.Genome.{later, later_at, latest}
use Rattle.packing.specs.Encode.{digit_of, packing, first_from, encode_at, encode_writes, encode_memory, fresh_encoder, sound_encoder, piece_bits, piece_bit_count, updated}
use Rattle.packing.specs.Encode.{update_at, update_writes, update_memory, finalize_at, finalize_writes, finalize_memory}
use Rattle.packing.specs.Range.{range_at}
use Rattle.windows.specs.Window.{window, covers, assigned_front, first_lacking_of, read_at, lent_at, covered_at, read_writes, read_memory, covered_memory}
use Rattle.streaming.specs.Stream.{fresh_stream, sound_stream, start_stream_at, greatest, source_bits, used, takes, bases_of, moved, moved_by, stream_at, stream_memory, stream_writes, end_at}
use Rattle.record.specs.Calls.{written}
use Rattle.record.specs.Runs.{run}
use Rattle.record.specs.Rows.{Hold, rows}

pub rows_hold : Hold rows
unfolding count_trailing_zeros tabulate how_many bit_at word after cut pack at_hand file_byte codes_from bytes_of coded dna2bit dna3bit dna_iupac protein among found listed plain
    coding upper display_name_of kind_of named_at holders mask_of masked lowest guess_of sound_guesser guesser_update_at guess_at later later_at latest digit_of packing first_from
    encode_at encode_writes encode_memory fresh_encoder sound_encoder piece_bits piece_bit_count updated update_at update_writes update_memory finalize_at finalize_writes
    finalize_memory range_at window covers assigned_front first_lacking_of read_at lent_at covered_at read_writes read_memory covered_memory fresh_stream sound_stream
    start_stream_at greatest source_bits used takes bases_of moved moved_by stream_at stream_memory stream_writes end_at written run
rows_hold = refl
