-- Demand 3 is proved: one theorem.
use mathlib.Core.Path.{◌∙◌}
use Rattle.alphabet.specs.Names.{kind_of}
use Rattle.record.specs.EncoderLists.{calls_of, alphabet_in, fold_in, text_in, bytes_in}
use Rattle.record.specs.Record.{Record}
use Rattle.record.proofs.Tallies.{fresh-tally}
use Rattle.record.proofs.Alike.{alike}
use Rattle.record.proofs.Encoders.{list_run, list_packs, once-packed, once-accepted}
use Rattle.record.proofs.Reading.{gives}
use Rattle.record.proofs.StreamCounts.{counted, waiting, is_largest, over_window}

pub the_record : Record
the_record =
    record {
      tallied = λ l. list_run l ∙ fresh-tally (fold_in l) (kind_of (alphabet_in l)) (calls_of l.calls);
      packs = list_packs;
      at_once = λ l h e on. once-packed e (alphabet_in l) (fold_in l) (text_in l) (bytes_in l) (list_packs l h) on.by_alphabet on.by_choice on.text on.room;
      encodes = once-accepted;
      decoders = gives;
      streams = over_window;
      counts = counted;
      waits = waiting;
      largest = is_largest;
      alike = λ alphabet fold. alike fold (kind_of alphabet);
    }
