-- How many numbers each function takes.
use Rattle.std.specs.Prelude.{ℕ}
use Rattle.replay.specs.declared.function.Function.{Function}
use Rattle.replay.specs.declared.kinds.Kinds.{Kinds}
use Rattle.replay.specs.declared.encoders.Encoders.{Encoders}
use Rattle.replay.specs.declared.reads.Reads.{Reads}
use Rattle.replay.specs.declared.streams.Streams.{Streams}

abbrev pub takes_kinds : Kinds → ℕ
takes_kinds Kinds.AbiVersion = 0
takes_kinds Kinds.BitsPerSymbol = 1
takes_kinds Kinds.Contains = 2
takes_kinds Kinds.DisplayName = 1
takes_kinds Kinds.GuesserNew = 1
takes_kinds Kinds.GuesserUpdate = 2
takes_kinds Kinds.GuesserGuess = 2
takes_kinds Kinds.GuessAlphabet = 1
takes_kinds Kinds.LaterAlphabet = 2

abbrev pub takes_encoders : Encoders → ℕ
takes_encoders Encoders.New = 2
takes_encoders Encoders.Update = 9
takes_encoders Encoders.Finalize = 9
takes_encoders Encoders.EncodeSequence = 2
takes_encoders Encoders.ByteRangeForBases = 3
takes_encoders Encoders.Ask = 10

abbrev pub takes_reads : Reads → ℕ
takes_reads Reads.SubstringAtOffset = 4
takes_reads Reads.Substring = 3
takes_reads Reads.String = 2
takes_reads Reads.Covered = 4
takes_reads Reads.Rolling = 4
takes_reads Reads.TwoBit = 3
takes_reads Reads.ThreeBit = 3
takes_reads Reads.FourBit = 3
takes_reads Reads.FiveBit = 3

abbrev pub takes_streams : Streams → ℕ
takes_streams Streams.New = 3
takes_streams Streams.Read = 5
takes_streams Streams.End = 5

abbrev pub takes : Function → ℕ
takes (Function.OfKinds f) = takes_kinds f
takes (Function.OfEncoders f) = takes_encoders f
takes (Function.OfReads f) = takes_reads f
takes (Function.OfStreams f) = takes_streams f
