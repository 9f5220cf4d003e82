-- The end call, question by question.
use mathlib.Core.Path.{◌≡◌}
use mathlib.Core.Bool.{true, false}
use Prim.Native.Nat.{◌≤◌, ◌<◌}
use native.Mathlib.Omega.{arith}
use borrow.Author.Tests.{eq-eqb, ne_eqb}
use Rattle.std.specs.Prelude.{Ok, Err}
use Rattle.alphabet.specs.Refusing.{◌keeping◌}
use Rattle.alphabet.specs.declared.refusal.Refusal.TheVariants.{Unsound, Outstanding}
use Rattle.streaming.specs.declared.decoder.StreamingDecoder.{StreamingDecoder}
use Rattle.streaming.specs.Stream.{sound_stream, end_at}

module _ (s : StreamingDecoder) where
  pub end_unsound : sound_stream s ≡ false → Err (Unsound keeping s) ≡ end_at s
  unfolding end_at
  end_unsound sound = rw sound

  pub end_due : sound_stream s ≡ true → 0 < s.skip → Err (Outstanding s.budget keeping s) ≡ end_at s
  unfolding end_at
  end_due sound due = rw (sound, ne_eqb s.skip 0 (omega arith))

  pub end_short : sound_stream s ≡ true → s.skip ≤ 0 → 0 < s.budget → Err (Outstanding s.budget keeping s) ≡ end_at s
  unfolding end_at
  end_short sound done short = rw (sound, eq-eqb s.skip 0 (omega arith), ne_eqb s.budget 0 (omega arith))

  pub end_complete : sound_stream s ≡ true → s.skip ≤ 0 → s.budget ≤ 0 → Ok tt ≡ end_at s
  unfolding end_at
  end_complete sound done none = rw (sound, eq-eqb s.skip 0 (omega arith), eq-eqb s.budget 0 (omega arith))
