-- Answers by number. States document 01, "Code places and language forms", its last rule, for reads.
use Rattle.std.specs.Prelude.{ℕ, Result}
use Rattle.alphabet.specs.declared.refusal.Refusal.{Refusal}
use Rattle.alphabet.specs.Questions.{Reply}
use Rattle.alphabet.specs.Answers.{count_reply}

-- a read: the bases written
abbrev pub read_reply : Result ℕ Refusal → Reply
read_reply = count_reply
