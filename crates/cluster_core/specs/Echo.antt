-- The engine of the tests, which answers each call with the call's own body and notes it.
use Rattle.std.specs.Prelude.{ℕ, true, List, [], ◌∷◌, ◌++◌}
use Rattle.volt_base.specs.Semantics.{Semantics}
use Rattle.volt_base.specs.declared.entry.Applied.{Applied}
use Rattle.volt_base.specs.declared.entry.Entry.{Entry}
use Rattle.volt_base.specs.declared.entry.Entry.TheVariants.{Sp, Frag, Done}

-- the calls that were applied, after an entry
abbrev pub after : List Applied → Entry → List Applied
after s (Sp call client point body) = s ++ record { call = call; point = point } ∷ []
after s (Frag m round body) = s
after s (Done m outcome) = s

-- what an entry answers
abbrev pub answer : List Applied → Entry → List ℕ
answer s (Sp call client point body) = body
answer s (Frag m round body) = []
answer s (Done m outcome) = []

-- Each entry fits. The rows are one byte, whatever was applied.
abbrev pub echo_semantics : Semantics
echo_semantics = record {
  State = List Applied;
  opening = λ part. [];
  fits = λ s e. true;
  after = after;
  answer = answer;
  rows = λ s. 7 ∷ [];
  applied = λ s. s;
  replies = λ s. [];
}
