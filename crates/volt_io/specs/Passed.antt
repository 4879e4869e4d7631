-- What went through calls, one after another.
use Rattle.std.specs.Prelude.{◌==◌, ℕ, Bool, false, List, [], ◌++◌, length}

pub record Passed : Type 0 where
  -- the bytes of all calls, in their order
  pub bytes : List ℕ
  -- whether the last call had none
  pub ended : Bool

-- before the first call
abbrev pub nothing_passed : Passed
nothing_passed = record { bytes = []; ended = false }

-- after one more call, with these bytes
abbrev pub then_passed : Passed → List ℕ → Passed
then_passed before bytes = record { bytes = before.bytes ++ bytes; ended = length bytes == 0 }
