-- A log of steps.
use Rattle.std.specs.Prelude.{ℕ, List}

-- its steps, the newest last, and how many more it has room for
pub record Log (T : Type 0) : Type 0 where
  pub steps : List T
  pub room : ℕ
