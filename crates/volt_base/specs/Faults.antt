-- How a count of faults goes up.
use Rattle.std.specs.Prelude.{◌≡◌, ℕ, ◌+◌, ◌-◌, ◌^◌, ◌<◌, ◌⊎◌, min}

-- the count went up, or stood at the greatest u64 before, from where it can't
abbrev pub Increased : ℕ → ℕ → Type 0
Increased before now = (before < now) ⊎ (before ≡ 2 ^ 64 - 1)

-- one more, as far as a u64 counts
abbrev pub one_more : ℕ → ℕ
one_more n = min (n + 1) (2 ^ 64 - 1)
