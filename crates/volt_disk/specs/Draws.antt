-- Draws: numbers that look random and follow from where they began.
use Rattle.std.specs.Prelude.{ℕ, ◌+◌, ◌*◌, ◌^◌, ◌%◌, ◌/◌}

-- the next state
unfoldable pub next_state : ℕ → ℕ
next_state x = (x * 6364136223846793005 + 1442695040888963407) % 2 ^ 64

-- the draw that a state gives
abbrev pub draw_of : ℕ → ℕ
draw_of x = x / 2 ^ 33
