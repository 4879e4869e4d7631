-- A buffer before a sink.
use Rattle.std.specs.Prelude.{ℕ, ◌+◌, ◌≤◌, List, length}

-- the most bytes that it holds
abbrev pub most_held : ℕ
most_held = 16384

-- there is room for these bytes behind those that are held
abbrev pub HasRoom : List ℕ → List ℕ → Type 0
HasRoom held text = length held + length text ≤ most_held
