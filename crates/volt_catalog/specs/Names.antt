-- Names, and when they differ.
use Rattle.std.specs.Prelude.{ℕ, Bool, true, not, ◌&&◌, List, [], ◌∷◌}
use Rattle.std.specs.List.{list_any}
use Rattle.std.specs.Str.{bytes_eq, str_to_ascii_lowercase}

-- a name with its letters A to Z in lower case
abbrev pub lower : List ℕ → List ℕ
lower name = str_to_ascii_lowercase name

-- two names are one: they are compared without ASCII case
abbrev pub same_name : List ℕ → List ℕ → Bool
same_name a b = bytes_eq (lower a) (lower b)

-- no name is there twice
abbrev pub differ : List (List ℕ) → Bool
differ [] = true
differ (name ∷ names) = not (list_any (same_name name) names) && differ names
