-- What the fields of an index stand for.
use Rattle.std.specs.Prelude.{◌≡◌, ℕ, Bool, false, ◌==◌, if◌then◌else◌, List, [], ◌∷◌, map, Option, Some, None}
use Rattle.std.specs.Str.{bytes_eq}
use Rattle.volt_index.specs.declared.index.Index.TheInside.{Inside}
use Rattle.volt_index.specs.Index.{Contents}

-- in the map, a place stands at its key and a number, which is 0 in a unique index, and else the place again
abbrev pub tie_of : Bool → ℕ → ℕ
tie_of unique place = if unique then 0 else place

abbrev pub shown : (List ℕ × ℕ) × ℕ → List ℕ × ℕ
shown e = (e.0.0, e.1)

abbrev pub AreTied : Bool → List ((List ℕ × ℕ) × ℕ) → Type 0
AreTied unique [] = Unit {0}
AreTied unique (e ∷ es) = (e.0.1 ≡ tie_of unique e.1) × AreTied unique es

-- it is there, and this place
abbrev pub has_place : ℕ → Option ℕ → Bool
has_place place None = false
has_place place (Some held) = held == place

-- the place of the first of some entries, if this is the first's key
abbrev pub first_place : List ℕ → List ((List ℕ × ℕ) × ℕ) → Option ℕ
first_place key [] = None
first_place key (e ∷ es) = if bytes_eq key e.0.0 then Some e.1 else None

abbrev pub contents_of : Inside → Contents
contents_of held = record { unique = held.unique; entries = map shown held.map.entries }

abbrev pub IsHeld : Inside → Type 0
IsHeld held = AreTied held.unique held.map.entries
