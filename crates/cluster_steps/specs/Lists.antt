-- What the laws say of lists: what is in one, and which log is a prefix of another.
use Rattle.std.proofs.Common.{◌≡◌, List, [], ◌∷◌, ◌++◌, ◌⊎◌}
use Rattle.std.specs.Prelude.{Option, Some, None}
use Rattle.volt_base.specs.declared.entry.Entry.{Entry}

-- x is one of these
abbrev pub In : {A : Type 0} → A → List A → Type 0
In x [] = ⊥
In x (y ∷ ys) = (y ≡ x) ⊎ In x ys

-- this holds of the value, if there is one
abbrev pub OnSome : {A : Type 0} → (A → Type 0) → Option A → Type 0
OnSome P None = Unit {0}
OnSome P (Some x) = P x

-- a log is a prefix of another one
abbrev pub Prefix : List Entry → List Entry → Type 0
Prefix xs ys = (more : List Entry) × (ys ≡ xs ++ more)
