-- When a reader is exact: what it reads is spelled so, and what is spelled so is read again, whatever follows it.
use Rattle.std.specs.Prelude.{◌≡◌, ℕ, ◌+◌, ◌*◌, ◌/◌, ◌%◌, ◌^◌, ◌<◌, ℤ, FitsSigned, List, ◌++◌, length, slice_index, Some}
use Rattle.std.specs.Int.{w64, w128, to_be_bytes, cast_unsigned}
use Rattle.std.specs.List.{AllByRecursion}
use Rattle.byte_codec.specs.Readers.{Reader}

-- each number of the list is a byte
abbrev pub AreBytes : List ℕ → Type 0
AreBytes bytes = (i : ℕ) → slice_index bytes i < 256

-- The bytes are the spelling of a thing and then the rest, and the thing has a spelling: so it is of what was read.
pub record Taken {A : Type 0} (spell : A → List ℕ) (Fit : A → Type 0) (bytes : List ℕ) (x : A × List ℕ) : Type 0 where
  pub parts : bytes ≡ spell x.0 ++ x.1
  pub fits : Fit x.0

-- A thing and the rest are read exactly where the bytes begin with the spelling of a thing that has one. Since a thing is
-- read again whatever follows it, no spelling begins another.
pub record Exact {A : Type 0} (one_at : Reader A) (spell : A → List ℕ) (Fit : A → Type 0) : Type 0 where
  pub takes : (bytes : List ℕ) (x : A × List ℕ) → AreBytes bytes → one_at bytes ≡ Some x → Taken spell Fit bytes x
  pub again : (a : A) (rest : List ℕ) → Fit a → one_at (spell a ++ rest) ≡ Some (a, rest)

-- lists whose number of items has so many values at most
abbrev pub FitsIn : {A : Type 0} → ℕ → (A → Type 0) → List A → Type 0
FitsIn limit Fit xs = (length xs < limit) × AllByRecursion Fit xs

-- ---- numbers of 128 bits with a sign

unfoldable pub wide_bytes : ℤ → List ℕ
wide_bytes z = to_be_bytes w64 (cast_unsigned w128 z / 2 ^ 64) ++ to_be_bytes w64 (cast_unsigned w128 z % 2 ^ 64)

abbrev pub IsWide : ℤ → Type 0
IsWide z = FitsSigned w128 z
