-- Numbers of columns as bytes.
use Rattle.std.proofs.Common.{◌≡◌, ◌≤◌, ℕ, List, [], ◌∷◌, length, arith, refl}
use Rattle.std.proofs.lemmas.Bool.Decides.{nat_tests}
use Rattle.volt_catalog.specs.declared.column.Column.{Column}
use Rattle.ddl_define.specs.Columns.{number_in, numbers_in}
use Rattle.ddl_define.specs.Found.{byte_of, bytes_in}

pub byte_of_few : (n : ℕ) → n ≤ 255 → byte_of n ≡ n
byte_of_few n few = omega (arith, few)

pub number_in_within : (columns : List Column) (name : List ℕ) → number_in columns name ≤ length columns
number_in_within columns name = grind (arith, nat_tests)

pub byte_in_few : (columns : List Column) (name : List ℕ) → length columns ≤ 255 → byte_of (number_in columns name) ≡ number_in columns name
byte_in_few columns name few = byte_of_few (number_in columns name) (omega (arith, few, number_in_within columns name))

pub bytes_in_few : (columns : List Column) (names : List (List ℕ)) → length columns ≤ 255 → bytes_in columns names ≡ numbers_in columns names
bytes_in_few columns [] few = refl
bytes_in_few columns (name ∷ names) few = rw (byte_in_few columns name few, bytes_in_few columns names few) refl
