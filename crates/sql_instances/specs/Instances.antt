-- What the instances speak of.
use Rattle.std.specs.Prelude.{ℕ, [], ◌∷◌, pos}
use Rattle.sql_meaning.specs.Database.{Database}
use Rattle.sql_scenarios.specs.Accounts.{accounts}
use Rattle.sql_scenarios.specs.Builders.{int}
use Rattle.sql_scenarios.specs.Notes.{with_codes}

-- accounts in each of three partitions
abbrev pub three : Database
three = accounts ((1, pos 9223372036854775805) ∷ (2, pos 1) ∷ (3, pos 1) ∷ [])

-- four accounts, and each of them with one more
abbrev pub four : Database
four = accounts ((1, pos 5) ∷ (2, pos 5) ∷ (3, pos 7) ∷ (4, pos 5) ∷ [])

abbrev pub four_more : Database
four_more = accounts ((1, pos 6) ∷ (2, pos 6) ∷ (3, pos 8) ∷ (4, pos 6) ∷ [])

-- a code that all partitions have, before and after it is set
abbrev pub code : ℕ → Database
code n = with_codes ((1, int n) ∷ [])

-- an account alone
abbrev pub one : Database
one = accounts ((1, pos 10) ∷ [])
