-- A statement on the whole database, and its parts on the partitions.
use Rattle.std.specs.Prelude.{◌≡◌, ℕ, ◌<◌, List, [], ◌∷◌, Some, None, Ok}
use Rattle.volt_catalog.specs.Rules.{Contents}
use Rattle.sql_plan.specs.declared.prepared.Prepared.{Prepared}
use Rattle.sql_plan.specs.Rows.{Cells}
use Rattle.sql_meaning.specs.Judged.{with}
use Rattle.sql_meaning.specs.Database.{Database, share, IsDatabase}
use Rattle.sql_meaning.specs.Statements.{means}
use Rattle.sql_meaning.specs.Parts.{part_means, merged, given_by_parts}

-- the shares of a database are what the partitions make of theirs, none of them with a fault
abbrev pub HasShares : ℕ → Contents → Prepared → Cells → Database → Database → Type 0
HasShares parts catalog statement args db new =
    (part : ℕ) → part < parts
    → with (part_means parts catalog part statement args (share parts catalog part db)) (λ made. Ok made.0) ≡ Ok (share parts catalog part new)

pub record IsOfParts (parts : ℕ) (catalog : Contents) (statement : Prepared) (args : Cells) (db : Database) : Type 0 where
  -- its rows, or its fault, are what the parts come to
  pub answer : with (means parts catalog None statement args db) (λ made. Ok made.1) ≡ given_by_parts parts catalog statement args (λ part. share parts catalog part db)
  -- the new database is the one with the shares that the partitions make
  pub shares : (made : Database × List Cells) → means parts catalog None statement args db ≡ Ok made → HasShares parts catalog statement args db made.0
  pub only : (made : Database × List Cells) → means parts catalog None statement args db ≡ Ok made
      → (other : Database) → IsDatabase catalog other → HasShares parts catalog statement args db other → other ≡ made.0

-- the same of a statement in a procedure on one partition: its one part is all there is
abbrev pub IsOfOnePart : ℕ → Contents → ℕ → Prepared → Cells → Database → Type 0
IsOfOnePart parts catalog part statement args own =
    means parts catalog (Some part) statement args own
    ≡ with (part_means parts catalog part statement args own) (λ made. with (merged statement (made.1 ∷ [])) (λ rows. Ok (made.0, rows)))
