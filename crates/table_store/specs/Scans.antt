-- Scans of tables.
use Rattle.std.specs.Prelude.{List, [], ◌∷◌}
use Rattle.tuple_block.specs.Tuples.{Tuples}
use Rattle.table_rows.specs.Table.{Table}
use Rattle.table_rows.specs.Standing.{IsScanOf}

-- a scan of each table, in order
abbrev pub AreScans : List Table → List (List Tuples) → Type 0
AreScans [] [] = Unit {0}
AreScans [] (scan ∷ scans) = ⊥
AreScans (table ∷ tables) [] = ⊥
AreScans (table ∷ tables) (scan ∷ scans) = IsScanOf table scan × AreScans tables scans
