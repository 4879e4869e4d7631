-- What the rows that are kept give, and their faults, on the partitions and on the whole.
use Rattle.std.proofs.Common.{◌≡◌, ℕ, ◌<◌, true, false, List, [], ◌∷◌, map, Option, None, Result, Ok, Err, refl, ap, ◌∙◌}
use Rattle.std.specs.List.{list_any, AllByRecursion, filter_map, cons_option}
use Rattle.volt_catalog.specs.Rules.{Contents}
use Rattle.volt_catalog.specs.Catalog.{IsCatalog}
use Rattle.sql_plan.specs.declared.fault.Fault.{Fault}
use Rattle.sql_plan.specs.declared.select.SelectPlan.{SelectPlan}
use Rattle.sql_plan.specs.Rows.{Cells}
use Rattle.sql_meaning.specs.Judged.{least, fault_in, value_in, least_fault, unless}
use Rattle.sql_meaning.specs.Expressions.{Reads}
use Rattle.sql_meaning.specs.Database.{Database, share, IsDatabase}
use Rattle.sql_meaning.specs.Selects.{from_rows, is_kept, if_kept, all_kept}
use Rattle.sql_meaning.specs.Parts.{all_parts}
use Rattle.sql_meaning.specs.WellFormed.{distributes}
use Rattle.sql_laws.proofs.Plain.Folds.{range-distinct}
use Rattle.sql_laws.proofs.Plain.Faults.{least-comm, least-assoc, least-none}
use Rattle.sql_laws.proofs.Plain.Totals.{total_parts, total_filter}
use Rattle.sql_laws.proofs.Plain.Judgements.{with_unless, all_least, least_fault-map}
use Rattle.sql_laws.proofs.Select.Homes.{is_home, has_home, is_home-one, from_rows-share, homeless_rows}

-- what a row gave, where it gave something
abbrev pub entry_in : {A : Type 0} → Result (Option A) Fault → Option A
entry_in (Ok o) = o
entry_in (Err f) = None

entries_of : {X A : Type 0} (give : X → Result (Option A) Fault) (xs : List X) → filter_map (λ o. o) (filter_map value_in (map give xs)) ≡ filter_map (λ x. entry_in (give x)) xs
entries_of give [] = refl
entries_of give (x ∷ xs) = by (give x) (filter_map value_in (map give xs)) ∙ ap (cons_option (entry_in (give x))) (entries_of give xs)
  where
    by : {A : Type 0} (r : Result (Option A) Fault) (os : List (Option A)) → filter_map (λ o. o) (cons_option (value_in r) os) ≡ cons_option (entry_in r) (filter_map (λ o. o) os)
    by (Ok o) os = refl
    by (Err f) os = refl

module _ {A : Type 0} (select : SelectPlan) (gives : Reads A) (args : Cells) where
  abbrev pub given : Cells → Result (Option A) Fault
  given row = if_kept select gives row args

  abbrev pub entries : List Cells → List A
  entries rows = filter_map (λ row. entry_in (given row)) rows

  abbrev pub row_faults : List Cells → Option Fault
  row_faults rows = all_least (λ row. fault_in (given row)) rows

  pub kept_is : (db : Database) → all_kept select gives args db ≡ unless (row_faults (from_rows select db)) (entries (from_rows select db))
  kept_is db =
      with_unless (least_fault (map given (from_rows select db))) (filter_map value_in (map given (from_rows select db))) (λ os. filter_map (λ o. o) os)
      ∙ (λ i. unless (least_fault-map given (from_rows select db) i) (entries_of given (from_rows select db) i))

  not_given : (row : Cells) → is_kept select row args ≡ Ok false → given row ≡ Ok None
  not_given row e = rw e

  module _ (parts : ℕ) (some : 0 < parts) (catalog : Contents) (rules : IsCatalog catalog) (has : has_home catalog select ≡ true) (told : distributes catalog select select.right ≡ true) (db : Database) (is : IsDatabase catalog db) where
    abbrev rows : List Cells
    rows = from_rows select db

    not_faulted : (xs : List Cells) → AllByRecursion (λ row. list_any (λ p. is_home parts catalog select p row) (all_parts parts) ≡ false → is_kept select row args ≡ Ok false) xs
        → AllByRecursion (λ row. list_any (λ p. is_home parts catalog select p row) (all_parts parts) ≡ false → fault_in (given row) ≡ None) xs
    not_faulted [] h = tt
    not_faulted (x ∷ xs) h = ((λ none. ap fault_in (not_given x (h.0 none))), not_faulted xs h.1)

    no_entry : (xs : List Cells) → AllByRecursion (λ row. list_any (λ p. is_home parts catalog select p row) (all_parts parts) ≡ false → is_kept select row args ≡ Ok false) xs
        → AllByRecursion (λ row. list_any (λ p. is_home parts catalog select p row) (all_parts parts) ≡ false → entry_in (given row) ≡ None) xs
    no_entry [] h = tt
    no_entry (x ∷ xs) h = ((λ none. ap entry_in (not_given x (h.0 none))), no_entry xs h.1)

    pub no_entries : AllByRecursion (λ row. list_any (λ p. is_home parts catalog select p row) (all_parts parts) ≡ false → entry_in (given row) ≡ None) (from_rows select db)
    no_entries = no_entry rows (homeless_rows parts some catalog rules select has told args db is)

    -- the faults of all partitions are those of the whole
    pub faults_parts : all_least (λ p. row_faults (from_rows select (share parts catalog p db))) (all_parts parts) ≡ row_faults (from_rows select db)
    faults_parts =
        (λ i. all_least (λ p. row_faults (from_rows-share parts catalog rules p select db is i)) (all_parts parts))
        ∙ total_parts least None least-assoc least-comm least-none (λ row. fault_in (given row)) (is_home parts catalog select)
        (λ p q row e f. is_home-one parts catalog select has p q row e f) (all_parts parts) (range-distinct 0 parts) rows
        ∙ total_filter least None least-assoc least-comm least-none (λ row. fault_in (given row)) (λ row. list_any (λ p. is_home parts catalog select p row) (all_parts parts)) rows
        (not_faulted rows (homeless_rows parts some catalog rules select has told args db is))
