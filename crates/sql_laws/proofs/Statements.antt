-- A statement on the whole database is its parts on the partitions, put together.
use Rattle.std.proofs.Common.{◌≡◌, ℕ, ◌+◌, ◌<◌, Bool, true, false, if◌then◌else◌, ◌||◌, ◌==◌, length, List, [], ◌∷◌, map, take, sum_by, Option, Some, None, option_map, is_some, Result, Ok, Err, sym, refl, ap, ◌∙◌, arith, zero-add}
use Rattle.std.specs.List.{list_any, filter_map}
use Rattle.std.proofs.lemmas.Bool.{or_parts, not-true}
use Rattle.volt_value.specs.declared.column.Class.{Class}
use Rattle.volt_catalog.specs.declared.table.Table.{Table}
use Rattle.volt_catalog.specs.Rules.{Contents}
use Rattle.volt_catalog.specs.Catalog.{IsCatalog}
use Rattle.sql_plan.specs.declared.fault.Fault.{Fault}
use Rattle.sql_plan.specs.declared.fault.Fault.TheVariants.{WrongPartition}
use Rattle.sql_plan.specs.declared.partial.Partial.{Partial}
use Rattle.sql_plan.specs.declared.partial.Partial.TheVariants as partial
use Rattle.sql_plan.specs.declared.prepared.Action.{Action}
use Rattle.sql_plan.specs.declared.prepared.Action.TheVariants.{Insert, Update, Delete, Select}
use Rattle.sql_plan.specs.declared.prepared.InsertPlan.{InsertPlan}
use Rattle.sql_plan.specs.declared.prepared.Prepared.{Prepared}
use Rattle.sql_plan.specs.declared.prepared.Scope.{Scope}
use Rattle.sql_plan.specs.declared.prepared.Scope.TheVariants.{OnePartition, AllPartitions, Replicated}
use Rattle.sql_plan.specs.declared.select.JoinPlan.{JoinPlan}
use Rattle.sql_plan.specs.declared.select.SelectPlan.{SelectPlan}
use Rattle.sql_plan.specs.declared.select.Shape.{Shape}
use Rattle.sql_plan.specs.declared.select.Shape.TheVariants as shape
use Rattle.sql_plan.specs.Rows.{Cells}
use Rattle.sql_meaning.specs.Judged.{with, least, both, fault_in, value_in, least_fault, collected, unless}
use Rattle.sql_meaning.specs.Values.{at}
use Rattle.sql_meaning.specs.Expressions.{Reads}
use Rattle.sql_meaning.specs.Tables.{table_at, part_of_value, is_part, lies_in}
use Rattle.sql_meaning.specs.Database.{Database, rows_of, set_rows, share, IsDatabase}
use Rattle.sql_meaning.specs.Changes.{Fate, inserted_row, inserted, updated, deleted, changed, counted}
use Rattle.sql_meaning.specs.Groups.{arguments_of, all_gathered_of, by_key}
use Rattle.sql_meaning.specs.Selects.{product, joined_with, from_rows, if_kept, all_kept, limit_of, output_row, group_entry, selected, selected_by}
use Rattle.sql_meaning.specs.Statements.{insert_means, change_means, action_means, means}
use Rattle.sql_meaning.specs.Parts.{keyed_row, group_of, elsewhere, part_of_insert, part_of_change, part_by_shape, part_of_action, part_means, count_in, merged_by, merged_action, parts_that_count, merged, all_parts, given_by_parts}
use Rattle.sql_meaning.specs.WellFormed.{from_classes, from_key, distributes, names_partitioned, joined_table, is_scope, IsShape, IsAction, IsPrepared}
use Rattle.sql_laws.proofs.Plain.Folds.{filter_all, range-cons, range-has}
use Rattle.sql_laws.proofs.Plain.Faults.{least-same}
use Rattle.sql_laws.proofs.Plain.Judgements.{with_with, with_same, collected_unless, all_least, least_fault-map}
use Rattle.sql_laws.proofs.Plain.Rows.{rows_of-share, share-set_rows}
use Rattle.sql_laws.proofs.Fits.{part_column}
use Rattle.sql_laws.proofs.Select.Homes.{has_home, right_column}
use Rattle.sql_laws.proofs.Select.One.{one_part}
use Rattle.sql_laws.proofs.Select.Whole.{rows_whole, total_whole, groups_whole}
use Rattle.sql_laws.proofs.Change.Fates.{change_answers, change_shares, ok_unless, none_among}
use Rattle.sql_laws.proofs.Change.Inserts.{insert_answers, insert_shares}
use Rattle.sql_laws.proofs.Change.Rows.{updated-small, deleted-small, updated-stays, deleted-stays}

abbrev whole_made : Database → ℕ → ℕ → List Cells → Database × List Cells
whole_made db n k rows = (set_rows db n rows, counted k)

abbrev part_made : Database → ℕ → ℕ → List Cells → Database × Partial
part_made db n k rows = (set_rows db n rows, partial.Count k)

abbrev count_made : Database × Partial → Result (Database × List Cells) Fault
count_made r = with (Ok (counted (sum_by count_in (r.1 ∷ [])))) (λ rows. Ok (r.0, rows))

-- ---- in a procedure on one partition

inserts_alone : (scope : Scope) (catalog : Contents) (n : ℕ) (rs : Result (List Cells) Fault) (db : Database) (here : Bool) → elsewhere scope db ≡ Err WrongPartition
    → (if here then with rs (λ rows. Ok (whole_made db n 1 rows)) else Err WrongPartition)
    ≡ with (if here then with rs (λ rows. Ok (part_made db n 1 rows)) else elsewhere scope db) count_made
inserts_alone scope catalog n (Ok rows) db true wrong = refl
inserts_alone scope catalog n (Err f) db true wrong = refl
inserts_alone scope catalog n rs db false wrong = rw wrong

changes_alone : (catalog : Contents) (n : ℕ) (fate : Reads Fate) (args : Cells) (db : Database)
    → change_means catalog n fate args db ≡ with (part_of_change catalog n fate args db) count_made
changes_alone catalog n fate args db =
    with_same (changed catalog n fate args (rows_of db n)) (λ made. Ok (whole_made db n made.1 made.0)) (λ made. Ok (set_rows db n made.0, counted (0 + made.1)))
    (λ made e. ap (λ m. Ok (set_rows db n made.0, counted m)) (sym (zero-add made.1)))
    ∙ sym (with_with (changed catalog n fate args (rows_of db n)) (λ made. Ok (set_rows db n made.0, partial.Count made.1)) count_made)

action_alone : (parts : ℕ) (catalog : Contents) (part : ℕ) (action : Action) (args : Cells) (db : Database)
    → action_means parts catalog (Some part) action args db ≡ with (part_of_action parts catalog part OnePartition action args db) (λ r. with (merged_action action (r.1 ∷ [])) (λ rows. Ok (r.0, rows)))
action_alone parts catalog part (Insert insert) args db = by (inserted_row catalog insert args)
  where
    by : (r : Result Cells Fault) → with r (λ row. if lies_in parts part (table_at catalog insert.table) row then with (inserted catalog insert.table (rows_of db insert.table) row) (λ rows. Ok (whole_made db insert.table 1 rows)) else Err WrongPartition)
        ≡ with (with r (λ row. if lies_in parts part (table_at catalog insert.table) row then with (inserted catalog insert.table (rows_of db insert.table) row) (λ rows. Ok (part_made db insert.table 1 rows)) else elsewhere OnePartition db))
        count_made
    by (Ok row) = inserts_alone OnePartition catalog insert.table (inserted catalog insert.table (rows_of db insert.table) row) db (lies_in parts part (table_at catalog insert.table) row) refl
    by (Err f) = refl
action_alone parts catalog part (Update update) args db = changes_alone catalog update.table (updated catalog update) args db
action_alone parts catalog part (Delete delete) args db = changes_alone catalog delete.table (deleted delete) args db
action_alone parts catalog part (Select select) args db =
    ap (λ r. with r (λ rows. Ok (db, rows))) (one_part select select.shape args db)
    ∙ with_with (part_by_shape select select.shape args db) (λ p. merged_by select.shape (p ∷ [])) (λ rows. Ok (db, rows))
    ∙ sym (with_with (part_by_shape select select.shape args db) (λ p. Ok (db, p)) (λ r. with (merged_by select.shape (r.1 ∷ [])) (λ rows. Ok (r.0, rows))))

pub alone : (parts : ℕ) (catalog : Contents) (part : ℕ) (statement : Prepared) (args : Cells) (db : Database) → statement.scope ≡ OnePartition
    → means parts catalog (Some part) statement args db ≡ with (part_means parts catalog part statement args db) (λ r. with (merged statement (r.1 ∷ [])) (λ rows. Ok (r.0, rows)))
alone parts catalog part statement args db one =
    action_alone parts catalog part statement.action args db
    ∙ (λ i. with (part_of_action parts catalog part (sym one i) statement.action args db) (λ r. with (merged_action statement.action (parts_that_count (sym one i) (r.1 ∷ []))) (λ rows. Ok (r.0, rows))))

-- ---- on tables that all partitions have

no_part : (parts p : ℕ) (table : Table) (row : Cells) → table.part ≡ None → lies_in parts p table row ≡ true
no_part parts p table row e = ap (λ o. is_part p (option_map (λ column. part_of_value parts (at row column)) o)) e

none_when : {A : Type 0} (o : Option A) → is_some o ≡ false → o ≡ None
none_when None e = refl
none_when (Some x) e = absurd (cc)

module _ (parts : ℕ) (some : 0 < parts) (catalog : Contents) (db : Database) (is : IsDatabase catalog db) where
  same_rows : (p n : ℕ) → (table_at catalog n).part ≡ None → rows_of (share parts catalog p db) n ≡ rows_of db n
  same_rows p n e = rows_of-share parts catalog p db n is.tables ∙ filter_all (lies_in parts p (table_at catalog n)) (λ row. no_part parts p (table_at catalog n) row e) (rows_of db n)

  -- what a partition gives of such a statement, by its database
  abbrev core : Action → Cells → Database → Result Partial Fault
  core (Insert insert) args d = with (inserted_row catalog insert args) (λ row. with (inserted catalog insert.table (rows_of d insert.table) row) (λ rows. Ok (partial.Count 1)))
  core (Update update) args d = with (changed catalog update.table (updated catalog update) args (rows_of d update.table)) (λ made. Ok (partial.Count made.1))
  core (Delete delete) args d = with (changed catalog delete.table (deleted delete) args (rows_of d delete.table)) (λ made. Ok (partial.Count made.1))
  core (Select select) args d = part_by_shape select select.shape args d

  insert_core : (p : ℕ) (scope : Scope) (insert : InsertPlan) (args : Cells) (d : Database) → (table_at catalog insert.table).part ≡ None
      → with (part_of_insert parts catalog p scope insert args d) (λ r. Ok r.1) ≡ core (Insert insert) args d
  insert_core p scope insert args d e = by (inserted_row catalog insert args)
    where
      by_rows : (rs : Result (List Cells) Fault) → with (with rs (λ rows. Ok (part_made d insert.table 1 rows))) (λ r. Ok r.1) ≡ with rs (λ rows. Ok (partial.Count 1))
      by_rows (Ok rows) = refl
      by_rows (Err f) = refl

      by : (r : Result Cells Fault) → with (with r (λ row. if lies_in parts p (table_at catalog insert.table) row then with (inserted catalog insert.table (rows_of d insert.table) row) (λ rows. Ok (part_made d insert.table 1 rows)) else elsewhere scope d)) (λ r. Ok r.1)
          ≡ with r (λ row. with (inserted catalog insert.table (rows_of d insert.table) row) (λ rows. Ok (partial.Count 1)))
      by (Ok row) =
          ap (λ b. with (if b then with (inserted catalog insert.table (rows_of d insert.table) row) (λ rows. Ok (part_made d insert.table 1 rows)) else elsewhere scope d) (λ r. Ok r.1)) (no_part parts p (table_at catalog insert.table) row e)
          ∙ by_rows (inserted catalog insert.table (rows_of d insert.table) row)
      by (Err f) = refl

  action_core : (p : ℕ) (scope : Scope) (action : Action) (args : Cells) (d : Database) → names_partitioned catalog action ≡ false
      → with (part_of_action parts catalog p scope action args d) (λ r. Ok r.1) ≡ core action args d
  action_core p scope (Insert insert) args d none = insert_core p scope insert args d (none_when (table_at catalog insert.table).part (or_parts (is_some (table_at catalog insert.table).part) false none).0)
  action_core p scope (Update update) args d none = with_with (changed catalog update.table (updated catalog update) args (rows_of d update.table)) (λ made. Ok (set_rows d update.table made.0, partial.Count made.1)) (λ r. Ok r.1)
  action_core p scope (Delete delete) args d none = with_with (changed catalog delete.table (deleted delete) args (rows_of d delete.table)) (λ made. Ok (set_rows d delete.table made.0, partial.Count made.1)) (λ r. Ok r.1)
  action_core p scope (Select select) args d none = with_with (part_by_shape select select.shape args d) (λ part. Ok (d, part)) (λ r. Ok r.1) ∙ by (part_by_shape select select.shape args d)
    where
      by : (r : Result Partial Fault) → with r (λ part. Ok part) ≡ r
      by (Ok x) = refl
      by (Err f) = refl

  whole_change : (r : Result (List Cells × ℕ) Fault) (n : ℕ) → with (with r (λ made. Ok (whole_made db n made.1 made.0))) (λ r. Ok r.1) ≡ with (with r (λ made. Ok (partial.Count made.1))) (λ x. Ok (counted (sum_by count_in (x ∷ []))))
  whole_change (Ok made) n = ap (λ m. Ok (counted m)) (sym (zero-add made.1))
  whole_change (Err f) n = refl

  joined_same : (p left : ℕ) (right : Option JoinPlan) → (table_at catalog left).part ≡ None → list_any (λ n. is_some (table_at catalog n).part) (joined_table right) ≡ false
      → joined_with (rows_of (share parts catalog p db) left) right (share parts catalog p db) ≡ joined_with (rows_of db left) right db
  joined_same p left None l r = same_rows p left l
  joined_same p left (Some join) l r =
      λ i. product (same_rows p left l i) (same_rows p join.table (none_when (table_at catalog join.table).part (or_parts (is_some (table_at catalog join.table).part) false r).0) i)

  kept_same : {A : Type 0} (select : SelectPlan) (gives : Reads A) (args : Cells) (d e : Database) → from_rows select d ≡ from_rows select e → all_kept select gives args d ≡ all_kept select gives args e
  kept_same select gives args d e same = ap (λ (rows : List Cells). with (collected (map (λ row. if_kept select gives row args) rows)) (λ given. Ok (filter_map (λ x. x) given))) same

  shape_same : (select : SelectPlan) (s : Shape) (args : Cells) (d e : Database) → from_rows select d ≡ from_rows select e → part_by_shape select s args d ≡ part_by_shape select s args e
  shape_same select (shape.Rows outputs order) args d e same =
      ap (λ r. with (both r (limit_of select.limit args)) (λ given. Ok (partial.Rows (map keyed_row given.0) given.1))) (kept_same select (output_row outputs order) args d e same)
  shape_same select (shape.Total gs) args d e same =
      ap (λ r. with (both r (limit_of select.limit args)) (λ given. Ok (partial.Groups (group_of ([], all_gathered_of gs given.0) ∷ []) given.1))) (kept_same select (arguments_of gs) args d e same)
  shape_same select (shape.Groups columns gs outputs order) args d e same =
      ap (λ r. with (both r (limit_of select.limit args)) (λ given. Ok (partial.Groups (map (λ g. group_of (g.0, all_gathered_of gs g.1)) (by_key given.0)) given.1))) (kept_same select (group_entry columns gs) args d e same)

  core_same : (p : ℕ) (action : Action) (args : Cells) → names_partitioned catalog action ≡ false → core action args (share parts catalog p db) ≡ core action args db
  core_same p (Insert insert) args none =
      ap (λ (rows : List Cells). with (inserted_row catalog insert args) (λ row. with (inserted catalog insert.table rows row) (λ rows. Ok (partial.Count 1))))
      (same_rows p insert.table (none_when (table_at catalog insert.table).part (or_parts (is_some (table_at catalog insert.table).part) false none).0))
  core_same p (Update update) args none =
      ap (λ (rows : List Cells). with (changed catalog update.table (updated catalog update) args rows) (λ made. Ok (partial.Count made.1)))
      (same_rows p update.table (none_when (table_at catalog update.table).part (or_parts (is_some (table_at catalog update.table).part) false none).0))
  core_same p (Delete delete) args none =
      ap (λ (rows : List Cells). with (changed catalog delete.table (deleted delete) args rows) (λ made. Ok (partial.Count made.1)))
      (same_rows p delete.table (none_when (table_at catalog delete.table).part (or_parts (is_some (table_at catalog delete.table).part) false none).0))
  core_same p (Select select) args none =
      let two = or_parts (is_some (table_at catalog select.left).part) (list_any (λ n. is_some (table_at catalog n).part) (joined_table select.right)) none in
      shape_same select select.shape args (share parts catalog p db) db (joined_same p select.left select.right (none_when (table_at catalog select.left).part two.0) two.1)

  -- the same of all partitions
  all_same : (r : Result Partial Fault) → collected (map (λ p. r) (all_parts parts)) ≡ with r (λ x. Ok (map (λ p. x) (all_parts parts)))
  all_same (Ok x) = collected_unless (λ p. None) (λ p. x) (all_parts parts) ∙ ap (λ f. unless f (map (λ p. x) (all_parts parts))) (none (all_parts parts))
    where
      none : (ps : List ℕ) → all_least (λ (p : ℕ). None) ps ≡ None
      none [] = refl
      none (p ∷ ps) = none ps
  all_same (Err f) =
      collected_unless (λ p. Some f) (λ p. partial.Count 0) (all_parts parts)
      ∙ ap (λ g. unless g (map (λ p. partial.Count 0) (all_parts parts))) (let first = range-cons parts some in ap (all_least (λ (p : ℕ). Some f)) first.1 ∙ same first.0)
    where
      same : (ps : List ℕ) → all_least (λ (p : ℕ). Some f) (0 ∷ ps) ≡ Some f
      same [] = refl
      same (p ∷ ps) = ap (least (Some f)) (same ps) ∙ least-same (Some f)

  whole_core : (action : Action) (args : Cells) → names_partitioned catalog action ≡ false → with (action_means parts catalog None action args db) (λ r. Ok r.1) ≡ with (core action args db) (λ x. merged_action action (x ∷ []))
  whole_core (Insert insert) args none = by (inserted_row catalog insert args)
    where
      by_rows : (rs : Result (List Cells) Fault) → with (with rs (λ rows. Ok (whole_made db insert.table 1 rows))) (λ r. Ok r.1) ≡ with (with rs (λ rows. Ok (partial.Count 1))) (λ x. Ok (counted (sum_by count_in (x ∷ []))))
      by_rows (Ok rows) = refl
      by_rows (Err f) = refl

      by : (r : Result Cells Fault) → with (with r (λ row. with (inserted catalog insert.table (rows_of db insert.table) row) (λ rows. Ok (whole_made db insert.table 1 rows)))) (λ r. Ok r.1)
          ≡ with (with r (λ row. with (inserted catalog insert.table (rows_of db insert.table) row) (λ rows. Ok (partial.Count 1)))) (λ x. Ok (counted (sum_by count_in (x ∷ []))))
      by (Ok row) = by_rows (inserted catalog insert.table (rows_of db insert.table) row)
      by (Err f) = refl
  whole_core (Update update) args none = whole_change (changed catalog update.table (updated catalog update) args (rows_of db update.table)) update.table
  whole_core (Delete delete) args none = whole_change (changed catalog delete.table (deleted delete) args (rows_of db delete.table)) delete.table
  whole_core (Select select) args none =
      with_with (selected select args db) (λ rows. Ok (db, rows)) (λ r. Ok r.1) ∙ by (selected select args db) ∙ one_part select select.shape args db
    where
      by : (r : Result (List Cells) Fault) → with r (λ rows. Ok rows) ≡ r
      by (Ok x) = refl
      by (Err f) = refl

  first_alone : (x : Partial) → take 1 (map (λ p. x) (all_parts parts)) ≡ x ∷ []
  first_alone x = let first = range-cons parts some in ap (λ (ps : List ℕ). take 1 (map (λ p. x) ps)) first.1

  pub replicated : (statement : Prepared) (args : Cells) → statement.scope ≡ Replicated → names_partitioned catalog statement.action ≡ false
      → with (means parts catalog None statement args db) (λ r. Ok r.1) ≡ given_by_parts parts catalog statement args (λ p. share parts catalog p db)
  replicated statement args one none =
      whole_core statement.action args none
      ∙ with_same (core statement.action args db) (λ x. merged_action statement.action (x ∷ [])) (λ x. merged statement (map (λ p. x) (all_parts parts)))
      (λ x e. ap (merged_action statement.action) (sym (ap (λ s. parts_that_count s (map (λ p. x) (all_parts parts))) one ∙ first_alone x)))
      ∙ sym (with_with (core statement.action args db) (λ x. Ok (map (λ p. x) (all_parts parts))) (merged statement))
      ∙ ap (λ r. with r (merged statement)) (sym (all_same (core statement.action args db)))
      ∙ (λ i. with (collected (map (λ p. sym (action_core p statement.scope statement.action args (share parts catalog p db) none ∙ core_same p statement.action args none) i) (all_parts parts))) (merged statement))

-- ---- on tables of which each partition has its rows

some_of : {A : Type 0} (o : Option A) → is_some o ≡ true → (x : A) × (o ≡ Some x)
some_of None e = absurd (cc)
some_of (Some x) e = (x, refl)

or_false : (b : Bool) → (b || false) ≡ b
or_false true = refl
or_false false = refl

home_by : (catalog : Contents) (w : ℕ) (right : Option JoinPlan) → list_any (λ n. is_some (table_at catalog n).part) (joined_table right) ≡ is_some (right_column catalog w right)
home_by catalog w None = refl
home_by catalog w (Some join) = or_false (is_some (table_at catalog join.table).part) ∙ by (table_at catalog join.table).part
  where
    by : (o : Option ℕ) → is_some o ≡ is_some (option_map (λ n. w + n) o)
    by None = refl
    by (Some n) = refl

pub home_of : (catalog : Contents) (select : SelectPlan) → names_partitioned catalog (Select select) ≡ true → has_home catalog select ≡ true
home_of catalog select e = ap (λ b. is_some (table_at catalog select.left).part || b) (sym (home_by catalog (length (table_at catalog select.left).columns) select.right)) ∙ e

-- the rows alone
rows_alone : {A : Type 0} (r : Result A Fault) (db : Database) → with (with r (λ x. Ok (db, x))) (λ (p : Database × A). Ok p.1) ≡ r
rows_alone (Ok x) db = refl
rows_alone (Err f) db = refl

ok_when : {A : Type 0} (r : Result A Fault) → fault_in r ≡ None → (x : A) × (r ≡ Ok x)
ok_when (Ok x) e = (x, refl)
ok_when (Err g) e = absurd (cc)

-- one of judgements that are all without a fault
collected_ok : {A : Type 0} (f : ℕ → Result A Fault) (ps : List ℕ) (xs : List A) → collected (map f ps) ≡ Ok xs → (p : ℕ) → list_any (λ q. p == q) ps ≡ true → (x : A) × (f p ≡ Ok x)
collected_ok f ps xs e p here =
    let none : least_fault (map f ps) ≡ None = (ok_unless (least_fault (map f ps)) (filter_map value_in (map f ps)) xs e).0 in
    let each : fault_in (f p) ≡ None = none_among (λ p. fault_in (f p)) ps p (sym (least_fault-map f ps) ∙ none) here in
    ok_when (f p) each

one_database : (db : Database) (rows : List Cells) (whole : Database × List Cells) → ◌≡◌ {A = Result (Database × List Cells) Fault} (Ok (db, rows)) (Ok whole) → db ≡ whole.0
one_database db rows whole e = let g : ◌≡◌ {A = Database × List Cells} (db, rows) whole = cc in ap (λ (w : Database × List Cells). w.0) g

module _ (parts : ℕ) (some : 0 < parts) (catalog : Contents) (rules : IsCatalog catalog) (db : Database) (is : IsDatabase catalog db) where
  shape_parts : (select : SelectPlan) (s : Shape) (params : List Class) (given : List Class) → IsShape (from_classes catalog select) params (from_key catalog select) s given → has_home catalog select ≡ true → distributes catalog select select.right ≡ true → (args : Cells)
      → selected_by select s args db ≡ with (collected (map (λ p. part_by_shape select s args (share parts catalog p db)) (all_parts parts))) (merged_by s)
  shape_parts select (shape.Rows outputs order) params given fits has told args = rows_whole parts some catalog rules select has told args db is outputs order (length outputs) (length (from_classes catalog select)) fits.ordered
  shape_parts select (shape.Total gs) params given fits has told args = total_whole parts some catalog rules select has told args db is gs
  shape_parts select (shape.Groups columns gs outputs order) params given fits has told args = groups_whole parts some catalog rules select has told args db is columns gs outputs order

  partitioned : (action : Action) (params : List Class) (columns : List (List ℕ × Class)) → IsAction catalog params columns action → names_partitioned catalog action ≡ true → (args : Cells)
      → with (action_means parts catalog None action args db) (λ r. Ok r.1)
      ≡ with (collected (map (λ p. with (part_of_action parts catalog p AllPartitions action args (share parts catalog p db)) (λ r. Ok r.1)) (all_parts parts))) (merged_action action)
  partitioned (Insert insert) params columns fits named args =
      let part = some_of (table_at catalog insert.table).part (sym (or_false (is_some (table_at catalog insert.table).part)) ∙ named) in
      insert_answers parts some catalog rules insert part.0 part.1 AllPartitions (λ d. refl) args db is
  partitioned (Update update) params columns fits named args =
      let part = some_of (table_at catalog update.table).part (sym (or_false (is_some (table_at catalog update.table).part)) ∙ named) in
      change_answers parts some catalog rules update.table part.0 part.1 (updated catalog update) args (λ row. updated-small catalog update row args)
      (λ row f new e l. updated-stays catalog update part.0 fits.0.key (part_column catalog update.table part.0 rules part.1) args row f new e l) db is
  partitioned (Delete delete) params columns fits named args =
      let part = some_of (table_at catalog delete.table).part (sym (or_false (is_some (table_at catalog delete.table).part)) ∙ named) in
      change_answers parts some catalog rules delete.table part.0 part.1 (deleted delete) args (λ row. deleted-small delete row args)
      (λ row f new e l. ap (λ r. at r part.0) (deleted-stays delete args row f new e l)) db is
  partitioned (Select select) params columns fits named args =
      rows_alone (selected select args db) db
      ∙ shape_parts select select.shape params (map (λ column. column.1) columns) fits.shape (home_of catalog select named) fits.distributes args
      ∙ (λ i. with (collected (map (λ p. sym (rows_alone (part_by_shape select select.shape args (share parts catalog p db)) (share parts catalog p db)) i) (all_parts parts))) (merged_by select.shape))

  pub in_parts : (statement : Prepared) → IsPrepared catalog statement → (statement.scope ≡ OnePartition → ⊥) → (args : Cells)
      → with (means parts catalog None statement args db) (λ r. Ok r.1) ≡ given_by_parts parts catalog statement args (λ p. share parts catalog p db)
  in_parts statement prepared many args = by statement.scope refl prepared.scope
    where
      by : (s : Scope) → statement.scope ≡ s → is_scope s (names_partitioned catalog statement.action) ≡ true
          → with (means parts catalog None statement args db) (λ r. Ok r.1) ≡ given_by_parts parts catalog statement args (λ p. share parts catalog p db)
      by OnePartition e named = absurd (many e)
      by AllPartitions e named =
          partitioned statement.action statement.params statement.columns prepared.action named args
          ∙ (λ i. with (collected (map (λ p. with (part_of_action parts catalog p (sym e i) statement.action args (share parts catalog p db)) (λ r. Ok r.1)) (all_parts parts))) (λ ps. merged_action statement.action (parts_that_count (sym e i) ps)))
      by Replicated e named = replicated parts some catalog db is statement args e (not-true (names_partitioned catalog statement.action) named)

  -- ---- the shares afterwards

  all_rows : (p n : ℕ) → (table_at catalog n).part ≡ None → (rows : List Cells) → set_rows (share parts catalog p db) n rows ≡ share parts catalog p (set_rows db n rows)
  all_rows p n e rows =
      ap (set_rows (share parts catalog p db) n) (sym (filter_all (lies_in parts p (table_at catalog n)) (λ row. no_part parts p (table_at catalog n) row e) rows))
      ∙ sym (share-set_rows parts catalog p db n rows)

  change_replicated : (p n : ℕ) → (table_at catalog n).part ≡ None → (fate : Reads Fate) (args : Cells) (whole : Database × List Cells) → change_means catalog n fate args db ≡ Ok whole
      → (x : Partial) × (part_of_change catalog n fate args (share parts catalog p db) ≡ Ok (share parts catalog p whole.0, x))
  change_replicated p n e fate args whole done = by (changed catalog n fate args (rows_of db n)) refl done
    where
      by : (r : Result (List Cells × ℕ) Fault) → changed catalog n fate args (rows_of db n) ≡ r → with r (λ made. Ok (whole_made db n made.1 made.0)) ≡ Ok whole
          → (x : Partial) × (part_of_change catalog n fate args (share parts catalog p db) ≡ Ok (share parts catalog p whole.0, x))
      by (Ok made) same done =
          let was : whole_made db n made.1 made.0 ≡ whole = let f : Ok (whole_made db n made.1 made.0) ≡ Ok whole = done in cc in (
            partial.Count made.1,
            ap (λ (rows : List Cells). with (changed catalog n fate args rows) (λ made. Ok (part_made (share parts catalog p db) n made.1 made.0))) (same_rows parts some catalog db is p n e)
                ∙ ap (λ r. with r (λ made. Ok (part_made (share parts catalog p db) n made.1 made.0))) same
                ∙ (λ i. Ok ((all_rows p n e made.0 ∙ ap (λ (w : Database × List Cells). share parts catalog p w.0) was) i, partial.Count made.1)),
          )
      by (Err f) same done = absurd (cc)

  insert_replicated : (p : ℕ) (scope : Scope) (insert : InsertPlan) → (table_at catalog insert.table).part ≡ None → (args : Cells) (whole : Database × List Cells) → insert_means parts catalog None insert args db ≡ Ok whole
      → (x : Partial) × (part_of_insert parts catalog p scope insert args (share parts catalog p db) ≡ Ok (share parts catalog p whole.0, x))
  insert_replicated p scope insert e args whole done = by (inserted_row catalog insert args) done
    where
      n : ℕ
      n = insert.table

      by_rows : (row : Cells) (rs : Result (List Cells) Fault) → inserted catalog insert.table (rows_of db insert.table) row ≡ rs → with rs (λ rows. Ok (whole_made db insert.table 1 rows)) ≡ Ok whole
          → (x : Partial) × (with (inserted catalog insert.table (rows_of (share parts catalog p db) insert.table) row) (λ rows. Ok (part_made (share parts catalog p db) insert.table 1 rows)) ≡ Ok (share parts catalog p whole.0, x))
      by_rows row (Ok rows) same done =
          let was : whole_made db insert.table 1 rows ≡ whole = let f : Ok (whole_made db insert.table 1 rows) ≡ Ok whole = done in cc in (
            partial.Count 1,
            ap (λ (rs : List Cells). with (inserted catalog insert.table rs row) (λ rows. Ok (part_made (share parts catalog p db) insert.table 1 rows))) (same_rows parts some catalog db is p insert.table e)
                ∙ ap (λ r. with r (λ rows. Ok (part_made (share parts catalog p db) insert.table 1 rows))) same
                ∙ (λ i. Ok ((all_rows p insert.table e rows ∙ ap (λ (w : Database × List Cells). share parts catalog p w.0) was) i, partial.Count 1)),
          )
      by_rows row (Err f) same done = absurd (cc)

      by : (r : Result Cells Fault) → with r (λ row. with (inserted catalog insert.table (rows_of db insert.table) row) (λ rows. Ok (whole_made db insert.table 1 rows))) ≡ Ok whole
          → (x : Partial) × (with r (λ row. if lies_in parts p (table_at catalog insert.table) row then with (inserted catalog insert.table (rows_of (share parts catalog p db) insert.table) row) (λ rows. Ok (part_made (share parts catalog p db) insert.table 1 rows)) else elsewhere scope (share parts catalog p db))
          ≡ Ok (share parts catalog p whole.0, x))
      by (Ok row) done =
          let made = by_rows row (inserted catalog insert.table (rows_of db insert.table) row) refl done in (
            made.0,
            ap (λ b. if b then with (inserted catalog insert.table (rows_of (share parts catalog p db) insert.table) row) (λ rows. Ok (part_made (share parts catalog p db) insert.table 1 rows)) else elsewhere scope (share parts catalog p db)) (no_part parts p (table_at catalog insert.table) row e)
                ∙ made.1,
          )
      by (Err f) done = absurd (cc)

  select_share : (p : ℕ) → p < parts → (select : SelectPlan) (args : Cells) (whole : Database × List Cells) (merge : List Partial → Result (List Cells) Fault)
      → selected select args db ≡ with (collected (map (λ p. part_by_shape select select.shape args (share parts catalog p db)) (all_parts parts))) merge
      → with {B = Database × List Cells} (selected select args db) (λ rows. Ok (db, rows)) ≡ Ok whole
      → (x : Partial) × (with {B = Database × Partial} (part_by_shape select select.shape args (share parts catalog p db)) (λ part. Ok (share parts catalog p db, part)) ≡ Ok (share parts catalog p whole.0, x))
  select_share p within select args whole merge law done =
      let rows = selected_ok (selected select args db) done in
      let parts_ok = collected_some (collected (map (λ p. part_by_shape select select.shape args (share parts catalog p db)) (all_parts parts))) (sym law ∙ rows.1) in
      let mine = collected_ok (λ p. part_by_shape select select.shape args (share parts catalog p db)) (all_parts parts) parts_ok.0 parts_ok.1 p (range-has 0 parts p (omega arith) (omega arith)) in
      (mine.0, ap (λ r. with {B = Database × Partial} r (λ part. Ok (share parts catalog p db, part))) mine.1 ∙ ap (λ (d : Database). Ok (share parts catalog p d, mine.0)) (rows.2))
    where
      selected_ok : (r : Result (List Cells) Fault) → with {B = Database × List Cells} r (λ rows. Ok (db, rows)) ≡ Ok whole → (rows : List Cells) × (r ≡ Ok rows) × (db ≡ whole.0)
      selected_ok (Ok rows) e = (rows, refl, one_database db rows whole e)
      selected_ok (Err f) e = absurd (cc)

      collected_some : (r : Result (List Partial) Fault) → {rows : List Cells} → with r merge ≡ Ok rows → (ps : List Partial) × (r ≡ Ok ps)
      collected_some (Ok ps) e = (ps, refl)
      collected_some (Err f) e = absurd (cc)

  pub shares_after : (statement : Prepared) → IsPrepared catalog statement → (statement.scope ≡ OnePartition → ⊥) → (args : Cells) (p : ℕ) → p < parts → (whole : Database × List Cells)
      → means parts catalog None statement args db ≡ Ok whole → (x : Partial) × (part_means parts catalog p statement args (share parts catalog p db) ≡ Ok (share parts catalog p whole.0, x))
  shares_after statement prepared many args p within whole done = by statement.scope refl prepared.scope
    where
      action : (s : Scope) (a : Action) → IsAction catalog statement.params statement.columns a → is_scope s (names_partitioned catalog a) ≡ true → (s ≡ OnePartition → ⊥)
          → with (action_means parts catalog None a args db) (λ r. Ok r.1) ≡ with (collected (map (λ p. with (part_of_action parts catalog p s a args (share parts catalog p db)) (λ r. Ok r.1)) (all_parts parts))) (λ ps. merged_action a (parts_that_count s ps))
          → action_means parts catalog None a args db ≡ Ok whole → (x : Partial) × (part_of_action parts catalog p s a args (share parts catalog p db) ≡ Ok (share parts catalog p whole.0, x))
      action OnePartition a fits named many law done = absurd (many refl)
      action AllPartitions (Insert insert) fits named many law done =
          let part = some_of (table_at catalog insert.table).part (sym (or_false (is_some (table_at catalog insert.table).part)) ∙ named) in
          let made = insert_shares parts some catalog rules insert part.0 part.1 AllPartitions (λ d. refl) args db is p within whole done in (partial.Count made.0, made.1)
      action AllPartitions (Update update) fits named many law done =
          let part = some_of (table_at catalog update.table).part (sym (or_false (is_some (table_at catalog update.table).part)) ∙ named) in (
            _,
            change_shares parts some catalog rules update.table part.0 part.1 (updated catalog update) args (λ row. updated-small catalog update row args)
                (λ row f new e l. updated-stays catalog update part.0 fits.0.key (part_column catalog update.table part.0 rules part.1) args row f new e l) db is p within whole done,
          )
      action AllPartitions (Delete delete) fits named many law done =
          let part = some_of (table_at catalog delete.table).part (sym (or_false (is_some (table_at catalog delete.table).part)) ∙ named) in (
            _,
            change_shares parts some catalog rules delete.table part.0 part.1 (deleted delete) args (λ row. deleted-small delete row args)
                (λ row f new e l. ap (λ r. at r part.0) (deleted-stays delete args row f new e l)) db is p within whole done,
          )
      action Replicated (Insert insert) fits named many law done =
          insert_replicated p Replicated insert (none_when (table_at catalog insert.table).part (or_parts (is_some (table_at catalog insert.table).part) false (not-true (names_partitioned catalog (Insert insert)) named)).0) args whole done
      action Replicated (Update update) fits named many law done =
          change_replicated p update.table (none_when (table_at catalog update.table).part (or_parts (is_some (table_at catalog update.table).part) false (not-true (names_partitioned catalog (Update update)) named)).0) (updated catalog update) args whole done
      action Replicated (Delete delete) fits named many law done =
          change_replicated p delete.table (none_when (table_at catalog delete.table).part (or_parts (is_some (table_at catalog delete.table).part) false (not-true (names_partitioned catalog (Delete delete)) named)).0) (deleted delete) args whole done
      action s (Select select) fits named many law done =
          select_share p within select args whole (λ ps. merged_by select.shape (parts_that_count s ps))
          (sym (rows_alone (selected select args db) db) ∙ law ∙ (λ i. with (collected (map (λ p. rows_alone (part_by_shape select select.shape args (share parts catalog p db)) (share parts catalog p db) i) (all_parts parts))) (λ ps. merged_by select.shape (parts_that_count s ps))))
          done

      by : (s : Scope) → statement.scope ≡ s → is_scope s (names_partitioned catalog statement.action) ≡ true → (x : Partial) × (part_means parts catalog p statement args (share parts catalog p db) ≡ Ok (share parts catalog p whole.0, x))
      by s e named =
          let made = action s statement.action prepared.action named (λ one. many (e ∙ one))
          (in_parts statement prepared many args ∙ (λ i. with (collected (map (λ p. with (part_of_action parts catalog p (e i) statement.action args (share parts catalog p db)) (λ r. Ok r.1)) (all_parts parts))) (λ ps. merged_action statement.action (parts_that_count (e i) ps))))
          done in
          (made.0, ap (λ s. part_of_action parts catalog p s statement.action args (share parts catalog p db)) e ∙ made.1)
