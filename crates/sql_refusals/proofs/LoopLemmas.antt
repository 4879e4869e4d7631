-- What the loops over a statement's parts note, part by part.
use Rattle.std.proofs.Common.{◌≡◌, ℕ, ◌+◌, ◌≤◌, List, [], ◌∷◌, ◌++◌, length, slice_get, drop, drop_of_length-le, Option, refl, sym, ap, ◌∙◌}
use Rattle.volt_catalog.specs.declared.column.Column.{Column}
use Rattle.volt_catalog.specs.declared.table.Table.{Table}
use Rattle.expr_parse.specs.declared.expression.Expr.{Expr}
use Rattle.sql_parse.specs.declared.statement.Assignment.{Assignment}
use Rattle.sql_resolve.specs.Named.{Tables}
use Rattle.sql_resolve.specs.Tables.{class_at}
use Rattle.sql_check.specs.Columns.{place_of}
use Rattle.sql_complaints.specs.declared.complaints.Part.TheVariants.{Columns, Values}
use Rattle.sql_complaints.specs.declared.complaints.Search.{Search}
use Rattle.sql_complaints.specs.declared.complaints.Wanted.TheVariants as wanted
use Rattle.sql_complaints.specs.Complaints.{all_noted}
use Rattle.sql_complaints.specs.Expressions.{complaints}
use Rattle.sql_complaints.proofs.SearchLemmas.{all_noted_append}
use Rattle.sql_refusals.specs.Writes.{target, with_place, targets, class_for, values, values_from, set_one, set_all}

abbrev pub after_targets : Search → List Column → List ℕ → List (List ℕ) → Search
after_targets search columns earlier [] = search
after_targets search columns earlier (name ∷ names) =
    let place = place_of columns earlier name in
    after_targets (all_noted search (target Columns columns name place)) columns (with_place earlier place) names

pub after_targets_is : (search : Search) (columns : List Column) (earlier : List ℕ) (names : List (List ℕ)) → after_targets search columns earlier names ≡ all_noted search (targets columns earlier names)
after_targets_is search columns earlier [] = refl
after_targets_is search columns earlier (name ∷ names) =
    let place = place_of columns earlier name in
    after_targets_is (all_noted search (target Columns columns name place)) columns (with_place earlier place) names
    ∙ all_noted_append search (target Columns columns name place) (targets columns (with_place earlier place) names)

abbrev pub after_values : Search → Tables → List Column → List ℕ → List Expr → Search
after_values search names columns places [] = search
after_values search names columns places (e ∷ es) =
    after_values (all_noted search (complaints Values names (wanted.Value (class_for columns (slice_get places 0))) e)) names columns (drop 1 places) es

pub after_values_is : (search : Search) (names : Tables) (columns : List Column) (places : List ℕ) (es : List Expr) → after_values search names columns places es ≡ all_noted search (values names columns places es)
after_values_is search names columns places [] = refl
after_values_is search names columns places (e ∷ es) =
    let first = complaints Values names (wanted.Value (class_for columns (slice_get places 0))) e in
    after_values_is (all_noted search first) names columns (drop 1 places) es ∙ all_noted_append search first (values names columns (drop 1 places) es)

abbrev pub after_values_from : Search → Tables → List Column → ℕ → List Expr → Search
after_values_from search names columns n [] = search
after_values_from search names columns n (e ∷ es) = after_values_from (all_noted search (complaints Values names (wanted.Value (class_at columns n)) e)) names columns (n + 1) es

pub after_values_from_is : (search : Search) (names : Tables) (columns : List Column) (n : ℕ) (es : List Expr) → after_values_from search names columns n es ≡ all_noted search (values_from names columns n es)
after_values_from_is search names columns n [] = refl
after_values_from_is search names columns n (e ∷ es) =
    let first = complaints Values names (wanted.Value (class_at columns n)) e in
    after_values_from_is (all_noted search first) names columns (n + 1) es ∙ all_noted_append search first (values_from names columns (n + 1) es)

abbrev pub after_sets : Search → Tables → Table → List ℕ → List Assignment → Search
after_sets search names table earlier [] = search
after_sets search names table earlier (set ∷ sets) =
    let place = place_of table.columns earlier set.column in
    after_sets (all_noted search (set_one names table set place)) names table (with_place earlier place) sets

pub after_sets_is : (search : Search) (names : Tables) (table : Table) (earlier : List ℕ) (sets : List Assignment) → after_sets search names table earlier sets ≡ all_noted search (set_all names table earlier sets)
after_sets_is search names table earlier [] = refl
after_sets_is search names table earlier (set ∷ sets) =
    let place = place_of table.columns earlier set.column in
    after_sets_is (all_noted search (set_one names table set place)) names table (with_place earlier place) sets
    ∙ all_noted_append search (set_one names table set place) (set_all names table (with_place earlier place) sets)

-- ---- at the end of each loop

pub targets_done : (after search : Search) (columns : List Column) (places : List ℕ) (names : List (List ℕ)) (n : ℕ) → length names ≤ n
    → after_targets after columns places (drop n names) ≡ after_targets search columns [] names → after ≡ all_noted search (targets columns [] names)
targets_done after search columns places names n end h = sym (ap (after_targets after columns places) (drop_of_length-le names end)) ∙ h ∙ after_targets_is search columns [] names

pub values_done : (after search : Search) (names : Tables) (columns : List Column) (ahead places : List ℕ) (es : List Expr) (n : ℕ) → length es ≤ n
    → after_values after names columns ahead (drop n es) ≡ after_values search names columns places es → after ≡ all_noted search (values names columns places es)
values_done after search names columns ahead places es n end h = sym (ap (after_values after names columns ahead) (drop_of_length-le es end)) ∙ h ∙ after_values_is search names columns places es

pub values_from_done : (after search : Search) (names : Tables) (columns : List Column) (es : List Expr) (n : ℕ) → length es ≤ n
    → after_values_from after names columns n (drop n es) ≡ after_values_from search names columns 0 es → after ≡ all_noted search (values_from names columns 0 es)
values_from_done after search names columns es n end h = sym (ap (after_values_from after names columns n) (drop_of_length-le es end)) ∙ h ∙ after_values_from_is search names columns 0 es

pub sets_done : (after search : Search) (names : Tables) (table : Table) (earlier : List ℕ) (sets : List Assignment) (n : ℕ) → length sets ≤ n
    → after_sets after names table earlier (drop n sets) ≡ after_sets search names table [] sets → after ≡ all_noted search (set_all names table [] sets)
sets_done after search names table earlier sets n end h = sym (ap (after_sets after names table earlier) (drop_of_length-le sets end)) ∙ h ∙ after_sets_is search names table [] sets
