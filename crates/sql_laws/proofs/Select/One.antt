-- A SELECT on one database is its one part, and on tables that all partitions have each part is the same.
use Rattle.std.proofs.Common.{◌≡◌, ℕ, List, [], ◌∷◌, ◌++◌, map, Option, Result, Ok, sym, ap, ◌∙◌, append-nil}
use Rattle.sql_plan.specs.declared.fault.Fault.{Fault}
use Rattle.sql_plan.specs.declared.partial.Group.{Group}
use Rattle.sql_plan.specs.declared.partial.Partial.TheVariants as partial
use Rattle.sql_plan.specs.declared.row_key.Directed.{Directed}
use Rattle.sql_plan.specs.declared.select.Aggregated.{Aggregated}
use Rattle.sql_plan.specs.declared.select.SelectPlan.{SelectPlan}
use Rattle.sql_plan.specs.declared.select.Shape.{Shape}
use Rattle.sql_plan.specs.declared.select.Shape.TheVariants as shape
use Rattle.sql_plan.specs.Rows.{Cells, row_cmp, row_total}
use Rattle.sql_meaning.specs.Judged.{with, both}
use Rattle.sql_meaning.specs.Database.{Database}
use Rattle.sql_meaning.specs.Maps.{put_all}
use Rattle.sql_meaning.specs.Groups.{arguments_of, all_gathered_of, by_key}
use Rattle.sql_meaning.specs.Selects.{all_kept, limit_of, output_row, group_entry, finished_rows, finished_groups, selected_by}
use Rattle.sql_meaning.specs.Parts.{keyed_row, group_of, part_by_shape, all_joined, merged_by}
use Rattle.sql_laws.proofs.Plain.Orders.{map-map, row_cmp-equal}
use Rattle.sql_laws.proofs.Plain.Maps.{absorb}
use Rattle.sql_laws.proofs.Plain.Judgements.{with_with, with_same}
use Rattle.sql_laws.proofs.Plain.Gathering.{all_joined-comm, all_joined-assoc}
use Rattle.sql_laws.proofs.Select.Grouped.{alone, gathered_groups}
use Rattle.sql_laws.proofs.Select.Whole.{keyed_back}

-- groups put together once more are as before
groups_again : (gs : List Aggregated) (es : List (Cells × Cells))
    → put_all row_cmp (all_joined gs) [] (map (λ (g : Group). (g.key, g.gathered)) (map (λ (g : Cells × List Cells). group_of (g.0, all_gathered_of gs g.1)) (by_key es)) ++ [])
    ≡ map (λ g. (g.0, all_gathered_of gs g.1)) (by_key es)
groups_again gs es =
    ap (put_all row_cmp (all_joined gs) []) (append-nil (map (λ (g : Group). (g.key, g.gathered)) (map (λ (g : Cells × List Cells). group_of (g.0, all_gathered_of gs g.1)) (by_key es)))
    ∙ map-map (λ (g : Group). (g.key, g.gathered)) (λ (g : Cells × List Cells). group_of (g.0, all_gathered_of gs g.1)) (by_key es)
    ∙ gathered_groups gs es)
    ∙ absorb row_cmp row_total (all_joined gs) row_cmp-equal (all_joined-assoc gs) (all_joined-comm gs) (map (alone gs) es) [] []
    ∙ sym (gathered_groups gs es)

-- a SELECT is its one part
pub one_part : (select : SelectPlan) (s : Shape) (args : Cells) (db : Database) → selected_by select s args db ≡ with (part_by_shape select s args db) (λ part. merged_by s (part ∷ []))
one_part select (shape.Rows outputs order) args db =
    with_same given (λ g. finished_rows g.1 g.0) (λ g. finished_rows g.1 (map (λ r. (r.key, r.row)) (map keyed_row g.0) ++ []))
    (λ g e. ap (finished_rows g.1) (sym (append-nil (map (λ r. (r.key, r.row)) (map keyed_row g.0)) ∙ keyed_back g.0)))
    ∙ sym (with_with given (λ g. Ok (partial.Rows (map keyed_row g.0) g.1)) (λ part. merged_by (shape.Rows outputs order) (part ∷ [])))
  where
    given : Result (List (List Directed × Cells) × Option ℕ) Fault
    given = both (all_kept select (output_row outputs order) args db) (limit_of select.limit args)
one_part select (shape.Total gs) args db =
    sym (with_with (both (all_kept select (arguments_of gs) args db) (limit_of select.limit args)) (λ g. Ok (partial.Groups (group_of ([], all_gathered_of gs g.0) ∷ []) g.1)) (λ part. merged_by (shape.Total gs) (part ∷ [])))
one_part select (shape.Groups columns gs outputs order) args db =
    with_same given (λ g. finished_groups outputs order g.1 (map (λ k. (k.0, all_gathered_of gs k.1)) (by_key g.0)))
    (λ g. finished_groups outputs order g.1 (put_all row_cmp (all_joined gs) [] (map (λ k. (k.key, k.gathered)) (map (λ k. group_of (k.0, all_gathered_of gs k.1)) (by_key g.0)) ++ [])))
    (λ g e. ap (finished_groups outputs order g.1) (sym (groups_again gs g.0)))
    ∙ sym (with_with given (λ g. Ok (partial.Groups (map (λ k. group_of (k.0, all_gathered_of gs k.1)) (by_key g.0)) g.1)) (λ part. merged_by (shape.Groups columns gs outputs order) (part ∷ [])))
  where
    given : Result (List (Cells × Cells) × Option ℕ) Fault
    given = both (all_kept select (group_entry columns gs) args db) (limit_of select.limit args)
