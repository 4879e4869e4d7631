-- A SELECT on the whole database is its parts on the partitions, put together.
use Rattle.std.proofs.Common.{◌≡◌, ℕ, ◌<◌, true, List, [], ◌∷◌, ◌++◌, map, map-id, Option, Some, None, Result, Ok, sym, refl, ap, ◌∙◌}
use Rattle.std.specs.List.{flat_map}
use Rattle.volt_catalog.specs.Rules.{Contents}
use Rattle.volt_catalog.specs.Catalog.{IsCatalog}
use Rattle.sql_plan.specs.declared.fault.Fault.{Fault}
use Rattle.sql_plan.specs.declared.expression.Scalar.{Scalar}
use Rattle.sql_plan.specs.declared.partial.Gathered.{Gathered}
use Rattle.sql_plan.specs.declared.partial.Group.{Group}
use Rattle.sql_plan.specs.declared.partial.KeyedRow.{KeyedRow}
use Rattle.sql_plan.specs.declared.partial.Partial.{Partial}
use Rattle.sql_plan.specs.declared.partial.Partial.TheVariants as partial
use Rattle.sql_plan.specs.declared.row_key.Directed.{Directed}
use Rattle.sql_plan.specs.declared.select.Aggregated.{Aggregated}
use Rattle.sql_plan.specs.declared.select.GroupOutput.{GroupOutput}
use Rattle.sql_plan.specs.declared.select.Order.{Order}
use Rattle.sql_plan.specs.declared.select.SelectPlan.{SelectPlan}
use Rattle.sql_plan.specs.declared.select.Shape.{Shape}
use Rattle.sql_plan.specs.declared.select.Shape.TheVariants as shape
use Rattle.sql_plan.specs.Keys.{key_cmp}
use Rattle.sql_plan.specs.Rows.{Cells, row_cmp}
use Rattle.sql_meaning.specs.Judged.{with, least, fault_in, unless, collected, both}
use Rattle.sql_meaning.specs.Expressions.{Reads}
use Rattle.sql_meaning.specs.Database.{Database, share, IsDatabase}
use Rattle.sql_meaning.specs.Maps.{put_all, latest}
use Rattle.sql_meaning.specs.Groups.{arguments_of, all_gathered_of, by_key}
use Rattle.sql_meaning.specs.Selects.{from_rows, all_kept, limit_of, within, if_few, output_row, group_entry, finished_rows, finished_groups, aggregates_in_order, selected_by}
use Rattle.sql_meaning.specs.Parts.{keyed_row, group_of, part_by_shape, rows_in, groups_in, first_limit, all_joined, merged_by, all_parts}
use Rattle.sql_meaning.specs.WellFormed.{from_key, IsOrder, distributes}
use Rattle.sql_laws.proofs.Plain.Folds.{range-cons}
use Rattle.sql_laws.proofs.Plain.Orders.{map-map}
use Rattle.sql_laws.proofs.Plain.Judgements.{value_or, with_unless, both_unless, all_least, all_least-least, collected_unless}
use Rattle.sql_laws.proofs.Select.Homes.{has_home}
use Rattle.sql_laws.proofs.Select.Kept.{entries, row_faults, kept_is, faults_parts}
use Rattle.sql_laws.proofs.Select.Ordered.{ordered_parts}
use Rattle.sql_laws.proofs.Select.Grouped.{grouped_parts, total_parts}

-- ---- what is kept beside LIMIT

module _ {A : Type 0} (select : SelectPlan) (gives : Reads A) (args : Cells) where
  abbrev limit : Option ℕ
  limit = value_or None (limit_of select.limit args)

  abbrev limit_fault : Option Fault
  limit_fault = fault_in (limit_of select.limit args)

  pub both_is : (db : Database) → both (all_kept select gives args db) (limit_of select.limit args)
      ≡ unless (least (row_faults select gives args (from_rows select db)) limit_fault) (entries select gives args (from_rows select db), limit)
  both_is db =
      ap (λ r. both r (limit_of select.limit args)) (kept_is select gives args db)
      ∙ both_unless None (row_faults select gives args (from_rows select db)) (entries select gives args (from_rows select db)) (limit_of select.limit args)

  module _ (parts : ℕ) (some : 0 < parts) (catalog : Contents) (rules : IsCatalog catalog) (has : has_home catalog select ≡ true) (told : distributes catalog select select.right ≡ true) (db : Database) (is : IsDatabase catalog db) where
    abbrev part_rows : ℕ → List A
    part_rows p = entries select gives args (from_rows select (share parts catalog p db))

    abbrev part_faults : ℕ → Option Fault
    part_faults p = row_faults select gives args (from_rows select (share parts catalog p db))

    -- the faults of all partitions and of LIMIT
    all_faults : all_least (λ p. least (part_faults p) limit_fault) (all_parts parts) ≡ least (row_faults select gives args (from_rows select db)) limit_fault
    all_faults =
        let first = range-cons parts some in
        ap (all_least (λ p. least (part_faults p) limit_fault)) first.1
        ∙ all_least-least part_faults limit_fault 0 first.0
        ∙ ap (λ (ps : List ℕ). least (all_least part_faults ps) limit_fault) (sym first.1)
        ∙ ap (λ f. least f limit_fault) (faults_parts select gives args parts some catalog rules has told db is)

    -- the parts, where each is made of what its rows give and of LIMIT
    pub parts_given : {B : Type 0} (h : List A × Option ℕ → B)
        → collected (map (λ p. with (both (all_kept select gives args (share parts catalog p db)) (limit_of select.limit args)) (λ given. Ok (h given))) (all_parts parts))
        ≡ unless (least (row_faults select gives args (from_rows select db)) limit_fault) (map (λ p. h (part_rows p, limit)) (all_parts parts))
    parts_given h =
        (λ i. collected (map (λ p. (ap (λ r. with r (λ given. Ok (h given))) (both_is (share parts catalog p db)) ∙ with_unless (least (part_faults p) limit_fault) (part_rows p, limit) h) i) (all_parts parts)))
        ∙ collected_unless (λ p. least (part_faults p) limit_fault) (λ p. h (part_rows p, limit)) (all_parts parts)
        ∙ ap (λ f. unless f (map (λ p. h (part_rows p, limit)) (all_parts parts))) all_faults

    -- the whole is its parts where they come to the same
    pub whole_given : {B C : Type 0} (h : List A × Option ℕ → B) (finish : List A × Option ℕ → Result C Fault) (merge : List B → Result C Fault)
        → finish (entries select gives args (from_rows select db), limit) ≡ merge (map (λ p. h (part_rows p, limit)) (all_parts parts))
        → with (both (all_kept select gives args db) (limit_of select.limit args)) finish
        ≡ with (collected (map (λ p. with (both (all_kept select gives args (share parts catalog p db)) (limit_of select.limit args)) (λ given. Ok (h given))) (all_parts parts))) merge
    whole_given h finish merge same =
        ap (λ r. with r finish) (both_is db)
        ∙ by (least (row_faults select gives args (from_rows select db)) limit_fault)
        ∙ sym (ap (λ r. with r merge) (parts_given h))
      where
        by : (f : Option Fault) → with (unless f (entries select gives args (from_rows select db), limit)) finish ≡ with (unless f (map (λ p. h (part_rows p, limit)) (all_parts parts))) merge
        by None = same
        by (Some f) = refl

-- ---- the parts put together

pub keyed_back : (rows : List (List Directed × Cells)) → map (λ (r : KeyedRow). (r.key, r.row)) (map keyed_row rows) ≡ rows
keyed_back rows = map-map (λ (r : KeyedRow). (r.key, r.row)) keyed_row rows ∙ map-id rows

flat-map : {X Y Z : Type 0} (f : Y → List Z) (g : X → Y) (xs : List X) → flat_map f (map g xs) ≡ flat_map (λ x. f (g x)) xs
flat-map f g [] = refl
flat-map f g (x ∷ xs) = ap (λ (zs : List _). f (g x) ++ zs) (flat-map f g xs)

-- the value of LIMIT in the first part
first_of_all : (make : ℕ → Partial) (most : Option ℕ) → ((p : ℕ) → first_limit (make p ∷ []) ≡ most) → (n : ℕ) → 0 < n → first_limit (map make (all_parts n)) ≡ most
first_of_all make most each n some = let first = range-cons n some in ap (λ (ps : List ℕ). first_limit (map make ps)) first.1 ∙ each 0

module _ (parts : ℕ) (some : 0 < parts) (catalog : Contents) (rules : IsCatalog catalog) (select : SelectPlan) (has : has_home catalog select ≡ true) (told : distributes catalog select select.right ≡ true) (args : Cells) (db : Database) (is : IsDatabase catalog db) where
  abbrev PartsAre : Shape → Type 0
  PartsAre s = selected_by select s args db ≡ with (collected (map (λ p. part_by_shape select s args (share parts catalog p db)) (all_parts parts))) (merged_by s)

  pub rows_whole : (outputs : List Scalar) (order : List Order) (count width : ℕ) → IsOrder count width (from_key catalog select) order → PartsAre (shape.Rows outputs order)
  rows_whole outputs order count width is_order =
      whole_given select (output_row outputs order) args parts some catalog rules has told db is
      (λ given. partial.Rows (map keyed_row given.0) given.1) (λ given. finished_rows given.1 given.0) (merged_by (shape.Rows outputs order))
      (ap (λ (es : List (List Directed × Cells)). if_few (within limit_value (map (λ e. e.1) es))) (sym (ordered_parts parts some catalog rules select has told outputs order width count is_order args db is))
      ∙ (λ i. if_few (within (limit_same i) (map (λ e. e.1) (put_all key_cmp latest [] (rows_same i))))))
    where
      limit_value : Option ℕ
      limit_value = value_or None (limit_of select.limit args)

      part : ℕ → List (List Directed × Cells)
      part p = entries select (output_row outputs order) args (from_rows select (share parts catalog p db))

      limit_same : limit_value ≡ first_limit (map (λ p. partial.Rows (map keyed_row (part p)) limit_value) (all_parts parts))
      limit_same = sym (first_of_all (λ p. partial.Rows (map keyed_row (part p)) limit_value) limit_value (λ p. refl) parts some)

      rows_same : flat_map part (all_parts parts) ≡ flat_map rows_in (map (λ p. partial.Rows (map keyed_row (part p)) limit_value) (all_parts parts))
      rows_same = sym (flat-map rows_in (λ p. partial.Rows (map keyed_row (part p)) limit_value) (all_parts parts) ∙ (λ i. flat_map (λ p. keyed_back (part p) i) (all_parts parts)))

  pub total_whole : (gs : List Aggregated) → PartsAre (shape.Total gs)
  total_whole gs =
      whole_given select (arguments_of gs) args parts some catalog rules has told db is
      (λ given. partial.Groups (group_of ([], all_gathered_of gs given.0) ∷ []) given.1)
      (λ given. finished_groups (aggregates_in_order gs) [] given.1 (([], all_gathered_of gs given.0) ∷ [])) (merged_by (shape.Total gs))
      (ap (λ (groups : List (Cells × List Gathered)). finished_groups (aggregates_in_order gs) [] limit_value groups) (sym (total_parts parts some catalog rules select has told gs args db is))
      ∙ (λ i. finished_groups (aggregates_in_order gs) [] (limit_same i) (put_all row_cmp (all_joined gs) [] (groups_same i))))
    where
      limit_value : Option ℕ
      limit_value = value_or None (limit_of select.limit args)

      part : ℕ → List Cells
      part p = entries select (arguments_of gs) args (from_rows select (share parts catalog p db))

      limit_same : limit_value ≡ first_limit (map (λ p. partial.Groups (group_of ([], all_gathered_of gs (part p)) ∷ []) limit_value) (all_parts parts))
      limit_same = sym (first_of_all (λ p. partial.Groups (group_of ([], all_gathered_of gs (part p)) ∷ []) limit_value) limit_value (λ p. refl) parts some)

      groups_same : flat_map (λ p. ([], all_gathered_of gs (part p)) ∷ []) (all_parts parts) ≡ flat_map groups_in (map (λ p. partial.Groups (group_of ([], all_gathered_of gs (part p)) ∷ []) limit_value) (all_parts parts))
      groups_same = sym (flat-map groups_in (λ p. partial.Groups (group_of ([], all_gathered_of gs (part p)) ∷ []) limit_value) (all_parts parts))

  pub groups_whole : (columns : List ℕ) (gs : List Aggregated) (outputs : List GroupOutput) (order : List Order) → PartsAre (shape.Groups columns gs outputs order)
  groups_whole columns gs outputs order =
      whole_given select (group_entry columns gs) args parts some catalog rules has told db is
      (λ given. partial.Groups (map (λ g. group_of (g.0, all_gathered_of gs g.1)) (by_key given.0)) given.1)
      (λ given. finished_groups outputs order given.1 (map (λ g. (g.0, all_gathered_of gs g.1)) (by_key given.0))) (merged_by (shape.Groups columns gs outputs order))
      (ap (λ (groups : List (Cells × List Gathered)). finished_groups outputs order limit_value groups) (sym (grouped_parts parts some catalog rules select has told gs args db is columns))
      ∙ (λ i. finished_groups outputs order (limit_same i) (put_all row_cmp (all_joined gs) [] (groups_same i))))
    where
      limit_value : Option ℕ
      limit_value = value_or None (limit_of select.limit args)

      part : ℕ → List (Cells × List Cells)
      part p = by_key (entries select (group_entry columns gs) args (from_rows select (share parts catalog p db)))

      limit_same : limit_value ≡ first_limit (map (λ p. partial.Groups (map (λ g. group_of (g.0, all_gathered_of gs g.1)) (part p)) limit_value) (all_parts parts))
      limit_same = sym (first_of_all (λ p. partial.Groups (map (λ g. group_of (g.0, all_gathered_of gs g.1)) (part p)) limit_value) limit_value (λ p. refl) parts some)

      back : (groups : List (Cells × List Cells)) → map (λ (g : Group). (g.key, g.gathered)) (map (λ (g : Cells × List Cells). group_of (g.0, all_gathered_of gs g.1)) groups) ≡ map {B = Cells × List Gathered} (λ (g : Cells × List Cells). (g.0, all_gathered_of gs g.1)) groups
      back groups = map-map (λ (g : Group). (g.key, g.gathered)) (λ (g : Cells × List Cells). group_of (g.0, all_gathered_of gs g.1)) groups

      groups_same : flat_map (λ p. map (λ g. (g.0, all_gathered_of gs g.1)) (part p)) (all_parts parts) ≡ flat_map groups_in (map (λ p. partial.Groups (map (λ g. group_of (g.0, all_gathered_of gs g.1)) (part p)) limit_value) (all_parts parts))
      groups_same = sym (flat-map groups_in (λ p. partial.Groups (map (λ g. group_of (g.0, all_gathered_of gs g.1)) (part p)) limit_value) (all_parts parts) ∙ (λ i. flat_map (λ p. back (part p) i) (all_parts parts)))
