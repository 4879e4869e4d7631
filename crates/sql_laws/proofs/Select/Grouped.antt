-- The groups of all partitions, put together, are those of the whole; and what is gathered of all rows.
use Rattle.std.proofs.Common.{◌≡◌, ℕ, ◌<◌, true, false, List, [], ◌∷◌, ◌++◌, map, filter, fold, Option, Some, None, option_map, sym, refl, ap, ◌∙◌, append-nil, append_assoc}
use Rattle.std.specs.List.{flat_map, list_any, AllByRecursion, filter_map, cons_option}
use Rattle.volt_catalog.specs.Rules.{Contents}
use Rattle.volt_catalog.specs.Catalog.{IsCatalog}
use Rattle.sql_plan.specs.declared.partial.Gathered.{Gathered}
use Rattle.sql_plan.specs.declared.select.Aggregated.{Aggregated}
use Rattle.sql_plan.specs.declared.select.SelectPlan.{SelectPlan}
use Rattle.sql_plan.specs.Rows.{Cells, row_cmp, row_total}
use Rattle.sql_meaning.specs.Database.{Database, share, IsDatabase}
use Rattle.sql_meaning.specs.Groups.{arguments_of, all_gathered_of, by_key}
use Rattle.sql_meaning.specs.Maps.{put_all}
use Rattle.sql_meaning.specs.Selects.{from_rows, group_entry}
use Rattle.sql_meaning.specs.Parts.{all_joined, all_parts}
use Rattle.sql_meaning.specs.WellFormed.{distributes}
use Rattle.sql_laws.proofs.Plain.Folds.{range-distinct, range-cons, fold_parts, fold_filter}
use Rattle.sql_laws.proofs.Plain.Maps.{swap, absorb_all, map-put_all}
use Rattle.sql_laws.proofs.Plain.Orders.{row_cmp-equal, map-map}
use Rattle.sql_laws.proofs.Plain.Parts.{swap_some, puts_parts, filter_map-flat}
use Rattle.sql_laws.proofs.Plain.Gathering.{all_joined-comm, all_joined-assoc, all_gathered_of-append}
use Rattle.sql_laws.proofs.Select.Homes.{is_home, has_home, is_home-one, from_rows-share}
use Rattle.sql_laws.proofs.Select.Kept.{entry_in, given, entries, no_entries}

-- one entry as a group of its own
abbrev pub alone : List Aggregated → Cells × Cells → Cells × List Gathered
alone gs e = (e.0, all_gathered_of gs (e.1 ∷ []))

-- what is gathered of groups is put together like the groups themselves
pub gathered_groups : (gs : List Aggregated) (es : List (Cells × Cells)) → map (λ g. (g.0, all_gathered_of gs g.1)) (by_key es) ≡ put_all row_cmp (all_joined gs) [] (map (alone gs) es)
gathered_groups gs es =
    map-put_all row_cmp (λ old new. old ++ new) (all_joined gs) (all_gathered_of gs) (all_gathered_of-append gs) (map (λ e. (e.0, e.1 ∷ [])) es) []
    ∙ ap (put_all row_cmp (all_joined gs) []) (map-map (λ (g : Cells × List Cells). (g.0, all_gathered_of gs g.1)) (λ (e : Cells × Cells). (e.0, e.1 ∷ [])) es)

map-filter_map : {X A B : Type 0} (f : A → B) (entry : X → Option A) (xs : List X) → map f (filter_map entry xs) ≡ filter_map (λ x. option_map f (entry x)) xs
map-filter_map f entry [] = refl
map-filter_map f entry (x ∷ xs) = by (entry x) (filter_map entry xs) ∙ ap (cons_option (option_map f (entry x))) (map-filter_map f entry xs)
  where
    by : (o : Option _) (ys : List _) → map f (cons_option o ys) ≡ cons_option (option_map f o) (map f ys)
    by None ys = refl
    by (Some y) ys = refl

module _ (parts : ℕ) (some : 0 < parts) (catalog : Contents) (rules : IsCatalog catalog) (select : SelectPlan) (has : has_home catalog select ≡ true) (told : distributes catalog select select.right ≡ true)
    (gs : List Aggregated) (args : Cells) (db : Database) (is : IsDatabase catalog db) where
  module _ (columns : List ℕ) where
    abbrev entry : Cells → Option (Cells × List Gathered)
    entry row = option_map (alone gs) (entry_in (given select (group_entry columns gs) args row))

    none_alone : (xs : List Cells) → AllByRecursion (λ row. list_any (λ p. is_home parts catalog select p row) (all_parts parts) ≡ false → entry_in (given select (group_entry columns gs) args row) ≡ None) xs
        → AllByRecursion (λ row. list_any (λ p. is_home parts catalog select p row) (all_parts parts) ≡ false → entry row ≡ None) xs
    none_alone [] h = tt
    none_alone (x ∷ xs) h = ((λ none. ap (option_map (alone gs)) (h.0 none)), none_alone xs h.1)

    pub grouped_parts : put_all row_cmp (all_joined gs) [] (flat_map (λ p. map (λ g. (g.0, all_gathered_of gs g.1)) (by_key (entries select (group_entry columns gs) args (from_rows select (share parts catalog p db))))) (all_parts parts))
        ≡ map (λ g. (g.0, all_gathered_of gs g.1)) (by_key (entries select (group_entry columns gs) args (from_rows select db)))
    grouped_parts =
        (λ i. put_all row_cmp (all_joined gs) [] (flat_map (λ p. gathered_groups gs (entries select (group_entry columns gs) args (from_rows select (share parts catalog p db))) i) (all_parts parts)))
        ∙ absorb_all row_cmp row_total (all_joined gs) row_cmp-equal (all_joined-assoc gs) (all_joined-comm gs) (λ p. map (alone gs) (entries select (group_entry columns gs) args (from_rows select (share parts catalog p db)))) (all_parts parts) []
        ∙ (λ i. put_all row_cmp (all_joined gs) [] (flat_map (λ p. map-filter_map (alone gs) (λ row. entry_in (given select (group_entry columns gs) args row)) (from_rows-share parts catalog rules p select db is i) i) (all_parts parts)))
        ∙ puts_parts row_cmp (all_joined gs) entry (is_home parts catalog select)
        (λ p q a x other pa qx es. swap_some row_cmp (all_joined gs) entry (swap row_cmp row_total (all_joined gs) row_cmp-equal (all_joined-assoc gs) (all_joined-comm gs)) (entry a) (entry x) es)
        (λ p q row e f. is_home-one parts catalog select has p q row e f)
        (all_parts parts) (range-distinct 0 parts) (from_rows select db)
        (none_alone (from_rows select db) (no_entries select (group_entry columns gs) args parts some catalog rules has told db is))
        ∙ ap (put_all row_cmp (all_joined gs) []) (sym (map-filter_map (alone gs) (λ row. entry_in (given select (group_entry columns gs) args row)) (from_rows select db)))
        ∙ sym (gathered_groups gs (entries select (group_entry columns gs) args (from_rows select db)))

  -- ---- one group of all rows

  abbrev taken : Cells → Option Cells
  taken row = entry_in (given select (arguments_of gs) args row)

  abbrev joined_some : List Gathered → Option Cells → List Gathered
  joined_some s None = s
  joined_some s (Some x) = all_joined gs s (all_gathered_of gs (x ∷ []))

  abbrev more : List Gathered → Cells → List Gathered
  more s row = joined_some s (taken row)

  one_taken : (ys : List Cells) (o : Option Cells) → joined_some (all_gathered_of gs ys) o ≡ all_gathered_of gs (ys ++ cons_option o [])
  one_taken ys None = ap (all_gathered_of gs) (sym (append-nil ys))
  one_taken ys (Some x) = sym (all_gathered_of-append gs ys (x ∷ []))

  cons_append : (o : Option Cells) (xs : List Cells) → cons_option o [] ++ xs ≡ cons_option o xs
  cons_append None xs = refl
  cons_append (Some x) xs = refl

  fold_taken : (rows ys : List Cells) → fold more (all_gathered_of gs ys) rows ≡ all_gathered_of gs (ys ++ filter_map taken rows)
  fold_taken [] ys = ap (all_gathered_of gs) (sym (append-nil ys))
  fold_taken (row ∷ rows) ys =
      ap (λ s. fold more s rows) (one_taken ys (taken row)) ∙ fold_taken rows (ys ++ cons_option (taken row) [])
      ∙ ap (all_gathered_of gs) (append_assoc ys (cons_option (taken row) []) (filter_map taken rows) ∙ ap (λ (zs : List Cells). ys ++ zs) (cons_append (taken row) (filter_map taken rows)))

  swap_joined : (s : List Gathered) (a x : Option Cells) → joined_some (joined_some s a) x ≡ joined_some (joined_some s x) a
  swap_joined s None None = refl
  swap_joined s None (Some x) = refl
  swap_joined s (Some a) None = refl
  swap_joined s (Some a) (Some x) =
      all_joined-assoc gs s (all_gathered_of gs (a ∷ [])) (all_gathered_of gs (x ∷ [])) ∙ ap (all_joined gs s) (all_joined-comm gs (all_gathered_of gs (a ∷ [])) (all_gathered_of gs (x ∷ [])))
      ∙ sym (all_joined-assoc gs s (all_gathered_of gs (x ∷ [])) (all_gathered_of gs (a ∷ [])))

  inert_rows : (xs : List Cells) → AllByRecursion (λ row. list_any (λ p. is_home parts catalog select p row) (all_parts parts) ≡ false → taken row ≡ None) xs
      → AllByRecursion (λ row. list_any (λ p. is_home parts catalog select p row) (all_parts parts) ≡ false → (s : List Gathered) → more s row ≡ s) xs
  inert_rows [] h = tt
  inert_rows (x ∷ xs) h = ((λ none s. ap (joined_some s) (h.0 none)), inert_rows xs h.1)

  -- what is gathered of the rows of all partitions
  rows_parts : all_gathered_of gs (flat_map (λ p. entries select (arguments_of gs) args (from_rows select (share parts catalog p db))) (all_parts parts)) ≡ all_gathered_of gs (entries select (arguments_of gs) args (from_rows select db))
  rows_parts =
      (λ i. all_gathered_of gs (flat_map (λ p. filter_map taken (from_rows-share parts catalog rules p select db is i)) (all_parts parts)))
      ∙ ap (all_gathered_of gs) (sym (filter_map-flat taken (λ p. filter (is_home parts catalog select p) (from_rows select db)) (all_parts parts)))
      ∙ sym (fold_taken (flat_map (λ p. filter (is_home parts catalog select p) (from_rows select db)) (all_parts parts)) [])
      ∙ fold_parts more (is_home parts catalog select) (λ p q a x other pa qx s. swap_joined s (taken a) (taken x))
      (λ p q row e f. is_home-one parts catalog select has p q row e f) (all_parts parts) (range-distinct 0 parts) (from_rows select db) (all_gathered_of gs [])
      ∙ fold_filter more (λ row. list_any (λ p. is_home parts catalog select p row) (all_parts parts)) (from_rows select db)
      (inert_rows (from_rows select db) (no_entries select (arguments_of gs) args parts some catalog rules has told db is)) (all_gathered_of gs [])
      ∙ fold_taken (from_rows select db) []

  -- one group put into another one with the empty key
  total_from : (f : ℕ → List Cells) (ps : List ℕ) (ys : List Cells)
      → put_all row_cmp (all_joined gs) (([], all_gathered_of gs ys) ∷ []) (flat_map (λ p. ([], all_gathered_of gs (f p)) ∷ []) ps) ≡ (([], all_gathered_of gs (ys ++ flat_map f ps)) ∷ [])
  total_from f [] ys = ap (λ (zs : List Cells). ([], all_gathered_of gs zs) ∷ []) (sym (append-nil ys))
  total_from f (p ∷ ps) ys =
      ap (λ (s : List Gathered). put_all row_cmp (all_joined gs) (([], s) ∷ []) (flat_map (λ p. ([], all_gathered_of gs (f p)) ∷ []) ps)) (sym (all_gathered_of-append gs ys (f p)))
      ∙ total_from f ps (ys ++ f p) ∙ ap (λ (zs : List Cells). ([], all_gathered_of gs zs) ∷ []) (append_assoc ys (f p) (flat_map f ps))

  total_of : (f : ℕ → List Cells) (p : ℕ) (ps : List ℕ) → put_all row_cmp (all_joined gs) [] (flat_map (λ p. ([], all_gathered_of gs (f p)) ∷ []) (p ∷ ps)) ≡ (([], all_gathered_of gs (flat_map f (p ∷ ps))) ∷ [])
  total_of f p ps = total_from f ps (f p)

  pub total_parts : put_all row_cmp (all_joined gs) [] (flat_map (λ p. ([], all_gathered_of gs (entries select (arguments_of gs) args (from_rows select (share parts catalog p db)))) ∷ []) (all_parts parts))
      ≡ (([], all_gathered_of gs (entries select (arguments_of gs) args (from_rows select db))) ∷ [])
  total_parts =
      let first = range-cons parts some in
      ap (λ (ps : List ℕ). put_all row_cmp (all_joined gs) [] (flat_map (λ p. ([], all_gathered_of gs (entries select (arguments_of gs) args (from_rows select (share parts catalog p db)))) ∷ []) ps)) first.1
      ∙ total_of (λ p. entries select (arguments_of gs) args (from_rows select (share parts catalog p db))) 0 first.0
      ∙ ap (λ (ps : List ℕ). ([], all_gathered_of gs (flat_map (λ p. entries select (arguments_of gs) args (from_rows select (share parts catalog p db))) ps)) ∷ []) (sym first.1)
      ∙ ap (λ (s : List Gathered). ([], s) ∷ []) rows_parts
