-- What a SELECT makes of its rows is well formed.
use Rattle.std.proofs.Common.{◌≡◌, ℕ, zero, suc, ◌+◌, ◌≤◌, Bool, true, false, not, nat_lt, ◌==◌, ◌&&◌, List, [], ◌∷◌, ◌++◌, map, length, slice_get, Option, Some, None, refl, sym, subst, ap, ◌∙◌, arith, length-append, append_assoc}
use Rattle.std.specs.List.{list_all, list_any, range_with_len}
use Rattle.std.proofs.lemmas.Bool.{cond_both, and_parts, and_from, or_parts, lt-ltb, ltb-true}
use Rattle.std.proofs.lemmas.List.{length-map, map-append}
use Rattle.volt_value.specs.declared.column.Class.{Class}
use Rattle.volt_value.specs.Columns.{class_of}
use Rattle.volt_catalog.specs.declared.column.Column.{Column}
use Rattle.volt_catalog.specs.declared.table.Table.{Table}
use Rattle.volt_catalog.specs.Names.{differ}
use Rattle.volt_catalog.specs.Rules.{Contents, has_columns, within_limits}
use Rattle.volt_catalog.specs.Catalog.{IsCatalog, is_table, has_part_in_key}
use Rattle.sql_parse.specs.declared.statement.Output.{Output}
use Rattle.sql_parse.specs.declared.statement.Outputs.{Outputs}
use Rattle.sql_parse.specs.declared.statement.Outputs.TheVariants.{All, Listed}
use Rattle.sql_parse.specs.declared.statement.Select.{Select}
use Rattle.sql_parse.specs.declared.statement.SortKey.{SortKey}
use Rattle.sql_plan.specs.declared.expression.Scalar.{Scalar}
use Rattle.sql_plan.specs.declared.select.Order.{Order}
use Rattle.sql_plan.specs.declared.select.Shape.{Shape}
use Rattle.sql_plan.specs.declared.select.Shape.TheVariants as shape
use Rattle.sql_resolve.specs.declared.fault.CheckFault.TheVariants.{NoSuchName}
use Rattle.sql_resolve.specs.declared.notes.Notes.{Notes}
use Rattle.sql_resolve.specs.Named.{Named, Tables, columns_of, key_of}
use Rattle.sql_resolve.specs.Names.{width}
use Rattle.sql_check.specs.declared.groups.Grouping.{Grouping}
use Rattle.sql_check.specs.Columns.{columns_to}
use Rattle.sql_check.specs.Selects.{Heads, heads_of_columns, row_outputs, group_columns, group_outputs, no_outputs, is_aggregate, ordered}
use Rattle.sql_check.specs.SelectStatement.{with_keys, rows_of, groups_of, grouped_of, has_groups, listed_shape, ungrouped, shape_of, heads_given}
use Rattle.sql_meaning.specs.WellFormed.{give_each, is_among, ascending, IsOrder, IsShape}
use Rattle.sql_meaning.proofs.Classes.{give_each-length}
use Rattle.sql_check_laws.specs.Numbers.{outputs_have_bigints}
use Rattle.sql_check_laws.proofs.Columns.{all-at, classes, classes_in, finds_columns}
use Rattle.sql_check_laws.proofs.Fine.{Fine, Finds, unless}
use Rattle.sql_check_laws.proofs.Groups.{AreWithin, AreOutputs, none-are, outputs_give-length, group_columns_are, group_outputs_are}
use Rattle.sql_check_laws.proofs.Selects.{head_classes, heads-classes, have_bigints, given_by, heads-given, AreAmong, ordered_is, row_outputs_are}
use Rattle.sql_check_laws.proofs.Writes.{columns_give}

-- ---- keys

pub key-columns : (catalog : Contents) (n : ℕ) (table : Table) → IsCatalog catalog → slice_get catalog.tables n ≡ Some table → has_columns table.columns table.key ≡ true
key-columns catalog n table rules e =
    let is = all-at is_table catalog.tables n table rules.tables e in
    let names = differ (map (λ (column : Column). column.name) table.columns) in
    let last = and_parts (names && has_columns table.columns table.key && not (length table.key == 0) && within_limits table.columns) (has_part_in_key table) is in
    let fourth = and_parts (names && has_columns table.columns table.key && not (length table.key == 0)) (within_limits table.columns) last.0 in
    let third = and_parts (names && has_columns table.columns table.key) (not (length table.key == 0)) fourth.0 in
    (and_parts names (has_columns table.columns table.key) third.0).1

within-append : (n : ℕ) (xs ys : List ℕ) → AreWithin n xs → AreWithin n ys → AreWithin n (xs ++ ys)
within-append n [] ys h k = k
within-append n (x ∷ xs) ys h k =
    let parts = and_parts (nat_lt x n) (list_all (λ k. nat_lt k n) xs) h in
    and_from (nat_lt x n) (list_all (λ k. nat_lt k n) (xs ++ ys)) parts.0 (within-append n xs ys parts.1 k)

within-shift : (m n : ℕ) (xs : List ℕ) → AreWithin n xs → AreWithin (m + n) (map (λ k. m + k) xs)
within-shift m n [] h = refl
within-shift m n (x ∷ xs) h =
    let parts = and_parts (nat_lt x n) (list_all (λ k. nat_lt k n) xs) h in
    let below = ltb-true x n parts.0 in
    and_from (nat_lt (m + x) (m + n)) (list_all (λ k. nat_lt k (m + n)) (map (λ k. m + k) xs)) (lt-ltb (m + x) (m + n) (omega (arith, below))) (within-shift m n xs parts.1)

within-more : (m n : ℕ) (xs : List ℕ) → m ≤ n → AreWithin m xs → AreWithin n xs
within-more m n [] le h = refl
within-more m n (x ∷ xs) le h =
    let parts = and_parts (nat_lt x m) (list_all (λ k. nat_lt k m) xs) h in
    let below = ltb-true x m parts.0 in
    and_from (nat_lt x n) (list_all (λ k. nat_lt k n) xs) (lt-ltb x n (omega (arith, below, le))) (within-more m n xs le parts.1)

-- the columns of the primary keys in the row of all tables
abbrev pub keys_in : Tables → List ℕ
keys_in names = key_of names.left ++ map (λ n. width names.left + n) (key_of names.right)

width-columns : (table : Option Named) → width table ≡ length (columns_of table)
width-columns None = refl
width-columns (Some table) = refl

-- the keys of both tables are in the row
pub keys-within : (names : Tables) → AreWithin (length (columns_of names.left)) (key_of names.left) → AreWithin (length (columns_of names.right)) (key_of names.right) → AreWithin (length (classes_in names)) (keys_in names)
keys-within names h k =
    let many : length (classes_in names) ≡ length (columns_of names.left) + length (columns_of names.right) =
    length-append (classes (columns_of names.left)) (classes (columns_of names.right))
    ∙ (λ i. length-map (columns_of names.left) (λ (column : Column). class_of column.kind) i + length-map (columns_of names.right) (λ (column : Column). class_of column.kind) i) in
    let right = within-shift (length (columns_of names.left)) (length (columns_of names.right)) (key_of names.right) k in
    subst (λ n. AreWithin n (keys_in names)) (sym many)
    (within-append (length (columns_of names.left) + length (columns_of names.right)) (key_of names.left) (map (λ n. width names.left + n) (key_of names.right))
    (within-more (length (columns_of names.left)) (length (columns_of names.left) + length (columns_of names.right)) (key_of names.left) (omega arith) h)
    (subst (λ w. AreWithin (length (columns_of names.left) + length (columns_of names.right)) (map (λ n. w + n) (key_of names.right))) (sym (width-columns names.left)) right))

-- ---- orders

among-append : (outputs columns : ℕ) (xs ys : List Order) → AreAmong outputs columns xs → AreAmong outputs columns ys → AreAmong outputs columns (xs ++ ys)
among-append outputs columns [] ys h k = k
among-append outputs columns (x ∷ xs) ys h k =
    let parts = and_parts (is_among outputs columns x.by) (list_all (λ (o : Order). is_among outputs columns o.by) xs) h in
    and_from (is_among outputs columns x.by) (list_all (λ (o : Order). is_among outputs columns o.by) (xs ++ ys)) parts.0 (among-append outputs columns xs ys parts.1 k)

keys-among : (outputs columns : ℕ) (key : List ℕ) → AreWithin columns key → AreAmong outputs columns (map ascending key)
keys-among outputs columns [] h = refl
keys-among outputs columns (k ∷ key) h =
    let parts = and_parts (nat_lt k columns) (list_all (λ k. nat_lt k columns) key) h in
    and_from (nat_lt k columns) (list_all (λ (o : Order). is_among outputs columns o.by) (map ascending key)) parts.0 (keys-among outputs columns key parts.1)

range-within : (a n : ℕ) → AreWithin (a + n) (range_with_len a n)
range-within a zero = refl
range-within a (suc n) =
    let e : a + 1 + n ≡ a + suc n = omega arith in
    and_from (nat_lt a (a + suc n)) (list_all (λ k. nat_lt k (a + suc n)) (range_with_len (a + 1) n)) (lt-ltb a (a + suc n) (omega arith)) (subst (λ m. AreWithin m (range_with_len (a + 1) n)) e (range-within (a + 1) n))

ordered-whole : (outputs columns : ℕ) (asked : List Order) (key : List ℕ) → AreAmong outputs columns asked → AreWithin columns key → IsOrder outputs columns key (asked ++ map ascending key)
ordered-whole outputs columns asked key h k = record { asked = asked; whole = refl; numbers = among-append outputs columns asked (map ascending key) h (keys-among outputs columns key k) }

left-keys : (key : List ℕ) → map (λ n. ascending (0 + n)) key ≡ map ascending key
left-keys [] = refl
left-keys (n ∷ key) = let e : 0 + n ≡ n = omega arith in λ i. ascending (e i) ∷ left-keys key i

right-keys : (m : ℕ) (key : List ℕ) → map (λ n. ascending (m + n)) key ≡ map ascending (map (λ n. m + n) key)
right-keys m [] = refl
right-keys m (n ∷ key) = ap (λ os. ascending (m + n) ∷ os) (right-keys m key)

with_keys-are : (names : Tables) (order : List Order) → with_keys names order ≡ order ++ map ascending (keys_in names)
with_keys-are names order =
    append_assoc order (map (λ n. ascending (0 + n)) (key_of names.left)) (map (λ n. ascending (width names.left + n)) (key_of names.right))
    ∙ ap (λ os. order ++ os) ((λ i. left-keys (key_of names.left) i ++ right-keys (width names.left) (key_of names.right) i)
    ∙ sym (map-append ascending (key_of names.left) (map (λ n. width names.left + n) (key_of names.right))))

-- ---- the shape of a SELECT

module _ (params : List Class) (names : Tables) (keys : AreWithin (length (classes_in names)) (keys_in names)) where
  abbrev all : List Class
  all = classes_in names

  abbrev Shaped : Heads → Shape → Type 0
  Shaped heads s = IsShape all params (keys_in names) s (head_classes heads)

  rows_of_is : (heads : Heads) (sort : List SortKey) (outputs : List Scalar) → give_each all params outputs (head_classes heads) ≡ true → (notes : Notes) → Finds params (Shaped heads) notes (rows_of names heads sort outputs notes)
  rows_of_is heads sort outputs give notes fine =
      let order = ordered names heads false sort [] notes in
      let found = ordered_is params all names (finds_columns names) 0 heads false sort [] notes fine in
      let many : length heads ≡ length outputs = sym (give_each-length all params outputs (head_classes heads) give ∙ length-map heads (λ (head : List ℕ × Class). head.1)) in
      let among : AreAmong (length outputs) (length all) order.1 = subst (λ n. AreAmong n (length all) order.1) many (found.1 refl) in (
        found.0,
        record {
          give = give;
          ordered = subst (IsOrder (length outputs) (length all) (keys_in names)) (sym (with_keys-are names order.1)) (ordered-whole (length outputs) (length all) order.1 (keys_in names) among keys);
        },
      )

  groups_of_is : (heads : Heads) (grouped : List ℕ) (made : Grouping) (order : List Order) → AreWithin (length all) grouped → AreOutputs all params grouped (head_classes heads) made
      → AreAmong (length heads) (length grouped) order → Shaped heads (groups_of grouped made order)
  groups_of_is heads grouped made order within outputs among =
      let many : length heads ≡ length made.outputs = sym (outputs_give-length all params grouped made.aggregates made.outputs (head_classes heads) outputs.give ∙ length-map heads (λ (head : List ℕ × Class). head.1)) in
      let from : 0 + length grouped ≡ length grouped = omega arith in
      cond_both (length grouped == 0) (shape.Total made.aggregates) (shape.Groups grouped made.aggregates made.outputs (order ++ map ascending (range_with_len 0 (length grouped)))) (Shaped heads)
      (λ none. outputs.total none)
      (λ some. record {
        numbers = within;
        fit = outputs.fit;
        give = outputs.give;
        ordered = ordered-whole (length made.outputs) (length grouped) order (range_with_len 0 (length grouped)) (subst (λ n. AreAmong n (length grouped) order) many among) (subst (λ n. AreWithin n (range_with_len 0 (length grouped))) from (range-within 0 (length grouped)));
      })

  grouped_of_is : (select : Select) (outputs : List Output) → have_bigints outputs ≡ true → (heads : Heads) → head_classes heads ≡ given_by names outputs → (notes : Notes)
      → Finds params (Shaped heads) notes (grouped_of names heads select outputs notes)
  grouped_of_is select outputs ok heads same notes fine =
      let columns = group_columns names select.groups [] notes in
      let made = group_outputs names columns.1 outputs no_outputs columns.0 in
      let order = ordered names heads true select.order [] made.0 in
      let third = ordered_is params all names (finds_columns names) (length columns.1) heads true select.order [] made.0 fine in
      let second = group_outputs_are all params columns.1 names (finds_columns names) outputs ok no_outputs [] columns.0 third.0 in
      let first = group_columns_are params all names (finds_columns names) select.groups [] notes second.0 in
      (first.0, groups_of_is heads columns.1 made.1 order.1 (first.1 refl) (subst (λ given. AreOutputs all params columns.1 given made.1) (sym same) (second.1 (none-are all params columns.1))) (third.1 refl))

  listed_is : (select : Select) (outputs : List Output) → have_bigints outputs ≡ true → (heads : Heads) → head_classes heads ≡ given_by names outputs → (groups : Bool) → has_groups select outputs ≡ groups → (notes : Notes)
      → Finds params (Shaped heads) notes (listed_shape names heads select outputs groups notes)
  listed_is select outputs ok heads same true e notes fine = grouped_of_is select outputs ok heads same notes fine
  listed_is select outputs ok heads same false e notes fine =
      let plain = or_parts (not (length select.groups == 0)) (list_any (λ (output : Output). is_aggregate output.value) outputs) e in
      let made = row_outputs names outputs notes in
      later made.1 made.0 (row_outputs_are params all names (finds_columns names) outputs ok plain.1 notes) fine
    where
      later : (xs : List Scalar) (after : Notes) → (Fine params after → Fine params notes × (give_each all params xs (given_by names outputs) ≡ true))
          → Fine params (rows_of names heads select.order xs after).0 → Fine params notes × Shaped heads (rows_of names heads select.order xs after).1
      later xs after h fine =
          let order = ordered_is params all names (finds_columns names) 0 heads false select.order [] after fine in
          let found = h order.0 in
          (found.0, (rows_of_is heads select.order xs (subst (λ given. give_each all params xs given ≡ true) (sym same) found.1) after fine).1)

  heads-of-all : head_classes (heads_of_columns (columns_of names.left) ++ heads_of_columns (columns_of names.right)) ≡ all
  heads-of-all =
      map-append (λ (head : List ℕ × Class). head.1) (heads_of_columns (columns_of names.left)) (heads_of_columns (columns_of names.right))
      ∙ (λ i. heads-classes (columns_of names.left) i ++ heads-classes (columns_of names.right) i)

  columns-of-all : give_each all params (columns_to (length (columns_of names.left) + length (columns_of names.right))) all ≡ true
  columns-of-all =
      let many : length all ≡ length (columns_of names.left) + length (columns_of names.right) =
      length-append (classes (columns_of names.left)) (classes (columns_of names.right))
      ∙ (λ i. length-map (columns_of names.left) (λ (column : Column). class_of column.kind) i + length-map (columns_of names.right) (λ (column : Column). class_of column.kind) i) in
      subst (λ n. give_each all params (columns_to n) all ≡ true) many
      (columns_give all params 0 all (λ k class e. let same : k ≡ 0 + k = omega arith in subst (λ m. slice_get all m ≡ Some class) same e))

  pub shape_is : (select : Select) (outputs : Outputs) → outputs_have_bigints outputs ≡ true → (notes : Notes) → Finds params (Shaped (heads_given names outputs)) notes (shape_of names (heads_given names outputs) select outputs notes)
  shape_is select All ok notes fine =
      let found = rows_of_is (heads_given names All) select.order (columns_to (length (columns_of names.left) + length (columns_of names.right)))
      (subst (λ given. give_each all params (columns_to (length (columns_of names.left) + length (columns_of names.right))) given ≡ true) (sym heads-of-all) columns-of-all) (ungrouped select notes) fine in
      ((unless params (length select.groups == 0) NoSuchName notes found.0).1, found.1)
  shape_is select (Listed outputs) ok notes fine = listed_is select outputs ok (heads_given names (Listed outputs)) (heads-given names 1 outputs) (has_groups select outputs) refl notes fine
