-- What a change of one row does to the table, and what is read of it.
use Rattle.std.proofs.Common.{◌≡◌, ℕ, ◌<◌, Bool, true, false, cond, ◌&&◌, ◌||◌, nat_lt, List, [], ◌∷◌, map, filter, length, Option, Some, None, is_some, option_and_then, refl, sym, ap, ap₂, ◌∙◌, subst, arith}
use Rattle.std.proofs.lemmas.Bool.{false≢true}
use Rattle.std.proofs.lemmas.Slice.Eq.{bytes_eq-Decides}
use Rattle.std.specs.List.{list_any, AllByRecursion}
use Rattle.std.specs.Map.{lookup}
use Rattle.std.specs.Option.{unwrap_or}
use Rattle.std.specs.Set.{remove_key}
use Rattle.std.specs.BTreeSet.{insert_key}
use Rattle.std.specs.Str.{bytes_eq}
use Rattle.std.specs.declared.cmp.Ordering.TheVariants.{Equal}
use Rattle.volt_value.specs.declared.value.Value.{Value}
use Rattle.volt_index.specs.Index.{place_of, places_between, is_from, is_before}
use Rattle.row_codec.specs.declared.field.Field.{Field}
use Rattle.row_codec.specs.Packing.{IsRow}
use Rattle.table_rows.specs.Held.{row_at, with_row, without_row, AreRising}
use Rattle.table_rows.specs.Order.{row_cmp, agree, row_key, in_order_by, in_order}
use Rattle.table_rows.specs.Table.{Table, agrees_with_one, clashes, first_of, has_key, inserted, deleted, updated, find_row, row_of_key, rows_between}
use Rattle.table_rows.specs.Keyed.{placed_cmp, entry_of, contents_of, AreApart}
use Rattle.table_rows.specs.Standing.{table_of, rows_at, IsHeldAt, IsRowOfKey}
use Rattle.table_rows.proofs.Inserts.{remove_inserted}
use Rattle.table_rows.proofs.HeldLemmas.{AreElsewhere, All-without_row, All-row_at, without_elsewhere, with_back, with_over, at_same, at_other}
use Rattle.table_rows.proofs.RowOrder.{key_eq, not_equal}
use Rattle.table_rows.proofs.PlacedOrder.{Held, AreOthers, All-both, All-each, All-in_order, any-rows, order_with, others_without, others_from, order_again, rows_insert, rows_order}
use Rattle.table_rows.proofs.IndexChanges.{AreRows}

-- ---- rows that agree

pub rows_clash : (columns : List ℕ) (held : Held) (keys : List (List ℕ)) (row : List Value) → AreApart columns held
    → clashes keys row (map (λ e. e.1) (in_order_by (placed_cmp columns) held)) ≡ clashes keys row (map (λ e. e.1) held)
rows_clash columns held [] row apart = refl
rows_clash columns held (key ∷ keys) row apart = ap₂ (λ (a b : Bool). a || b) (any-rows columns (agree key row) held apart) (rows_clash columns held keys row apart)

pub first_others : (keys : List (List ℕ)) (row : List Value) (held : Held) → nat_lt 0 (length keys) ≡ true → clashes keys row (map (λ e. e.1) held) ≡ false → AreOthers (first_of keys) row held
first_others [] row held some free = absurd (false≢true some)
first_others (key ∷ keys) row held some free = others_from key row held (left_false (agrees_with_one key row (map (λ e. e.1) held)) (clashes keys row (map (λ e. e.1) held)) free)
  where
    left_false : (a b : Bool) → (a || b) ≡ false → a ≡ false
    left_false true b h = absurd cc
    left_false false b h = refl

-- ---- a row more

pub inserted_is : (fields : List Field) (keys : List (List ℕ)) (held : Held) (place : ℕ) (row : List Value) → AreElsewhere place held → AreOthers (first_of keys) row held
    → table_of fields keys (with_row held place row) ≡ inserted (table_of fields keys held) row
inserted_is fields keys held place row elsewhere others =
    ap (λ (rows : List (List Value)). record { schema = record { fields = fields; keys = keys }; rows = rows })
    (ap (map (λ (e : ℕ × List Value). e.1)) (order_with (first_of keys) held place row elsewhere others)
    ∙ rows_insert (first_of keys) (in_order_by (placed_cmp (first_of keys)) held) (place, row))

-- ---- a row less

pub All-map : {A B : Type 0} (P : B → Type 0) (f : A → B) (xs : List A) → AllByRecursion (λ x. P (f x)) xs → AllByRecursion P (map f xs)
All-map P f [] are = tt
All-map P f (x ∷ xs) are = (are.0, All-map P f xs are.1)

-- a row that doesn't agree with this one has another key
pub other_key : (fields : List Field) (columns key : List ℕ) (old row : List Value) → IsRow fields old → IsRow fields row → has_key columns key old ≡ true → (row_cmp columns old row ≡ Equal → ⊥) → has_key columns key row ≡ false
other_key fields columns key old row is-old is-row has apart =
    ap (λ k. bytes_eq k (row_key columns row)) ((bytes_eq-Decides key (row_key columns old)).0 has)
    ∙ key_eq fields columns old row is-old is-row ∙ not_equal (row_cmp columns old row) apart

pub deleted_is : (fields : List Field) (keys : List (List ℕ)) (held : Held) (place : ℕ) (old : List Value) (key : List ℕ) → AreRising held → AreRows fields held → AreApart (first_of keys) held → row_at held place ≡ Some old
    → has_key (first_of keys) key old ≡ true → table_of fields keys (without_row held place) ≡ deleted (table_of fields keys held) key
deleted_is fields keys held place old key rising rows apart there has =
    let columns = first_of keys in
    let rest = without_row held place in
    let ordered = in_order_by (placed_cmp columns) rest in
    let rest-rows : AreRows fields rest = All-without_row (λ e. IsRow fields e.1) held place rows in
    let is-old : IsRow fields old = All-row_at (λ e. IsRow fields e.1) held place old rows there in
    let others : AreOthers columns old rest = others_without columns held place old apart there in
    let differ : AllByRecursion (λ (r : List Value). (has_key columns key r ≡ false) × (row_cmp columns old r ≡ Equal → ⊥)) (map (λ (e : ℕ × List Value). e.1) ordered)
    = All-map (λ (r : List Value). (has_key columns key r ≡ false) × (row_cmp columns old r ≡ Equal → ⊥)) (λ (e : ℕ × List Value). e.1) ordered
    (All-both (λ e. IsRow fields e.1) (λ e. row_cmp columns old e.1 ≡ Equal → ⊥) (λ e. (has_key columns key e.1 ≡ false) × (row_cmp columns old e.1 ≡ Equal → ⊥))
    (λ e is-e other. (other_key fields columns key old e.1 is-old is-e has other, other)) ordered
    (All-in_order columns (λ e. IsRow fields e.1) rest rest-rows) (All-in_order columns (λ e. row_cmp columns old e.1 ≡ Equal → ⊥) rest others)) in
    let whole : map (λ (e : ℕ × List Value). e.1) (in_order_by (placed_cmp columns) held) ≡ insert_key (row_cmp columns) (map (λ (e : ℕ × List Value). e.1) ordered) old
    = ap (λ hs. map (λ (e : ℕ × List Value). e.1) (in_order_by (placed_cmp columns) hs)) (sym (with_back held place old rising there))
    ∙ ap (map (λ (e : ℕ × List Value). e.1)) (order_with columns rest place old (without_elsewhere held place rising) others)
    ∙ rows_insert columns ordered (place, old) in
    ap (λ (rows : List (List Value)). record { schema = record { fields = fields; keys = keys }; rows = rows })
    (sym (ap (remove_key (has_key columns key)) whole
    ∙ remove_inserted (row_cmp columns) (has_key columns key) old (map (λ (e : ℕ × List Value). e.1) ordered) has differ))

-- ---- a row in the place of another

pub updated_is : (fields : List Field) (keys : List (List ℕ)) (held : Held) (place : ℕ) (old row : List Value) → AreRising held → AreRows fields held → AreApart (first_of keys) held → row_at held place ≡ Some old
    → has_key (first_of keys) (row_key (first_of keys) row) old ≡ true → AreOthers (first_of keys) row (without_row held place)
    → table_of fields keys (with_row held place row) ≡ updated (table_of fields keys held) row
updated_is fields keys held place old row rising rows apart there has others =
    ap (table_of fields keys) (sym (with_over held place row old rising there))
    ∙ inserted_is fields keys (without_row held place) place row (without_elsewhere held place rising) others
    ∙ ap (λ (t : Table). inserted t row) (deleted_is fields keys held place old (row_key (first_of keys) row) rising rows apart there has)

-- the others of the row of this key
pub others_deleted : (fields : List Field) (keys : List (List ℕ)) (held : Held) (place : ℕ) (old : List Value) (key : List ℕ) (row : List Value) → AreRising held → AreRows fields held → AreApart (first_of keys) held → row_at held place ≡ Some old
    → has_key (first_of keys) key old ≡ true → AreApart (first_of keys) (without_row held place)
    → clashes keys row (deleted (table_of fields keys held) key).rows ≡ clashes keys row (map (λ e. e.1) (without_row held place))
others_deleted fields keys held place old key row rising rows apart there has rest-apart =
    ap (λ (t : Table). clashes keys row t.rows) (sym (deleted_is fields keys held place old key rising rows apart there has))
    ∙ rows_clash (first_of keys) (without_row held place) keys row rest-apart

-- ---- what is read

-- each row is at its place
abbrev pub AreThere : Held → Held → Type 0
AreThere held es = AllByRecursion (λ e. row_at held e.0 ≡ Some e.1) es

pub all_there : (held : Held) → AreRising held → AreThere held held
all_there [] rising = tt
all_there (e ∷ held) rising = (
  at_same e.0 e held refl,
  All-both (λ f. e.0 < f.0) (λ f. row_at held f.0 ≡ Some f.1) (λ f. row_at (e ∷ held) f.0 ≡ Some f.1)
      (λ f behind there. at_other f.0 e held (λ same. omega arith) ∙ there) held rising.0 (all_there held rising.1),
)

found_step : (held : Held) (columns key : List ℕ) (es : Held) → AreThere held es → find_row (has_key columns key) (map (λ e. e.1) es) ≡ option_and_then (row_at held) (lookup (bytes_eq key) (map (entry_of columns) es))
found_step held columns key [] there = refl
found_step held columns key (e ∷ es) there =
    at (has_key columns key e.1) (find_row (has_key columns key) (map (λ e. e.1) es)) (lookup (bytes_eq key) (map (entry_of columns) es)) (found_step held columns key es there.1)
  where
    at : (b : Bool) (found : Option (List Value)) (place : Option ℕ) → found ≡ option_and_then (row_at held) place → cond b (Some e.1) found ≡ option_and_then (row_at held) (cond b (Some e.0) place)
    at true found place ih = sym there.0
    at false found place ih = ih

-- the row of a key is the one at the key's place
pub row_found : (fields : List Field) (keys : List (List ℕ)) (held : Held) (key : List ℕ) → AreRising held → row_of_key (table_of fields keys held) key ≡ option_and_then (row_at held) (place_of (contents_of (first_of keys) held) key)
row_found fields keys held key rising =
    found_step held (first_of keys) key (in_order_by (placed_cmp (first_of keys)) held) (All-in_order (first_of keys) (λ e. row_at held e.0 ≡ Some e.1) held (all_there held rising))

-- at that place there is a row, of this key
held_step : (held : Held) (columns key : List ℕ) (place : ℕ) (es : Held) → AreThere held es → lookup (bytes_eq key) (map (entry_of columns) es) ≡ Some place → IsRowOfKey held columns key place
held_step held columns key place [] there found = absurd cc
held_step held columns key place (e ∷ es) there found =
    at (has_key columns key e.1) refl (lookup (bytes_eq key) (map (entry_of columns) es)) (held_step held columns key place es there.1) found
  where
    at : (b : Bool) → has_key columns key e.1 ≡ b → (rest : Option ℕ) → (rest ≡ Some place → IsRowOfKey held columns key place) → cond b (Some e.0) rest ≡ Some place → IsRowOfKey held columns key place
    at true has rest ih here = record { row = e.1; there = ap (row_at held) (sym (some_is here)) ∙ there.0; has = has }
      where
        some_is : {a b : ℕ} → Some a ≡ Some b → a ≡ b
        some_is h = cc
    at false has rest ih later = ih later

pub place_held : (held : Held) (columns key : List ℕ) (place : ℕ) → AreRising held → place_of (contents_of columns held) key ≡ Some place → IsRowOfKey held columns key place
place_held held columns key place rising found =
    held_step held columns key place (in_order_by (placed_cmp columns) held) (All-in_order columns (λ e. row_at held e.0 ≡ Some e.1) held (all_there held rising)) found

-- ---- a range

abbrev in_range : Option (List ℕ) → Option (List ℕ) → List ℕ → Bool
in_range from to key = is_from from key && is_before to key

range_step : (held : Held) (columns : List ℕ) (from to : Option (List ℕ)) (es : Held) → AreThere held es
    → rows_at held (map (λ e. e.1) (filter (λ e. in_range from to e.0) (map (entry_of columns) es))) ≡ filter (λ row. in_range from to (row_key columns row)) (map (λ e. e.1) es)
range_step held columns from to [] there = refl
range_step held columns from to (e ∷ es) there =
    at (in_range from to (row_key columns e.1)) (filter (λ e. in_range from to e.0) (map (entry_of columns) es)) (filter (λ row. in_range from to (row_key columns row)) (map (λ e. e.1) es))
    (range_step held columns from to es there.1)
  where
    at : (b : Bool) (places : List (List ℕ × ℕ)) (rows : List (List Value)) → rows_at held (map (λ e. e.1) places) ≡ rows
        → rows_at held (map (λ e. e.1) (cond b (entry_of columns e ∷ places) places)) ≡ cond b (e.1 ∷ rows) rows
    at true places rows ih = ap₂ (λ (row : List Value) (rows : List (List Value)). row ∷ rows) (ap (λ o. unwrap_or o []) there.0) ih
    at false places rows ih = ih

pub range_is : (fields : List Field) (keys : List (List ℕ)) (held : Held) (columns : List ℕ) (from to : Option (List ℕ)) → AreRising held → AreApart (first_of keys) held → AreApart columns held
    → rows_at held (places_between from to (contents_of columns held)) ≡ rows_between columns from to (table_of fields keys held)
range_is fields keys held columns from to rising first-apart apart =
    range_step held columns from to (in_order_by (placed_cmp columns) held) (All-in_order columns (λ e. row_at held e.0 ≡ Some e.1) held (all_there held rising))
    ∙ ap (filter (λ (row : List Value). in_range from to (row_key columns row)))
    (ap (map (λ (e : ℕ × List Value). e.1)) (sym (order_again (first_of keys) columns held first-apart apart)) ∙ rows_order columns (in_order_by (placed_cmp (first_of keys)) held))

-- a place of the range has a row
pub range_held : (held : Held) (columns : List ℕ) (from to : Option (List ℕ)) → AreRising held → AllByRecursion (λ place. IsHeldAt held place) (places_between from to (contents_of columns held))
range_held held columns from to rising = each (in_order_by (placed_cmp columns) held) (All-in_order columns (λ e. row_at held e.0 ≡ Some e.1) held (all_there held rising))
  where
    each : (es : Held) → AreThere held es → AllByRecursion (λ place. IsHeldAt held place) (map (λ e. e.1) (filter (λ e. in_range from to e.0) (map (entry_of columns) es)))
    each [] there = tt
    each (e ∷ es) there = at (in_range from to (row_key columns e.1)) (filter (λ e. in_range from to e.0) (map (entry_of columns) es)) (each es there.1)
      where
        at : (b : Bool) (places : List (List ℕ × ℕ)) → AllByRecursion (λ place. IsHeldAt held place) (map (λ e. e.1) places)
            → AllByRecursion (λ place. IsHeldAt held place) (map (λ e. e.1) (cond b (entry_of columns e ∷ places) places))
        at true places ih = (ap is_some there.0, ih)
        at false places ih = ih
