-- What a change of one row does to the index of a key.
use Rattle.std.proofs.Common.{◌≡◌, ℕ, Bool, true, false, not, cond, ◌&&◌, ◌||◌, List, [], ◌∷◌, map, Option, Some, None, is_some, refl, sym, ap, ap₂, ◌∙◌, subst}
use Rattle.std.proofs.lemmas.Bool.{false≢true}
use Rattle.std.proofs.lemmas.Slice.Eq.{bytes_eq-Decides}
use Rattle.std.specs.List.{list_any, AllByRecursion}
use Rattle.std.specs.Map.{lookup}
use Rattle.std.specs.BTreeSet.{insert_key}
use Rattle.std.specs.Str.{bytes_eq}
use Rattle.std.specs.Ordering.{nat_cmp, is_eq, ordering_then}
use Rattle.std.specs.Cmp.Lexicographic.{slice_cmp}
use Rattle.std.specs.declared.cmp.Ordering.{Ordering}
use Rattle.std.specs.declared.cmp.Ordering.TheVariants.{Less, Equal, Greater}
use Rattle.volt_value.specs.declared.value.Value.{Value}
use Rattle.volt_index.specs.Entries.{entry_cmp, entry_total}
use Rattle.volt_index.specs.Index.{Contents, is_entry, place_of, with_entry, without_entry}
use Rattle.row_codec.specs.declared.field.Field.{Field}
use Rattle.row_codec.specs.Packing.{IsRow}
use Rattle.table_rows.specs.Held.{row_at, with_row, without_row, AreRising}
use Rattle.table_rows.specs.Order.{row_cmp, agree, row_key, in_order_by}
use Rattle.table_rows.specs.Table.{agrees_with_one}
use Rattle.table_rows.specs.Keyed.{placed_cmp, entry_of, contents_of, AreApart}
use Rattle.table_rows.proofs.Inserts.{insert_swap, map-insert_key}
use Rattle.table_rows.proofs.HeldLemmas.{AreElsewhere, All-with_row, All-without_row, All-row_at, without_elsewhere, with_back, with_over}
use Rattle.table_rows.proofs.EntryLemmas.{entry_test, apart_of_test, without_with}
use Rattle.table_rows.proofs.RowOrder.{key_cmp, key_eq, row_total, not_equal, is_equal, turned_apart}
use Rattle.table_rows.proofs.PlacedOrder.{Held, AreOthers, All-both, All-in_order, any-in_order, order_with, apart_with, apart_without, others_without, others_alike, none_agrees, others_from}

-- each of them fits the columns
abbrev pub AreRows : List Field → Held → Type 0
AreRows fields held = AllByRecursion (λ e. IsRow fields e.1) held

then_apart : (o p : Ordering) → (o ≡ Equal → ⊥) → ordering_then o p ≡ o
then_apart Less p apart = refl
then_apart Equal p apart = absurd (apart refl)
then_apart Greater p apart = refl

-- the entries of two rows that don't agree go as the rows do
entry_order : (fields : List Field) (columns : List ℕ) (x e : ℕ × List Value) → IsRow fields x.1 → IsRow fields e.1 → (row_cmp columns x.1 e.1 ≡ Equal → ⊥)
    → entry_cmp (entry_of columns x) (entry_of columns e) ≡ placed_cmp columns x e
entry_order fields columns x e is-x is-e apart =
    ap (λ o. ordering_then o (nat_cmp x.0 e.0)) (key_cmp fields columns x.1 e.1 is-x is-e) ∙ then_apart (row_cmp columns x.1 e.1) (nat_cmp x.0 e.0) apart

-- ---- a row more

pub contents_with : (fields : List Field) (columns : List ℕ) (held : Held) (place : ℕ) (row : List Value) → AreRows fields held → IsRow fields row → AreElsewhere place held → AreOthers columns row held
    → with_entry (contents_of columns held) (row_key columns row) place ≡ contents_of columns (with_row held place row)
contents_with fields columns held place row rows is elsewhere others =
    let cmp = placed_cmp columns in
    let ordered = in_order_by cmp held in
    let same : AllByRecursion (λ e. entry_cmp (entry_of columns (place, row)) (entry_of columns e) ≡ cmp (place, row) e) ordered
    = All-both (λ e. IsRow fields e.1) (λ e. row_cmp columns row e.1 ≡ Equal → ⊥) (λ e. entry_cmp (entry_of columns (place, row)) (entry_of columns e) ≡ cmp (place, row) e)
    (λ e is-e apart. entry_order fields columns (place, row) e is is-e apart) ordered
    (All-in_order columns (λ e. IsRow fields e.1) held rows) (All-in_order columns (λ e. row_cmp columns row e.1 ≡ Equal → ⊥) held others) in
    ap (λ (es : List (List ℕ × ℕ)). record { unique = true; entries = es })
    (sym (map-insert_key cmp entry_cmp (entry_of columns) (place, row) ordered same)
    ∙ ap (map (entry_of columns)) (sym (order_with columns held place row elsewhere others)))

-- ---- a look-up

some-cond : {A : Type 0} (b : Bool) (x : A) (o : Option A) → is_some (cond b (Some x) o) ≡ (b || is_some o)
some-cond true x o = refl
some-cond false x o = refl

found_any : (columns : List ℕ) (key : List ℕ) (es : Held) → is_some (lookup (bytes_eq key) (map (entry_of columns) es)) ≡ list_any (λ e. bytes_eq key (row_key columns e.1)) es
found_any columns key [] = refl
found_any columns key (e ∷ es) = some-cond (bytes_eq key (row_key columns e.1)) e.0 (lookup (bytes_eq key) (map (entry_of columns) es)) ∙ ap (λ b. bytes_eq key (row_key columns e.1) || b) (found_any columns key es)

any_agrees : (fields : List Field) (columns : List ℕ) (row : List Value) (held : Held) → IsRow fields row → AreRows fields held
    → list_any (λ e. bytes_eq (row_key columns row) (row_key columns e.1)) held ≡ agrees_with_one columns row (map (λ e. e.1) held)
any_agrees fields columns row [] is rows = refl
any_agrees fields columns row (e ∷ held) is rows = ap₂ (λ (a b : Bool). a || b) (key_eq fields columns row e.1 is rows.0) (any_agrees fields columns row held is rows.1)

-- the key of a row is there exactly where one of the rows agrees with it
pub found_is : (fields : List Field) (columns : List ℕ) (held : Held) (row : List Value) → AreRows fields held → IsRow fields row → AreApart columns held
    → is_some (place_of (contents_of columns held) (row_key columns row)) ≡ agrees_with_one columns row (map (λ e. e.1) held)
found_is fields columns held row rows is apart =
    found_any columns (row_key columns row) (in_order_by (placed_cmp columns) held)
    ∙ any-in_order columns (λ e. bytes_eq (row_key columns row) (row_key columns e.1)) held apart
    ∙ any_agrees fields columns row held is rows

none_found : (o : Option ℕ) → is_some o ≡ false → o ≡ None
none_found None h = refl
none_found (Some p) h = absurd (false≢true (sym h))

pub free_of : (fields : List Field) (columns : List ℕ) (held : Held) (row : List Value) → AreRows fields held → IsRow fields row → AreApart columns held → AreOthers columns row held
    → place_of (contents_of columns held) (row_key columns row) ≡ None
free_of fields columns held row rows is apart others =
    none_found (place_of (contents_of columns held) (row_key columns row)) (found_is fields columns held row rows is apart ∙ none_agrees columns row held others)

-- ---- a row less

-- the row that is there is the one that the others lack
back_is : (held : Held) (place : ℕ) (old : List Value) → AreRising held → row_at held place ≡ Some old → held ≡ with_row (without_row held place) place old
back_is held place old rising is = sym (with_back held place old rising is)

pub contents_back : (fields : List Field) (columns : List ℕ) (held : Held) (place : ℕ) (old : List Value) → AreRising held → AreRows fields held → AreApart columns held → row_at held place ≡ Some old
    → contents_of columns held ≡ with_entry (contents_of columns (without_row held place)) (row_key columns old) place
contents_back fields columns held place old rising rows apart is =
    ap (contents_of columns) (back_is held place old rising is)
    ∙ sym (contents_with fields columns (without_row held place) place old (All-without_row (λ e. IsRow fields e.1) held place rows)
    (All-row_at (λ e. IsRow fields e.1) held place old rows is) (without_elsewhere held place rising) (others_without columns held place old apart is))

pub contents_without : (fields : List Field) (columns : List ℕ) (held : Held) (place : ℕ) (old : List Value) → AreRising held → AreRows fields held → AreApart columns held → row_at held place ≡ Some old
    → without_entry (contents_of columns held) (row_key columns old) place ≡ contents_of columns (without_row held place)
contents_without fields columns held place old rising rows apart is =
    ap (λ (c : Contents). without_entry c (row_key columns old) place) (contents_back fields columns held place old rising rows apart is)
    ∙ without_with (contents_of columns (without_row held place)) (row_key columns old) place
    (free_of fields columns (without_row held place) old (All-without_row (λ e. IsRow fields e.1) held place rows)
    (All-row_at (λ e. IsRow fields e.1) held place old rows is) (apart_without columns held place apart) (others_without columns held place old apart is))

-- ---- a row in the place of another

-- rows with one spelling agree
pub keys_agree : (fields : List Field) (columns : List ℕ) (a b : List Value) → IsRow fields a → IsRow fields b → row_key columns a ≡ row_key columns b → row_cmp columns a b ≡ Equal
keys_agree fields columns a b is-a is-b same =
    is_equal (row_cmp columns a b) (sym (key_eq fields columns a b is-a is-b) ∙ (bytes_eq-Decides (row_key columns a) (row_key columns b)).1 same)

-- with another key: it is put in first, and then the old key is taken out
pub contents_moved : (fields : List Field) (columns : List ℕ) (held : Held) (place : ℕ) (old row : List Value) → AreRising held → AreRows fields held → AreApart columns held → row_at held place ≡ Some old
    → IsRow fields row → AreOthers columns row held
    → without_entry (with_entry (contents_of columns held) (row_key columns row) place) (row_key columns old) place ≡ contents_of columns (with_row held place row)
contents_moved fields columns held place old row rising rows apart is fits others =
    let rest = without_row held place in
    let rest-rows : AreRows fields rest = All-without_row (λ e. IsRow fields e.1) held place rows in
    let rest-others : AreOthers columns row rest = All-without_row (λ e. row_cmp columns row e.1 ≡ Equal → ⊥) held place others in
    let elsewhere : AreElsewhere place rest = without_elsewhere held place rising in
    let old-fits : IsRow fields old = All-row_at (λ e. IsRow fields e.1) held place old rows is in
    let old-others : AreOthers columns old rest = others_without columns held place old apart is in
    let differ : row_cmp columns row old ≡ Equal → ⊥ = All-row_at (λ e. row_cmp columns row e.1 ≡ Equal → ⊥) held place old others is in
    let new = with_row rest place row in
    let joined : with_entry (contents_of columns rest) (row_key columns row) place ≡ contents_of columns new = contents_with fields columns rest place row rest-rows fits elsewhere rest-others in
    ap (λ (c : Contents). without_entry (with_entry c (row_key columns row) place) (row_key columns old) place) (contents_back fields columns held place old rising rows apart is)
    ∙ ap (λ (es : List (List ℕ × ℕ)). without_entry (record { unique = true; entries = es }) (row_key columns old) place)
    (insert_swap entry_total (row_key columns old, place) (row_key columns row, place) (contents_of columns rest).entries
    (keys_apart fields columns old row place old-fits fits (turned_apart columns row old differ)))
    ∙ ap (λ (c : Contents). without_entry (with_entry c (row_key columns old) place) (row_key columns old) place) joined
    ∙ without_with (contents_of columns new) (row_key columns old) place
    (free_of fields columns new old (All-with_row (λ e. IsRow fields e.1) rest place row fits rest-rows) old-fits
    (apart_with columns rest place row elsewhere rest-others (apart_without columns held place apart))
    (All-with_row (λ e. row_cmp columns old e.1 ≡ Equal → ⊥) rest place row (turned_apart columns row old differ) old-others))
    ∙ ap (contents_of columns) (with_over held place row old rising is)
  where
    keys_apart : (fields : List Field) (columns : List ℕ) (old row : List Value) (place : ℕ) → IsRow fields old → IsRow fields row → (row_cmp columns old row ≡ Equal → ⊥)
        → entry_cmp (row_key columns old, place) (row_key columns row, place) ≡ Equal → ⊥
    keys_apart fields columns old row place is-old is-row apart equal =
        apart (sym (then_apart (row_cmp columns old row) (nat_cmp place place) apart) ∙ sym (ap (λ o. ordering_then o (nat_cmp place place)) (key_cmp fields columns old row is-old is-row)) ∙ equal)

-- with the same key the index stays
pub contents_same : (fields : List Field) (columns : List ℕ) (held : Held) (place : ℕ) (old row : List Value) → AreRising held → AreRows fields held → AreApart columns held → row_at held place ≡ Some old
    → IsRow fields row → row_key columns row ≡ row_key columns old
    → contents_of columns held ≡ contents_of columns (with_row held place row)
contents_same fields columns held place old row rising rows apart is fits same =
    let rest = without_row held place in
    let old-fits : IsRow fields old = All-row_at (λ e. IsRow fields e.1) held place old rows is in
    contents_back fields columns held place old rising rows apart is
    ∙ ap (λ key. with_entry (contents_of columns rest) key place) (sym same)
    ∙ contents_with fields columns rest place row (All-without_row (λ e. IsRow fields e.1) held place rows) fits (without_elsewhere held place rising)
    (others_alike columns rest row old (keys_agree fields columns row old fits old-fits same) (others_without columns held place old apart is))
    ∙ ap (contents_of columns) (with_over held place row old rising is)
