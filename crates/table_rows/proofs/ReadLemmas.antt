-- What is read of the table that rows and indexes stand for, and what it is without a row or with another.
use Rattle.std.proofs.Common.{◌≡◌, ◌⊎◌, ℕ, Vec, get_or, arith, ◌<◌, zero, suc, Bool, true, false, cond, List, [], ◌∷◌, map, length, slice_get, Option, Some, None, Result, Ok, Err, IfOk, is_some, IfSome, option_and_then, refl, sym, ap, ap₂, ◌∙◌, subst}
use Rattle.std.proofs.lemmas.Bool.{false≢true}
use Rattle.std.proofs.lemmas.List.{with_items_is, length-map}
use Rattle.std.proofs.lemmas.Option.{slice_get-get_or}
use Rattle.std.specs.Vec.{with_items}
use Rattle.std.specs.List.{AllByRecursion}
use Rattle.std.specs.List.Sorted.{IsPermutation}
use Rattle.std.specs.Option.{unwrap_or}
use Rattle.std.specs.Set.{remove_key}
use Rattle.volt_value.specs.declared.value.Value.{Value}
use Rattle.volt_index.specs.Index.{Contents, place_of, places_between}
use Rattle.row_codec.specs.declared.fault.RowFault.{RowFault}
use Rattle.row_codec.specs.declared.fault.RowFault.TheVariants.{NoMemory}
use Rattle.row_codec.specs.Faults.{columns_fault}
use Rattle.tuple_block.specs.Tuples.{Tuples}
use Rattle.pane_index.specs.Blocks.{all_slots}
use Rattle.table_rows.specs.Held.{row_at, with_row, without_row, ArePacked}
use Rattle.table_rows.specs.Spread.{Spread, IsSpread, AreTuples, held_from}
use Rattle.table_rows.specs.Order.{row_key}
use Rattle.table_rows.specs.Table.{Table, first_of, has_key, has_like, clashes, primary_key, duplicate_if, first_fault, row_fault, deleted, updated, find_row, row_of_key, rows_between}
use Rattle.table_rows.specs.Keyed.{contents_of, IsKept}
use Rattle.table_rows.specs.Standing.{keys_of, table_of, standing_table, first_place, rows_at, rows_in, IsHeldAt, IsRowOfKey, IsStanding, StandFor, IsScanOf}
use Rattle.table_rows.specs.declared.keyed.KeyedIndex.{KeyedIndex}
use Rattle.table_rows.proofs.PlacedOrder.{Held, same_rows_permuted, AreOthers, apart_without}
use Rattle.table_rows.proofs.KeyedChanges.{AllKept, first_apart}
use Rattle.table_rows.proofs.TableChanges.{first_others, deleted_is, updated_is, others_deleted, row_found, place_held, range_is, range_held}
use Rattle.table_rows.proofs.ChangeLemmas.{rows_fit}

-- ---- the place of a key

first_contents : (s : Spread) (ks : List KeyedIndex) (key : List ℕ) → IsStanding s ks → first_place key ks ≡ place_of (contents_of (first_of (keys_of ks)) s.held) key
first_contents s [] key is = absurd (false≢true is.schema.some)
first_contents s (k ∷ ks) key is = ap (λ (c : Contents). place_of c key) is.kept.0.contents

pub row_is : (s : Spread) (ks : List KeyedIndex) (key : List ℕ) (place : Option ℕ) → IsSpread s → IsStanding s ks → place ≡ first_place key ks → row_of_key (standing_table s ks) key ≡ option_and_then (row_at s.held) place
row_is s ks key place spread is place-is =
    row_found s.fields (keys_of ks) s.held key spread.rising ∙ ap (option_and_then (row_at s.held)) (sym (place-is ∙ first_contents s ks key is))

pub row_held : (s : Spread) (ks : List KeyedIndex) (key : List ℕ) (place : Option ℕ) → IsSpread s → IsStanding s ks → place ≡ first_place key ks → IfSome place (IsRowOfKey s.held (first_of (keys_of ks)) key)
row_held s ks key None spread is place-is = tt
row_held s ks key (Some p) spread is place-is = place_held s.held (first_of (keys_of ks)) key p spread.rising (sym (place-is ∙ first_contents s ks key is))

-- there is a row of the key where the key has a place
pub is_there : (t : Table) (held : Held) (columns key : List ℕ) (place : ℕ) → row_of_key t key ≡ row_at held place → IsRowOfKey held columns key place → true ≡ is_some (row_of_key t key)
is_there t held columns key place row-is is = sym (ap is_some (row-is ∙ is.there))

-- ---- a row less

none_removed : (test : List Value → Bool) (rows : List (List Value)) → find_row test rows ≡ None → remove_key test rows ≡ rows
none_removed test [] none = refl
none_removed test (row ∷ rows) none = at (test row) (find_row test rows) none (none_removed test rows)
  where
    at : (b : Bool) (found : Option (List Value)) → cond b (Some row) found ≡ None → (found ≡ None → remove_key test rows ≡ rows) → cond b rows (row ∷ remove_key test rows) ≡ row ∷ rows
    at true found none ih = absurd cc
    at false found none ih = ap (λ rs. row ∷ rs) (ih none)

pub none_deleted : (t : Table) (key : List ℕ) → row_of_key t key ≡ None → t ≡ deleted t key
none_deleted t key none = ap (λ (rows : List (List Value)). record t { rows = rows }) (sym (none_removed (has_key (primary_key t.schema) key) t.rows none))

pub delete_is : (s t : Spread) (ks ls : List KeyedIndex) (place : ℕ) (key : List ℕ) → IsSpread s → IsStanding s ks → IsRowOfKey s.held (first_of (keys_of ks)) key place
    → t ≡ record s { held = without_row s.held place } → keys_of ls ≡ keys_of ks → standing_table t ls ≡ deleted (standing_table s ks) key
delete_is s t ks ls place key spread is of taken keys =
    ap (λ (v : Spread). standing_table v ls) taken
    ∙ ap (λ columns. table_of s.fields columns (without_row s.held place)) keys
    ∙ deleted_is s.fields (keys_of ks) s.held place of.row key spread.rising (rows_fit s spread) (first_apart s.held ks is.schema.some is.kept) of.there of.has

-- ---- a row in the place of another

-- the rows beside the one of the key
pub beside_is : (s : Spread) (ks : List KeyedIndex) (place : ℕ) (key : List ℕ) (row : List Value) → IsSpread s → IsStanding s ks → IsRowOfKey s.held (first_of (keys_of ks)) key place
    → clashes (keys_of ks) row (map (λ e. e.1) (without_row s.held place)) ≡ has_like (deleted (standing_table s ks) key) row
beside_is s ks place key row spread is of =
    let apart = first_apart s.held ks is.schema.some is.kept in
    sym (others_deleted s.fields (keys_of ks) s.held place of.row key row spread.rising (rows_fit s spread) apart of.there of.has (apart_without (first_of (keys_of ks)) s.held place apart))

pub update_is : (s t : Spread) (ks ls : List KeyedIndex) (place : ℕ) (row : List Value) → IsSpread s → IsStanding s ks → IsRowOfKey s.held (first_of (keys_of ks)) (row_key (first_of (keys_of ks)) row) place
    → t ≡ record s { held = with_row s.held place row } → keys_of ls ≡ keys_of ks → clashes (keys_of ks) row (map (λ e. e.1) (without_row s.held place)) ≡ false
    → standing_table t ls ≡ updated (standing_table s ks) row
update_is s t ks ls place row spread is of put keys free =
    ap (λ (v : Spread). standing_table v ls) put
    ∙ ap (λ columns. table_of s.fields columns (with_row s.held place row)) keys
    ∙ updated_is s.fields (keys_of ks) s.held place of.row row spread.rising (rows_fit s spread) (first_apart s.held ks is.schema.some is.kept) of.there of.has
    (first_others (keys_of ks) row (without_row s.held place) is.schema.some free)

-- ---- a range

kept_at : (held : Held) (ks : List KeyedIndex) (i : ℕ) (k : KeyedIndex) → AllKept held ks → slice_get ks i ≡ Some k → IsKept held k
kept_at held [] i k are at = absurd cc
kept_at held (l ∷ ks) zero k are at = subst (IsKept held) (some_is at) are.0
  where
    some_is : {a b : KeyedIndex} → Some a ≡ Some b → a ≡ b
    some_is h = cc
kept_at held (l ∷ ks) (suc i) k are at = kept_at held ks i k are.1 at

columns_at : (ks : List KeyedIndex) (i : ℕ) (k : KeyedIndex) → slice_get ks i ≡ Some k → unwrap_or (slice_get (keys_of ks) i) [] ≡ k.columns
columns_at [] i k at = absurd cc
columns_at (l ∷ ks) zero k at = ap (λ (o : Option KeyedIndex). columns_or o) at
  where
    columns_or : Option KeyedIndex → List ℕ
    columns_or None = []
    columns_or (Some k) = k.columns
columns_at (l ∷ ks) (suc i) k at = columns_at ks i k at

pub range_places : (s : Spread) (ks : List KeyedIndex) (i : ℕ) (k : KeyedIndex) (from to : Option (List ℕ)) → IsSpread s → IsStanding s ks → slice_get ks i ≡ Some k
    → AllByRecursion (IsHeldAt s.held) (places_between from to k.index)
range_places s ks i k from to spread is at =
    subst (λ (c : Contents). AllByRecursion (IsHeldAt s.held) (places_between from to c)) (sym (kept_at s.held ks i k is.kept at).contents) (range_held s.held k.columns from to spread.rising)

pub range_rows : (s : Spread) (ks : List KeyedIndex) (i : ℕ) (k : KeyedIndex) (from to : Option (List ℕ)) → IsSpread s → IsStanding s ks → slice_get ks i ≡ Some k
    → rows_at s.held (places_between from to k.index) ≡ rows_between (unwrap_or (slice_get (keys_of ks) i) []) from to (standing_table s ks)
range_rows s ks i k from to spread is at =
    let kept = kept_at s.held ks i k is.kept at in
    ap (λ (c : Contents). rows_at s.held (places_between from to c)) kept.contents
    ∙ range_is s.fields (keys_of ks) s.held k.columns from to spread.rising (first_apart s.held ks is.schema.some is.kept) kept.apart
    ∙ ap (λ columns. rows_between columns from to (standing_table s ks)) (sym (columns_at ks i k at))

pub index_at : (ks : List KeyedIndex) (i : ℕ) (k : KeyedIndex) → i < length (keys_of ks) → k ≡ get_or ks i k → slice_get ks i ≡ Some k
index_at ks i k within is = slice_get-get_or ks i k (subst (λ n. i < n) (length-map ks (λ (l : KeyedIndex). l.columns)) within) ∙ ap Some (sym is)

-- ---- the vector of the indexes after a change

pub items_after : {Z : Type 0} (v : Vec KeyedIndex Z) (ls : List KeyedIndex) → keys_of ls ≡ keys_of v.items → (with_items v ls).items ≡ ls
items_after v ls keys =
    let whole = v.ok.0 in
    let after = length-map ls (λ (l : KeyedIndex). l.columns) in
    let before = length-map v.items (λ (l : KeyedIndex). l.columns) in
    let same = ap (length {A = List ℕ}) keys in
    with_items_is v ls (omega arith)

-- ---- an update

module _ (s t : Spread) (ks ls : List KeyedIndex) (place : ℕ) (key : List ℕ) (row packed : List Value) (spread : IsSpread s) (is : IsStanding s ks) (of : IsRowOfKey s.held (first_of (keys_of ks)) key place) (packed_is : packed ≡ row) where
  beside : clashes (keys_of ks) packed (map (λ e. e.1) (without_row s.held place)) ≡ has_like (deleted (standing_table s ks) key) row
  beside = beside_is s ks place key packed spread is of ∙ ap (has_like (deleted (standing_table s ks) key)) packed_is

  pub update_refused : (fault : RowFault) → columns_fault s.fields row ≡ None → (fault ≡ NoMemory) ⊎ (duplicate_if (clashes (keys_of ks) packed (map (λ e. e.1) (without_row s.held place))) ≡ Some fault)
      → (fault ≡ NoMemory) ⊎ (row_fault (deleted (standing_table s ks) key) row ≡ Some fault)
  update_refused fault fits why =
      subst (λ (o : Option RowFault). (fault ≡ NoMemory) ⊎ (first_fault o (duplicate_if (has_like (deleted (standing_table s ks) key) row)) ≡ Some fault)) (sym fits)
      (subst (λ b. (fault ≡ NoMemory) ⊎ (duplicate_if b ≡ Some fault)) beside why)

  pub update_accepted : columns_fault s.fields row ≡ None → clashes (keys_of ks) packed (map (λ e. e.1) (without_row s.held place)) ≡ false → row_fault (deleted (standing_table s ks) key) row ≡ None
  update_accepted fits free =
      ap₂ (λ (o : Option RowFault) (b : Bool). first_fault o (duplicate_if b)) fits (sym beside ∙ free)

  pub update_done : key ≡ row_key (first_of (keys_of ks)) row → t ≡ record s { held = with_row s.held place packed } → keys_of ls ≡ keys_of ks
      → clashes (keys_of ks) packed (map (λ e. e.1) (without_row s.held place)) ≡ false → standing_table t ls ≡ updated (standing_table s ks) row
  update_done key_is put keys free =
      update_is s t ks ls place row spread is (subst (λ k. IsRowOfKey s.held (first_of (keys_of ks)) k place) key_is of)
      (put ∙ ap (λ r. record s { held = with_row s.held place r }) packed_is) keys (ap (λ r. clashes (keys_of ks) r (map (λ (e : ℕ × List Value). e.1) (without_row s.held place))) (sym packed_is) ∙ free)

pub never_missing : (s : Spread) (ks : List KeyedIndex) (place : ℕ) (key : List ℕ) → IsRowOfKey s.held (first_of (keys_of ks)) key place → row_of_key (standing_table s ks) key ≡ row_at s.held place
    → row_of_key (standing_table s ks) key ≡ None → ⊥
never_missing s ks place key of row none = cc (sym of.there ∙ sym row ∙ none)

-- ---- a scan

scan_is : (s : Spread) (ks : List KeyedIndex) (scan : List Tuples) → IsStanding s ks → held_from s.fields 0 (all_slots scan) ≡ s.held → IsPermutation (rows_in s.fields scan) (standing_table s ks).rows
scan_is s ks scan standing is =
    let columns = first_of (keys_of ks) in
    subst (λ (rows : List (List Value)). IsPermutation rows (standing_table s ks).rows) (sym (ap (map (λ (e : ℕ × List Value). e.1)) is))
    (same_rows_permuted columns s.held (first_apart s.held ks standing.schema.some standing.kept))

pub scan_given : {E : Type 0} (s : Spread) (ks : List KeyedIndex) (table : Table) (result : Result (List Tuples) E) → StandFor s ks table → ArePacked s.held
    → IfOk result (λ scan. held_from s.fields 0 (all_slots scan) ≡ s.held) → IfOk result (λ scan. AreTuples s.fields (all_slots scan)) → IfOk result (IsScanOf table)
scan_given s ks table (Ok scan) stand packed is tuples =
    subst (λ (t : Table). IsScanOf t scan) stand.same (record { rows = scan_is s ks scan stand.standing is; packed = subst ArePacked (sym is) packed; tuples = tuples })
scan_given s ks table (Err failed) stand packed is tuples = tt
