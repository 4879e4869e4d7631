-- A row that moves to another place.
use Rattle.std.proofs.Common.{◌≡◌, ℕ, zero, suc, ◌+◌, ◌<◌, Bool, true, false, cond, nat_lt, List, [], ◌∷◌, map, length, Option, Some, None, IsSome, MatchOption, inl, inr, refl, sym, ap, ap₂, ◌∙◌, subst, arith}
use Rattle.std.proofs.lemmas.Bool.{false≢true, cases_lt, cases_eq}
use Rattle.std.proofs.lemmas.Slice.Eq.{bytes_eq-Decides}
use Rattle.std.proofs.lemmas.List.{length-map}
use Rattle.std.proofs.lemmas.List.Sorted.{length_permutation}
use Rattle.std.proofs.lemmas.Map.Text.{is_eq-slice_cmp}
use Rattle.std.specs.Int.{div_ceil}
use Rattle.std.specs.List.{AllByRecursion}
use Rattle.std.specs.Map.{lookup, set_value}
use Rattle.std.specs.Option.{unwrap_or}
use Rattle.std.specs.BTreeSet.{insert_key}
use Rattle.std.specs.Str.{bytes_eq}
use Rattle.std.specs.Prelude.{option_map, slice_set}
use Rattle.std.specs.Ordering.{nat_cmp, match_ordering, ordering_then, is_eq}
use Rattle.std.specs.Cmp.Lexicographic.{slice_cmp}
use Rattle.std.specs.declared.cmp.Ordering.{Ordering}
use Rattle.std.specs.declared.cmp.Ordering.TheVariants.{Less, Equal, Greater}
use Rattle.volt_value.specs.declared.value.Value.{Value}
use Rattle.volt_index.specs.Entries.{entry_cmp}
use Rattle.volt_index.specs.Index.{Contents, with_place_at}
use Rattle.row_codec.specs.declared.field.Field.{Field}
use Rattle.row_codec.specs.Packing.{row_of, IsRow}
use Rattle.tuple_block.specs.Tuples.{Slots, slot_at}
use Rattle.pane_index.specs.Rows.{Rows, used_places}
use Rattle.pane_index.specs.Rows as pane
use Rattle.pane_index.specs.Search as search
use Rattle.table_rows.specs.Held.{row_at, with_row, without_row, AreRising, with_moved, CanMove, StandFrom, ArePacked, place_sum}
use Rattle.table_rows.specs.Spread.{Spread, IsSpread, held_from, spread_of, IsStored}
use Rattle.table_rows.specs.Order.{row_cmp, row_key}
use Rattle.table_rows.specs.Table.{Table, first_of, inserted, IsSchema}
use Rattle.table_rows.specs.Keyed.{going, relocated, contents_of, AreApart}
use Rattle.table_rows.specs.Standing.{keys_of, table_of, standing_table, IsStanding, StandFor}
use Rattle.table_rows.specs.declared.keyed.KeyedIndex.{KeyedIndex}
use Rattle.table_rows.proofs.HeldLemmas.{AreElsewhere, elsewhere_none, without_elsewhere, with_first, with_later, without_same, without_other, at_same, at_other, with_back, All-without_row, All-row_at}
use Rattle.table_rows.proofs.SlotLemmas.{behind, set_apart, length-set, within}
use Rattle.table_rows.proofs.SpreadLemmas.{at-other, slot-held, within-held, stored-set, stored-clear, put-held, take-held, limit-held}
use Rattle.table_rows.proofs.EntryLemmas.{apart_of_test}
use Rattle.table_rows.proofs.PlacedOrder.{Held, AreOthers, same_rows_permuted, apart_with, apart_without, others_without}
use Rattle.table_rows.proofs.IndexChanges.{AreRows, contents_with, contents_back, free_of}
use Rattle.table_rows.proofs.KeyedChanges.{AllKept, first_apart}
use Rattle.table_rows.proofs.TableChanges.{inserted_is}
use Rattle.table_rows.proofs.ChangeLemmas.{rows_fit}

-- ---- the index of a key

cond_none : {A : Type 0} (b : Bool) (x : A) (o : Option A) → cond b (Some x) o ≡ None → (b ≡ false) × (o ≡ None)
cond_none true x o h = absurd cc
cond_none false x o h = (refl, h)

-- where a key isn't there, the place put in at it may be changed afterwards
set_step : (o : Ordering) (key : List ℕ) (from to : ℕ) (e : List ℕ × ℕ) (es more rest : List (List ℕ × ℕ)) → (o ≡ Equal → ⊥) → bytes_eq key e.0 ≡ false → set_value (bytes_eq key) more to ≡ rest
    → set_value (bytes_eq key) (match_ordering (ordering_then o (nat_cmp from e.1)) ((key, from) ∷ e ∷ es) (e ∷ es) (e ∷ more)) to
    ≡ match_ordering (ordering_then o (nat_cmp to e.1)) ((key, to) ∷ e ∷ es) (e ∷ es) (e ∷ rest)
set_step Less key from to e es more rest apart miss ih =
    ap (λ b. cond b ((key, to) ∷ e ∷ es) ((key, from) ∷ set_value (bytes_eq key) (e ∷ es) to)) ((bytes_eq-Decides key key).1 refl)
set_step Equal key from to e es more rest apart miss ih = absurd (apart refl)
set_step Greater key from to e es more rest apart miss ih =
    ap (λ b. cond b ((e.0, to) ∷ more) (e ∷ set_value (bytes_eq key) more to)) miss ∙ ap (λ r. e ∷ r) ih

set_inserted : (es : List (List ℕ × ℕ)) (key : List ℕ) (from to : ℕ) → lookup (bytes_eq key) es ≡ None → set_value (bytes_eq key) (insert_key entry_cmp es (key, from)) to ≡ insert_key entry_cmp es (key, to)
set_inserted [] key from to none = ap (λ b. cond b ((key, to) ∷ []) ((key, from) ∷ [])) ((bytes_eq-Decides key key).1 refl)
set_inserted (e ∷ es) key from to none =
    let parts = cond_none (bytes_eq key e.0) e.1 (lookup (bytes_eq key) es) none in
    set_step (slice_cmp nat_cmp key e.0) key from to e es (insert_key entry_cmp es (key, from)) (insert_key entry_cmp es (key, to))
    (apart_of_test (slice_cmp nat_cmp key e.0) (is_eq-slice_cmp key e.0 ∙ parts.0)) parts.0 (set_inserted es key from to parts.1)

-- ---- rows

module _ (held : Held) (from to : ℕ) (row : List Value) (rising : AreRising held) (there : row_at held from ≡ Some row) (free : row_at held to ≡ None) where
  abbrev pub rest : Held
  rest = without_row held from

  pub elsewhere : AreElsewhere to rest
  elsewhere = All-without_row (λ e. to ≡ e.0 → ⊥) held from (elsewhere_none to held free)

  pub moved_is : with_moved held from to ≡ with_row rest to row
  moved_is = ap (λ o. with_row rest to (unwrap_or o [])) there

  contents_moved_to : (fields : List Field) (columns : List ℕ) → AreRows fields held → AreApart columns held
      → with_place_at (contents_of columns held) (row_key columns row) to ≡ contents_of columns (with_row rest to row)
  contents_moved_to fields columns rows apart =
      let rest_rows : AreRows fields rest = All-without_row (λ e. IsRow fields e.1) held from rows in
      let fits : IsRow fields row = All-row_at (λ e. IsRow fields e.1) held from row rows there in
      let others : AreOthers columns row rest = others_without columns held from row apart there in
      ap (λ (c : Contents). with_place_at c (row_key columns row) to) (contents_back fields columns held from row rising rows apart there)
      ∙ ap (λ (es : List (List ℕ × ℕ)). record { unique = true; entries = es })
      (set_inserted (contents_of columns rest).entries (row_key columns row) from to (free_of fields columns rest row rest_rows fits (apart_without columns held from apart) others))
      ∙ contents_with fields columns rest to row rest_rows fits elsewhere others

  relocated_kept : (fields : List Field) (ks : List KeyedIndex) → AllKept held ks → AreRows fields held → AllKept (with_row rest to row) (map (relocated to) (map (going row) ks))
  relocated_kept fields [] are rows = tt
  relocated_kept fields (k ∷ ks) are rows = (
    record {
      contents = ap (λ (c : Contents). with_place_at c (row_key k.columns row) to) are.0.contents ∙ contents_moved_to fields k.columns rows are.0.apart;
      apart = apart_with k.columns rest to row elsewhere (others_without k.columns held from row are.0.apart there) (apart_without k.columns held from are.0.apart);
    },
    relocated_kept fields ks are.1 rows,
  )

  -- the table doesn't see the places
  same_rows : (fields : List Field) (keys : List (List ℕ)) → AreApart (first_of keys) held → table_of fields keys (with_row rest to row) ≡ table_of fields keys held
  same_rows fields keys apart =
      let others : AreOthers (first_of keys) row rest = others_without (first_of keys) held from row apart there in
      inserted_is fields keys rest to row elsewhere others
      ∙ sym (inserted_is fields keys rest from row (without_elsewhere held from rising) others)
      ∙ ap (table_of fields keys) (with_back held from row rising there)

relocated_keys : (place : ℕ) (row : List Value) (ks : List KeyedIndex) → keys_of (map (relocated place) (map (going row) ks)) ≡ keys_of ks
relocated_keys place row [] = refl
relocated_keys place row (k ∷ ks) = ap (λ keys. k.columns ∷ keys) (relocated_keys place row ks)

some_there : (o : Option (List Value)) (row : List Value) → IsSome o → (old : List Value) × (o ≡ Some old)
some_there None row there = absurd (false≢true there)
some_there (Some old) row there = (old, refl)

pub moved_stands : (s t : Spread) (ks ls ms : List KeyedIndex) (from to : ℕ) (row : List Value) → IsSpread s → IsStanding s ks → CanMove s.held from to → row_at s.held from ≡ Some row
    → ls ≡ map (going row) ks → t ≡ record s { held = with_moved s.held from to } → ms ≡ map (relocated to) ls → StandFor t ms (standing_table s ks)
moved_stands s t ks ls ms from to row spread is can there told moved set =
    let indexes : ms ≡ map (relocated to) (map (going row) ks) = set ∙ ap (map (relocated to)) told in
    let keys : keys_of ms ≡ keys_of ks = ap keys_of indexes ∙ relocated_keys to row ks in
    let after = with_row (without_row s.held from) to row in
    let held_is : t.held ≡ after = ap (λ (v : Spread). v.held) moved ∙ moved_is s.held from to row spread.rising there can.free in
    let fields_are : t.fields ≡ s.fields = ap (λ (v : Spread). v.fields) moved in
    record {
      standing = record {
        schema = subst IsSchema (ap₂ (λ (fs : List Field) (keys : List (List ℕ)). record { fields = fs; keys = keys }) (sym fields_are) (sym keys)) is.schema;
        kept = subst (λ (hs : Held). AllKept hs ms) (sym held_is)
            (subst (AllKept after) (sym indexes) (relocated_kept s.held from to row spread.rising there can.free s.fields ks is.kept (rows_fit s spread)));
      };
      same = ap₂ (λ (fs : List Field) (hs : Held). table_of fs (keys_of ms) hs) fields_are held_is ∙ ap (λ keys. table_of s.fields keys after) keys
          ∙ same_rows s.held from to row spread.rising there can.free s.fields (keys_of ks) (first_apart s.held ks is.schema.some is.kept);
    }

-- ---- the places added up

sum_with : (held : Held) (place : ℕ) (row : List Value) → AreElsewhere place held → place_sum (with_row held place row) ≡ place_sum held + place
sum_with [] place row elsewhere = omega arith
sum_with (e ∷ held) place row elsewhere = elim (cases_lt place e.0) [
  | inl lt ↦ ap place_sum (with_first place row e held lt) ∙ omega arith
  | inr le ↦ elim (cases_eq place e.0) [
    | inl same ↦ absurd (elsewhere.0 same)
    | inr other ↦
        let gt : e.0 < place = omega arith in
        ap place_sum (with_later place row e held gt) ∙ omega (arith, sum_with held place row elsewhere.1)
  ]
]

sum_without : (held : Held) (place : ℕ) (old : List Value) → row_at held place ≡ Some old → place_sum (without_row held place) + place ≡ place_sum held
sum_without [] place old there = absurd cc
sum_without (e ∷ held) place old there = elim (cases_eq place e.0) [
  | inl same ↦ ap (λ hs. place_sum hs + place) (without_same place e held same) ∙ omega (arith, same)
  | inr other ↦
      ap (λ hs. place_sum hs + place) (without_other place e held other)
      ∙ omega (arith, sum_without held place old (sym (at_other place e held other) ∙ there))
]

pub moved_shrinks : (s t : Spread) (from to : ℕ) (row : List Value) → IsSpread s → CanMove s.held from to → row_at s.held from ≡ Some row → t ≡ record s { held = with_moved s.held from to } → place_sum t.held < place_sum s.held
moved_shrinks s t from to row spread can there moved =
    let less = can.before in
    let rest = without_row s.held from in
    let same : place_sum t.held ≡ place_sum (with_row rest to row) = ap (λ (v : Spread). place_sum v.held) moved ∙ ap place_sum (moved_is s.held from to row spread.rising there can.free) in
    omega (arith, same, sum_with rest to row (elsewhere s.held from to row spread.rising there can.free), sum_without s.held from row there)

-- ---- the slots of a pane

none_held : (fields : List Field) (n : ℕ) (slots : Slots) → ((q : ℕ) → slot_at slots q ≡ None) → held_from fields n slots ≡ []
none_held fields n [] none = refl
none_held fields n (None ∷ slots) none = none_held fields (suc n) slots (λ q. none (suc q))
none_held fields n (Some tuple ∷ slots) none = absurd (some_none (none 0))
  where
    some_none : Some tuple ≡ None → ⊥
    some_none h = cc

packed_from : (fields : List Field) (n : ℕ) (slots : Slots) → ((p q : ℕ) → p < q → slot_at slots p ≡ None → slot_at slots q ≡ None) → StandFrom n (held_from fields n slots)
packed_from fields n [] packed = tt
packed_from fields n (None ∷ slots) packed = subst (StandFrom n) (sym (none_held fields (suc n) slots (λ q. packed 0 (suc q) (omega arith) refl))) tt
packed_from fields n (Some tuple ∷ slots) packed = (refl, packed_from fields (suc n) slots (λ p q less free. packed (suc p) (suc q) (omega (arith, less)) free))

map_some : (fields : List Field) (slot : Option (List ℕ)) → IsSome slot → IsSome (option_map (row_of fields) slot)
map_some fields None some = absurd (false≢true some)
map_some fields (Some tuple) some = refl

pub next-is : (fields : List Field) (rows : Rows) (spare : Option ℕ) (m : Option (ℕ × ℕ)) → (spread_of fields rows spare).ready ≡ None → MatchOption m (search.IsDense rows) (λ m. search.CanMove rows m.0 m.1)
    → MatchOption m (ArePacked (spread_of fields rows spare).held) (λ m. CanMove (spread_of fields rows spare).held m.0 m.1)
next-is fields rows None None none dense = packed_from fields 0 rows.slots dense.packed
next-is fields rows None (Some m) none can = record {
  before = can.before;
  there = subst IsSome (sym (at-other fields rows None m.0 tt)) (map_some fields (slot_at rows.slots m.0) can.last.held);
  free = at-other fields rows None m.1 tt ∙ ap (option_map (row_of fields)) can.first.free;
}
next-is fields rows (Some p) m none found = absurd cc

-- a row that moves to a free place before it
shift_held : (fields : List Field) (rows : Rows) (from to : ℕ) (tuple : List ℕ) → slot_at rows.slots from ≡ Some tuple → to < from
    → spread_of fields (pane.with_moved rows from to) None ≡ record (spread_of fields rows None) { held = with_moved (spread_of fields rows None).held from to }
shift_held fields rows from to tuple is less =
    let cleared = pane.with_row rows from None in
    let inside : from < length rows.slots = within rows.slots from tuple is in
    let still : to < length cleared.slots = omega (arith, inside, less, length-set rows.slots from None) in
    let swapped : pane.with_moved rows from to ≡ pane.with_row cleared to (Some tuple)
    = ap (λ o. pane.with_row (pane.with_row rows to o) from None) is
    ∙ ap (λ (slots : Slots). record rows { slots = slots }) (set_apart rows.slots to from (Some tuple) None (λ same. omega (arith, same, less))) in
    ap (λ (r : Rows). spread_of fields r None) swapped
    ∙ put-held fields cleared None to tuple still tt
    ∙ ap (λ (s : Spread). record s { held = with_row s.held to (row_of fields tuple) }) (take-held fields rows None from tt)
    ∙ ap (λ o. record (spread_of fields rows None) { held = with_row (without_row (spread_of fields rows None).held from) to (unwrap_or o []) })
    (sym (at-other fields rows None from tt ∙ ap (option_map (row_of fields)) is))

shift_stored : (fields : List Field) (rows : Rows) (from to : ℕ) (tuple : List ℕ) → IsStored fields rows None → slot_at rows.slots from ≡ Some tuple → to < from → IsStored fields (pane.with_moved rows from to) None
shift_stored fields rows from to tuple stored is less =
    let slot = stored.slots from tuple is in
    let limit : from < 268435456 = slot.limit in
    let low : to < 268435456 = omega arith in
    let inside : from < length rows.slots = within rows.slots from tuple is in
    let to_inside : to < length rows.slots = omega arith in
    subst (λ o. IsStored fields (pane.with_row (pane.with_row rows to o) from None) None) (sym is)
    (stored-clear fields (pane.with_row rows to (Some tuple)) None from (stored-set fields rows None to tuple stored to_inside (record { fits = slot.fits; limit = low })) tt)

tuple_there : (fields : List Field) (rows : Rows) (from : ℕ) → IsSome (row_at (spread_of fields rows None).held from) → (tuple : List ℕ) × (slot_at rows.slots from ≡ Some tuple)
tuple_there fields rows from there = of (slot_at rows.slots from) (slot-held fields rows None from there)
  where
    of : (slot : Option (List ℕ)) → IsSome slot → (tuple : List ℕ) × (slot ≡ Some tuple)
    of None some = absurd (false≢true some)
    of (Some tuple) some = (tuple, refl)

pub shifted-stored : (fields : List Field) (rows new : Rows) (spare : Option ℕ) (from to p q : ℕ) → IsStored fields rows spare → (spread_of fields rows spare).ready ≡ None → CanMove (spread_of fields rows spare).held from to
    → p ≡ from → q ≡ to → new ≡ pane.with_moved rows p q → IsStored fields new spare
shifted-stored fields rows new None from to p q stored none can from_is to_is is =
    let tuple = tuple_there fields rows from can.there in
    subst (λ (r : Rows). IsStored fields r None) (sym (is ∙ ap₂ (pane.with_moved rows) from_is to_is)) (shift_stored fields rows from to tuple.0 stored tuple.1 can.before)
shifted-stored fields rows new (Some place) from to p q stored none can from_is to_is is = absurd cc

pub shifted-is : (fields : List Field) (rows new : Rows) (spare : Option ℕ) (from to p q : ℕ) → (spread_of fields rows spare).ready ≡ None → CanMove (spread_of fields rows spare).held from to
    → p ≡ from → q ≡ to → new ≡ pane.with_moved rows p q → spread_of fields new spare ≡ record (spread_of fields rows spare) { held = with_moved (spread_of fields rows spare).held from to }
shifted-is fields rows new None from to p q none can from_is to_is is =
    let tuple = tuple_there fields rows from can.there in
    ap (λ (r : Rows). spread_of fields r None) (is ∙ ap₂ (pane.with_moved rows) from_is to_is) ∙ shift_held fields rows from to tuple.0 tuple.1 can.before
shifted-is fields rows new (Some place) from to p q none can from_is to_is is = absurd cc

pub from-there : (fields : List Field) (rows : Rows) (spare : Option ℕ) (from to p : ℕ) → CanMove (spread_of fields rows spare).held from to → p ≡ from → IsSome (slot_at rows.slots p)
from-there fields rows spare from to p can same = subst (λ q. IsSome (slot_at rows.slots q)) (sym same) (slot-held fields rows spare from can.there)

pub to-free : (fields : List Field) (rows : Rows) (spare : Option ℕ) (from to q : ℕ) → (spread_of fields rows spare).ready ≡ None → CanMove (spread_of fields rows spare).held from to → q ≡ to → slot_at rows.slots q ≡ None
to-free fields rows None from to q none can same = ap (slot_at rows.slots) same ∙ of (slot_at rows.slots to) (sym (at-other fields rows None to tt) ∙ can.free)
  where
    of : (slot : Option (List ℕ)) → option_map (row_of fields) slot ≡ None → slot ≡ None
    of None h = refl
    of (Some tuple) h = absurd cc
to-free fields rows (Some place) from to q none can same = absurd cc

pub from-limit : (fields : List Field) (rows : Rows) (spare : Option ℕ) (from to : ℕ) → IsStored fields rows spare → CanMove (spread_of fields rows spare).held from to → from < 268435456
from-limit fields rows spare from to stored can = limit-held fields rows spare from stored (slot-held fields rows spare from can.there)

-- ---- how many blocks

no_gap : (held : Held) (n : ℕ) → StandFrom n held → AllByRecursion (λ e. n < e.0) held → held ≡ []
no_gap [] n stand above = refl
no_gap (e ∷ held) n stand above = absurd (omega (arith, stand.0, above.0))

used_packed : (fields : List Field) (n : ℕ) (slots : Slots) → StandFrom n (held_from fields n slots) → used_places slots ≡ length (held_from fields n slots)
used_packed fields n [] stand = refl
used_packed fields n (None ∷ slots) stand =
    let none : held_from fields (suc n) slots ≡ [] = no_gap (held_from fields (suc n) slots) n stand (behind fields n (suc n) slots (omega arith)) in
    let unused : used_places slots ≡ 0 = used_packed fields (suc n) slots (subst (StandFrom (suc n)) (sym none) tt) ∙ ap (λ hs. length hs) none in
    ap (λ used. cond (nat_lt 0 used) (suc used) 0) unused ∙ sym (ap (λ hs. length hs) none)
used_packed fields n (Some tuple ∷ slots) stand = ap suc (used_packed fields (suc n) slots stand.1)

pub blocks-are : (fields : List Field) (rows : Rows) (spare : Option ℕ) (n : ℕ) → (spread_of fields rows spare).ready ≡ None → ArePacked (spread_of fields rows spare).held
    → n ≡ div_ceil (used_places rows.slots) 64 → n ≡ div_ceil (length (spread_of fields rows spare).held) 64
blocks-are fields rows None n none packed is = is ∙ ap (λ used. div_ceil used 64) (used_packed fields 0 rows.slots packed)
blocks-are fields rows (Some p) n none packed is = absurd cc

-- ---- how many rows

pub rows_counted : (s : Spread) (ks : List KeyedIndex) → IsStanding s ks → length (standing_table s ks).rows ≡ length s.held
rows_counted s ks is =
    length_permutation (map (λ (e : ℕ × List Value). e.1) s.held) (standing_table s ks).rows (same_rows_permuted (first_of (keys_of ks)) s.held (first_apart s.held ks is.schema.some is.kept))
    ∙ length-map s.held (λ (e : ℕ × List Value). e.1)
