-- What undoes a change of one row.
use Rattle.std.proofs.Common.{◌≡◌, ℕ, ◌<◌, Bool, true, false, List, [], ◌∷◌, map, Option, Some, None, is_some, IfSome, cond, ◌||◌, nat_lt, length, inl, inr, refl, sym, ap, ap₂, ◌∙◌, subst, arith}
use Rattle.std.proofs.lemmas.Bool.{false≢true, cases_lt, cases_eq}
use Rattle.std.proofs.lemmas.Slice.Eq.{bytes_eq-Decides}
use Rattle.std.specs.List.{list_any, AllByRecursion}
use Rattle.std.specs.Set.{remove_key}
use Rattle.std.specs.declared.cmp.Ordering.TheVariants.{Equal}
use Rattle.volt_value.specs.declared.value.Value.{Value}
use Rattle.row_codec.specs.declared.field.Field.{Field}
use Rattle.row_codec.specs.declared.fault.RowFault.{RowFault}
use Rattle.row_codec.specs.Packing.{IsRow}
use Rattle.table_rows.specs.Held.{row_at, with_row, without_row, AreRising}
use Rattle.table_rows.specs.Spread.{Spread, IsSpread}
use Rattle.table_rows.specs.Order.{row_cmp, row_key, in_order_by}
use Rattle.table_rows.specs.Table.{Table, Schema, agrees_with_one, first_of, has_key, has_like, clashes, inserted, deleted, updated, find_row, row_of_key, first_fault, duplicate_if, CanInsert, CanUpdate}
use Rattle.table_rows.specs.Keyed.{placed_cmp, AreApart, IsKept}
use Rattle.table_rows.specs.Standing.{keys_of, table_of, standing_table, IsRowOfKey, IsStanding}
use Rattle.table_rows.specs.declared.keyed.KeyedIndex.{KeyedIndex}
use Rattle.table_rows.proofs.Inserts.{remove_inserted}
use Rattle.table_rows.proofs.HeldLemmas.{AreElsewhere, alike, at_same, at_other, without_elsewhere, without_same, without_other, with_first, with_later, with_over, with_back, row_at-with_row, AreRising-with_row, All-with_row, All-without_row, All-row_at}
use Rattle.table_rows.proofs.PlacedOrder.{Held, AreOthers, All-both, All-in_order, any-rows, apart_with, apart_without, others_without, none_agrees}
use Rattle.table_rows.proofs.IndexChanges.{AreRows}
use Rattle.table_rows.proofs.KeyedChanges.{AllKept, first_apart}
use Rattle.table_rows.proofs.TableChanges.{All-map, other_key, rows_clash, first_others, inserted_is, deleted_is, updated_is}
use Rattle.table_rows.proofs.ChangeLemmas.{rows_fit}

-- a row has its own key
own_key : (columns : List ℕ) (row : List Value) → has_key columns (row_key columns row) row ≡ true
own_key columns row = (bytes_eq-Decides (row_key columns row) (row_key columns row)).1 refl

-- ---- a row more

pub insert_back : (s : Spread) (ks : List KeyedIndex) (row : List Value) → IsSpread s → IsStanding s ks → IsRow s.fields row → has_like (standing_table s ks) row ≡ false
    → deleted (inserted (standing_table s ks) row) (row_key (first_of (keys_of ks)) row) ≡ standing_table s ks
insert_back s ks row spread is fits free =
    let columns = first_of (keys_of ks) in
    let key = row_key columns row in
    let ordered = in_order_by (placed_cmp columns) s.held in
    let others : AreOthers columns row s.held = first_others (keys_of ks) row s.held is.schema.some (sym (rows_clash columns s.held (keys_of ks) row (first_apart s.held ks is.schema.some is.kept)) ∙ free) in
    let differ : AllByRecursion (λ (r : List Value). (has_key columns key r ≡ false) × (row_cmp columns row r ≡ Equal → ⊥)) (map (λ (e : ℕ × List Value). e.1) ordered)
    = All-map (λ (r : List Value). (has_key columns key r ≡ false) × (row_cmp columns row r ≡ Equal → ⊥)) (λ (e : ℕ × List Value). e.1) ordered
    (All-both (λ e. IsRow s.fields e.1) (λ e. row_cmp columns row e.1 ≡ Equal → ⊥) (λ e. (has_key columns key e.1 ≡ false) × (row_cmp columns row e.1 ≡ Equal → ⊥))
    (λ e is-e other. (other_key s.fields columns key row e.1 fits is-e (own_key columns row) other, other)) ordered
    (All-in_order columns (λ e. IsRow s.fields e.1) s.held (rows_fit s spread)) (All-in_order columns (λ e. row_cmp columns row e.1 ≡ Equal → ⊥) s.held others)) in
    ap (λ (rows : List (List Value)). record { schema = record { fields = s.fields; keys = keys_of ks }; rows = rows })
    (remove_inserted (row_cmp columns) (has_key columns key) row (map (λ (e : ℕ × List Value). e.1) ordered) (own_key columns row) differ)

-- ---- a row less

-- the row that was there agrees with none of the others
none_like : (held : Held) (place : ℕ) (old : List Value) (ks : List KeyedIndex) → AllKept held ks → row_at held place ≡ Some old → clashes (keys_of ks) old (map (λ e. e.1) (without_row held place)) ≡ false
none_like held place old [] are there = refl
none_like held place old (k ∷ ks) are there =
    ap₂ (λ (a b : Bool). a || b) (none_agrees k.columns old (without_row held place) (others_without k.columns held place old are.0.apart there)) (none_like held place old ks are.1 there)

pub delete_free : (s : Spread) (ks : List KeyedIndex) (place : ℕ) (old : List Value) → IsStanding s ks → row_at s.held place ≡ Some old → has_like (table_of s.fields (keys_of ks) (without_row s.held place)) old ≡ false
delete_free s ks place old is there =
    rows_clash (first_of (keys_of ks)) (without_row s.held place) (keys_of ks) old (apart_without (first_of (keys_of ks)) s.held place (first_apart s.held ks is.schema.some is.kept))
    ∙ none_like s.held place old ks is.kept there

pub delete_back : (s : Spread) (ks : List KeyedIndex) (place : ℕ) (old : List Value) → IsSpread s → IsStanding s ks → row_at s.held place ≡ Some old
    → inserted (table_of s.fields (keys_of ks) (without_row s.held place)) old ≡ standing_table s ks
delete_back s ks place old spread is there =
    sym (inserted_is s.fields (keys_of ks) (without_row s.held place) place old (without_elsewhere s.held place spread.rising)
    (others_without (first_of (keys_of ks)) s.held place old (first_apart s.held ks is.schema.some is.kept) there))
    ∙ ap (table_of s.fields (keys_of ks)) (with_back s.held place old spread.rising there)

-- ---- a row in the place of another

-- what was put at a free place can be taken out again
out_again : (held : Held) (place : ℕ) (row : List Value) → AreElsewhere place held → without_row (with_row held place row) place ≡ held
out_again [] place row elsewhere = without_same place (place, row) [] refl
out_again (e ∷ held) place row elsewhere = elim (cases_lt place e.0) [
  | inl lt ↦ ap (λ hs. without_row hs place) (with_first place row e held lt) ∙ without_same place (place, row) (e ∷ held) refl
  | inr le ↦ elim (cases_eq place e.0) [
    | inl same ↦ absurd (elsewhere.0 same)
    | inr other ↦
        let gt : e.0 < place = omega arith in
        ap (λ hs. without_row hs place) (with_later place row e held gt)
        ∙ without_other place e (with_row held place row) other
        ∙ ap (λ hs. e ∷ hs) (out_again held place row elsewhere.1)
  ]
]

without_over : (held : Held) (place : ℕ) (old row : List Value) → AreRising held → row_at held place ≡ Some old → without_row (with_row held place row) place ≡ without_row held place
without_over held place old row rising there =
    ap (λ hs. without_row hs place) (sym (with_over held place row old rising there)) ∙ out_again (without_row held place) place row (without_elsewhere held place rising)

at_with : (held : Held) (place : ℕ) (row : List Value) → row_at (with_row held place row) place ≡ Some row
at_with held place row = row_at-with_row held place row place ∙ ap (λ b. cond b (Some row) (row_at held place)) (alike place place refl)

module _ (s : Spread) (ks : List KeyedIndex) (place : ℕ) (row : List Value) (spread : IsSpread s) (is : IsStanding s ks) (of : IsRowOfKey s.held (first_of (keys_of ks)) (row_key (first_of (keys_of ks)) row) place)
    (fits : IsRow s.fields row) (free : clashes (keys_of ks) row (map (λ e. e.1) (without_row s.held place)) ≡ false) where
  abbrev pub columns : List ℕ
  columns = first_of (keys_of ks)

  abbrev pub rest : Held
  rest = without_row s.held place

  abbrev pub after : Held
  after = with_row s.held place row

  old_apart : AreApart columns s.held
  old_apart = first_apart s.held ks is.schema.some is.kept

  after_rising : AreRising after
  after_rising = AreRising-with_row s.held place row spread.rising

  after_fit : AreRows s.fields after
  after_fit = All-with_row (λ e. IsRow s.fields e.1) s.held place row fits (rows_fit s spread)

  after_apart : AreApart columns after
  after_apart =
      subst (AreApart columns) (with_over s.held place row of.row spread.rising of.there)
      (apart_with columns rest place row (without_elsewhere s.held place spread.rising) (first_others (keys_of ks) row rest is.schema.some free) (apart_without columns s.held place old_apart))

  same_rest : without_row after place ≡ rest
  same_rest = without_over s.held place of.row row spread.rising of.there

  -- the key of the new row is that of the old
  key_back : has_key columns (row_key columns of.row) row ≡ true
  key_back = (bytes_eq-Decides (row_key columns of.row) (row_key columns row)).1 (sym ((bytes_eq-Decides (row_key columns row) (row_key columns of.row)).0 of.has))

  pub update_back : updated (table_of s.fields (keys_of ks) after) of.row ≡ standing_table s ks
  update_back =
      sym (updated_is s.fields (keys_of ks) after place row of.row after_rising after_fit after_apart (at_with s.held place row) key_back
      (subst (AreOthers columns of.row) (sym same_rest) (others_without columns s.held place of.row old_apart of.there)))
      ∙ ap (table_of s.fields (keys_of ks))
      (sym (with_over after place of.row row after_rising (at_with s.held place row)) ∙ ap (λ hs. with_row hs place of.row) same_rest ∙ with_back s.held place of.row spread.rising of.there)

  pub update_free : has_like (deleted (table_of s.fields (keys_of ks) after) (row_key columns of.row)) of.row ≡ false
  update_free =
      ap (λ (t : Table). has_like t of.row)
      (sym (deleted_is s.fields (keys_of ks) after place row (row_key columns of.row) after_rising after_fit after_apart (at_with s.held place row) key_back)
      ∙ ap (table_of s.fields (keys_of ks)) same_rest)
      ∙ delete_free s ks place of.row is of.there

-- ---- as the calls have them

pub delete_undone : (s t : Spread) (ks ls : List KeyedIndex) (place : ℕ) (key : List ℕ) → IsSpread s → IsStanding s ks → IsRowOfKey s.held (first_of (keys_of ks)) key place
    → row_of_key (standing_table s ks) key ≡ row_at s.held place → t ≡ record s { held = without_row s.held place } → keys_of ls ≡ keys_of ks
    → IfSome (row_of_key (standing_table s ks) key) (λ row. (inserted (standing_table t ls) row ≡ standing_table s ks) × CanInsert (standing_table t ls) row)
delete_undone s t ks ls place key spread is of row_is taken keys =
    let whole : standing_table t ls ≡ table_of s.fields (keys_of ks) (without_row s.held place)
    = ap (λ (v : Spread). standing_table v ls) taken ∙ ap (λ columns. table_of s.fields columns (without_row s.held place)) keys in
    let fits : IsRow s.fields of.row = All-row_at (λ e. IsRow s.fields e.1) s.held place of.row (rows_fit s spread) of.there in
    subst (λ (o : Option (List Value)). IfSome o (λ row. (inserted (standing_table t ls) row ≡ standing_table s ks) × CanInsert (standing_table t ls) row)) (sym (row_is ∙ of.there))
    (subst (λ (after : Table). (inserted after of.row ≡ standing_table s ks) × CanInsert after of.row) (sym whole) (
      delete_back s ks place of.row spread is of.there,
      record {
        count = fits.count;
        fault = ap₂ (λ (o : Option RowFault) (b : Bool). first_fault o (duplicate_if b)) fits.fits (delete_free s ks place of.row is of.there);
      },
    ))

-- a row that is there is found by its key
found_any : (test : List Value → Bool) (rows : List (List Value)) → is_some (find_row test rows) ≡ list_any test rows
found_any test [] = refl
found_any test (row ∷ rows) = at (test row) (find_row test rows) (found_any test rows)
  where
    at : (b : Bool) (found : Option (List Value)) → is_some found ≡ list_any test rows → is_some (cond b (Some row) found) ≡ (b || list_any test rows)
    at true found ih = refl
    at false found ih = ih

any_there : (test : List Value → Bool) (held : Held) (place : ℕ) (row : List Value) → row_at held place ≡ Some row → test row ≡ true → list_any test (map (λ e. e.1) held) ≡ true
any_there test [] place row there hit = absurd cc
any_there test (e ∷ held) place row there hit = elim (cases_eq place e.0) [
  | inl same ↦ ap (λ b. b || list_any test (map (λ e. e.1) held)) (ap test (some_is (sym (at_same place e held same) ∙ there)) ∙ hit)
  | inr other ↦ ap (λ b. test e.1 || b) (any_there test held place row (sym (at_other place e held other) ∙ there) hit) ∙ or_true (test e.1)
]
  where
    some_is : {a b : List Value} → Some a ≡ Some b → a ≡ b
    some_is h = cc

    or_true : (b : Bool) → (b || true) ≡ true
    or_true true = refl
    or_true false = refl

pub update_undone : (s t : Spread) (ks ls : List KeyedIndex) (place : ℕ) (key : List ℕ) (row : List Value) → IsSpread s → IsStanding s ks → IsRowOfKey s.held (first_of (keys_of ks)) key place
    → row_of_key (standing_table s ks) key ≡ row_at s.held place → key ≡ row_key (first_of (keys_of ks)) row → IsRow s.fields row
    → t ≡ record s { held = with_row s.held place row } → keys_of ls ≡ keys_of ks → clashes (keys_of ks) row (map (λ e. e.1) (without_row s.held place)) ≡ false
    → IfSome (row_of_key (standing_table s ks) key) (λ old. (updated (standing_table t ls) old ≡ standing_table s ks) × CanUpdate (standing_table t ls) old)
update_undone s t ks ls place key row spread is of_key row_is key_is fits put keys free =
    let columns = first_of (keys_of ks) in
    let of : IsRowOfKey s.held columns (row_key columns row) place = subst (λ k. IsRowOfKey s.held columns k place) key_is of_key in
    let after = with_row s.held place row in
    let whole : standing_table t ls ≡ table_of s.fields (keys_of ks) after
    = ap (λ (v : Spread). standing_table v ls) put ∙ ap (λ keys. table_of s.fields keys after) keys in
    let old-fits : IsRow s.fields of.row = All-row_at (λ e. IsRow s.fields e.1) s.held place of.row (rows_fit s spread) of.there in
    subst (λ (o : Option (List Value)). IfSome o (λ old. (updated (standing_table t ls) old ≡ standing_table s ks) × CanUpdate (standing_table t ls) old)) (sym (row_is ∙ of.there))
    (subst (λ (later : Table). (updated later of.row ≡ standing_table s ks) × CanUpdate later of.row) (sym whole) (
      update_back s ks place row spread is of fits free,
      record {
        held = found_any (has_key columns (row_key columns of.row)) (table_of s.fields (keys_of ks) after).rows
            ∙ any-rows columns (has_key columns (row_key columns of.row)) after (after_apart s ks place row spread is of fits free)
            ∙ any_there (has_key columns (row_key columns of.row)) after place row (at_with s.held place row) (key_back s ks place row spread is of fits free);
        rest = record {
          count = old-fits.count;
          fault = ap₂ (λ (o : Option RowFault) (b : Bool). first_fault o (duplicate_if b)) old-fits.fits (update_free s ks place row spread is of fits free);
        };
      },
    ))
