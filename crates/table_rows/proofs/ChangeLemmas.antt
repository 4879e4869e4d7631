-- How a change of one row goes through the rows and the indexes.
use Rattle.std.proofs.Common.{◌≡◌, ◌⊎◌, ℕ, Bool, true, false, List, [], ◌∷◌, map, Option, Some, None, is_some, IsSome, IfSome, Result, Ok, Err, IfErr, OnErr, inl, inr, refl, sym, ap, ap₂, ◌∙◌, subst}
use Rattle.std.proofs.lemmas.Bool.{false≢true}
use Rattle.std.specs.List.{list_all, list_any, AllByRecursion}
use Rattle.volt_value.specs.declared.value.Value.{Value}
use Rattle.row_codec.specs.declared.field.Field.{Field}
use Rattle.row_codec.specs.declared.fault.RowFault.{RowFault}
use Rattle.row_codec.specs.declared.fault.RowFault.TheVariants.{NoMemory}
use Rattle.row_codec.specs.Packing.{IsRow}
use Rattle.table_rows.specs.Held.{row_at, with_row, without_row}
use Rattle.table_rows.specs.Spread.{Spread, nothing, IsSpread, IsPlaced}
use Rattle.table_rows.specs.Table.{Table, no_rows, inserted, has_like, clashes, duplicate_if, first_of, IsSchema}
use Rattle.table_rows.specs.Keyed.{new_index, coming, going, compared, entered, backed_out, left, is_taken, kept, AreApart}
use Rattle.table_rows.specs.Standing.{keys_of, table_of, standing_table, IsStanding, StandFor}
use Rattle.table_rows.specs.declared.keyed.KeyedIndex.{KeyedIndex}
use Rattle.table_rows.proofs.HeldLemmas.{AreElsewhere, elsewhere_none}
use Rattle.table_rows.proofs.PlacedOrder.{Held, AreOthers, All-each}
use Rattle.table_rows.proofs.IndexChanges.{AreRows}
use Rattle.table_rows.proofs.KeyedChanges.{AllKept, clashes_is, entered_kept, entered_keys, left_kept, left_keys, all_told, moved_kept, moved_clashes, moved_keys, told_kept, same_keys, same_kept, all_unique, all_backed_out, first_apart}
use Rattle.table_rows.proofs.TableChanges.{rows_clash, first_others, inserted_is}

-- what holds anyway holds where a call fails
pub on_err : {P : Type 0} (result : Result (Unit {0}) RowFault) → P → OnErr result P
on_err (Ok done) is = tt
on_err (Err fault) is = is

pub rows_fit : (s : Spread) → IsSpread s → AreRows s.fields s.held
rows_fit s is = All-each (IsPlaced s.fields) (λ e. IsRow s.fields e.1) (λ e placed. placed.row) s.held is.placed

-- ---- where only what is told has changed

pub same_standing : (s t : Spread) (ks ls : List KeyedIndex) → IsStanding s ks → t.fields ≡ s.fields → t.held ≡ s.held → map kept ls ≡ map kept ks → IsStanding t ls
same_standing s t ks ls is fields held same = record {
  schema = subst IsSchema (ap₂ (λ (fs : List Field) (keys : List (List ℕ)). record { fields = fs; keys = keys }) (sym fields) (sym (same_keys ls ks same))) is.schema;
  kept = subst (λ hs. AllKept hs ls) (sym held) (same_kept s.held ls ks same is.kept);
}

pub same_table : (s t : Spread) (ks ls : List KeyedIndex) → t.fields ≡ s.fields → t.held ≡ s.held → map kept ls ≡ map kept ks → standing_table t ls ≡ standing_table s ks
same_table s t ks ls fields held same =
    ap₂ (λ (fs : List Field) (hs : Held). table_of fs (keys_of ls) hs) fields held ∙ ap (λ keys. table_of s.fields keys s.held) (same_keys ls ks same)

pub still_stand : (s t : Spread) (ks ls : List KeyedIndex) → IsStanding s ks → t ≡ s → map kept ls ≡ map kept ks → StandFor t ls (standing_table s ks)
still_stand s t ks ls is whole same =
    let fields = ap (λ (v : Spread). v.fields) whole in
    let held = ap (λ (v : Spread). v.held) whole in
    record { standing = same_standing s t ks ls is fields held same; same = same_table s t ks ls fields held same }

-- ---- a row more

-- the key of the row that comes is taken exactly where one of the table has the like
pub coming_clash : (s : Spread) (ks : List KeyedIndex) (row : List Value) → IsSpread s → IsStanding s ks → IsRow s.fields row → list_any is_taken (map (coming row) ks) ≡ has_like (standing_table s ks) row
coming_clash s ks row spread is fits =
    clashes_is s.fields s.held row ks is.kept (rows_fit s spread) fits
    ∙ sym (rows_clash (first_of (keys_of ks)) s.held (keys_of ks) row (first_apart s.held ks is.schema.some is.kept))

-- a refusal of the indexes is one of the table
pub clash_refused : (s : Spread) (ks ls : List KeyedIndex) (row : List Value) (fault : RowFault) → IsSpread s → IsStanding s ks → IsRow s.fields row → ls ≡ map (coming row) ks
    → (fault ≡ NoMemory) ⊎ (duplicate_if (list_any is_taken ls) ≡ Some fault) → (fault ≡ NoMemory) ⊎ (duplicate_if (has_like (standing_table s ks) row) ≡ Some fault)
clash_refused s ks ls row fault spread is fits told why =
    subst (λ b. (fault ≡ NoMemory) ⊎ (duplicate_if b ≡ Some fault)) (ap (list_any is_taken) told ∙ coming_clash s ks row spread is fits) why

pub record IsPutIn (s t u : Spread) (ks ls ms : List KeyedIndex) (place : ℕ) (row : List Value) : Type 0 where
  pub spread : IsSpread s
  pub standing : IsStanding s ks
  pub fits : IsRow s.fields row
  pub told_is : ls ≡ map (coming row) ks
  pub ready_is : t ≡ record s { ready = Some (place, row) }
  pub entered_is : ms ≡ map (entered place) ls
  pub free : list_any is_taken ls ≡ false
  pub place_free : IfSome t.ready (λ e. row_at t.held e.0 ≡ None)
  pub accepted : IfSome t.ready (λ e. u ≡ record t { held = with_row t.held e.0 e.1; ready = None })

module _ (s t u : Spread) (ks ls ms : List KeyedIndex) (place : ℕ) (row : List Value) (p : IsPutIn s t u ks ls ms place row) where
  after : u ≡ record s { held = with_row s.held place row; ready = None }
  after = subst (λ (v : Spread). IfSome v.ready (λ e. u ≡ record v { held = with_row v.held e.0 e.1; ready = None })) p.ready_is p.accepted

  elsewhere : AreElsewhere place s.held
  elsewhere = elsewhere_none place s.held (subst (λ (v : Spread). IfSome v.ready (λ e. row_at v.held e.0 ≡ None)) p.ready_is p.place_free)

  none_taken : list_any is_taken (map (coming row) ks) ≡ false
  none_taken = ap (list_any is_taken) (sym p.told_is) ∙ p.free

  indexes_after : ms ≡ map (entered place) (map (coming row) ks)
  indexes_after = p.entered_is ∙ ap (map (entered place)) p.told_is

  keys_after : keys_of ms ≡ keys_of ks
  keys_after = ap keys_of indexes_after ∙ entered_keys place row ks

  pub put_in_free : has_like (standing_table s ks) row ≡ false
  put_in_free = sym (coming_clash s ks row p.spread p.standing p.fits) ∙ none_taken

  pub put_in_standing : IsStanding u ms
  put_in_standing = record {
    schema = subst IsSchema (ap₂ (λ (fs : List Field) (keys : List (List ℕ)). record { fields = fs; keys = keys }) (ap (λ (v : Spread). v.fields) (sym after)) (sym keys_after)) p.standing.schema;
    kept = subst (λ (hs : Held). AllKept hs ms) (ap (λ (v : Spread). v.held) (sym after))
        (subst (AllKept (with_row s.held place row)) (sym indexes_after) (entered_kept s.fields s.held place row ks p.standing.kept (rows_fit s p.spread) p.fits elsewhere none_taken));
  }

  pub put_in_table : standing_table u ms ≡ inserted (standing_table s ks) row
  put_in_table =
      ap (λ (v : Spread). standing_table v ms) after
      ∙ ap (λ keys. table_of s.fields keys (with_row s.held place row)) keys_after
      ∙ inserted_is s.fields (keys_of ks) s.held place row elsewhere
      (first_others (keys_of ks) row s.held p.standing.schema.some
      (sym (clashes_is s.fields s.held row ks p.standing.kept (rows_fit s p.spread) p.fits) ∙ none_taken))

-- ---- a row less

pub taken_standing : (s t : Spread) (ks ls ms : List KeyedIndex) (place : ℕ) (old : List Value) → IsSpread s → IsStanding s ks → row_at s.held place ≡ Some old
    → ls ≡ map (going old) ks → t ≡ record s { held = without_row s.held place } → ms ≡ map (left place) ls → IsStanding t ms × (keys_of ms ≡ keys_of ks)
taken_standing s t ks ls ms place old spread is there told taken gone =
    let indexes : ms ≡ map (left place) (map (going old) ks) = gone ∙ ap (map (left place)) told in
    let keys : keys_of ms ≡ keys_of ks = ap keys_of indexes ∙ left_keys place old ks in (
      record {
        schema = subst IsSchema (ap₂ (λ (fs : List Field) (keys : List (List ℕ)). record { fields = fs; keys = keys }) (ap (λ (v : Spread). v.fields) (sym taken)) (sym keys)) is.schema;
        kept = subst (λ (hs : Held). AllKept hs ms) (ap (λ (v : Spread). v.held) (sym taken))
            (subst (AllKept (without_row s.held place)) (sym indexes) (left_kept s.fields s.held place old ks is.kept (rows_fit s spread) spread.rising there));
      },
      keys,
    )

-- ---- a row in the place of another

pub told_clash : (s : Spread) (ks ls : List KeyedIndex) (place : ℕ) (old row : List Value) → IsSpread s → IsStanding s ks → row_at s.held place ≡ Some old → IsRow s.fields row
    → ls ≡ all_told row old ks → list_any is_taken ls ≡ clashes (keys_of ks) row (map (λ e. e.1) (without_row s.held place))
told_clash s ks ls place old row spread is there fits told =
    ap (list_any is_taken) told ∙ moved_clashes s.fields s.held place old row ks is.kept (rows_fit s spread) there fits

pub moved_standing : (s t : Spread) (ks ls ms ns : List KeyedIndex) (place : ℕ) (old row : List Value) → IsSpread s → IsStanding s ks → row_at s.held place ≡ Some old → IsRow s.fields row
    → ls ≡ all_told row old ks → list_any is_taken ls ≡ false → t ≡ record s { held = with_row s.held place row } → ms ≡ map (entered place) ls → ns ≡ map (left place) ms
    → IsStanding t ns × (keys_of ns ≡ keys_of ks)
moved_standing s t ks ls ms ns place old row spread is there fits told free put in_is out_is =
    let indexes : ns ≡ map (left place) (map (entered place) (all_told row old ks)) = out_is ∙ ap (map (left place)) (in_is ∙ ap (map (entered place)) told) in
    let keys : keys_of ns ≡ keys_of ks = ap keys_of indexes ∙ moved_keys place old row ks in (
      record {
        schema = subst IsSchema (ap₂ (λ (fs : List Field) (keys : List (List ℕ)). record { fields = fs; keys = keys }) (ap (λ (v : Spread). v.fields) (sym put)) (sym keys)) is.schema;
        kept = subst (λ (hs : Held). AllKept hs ns) (ap (λ (v : Spread). v.held) (sym put))
            (subst (AllKept (with_row s.held place row)) (sym indexes)
            (moved_kept s.fields s.held place old row ks is.kept (rows_fit s spread) spread.rising there fits (ap (list_any is_taken) (sym told) ∙ free)));
      },
      keys,
    )

-- where the place's row could not be written, each index is as it was told
pub backed_kept : (s : Spread) (ks ls ms ns : List KeyedIndex) (place : ℕ) (old row : List Value) → IsStanding s ks → ls ≡ all_told row old ks → list_any is_taken ls ≡ false
    → ms ≡ map (entered place) ls → ns ≡ map (backed_out place) ms → map kept ns ≡ map kept ks
backed_kept s ks ls ms ns place old row is told free in_is out_is =
    let same : map kept ls ≡ map kept ks = ap (map kept) told ∙ told_kept row old ks in
    ap (map kept) (out_is ∙ ap (map (backed_out place)) in_is ∙ all_backed_out place ls (all_unique s.held ls (same_kept s.held ls ks same is.kept)) free) ∙ same

pub told_refused : (s : Spread) (ks ls : List KeyedIndex) (place : ℕ) (old row : List Value) (fault : RowFault) → IsSpread s → IsStanding s ks → row_at s.held place ≡ Some old → IsRow s.fields row
    → ls ≡ all_told row old ks → (fault ≡ NoMemory) ⊎ (duplicate_if (list_any is_taken ls) ≡ Some fault)
    → (fault ≡ NoMemory) ⊎ (duplicate_if (clashes (keys_of ks) row (map (λ e. e.1) (without_row s.held place))) ≡ Some fault)
told_refused s ks ls place old row fault spread is there fits told why =
    subst (λ b. (fault ≡ NoMemory) ⊎ (duplicate_if b ≡ Some fault)) (told_clash s ks ls place old row spread is there fits told) why

-- ---- no rows

pub new_kept : (keys : List (List ℕ)) → AllKept [] (map new_index keys)
new_kept [] = tt
new_kept (columns ∷ keys) = (record { contents = refl; apart = tt }, new_kept keys)

pub new_keys : (keys : List (List ℕ)) → keys_of (map new_index keys) ≡ keys
new_keys [] = refl
new_keys (columns ∷ keys) = ap (λ more. columns ∷ more) (new_keys keys)

pub new_standing : (s : Spread) (ks : List KeyedIndex) (fields : List Field) (keys : List (List ℕ)) → s ≡ nothing fields → ks ≡ map new_index keys → IsSchema (record { fields = fields; keys = keys }) → IsStanding s ks
new_standing s ks fields keys empty made is =
    subst (λ (t : Spread). IsStanding t ks) (sym empty)
    (subst (IsStanding (nothing fields)) (sym made) (record {
      schema = subst (λ (columns : List (List ℕ)). IsSchema (record { fields = fields; keys = columns })) (sym (new_keys keys)) is;
      kept = new_kept keys;
    }))

pub new_table : (s : Spread) (ks : List KeyedIndex) (fields : List Field) (keys : List (List ℕ)) → s ≡ nothing fields → ks ≡ map new_index keys → standing_table s ks ≡ no_rows (record { fields = fields; keys = keys })
new_table s ks fields keys empty made =
    ap₂ standing_table empty made ∙ ap (λ (columns : List (List ℕ)). table_of fields columns []) (new_keys keys)
