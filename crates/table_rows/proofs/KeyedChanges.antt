-- What a change of one row does to all indexes of a table.
use Rattle.std.proofs.Common.{◌≡◌, ℕ, Bool, true, false, not, cond, ◌&&◌, ◌||◌, nat_lt, List, [], ◌∷◌, map, length, Option, Some, None, is_some, inl, inr, refl, sym, ap, ap₂, ◌∙◌, subst}
use Rattle.std.proofs.lemmas.Bool.{false≢true, cases_eq}
use Rattle.std.proofs.lemmas.Slice.Eq.{bytes_eq-Decides}
use Rattle.std.specs.List.{list_all, list_any, AllByRecursion}
use Rattle.std.specs.Str.{bytes_eq}
use Rattle.std.specs.Ordering.{is_eq}
use Rattle.std.specs.declared.cmp.Ordering.TheVariants.{Equal}
use Rattle.volt_value.specs.declared.value.Value.{Value}
use Rattle.volt_index.specs.Index.{Contents, clash_of, with_entry, without_entry}
use Rattle.row_codec.specs.declared.field.Field.{Field}
use Rattle.row_codec.specs.Packing.{IsRow}
use Rattle.table_rows.specs.Held.{row_at, with_row, without_row, AreRising}
use Rattle.table_rows.specs.Order.{row_cmp, agree, row_key}
use Rattle.table_rows.specs.Table.{agrees_with_one, clashes, first_of}
use Rattle.table_rows.specs.Keyed.{coming, going, compared, entered, backed_out, left, is_taken, kept, contents_of, AreApart, IsKept}
use Rattle.table_rows.specs.Standing.{keys_of}
use Rattle.table_rows.specs.declared.keyed.KeyedIndex.{KeyedIndex}
use Rattle.table_rows.proofs.HeldLemmas.{AreElsewhere, All-without_row, All-row_at, without_elsewhere, without_same, without_other, with_over, at_same, at_other}
use Rattle.table_rows.proofs.EntryLemmas.{backed_out_is}
use Rattle.table_rows.proofs.RowOrder.{key_eq}
use Rattle.table_rows.proofs.PlacedOrder.{Held, AreOthers, apart_with, apart_without, others_without, others_alike, none_agrees, others_from}
use Rattle.table_rows.proofs.IndexChanges.{AreRows, contents_with, contents_without, contents_moved, contents_same, found_is, keys_agree}

-- ---- one index

-- the key is taken exactly where one of the rows agrees with the one that comes
taken_is : (fields : List Field) (held : Held) (row : List Value) (k : KeyedIndex) → IsKept held k → AreRows fields held → IsRow fields row
    → is_taken (coming row k) ≡ agrees_with_one k.columns row (map (λ e. e.1) held)
taken_is fields held row k is rows fits =
    ap (λ (c : Contents). is_some (clash_of c (row_key k.columns row))) is.contents ∙ found_is fields k.columns held row rows fits is.apart

entered_one : (fields : List Field) (held : Held) (place : ℕ) (row : List Value) (k : KeyedIndex) → IsKept held k → AreRows fields held → IsRow fields row → AreElsewhere place held
    → is_taken (coming row k) ≡ false → IsKept (with_row held place row) (entered place (coming row k))
entered_one fields held place row k is rows fits elsewhere free =
    let others : AreOthers k.columns row held = others_from k.columns row held (sym (taken_is fields held row k is rows fits) ∙ free) in
    record {
      contents = ap (λ (c : Contents). with_entry c (row_key k.columns row) place) is.contents ∙ contents_with fields k.columns held place row rows fits elsewhere others;
      apart = apart_with k.columns held place row elsewhere others is.apart;
    }

left_one : (fields : List Field) (held : Held) (place : ℕ) (old : List Value) (k : KeyedIndex) → IsKept held k → AreRows fields held → AreRising held → row_at held place ≡ Some old
    → IsKept (without_row held place) (left place (going old k))
left_one fields held place old k is rows rising there = record {
  contents = ap (λ (c : Contents). without_entry c (row_key k.columns old) place) is.contents ∙ contents_without fields k.columns held place old rising rows is.apart there;
  apart = apart_without k.columns held place is.apart;
}

-- an index that was told the row that comes and the one that goes
abbrev told : List Value → List Value → KeyedIndex → Bool → KeyedIndex
told row old k same = record { columns = k.columns; index = k.index; fresh = row_key k.columns row; stale = row_key k.columns old; changes = not same }

-- what both cases have
rest_apart : (columns : List ℕ) (held : Held) (place : ℕ) (old row : List Value) → AreRising held → AreApart columns held → row_at held place ≡ Some old → AreOthers columns row (without_row held place)
    → AreApart columns (with_row held place row)
rest_apart columns held place old row rising apart there others =
    subst (AreApart columns) (with_over held place row old rising there)
    (apart_with columns (without_row held place) place row (without_elsewhere held place rising) others (apart_without columns held place apart))

others_same : (fields : List Field) (columns : List ℕ) (held : Held) (place : ℕ) (old row : List Value) → AreRows fields held → AreApart columns held → row_at held place ≡ Some old → IsRow fields row
    → row_key columns row ≡ row_key columns old → AreOthers columns row (without_row held place)
others_same fields columns held place old row rows apart there fits same =
    others_alike columns (without_row held place) row old
    (keys_agree fields columns row old fits (All-row_at (λ e. IsRow fields e.1) held place old rows there) same)
    (others_without columns held place old apart there)

moved_at : (fields : List Field) (held : Held) (place : ℕ) (old row : List Value) (k : KeyedIndex) (same : Bool) → IsKept held k → AreRows fields held → AreRising held → row_at held place ≡ Some old → IsRow fields row
    → bytes_eq (row_key k.columns row) (row_key k.columns old) ≡ same → is_taken (told row old k same) ≡ false → IsKept (with_row held place row) (left place (entered place (told row old k same)))
moved_at fields held place old row k true is rows rising there fits same free =
    let keys : row_key k.columns row ≡ row_key k.columns old = (bytes_eq-Decides (row_key k.columns row) (row_key k.columns old)).0 same in
    record {
      contents = is.contents ∙ contents_same fields k.columns held place old row rising rows is.apart there fits keys;
      apart = rest_apart k.columns held place old row rising is.apart there (others_same fields k.columns held place old row rows is.apart there fits keys);
    }
moved_at fields held place old row k false is rows rising there fits differ free =
    let others : AreOthers k.columns row held = others_from k.columns row held (sym (taken_is fields held row k is rows fits) ∙ free) in
    record {
      contents = ap (λ (c : Contents). without_entry (with_entry c (row_key k.columns row) place) (row_key k.columns old) place) is.contents
          ∙ contents_moved fields k.columns held place old row rising rows is.apart there fits others;
      apart = rest_apart k.columns held place old row rising is.apart there (All-without_row (λ e. row_cmp k.columns row e.1 ≡ Equal → ⊥) held place others);
    }

-- a row that isn't like the one that goes agrees with as many without it
agrees_without : (columns : List ℕ) (row : List Value) (held : Held) (place : ℕ) (old : List Value) → row_at held place ≡ Some old → agree columns row old ≡ false
    → agrees_with_one columns row (map (λ e. e.1) held) ≡ agrees_with_one columns row (map (λ e. e.1) (without_row held place))
agrees_without columns row [] place old there other = absurd cc
agrees_without columns row (e ∷ held) place old there other = elim (cases_eq place e.0) [
  | inl same ↦
      let is_old : e.1 ≡ old = some_is (sym (at_same place e held same) ∙ there) in
      ap (λ b. b || agrees_with_one columns row (map (λ e. e.1) held)) (ap (agree columns row) is_old ∙ other)
      ∙ ap (λ hs. agrees_with_one columns row (map (λ e. e.1) hs)) (sym (without_same place e held same))
  | inr differ ↦
      ap (λ b. agree columns row e.1 || b) (agrees_without columns row held place old (sym (at_other place e held differ) ∙ there) other)
      ∙ ap (λ hs. agrees_with_one columns row (map (λ e. e.1) hs)) (sym (without_other place e held differ))
]
  where
    some_is : {a b : List Value} → Some a ≡ Some b → a ≡ b
    some_is h = cc

told_taken : (fields : List Field) (held : Held) (place : ℕ) (old row : List Value) (k : KeyedIndex) (same : Bool) → IsKept held k → AreRows fields held → row_at held place ≡ Some old → IsRow fields row
    → bytes_eq (row_key k.columns row) (row_key k.columns old) ≡ same → is_taken (told row old k same) ≡ agrees_with_one k.columns row (map (λ e. e.1) (without_row held place))
told_taken fields held place old row k true is rows there fits same =
    let keys : row_key k.columns row ≡ row_key k.columns old = (bytes_eq-Decides (row_key k.columns row) (row_key k.columns old)).0 same in
    sym (none_agrees k.columns row (without_row held place) (others_same fields k.columns held place old row rows is.apart there fits keys))
told_taken fields held place old row k false is rows there fits differ =
    taken_is fields held row k is rows fits
    ∙ agrees_without k.columns row held place old there
    (sym (key_eq fields k.columns row old fits (All-row_at (λ e. IsRow fields e.1) held place old rows there)) ∙ differ)

told_keys : (row old : List Value) (place : ℕ) (k : KeyedIndex) (same : Bool) → (left place (entered place (told row old k same))).columns ≡ k.columns
told_keys row old place k true = refl
told_keys row old place k false = refl

-- ---- all indexes

or_parts : (a b : Bool) → (a || b) ≡ false → (a ≡ false) × (b ≡ false)
or_parts true b h = absurd cc
or_parts false b h = (refl, h)

abbrev pub AllKept : Held → List KeyedIndex → Type 0
AllKept held ks = AllByRecursion (IsKept held) ks

pub clashes_is : (fields : List Field) (held : Held) (row : List Value) (ks : List KeyedIndex) → AllKept held ks → AreRows fields held → IsRow fields row
    → list_any is_taken (map (coming row) ks) ≡ clashes (keys_of ks) row (map (λ e. e.1) held)
clashes_is fields held row [] are rows fits = refl
clashes_is fields held row (k ∷ ks) are rows fits = ap₂ (λ (a b : Bool). a || b) (taken_is fields held row k are.0 rows fits) (clashes_is fields held row ks are.1 rows fits)

pub entered_kept : (fields : List Field) (held : Held) (place : ℕ) (row : List Value) (ks : List KeyedIndex) → AllKept held ks → AreRows fields held → IsRow fields row → AreElsewhere place held
    → list_any is_taken (map (coming row) ks) ≡ false → AllKept (with_row held place row) (map (entered place) (map (coming row) ks))
entered_kept fields held place row [] are rows fits elsewhere free = tt
entered_kept fields held place row (k ∷ ks) are rows fits elsewhere free =
    let parts = or_parts (is_taken (coming row k)) (list_any is_taken (map (coming row) ks)) free in
    (entered_one fields held place row k are.0 rows fits elsewhere parts.0, entered_kept fields held place row ks are.1 rows fits elsewhere parts.1)

pub entered_keys : (place : ℕ) (row : List Value) (ks : List KeyedIndex) → keys_of (map (entered place) (map (coming row) ks)) ≡ keys_of ks
entered_keys place row [] = refl
entered_keys place row (k ∷ ks) = ap (λ keys. k.columns ∷ keys) (entered_keys place row ks)

pub left_kept : (fields : List Field) (held : Held) (place : ℕ) (old : List Value) (ks : List KeyedIndex) → AllKept held ks → AreRows fields held → AreRising held → row_at held place ≡ Some old
    → AllKept (without_row held place) (map (left place) (map (going old) ks))
left_kept fields held place old [] are rows rising there = tt
left_kept fields held place old (k ∷ ks) are rows rising there = (left_one fields held place old k are.0 rows rising there, left_kept fields held place old ks are.1 rows rising there)

pub left_keys : (place : ℕ) (old : List Value) (ks : List KeyedIndex) → keys_of (map (left place) (map (going old) ks)) ≡ keys_of ks
left_keys place old [] = refl
left_keys place old (k ∷ ks) = ap (λ keys. k.columns ∷ keys) (left_keys place old ks)

-- indexes that were told both rows
abbrev pub all_told : List Value → List Value → List KeyedIndex → List KeyedIndex
all_told row old ks = map compared (map (going old) (map (coming row) ks))

pub moved_kept : (fields : List Field) (held : Held) (place : ℕ) (old row : List Value) (ks : List KeyedIndex) → AllKept held ks → AreRows fields held → AreRising held → row_at held place ≡ Some old → IsRow fields row
    → list_any is_taken (all_told row old ks) ≡ false → AllKept (with_row held place row) (map (left place) (map (entered place) (all_told row old ks)))
moved_kept fields held place old row [] are rows rising there fits free = tt
moved_kept fields held place old row (k ∷ ks) are rows rising there fits free =
    let parts = or_parts (is_taken (compared (going old (coming row k)))) (list_any is_taken (all_told row old ks)) free in (
      moved_at fields held place old row k (bytes_eq (row_key k.columns row) (row_key k.columns old)) are.0 rows rising there fits refl parts.0,
      moved_kept fields held place old row ks are.1 rows rising there fits parts.1,
    )

pub moved_clashes : (fields : List Field) (held : Held) (place : ℕ) (old row : List Value) (ks : List KeyedIndex) → AllKept held ks → AreRows fields held → row_at held place ≡ Some old → IsRow fields row
    → list_any is_taken (all_told row old ks) ≡ clashes (keys_of ks) row (map (λ e. e.1) (without_row held place))
moved_clashes fields held place old row [] are rows there fits = refl
moved_clashes fields held place old row (k ∷ ks) are rows there fits =
    ap₂ (λ (a b : Bool). a || b) (told_taken fields held place old row k (bytes_eq (row_key k.columns row) (row_key k.columns old)) are.0 rows there fits refl)
    (moved_clashes fields held place old row ks are.1 rows there fits)

pub moved_keys : (place : ℕ) (old row : List Value) (ks : List KeyedIndex) → keys_of (map (left place) (map (entered place) (all_told row old ks))) ≡ keys_of ks
moved_keys place old row [] = refl
moved_keys place old row (k ∷ ks) =
    ap₂ (λ (key : List ℕ) (keys : List (List ℕ)). key ∷ keys) (told_keys row old place k (bytes_eq (row_key k.columns row) (row_key k.columns old))) (moved_keys place old row ks)

-- ---- what is told changes no index

pub told_kept : (row old : List Value) (ks : List KeyedIndex) → map kept (all_told row old ks) ≡ map kept ks
told_kept row old [] = refl
told_kept row old (k ∷ ks) = ap (λ ps. kept k ∷ ps) (told_kept row old ks)

pub same_keys : (ks ls : List KeyedIndex) → map kept ks ≡ map kept ls → keys_of ks ≡ keys_of ls
same_keys ks ls same = columns_of ks ∙ ap (map (λ (p : List ℕ × Contents). p.0)) same ∙ sym (columns_of ls)
  where
    columns_of : (ks : List KeyedIndex) → keys_of ks ≡ map (λ (p : List ℕ × Contents). p.0) (map kept ks)
    columns_of [] = refl
    columns_of (k ∷ ks) = ap (λ keys. k.columns ∷ keys) (columns_of ks)

-- whether an index is that of the rows shows in what is kept
abbrev IsPair : Held → List ℕ × Contents → Type 0
IsPair held p = (p.1 ≡ contents_of p.0 held) × AreApart p.0 held

pub same_kept : (held : Held) (ks ls : List KeyedIndex) → map kept ks ≡ map kept ls → AllKept held ls → AllKept held ks
same_kept held ks ls same are = from_pairs ks (subst (λ ps. AllByRecursion (IsPair held) ps) (sym same) (pairs ls are))
  where
    pairs : (ls : List KeyedIndex) → AllKept held ls → AllByRecursion (IsPair held) (map kept ls)
    pairs [] are = tt
    pairs (l ∷ ls) are = ((are.0.contents, are.0.apart), pairs ls are.1)

    from_pairs : (ks : List KeyedIndex) → AllByRecursion (IsPair held) (map kept ks) → AllKept held ks
    from_pairs [] are = tt
    from_pairs (k ∷ ks) are = (record { contents = are.0.0; apart = are.0.1 }, from_pairs ks are.1)

-- ---- all are unique

pub all_unique : (held : Held) (ks : List KeyedIndex) → AllKept held ks → list_all (λ (k : KeyedIndex). k.index.unique) ks ≡ true
all_unique held [] are = refl
all_unique held (k ∷ ks) are = ap₂ (λ (a b : Bool). a && b) (ap (λ (c : Contents). c.unique) are.0.contents) (all_unique held ks are.1)

-- what was put into each can be taken out of each
pub all_backed_out : (place : ℕ) (ks : List KeyedIndex) → list_all (λ (k : KeyedIndex). k.index.unique) ks ≡ true → list_any is_taken ks ≡ false → map (backed_out place) (map (entered place) ks) ≡ ks
all_backed_out place [] unique free = refl
all_backed_out place (k ∷ ks) unique free =
    let parts = or_parts (is_taken k) (list_any is_taken ks) free in
    let both = and_parts k.index.unique (list_all (λ (k : KeyedIndex). k.index.unique) ks) unique in
    ap₂ (λ (k : KeyedIndex) (ks : List KeyedIndex). k ∷ ks) (backed_out_is place k both.0 parts.0) (all_backed_out place ks both.1 parts.1)
  where
    and_parts : (a b : Bool) → (a && b) ≡ true → (a ≡ true) × (b ≡ true)
    and_parts true b h = (refl, h)
    and_parts false b h = absurd (false≢true h)

-- the rows agree nowhere in the primary key
pub first_apart : (held : Held) (ks : List KeyedIndex) → nat_lt 0 (length (keys_of ks)) ≡ true → AllKept held ks → AreApart (first_of (keys_of ks)) held
first_apart held [] some are = absurd (false≢true some)
first_apart held (k ∷ ks) some are = are.0.apart
