-- Entries of an index that has each key once.
use Rattle.std.proofs.Common.{◌≡◌, ℕ, Bool, true, false, cond, ◌&&◌, ◌||◌, List, [], ◌∷◌, map, Option, Some, None, is_some, Result, Ok, Err, OnErr, ◌⊎◌, inl, inr, eqb, refl, sym, ap, ap₂, ◌∙◌, subst, arith}
use Rattle.std.proofs.lemmas.Bool.{false≢true}
use Rattle.std.proofs.lemmas.Bool.Decides.{nat_tests}
use Rattle.std.proofs.lemmas.Map.Text.{is_eq-slice_cmp}
use Rattle.std.specs.Cmp.{both_tied}
use Rattle.std.specs.Cmp.Lexicographic.{slice_cmp}
use Rattle.std.specs.List.{list_all, list_any, AllByRecursion}
use Rattle.std.specs.Map.{lookup}
use Rattle.std.specs.Str.{bytes_eq}
use Rattle.std.specs.Ordering.{nat_cmp, is_eq}
use Rattle.std.specs.declared.cmp.Ordering.{Ordering}
use Rattle.std.specs.declared.cmp.Ordering.TheVariants.{Less, Equal, Greater}
use Rattle.volt_index.specs.Entries.{entry_cmp, entry_total}
use Rattle.std.proofs.lemmas.Cmp.{tied_itself}
use Rattle.row_codec.specs.declared.fault.RowFault.{RowFault}
use Rattle.row_codec.specs.declared.fault.RowFault.TheVariants.{Duplicate, NoMemory}
use Rattle.volt_index.specs.Index.{Contents, is_entry, place_of, clash_of, with_entry, without_entry}
use Rattle.table_rows.specs.declared.keyed.KeyedIndex.{KeyedIndex}
use Rattle.table_rows.specs.Table.{duplicate_if}
use Rattle.table_rows.specs.Keyed.{entered, backed_out, is_taken}
use Rattle.table_rows.proofs.Inserts.{remove_inserted}

same_number : (m n : ℕ) → eqb m n ≡ is_eq (nat_cmp m n)
same_number m n = grind (arith, nat_tests)

-- the test for an entry is that of the order
pub entry_test : (key : List ℕ) (place : ℕ) (e : List ℕ × ℕ) → is_entry key place e ≡ is_eq (entry_cmp (key, place) e)
entry_test key place e = both_tied (bytes_eq key e.0) (eqb place e.1) (slice_cmp nat_cmp key e.0) (nat_cmp place e.1) (sym (is_eq-slice_cmp key e.0)) (same_number place e.1)

pub apart_of_test : (o : Ordering) → is_eq o ≡ false → o ≡ Equal → ⊥
apart_of_test o test equal = false≢true (sym test ∙ ap is_eq equal)

-- an entry of a key that isn't there can be put in and taken out again
free_entries : (key : List ℕ) (place : ℕ) (es : List (List ℕ × ℕ)) → lookup (bytes_eq key) es ≡ None → AllByRecursion (λ e. (is_entry key place e ≡ false) × (entry_cmp (key, place) e ≡ Equal → ⊥)) es
free_entries key place [] none = tt
free_entries key place (e ∷ es) none =
    let parts = cond_none (bytes_eq key e.0) e.1 (lookup (bytes_eq key) es) none in
    let test : is_entry key place e ≡ false = ap (λ b. b && eqb place e.1) parts.0 in
    ((test, apart_of_test (entry_cmp (key, place) e) (sym (entry_test key place e) ∙ test)), free_entries key place es parts.1)
  where
    cond_none : {A : Type 0} (b : Bool) (x : A) (o : Option A) → cond b (Some x) o ≡ None → (b ≡ false) × (o ≡ None)
    cond_none true x o h = absurd cc
    cond_none false x o h = (refl, h)

itself : (key : List ℕ) (place : ℕ) → is_entry key place (key, place) ≡ true
itself key place = entry_test key place (key, place) ∙ ap is_eq (tied_itself entry_total (key, place))

pub without_with : (index : Contents) (key : List ℕ) (place : ℕ) → place_of index key ≡ None → without_entry (with_entry index key place) key place ≡ index
without_with index key place none = ap (λ es. record index { entries = es }) (remove_inserted entry_cmp (is_entry key place) (key, place) index.entries (itself key place) (free_entries key place index.entries none))

none_taken : (o : Option ℕ) → is_some o ≡ false → o ≡ None
none_taken None h = refl
none_taken (Some p) h = absurd (false≢true (sym h))

backed : (columns fresh stale : List ℕ) (index : Contents) (b : Bool) (place : ℕ) → index.unique ≡ true → is_taken (record { columns = columns; index = index; fresh = fresh; stale = stale; changes = b }) ≡ false
    → backed_out place (entered place (record { columns = columns; index = index; fresh = fresh; stale = stale; changes = b })) ≡ record { columns = columns; index = index; fresh = fresh; stale = stale; changes = b }
backed columns fresh stale index true place unique free =
    ap (λ (i : Contents). record { columns = columns; index = i; fresh = fresh; stale = stale; changes = true })
    (without_with index fresh place (none_taken (place_of index fresh) (sym (ap (λ b. is_some (cond b (place_of index fresh) None)) unique) ∙ free)))
backed columns fresh stale index false place unique free = refl

pub backed_out_is : (place : ℕ) (k : KeyedIndex) → k.index.unique ≡ true → is_taken k ≡ false → backed_out place (entered place k) ≡ k
backed_out_is place k unique free = backed k.columns k.fresh k.stale k.index k.changes place unique free

-- also behind others that take it not
pub kept_all : (failed : Result (Unit {0}) RowFault) (place : ℕ) (first first1 first2 : KeyedIndex) (rest rest1 indexes : List KeyedIndex) → indexes ≡ first ∷ rest → list_all (λ (k : KeyedIndex). k.index.unique) indexes ≡ true
    → first1 ≡ entered place first → is_taken first ≡ false → first2 ≡ backed_out place first1 → OnErr failed (rest1 ≡ rest) → OnErr failed (first2 ∷ rest1 ≡ indexes)
kept_all (Ok done) place first first1 first2 rest rest1 indexes indexes-is unique entered-is free out kept = tt
kept_all (Err fault) place first first1 first2 rest rest1 indexes indexes-is unique entered-is free out kept =
    let first-unique : first.index.unique ≡ true = and_first first.index.unique (list_all (λ (k : KeyedIndex). k.index.unique) rest) (sym (ap (list_all (λ (k : KeyedIndex). k.index.unique)) indexes-is) ∙ unique) in
    ap₂ (λ (k : KeyedIndex) (ks : List KeyedIndex). k ∷ ks) (out ∙ ap (backed_out place) entered-is ∙ backed_out_is place first first-unique free) kept ∙ sym indexes-is
  where
    and_first : (a b : Bool) → (a && b) ≡ true → a ≡ true
    and_first true b h = refl
    and_first false b h = absurd (false≢true h)

-- ---- why an index refuses a row

or_taken : (a b : Bool) (fault : RowFault) → duplicate_if a ≡ Some fault → duplicate_if (a || b) ≡ Some fault
or_taken true b fault h = h
or_taken false b fault h = absurd (none_is fault h)
  where
    none_is : (fault : RowFault) → None ≡ Some fault → ⊥
    none_is fault h = cc

-- the first of two refusals
pub refused_first : (a b : Bool) (fault : RowFault) → (fault ≡ NoMemory) ⊎ (duplicate_if a ≡ Some fault) → (fault ≡ NoMemory) ⊎ (duplicate_if (a || b) ≡ Some fault)
refused_first a b fault (inl none) = inl none
refused_first a b fault (inr taken) = inr (or_taken a b fault taken)

pub refused_next : (a b : Bool) (fault : RowFault) → a ≡ false → (fault ≡ NoMemory) ⊎ (duplicate_if b ≡ Some fault) → (fault ≡ NoMemory) ⊎ (duplicate_if (a || b) ≡ Some fault)
refused_next true b fault free why = absurd (false≢true (sym free))
refused_next false b fault free why = why

pub taken_fault : (changes : Bool) (clash : Option ℕ) (held : ℕ) → changes ≡ true → clash ≡ Some held → duplicate_if (changes && is_some clash) ≡ Some Duplicate
taken_fault changes clash held changed is = ap₂ (λ (b : Bool) (o : Option ℕ). duplicate_if (b && is_some o)) changed is
