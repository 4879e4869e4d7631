-- Rows loaded into one table of several.
use Rattle.std.proofs.Common.{◌≡◌, ℕ, ◌+◌, ◌<◌, ◌≤◌, Bool, true, false, not, eqb, ltb, ◌&&◌, List, [], ◌∷◌, ◌++◌, length, map, take, Vec, is_some, Option, Some, None, refl, sym, ap, ap₂, ◌∙◌, subst, arith}
use Rattle.std.proofs.lemmas.Bool.{lt-ltb}
use Rattle.std.proofs.lemmas.Bool.Decides.{nat_tests}
use Rattle.std.proofs.lemmas.List.{take_all, take-append-le, length-append}
use Rattle.volt_value.specs.declared.value.Value.{Value}
use Rattle.row_codec.specs.declared.fault.RowFault.{RowFault}
use Rattle.table_rows.specs.Table.{Table, inserted, row_fault}
use Rattle.table_store.specs.Steps.{Store, table_at, with_table, changed, history}
use Rattle.table_store.proofs.StepLemmas.{at_with, with_with, with_itself, length-with}
use Rattle.table_chunks.specs.Loading.{can_put, can_load, loaded, can_load_into, loaded_into}

abbrev Rows : Type 0
Rows = List (List Value)

-- ---- one row of several

abbrev with_row_in : List Table → ℕ → List Value → List Table
with_row_in tables number row = with_table tables number (inserted (table_at tables number) row)

pub can_step : (tables new : List Table) (number : ℕ) (row : List Value) (rows : Rows) → number < length tables → new ≡ with_row_in tables number row → can_put (table_at tables number) row ≡ true
    → can_load (table_at new number) rows ≡ can_load (table_at tables number) (row ∷ rows)
can_step tables new number row rows within is can =
    ap (λ (ts : List Table). can_load (table_at ts number) rows) is
    ∙ ap (λ (t : Table). can_load t rows) (at_with tables number (inserted (table_at tables number) row) within)
    ∙ sym (ap (λ b. b && can_load (inserted (table_at tables number) row) rows) can)

pub load_step : (tables new : List Table) (number : ℕ) (row : List Value) (rows : Rows) → number < length tables → new ≡ with_row_in tables number row
    → loaded_into new number rows ≡ loaded_into tables number (row ∷ rows)
load_step tables new number row rows within is =
    let t = inserted (table_at tables number) row in
    ap (λ (ts : List Table). loaded_into ts number rows) is
    ∙ ap (λ (u : Table). with_table (with_table tables number t) number (loaded u rows)) (at_with tables number t within)
    ∙ with_with tables number t (loaded t rows)

pub within_step : (tables new : List Table) (number : ℕ) (row : List Value) → number < length tables → new ≡ with_row_in tables number row → number < length new
within_step tables new number row within is = let same = ap (length {A = Table}) is in let kept = length-with tables number (inserted (table_at tables number) row) in omega arith

pub past_step : (start before after : Store) (next : List Table) → history start ≡ take (length start.past + 1) (history before) → length start.past ≤ length before.past → after ≡ changed before next
    → history start ≡ take (length start.past + 1) (history after)
past_step start before after next past more is =
    let length_is = length-append before.past (before.now ∷ []) in
    past ∙ sym (take-append-le (length start.past + 1) (history before) (next ∷ []) (omega arith)) ∙ ap (λ (s : Store). take (length start.past + 1) (history s)) (sym is)

pub more_step : (start before after : Store) (next : List Table) → length start.past ≤ length before.past → after ≡ changed before next → length start.past ≤ length after.past
more_step start before after next more is =
    let same = ap (λ (s : Store). length s.past) is in
    let longer = length-append before.past (before.now ∷ []) in
    omega arith

-- the values of rows
abbrev pub items : {Z : Type 0} → List (Vec Value Z) → List (List Value)
items rows = map (λ row. row.items) rows

-- the rows that are left
pub left_is : {Z : Type 0} (row : List Value) (first : Vec Value Z) (rest left : List (Vec Value Z)) → row ≡ first.items → left ≡ first ∷ rest → row ∷ map (λ r. r.items) rest ≡ map (λ r. r.items) left
left_is {Z} row first rest left row_is whole = ap (λ (r : List Value). r ∷ map (λ (v : Vec Value Z). v.items) rest) row_is ∙ sym (ap (map (λ (v : Vec Value Z). v.items)) whole)

pub all_loaded : {Z : Type 0} (tables : List Table) (number : ℕ) (left : List (Vec Value Z)) → length left ≡ 0 → tables ≡ loaded_into tables number (map (λ row. row.items) left)
all_loaded tables number [] none = sym (with_itself tables number)
all_loaded tables number (row ∷ left) none = absurd (omega (arith, none))
