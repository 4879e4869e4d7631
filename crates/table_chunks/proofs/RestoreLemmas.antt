-- The chunks of a scan, loaded one after another.
use Rattle.std.proofs.Common.{◌≡◌, ℕ, ◌<◌, ◌≤◌, Bool, true, false, cond, ◌&&◌, eqb, List, [], ◌∷◌, ◌++◌, flat_map, length, Option, Some, None, refl, sym, ap, ap₂, ◌∙◌, subst, arith}
use Rattle.std.proofs.lemmas.Bool.{and_parts}
use Rattle.std.proofs.lemmas.Bool.Decides.{nat_tests}
use Rattle.std.specs.List.{AllByRecursion}
use Rattle.std.specs.Option.{option_and_then}
use Rattle.volt_value.specs.declared.value.Value.{Value}
use Rattle.row_codec.specs.declared.field.Field.{Field}
use Rattle.row_codec.specs.Packing.{row_width}
use Rattle.tuple_block.specs.Tuples.{Tuples}
use Rattle.pane_index.specs.Blocks.{all_slots}
use Rattle.table_rows.specs.Spread.{AreTuples}
use Rattle.table_rows.specs.Table.{Table, inserted, no_rows, IsTable}
use Rattle.table_rows.specs.Standing.{rows_in, IsScanOf}
use Rattle.table_chunks.specs.Chunks.{rows_of, chunk_bytes, chunks_of, CanSpell}
use Rattle.table_chunks.specs.Reading.{chunk_at}
use Rattle.table_chunks.specs.Loading.{can_put, can_load, loaded, with_rows_of, restored}
use Rattle.table_chunks.proofs.ChunkLemmas.{scan_rows, scan_tuples, can_spell}
use Rattle.table_chunks.proofs.ReadLemmas.{chunk_again}
use Rattle.table_chunks.proofs.LoadLemmas.{table_loaded}

abbrev Rows : Type 0
Rows = List (List Value)

-- rows behind others

loaded-append : (t : Table) (a b : Rows) → loaded t (a ++ b) ≡ loaded (loaded t a) b
loaded-append t [] b = refl
loaded-append t (row ∷ a) b = loaded-append (inserted t row) a b

can_load-append : (t : Table) (a b : Rows) → can_load t (a ++ b) ≡ true → (can_load t a ≡ true) × (can_load (loaded t a) b ≡ true)
can_load-append t [] b can = (refl, can)
can_load-append t (row ∷ a) b can =
    let first = and_parts (can_put t row) (can_load (inserted t row) (a ++ b)) can in
    let rest = can_load-append (inserted t row) a b first.1 in
    (ap₂ (λ (x y : Bool). x && y) first.0 rest.0, rest.1)

same_number : (n : ℕ) → eqb n n ≡ true
same_number n = grind (arith, nat_tests)

-- one chunk
one_loaded : (number : ℕ) (t : Table) (rows : Rows) → number < 65536 → CanSpell rows → can_load t rows ≡ true
    → option_and_then (with_rows_of number t) (chunk_at (chunk_bytes number rows)) ≡ Some (loaded t rows)
one_loaded number t rows few spelled can =
    ap (option_and_then (with_rows_of number t)) (chunk_again number rows few spelled)
    ∙ ap₂ (λ (x y : Bool). cond (x && y) (Some (loaded t rows)) None) (same_number number) can

-- what is asked of each block
abbrev AreWhole : List Tuples → Type 0
AreWhole blocks = AllByRecursion (λ (block : Tuples). length block.slots ≡ 64) blocks

blocks_restored : (number : ℕ) (fields : List Field) (t : Table) (blocks : List Tuples) → number < 65536 → length fields < 256 → row_width fields ≤ 8192
    → AllByRecursion (λ block. AreTuples fields block.slots) blocks → AreWhole blocks → can_load t (flat_map (λ block. rows_of fields block.slots) blocks) ≡ true
    → restored number t (chunks_of number fields blocks) ≡ Some (loaded t (flat_map (λ block. rows_of fields block.slots) blocks))
blocks_restored number fields t [] few narrow limit tuples whole can = refl
blocks_restored number fields t (block ∷ blocks) few narrow limit tuples whole can =
    let rows = rows_of fields block.slots in
    let rest = flat_map (λ (other : Tuples). rows_of fields other.slots) blocks in
    let parts = can_load-append t rows rest can in
    ap (option_and_then (λ (u : Table). restored number u (chunks_of number fields blocks)))
    (one_loaded number t rows few (can_spell fields block.slots tuples.0 narrow limit whole.0) parts.0)
    ∙ blocks_restored number fields (loaded t rows) blocks few narrow limit tuples.1 whole.1 parts.1
    ∙ ap Some (sym (loaded-append t rows rest))

pub scan_restored : (number : ℕ) (table : Table) (scan : List Tuples) → number < 65536 → length table.schema.fields < 256 → IsTable table → IsScanOf table scan → AreWhole scan
    → restored number (no_rows table.schema) (chunks_of number table.schema.fields scan) ≡ Some table
scan_restored number table scan few narrow is of whole =
    let fields = table.schema.fields in
    let all = flat_map (λ (block : Tuples). rows_of fields block.slots) scan in
    let all_is : all ≡ rows_in fields scan = scan_rows fields scan in
    let loads = table_loaded table (rows_in fields scan) is of.rows in
    blocks_restored number fields (no_rows table.schema) scan few narrow is.schema.can_pack.limit (scan_tuples fields scan of.tuples) whole
    (ap (can_load (no_rows table.schema)) all_is ∙ loads.0)
    ∙ ap Some (ap (loaded (no_rows table.schema)) all_is ∙ loads.1)
