use Rattle.std.proofs.Common.{◌≡◌, ◌+◌, ◌<◌, ◌≤◌, map, length, take}
use Rattle.table_store.specs.Steps.{table_at, history}
use Rattle.table_chunks.specs.Loading.{can_load, loaded_into}
use Rattle.table_chunks.proofs.loading.put_rows.Given as goal

abbrev pub invariant-loop-row : goal.invariant-loop-row
invariant-loop-row l = record {
  within : l.number < length l.tables.now;
  can : can_load (table_at l.tables.now l.number) (map (λ row. row.items) l.left) ≡ can_load (table_at l.initial.tables.now l.number) (map (λ row. row.items) l.rows);
  put : loaded_into l.tables.now l.number (map (λ row. row.items) l.left) ≡ loaded_into l.initial.tables.now l.number (map (λ row. row.items) l.rows);
  past : history l.initial.tables ≡ take (length l.initial.tables.past + 1) (history l.tables);
  more : length l.initial.tables.past ≤ length l.tables.past;
}

abbrev pub decreases-loop-row : goal.decreases-loop-row
decreases-loop-row l = length l.left
