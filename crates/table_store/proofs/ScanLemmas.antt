-- A scan of one table after another.
use Rattle.std.proofs.Common.{◌≡◌, ℕ, zero, suc, ◌<◌, get_or, List, [], ◌∷◌, ◌++◌, length, take, Result, Ok, Err, IfOk, sym, ap, ◌∙◌, subst, arith}
use Rattle.std.proofs.lemmas.List.{take_all}
use Rattle.tuple_block.specs.Tuples.{Tuples}
use Rattle.table_rows.specs.Table.{Table}
use Rattle.table_store.specs.Steps.{table_at, with_table}
use Rattle.table_rows.specs.Standing.{IsScanOf}
use Rattle.table_store.specs.Scans.{AreScans}
use Rattle.table_store.proofs.StepLemmas.{with_itself}
use Rattle.table_store.proofs.ChangeLemmas.{here_is}

-- a table that is the same after a call
pub with_same : (tables : List Table) (number : ℕ) (t new : Table) → number < length tables → t ≡ get_or tables number t → new ≡ t → with_table tables number new ≡ tables
with_same tables number t new within here same = ap (with_table tables number) (same ∙ here_is tables number t within here) ∙ with_itself tables number

pub scan_at : {E : Type 0} (tables : List Table) (number : ℕ) (t : Table) (result : Result (List Tuples) E) → number < length tables → t ≡ get_or tables number t → IfOk result (IsScanOf t) → IfOk result (IsScanOf (table_at tables number))
scan_at tables number t (Ok scan) within here is = subst (λ (x : Table). IsScanOf x scan) (here_is tables number t within here) is
scan_at tables number t (Err failed) within here is = tt

pub scans_push : (tables : List Table) (number : ℕ) (scans : List (List Tuples)) (scan : List Tuples) → number < length tables → AreScans (take number tables) scans → IsScanOf (table_at tables number) scan
    → AreScans (take (suc number) tables) (scans ++ scan ∷ [])
scans_push [] number scans scan within are is = absurd (omega arith)
scans_push (t ∷ tables) zero [] scan within are is = (is, tt)
scans_push (t ∷ tables) zero (s ∷ scans) scan within are is = absurd are
scans_push (t ∷ tables) (suc number) [] scan within are is = absurd are
scans_push (t ∷ tables) (suc number) (s ∷ scans) scan within are is = (are.0, scans_push tables number scans scan (omega arith) are.1 is)

pub all_scans : (tables : List Table) (count : ℕ) (scans : List (List Tuples)) → count ≡ length tables → AreScans (take count tables) scans → AreScans tables scans
all_scans tables count scans whole are = subst (λ (ts : List Table). AreScans ts scans) (take_all count tables (omega arith)) are
