-- Steps that are noted and undone.
use Rattle.std.proofs.Common.{◌≡◌, ℕ, zero, suc, ◌<◌, List, [], ◌∷◌, ◌++◌, length, slice_get, slice_set, Option, Some, None, refl, sym, ap, ap₂, ◌∙◌, subst, arith}
use Rattle.std.specs.Option.{unwrap_or}
use Rattle.volt_value.specs.declared.value.Value.{Value}
use Rattle.table_rows.specs.Table.{Table}
use Rattle.table_store.specs.declared.step.Step.{Step}
use Rattle.table_store.specs.Steps.{table_at, with_table, undone, rolled, past_of, CanUndo, AreUndoable, Store, changed}

-- ---- one table of several

pub at_with : (tables : List Table) (number : ℕ) (table : Table) → number < length tables → table_at (with_table tables number table) number ≡ table
at_with [] number table within = absurd (omega arith)
at_with (t ∷ tables) zero table within = refl
at_with (t ∷ tables) (suc number) table within = at_with tables number table (omega arith)

pub with_with : (tables : List Table) (number : ℕ) (a b : Table) → with_table (with_table tables number a) number b ≡ with_table tables number b
with_with [] number a b = refl
with_with (t ∷ tables) zero a b = refl
with_with (t ∷ tables) (suc number) a b = ap (λ ts. t ∷ ts) (with_with tables number a b)

pub with_itself : (tables : List Table) (number : ℕ) → with_table tables number (table_at tables number) ≡ tables
with_itself [] number = refl
with_itself (t ∷ tables) zero = refl
with_itself (t ∷ tables) (suc number) = ap (λ ts. t ∷ ts) (with_itself tables number)

pub length-with : (tables : List Table) (number : ℕ) (table : Table) → length (with_table tables number table) ≡ length tables
length-with [] number table = refl
length-with (t ∷ tables) zero table = refl
length-with (t ∷ tables) (suc number) table = omega (arith, length-with tables number table)

-- a change of one table and its inverse
pub back_with : (f : Table → Table) (tables : List Table) (number : ℕ) (table : Table) → number < length tables → f table ≡ table_at tables number
    → with_table (with_table tables number table) number (f (table_at (with_table tables number table) number)) ≡ tables
back_with f tables number table within back =
    ap (λ t. with_table (with_table tables number table) number (f t)) (at_with tables number table within)
    ∙ ap (with_table (with_table tables number table) number) back
    ∙ with_with tables number table (table_at tables number) ∙ with_itself tables number

-- ---- steps

rolled_push : (steps : List Step) (step : Step) (tables : List Table) → rolled (steps ++ step ∷ []) tables ≡ rolled steps (undone step tables)
rolled_push [] step tables = refl
rolled_push (s ∷ steps) step tables = ap (undone s) (rolled_push steps step tables)

pub past_push : (steps : List Step) (step : Step) (tables : List Table) → past_of (steps ++ step ∷ []) tables ≡ past_of steps (undone step tables) ++ undone step tables ∷ []
past_push [] step tables = refl
past_push (s ∷ steps) step tables = ap₂ (λ (t : List Table) (ts : List (List Table)). t ∷ ts) (ap (undone s) (rolled_push steps step tables)) (past_push steps step tables)

pub undoable_push : (steps : List Step) (step : Step) (tables : List Table) → CanUndo step tables → AreUndoable steps (undone step tables) → AreUndoable (steps ++ step ∷ []) tables
undoable_push [] step tables can are = (can, tt)
undoable_push (s ∷ steps) step tables can are = (subst (CanUndo s) (sym (rolled_push steps step tables)) are.0, undoable_push steps step tables can are.1)

pub undoable_pop : (steps : List Step) (step : Step) (tables : List Table) → AreUndoable (steps ++ step ∷ []) tables → CanUndo step tables × AreUndoable steps (undone step tables)
undoable_pop [] step tables are = (are.0, tt)
undoable_pop (s ∷ steps) step tables are =
    let rest = undoable_pop steps step tables are.1 in
    (rest.0, (subst (CanUndo s) (rolled_push steps step tables) are.0, rest.1))

pub length-past : (steps : List Step) (tables : List Table) → length (past_of steps tables) ≡ length steps
length-past [] tables = refl
length-past (s ∷ steps) tables = omega (arith, length-past steps tables)

-- a change that was noted
pub noted_past : (steps after : List Step) (step : Step) (tables now : List Table) → after ≡ steps ++ step ∷ [] → undone step now ≡ tables → past_of after now ≡ past_of steps tables ++ tables ∷ []
noted_past steps after step tables now after_is back = ap (λ ss. past_of ss now) after_is ∙ past_push steps step now ∙ ap (λ ts. past_of steps ts ++ ts ∷ []) back

pub noted_undoable : (steps after : List Step) (step : Step) (tables now : List Table) → after ≡ steps ++ step ∷ [] → undone step now ≡ tables → CanUndo step now → AreUndoable steps tables → AreUndoable after now
noted_undoable steps after step tables now after_is back can are =
    subst (λ ss. AreUndoable ss now) (sym after_is) (undoable_push steps step now can (subst (AreUndoable steps) (sym back) are))

-- tables and their past after a change that was noted
pub noted_store : (steps after : List Step) (step : Step) (tables now next : List Table) → after ≡ steps ++ step ∷ [] → undone step now ≡ tables → now ≡ next
    → record { now = now; past = past_of after now } ≡ changed (record { now = tables; past = past_of steps tables }) next
noted_store steps after step tables now next after_is back now_is =
    ap₂ (λ (n : List Table) (p : List (List Table)). record { now = n; past = p }) now_is (noted_past steps after step tables now after_is back)
