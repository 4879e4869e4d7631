-- Steps that are undone, one after another.
use Rattle.std.proofs.Common.{◌≡◌, ℕ, suc, ◌+◌, ◌<◌, ◌≤◌, true, false, List, [], ◌∷◌, ◌++◌, length, take, inl, inr, refl, sym, ap, ◌∙◌, subst, arith, length-append}
use Rattle.std.proofs.lemmas.Bool.{false≢true, cases_lt}
use Rattle.std.proofs.lemmas.List.{take_at, take_all, take-take}
use Rattle.table_rows.specs.Table.{Table}
use Rattle.table_store.specs.declared.step.Step.{Step}
use Rattle.table_store.specs.Steps.{Store, undone, past_of, AreUndoable, CanUndo, history}
use Rattle.table_store.proofs.StepLemmas.{past_push, undoable_pop, length-past}

pub not_below : (m n : ℕ) → (m < n → false ≡ true) → n ≤ m
not_below m n h = elim (cases_lt m n) [
  | inl lt ↦ absurd (false≢true (h lt))
  | inr le ↦ le
]

pub popped : (steps before : List Step) (step : Step) (tables : List Table) → before ≡ steps ++ step ∷ [] → AreUndoable before tables → CanUndo step tables × AreUndoable steps (undone step tables)
popped steps before step tables is are = undoable_pop steps step tables (subst (λ ss. AreUndoable ss tables) is are)

pub popped_history : (steps before : List Step) (step : Step) (tables after : List Table) → before ≡ steps ++ step ∷ [] → after ≡ undone step tables
    → past_of before tables ++ tables ∷ [] ≡ (past_of steps after ++ after ∷ []) ++ tables ∷ []
popped_history steps before step tables after is after_is =
    ap (λ ss. past_of ss tables ++ tables ∷ []) is
    ∙ ap (λ past. past ++ tables ∷ []) (past_push steps step tables ∙ ap (λ ts. past_of steps ts ++ ts ∷ []) (sym after_is))

length-history : (store : Store) → length (history store) ≡ length store.past + 1
length-history store = length-append store.past (store.now ∷ [])

pub rolled_start : (store : Store) → history store ≡ take (length store.past + 1) (history store)
rolled_start store = sym (take_all (length store.past + 1) (history store) (let l = length-history store in omega arith))

pub fewer : (before after : Store) → history before ≡ history after ++ before.now ∷ [] → length before.past ≡ suc (length after.past)
fewer before after is =
    let lengths = ap (length {A = List Table}) is in
    let a = length-history before in
    let b = length-history after in
    let d = length-append (history after) (before.now ∷ []) in
    omega arith

pub rolled_step : (start before after : Store) → history before ≡ take (length before.past + 1) (history start) → history before ≡ history after ++ before.now ∷ []
    → history after ≡ take (length after.past + 1) (history start)
rolled_step start before after rolled is =
    sym (take_at (history after) (before.now ∷ []) (length after.past + 1) (length-history after))
    ∙ ap (take (length after.past + 1)) (sym is ∙ rolled)
    ∙ take-take (length after.past + 1) (length before.past + 1) (history start) (let few = fewer before after is in omega arith)
