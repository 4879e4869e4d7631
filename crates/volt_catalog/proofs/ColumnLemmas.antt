-- Columns whose names are put into a list one after another.
use Rattle.std.proofs.Common.{◌≡◌, ℕ, suc, ◌+◌, ◌<◌, get_or, add-one, drop-cons, Bool, true, false, not, ◌&&◌, List, [], ◌∷◌, ◌++◌, length, map, drop, arith, refl, sym, ap, ◌∙◌}
use Rattle.std.proofs.lemmas.List.Folds.{list_any-append}
use Rattle.std.specs.Cmp.{partial_equiv_from_equiv}
use Rattle.std.specs.Cmp.Lexicographic.{nat_list_eq_equiv}
use Rattle.std.specs.List.{list_any, list_all}
use Rattle.std.specs.Str.{bytes_eq}
use Rattle.volt_catalog.specs.declared.column.Column.{Column}
use Rattle.volt_catalog.specs.Names.{lower, same_name, differ}

pub bytes_eq-turned : (a b : List ℕ) → bytes_eq a b ≡ bytes_eq b a
bytes_eq-turned a b = (partial_equiv_from_equiv nat_list_eq_equiv).symm a b

-- none of these names is among those in lower case
abbrev pub are_new : List (List ℕ) → List (List ℕ) → Bool
are_new kept names = list_all (λ name. not (list_any (bytes_eq (lower name)) kept)) names

-- names differ from those that are kept and from one another
abbrev pub may_follow : List (List ℕ) → List (List ℕ) → Bool
may_follow kept names = are_new kept names && differ names

are_new-push : (kept names : List (List ℕ)) (name : List ℕ) → are_new (kept ++ lower name ∷ []) names ≡ (are_new kept names && not (list_any (same_name name) names))
are_new-push kept [] name = refl
are_new-push kept (next ∷ names) name =
    grind (arith, are_new-push kept names name, list_any-append (bytes_eq (lower next)) kept (lower name ∷ []), bytes_eq-turned (lower next) (lower name))

are_new-nothing : (names : List (List ℕ)) → are_new [] names ≡ true
are_new-nothing [] = refl
are_new-nothing (name ∷ names) = are_new-nothing names

pub may_follow-nothing : (names : List (List ℕ)) → may_follow [] names ≡ differ names
may_follow-nothing names = rw (are_new-nothing names) refl

pub may_follow-new : (kept names : List (List ℕ)) (name : List ℕ) → list_any (bytes_eq (lower name)) kept ≡ false → may_follow kept (name ∷ names) ≡ may_follow (kept ++ lower name ∷ []) names
may_follow-new kept names name new = grind (arith, are_new-push kept names name)

-- what is left of the columns, from one of them on
pub from_here : (columns : List Column) (i : ℕ) (column : Column) → i < length columns → column ≡ get_or columns i column
    → map (λ column. column.name) (drop i columns) ≡ column.name ∷ map (λ column. column.name) (drop (i + 1) columns)
from_here columns i column lt is = rw (add-one, drop-cons columns i column) (ap (λ (first : Column). first.name ∷ map (λ column. column.name) (drop (suc i) columns)) (sym is))

pub next_column : (columns : List Column) (i : ℕ) (column : Column) (kept after : List (List ℕ)) (asked : List ℕ) (whole fresh : Bool) → i < length columns → column ≡ get_or columns i column → asked ≡ column.name
    → fresh ≡ not (list_any (bytes_eq (lower asked)) kept) → fresh ≡ true → after ≡ kept ++ lower asked ∷ []
    → may_follow kept (map (λ column. column.name) (drop i columns)) ≡ whole → may_follow after (map (λ column. column.name) (drop (i + 1) columns)) ≡ whole
next_column columns i column kept after asked whole fresh lt is same test new put held =
    let free : list_any (bytes_eq (lower column.name)) kept ≡ false = rw (← same) (grind (arith, test, new)) in
    rw (put, same) (sym (may_follow-new kept (map (λ column. column.name) (drop (i + 1) columns)) column.name free) ∙ (rw (from_here columns i column lt is) at held))
