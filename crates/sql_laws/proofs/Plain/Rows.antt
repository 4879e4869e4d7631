-- Rows at places, products of rows, and the rows of tables in a partition's share.
use Rattle.std.proofs.Common.{◌≡◌, ℕ, zero, suc, ◌+◌, ◌<◌, Bool, cond, ◌&&◌, List, [], ◌∷◌, ◌++◌, map, filter, length, slice_get, slice_set, unwrap_or, refl, ap, ◌∙◌, inl, inr, arith}
use Rattle.std.specs.List.{AllByRecursion, zip}
use Rattle.std.proofs.lemmas.Bool.{cases_Bool}
use Rattle.volt_catalog.specs.declared.table.Table.{Table}
use Rattle.volt_catalog.specs.Rules.{Contents}
use Rattle.sql_plan.specs.Rows.{Cells}
use Rattle.sql_meaning.specs.Values.{at}
use Rattle.sql_meaning.specs.Tables.{no_table, table_at, lies_in}
use Rattle.sql_meaning.specs.Database.{Database, rows_of, set_rows, share}
use Rattle.sql_meaning.specs.Selects.{product}
use Rattle.sql_laws.proofs.Plain.Folds.{filter_none}

-- ---- places of a row behind another

pub at-left : (a b : Cells) (n : ℕ) → n < length a → at (a ++ b) n ≡ at a n
at-left [] b n below = absurd (omega arith)
at-left (x ∷ a) b zero below = refl
at-left (x ∷ a) b (suc n) below = at-left a b n (omega arith)

pub at-right : (a b : Cells) (n : ℕ) → at (a ++ b) (length a + n) ≡ at b n
at-right [] b n = ap (at b) (zero_plus n)
  where
    zero_plus : (m : ℕ) → 0 + m ≡ m
    zero_plus m = omega arith
at-right (x ∷ a) b n = ap (at (x ∷ (a ++ b))) (suc_plus (length a) n) ∙ at-right a b n
  where
    suc_plus : (m k : ℕ) → suc m + k ≡ suc (m + k)
    suc_plus m k = omega arith

-- ---- products

pub filter-append : {X : Type 0} (test : X → Bool) (xs ys : List X) → filter test (xs ++ ys) ≡ filter test xs ++ filter test ys
filter-append test [] ys = refl
filter-append test (x ∷ xs) ys =
    elim (cases_Bool (test x)) [
      | inl passes ↦ rw passes (ap (λ (zs : List _). x ∷ zs) (filter-append test xs ys))
      | inr fails ↦ rw fails (filter-append test xs ys)
    ]

pub filter-map : {X Y : Type 0} (test : Y → Bool) (f : X → Y) (xs : List X) → filter test (map f xs) ≡ map f (filter (λ x. test (f x)) xs)
filter-map test f [] = refl
filter-map test f (x ∷ xs) =
    elim (cases_Bool (test (f x))) [
      | inl passes ↦ rw passes (ap (λ (zs : List _). f x ∷ zs) (filter-map test f xs))
      | inr fails ↦ rw fails (filter-map test f xs)
    ]

pub filter-same : {X : Type 0} (p q : X → Bool) → ((x : X) → p x ≡ q x) → (xs : List X) → filter p xs ≡ filter q xs
filter-same p q same [] = refl
filter-same p q same (x ∷ xs) = λ i. cond (same x i) (x ∷ filter-same p q same xs i) (filter-same p q same xs i)

-- the product of rows that pass is the rows of the product in which both do
pub product-filter : (f g F : Cells → Bool) (lefts rights : List Cells) → AllByRecursion (λ left. (right : Cells) → F (left ++ right) ≡ (f left && g right)) lefts
    → product (filter f lefts) (filter g rights) ≡ filter F (product lefts rights)
product-filter f g F [] rights each = refl
product-filter f g F (left ∷ lefts) rights each =
    let rest = product-filter f g F lefts rights each.1 in
    let apart = filter-append F (map (λ right. left ++ right) rights) (product lefts rights) in
    let behind = filter-map F (λ right. left ++ right) rights in
    elim (cases_Bool (f left)) [
      | inl passes ↦ rw (passes, apart, behind, filter-same (λ right. F (left ++ right)) g (λ right. each.0 right ∙ rw passes) rights, rest)
      | inr fails ↦ rw (fails, apart, behind, filter_none (λ right. F (left ++ right)) (λ right. each.0 right ∙ rw fails) rights, rest)
    ]

-- ---- the rows of a table in a share

share_rows : (test : Table → Cells → Bool) (tables : List Table) (db : Database) (n : ℕ) → length db ≡ length tables
    → unwrap_or (slice_get (map (λ t. filter (test t.0) t.1) (zip tables db)) n) [] ≡ filter (test (unwrap_or (slice_get tables n) no_table)) (unwrap_or (slice_get db n) [])
share_rows test [] [] n same = refl
share_rows test [] (rows ∷ db) n same = absurd (omega arith)
share_rows test (t ∷ tables) [] n same = absurd (omega arith)
share_rows test (t ∷ tables) (rows ∷ db) zero same = refl
share_rows test (t ∷ tables) (rows ∷ db) (suc n) same = share_rows test tables db n (omega arith)

pub rows_of-share : (parts : ℕ) (catalog : Contents) (part : ℕ) (db : Database) (n : ℕ) → length db ≡ length catalog.tables
    → rows_of (share parts catalog part db) n ≡ filter (lies_in parts part (table_at catalog n)) (rows_of db n)
rows_of-share parts catalog part db n same = share_rows (lies_in parts part) catalog.tables db n same

share_set : (test : Table → Cells → Bool) (tables : List Table) (db : Database) (n : ℕ) (rows : List Cells)
    → map (λ t. filter (test t.0) t.1) (zip tables (slice_set db n rows)) ≡ slice_set (map (λ t. filter (test t.0) t.1) (zip tables db)) n (filter (test (unwrap_or (slice_get tables n) no_table)) rows)
share_set test [] db n rows = refl
share_set test (t ∷ tables) [] n rows = refl
share_set test (t ∷ tables) (old ∷ db) zero rows = refl
share_set test (t ∷ tables) (old ∷ db) (suc n) rows = ap (λ (rest : Database). filter (test t) old ∷ rest) (share_set test tables db n rows)

pub share-set_rows : (parts : ℕ) (catalog : Contents) (part : ℕ) (db : Database) (n : ℕ) (rows : List Cells)
    → share parts catalog part (set_rows db n rows) ≡ set_rows (share parts catalog part db) n (filter (lies_in parts part (table_at catalog n)) rows)
share-set_rows parts catalog part db n rows = share_set (lies_in parts part) catalog.tables db n rows
