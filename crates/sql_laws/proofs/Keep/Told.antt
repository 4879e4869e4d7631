-- A database is told by the shares of its partitions.
use Rattle.std.proofs.Common.{◌≡◌, ℕ, zero, suc, ◌+◌, ◌<◌, ◌≤◌, true, false, ◌==◌, List, [], ◌∷◌, ◌++◌, filter, fold, Option, Some, None, option_map, sym, refl, ap, ◌∙◌, inl, inr, arith}
use Rattle.std.specs.List.{flat_map, list_any, range_with_len}
use Rattle.std.specs.Ordering.{is_lt, ordering_reverse}
use Rattle.std.specs.declared.cmp.Ordering.{Ordering}
use Rattle.std.specs.declared.cmp.Ordering.TheVariants.{Less, Equal, Greater}
use Rattle.std.proofs.lemmas.Bool.{cases_Bool, both_ways, eqb-true, false_from_ne_true}
use Rattle.volt_catalog.specs.declared.table.Table.{Table}
use Rattle.volt_catalog.specs.Rules.{Contents}
use Rattle.volt_catalog.specs.Catalog.{IsCatalog}
use Rattle.sql_plan.specs.Rows.{Cells, row_cmp, row_total}
use Rattle.sql_meaning.specs.Values.{at}
use Rattle.sql_meaning.specs.Tables.{table_at, picked, agree, comes_before, with_row, with_rows, rise, part_of_value, is_part, lies_in}
use Rattle.sql_meaning.specs.Database.{Database, rows_of, IsDatabase, share}
use Rattle.sql_meaning.specs.Parts.{all_parts}
use Rattle.sql_laws.proofs.Plain.Folds.{filter_all, fold_parts, range-distinct, range-has}
use Rattle.sql_laws.proofs.Plain.Rows.{rows_of-share}
use Rattle.sql_laws.proofs.Fits.{part_column, part_of_value-within}
use Rattle.sql_laws.proofs.Change.Twins.{agree_at, any_same}
use Rattle.sql_laws.proofs.Keep.Databases.{behind_it, through}
use Rattle.sql_laws.proofs.Keep.PutBack.{with_rows-none, same_database}

-- ---- two rows with unlike keys may be put in either way round

not_both : (table : Table) (a b : Cells) → comes_before table a b ≡ true → comes_before table b a ≡ false
not_both table a b e = ap is_lt (row_total.antisymm (picked table.key b) (picked table.key a)) ∙ by (row_cmp (picked table.key a) (picked table.key b)) e
  where
    by : (r : Ordering) → is_lt r ≡ true → is_lt (ordering_reverse r) ≡ false
    by Less e = refl
    by Equal e = absurd (cc)
    by Greater e = absurd (cc)

-- a row comes before what another one comes before that it isn't behind of
before_too : (table : Table) (row a x : Cells) → agree table.key a x ≡ false → comes_before table row a ≡ true → comes_before table row x ≡ false → comes_before table x a ≡ true
before_too table row a x apart e f =
    elim (cases_Bool (comes_before table x a)) [
      | inl before ↦ before
      | inr behind ↦
          elim (cases_Bool (comes_before table a x)) [
            | inl later ↦ absurd (both_ways (comes_before table row x) f (through table row a x e later))
            | inr not_later ↦ behind_it table a x not_later apart
          ]
    ]

swap : (table : Table) (a x : Cells) → agree table.key a x ≡ false → agree table.key x a ≡ false → (rows : List Cells) → with_row table x (with_row table a rows) ≡ with_row table a (with_row table x rows)
swap table a x apart apart' [] =
    elim (cases_Bool (comes_before table a x)) [
      | inl before ↦ rw (before, not_both table a x before)
      | inr behind ↦ rw (behind, behind_it table a x behind apart)
    ]
swap table a x apart apart' (row ∷ rows) =
    elim (cases_Bool (comes_before table row a)) [
      | inl ra ↦ elim (cases_Bool (comes_before table row x)) [
        | inl rx ↦ rw (ra, rx, ra) (ap (λ (rs : List Cells). row ∷ rs) (swap table a x apart apart' rows))
        | inr rx ↦ rw (ra, rx, before_too table row a x apart ra rx, ra)
      ]
      | inr ra ↦ elim (cases_Bool (comes_before table row x)) [
        | inl rx ↦ rw (ra, before_too table row x a apart' rx ra, rx, ra)
        | inr rx ↦ elim (cases_Bool (comes_before table a x)) [
          | inl before ↦ rw (ra, before, rx, not_both table a x before)
          | inr behind ↦ rw (ra, behind, rx, behind_it table a x behind apart, ra)
        ]
      ]
    ]

-- ---- rows put in one after another, as a fold

with_rows-fold : (table : Table) (new rows : List Cells) → with_rows table new rows ≡ fold (λ rows row. with_row table row rows) rows new
with_rows-fold table [] rows = refl
with_rows-fold table (row ∷ new) rows = with_rows-fold table new (with_row table row rows)

-- what two functions give of each of a range, where they give the same of all
flat_same : {A : Type 0} (f g : ℕ → List A) (a n : ℕ) → ((p : ℕ) → a ≤ p → p < a + n → f p ≡ g p) → flat_map f (range_with_len a n) ≡ flat_map g (range_with_len a n)
flat_same f g a zero same = refl
flat_same f g a (suc n) same = λ i. same a (omega arith) (omega arith) i ++ flat_same f g (a + 1) n (λ p low high. same p (omega arith) (omega arith)) i

-- ---- the rows of a table

module _ (parts : ℕ) (some : 0 < parts) (catalog : Contents) (rules : IsCatalog catalog) (n : ℕ) where
  module _ (c : ℕ) (e : (table_at catalog n).part ≡ Some c) where
    lies_is : (p : ℕ) (row : Cells) → lies_in parts p (table_at catalog n) row ≡ (part_of_value parts (at row c) == p)
    lies_is p row = ap (λ o. is_part p (option_map (λ column. part_of_value parts (at row column)) o)) e

    lies_at : (p : ℕ) (row : Cells) → lies_in parts p (table_at catalog n) row ≡ true → part_of_value parts (at row c) ≡ p
    lies_at p row l = eqb-true (part_of_value parts (at row c)) p (sym (lies_is p row) ∙ l)

    unlike : (p q : ℕ) (a x : Cells) → (q ≡ p → ⊥) → lies_in parts p (table_at catalog n) a ≡ true → lies_in parts q (table_at catalog n) x ≡ true → agree (table_at catalog n).key a x ≡ false
    unlike p q a x other l m =
        false_from_ne_true (agree (table_at catalog n).key a x) (λ f.
        other (sym (lies_at q x m) ∙ ap (part_of_value parts) (sym (agree_at (table_at catalog n).key a x c f (part_column catalog n c rules e).in_key)) ∙ lies_at p a l))

    somewhere : (row : Cells) → list_any (λ p. lies_in parts p (table_at catalog n) row) (all_parts parts) ≡ true
    somewhere row =
        any_same (λ p. lies_in parts p (table_at catalog n) row) (λ p. part_of_value parts (at row c) == p) (λ p. lies_is p row) (all_parts parts)
        ∙ range-has 0 parts (part_of_value parts (at row c)) (omega arith) (let within = part_of_value-within parts (at row c) some in omega arith)

    by_parts : (rows : List Cells) → rise (table_at catalog n) rows ≡ true
        → rows ≡ fold (λ rows row. with_row (table_at catalog n) row rows) [] (flat_map (λ p. filter (lies_in parts p (table_at catalog n)) rows) (all_parts parts))
    by_parts rows up =
        sym (with_rows-none (table_at catalog n) rows up)
        ∙ with_rows-fold (table_at catalog n) rows []
        ∙ ap (fold (λ rows row. with_row (table_at catalog n) row rows) []) (sym (filter_all (λ row. list_any (λ p. lies_in parts p (table_at catalog n) row) (all_parts parts)) somewhere rows))
        ∙ sym (fold_parts (λ rows row. with_row (table_at catalog n) row rows) (λ p. lies_in parts p (table_at catalog n))
        (λ p q a x other l m s. swap (table_at catalog n) a x (unlike p q a x other l m) (unlike q p x a (λ f. other (sym f)) m l) s)
        (λ p q x l m. sym (lies_at q x m) ∙ lies_at p x l)
        (all_parts parts) (range-distinct 0 parts) rows [])

  rows_told : (xs ys : List Cells) → rise (table_at catalog n) xs ≡ true → rise (table_at catalog n) ys ≡ true
      → ((p : ℕ) → p < parts → filter (lies_in parts p (table_at catalog n)) xs ≡ filter (lies_in parts p (table_at catalog n)) ys) → xs ≡ ys
  rows_told xs ys up up' same = by (table_at catalog n).part refl
    where
      all_in : (table_at catalog n).part ≡ None → (rows : List Cells) → filter (lies_in parts 0 (table_at catalog n)) rows ≡ rows
      all_in e rows = filter_all (lies_in parts 0 (table_at catalog n)) (λ row. ap (λ o. is_part 0 (option_map (λ column. part_of_value parts (at row column)) o)) e) rows

      by : (o : Option ℕ) → (table_at catalog n).part ≡ o → xs ≡ ys
      by None e = sym (all_in e xs) ∙ same 0 some ∙ all_in e ys
      by (Some c) e =
          by_parts c e xs up
          ∙ ap (fold (λ rows row. with_row (table_at catalog n) row rows) []) (flat_same (λ p. filter (lies_in parts p (table_at catalog n)) xs) (λ p. filter (lies_in parts p (table_at catalog n)) ys) 0 parts (λ p low high. same p (omega arith)))
          ∙ sym (by_parts c e ys up')

pub database-told : (parts : ℕ) → 0 < parts → (catalog : Contents) → IsCatalog catalog → (a b : Database) → IsDatabase catalog a → IsDatabase catalog b
    → ((p : ℕ) → p < parts → share parts catalog p a ≡ share parts catalog p b) → a ≡ b
database-told parts some catalog rules a b is_a is_b same =
    same_database a b (is_a.tables ∙ sym is_b.tables) (λ n.
    rows_told parts some catalog rules n (rows_of a n) (rows_of b n) (is_a.each n).ordered (is_b.each n).ordered (λ p below.
    sym (rows_of-share parts catalog p a n is_a.tables) ∙ ap (λ (d : Database). rows_of d n) (same p below) ∙ rows_of-share parts catalog p b n is_b.tables))
