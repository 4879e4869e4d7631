-- A name stands for a column that is there, with its class.
use Rattle.std.proofs.Common.{◌≡◌, ℕ, zero, suc, ◌+◌, ◌<◌, Bool, true, nat_lt, List, [], ◌∷◌, ◌++◌, map, length, slice_get, position, Option, Some, None, unwrap_or, refl, sym, subst, ap, ◌∙◌, arith, if◌then◌else◌}
use Rattle.std.specs.List.{list_all, position_or_len}
use Rattle.std.proofs.lemmas.Bool.{cond_both, and_parts, ltb-true}
use Rattle.std.proofs.lemmas.List.{length-map}
use Rattle.volt_value.specs.declared.column.Class.{Class}
use Rattle.volt_value.specs.Columns.{class_of}
use Rattle.volt_catalog.specs.declared.column.Column.{Column}
use Rattle.volt_catalog.specs.declared.table.Table.{Table}
use Rattle.volt_catalog.specs.Names.{same_name}
use Rattle.volt_catalog.specs.Rules.{Contents}
use Rattle.volt_catalog.specs.Catalog.{table_of}
use Rattle.expr_parse.specs.declared.expression.ColumnName.{ColumnName}
use Rattle.sql_resolve.specs.declared.names.FoundColumn.{FoundColumn}
use Rattle.sql_resolve.specs.Named.{Named, Tables, columns_of}
use Rattle.sql_resolve.specs.Names.{among, goes_by, columns_in, width, only, column_of}
use Rattle.sql_resolve.specs.Tables.{numbered, at_number, table_named, class_at}
use Rattle.sql_meaning.specs.Tables.{no_table, table_at}

-- ---- lists

pub some-same : {A : Type 0} (x y : A) → Some x ≡ Some y → x ≡ y
some-same x y e = cc

pub get-left : {A : Type 0} (xs ys : List A) (n : ℕ) (x : A) → slice_get xs n ≡ Some x → slice_get (xs ++ ys) n ≡ Some x
get-left [] ys n x e = absurd (cc)
get-left (y ∷ xs) ys zero x e = e
get-left (y ∷ xs) ys (suc n) x e = get-left xs ys n x e

pub get-right : {A : Type 0} (xs ys : List A) (n : ℕ) → slice_get (xs ++ ys) (length xs + n) ≡ slice_get ys n
get-right [] ys n = let e : 0 + n ≡ n = omega arith in ap (slice_get ys) e
get-right (x ∷ xs) ys n =
    let e : length (x ∷ xs) + n ≡ suc (length xs + n) = omega arith in
    ap (slice_get (x ∷ (xs ++ ys))) e ∙ get-right xs ys n

pub all-at : {A : Type 0} (p : A → Bool) (xs : List A) (n : ℕ) (x : A) → list_all p xs ≡ true → slice_get xs n ≡ Some x → p x ≡ true
all-at p [] n x h e = absurd (cc)
all-at p (y ∷ xs) zero x h e = subst (λ z. p z ≡ true) (some-same y x e) (and_parts (p y) (list_all p xs) h).0
all-at p (y ∷ xs) (suc n) x h e = all-at p xs n x (and_parts (p y) (list_all p xs) h).1 e

pub position-within : {A : Type 0} (p : A → Bool) (xs : List A) (n : ℕ) → position p xs ≡ Some n → n < length xs
position-within p xs n = cond_both (nat_lt (position_or_len p xs) (length xs)) (Some (position_or_len p xs)) None (λ o. o ≡ Some n → n < length xs)
    (λ within e. subst (λ m. m < length xs) (some-same (position_or_len p xs) n e) (ltb-true (position_or_len p xs) (length xs) within))
    (λ past e. absurd (cc))

-- ---- classes

abbrev pub classes : List Column → List Class
classes columns = map (λ column. class_of column.kind) columns

-- the classes of the row of all tables
abbrev pub classes_in : Tables → List Class
classes_in names = classes (columns_of names.left) ++ classes (columns_of names.right)

pub class_at-is : (columns : List Column) (n : ℕ) (class : Class) → slice_get (classes columns) n ≡ Some class → class_at columns n ≡ class
class_at-is [] n class e = absurd (cc)
class_at-is (column ∷ columns) zero class e = some-same (class_of column.kind) class e
class_at-is (column ∷ columns) (suc n) class e = class_at-is columns n class e

-- ---- names

-- where the name of a column is found it is one of a row of these classes
abbrev pub FindsColumns : List Class → Tables → Type 0
FindsColumns all names = (name : ColumnName) (column : FoundColumn) → column_of names name ≡ Some column → slice_get all column.number ≡ Some column.class

module _ (all : List Class) where
  abbrev AreThere : List FoundColumn → Type 0
  AreThere [] = Unit {0}
  AreThere (column ∷ columns) = (slice_get all column.number ≡ Some column.class) × AreThere columns

  there-append : (xs ys : List FoundColumn) → AreThere xs → AreThere ys → AreThere (xs ++ ys)
  there-append [] ys h k = k
  there-append (x ∷ xs) ys h k = (h.0, there-append xs ys h.1 k)

  -- columns from a number on
  abbrev StandFrom : ℕ → List Column → Type 0
  StandFrom n columns = (k : ℕ) (class : Class) → slice_get (classes columns) k ≡ Some class → slice_get all (n + k) ≡ Some class

  among_there : (n : ℕ) (name : List ℕ) (columns : List Column) → StandFrom n columns → AreThere (among n name columns)
  among_there n name [] h = tt
  among_there n name (column ∷ columns) h =
      let first : n + 0 ≡ n = omega arith in
      there-append (if same_name name column.name then record { number = n; class = class_of column.kind } ∷ [] else []) (among (n + 1) name columns)
      (cond_both (same_name name column.name) (record { number = n; class = class_of column.kind } ∷ []) [] AreThere
      (λ same. (subst (λ m. slice_get all m ≡ Some (class_of column.kind)) first (h 0 (class_of column.kind) refl), tt)) (λ other. tt))
      (among_there (n + 1) name columns (λ k class e. let next : n + suc k ≡ n + 1 + k = omega arith in subst (λ m. slice_get all m ≡ Some class) next (h (suc k) class e)))

  columns_there : (n : ℕ) (name : ColumnName) (table : Option Named) → StandFrom n (columns_of table) → AreThere (columns_in n name table)
  columns_there n name None h = tt
  columns_there n name (Some table) h = cond_both (goes_by name.table table.name) (among n name.column table.table.columns) [] AreThere (λ same. among_there n name.column table.table.columns h) (λ other. tt)

  only_there : (xs : List FoundColumn) (column : FoundColumn) → AreThere xs → only xs ≡ Some column → slice_get all column.number ≡ Some column.class
  only_there [] column h e = absurd (cc)
  only_there (x ∷ []) column h e = subst (λ y. slice_get all y.number ≡ Some y.class) (some-same x column e) h.0
  only_there (x ∷ y ∷ xs) column h e = absurd (cc)

width-is : (table : Option Named) → width table ≡ length (classes (columns_of table))
width-is None = refl
width-is (Some table) = sym (length-map table.table.columns (λ column. class_of column.kind))

pub finds_columns : (names : Tables) → FindsColumns (classes_in names) names
finds_columns names name column =
    only_there (classes_in names) (columns_in 0 name names.left ++ columns_in (width names.left) name names.right) column
    (there-append (classes_in names) (columns_in 0 name names.left) (columns_in (width names.left) name names.right)
    (columns_there (classes_in names) 0 name names.left (λ k class e.
    let same : k ≡ 0 + k = omega arith in subst (λ m. slice_get (classes_in names) m ≡ Some class) same (get-left (classes (columns_of names.left)) (classes (columns_of names.right)) k class e)))
    (columns_there (classes_in names) (width names.left) name names.right (λ k class e.
    ap (λ n. slice_get (classes_in names) (n + k)) (width-is names.left) ∙ get-right (classes (columns_of names.left)) (classes (columns_of names.right)) k ∙ e)))

-- ---- tables

at_number-is : (tables : List Table) (o : Option ℕ) (found : ℕ × Table) → at_number tables o ≡ Some found → slice_get tables found.0 ≡ Some found.1
at_number-is tables None found e = absurd (cc)
at_number-is tables (Some n) found e = by (slice_get tables n) refl e
  where
    by : (o : Option Table) → slice_get tables n ≡ o → numbered n o ≡ Some found → slice_get tables found.0 ≡ Some found.1
    by None f e = absurd (cc)
    by (Some table) f e =
        let same : (n, table) ≡ found = some-same (n, table) found e in
        subst (λ p. slice_get tables p.0 ≡ Some p.1) same f

pub table_named-is : (catalog : Contents) (name : List ℕ) (found : ℕ × Table) → table_named catalog name ≡ Some found → slice_get catalog.tables found.0 ≡ Some found.1
table_named-is catalog name found e = at_number-is catalog.tables (table_of catalog name) found e

pub table_at-is : (catalog : Contents) (n : ℕ) (table : Table) → slice_get catalog.tables n ≡ Some table → table_at catalog n ≡ table
table_at-is catalog n table e = ap (λ o. unwrap_or o no_table) e
