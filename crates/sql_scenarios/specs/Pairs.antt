-- Pairs of numbers, each of which may be NULL.
use Rattle.std.specs.Prelude.{ℕ, Bool, true, false, List, [], ◌∷◌, ◌++◌, codes, Option, Some, None}
use Rattle.volt_value.specs.declared.value.Value.{Value}
use Rattle.volt_value.specs.declared.value.Value.TheVariants.{Null}
use Rattle.volt_value.specs.declared.column.ColType.TheVariants.{Big}
use Rattle.volt_catalog.specs.declared.column.Column.{Column as TableColumn}
use Rattle.volt_catalog.specs.declared.table.Table.{Table}
use Rattle.volt_catalog.specs.Rules.{Contents}
use Rattle.expr_parse.specs.declared.expression.Comparison.TheVariants as compare
use Rattle.sql_plan.specs.declared.expression.Scalar.{Scalar}
use Rattle.sql_plan.specs.declared.expression.Scalar.TheVariants.{Column as Col}
use Rattle.sql_plan.specs.declared.expression.Cond.{Cond}
use Rattle.sql_plan.specs.declared.expression.Cond.TheVariants.{Compare, And}
use Rattle.sql_plan.specs.declared.prepared.Action.TheVariants.{Select}
use Rattle.sql_plan.specs.declared.prepared.Prepared.{Prepared}
use Rattle.sql_plan.specs.declared.select.Aggregated.{Aggregated}
use Rattle.sql_plan.specs.declared.select.Aggregated.TheVariants.{CountRows, Count, Sum, Min, Max}
use Rattle.sql_plan.specs.declared.select.GroupOutput.TheVariants as output
use Rattle.sql_plan.specs.declared.select.Order.{Order}
use Rattle.sql_plan.specs.declared.select.OrderBy.TheVariants.{Column}
use Rattle.sql_plan.specs.declared.select.RowLimit.{RowLimit}
use Rattle.sql_plan.specs.declared.select.Shape.TheVariants.{Rows, Total, Groups}
use Rattle.sql_plan.specs.Rows.{Cells}
use Rattle.sql_meaning.specs.Database.{Database}
use Rattle.sql_meaning.specs.WellFormed.{ascending}
use Rattle.sql_scenarios.specs.Builders.{int, num, reading, by_output}

-- ---- CREATE TABLE pairs (id BIGINT NOT NULL, a BIGINT, b BIGINT, PRIMARY KEY (id)), partitioned on id

abbrev pub number : Bool → List ℕ → TableColumn
number not_null name = record { name = name; kind = Big; not_null = not_null }

abbrev pub pairs : Table
pairs =
    record {
      name = codes "pairs";
      columns = number true (codes "id") ∷ number false (codes "a") ∷ number false (codes "b") ∷ [];
      key = 0 ∷ [];
      part = Some 0;
    }

abbrev pub catalog : Contents
catalog = record { tables = pairs ∷ []; indexes = [] }

abbrev pub pair : ℕ → Value → Value → Cells
pair id a b = int id ∷ a ∷ b ∷ []

abbrev pub a : Scalar
a = Col 1

abbrev pub b : Scalar
b = Col 2

abbrev pub a_holds : Cond
a_holds = Compare compare.Equal a (num 1)

abbrev pub b_holds : Cond
b_holds = Compare compare.Equal b (num 1)

-- ---- databases

abbrev pub none : Database
none = [] ∷ []

-- each choice of 1, 0 and NULL
abbrev pub truths : Database
truths =
    (pair 1 (int 1) (int 1)
    ∷ pair 2 (int 1) (int 0)
    ∷ pair 3 (int 1) Null
    ∷ pair 4 (int 0) (int 1)
    ∷ pair 5 (int 0) (int 0)
    ∷ pair 6 (int 0) Null
    ∷ pair 7 Null (int 1)
    ∷ pair 8 Null (int 0)
    ∷ pair 9 Null Null
    ∷ [])
    ∷ []

abbrev pub grouped : Database
grouped =
    (pair 1 (int 2) (int 10)
    ∷ pair 2 (int 1) (int 5)
    ∷ pair 3 (int 2) (int 7)
    ∷ pair 4 Null (int 3)
    ∷ pair 5 (int 1) Null
    ∷ pair 6 Null Null
    ∷ [])
    ∷ []

-- one of a divides by 0
abbrev pub with_zero : Database
with_zero = (pair 1 (int 5) (int 1) ∷ pair 2 (int 0) (int 1) ∷ pair 3 Null (int 1) ∷ []) ∷ []

-- the first one of a divides by 0, and twice the last one of b is out of range
abbrev pub last_overflows : Database
last_overflows = (pair 1 (int 0) (int 1) ∷ pair 2 (int 1) (int 9223372036854775807) ∷ []) ∷ []

-- the second group of a has a sum that is out of range
abbrev pub second_overflows : Database
second_overflows = (pair 1 (int 1) (int 1) ∷ pair 2 (int 2) (int 9223372036854775807) ∷ pair 3 (int 2) (int 1) ∷ []) ∷ []

-- ---- statements

-- SELECT outputs FROM pairs WHERE filter ORDER BY order LIMIT limit
abbrev pub selecting : List (List ℕ) → List Scalar → Cond → List Order → Option RowLimit → Prepared
selecting names outputs filter order limit =
    reading names (Select (record { left = 0; right = None; filter = filter; shape = Rows outputs order; limit = limit }))

-- SELECT id FROM pairs WHERE filter
abbrev pub ids_where : Cond → Prepared
ids_where filter = selecting (codes "id" ∷ []) (Col 0 ∷ []) filter (ascending 0 ∷ []) None

abbrev pub every : Cond
every = And []

-- SELECT id FROM pairs ORDER BY order LIMIT limit: ids tell rows apart
abbrev pub ids_by : List Order → Option RowLimit → Prepared
ids_by order limit = selecting (codes "id" ∷ []) (Col 0 ∷ []) every (order ++ ascending 0 ∷ []) limit

abbrev pub descending : ℕ → Order
descending n = record { by = Column n; descending = true }

-- SELECT p.id, q.id FROM pairs p JOIN pairs q ON on WHERE filter
abbrev pub joined : Cond → Cond → Prepared
joined on filter =
    reading (codes "id" ∷ codes "id" ∷ [])
    (Select (record {
      left = 0;
      right = Some (record { table = 0; on = on });
      filter = filter;
      shape = Rows (Col 0 ∷ Col 3 ∷ []) (ascending 0 ∷ ascending 3 ∷ []);
      limit = None;
    }))

-- SELECT e AS x FROM pairs ORDER BY id LIMIT limit
abbrev pub values_of : List Scalar → Option RowLimit → Prepared
values_of outputs limit = selecting (codes "x" ∷ []) outputs every (ascending 0 ∷ []) limit

-- SELECT COUNT(*), COUNT(b), SUM(b), MIN(b), MAX(b) FROM pairs
abbrev pub aggregates : List Aggregated
aggregates = CountRows ∷ Count b ∷ Sum b ∷ Min b ∷ Max b ∷ []

abbrev pub totals : Prepared
totals =
    reading (codes "C1" ∷ codes "C2" ∷ codes "C3" ∷ codes "C4" ∷ codes "C5" ∷ [])
    (Select (record { left = 0; right = None; filter = every; shape = Total aggregates; limit = None }))

-- SELECT a, COUNT(*), COUNT(b), SUM(b), MIN(b), MAX(b) FROM pairs GROUP BY a
abbrev pub by_a : Prepared
by_a =
    reading (codes "a" ∷ codes "C2" ∷ codes "C3" ∷ codes "C4" ∷ codes "C5" ∷ codes "C6" ∷ [])
    (Select (record {
      left = 0;
      right = None;
      filter = every;
      shape =
          Groups (1 ∷ []) aggregates
          (output.Column 0 ∷ output.Aggregate 0 ∷ output.Aggregate 1 ∷ output.Aggregate 2 ∷ output.Aggregate 3 ∷ output.Aggregate 4 ∷ [])
          (ascending 0 ∷ []);
      limit = None;
    }))

-- SELECT a, one AS n FROM pairs GROUP BY a ORDER BY n, maybe descending, LIMIT limit
abbrev pub in_order_of : Aggregated → Bool → Option RowLimit → Prepared
in_order_of one descending limit =
    reading (codes "a" ∷ codes "n" ∷ [])
    (Select (record {
      left = 0;
      right = None;
      filter = every;
      shape = Groups (1 ∷ []) (one ∷ []) (output.Column 0 ∷ output.Aggregate 0 ∷ []) (by_output 1 descending ∷ ascending 0 ∷ []);
      limit = limit;
    }))
