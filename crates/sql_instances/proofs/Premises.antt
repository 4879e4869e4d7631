-- The example's plan and databases are what the laws take.
use Rattle.std.proofs.Common.{◌≡◌, ℕ, zero, suc, ◌≤◌, true, List, [], ◌∷◌, codes, None, refl, lit<, lit≤}
use Rattle.volt_catalog.specs.Catalog.{IsCatalog}
use Rattle.volt_value.specs.declared.column.Class.TheVariants as class
use Rattle.expr_parse.specs.declared.expression.Arithmetic.TheVariants.{Add, Subtract}
use Rattle.sql_plan.specs.declared.expression.Scalar.{Scalar}
use Rattle.sql_plan.specs.declared.expression.Scalar.TheVariants.{Param, Column as Col, Chain}
use Rattle.sql_plan.specs.declared.prepared.Scope.{Scope}
use Rattle.sql_plan.specs.declared.prepared.Scope.TheVariants.{OnePartition, AllPartitions}
use Rattle.sql_meaning.specs.Database.{rows_of, AreRows, IsDatabase}
use Rattle.sql_meaning.specs.WellFormed.{gives, is_scope, IsPrepared}
use Rattle.sql_meaning.specs.Plans.{IsProcedure, IsPlan}
use Rattle.sql_meaning.specs.Starter.{catalog, integers, put_row, balance_of, update_balance, total_balance, bigints, plain, add, move, on_first, plan}
use Rattle.sql_meaning.proofs.Accounts.{is_catalog}
use Rattle.sql_instances.proofs.Classes.{classes}
use Rattle.sql_plan.specs.Rows.{Cells}
use Rattle.sql_laws.proofs.Keep.Databases.{rows-none}
use Rattle.sql_scenarios.specs.Builders.{num}
use Rattle.sql_scenarios.specs.Notes as notes
use Rattle.sql_scenarios.specs.Accounts.{accounts, one_more, two}
use Rattle.sql_instances.specs.Instances.{code, four, three}

-- ---- databases

accounts_are : (rows : List Cells) → AreRows catalog 0 rows → IsDatabase catalog (rows ∷ [])
accounts_are rows are = record { tables = refl; each = each }
  where
    each : (n : ℕ) → AreRows catalog n (rows_of (rows ∷ []) n)
    each zero = are
    each (suc n) = rows-none catalog (suc n)

pub database-three : IsDatabase catalog three
database-three = accounts_are (rows_of three 0) (record { fit = refl; ordered = refl; unique = refl })

pub database-two : IsDatabase catalog two
database-two = accounts_are (rows_of two 0) (record { fit = refl; ordered = refl; unique = refl })

pub database-four : IsDatabase catalog four
database-four = accounts_are (rows_of four 0) (record { fit = refl; ordered = refl; unique = refl })

pub database-none : IsDatabase catalog (accounts [])
database-none = accounts_are [] (rows-none catalog 0)

-- ---- statements

put_row-prepared : IsPrepared catalog put_row
put_row-prepared =
    record {
      few_params = lit≤ tt;
      few_columns = lit≤ tt;
      scope = refl;
      action = (record { table = lit< tt; values = simp classes }, refl);
    }

pub balance_of-prepared : (scope : Scope) → is_scope scope true ≡ true → IsPrepared catalog (balance_of scope)
balance_of-prepared scope e =
    record {
      few_params = lit≤ tt;
      few_columns = lit≤ tt;
      scope = e;
      action = record {
        left = lit< tt;
        join = refl;
        filter = simp classes;
        shape = record { give = simp classes; ordered = record { asked = []; whole = refl; numbers = refl } };
        limit = refl;
        distributes = refl;
      };
    }

update_balance-prepared : (scope : Scope) (balance : Scalar) → is_scope scope true ≡ true → gives (integers 2) (integers 2) balance class.Int ≡ true
    → IsPrepared catalog (update_balance scope balance)
update_balance-prepared scope balance e f =
    record {
      few_params = lit≤ tt;
      few_columns = lit≤ tt;
      scope = e;
      action = (record { table = lit< tt; values = simp (classes, f); key = simp classes; filter = simp classes }, refl);
    }

pub total_balance-prepared : IsPrepared catalog total_balance
total_balance-prepared =
    record {
      few_params = lit≤ tt;
      few_columns = lit≤ tt;
      scope = refl;
      action = record { left = lit< tt; join = refl; filter = simp classes; shape = simp classes; limit = refl; distributes = refl };
    }

-- ---- accounts and codes that change

pub one_more-prepared : IsPrepared catalog one_more
one_more-prepared =
    record {
      few_params = lit≤ tt;
      few_columns = lit≤ tt;
      scope = refl;
      action = (record { table = lit< tt; values = simp classes; key = simp classes; filter = simp classes }, refl);
    }

pub is_catalog-notes : IsCatalog notes.catalog
is_catalog-notes =
    record {
      few_tables = lit≤ tt;
      few_indexes = lit≤ tt;
      table_names = refl;
      index_names = refl;
      tables = refl;
      indexes = refl;
    }

pub set_codes-prepared : IsPrepared notes.catalog (notes.set_codes (num 3))
set_codes-prepared =
    record {
      few_params = lit≤ tt;
      few_columns = lit≤ tt;
      scope = refl;
      action = (record { table = lit< tt; values = simp classes; key = simp classes; filter = simp classes }, refl);
    }

pub database-code : IsDatabase notes.catalog (code 1)
database-code = record { tables = refl; each = each }
  where
    each : (n : ℕ) → AreRows notes.catalog n (rows_of (code 1) n)
    each zero = record { fit = refl; ordered = refl; unique = refl }
    each (suc zero) = record { fit = refl; ordered = refl; unique = refl }
    each (suc (suc n)) = rows-none notes.catalog (suc (suc n))

-- ---- procedures

put-procedure : IsProcedure catalog (on_first (codes "Put") 2) (plain 2 put_row)
put-procedure =
    record {
      variables = [];
      params = refl;
      part = refl;
      statements = (record { prepared = put_row-prepared; suits = refl }, tt);
      steps = simp classes;
    }

get-procedure : IsProcedure catalog (on_first (codes "Get") 1) (plain 1 (balance_of OnePartition))
get-procedure =
    record {
      variables = [];
      params = refl;
      part = refl;
      statements = (record { prepared = balance_of-prepared OnePartition refl; suits = refl }, tt);
      steps = simp classes;
    }

add-procedure : IsProcedure catalog (on_first (codes "Add") 2) add
add-procedure =
    record {
      variables = class.Int ∷ [];
      params = refl;
      part = refl;
      statements = (
        record { prepared = balance_of-prepared OnePartition refl; suits = refl },
        (record { prepared = update_balance-prepared OnePartition (Param 0) refl (simp classes); suits = refl }, tt),
      );
      steps = simp classes;
    }

move-procedure : IsProcedure catalog (record { name = codes "Move"; params = bigints 3; part = None }) move
move-procedure =
    record {
      variables = [];
      params = refl;
      part = refl;
      statements = (
        record { prepared = balance_of-prepared AllPartitions refl; suits = refl },
        (
          record { prepared = balance_of-prepared AllPartitions refl; suits = refl },
          (
            record { prepared = update_balance-prepared AllPartitions (Chain (Col 1) ((Subtract, Param 0) ∷ [])) refl (simp classes); suits = refl },
            (record { prepared = update_balance-prepared AllPartitions (Chain (Col 1) ((Add, Param 0) ∷ [])) refl (simp classes); suits = refl }, tt),
          ),
        ),
      );
      steps = simp classes;
    }

total-procedure : IsProcedure catalog (record { name = codes "Total"; params = []; part = None }) (plain 0 total_balance)
total-procedure =
    record {
      variables = [];
      params = refl;
      part = refl;
      statements = (record { prepared = total_balance-prepared; suits = refl }, tt);
      steps = simp classes;
    }

pub is_plan : (parts : ℕ) → 1 ≤ parts → parts ≤ 32 → IsPlan (plan parts)
is_plan parts some few =
    record {
      catalog = is_catalog;
      some_part = some;
      few_parts = few;
      procs = (put-procedure, (get-procedure, (add-procedure, (move-procedure, (total-procedure, tt)))));
    }
