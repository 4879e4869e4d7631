-- What a statement takes and changes.
use Rattle.std.specs.Prelude.{ℕ, Bool, true, false, ◌==◌, ◌&&◌, List, ◌∷◌, length, Option, Some, None, is_some}
use Rattle.volt_value.specs.declared.value.Value.{Value}
use Rattle.volt_value.specs.declared.value.Value.TheVariants as value
use Rattle.volt_value.specs.declared.column.Class.{Class}
use Rattle.volt_value.specs.declared.column.Class.TheVariants as class
use Rattle.sql_plan.specs.declared.prepared.Prepared.{Prepared}
use Rattle.sql_plan.specs.declared.prepared.Action.{Action}
use Rattle.sql_plan.specs.declared.prepared.Action.TheVariants.{Insert, Update, Delete, Select}

-- the table that is changed
abbrev pub written_by : Action → Option ℕ
written_by (Insert insert) = Some insert.table
written_by (Update update) = Some update.table
written_by (Delete delete) = Some delete.table
written_by (Select select) = None

abbrev pub writes : Prepared → Bool
writes statement = is_some (written_by statement.action)

-- a value is NULL or of a class
abbrev pub has_class : Value → Class → Bool
has_class value.Null class = true
has_class (value.Int z) class.Int = true
has_class (value.Text t) class.Text = true
has_class _ _ = false

-- each value is NULL or of its class
abbrev pub have_classes : List Value → List Class → Bool
have_classes (v ∷ vs) (c ∷ cs) = has_class v c && have_classes vs cs
have_classes _ _ = true

-- as many values as parameters, each NULL or of its class
abbrev pub are_arguments : List Value → List Class → Bool
are_arguments values classes = (length values == length classes) && have_classes values classes
