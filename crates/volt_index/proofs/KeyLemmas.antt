-- Keys of lists of values.
use Rattle.std.proofs.Common.{List, [], ◌∷◌, ◌++◌}
use Rattle.volt_value.specs.declared.value.Value.{Value}
use Rattle.volt_index.specs.Keys.{IsHeld, AreHeld}

pub AreHeld_push : (values : List Value) (value : Value) → AreHeld values → IsHeld value → AreHeld (values ++ value ∷ [])
AreHeld_push [] value are is = (is, tt)
AreHeld_push (first ∷ values) value are is = (are.0, AreHeld_push values value are.1 is)
