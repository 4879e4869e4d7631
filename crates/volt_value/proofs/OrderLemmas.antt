-- Only equal values compare as equal.
use Rattle.std.proofs.Common.{◌≡◌, refl, ap}
use Rattle.std.proofs.lemmas.Map.Lookups.{exact_signed, exact_bytes}
use Rattle.std.proofs.lemmas.Cmp.{tied_itself}
use Rattle.std.specs.declared.cmp.Ordering.TheVariants.{Equal}
use Rattle.volt_value.specs.declared.value.Value.{Value}
use Rattle.volt_value.specs.declared.value.Value.TheVariants.{Null, Int, Text}
use Rattle.volt_value.specs.Order.{value_cmp}
use Rattle.volt_value.specs.OrderLaws.{value_total}

pub value_cmp-same : (a : Value) → value_cmp a a ≡ Equal
value_cmp-same a = tied_itself value_total a

pub value_cmp-equal : (a b : Value) → value_cmp a b ≡ Equal → a ≡ b
value_cmp-equal Null Null e = refl
value_cmp-equal Null (Int b) e = absurd cc
value_cmp-equal Null (Text u) e = absurd cc
value_cmp-equal (Int a) Null e = absurd cc
value_cmp-equal (Int a) (Int b) e = ap Int (exact_signed a b e)
value_cmp-equal (Int a) (Text u) e = absurd cc
value_cmp-equal (Text t) Null e = absurd cc
value_cmp-equal (Text t) (Int b) e = absurd cc
value_cmp-equal (Text t) (Text u) e = ap Text (exact_bytes t u e)
