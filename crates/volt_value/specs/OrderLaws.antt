-- The order of values is total. The laws of `Ord` cite this.
use Rattle.std.specs.Prelude.{◌≡◌}
use Rattle.std.proofs.Common.{refl}
use Rattle.std.specs.Cmp.{IsTotalOrder, int_cmp_total}
use Rattle.std.specs.Cmp.Lexicographic.{nat_list_cmp_total}
use Rattle.std.specs.Ordering.{ordering_reverse}
use Rattle.std.specs.declared.cmp.Ordering.TheVariants.{Less, Equal}
use Rattle.volt_value.specs.declared.value.Value.{Value}
use Rattle.volt_value.specs.declared.value.Value.TheVariants.{Null, Int, Text}
use Rattle.volt_value.specs.Order.{value_cmp}

turned : (a b : Value) → value_cmp a b ≡ ordering_reverse (value_cmp b a)
turned Null Null = refl
turned Null (Int b) = refl
turned Null (Text u) = refl
turned (Int a) Null = refl
turned (Int a) (Int b) = int_cmp_total.antisymm a b
turned (Int a) (Text u) = refl
turned (Text t) Null = refl
turned (Text t) (Int b) = refl
turned (Text t) (Text u) = nat_list_cmp_total.antisymm t u

through : (a b c : Value) → value_cmp a b ≡ Less → value_cmp b c ≡ Less → value_cmp a c ≡ Less
through Null Null Null p q = p
through Null (Int b) Null p q = absurd cc
through Null (Text u) Null p q = absurd cc
through Null b (Int c) p q = refl
through Null b (Text v) p q = refl
through (Int a) Null c p q = absurd cc
through (Int a) (Int b) Null p q = absurd cc
through (Int a) (Int b) (Int c) p q = int_cmp_total.trans a b c p q
through (Int a) (Int b) (Text v) p q = refl
through (Int a) (Text u) Null p q = absurd cc
through (Int a) (Text u) (Int c) p q = absurd cc
through (Int a) (Text u) (Text v) p q = refl
through (Text t) Null c p q = absurd cc
through (Text t) (Int b) c p q = absurd cc
through (Text t) (Text u) Null p q = absurd cc
through (Text t) (Text u) (Int c) p q = absurd cc
through (Text t) (Text u) (Text v) p q = nat_list_cmp_total.trans t u v p q

alike : (a b c : Value) → value_cmp a b ≡ Equal → value_cmp a c ≡ value_cmp b c
alike Null Null c p = refl
alike Null (Int b) c p = absurd cc
alike Null (Text u) c p = absurd cc
alike (Int a) Null c p = absurd cc
alike (Int a) (Int b) Null p = refl
alike (Int a) (Int b) (Int c) p = int_cmp_total.congr a b c p
alike (Int a) (Int b) (Text v) p = refl
alike (Int a) (Text u) c p = absurd cc
alike (Text t) Null c p = absurd cc
alike (Text t) (Int b) c p = absurd cc
alike (Text t) (Text u) Null p = refl
alike (Text t) (Text u) (Int c) p = refl
alike (Text t) (Text u) (Text v) p = nat_list_cmp_total.congr t u v p

pub value_total : IsTotalOrder value_cmp
value_total = record { antisymm = turned; trans = through; congr = alike }
