-- The order in which rows come.
use Rattle.std.specs.Prelude.{◌≡◌, List}
use Rattle.std.proofs.Common.{refl}
use Rattle.std.specs.declared.cmp.Ordering.{Ordering}
use Rattle.std.specs.declared.cmp.Ordering.TheVariants.{Less, Equal, Greater}
use Rattle.std.specs.Cmp.{IsTotalOrder, back_total}
use Rattle.std.specs.Cmp.Lexicographic.{slice_cmp, lists_total}
use Rattle.std.specs.Ordering.{ordering_reverse}
use Rattle.volt_value.specs.Order.{value_cmp}
use Rattle.volt_value.specs.OrderLaws.{value_total}
use Rattle.sql_plan.specs.declared.row_key.Directed.{Directed}
use Rattle.sql_plan.specs.declared.row_key.Directed.TheVariants.{Ascending, Descending}

-- values in ascending order, or in descending order; the former come first
abbrev pub directed_cmp : Directed → Directed → Ordering
directed_cmp (Ascending a) (Ascending b) = value_cmp a b
directed_cmp (Ascending a) (Descending b) = Less
directed_cmp (Descending a) (Ascending b) = Greater
directed_cmp (Descending a) (Descending b) = value_cmp b a

-- by the first values, then by the second ones, and so on
abbrev pub key_cmp : List Directed → List Directed → Ordering
key_cmp = slice_cmp directed_cmp

turned : (a b : Directed) → directed_cmp a b ≡ ordering_reverse (directed_cmp b a)
turned (Ascending a) (Ascending b) = value_total.antisymm a b
turned (Ascending a) (Descending b) = refl
turned (Descending a) (Ascending b) = refl
turned (Descending a) (Descending b) = (back_total value_total).antisymm a b

through : (a b c : Directed) → directed_cmp a b ≡ Less → directed_cmp b c ≡ Less → directed_cmp a c ≡ Less
through (Ascending a) (Ascending b) (Ascending c) p q = value_total.trans a b c p q
through (Ascending a) b (Descending c) p q = refl
through (Ascending a) (Descending b) (Ascending c) p q = absurd cc
through (Descending a) (Ascending b) c p q = absurd cc
through (Descending a) (Descending b) (Ascending c) p q = absurd cc
through (Descending a) (Descending b) (Descending c) p q = (back_total value_total).trans a b c p q

alike : (a b c : Directed) → directed_cmp a b ≡ Equal → directed_cmp a c ≡ directed_cmp b c
alike (Ascending a) (Ascending b) (Ascending c) p = value_total.congr a b c p
alike (Ascending a) (Ascending b) (Descending c) p = refl
alike (Ascending a) (Descending b) c p = absurd cc
alike (Descending a) (Ascending b) c p = absurd cc
alike (Descending a) (Descending b) (Ascending c) p = refl
alike (Descending a) (Descending b) (Descending c) p = (back_total value_total).congr a b c p

pub directed_total : IsTotalOrder directed_cmp
directed_total = record { antisymm = turned; trans = through; congr = alike }

pub key_total : IsTotalOrder key_cmp
key_total = lists_total directed_total
