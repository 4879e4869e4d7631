-- What an index's ordered map is sorted by: a key's bytes, and a number that tells entries of one key apart.
use Rattle.std.specs.Prelude.{ℕ, List}
use Rattle.std.specs.Cmp.{IsTotalOrder, nat_cmp_total, on_total, then_total}
use Rattle.std.specs.Cmp.Lexicographic.{slice_cmp, nat_list_cmp_total}
use Rattle.std.specs.Ordering.{nat_cmp, ordering_then}
use Rattle.std.specs.declared.cmp.Ordering.{Ordering}

-- by the bytes, a prefix first, and then by the number
abbrev pub entry_cmp : List ℕ × ℕ → List ℕ × ℕ → Ordering
entry_cmp a b = ordering_then (slice_cmp nat_cmp a.0 b.0) (nat_cmp a.1 b.1)

pub entry_total : IsTotalOrder entry_cmp
entry_total = then_total (on_total (λ e. e.0) nat_list_cmp_total) (on_total (λ e. e.1) nat_cmp_total)
