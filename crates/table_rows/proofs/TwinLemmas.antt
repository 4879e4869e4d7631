-- Whether two rows agree doesn't depend on their order.
use Rattle.std.proofs.Common.{◌≡◌, ℕ, ◌+◌, ◌≤◌, Bool, true, false, cond, ◌||◌, List, [], ◌∷◌, map, sum_by, inl, inr, refl, sym, ap, ap₂, ◌∙◌, subst, arith}
use Rattle.std.proofs.lemmas.Bool.{cases_Bool}
use Rattle.std.proofs.lemmas.Cmp.{tied_itself}
use Rattle.std.proofs.lemmas.List.Sorted.{sum_by-IsPermutation}
use Rattle.std.proofs.lemmas.List.Sums.{sum_by-cons}
use Rattle.std.specs.List.{AllByRecursion}
use Rattle.std.specs.List.Sorted.{IsPermutation}
use Rattle.std.specs.Ordering.{is_eq}
use Rattle.std.specs.declared.cmp.Ordering.{Ordering}
use Rattle.std.specs.declared.cmp.Ordering.TheVariants.{Less, Equal, Greater}
use Rattle.volt_value.specs.declared.value.Value.{Value}
use Rattle.table_rows.specs.Order.{row_cmp, agree}
use Rattle.table_rows.specs.Spread.{Spread, IsSpread}
use Rattle.table_rows.specs.Table.{Table, first_of, agrees_with_one, has_twins, has_duplicates, IsTable}
use Rattle.table_rows.specs.Keyed.{AreApart}
use Rattle.table_rows.specs.Standing.{keys_of, standing_table, IsStanding}
use Rattle.table_rows.specs.declared.keyed.KeyedIndex.{KeyedIndex}
use Rattle.row_codec.specs.Packing.{IsRow}
use Rattle.table_rows.specs.Keyed.{placed_cmp}
use Rattle.table_rows.specs.Order.{in_order_by}
use Rattle.table_rows.proofs.RowOrder.{row_total, is_equal}
use Rattle.table_rows.proofs.PlacedOrder.{Held, All-in_order, none_agrees as none_agree, order_again, rows_order, same_rows_permuted}
use Rattle.table_rows.proofs.KeyedChanges.{AllKept, first_apart}
use Rattle.table_rows.proofs.TableChanges.{All-map}
use Rattle.table_rows.proofs.ChangeLemmas.{rows_fit}

abbrev pub Rows : Type 0
Rows = List (List Value)

pub or_parts : (a b : Bool) → (a || b) ≡ false → (a ≡ false) × (b ≡ false)
or_parts true b h = absurd cc
or_parts false b h = (refl, h)

abbrev like : List ℕ → List Value → List Value → ℕ
like columns row other = cond (agree columns row other) 1 0

none_like : (columns : List ℕ) (x row : List Value) (rows : Rows) → agrees_with_one columns x rows ≡ false → row_cmp columns row x ≡ Equal → sum_by (like columns row) rows ≡ 0
none_like columns x row [] none same = refl
none_like columns x row (e ∷ rows) none same =
    let parts = or_parts (agree columns x e) (agrees_with_one columns x rows) none in
    let other : agree columns row e ≡ false = ap is_eq ((row_total columns).congr row x e same) ∙ parts.0 in
    sum_by-cons (like columns row) e rows ∙ ap₂ (λ (b : Bool) (n : ℕ). cond b 1 0 + n) other (none_like columns x row rows parts.1 same)

few_like : (columns : List ℕ) (row : List Value) (rows : Rows) → has_twins columns rows ≡ false → sum_by (like columns row) rows ≤ 1
few_like columns row [] none = omega arith
few_like columns row (x ∷ rows) none =
    let parts = or_parts (agrees_with_one columns x rows) (has_twins columns rows) none in
    subst (λ n. n ≤ 1) (sym (sum_by-cons (like columns row) x rows)) (elim (cases_Bool (agree columns row x)) [
      | inl same ↦
          let rest = none_like columns x row rows parts.0 (is_equal (row_cmp columns row x) same) in
          subst (λ n. n ≤ 1) (sym (ap₂ (λ (b : Bool) (n : ℕ). cond b 1 0 + n) same rest)) (omega arith)
      | inr other ↦ let few = few_like columns row rows parts.1 in subst (λ b. cond b 1 0 + sum_by (like columns row) rows ≤ 1) (sym other) (omega arith)
    ])

none_agrees : (columns : List ℕ) (row : List Value) (rows : Rows) → sum_by (like columns row) rows ≡ 0 → agrees_with_one columns row rows ≡ false
none_agrees columns row [] none = refl
none_agrees columns row (e ∷ rows) none = at (agree columns row e) (sym (sum_by-cons (like columns row) e rows) ∙ none) (λ rest. none_agrees columns row rows rest)
  where
    at : (b : Bool) → cond b 1 0 + sum_by (like columns row) rows ≡ 0 → (sum_by (like columns row) rows ≡ 0 → agrees_with_one columns row rows ≡ false) → (b || agrees_with_one columns row rows) ≡ false
    at true h ih = absurd (omega arith)
    at false h ih = ih (omega arith)

few_twins : (columns : List ℕ) (rows : Rows) → ((row : List Value) → sum_by (like columns row) rows ≤ 1) → has_twins columns rows ≡ false
few_twins columns [] few = refl
few_twins columns (x ∷ rows) few =
    let itself : agree columns x x ≡ true = ap is_eq (tied_itself (row_total columns) x) in
    let one : 1 + sum_by (like columns x) rows ≤ 1
    = subst (λ b. cond b 1 0 + sum_by (like columns x) rows ≤ 1) itself (subst (λ n. n ≤ 1) (sum_by-cons (like columns x) x rows) (few x)) in
    ap₂ (λ (a b : Bool). a || b) (none_agrees columns x rows (omega arith)) (few_twins columns rows (λ row. let all = few row in let parts = sum_by-cons (like columns row) x rows in omega arith))

pub twins_permuted : (columns : List ℕ) (xs ys : Rows) → IsPermutation xs ys → has_twins columns xs ≡ false → has_twins columns ys ≡ false
twins_permuted columns xs ys same none =
    few_twins columns ys (λ row. subst (λ n. n ≤ 1) (sym (sum_by-IsPermutation (like columns row) xs ys same)) (few_like columns row xs none))

pub duplicates_permuted : (keys : List (List ℕ)) (xs ys : Rows) → IsPermutation xs ys → has_duplicates keys xs ≡ false → has_duplicates keys ys ≡ false
duplicates_permuted [] xs ys same none = refl
duplicates_permuted (columns ∷ keys) xs ys same none =
    let parts = or_parts (has_twins columns xs) (has_duplicates keys xs) none in
    ap₂ (λ (a b : Bool). a || b) (twins_permuted columns xs ys same parts.0) (duplicates_permuted keys xs ys same parts.1)

-- ---- what rows and indexes stand for is a table

apart_twins : (columns : List ℕ) (held : Held) → AreApart columns held → has_twins columns (map (λ e. e.1) held) ≡ false
apart_twins columns [] apart = refl
apart_twins columns (e ∷ held) apart = ap₂ (λ (a b : Bool). a || b) (none_agree columns e.1 held apart.0) (apart_twins columns held apart.1)

none_twice : (held : Held) (ks : List KeyedIndex) → AllKept held ks → has_duplicates (keys_of ks) (map (λ e. e.1) held) ≡ false
none_twice held [] are = refl
none_twice held (k ∷ ks) are = ap₂ (λ (a b : Bool). a || b) (apart_twins k.columns held are.0.apart) (none_twice held ks are.1)

pub stands_as_table : (s : Spread) (ks : List KeyedIndex) → IsSpread s → IsStanding s ks → IsTable (standing_table s ks)
stands_as_table s ks spread is =
    let columns = first_of (keys_of ks) in
    let ordered = in_order_by (placed_cmp columns) s.held in
    let apart = first_apart s.held ks is.schema.some is.kept in
    record {
      schema = is.schema;
      rows = All-map (IsRow s.fields) (λ (e : ℕ × List Value). e.1) ordered (All-in_order columns (λ e. IsRow s.fields e.1) s.held (rows_fit s spread));
      sorted = sym (rows_order columns ordered) ∙ ap (map (λ (e : ℕ × List Value). e.1)) (order_again columns columns s.held apart apart);
      unique = duplicates_permuted (keys_of ks) (map (λ (e : ℕ × List Value). e.1) s.held) (map (λ (e : ℕ × List Value). e.1) ordered)
          (same_rows_permuted columns s.held apart) (none_twice s.held ks is.kept);
    }
