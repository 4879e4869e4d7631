-- Rows of different partitions have different keys, so that they may be put in order one partition after another.
use Rattle.std.proofs.Common.{◌≡◌, ℕ, ◌+◌, ◌<◌, Bool, true, false, if◌then◌else◌, ◌==◌, ◌&&◌, ◌||◌, List, [], ◌∷◌, ◌++◌, map, length, Option, Some, None, is_some, Result, Ok, Err, sym, refl, ap, ◌∙◌, subst, inl, inr}
use Rattle.std.specs.List.{flat_map, list_any}
use Rattle.std.specs.declared.cmp.Ordering.TheVariants.{Equal}
use Rattle.std.proofs.lemmas.Bool.{and_parts, or_cases, or_left, or_right, eqb-true, eq-eqb}
use Rattle.volt_value.specs.declared.value.Value.{Value}
use Rattle.volt_catalog.specs.Rules.{Contents}
use Rattle.volt_catalog.specs.Catalog.{IsCatalog}
use Rattle.sql_plan.specs.declared.fault.Fault.{Fault}
use Rattle.sql_plan.specs.declared.expression.Scalar.{Scalar}
use Rattle.sql_plan.specs.declared.row_key.Directed.{Directed}
use Rattle.sql_plan.specs.declared.row_key.Directed.TheVariants.{Ascending}
use Rattle.sql_plan.specs.declared.select.JoinPlan.{JoinPlan}
use Rattle.sql_plan.specs.declared.select.Order.{Order}
use Rattle.sql_plan.specs.declared.select.SelectPlan.{SelectPlan}
use Rattle.sql_plan.specs.Keys.{key_cmp, key_total}
use Rattle.sql_plan.specs.Rows.{Cells}
use Rattle.sql_meaning.specs.Judged.{with, collected}
use Rattle.sql_meaning.specs.Values.{at}
use Rattle.sql_meaning.specs.Expressions.{scalar_of}
use Rattle.sql_meaning.specs.Tables.{table_at, part_of_value, is_part}
use Rattle.sql_meaning.specs.Database.{Database, share, IsDatabase}
use Rattle.sql_meaning.specs.Maps.{put_all, latest}
use Rattle.sql_meaning.specs.Selects.{from_rows, is_kept, directed, ordered_by, keyed, output_row}
use Rattle.sql_meaning.specs.Parts.{all_parts}
use Rattle.sql_meaning.specs.WellFormed.{right_table, right_key, from_key, ascending, IsOrder, distributes}
use Rattle.sql_laws.proofs.Plain.Folds.{range-distinct}
use Rattle.sql_laws.proofs.Plain.Maps.{swap_apart}
use Rattle.sql_laws.proofs.Plain.Orders.{key_cmp-equal, map-behind, map-among, map-map}
use Rattle.sql_laws.proofs.Plain.Parts.{put_some, puts_parts}
use Rattle.sql_laws.proofs.Fits.{part_column}
use Rattle.sql_laws.proofs.Select.Homes.{part_by, right_column, left_table, right_part, is_home, has_home, is_home-one, from_rows-share, behind}
use Rattle.sql_laws.proofs.Select.Kept.{entry_in, given, entries, no_entries}

-- ---- the partitioning columns are in the key of the row of all tables

any-append : {X : Type 0} (f : X → Bool) (xs ys : List X) → list_any f (xs ++ ys) ≡ (list_any f xs || list_any f ys)
any-append f [] ys = refl
any-append f (x ∷ xs) ys = ap (λ b. f x || b) (any-append f xs ys) ∙ or-assoc (f x) (list_any f xs) (list_any f ys)
  where
    or-assoc : (a b c : Bool) → (a || (b || c)) ≡ ((a || b) || c)
    or-assoc true b c = refl
    or-assoc false b c = refl

any_shifted : (w n : ℕ) (ns : List ℕ) → list_any (λ k. k == n) ns ≡ true → list_any (λ k. k == w + n) (map (λ k. w + k) ns) ≡ true
any_shifted w n [] e = absurd (cc)
any_shifted w n (m ∷ ns) e =
    elim (or_cases (m == n) (list_any (λ k. k == n) ns) e) [
      | inl same ↦ or_left (w + m == w + n) (list_any (λ k. k == w + n) (map (λ k. w + k) ns)) (eq-eqb (w + m) (w + n) (ap (λ k. w + k) (eqb-true m n same)))
      | inr later ↦ or_right (w + m == w + n) (list_any (λ k. k == w + n) (map (λ k. w + k) ns)) (any_shifted w n ns later)
    ]

left_among : (catalog : Contents) (rules : IsCatalog catalog) (select : SelectPlan) (n : ℕ) → (left_table catalog select).part ≡ Some n → list_any (λ k. k == n) (from_key catalog select) ≡ true
left_among catalog rules select n e =
    let left = left_table catalog select in
    any-append (λ k. k == n) left.key (right_key (length left.columns) (right_table catalog select.right))
    ∙ or_left (list_any (λ k. k == n) left.key) (list_any (λ k. k == n) (right_key (length left.columns) (right_table catalog select.right))) (part_column catalog select.left n rules e).in_key

right_among_by : (catalog : Contents) (rules : IsCatalog catalog) (w : ℕ) (join : Option JoinPlan) (m : ℕ) → right_column catalog w join ≡ Some m → list_any (λ k. k == m) (right_key w (right_table catalog join)) ≡ true
right_among_by catalog rules w None m e = absurd (cc)
right_among_by catalog rules w (Some join) m e =
    let found = behind w m (table_at catalog join.table).part e in
    subst (λ k. list_any (λ j. j == k) (map (λ n. w + n) (table_at catalog join.table).key) ≡ true) found.2
    (any_shifted w found.0 (table_at catalog join.table).key (part_column catalog join.table found.0 rules found.1).in_key)

right_among : (catalog : Contents) (rules : IsCatalog catalog) (select : SelectPlan) (m : ℕ) → right_part catalog select ≡ Some m → list_any (λ k. k == m) (from_key catalog select) ≡ true
right_among catalog rules select m e =
    let left = left_table catalog select in
    any-append (λ k. k == m) left.key (right_key (length left.columns) (right_table catalog select.right))
    ∙ or_right (list_any (λ k. k == m) left.key) (list_any (λ k. k == m) (right_key (length left.columns) (right_table catalog select.right)))
    (right_among_by catalog rules (length left.columns) select.right m e)

-- ---- rows that agree on the key lie in one partition

same_parts : (parts p q : ℕ) (a b : Option ℕ) (x y : Cells) → (is_some a || is_some b) ≡ true
    → ((n : ℕ) → a ≡ Some n → at x n ≡ at y n) → ((n : ℕ) → b ≡ Some n → at x n ≡ at y n)
    → (is_part p (part_by parts a x) && is_part p (part_by parts b x)) ≡ true → (is_part q (part_by parts a y) && is_part q (part_by parts b y)) ≡ true → q ≡ p
same_parts parts p q (Some n) b x y has first second e f =
    let u = and_parts (part_of_value parts (at x n) == p) (is_part p (part_by parts b x)) e in
    let v = and_parts (part_of_value parts (at y n) == q) (is_part q (part_by parts b y)) f in
    sym (eqb-true (part_of_value parts (at y n)) q v.0) ∙ ap (part_of_value parts) (sym (first n refl)) ∙ eqb-true (part_of_value parts (at x n)) p u.0
same_parts parts p q None (Some n) x y has first second e f =
    sym (eqb-true (part_of_value parts (at y n)) q f) ∙ ap (part_of_value parts) (sym (second n refl)) ∙ eqb-true (part_of_value parts (at x n)) p e
same_parts parts p q None None x y has first second e f = absurd (cc)

ascending-one : (x y : Value) → Ascending x ≡ Ascending y → x ≡ y
ascending-one x y e = cc

-- the values of a key's last columns
key_agrees : (order : List Order) (outputs columns : ℕ) (last : List ℕ) → IsOrder outputs columns last order → (x y shown other : Cells)
    → (keyed order x shown).0 ≡ (keyed order y other).0 → (n : ℕ) → list_any (λ k. k == n) last ≡ true → at x n ≡ at y n
key_agrees order outputs columns last is x y shown other e n here =
    let f : Order → Directed = λ o. directed o.descending (ordered_by shown x o.by) in
    let g : Order → Directed = λ o. directed o.descending (ordered_by other y o.by) in
    let split : map f (is.asked ++ map ascending last) ≡ map g (is.asked ++ map ascending last) = subst (λ os. map f os ≡ map g os) is.whole e in
    let lasts : map f (map ascending last) ≡ map g (map ascending last) = map-behind f g is.asked (map ascending last) split in
    ascending-one (at x n) (at y n) (map-among (λ k. Ascending (at x k)) (λ k. Ascending (at y k)) n last (sym (map-map f ascending last) ∙ lasts ∙ map-map g ascending last) here)

-- the entry of a row
entry_of_kept : (kept : Result Bool Fault) (shown : Result Cells Fault) (order : List Order) (row : Cells) (e : List Directed × Cells)
    → entry_in (with kept (λ k. if k then with (with shown (λ s. Ok (keyed order row s))) (λ x. Ok (Some x)) else Ok None)) ≡ Some e
    → (s : Cells) × (e ≡ keyed order row s)
entry_of_kept (Ok true) (Ok s) order row e f = (s, let g : Some (keyed order row s) ≡ Some e = f in cc)
entry_of_kept (Ok true) (Err x) order row e f = absurd (cc)
entry_of_kept (Ok false) shown order row e f = absurd (cc)
entry_of_kept (Err x) shown order row e f = absurd (cc)

module _ (parts : ℕ) (some : 0 < parts) (catalog : Contents) (rules : IsCatalog catalog) (select : SelectPlan) (has : has_home catalog select ≡ true) (told : distributes catalog select select.right ≡ true)
    (outputs : List Scalar) (order : List Order) (width count : ℕ) (is_order : IsOrder count width (from_key catalog select) order) (args : Cells) (db : Database) (is : IsDatabase catalog db) where
  keys_tell : (p q : ℕ) (a x : Cells) → is_home parts catalog select p a ≡ true → is_home parts catalog select q x ≡ true
      → (e f : List Directed × Cells) → entry_in (given select (output_row outputs order) args a) ≡ Some e → entry_in (given select (output_row outputs order) args x) ≡ Some f
      → key_cmp e.0 f.0 ≡ Equal → q ≡ p
  keys_tell p q a x pa qx e f ea fx same =
      let u = entry_of_kept (is_kept select a args) (collected (map (λ s. scalar_of s a args) outputs)) order a e ea in
      let v = entry_of_kept (is_kept select x args) (collected (map (λ s. scalar_of s x args) outputs)) order x f fx in
      let keys : (keyed order a u.0).0 ≡ (keyed order x v.0).0 = sym (ap (λ r. r.0) u.1) ∙ key_cmp-equal e.0 f.0 same ∙ ap (λ r. r.0) v.1 in
      let agree : (n : ℕ) → list_any (λ k. k == n) (from_key catalog select) ≡ true → at a n ≡ at x n = key_agrees order count width (from_key catalog select) is_order a x u.0 v.0 keys in
      same_parts parts p q (left_table catalog select).part (right_part catalog select) a x has
      (λ n l. agree n (left_among catalog rules select n l)) (λ n r. agree n (right_among catalog rules select n r)) pa qx

  swap_entries : (a x : Option (List Directed × Cells)) → ((e f : List Directed × Cells) → a ≡ Some e → x ≡ Some f → key_cmp e.0 f.0 ≡ Equal → ⊥) → (es : List (List Directed × Cells))
      → put_some key_cmp latest (λ (o : Option (List Directed × Cells)). o) (put_some key_cmp latest (λ (o : Option (List Directed × Cells)). o) es a) x
      ≡ put_some key_cmp latest (λ (o : Option (List Directed × Cells)). o) (put_some key_cmp latest (λ (o : Option (List Directed × Cells)). o) es x) a
  swap_entries None None apart es = refl
  swap_entries None (Some f) apart es = refl
  swap_entries (Some e) None apart es = refl
  swap_entries (Some e) (Some f) apart es = swap_apart key_cmp key_total latest e f es (apart e f refl refl)

  -- the rows of all partitions, put in order, are those of the whole
  pub ordered_parts : put_all key_cmp latest [] (flat_map (λ p. entries select (output_row outputs order) args (from_rows select (share parts catalog p db))) (all_parts parts))
      ≡ put_all key_cmp latest [] (entries select (output_row outputs order) args (from_rows select db))
  ordered_parts =
      (λ i. put_all key_cmp latest [] (flat_map (λ p. entries select (output_row outputs order) args (from_rows-share parts catalog rules p select db is i)) (all_parts parts)))
      ∙ puts_parts key_cmp latest (λ row. entry_in (given select (output_row outputs order) args row)) (is_home parts catalog select)
      (λ p q a x other pa qx es. swap_entries (entry_in (given select (output_row outputs order) args a)) (entry_in (given select (output_row outputs order) args x))
      (λ e f ea fx same. other (keys_tell p q a x pa qx e f ea fx same)) es)
      (λ p q row e f. is_home-one parts catalog select has p q row e f)
      (all_parts parts) (range-distinct 0 parts) (from_rows select db) (no_entries select (output_row outputs order) args parts some catalog rules has told db is)
