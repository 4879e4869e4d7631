-- Values and rows read one behind another, and that what was written is read again.
use Rattle.std.proofs.Common.{◌≡◌, ℕ, zero, suc, ◌+◌, ◌-◌, ◌<◌, ◌≤◌, eqb, Bool, true, cond, List, [], ◌∷◌, ◌++◌, append_assoc, append-nil, map, flat_map, length, length-append, take, drop, Vec, Option, Some, None, option_and_then, refl, sym, ap, ap₂, ◌∙◌, subst, arith}
use Rattle.std.proofs.lemmas.Bool.Decides.{nat_tests}
use Rattle.std.proofs.lemmas.List.{drop-drop, take_rest, length-drop}
use Rattle.std.proofs.lemmas.Nat.{from_be_bytes-to_be_bytes_2}
use Rattle.std.specs.Int.{w16, to_be_bytes, from_be_bytes}
use Rattle.std.specs.Prelude.{option_map}
use Rattle.std.specs.List.{AllByRecursion}
use Rattle.volt_value.specs.declared.value.Value.{Value}
use Rattle.volt_value.specs.Values.{IsValue}
use Rattle.volt_value.specs.Spelling.{value_bytes}
use Rattle.volt_value.specs.Reading.{value_at}
use Rattle.volt_value.proofs.ValueLemmas.{value_again}
use Rattle.table_chunks.specs.Chunks.{row_bytes, chunk_bytes, IsSpelledRow, CanSpell}
use Rattle.table_chunks.specs.Reading.{items_at, row_at, if_all, chunk_at}

-- ---- one more

-- what was read, and what is read behind it
abbrev pub joined : {A : Type 0} → List A → ℕ → Option (List A × ℕ) → Option (List A × ℕ)
joined xs at rest = option_map (λ r. (xs ++ r.0, at + r.1)) rest

joined_more : {A : Type 0} (xs : List A) (at len : ℕ) (x : A) (rest : Option (List A × ℕ))
    → joined xs at (option_map (λ r. (x ∷ r.0, len + r.1)) rest) ≡ joined (xs ++ x ∷ []) (at + len) rest
joined_more xs at len x None = refl
joined_more {A} xs at len x (Some r) =
    ap₂ (λ (ys : List A) (n : ℕ). Some (ys, n)) (sym (append_assoc xs (x ∷ []) r.0)) (omega arith)

items_more : {A : Type 0} (item_at : List ℕ → Option (A × ℕ)) (bytes : List ℕ) (n at len : ℕ) (x : A) (xs : List A) (whole : Option (List A × ℕ)) → item_at (drop at bytes) ≡ Some (x, len)
    → whole ≡ joined xs at (items_at item_at (suc n) (drop at bytes)) → whole ≡ joined (xs ++ x ∷ []) (at + len) (items_at item_at n (drop (at + len) bytes))
items_more {A} item_at bytes n at len x xs whole found is =
    is
    ∙ ap (λ (o : Option (A × ℕ)). joined xs at (option_and_then (λ first. option_map (λ rest. (first.0 ∷ rest.0, first.1 + rest.1)) (items_at item_at n (drop first.1 (drop at bytes)))) o)) found
    ∙ joined_more xs at len x (items_at item_at n (drop len (drop at bytes)))
    ∙ ap (λ bs. joined (xs ++ x ∷ []) (at + len) (items_at item_at n bs)) (drop-drop len at bytes)

-- what is left of the bytes from a place on
abbrev pub from_place : ℕ → List ℕ → List ℕ
from_place at bytes = take (length bytes - at) (drop at bytes)

pub read_more : {A : Type 0} (item_at : List ℕ → Option (A × ℕ)) (bytes : List ℕ) (left at len : ℕ) (x : A) (xs ys : List A) (whole : Option (List A × ℕ)) (got : Option (A × ℕ)) → 0 < left
    → got ≡ item_at (from_place at bytes) → got ≡ Some (x, len) → ys ≡ xs ++ x ∷ [] → whole ≡ joined xs at (items_at item_at left (drop at bytes))
    → whole ≡ joined ys (at + len) (items_at item_at (left - 1) (drop (at + len) bytes))
read_more item_at bytes zero at len x xs ys whole got some got_is found pushed is = absurd (omega (arith, some))
read_more {A} item_at bytes (suc n) at len x xs ys whole got some got_is found pushed is =
    items_more item_at bytes n at len x xs whole (ap item_at (sym (take_rest bytes at)) ∙ sym got_is ∙ found) is
    ∙ ap₂ (λ (zs : List A) (m : ℕ). joined zs (at + len) (items_at item_at m (drop (at + len) bytes))) (sym pushed) (omega arith)

pub read_within : (bytes : List ℕ) (at len : ℕ) → at ≤ length bytes → len ≤ length (from_place at bytes) → at + len ≤ length bytes
read_within bytes at len inside short =
    let left = ap (λ bs. length bs) (take_rest bytes at) in
    let rest = length-drop at bytes in
    omega (arith, left, rest, inside, short)

pub rows_pushed : {Z : Type 0} (rows new : List (Vec Value Z)) (row : Vec Value Z) → new ≡ rows ++ row ∷ [] → map (λ r. r.items) new ≡ map (λ r. r.items) rows ++ row.items ∷ []
rows_pushed {Z} rows new row is = ap (map (λ (r : Vec Value Z). r.items)) is ∙ behind rows
  where
    behind : (rows : List (Vec Value Z)) → map (λ (r : Vec Value Z). r.items) (rows ++ row ∷ []) ≡ map (λ (r : Vec Value Z). r.items) rows ++ row.items ∷ []
    behind [] = refl
    behind (r ∷ rows) = ap (λ more. r.items ∷ more) (behind rows)

-- ---- what was written

-- items that are spelled one behind another are read again
again : {A : Type 0} (item_at : List ℕ → Option (A × ℕ)) (spell : A → List ℕ) (Is : A → Type 0) → ((x : A) (rest : List ℕ) → Is x → item_at (spell x ++ rest) ≡ Some (x, length (spell x)))
    → (xs : List A) (rest : List ℕ) → AllByRecursion Is xs → items_at item_at (length xs) (flat_map spell xs ++ rest) ≡ Some (xs, length (flat_map spell xs))
again item_at spell Is one [] rest are = refl
again {A} item_at spell Is one (x ∷ xs) rest are =
    let bytes = flat_map spell xs in
    ap (λ bs. items_at item_at (suc (length xs)) bs) (append_assoc (spell x) bytes rest)
    ∙ ap (λ (o : Option (A × ℕ)). option_and_then (λ first. option_map (λ more. (first.0 ∷ more.0, first.1 + more.1)) (items_at item_at (length xs) (drop first.1 (spell x ++ (bytes ++ rest))))) o) (one x (bytes ++ rest) are.0)
    ∙ ap (λ bs. option_map (λ more. (x ∷ more.0, length (spell x) + more.1)) (items_at item_at (length xs) bs)) (drop_front (spell x) (bytes ++ rest))
    ∙ ap (option_map (λ more. (x ∷ more.0, length (spell x) + more.1))) (again item_at spell Is one xs rest are.1)
    ∙ ap (λ n. Some (x ∷ xs, n)) (sym (length-append (spell x) bytes))
  where
    drop_front : (front bs : List ℕ) → drop (length front) (front ++ bs) ≡ bs
    drop_front [] bs = refl
    drop_front (b ∷ front) bs = drop_front front bs

row_again : (row : List Value) (rest : List ℕ) → IsSpelledRow row → row_at (row_bytes row ++ rest) ≡ Some (row, length (row_bytes row))
row_again row rest is = ap (option_map (λ r. (r.0, 1 + r.1))) (again value_at value_bytes IsValue value_again row rest is.1) ∙ ap (λ n. Some (row, n)) (omega arith)

pub rows_again : (rows : List (List Value)) → CanSpell rows → items_at row_at (length rows) (flat_map row_bytes rows) ≡ Some (rows, length (flat_map row_bytes rows))
rows_again rows can =
    ap (items_at row_at (length rows)) (sym (append-nil (flat_map row_bytes rows))) ∙ again row_at row_bytes IsSpelledRow row_again rows [] can.each

same_number : (m : ℕ) → eqb m m ≡ true
same_number m = grind (arith, nat_tests)

pub chunk_again : (number : ℕ) (rows : List (List Value)) → number < 65536 → CanSpell rows → chunk_at (chunk_bytes number rows) ≡ Some (number, rows)
chunk_again number rows fits can =
    let bytes = flat_map row_bytes rows in
    ap (λ n. option_map (λ rs. (n, rs)) (option_and_then (if_all (length bytes)) (items_at row_at (from_be_bytes w16 (to_be_bytes w16 (length rows))) bytes))) (from_be_bytes-to_be_bytes_2 number fits)
    ∙ ap (λ n. option_map (λ rs. (number, rs)) (option_and_then (if_all (length bytes)) (items_at row_at n bytes))) (from_be_bytes-to_be_bytes_2 (length rows) can.count)
    ∙ ap (λ o. option_map (λ rs. (number, rs)) (option_and_then (if_all (length bytes)) o)) (rows_again rows can)
    ∙ ap (λ b. option_map (λ rs. (number, rs)) (cond b (Some rows) None)) (same_number (length bytes))
