-- Rows that are spelled one behind another are a chunk.
use Rattle.std.proofs.Common.{◌≡◌, ℕ, ◌<◌, eqb, false, List, [], ◌∷◌, ◌++◌, append_assoc, append-nil, flat_map, length, Option, Some, refl, sym, ap, ◌∙◌, arith}
use Rattle.std.proofs.lemmas.Bool.{ne_eqb}
use Rattle.std.specs.List.{AllByRecursion}
use Rattle.std.specs.Int.{w16, to_be_bytes}
use Rattle.volt_base.specs.Reading.{◌>>=◌}
use Rattle.volt_value.specs.declared.value.Value.{Value}
use Rattle.volt_value.specs.Values.{IsValue}
use Rattle.volt_value.specs.Spelling.{value_bytes}
use Rattle.snapshot_io.specs.Chunks.{behind_value, behind_all, behind_row, behind_chunk}
use Rattle.snapshot_io.proofs.ChunkLemmas.{value_passed, passed_over}

all_passed : {A : Type 0} (behind : List ℕ → Option (List ℕ)) (spell : A → List ℕ) (Is : A → Type 0) → ((x : A) (rest : List ℕ) → Is x → behind (spell x ++ rest) ≡ Some rest)
    → (xs : List A) (rest : List ℕ) → AllByRecursion Is xs → behind_all behind (length xs) (flat_map spell xs ++ rest) ≡ Some rest
all_passed behind spell Is one [] rest are = refl
all_passed {A} behind spell Is one (x ∷ xs) rest are =
    ap (behind_all behind (length (x ∷ xs))) (append_assoc (spell x) (flat_map spell xs) rest)
    ∙ ap (λ (o : Option (List ℕ)). o >>= λ r. behind_all behind (length xs) r) (one x (flat_map spell xs ++ rest) are.0)
    ∙ all_passed behind spell Is one xs rest are.1

abbrev row_bytes : List Value → List ℕ
row_bytes row = length row ∷ flat_map value_bytes row

abbrev IsRow : List Value → Type 0
IsRow row = (length row < 256) × AllByRecursion IsValue row

row_passed : (row : List Value) (rest : List ℕ) → IsRow row → behind_row (row_bytes row ++ rest) ≡ Some rest
unfolding behind_row
row_passed row rest is = all_passed behind_value value_bytes IsValue value_passed row rest is.1

pub rows_chunk : (number : ℕ) (rows : List (List Value)) → number < 65535 → length rows < 65536 → AllByRecursion (λ row. (length row < 256) × AllByRecursion IsValue row) rows
    → behind_chunk (to_be_bytes w16 number ++ (to_be_bytes w16 (length rows) ++ flat_map (λ row. length row ∷ flat_map value_bytes row) rows)) ≡ Some []
rows_chunk number rows less few are =
    let spelled : List ℕ = flat_map row_bytes rows in
    let some : eqb number 65535 ≡ false = ne_eqb number 65535 (λ z. omega (arith, z, less)) in
    ap behind_chunk (sym (append-nil (to_be_bytes w16 number ++ (to_be_bytes w16 (length rows) ++ spelled))))
    ∙ passed_over number (length rows) spelled [] (omega (arith, less)) few some (all_passed behind_row row_bytes IsRow row_passed rows [] are)
