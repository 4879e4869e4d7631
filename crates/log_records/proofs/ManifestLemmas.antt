-- A manifest that was written is read again, and what is read as one is spelled so.
use Rattle.std.proofs.Common.{◌≡◌, ℕ, suc, ◌+◌, ◌*◌, ◌^◌, ◌<◌, Bool, true, false, cond, eqb, List, [], ◌∷◌, ◌++◌, append-nil, flat_map, length, length-append, get_or, Some, None, refl, sym, ap, subst, ◌∙◌, arith}
use Rattle.std.proofs.lemmas.Bool.{eqb-true}
use Rattle.std.specs.Int.{w16, w64, to_be_bytes}
use Rattle.std.specs.List.{AllByRecursion}
use Rattle.volt_base.specs.Reading.{◌>>=◌, number_at}
use Rattle.volt_base.proofs.Fields.{IsBytes, IsBytes-rest, bind_some, some_is, wide16, wide64}
use Rattle.snapshot_io.specs.Reading.{both_at}
use Rattle.snapshot_io.proofs.Exact.{Exact, number_exact, both_exact, as_exact, counted_exact}
use Rattle.log_records.specs.Manifest.{Names, NamesFit, files_bytes, manifest_bytes, files_at, as_names, names_at, if_whole, manifest_of}

abbrev FilesFit : List ℕ → Type 0
FilesFit files = (length files < 2 ^ 16) × AllByRecursion (λ file. file < 2 ^ 64) files

files_exact : Exact files_at files_bytes FilesFit
unfolding files_at files_bytes
files_exact = counted_exact (number_at w16) (to_be_bytes w16) (2 ^ 16) (number_at w64) (to_be_bytes w64) (λ file. file < 2 ^ 64)
    (number_exact w16 (2 ^ 16) wide16) (number_exact w64 (2 ^ 64) wide64)

abbrev names_bytes : Names → List ℕ
names_bytes m = to_be_bytes w64 m.base ++ files_bytes m.segments

abbrev sign : Names → ℕ × List ℕ
sign m = (m.base, m.segments)

names_exact : Exact names_at names_bytes NamesFit
unfolding names_at
names_exact = as_exact as_names sign (both_at (number_at w64) files_at) (λ (p : ℕ × List ℕ). to_be_bytes w64 p.0 ++ files_bytes p.1) (λ (p : ℕ × List ℕ). (p.0 < 2 ^ 64) × FilesFit p.1) NamesFit
    (both_exact (number_at w64) files_at (to_be_bytes w64) files_bytes (λ n. n < 2 ^ 64) FilesFit (number_exact w64 (2 ^ 64) wide64) files_exact)
    (record {
      signs = λ p m fits are e.
          subst (λ (x : Names). (p ≡ sign x) × NamesFit x) {x = record { base = p.0; segments = p.1 }} (some_is (record { base = p.0; segments = p.1 }) m e)
          (refl, record { base = fits.0; count = fits.1.0; segments = fits.1.1 });
      means = λ m fits. (refl, (fits.base, (fits.count, fits.segments)));
    })

pub manifest_again : (m : Names) → NamesFit m → manifest_of (manifest_bytes m) ≡ Some m
unfolding manifest_of manifest_bytes
manifest_again m fits =
    ap (λ (b : List ℕ). names_at b >>= if_whole) (sym (append-nil (names_bytes m)))
    ∙ rw (names_exact.again m [] fits) refl

whole_is : (x : Names × List ℕ) (m : Names) → if_whole x ≡ Some m → x ≡ (m, [])
whole_is (n, []) m e = ap (λ (k : Names). (k, [])) (some_is n m e)
whole_is (n, b ∷ bytes) m e = absurd cc

by_format : (format : ℕ) (bytes : List ℕ) (m : Names) (t : Bool) → eqb format 1 ≡ t → IsBytes bytes → cond t (names_at bytes >>= if_whole) None ≡ Some m
    → (format ∷ bytes ≡ manifest_bytes m) × NamesFit m
unfolding manifest_bytes
by_format format bytes m false f fits e = absurd cc
by_format format bytes m true f fits e =
    let a = bind_some (names_at bytes) if_whole m e in
    let t = names_exact.takes bytes a.0 fits a.1 in
    let whole = whole_is a.0 m a.2 in
    let named = ap (λ (x : Names × List ℕ). x.0) whole in
    let none = ap (λ (x : Names × List ℕ). x.1) whole in
    let parts : bytes ≡ names_bytes m =
    t.0.parts ∙ (ap (λ (r : List ℕ). names_bytes a.0.0 ++ r) none ∙ (append-nil (names_bytes a.0.0) ∙ ap names_bytes named)) in
    (rw (eqb-true format 1 f, parts) refl, rw (← named) t.1)

pub manifest_takes : (bytes : List ℕ) (m : Names) → IsBytes bytes → manifest_of bytes ≡ Some m → (bytes ≡ manifest_bytes m) × NamesFit m
unfolding manifest_of
manifest_takes [] m fits e = absurd cc
manifest_takes (format ∷ bytes) m fits e = by_format format bytes m (eqb format 1) refl (IsBytes-rest format bytes fits) e

length_numbers : (files : List ℕ) → length (flat_map (to_be_bytes w64) files) ≡ 8 * length files
length_numbers [] = refl
length_numbers (file ∷ files) = omega (arith, length-append (to_be_bytes w64 file) (flat_map (to_be_bytes w64) files), length_numbers files)

pub length_files : (files : List ℕ) → length (files_bytes files) ≡ 2 + 8 * length files
unfolding files_bytes
length_files files = omega (arith, length-append (to_be_bytes w16 (length files)) (flat_map (to_be_bytes w64) files), length_numbers files)

pub all_fit : (files : List ℕ) → ((i : ℕ) → get_or files i 0 < 2 ^ 64) → AllByRecursion (λ file. file < 2 ^ 64) files
all_fit [] each = tt
all_fit (file ∷ files) each = (each 0, all_fit files (λ i. each (suc i)))
