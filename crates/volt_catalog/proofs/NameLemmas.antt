-- Lists of names.
use Rattle.std.proofs.Common.{◌≡◌, ℕ, suc, Bool, not, ◌||◌, List, [], ◌∷◌, length, map, position, Option, is_some, arith, refl, sym, ◌∙◌, ap}
use Rattle.std.specs.List.{list_any, position_or_len}
use Rattle.std.specs.Str.{bytes_eq}
use Rattle.std.proofs.lemmas.Bool.Decides.{nat_tests}
use Rattle.volt_catalog.specs.Names.{lower, same_name}

pub list_any-map : {A B : Type 0} (test : B → Bool) (f : A → B) (xs : List A) → list_any test (map f xs) ≡ list_any (λ x. test (f x)) xs
list_any-map test f [] = refl
list_any-map test f (x ∷ xs) = ap (λ rest. test (f x) || rest) (list_any-map test f xs)

position_or_len-map : {A B : Type 0} (test : B → Bool) (f : A → B) (xs : List A) → position_or_len test (map f xs) ≡ position_or_len (λ x. test (f x)) xs
position_or_len-map test f [] = refl
position_or_len-map test f (x ∷ xs) = rw (position_or_len-map test f xs) refl

length-map : {A B : Type 0} (f : A → B) (xs : List A) → length (map f xs) ≡ length xs
length-map f [] = refl
length-map f (x ∷ xs) = ap suc (length-map f xs)

pub position-map : {A B : Type 0} (test : B → Bool) (f : A → B) (xs : List A) → position test (map f xs) ≡ position (λ x. test (f x)) xs
position-map test f xs = rw (position_or_len-map test f xs, length-map f xs) refl

-- a name is looked up among keys that hold names
pub found_at : {A : Type 0} (f : A → List ℕ) (keys : List A) (names : List (List ℕ)) (asked name : List ℕ) (found : Option ℕ) → map f keys ≡ names → asked ≡ name
    → found ≡ position (λ key. bytes_eq asked (f key)) keys → found ≡ position (bytes_eq name) names
found_at f keys names asked name found held same is = rw (← held, ← same) (is ∙ sym (position-map (bytes_eq asked) f keys))

pub fresh_at : {A : Type 0} (f : A → List ℕ) (keys : List A) (names : List (List ℕ)) (asked name : List ℕ) (fresh : Bool) → map f keys ≡ names → asked ≡ name
    → fresh ≡ not (list_any (λ key. bytes_eq asked (f key)) keys) → fresh ≡ not (list_any (bytes_eq name) names)
fresh_at f keys names asked name fresh held same is = rw (← held, ← same) (is ∙ ap not (sym (list_any-map (bytes_eq asked) f keys)))

-- whether and where a test finds something
pub is_some-position : {A : Type 0} (test : A → Bool) (xs : List A) → is_some (position test xs) ≡ list_any test xs
is_some-position test [] = refl
is_some-position test (x ∷ xs) = grind (arith, nat_tests, is_some-position test xs)

-- a name is looked up among the names, in lower case, of items that have names
pub named_at : {A : Type 0} (name_of : A → List ℕ) (items : List A) (names : List (List ℕ)) (name : List ℕ) → names ≡ map (λ item. lower (name_of item)) items
    → position (bytes_eq (lower name)) names ≡ position (λ item. same_name name (name_of item)) items
named_at name_of items names name held = rw held (position-map (bytes_eq (lower name)) (λ item. lower (name_of item)) items)
