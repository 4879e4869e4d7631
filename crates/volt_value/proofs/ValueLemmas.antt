-- A value that is read is the value that was written.
use Rattle.std.proofs.Common.{◌≡◌, ℕ, zero, suc, ◌+◌, List, [], ◌∷◌, ◌++◌, length, drop, ℤ, Option, Some, None, option_map, arith, refl, sym, ap, subst, ◌∙◌, IfSome, IfNone}
use Rattle.std.proofs.lemmas.List.{drop_at}
use Rattle.std.proofs.lemmas.Option.{none-some}
use Rattle.std.specs.Int.{w32, to_be_bytes}
use Rattle.volt_value.specs.declared.value.Value.{Value}
use Rattle.volt_value.specs.declared.value.Value.TheVariants.{Null, Int, Text}
use Rattle.volt_value.specs.Values.{IsValue}
use Rattle.volt_value.specs.Spelling.{value_bytes, BeginsWith, BeginsWithNone}
use Rattle.volt_value.specs.Reading.{integer_at, text_at, value_at}
use Rattle.volt_value.proofs.Fields.{IsBytes, IsBytes-rest, integer_is, integer_again, text_is, text_again}

abbrev Found : Type 0
Found = Value × ℕ

-- what was mapped was there
map_some : {A : Type 0} (f : A → Found) (o : Option A) (y : Found) → option_map f o ≡ Some y → (x : A) × (o ≡ Some x) × (f x ≡ y)
map_some f (Some x) y e = (x, refl, cc)
map_some f None y e = absurd cc

some_is : (x y : Found) → Some x ≡ Some y → x ≡ y
some_is x y e = cc

null_begins : (bytes : List ℕ) → BeginsWith (0 ∷ bytes) Null 1
null_begins bytes = record { spelled = refl; size = refl; within = omega arith; is_value = tt }

integer_begins : (bytes : List ℕ) (z : ℤ) → IsBytes bytes → integer_at bytes ≡ Some z → BeginsWith (1 ∷ bytes) (Int z) 9
integer_begins bytes z fits e =
    let i = integer_is bytes z fits e in
    record { spelled = ap (λ (t : List ℕ). 1 ∷ t) i.spelled; size = refl; within = omega (arith, i.within); is_value = i.is_value }

text_begins : (bytes t : List ℕ) → IsBytes bytes → text_at bytes ≡ Some t → BeginsWith (2 ∷ bytes) (Text t) (5 + length t)
text_begins bytes t fits e =
    let i = text_is bytes t fits e in
    let behind : 5 + length t ≡ suc (4 + length t) = omega arith in
    record {
      spelled = ap (λ (r : List ℕ). 2 ∷ r) i.spelled ∙ ap (λ n. 2 ∷ (to_be_bytes w32 (length t) ++ (t ++ drop n (2 ∷ bytes)))) (sym behind);
      size = omega arith;
      within = omega (arith, i.within);
      is_value = (i.is_utf8, i.short);
    }

-- the bytes begin with the spelling of what is read
pub begins : (bytes : List ℕ) (found : Found) → IsBytes bytes → value_at bytes ≡ Some found → BeginsWith bytes found.0 found.1
unfolding value_at
begins [] found fits e = absurd cc
begins (zero ∷ bytes) found fits e =
    subst (λ (f : Found). BeginsWith (0 ∷ bytes) f.0 f.1) (some_is (Null, 1) found e) (null_begins bytes)
begins (suc zero ∷ bytes) found fits e =
    let m = map_some (λ z. (Int z, 9)) (integer_at bytes) found e in
    subst (λ (f : Found). BeginsWith (1 ∷ bytes) f.0 f.1) m.2 (integer_begins bytes m.0 (IsBytes-rest 1 bytes fits) m.1)
begins (suc (suc zero) ∷ bytes) found fits e =
    let m = map_some (λ t. (Text t, 5 + length t)) (text_at bytes) found e in
    subst (λ (f : Found). BeginsWith (2 ∷ bytes) f.0 f.1) m.2 (text_begins bytes m.0 (IsBytes-rest 2 bytes fits) m.1)
begins (suc (suc (suc kind)) ∷ bytes) found fits e = absurd cc

-- what is written is read, whatever follows it
pub value_again : (value : Value) (rest : List ℕ) → IsValue value → value_at (value_bytes value ++ rest) ≡ Some (value, length (value_bytes value))
unfolding value_at
value_again Null rest is = refl
value_again (Int z) rest is = ap (option_map (λ z. (Int z, 9))) (integer_again z rest is)
value_again (Text t) rest is =
    let size : 5 + length t ≡ length (value_bytes (Text t)) = omega arith in
    ap (option_map (λ t. (Text t, 5 + length t))) (text_again t rest is.0 is.1) ∙ ap (λ n. Some (Text t, n)) size

-- where nothing is read, no value is written
pub begins_none : (bytes : List ℕ) → value_at bytes ≡ None → BeginsWithNone bytes
begins_none bytes e value rest is spelled =
    none-some (value, length (value_bytes value)) (sym e ∙ ap value_at spelled ∙ value_again value rest is)

-- a spelling is of one value, and begins no other's
pub one : (a b : Value) (x y : List ℕ) → IsValue a → IsValue b → value_bytes a ++ x ≡ value_bytes b ++ y → (a ≡ b) × (x ≡ y)
one a b x y a-is b-is e =
    let found : (a, length (value_bytes a)) ≡ (b, length (value_bytes b)) =
    some_is (a, length (value_bytes a)) (b, length (value_bytes b)) (sym (value_again a x a-is) ∙ ap value_at e ∙ value_again b y b-is) in
    let size : length (value_bytes b) ≡ length (value_bytes a) = sym (ap (λ (f : Found). f.1) found) in (
      ap (λ (f : Found). f.0) found,
      sym (drop_at (value_bytes a) x (length (value_bytes a)) refl) ∙ ap (drop (length (value_bytes a))) e ∙ drop_at (value_bytes b) y (length (value_bytes a)) size,
    )

-- what `decode` says of what it read
pub found_of : (bytes : List ℕ) (read : Option Found) → IsBytes bytes → read ≡ value_at bytes → IfSome read (λ found. BeginsWith bytes found.0 found.1)
found_of bytes None fits e = tt
found_of bytes (Some found) fits e = begins bytes found fits (sym e)

pub none_of : (bytes : List ℕ) (read : Option Found) → read ≡ value_at bytes → IfNone read (BeginsWithNone bytes)
none_of bytes None e = begins_none bytes (sym e)
none_of bytes (Some found) e = tt
