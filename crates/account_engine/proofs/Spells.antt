-- What is read is spelled so.
use Rattle.std.proofs.Common.{◌≡◌, ℕ, suc, ◌+◌, ◌^◌, ◌<◌, ◌≤◌, ℤ, Bool, true, false, cond, eqb, ltb, ◌&&◌, List, [], ◌∷◌, ◌++◌, length, get_or, take, drop, Option, Some, None, refl, sym, ap, subst, ◌∙◌, arith, inl, inr}
use Rattle.std.specs.Prelude.{IfSome, IfNone}
use Rattle.std.specs.Int.{w16, w64, from_be_bytes, to_be_bytes, cast_signed, cast_unsigned}
use Rattle.std.proofs.lemmas.Bool.{and_parts, cases_Bool, cond-true, cond-false, cases_lt, ltb-false, eqb-true}
use Rattle.std.proofs.lemmas.Int.{of_z-to_z}
use Rattle.std.proofs.lemmas.List.{append-nil, nil_from_length, take-append-drop, length-take, get_or-drop, get_or-take, get_or_past}
use Rattle.std.proofs.lemmas.Nat.{be_bytes_2, be_bytes_8}
use Rattle.std.proofs.lemmas.Option.{cond_some, none-some}
use Rattle.volt_base.specs.Reading.{◌>>=◌}
use Rattle.volt_base.proofs.Fields.{bind_some}
use Rattle.volt_value.specs.declared.value.Value.TheVariants.{Int}
use Rattle.account_engine.specs.declared.call.AccountCall.{AccountCall}
use Rattle.account_engine.specs.declared.call.AccountCall.TheVariants.{Put, Get}
use Rattle.volt_value.specs.Values.{is_bigint}
use Rattle.account_engine.specs.Calls.{is_valid}
use Rattle.volt_value.specs.Spelling.{value_bytes}
use Rattle.account_engine.specs.Spelling.{body_of}
use Rattle.account_engine.specs.Again.{call_again}
use Rattle.account_engine.specs.Reading.{if_value, if_ended, integer_then_rest, value_then_rest, put_of_values, get_of_values, call_with, call_of_body}

-- ---- tests that gave a value

-- the test was false
not_then : {A : Type 0} (b : Bool) (o : Option A) (x : A) → cond b None o ≡ Some x → (b ≡ false) × (o ≡ Some x)
not_then true o x e = absurd cc
not_then false o x e = (refl, e)

-- the test was true
not_else : {A : Type 0} (b : Bool) (o : Option A) (x : A) → cond b o None ≡ Some x → (b ≡ true) × (o ≡ Some x)
not_else true o x e = (refl, e)
not_else false o x e = absurd cc

and_true : (a b : Bool) → a ≡ true → b ≡ true → (a && b) ≡ true
and_true a b p q = rw (p, q) refl

-- ---- bytes

abbrev pub IsBytes : List ℕ → Type 0
IsBytes bytes = (i : ℕ) → get_or bytes i 0 < 256

IsBytes-drop : (n : ℕ) (bytes : List ℕ) → IsBytes bytes → IsBytes (drop n bytes)
IsBytes-drop n bytes h i = rw get_or-drop (h (n + i))

IsBytes-take : (n : ℕ) (bytes : List ℕ) → IsBytes bytes → IsBytes (take n bytes)
IsBytes-take n bytes h i =
    elim (cases_lt i n) [
      | inl lt ↦ rw (get_or-take n bytes i 0 lt) (h i)
      | inr le ↦ rw (get_or_past (take n bytes) i 0 (omega (arith, length-take n bytes))) (omega arith)
    ]

IsBytes-rest : (b : ℕ) (bytes : List ℕ) → IsBytes (b ∷ bytes) → IsBytes bytes
IsBytes-rest b bytes h i = h (suc i)

-- the bytes are this text and then the rest
pub record Takes (bytes text rest : List ℕ) : Type 0 where
  pub parts : bytes ≡ text ++ rest
  pub rest_fits : IsBytes rest

-- ---- integers

abbrev integer_bytes : ℤ → List ℕ
integer_bytes z = to_be_bytes w64 (cast_unsigned w64 z)

integer_takes : (bytes : List ℕ) (x : ℤ × List ℕ) → IsBytes bytes → integer_then_rest bytes ≡ Some x → Takes bytes (integer_bytes x.0) x.1 × (is_bigint x.0 ≡ true)
integer_takes bytes x fits e =
    let n : ℕ = from_be_bytes w64 (take 8 bytes) in
    let z : ℤ = cast_signed w64 n in
    let long = not_then (ltb (length bytes) 8) (if_value z (drop 8 bytes)) x e in
    let held = cond_some (is_bigint z) (z, drop 8 bytes) x long.1 in
    let prefix : 8 ≤ length bytes = ltb-false _ _ long.0 in
    let few : IsBytes (take 8 bytes) = IsBytes-take 8 bytes fits in
    let small : n < 2 ^ 64 = omega (arith, few 0, few 1, few 2, few 3, few 4, few 5, few 6, few 7) in
    let same : integer_bytes z ≡ take 8 bytes = ap (to_be_bytes w64) (of_z-to_z w64 n small) ∙ be_bytes_8 (take 8 bytes) n (omega (arith, length-take 8 bytes)) few refl in
    let made : ℤ × List ℕ = (z, drop 8 bytes) in
    let parts : bytes ≡ integer_bytes z ++ drop 8 bytes = sym (take-append-drop 8 bytes) ∙ ap (λ (prefix : List ℕ). prefix ++ drop 8 bytes) (sym same) in
    subst (λ (y : ℤ × List ℕ). Takes bytes (integer_bytes y.0) y.1 × (is_bigint y.0 ≡ true)) held.1 (record { parts = parts; rest_fits = IsBytes-drop 8 bytes fits }, held.0)

-- ---- values

value_takes : (bytes : List ℕ) (x : ℤ × List ℕ) → IsBytes bytes → value_then_rest bytes ≡ Some x → Takes bytes (value_bytes (Int x.0)) x.1 × (is_bigint x.0 ≡ true)
value_takes [] x fits e = absurd cc
value_takes (kind ∷ bytes) x fits e =
    let is = not_else (eqb kind 1) (integer_then_rest bytes) x e in
    let t = integer_takes bytes x (IsBytes-rest kind bytes fits) is.1 in
    let one : kind ≡ 1 = eqb-true kind 1 is.0 in
    let parts : kind ∷ bytes ≡ value_bytes (Int x.0) ++ x.1 = ap (λ (k : ℕ). k ∷ bytes) one ∙ ap (λ (b : List ℕ). 1 ∷ b) t.0.parts in
    (record { parts = parts; rest_fits = t.0.rest_fits }, t.1)

ended_is : {A : Type 0} (rest : List ℕ) (x y : A) → if_ended rest x ≡ Some y → (rest ≡ []) × (x ≡ y)
ended_is rest x y e =
    let c = cond_some (eqb (length rest) 0) x y e in
    (nil_from_length rest (eqb-true _ _ c.0), c.1)

-- ---- calls

-- the call is valid, and these are its values
pub record IsRead (procedure count : ℕ) (values : List ℕ) (c : AccountCall) : Type 0 where
  pub valid : is_valid c ≡ true
  pub spelled : to_be_bytes w16 procedure ++ count ∷ values ≡ body_of c

put_takes : (values : List ℕ) (c : AccountCall) → IsBytes values → put_of_values values ≡ Some c → IsRead 0 2 values c
put_takes values c fits e =
    let id = bind_some (value_then_rest values) (λ i. value_then_rest i.1 >>= λ b. if_ended b.1 (Put i.0 b.0)) c e in
    let balance = bind_some (value_then_rest id.0.1) (λ b. if_ended b.1 (Put id.0.0 b.0)) c id.2 in
    let first = value_takes values id.0 fits id.1 in
    let second = value_takes id.0.1 balance.0 first.0.rest_fits balance.1 in
    let end = ended_is balance.0.1 (Put id.0.0 balance.0.0) c balance.2 in
    let all : values ≡ value_bytes (Int id.0.0) ++ value_bytes (Int balance.0.0) = first.0.parts ∙ ap (λ (r : List ℕ). value_bytes (Int id.0.0) ++ r) (second.0.parts ∙ ap (λ (r : List ℕ). value_bytes (Int balance.0.0) ++ r) end.0 ∙ append-nil (value_bytes (Int balance.0.0))) in
    subst (λ (d : AccountCall). IsRead 0 2 values d) end.1 (record { valid = and_true _ _ first.1 second.1; spelled = ap (λ (r : List ℕ). 0 ∷ 0 ∷ 2 ∷ r) all })

get_takes : (values : List ℕ) (c : AccountCall) → IsBytes values → get_of_values values ≡ Some c → IsRead 1 1 values c
get_takes values c fits e =
    let id = bind_some (value_then_rest values) (λ i. if_ended i.1 (Get i.0)) c e in
    let first = value_takes values id.0 fits id.1 in
    let end = ended_is id.0.1 (Get id.0.0) c id.2 in
    let all : values ≡ value_bytes (Int id.0.0) = first.0.parts ∙ ap (λ (r : List ℕ). value_bytes (Int id.0.0) ++ r) end.0 ∙ append-nil (value_bytes (Int id.0.0)) in
    subst (λ (d : AccountCall). IsRead 1 1 values d) end.1 (record { valid = first.1; spelled = ap (λ (r : List ℕ). 0 ∷ 1 ∷ 1 ∷ r) all })

with_takes : (procedure count : ℕ) (values : List ℕ) (c : AccountCall) → IsBytes values → call_with procedure count values ≡ Some c → IsRead procedure count values c
with_takes procedure count values c fits e =
    let get = cond (eqb procedure 1 && eqb count 1) (get_of_values values) None in
    elim (cases_Bool (eqb procedure 0 && eqb count 2)) [
      | inl put ↦
          let is = and_parts _ _ put in
          let read : put_of_values values ≡ Some c = sym (cond-true _ (put_of_values values) get put) ∙ e in
          rw (eqb-true procedure 0 is.0, eqb-true count 2 is.1) (put_takes values c fits read)
      | inr other ↦
          let read = not_else (eqb procedure 1 && eqb count 1) (get_of_values values) c (sym (cond-false _ (put_of_values values) get other) ∙ e) in
          let is = and_parts _ _ read.0 in
          rw (eqb-true procedure 1 is.0, eqb-true count 1 is.1) (get_takes values c fits read.1)
    ]

pub call_takes : (bytes : List ℕ) (c : AccountCall) → IsBytes bytes → call_of_body bytes ≡ Some c → (is_valid c ≡ true) × (bytes ≡ body_of c)
call_takes [] c fits e = absurd cc
call_takes (high ∷ []) c fits e = absurd cc
call_takes (high ∷ low ∷ []) c fits e = absurd cc
call_takes (high ∷ low ∷ count ∷ values) c fits e =
    let prefix : List ℕ = high ∷ low ∷ [] in
    let read = with_takes (from_be_bytes w16 prefix) count values c (λ i. fits (suc (suc (suc i)))) e in
    let two : IsBytes prefix = IsBytes-take 2 (high ∷ low ∷ count ∷ values) fits in
    let same : to_be_bytes w16 (from_be_bytes w16 prefix) ≡ prefix = be_bytes_2 prefix _ refl two refl in
    (read.valid, ap (λ (f : List ℕ). f ++ count ∷ values) (sym same) ∙ read.spelled)

-- ---- what a reader promises

pub is_read : (bytes : List ℕ) (r : Option AccountCall) → IsBytes bytes → r ≡ call_of_body bytes → IfSome r (λ c. (is_valid c ≡ true) × (bytes ≡ body_of c))
is_read bytes None fits e = tt
is_read bytes (Some c) fits e = call_takes bytes c fits (sym e)

pub is_refused : (bytes : List ℕ) (r : Option AccountCall) → r ≡ call_of_body bytes → IfNone r ((c : AccountCall) → is_valid c ≡ true → bytes ≡ body_of c → ⊥)
is_refused bytes None e = λ c valid is. none-some c (e ∙ ap call_of_body is ∙ call_again c valid)
is_refused bytes (Some c) e = tt
