-- The last of a list, one more of so many, and names that differ.
use Rattle.std.proofs.Common.{◌≡◌, refl, ap, sym, ◌∙◌, ℕ, ◌+◌, ◌-◌, ◌<◌, Bool, ◌||◌, ◌&&◌, not, List, [], ◌∷◌, ◌++◌, map, length, take, drop, slice_index_or, arith}
use Rattle.std.specs.List.{list_any}
use Rattle.std.proofs.lemmas.List.{at_drop_more, take_all, length-drop}
use Rattle.std.proofs.lemmas.List.FromFn.{map-range_with_len_more}
use Rattle.volt_catalog.specs.Names.{same_name, differ}
use Rattle.ddl_parse.specs.declared.procedure.ParameterText.{ParameterText}
use Rattle.sql_plan.specs.declared.program.ProgramValue.TheVariants as value
use Rattle.proc_lang.specs.Bodies.{variables_to}
use Rattle.proc_lang.specs.Drafts.{without_last}

pub without_pushed : {A : Type 0} → (xs : List A) (x : A) → without_last (xs ++ x ∷ []) ≡ xs
without_pushed [] x = refl
without_pushed (y ∷ []) x = refl
without_pushed (y ∷ z ∷ xs) x = λ i. y ∷ without_pushed (z ∷ xs) x i

pub variables_more : (n : ℕ) → variables_to (n + 1) ≡ variables_to n ++ value.Variable n ∷ []
variables_more n = map-range_with_len_more (λ n. value.Variable n) 0 n n (omega arith)

-- ---- names of parameters

abbrev names : List ParameterText → List (List ℕ)
names ps = map (λ (p : ParameterText). p.name) ps

-- whether a name is among those of parameters
abbrev is_among : List ℕ → List ParameterText → Bool
is_among name ps = list_any (λ (p : ParameterText). same_name name p.name) ps

any_named : (name : List ℕ) (ps : List ParameterText) → list_any (same_name name) (names ps) ≡ is_among name ps
any_named name [] = refl
any_named name (p ∷ ps) = ap (λ b. same_name name p.name || b) (any_named name ps)

differ_named : (p : ParameterText) (ps : List ParameterText) → differ (names (p ∷ ps)) ≡ not (is_among p.name ps) && differ (names ps)
differ_named p ps = ap (λ b. not b && differ (names ps)) (any_named p.name ps)

-- from a place on
names_at : (ps : List ParameterText) (i : ℕ) (p : ParameterText) → i < length ps
    → differ (names (drop i ps)) ≡ not (is_among (slice_index_or ps i p).name (drop (i + 1) ps)) && differ (names (drop (i + 1) ps))
names_at ps i p inside =
    at_drop_more (λ (rest : List ParameterText). differ (names rest)) ps i p inside ∙ differ_named (slice_index_or ps i p) (drop (i + 1) ps)

-- what stands behind a place, as the code cuts it out
behind : (ps : List ParameterText) (i : ℕ) → take (length ps - (i + 1)) (drop (i + 1) ps) ≡ drop (i + 1) ps
behind ps i = take_all (length ps - (i + 1)) (drop (i + 1) ps) (omega (arith, length-drop (i + 1) ps))

-- where it is known whether the name at a place comes again behind it
pub names_differ : (ps : List ParameterText) (i : ℕ) (p : ParameterText) (again b : Bool) → i < length ps
    → again ≡ is_among (slice_index_or ps i p).name (take (length ps - (i + 1)) (drop (i + 1) ps)) → again ≡ b
    → differ (names (drop i ps)) ≡ not b && differ (names (drop (i + 1) ps))
names_differ ps i p again b inside found is =
    names_at ps i p inside
    ∙ ap (λ b. not b && differ (names (drop (i + 1) ps))) (ap (is_among (slice_index_or ps i p).name) (sym (behind ps i)) ∙ sym found ∙ is)
