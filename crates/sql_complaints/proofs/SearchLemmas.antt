-- Complaints one after another.
use Rattle.std.proofs.Common.{◌≡◌, ℕ, ◌≤◌, Bool, true, false, List, [], ◌∷◌, ◌++◌, map, flat_map, length, drop, drop_of_length-le, Some, None, Result, Ok, Err, OnOk, if◌then◌else◌, refl, sym, ap, ◌∙◌}
use Rattle.sql_resolve.specs.declared.fault.CheckFault.{CheckFault}
use Rattle.sql_complaints.specs.declared.complaints.Complaint.{Complaint}
use Rattle.sql_complaints.specs.declared.complaints.Search.{Search}
use Rattle.sql_complaints.specs.Complaints.{is_of, or_this, noted, all_noted, first_of, search_of}

pub all_noted_append : (search : Search) (xs ys : List Complaint) → all_noted (all_noted search xs) ys ≡ all_noted search (xs ++ ys)
all_noted_append search [] ys = refl
all_noted_append search (x ∷ xs) ys = all_noted_append (noted search x) xs ys

-- lists of complaints one after another
abbrev pub each_noted : Search → List (List Complaint) → Search
each_noted search [] = search
each_noted search (xs ∷ lists) = each_noted (all_noted search xs) lists

pub each_noted_is : {A : Type 0} (f : A → List Complaint) (search : Search) (xs : List A) → each_noted search (map f xs) ≡ all_noted search (flat_map f xs)
each_noted_is f search [] = refl
each_noted_is f search (x ∷ xs) = each_noted_is f (all_noted search (f x)) xs ∙ all_noted_append search (f x) (flat_map f xs)

-- at the end of a loop that notes the complaints of each item
pub each_done : {A : Type 0} (f : A → List Complaint) (after search : Search) (xs : List A) (n : ℕ) → length xs ≤ n
    → each_noted after (map f (drop n xs)) ≡ each_noted search (map f xs) → after ≡ all_noted search (flat_map f xs)
each_done f after search xs n end h = sym (ap (λ ys. each_noted after (map f ys)) (drop_of_length-le xs end)) ∙ h ∙ each_noted_is f search xs

-- what a call notes behind another one
pub noted_behind : {E : Type 0} (result : Result (Unit {0}) E) (search between after : Search) (xs ys zs : List Complaint) → between ≡ all_noted search xs → OnOk result (after ≡ all_noted between ys)
    → zs ≡ xs ++ ys → OnOk result (after ≡ all_noted search zs)
noted_behind (Ok x) search between after xs ys zs h k e = k ∙ ap (λ s. all_noted s ys) h ∙ all_noted_append search xs ys ∙ ap (all_noted search) (sym e)
noted_behind (Err x) search between after xs ys zs h k e = tt

already : (search : Search) (found : Complaint) (xs : List Complaint) → search.found ≡ Some found → (all_noted search xs).found ≡ Some found
already search found [] e = e
already search found (x ∷ xs) e = already (noted search x) found xs (ap (or_this search.fault x) e)

first_step : (fault : CheckFault) (x : Complaint) (xs : List Complaint) (b : Bool) → (all_noted (search_of fault) xs).found ≡ first_of fault xs
    → (all_noted (record { fault = fault; found = if b then Some x else None }) xs).found ≡ (if b then Some x else first_of fault xs)
first_step fault x xs true h = already (record { fault = fault; found = Some x }) x xs refl
first_step fault x xs false h = h

pub found_first : (fault : CheckFault) (xs : List Complaint) → (all_noted (search_of fault) xs).found ≡ first_of fault xs
found_first fault [] = refl
found_first fault (x ∷ xs) = first_step fault x xs (is_of fault x) (found_first fault xs)
