-- Lists that are printed or written item by item.
use Rattle.std.proofs.Common.{◌≡◌, ℕ, zero, suc, ◌+◌, ◌<◌, ◌≤◌, List, [], ◌∷◌, ◌++◌, length, get_or, map, drop, sym, ap, ◌∙◌, append-nil, append_assoc, add-one, refl, arith}
use Rattle.std.specs.List.{AllByRecursion, flat_map}
use Rattle.std.proofs.Math.Seq.{drop-cons}
use Rattle.std.proofs.lemmas.List.{drop_all}
use Rattle.volt_wire.specs.declared.event.Event.{Event}
use Rattle.volt_report.specs.Spelling.{event_line}
use Rattle.volt_cmd.specs.Prints.{last_lines}

-- The text of one item more. What is printed is known by f, and P holds of each item.
one_more : {A B : Type 0} (f : A → B) (P : A → Type 0) (text : A → List ℕ) (i : ℕ) (xs : List A) (y : B) (into next all : List ℕ) → i < length (map f xs) → y ≡ get_or (map f xs) i y → AllByRecursion P xs → ((x : A) → f x ≡ y → P x → next ≡ into ++ text x) → into ++ flat_map text (drop i xs) ≡ all → next ++ flat_map text (drop (suc i) xs) ≡ all
one_more f P text i [] y into next all within is each here so_far = absurd (omega arith)
one_more f P text zero (x ∷ xs) y into next all within is each here so_far =
    ap (λ (t : List ℕ). t ++ flat_map text xs) (here x (sym is) each.0) ∙ append_assoc into (text x) (flat_map text xs) ∙ so_far
one_more f P text (suc i) (x ∷ xs) y into next all within is each here so_far =
    one_more f P text i xs y into next all (omega arith) is each.1 here so_far

-- the same where the list of what is known is another's
pub item_more : {A B : Type 0} (f : A → B) (P : A → Type 0) (text : A → List ℕ) (i : ℕ) (ys : List B) (y : B) (into next all : List ℕ) → i < length ys → y ≡ get_or ys i y → ((x : A) → f x ≡ y → P x → next ≡ into ++ text x) → (xs : List A) → map f xs ≡ ys → AllByRecursion P xs → into ++ flat_map text (drop i xs) ≡ all → next ++ flat_map text (drop (i + 1) xs) ≡ all
item_more f P text i ys y into next all within is here xs same each so_far =
    let within_xs : i < length (map f xs) = rw same within in
    let is_xs : y ≡ get_or (map f xs) i y = rw same is in
    rw add-one (one_more f P text i xs y into next all within_xs is_xs each here so_far)

-- The line of an event is the next one of those that are left.
pub next_line : (i : ℕ) (trace : List Event) (e : Event) (held line : List ℕ) → i < length trace → line ≡ event_line (get_or trace i e) → held ++ last_lines (drop i trace) ≡ (held ++ line) ++ last_lines (drop (i + 1) trace)
next_line i trace e held line within is =
    rw (drop-cons trace i e within, add-one, is) (simp append_assoc refl)

-- Only the last line is left.
pub no_line : (i : ℕ) (trace : List Event) (held : List ℕ) → length trace ≤ i → held ++ last_lines (drop i trace) ≡ (held ++ last_lines []) ++ []
no_line i trace held past = rw (drop_all i trace past) (sym (append-nil (held ++ last_lines [])))
