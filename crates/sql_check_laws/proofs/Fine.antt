-- Notes without a fault, and what is found on the way to them.
use Rattle.std.proofs.Common.{◌≡◌, ℕ, ◌+◌, Bool, true, false, nat_lt, List, [], ◌∷◌, ◌++◌, length, slice_get, Option, Some, None, refl, sym, subst, ◌∙◌, append_assoc, if◌then◌else◌}
use Rattle.std.proofs.lemmas.Bool.{cond_both}
use Rattle.volt_value.specs.declared.column.Class.{Class}
use Rattle.volt_value.specs.declared.column.Class.TheVariants as class
use Rattle.sql_plan.specs.declared.program.ProgramValue.{ProgramValue}
use Rattle.sql_resolve.specs.declared.bound.Given.{Given}
use Rattle.sql_resolve.specs.declared.bound.Given.TheVariants as g
use Rattle.sql_resolve.specs.declared.fault.CheckFault.{CheckFault}
use Rattle.sql_resolve.specs.declared.fault.CheckFault.TheVariants.{NoSuchName, TypeMismatch, UnboundName, TooMany}
use Rattle.sql_resolve.specs.declared.notes.Notes.{Notes}
use Rattle.sql_resolve.specs.declared.sort.Sort.{Sort}
use Rattle.sql_resolve.specs.declared.sort.Sort.TheVariants.{Value, Null, Open, Truth}
use Rattle.sql_resolve.specs.Faults.{least}
use Rattle.sql_resolve.specs.Notes.{blamed, fitted, with_param, with_place, strayed, most_questions}
use Rattle.sql_resolve.specs.Expressions.{with, noted_alone, question, taken}

-- what stands right behind a list
pub slice_get-seam : {A : Type 0} (xs : List A) (y : A) (ys : List A) → slice_get (xs ++ y ∷ ys) (length xs) ≡ Some y
slice_get-seam [] y ys = refl
slice_get-seam (x ∷ xs) y ys = slice_get-seam xs y ys

module _ (params : List Class) where
  -- no fault so far, and these parameters are the first of all
  pub record Fine (notes : Notes) : Type 0 where
    pub faultless : notes.fault ≡ None
    pub later : List Class
    pub whole : notes.params ++ later ≡ params

  -- where the notes behind are fine, so are those before, and what was found is right
  abbrev pub Finds : {A : Type 0} → (A → Type 0) → Notes → Notes × A → Type 0
  Finds Right before found = Fine found.0 → Fine before × Right found.1

  pub found_then : {A B : Type 0} (P : A → Type 0) (Q : B → Type 0) (before : Notes) (found : Notes × A) (go : A → Notes → Notes × B)
      → Finds P before found → ((x : A) (after : Notes) → Finds (λ y. P x → Q y) after (go x after)) → Finds Q before (with found go)
  found_then P Q before found go h k fine =
      let next = k found.1 found.0 fine in
      let first = h next.0 in (first.0, next.1 first.1)

  pub blamed_not : (fault : CheckFault) (notes : Notes) → Fine (blamed fault notes) → ⊥
  blamed_not fault notes fine = let e : Some (least notes.fault fault) ≡ None = fine.faultless in cc

  -- a test that a fault hangs on
  pub unless : (b : Bool) (fault : CheckFault) (notes : Notes) → Fine (if b then notes else blamed fault notes) → (b ≡ true) × Fine notes
  unless true fault notes fine = (refl, fine)
  unless false fault notes fine = absurd (blamed_not fault notes fine)

  pub fitted_is : (class wanted : Class) (notes : Notes) → Fine (fitted class wanted notes) → Fine notes × (class ≡ wanted)
  fitted_is class.Int class.Int notes fine = (fine, refl)
  fitted_is class.Text class.Text notes fine = (fine, refl)
  fitted_is class.Int class.Text notes fine = absurd (blamed_not TypeMismatch notes fine)
  fitted_is class.Text class.Int notes fine = absurd (blamed_not TypeMismatch notes fine)

  pub alone_is : (sort : Sort) (notes : Notes) → Fine (noted_alone sort notes) → Fine notes
  alone_is (Value class) notes fine = fine
  alone_is Null notes fine = fine
  alone_is Open notes fine = absurd (blamed_not TypeMismatch notes fine)
  alone_is Truth notes fine = absurd (blamed_not TypeMismatch notes fine)

  -- ---- parameters

  -- a parameter of a class, where there is one
  abbrev pub HasParam : Class → Option ℕ → Type 0
  HasParam class None = Unit {0}
  HasParam class (Some n) = slice_get params n ≡ Some class

  pub with_param_is : (class : Class) (notes : Notes) → Finds (λ n. HasParam class (Some n)) notes (with_param class notes)
  with_param_is class notes fine =
      let whole : notes.params ++ class ∷ fine.later ≡ params = sym (append_assoc notes.params (class ∷ []) fine.later) ∙ fine.whole in
      (record { faultless = fine.faultless; later = class ∷ fine.later; whole = whole }, subst (λ ps. slice_get ps (length notes.params) ≡ Some class) whole (slice_get-seam notes.params class fine.later))

  with_place_is : (x : ProgramValue) (class : Class) (notes : Notes) → Finds (λ n. HasParam class (Some n)) notes (with_place x class notes)
  with_place_is x class notes fine =
      let whole : notes.params ++ class ∷ fine.later ≡ params = sym (append_assoc notes.params (class ∷ []) fine.later) ∙ fine.whole in
      (record { faultless = fine.faultless; later = class ∷ fine.later; whole = whole }, subst (λ ps. slice_get ps (length notes.params) ≡ Some class) whole (slice_get-seam notes.params class fine.later))

  strayed_not : (notes : Notes) → Fine (strayed notes) → ⊥
  strayed_not notes = cond_both (nat_lt notes.strays most_questions) _ _ (λ after. Fine after → ⊥) (λ e. blamed_not UnboundName (record notes { strays = notes.strays + 1 })) (λ e. blamed_not TooMany notes)

  pub question_is : (stray : Bool) (wanted : Class) (notes : Notes) → Finds (HasParam wanted) notes (question stray wanted notes)
  question_is true wanted notes fine = absurd (strayed_not notes fine)
  question_is false wanted notes fine = with_param_is wanted notes fine

  pub taken_is : (x : Given) (wanted : Class) (notes : Notes) → Finds (HasParam wanted) notes (taken x wanted notes)
  taken_is g.Unbound wanted notes fine = absurd (blamed_not UnboundName notes fine)
  taken_is g.NoColumn wanted notes fine = absurd (blamed_not NoSuchName notes fine)
  taken_is (g.Value x class) wanted notes fine =
      let placed = with_place_is x class (fitted class wanted notes) fine in
      let fits = fitted_is class wanted notes placed.0 in
      (fits.0, subst (λ c. slice_get params (length (fitted class wanted notes).params) ≡ Some c) fits.1 placed.1)
