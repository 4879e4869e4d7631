-- What a step is made to, one call of the code after another.
use Rattle.std.proofs.Common.{◌≡◌, ◌∙◌, ap, ℕ, Bool, not, List, map}
use Rattle.volt_value.specs.declared.column.Class.{Class}
use Rattle.sql_plan.specs.declared.expression.Cond.{Cond}
use Rattle.sql_plan.specs.declared.expression.Scalar.{Scalar}
use Rattle.sql_plan.specs.declared.program.ProgramStep.{ProgramStep}
use Rattle.sql_plan.specs.declared.program.ProgramStep.TheVariants as step
use Rattle.sql_plan.specs.declared.program.ProgramValue.{ProgramValue}
use Rattle.sql_resolve.specs.declared.notes.Notes.{Notes}
use Rattle.sql_resolve.specs.declared.sort.Sort.{Sort}
use Rattle.sql_resolve.specs.Bound.{Heads}
use Rattle.sql_resolve.specs.Expressions.{Meaning}
use Rattle.sql_resolve.specs.Notes.{nothing}
use Rattle.proc_lang.specs.declared.draft.Draft.{Draft}
use Rattle.proc_lang.specs.declared.steps.Chosen.{Chosen}
use Rattle.proc_lang.specs.declared.fault.ProcFault.TheVariants.{BadType}
use Rattle.proc_lang.specs.Drafts.{blamed_if, noted, with_variable}
use Rattle.proc_lang.specs.Values.{is_truth, may_be_truth, value_in, condition_in}
use Rattle.proc_lang.specs.Steps.{with, let_made, condition_made}
use Rattle.proc_lang.specs.Bodies.{classes_of, program_with, program_of}

pub let_is : (name : List ℕ) (e : Meaning) (d d1 d2 d3 : Draft) (sort : Sort) (t : Bool) (notes : Notes) (x : Scalar) (n : ℕ)
    → sort ≡ e.sort → t ≡ is_truth sort → (notes, x) ≡ value_in e nothing → d1 ≡ blamed_if t BadType d → d2 ≡ noted notes.fault d1
    → (d3, n) ≡ with_variable name sort d2 → (d3, step.Let n notes.args x) ≡ let_made name e d
let_is name e d d1 d2 d3 sort t notes x n s b v f g w =
    let blamed : d1 ≡ blamed_if (is_truth e.sort) BadType d = f ∙ ap (λ t. blamed_if t BadType d) (b ∙ ap is_truth s) in
    let known : d2 ≡ noted (value_in e nothing).0.fault (blamed_if (is_truth e.sort) BadType d) = g ∙ (λ i. noted (v i).0.fault (blamed i)) in
    (λ i. with (w i) (λ n draft. (draft, step.Let n (v i).0.args (v i).1)))
    ∙ (λ i. with (with_variable name (s i) (known i)) (λ n draft. (draft, step.Let n (value_in e nothing).0.args (value_in e nothing).1)))

abbrev chosen_of : List ProgramValue → Cond → Chosen
chosen_of args condition = record { args = args; condition = condition }

pub condition_is : (e : Meaning) (d d1 d2 : Draft) (sort : Sort) (t : Bool) (notes : Notes) (x : Cond)
    → sort ≡ e.sort → t ≡ may_be_truth sort → (notes, x) ≡ condition_in e nothing → d1 ≡ blamed_if (not t) BadType d → d2 ≡ noted notes.fault d1
    → (d2, chosen_of notes.args x) ≡ condition_made e d
condition_is e d d1 d2 sort t notes x s b v f g =
    let blamed : d1 ≡ blamed_if (not (may_be_truth e.sort)) BadType d = f ∙ ap (λ t. blamed_if (not t) BadType d) (b ∙ ap may_be_truth s) in
    let known : d2 ≡ noted (condition_in e nothing).0.fault (blamed_if (not (may_be_truth e.sort)) BadType d) = g ∙ (λ i. noted (v i).0.fault (blamed i)) in
    λ i. (known i, chosen_of (v i).0.args (v i).1)

-- a program whose text has come to its end
pub program_is : (d : Draft) (steps : List ProgramStep) (variables : List Class) (results : List (List Class))
    → variables ≡ classes_of d.bound.variables → results ≡ map (λ (made : List ℕ × Heads). classes_of made.1) d.bound.results
    → program_with variables results d steps ≡ program_of d steps
program_is d steps variables results v r = λ i. program_with (v i) (r i) d steps
