-- An input of the form has no wrong line, and its run no cause of a refusal.
use Rattle.std.proofs.Common.{◌≡◌, ℕ, true, false, List, ◌++◌, Option, Some, None, is_some, is_none, IfSome, refl, sym, subst, ◌∙◌, inl, inr}
use Rattle.std.proofs.lemmas.List.{append_cancel_left}
use Rattle.volt_base.specs.Faults.{Increased}
use Rattle.volt_io.specs.States.{SourceState}
use Rattle.volt_form.specs.Form.{calls_of_text, first_wrong_line}
use Rattle.volt_form.proofs.FormLemmas.{wrong_text}
use Rattle.volt_cmd.specs.declared.status.Status.{Status}
use Rattle.volt_cmd.specs.declared.status.Status.TheVariants.{Ok, BadUse, ReadFault, WriteFault, NoMemory, NotBuilt}
use Rattle.volt_cmd.specs.Headline.{IsOfForm, IsWrongAt, is_command, is_ok_or_no_memory, is_refusal}

-- what is there of one is wanting of the other
clash : {A : Type 0} (o : Option A) (w : Option ℕ) (line : ℕ) → w ≡ Some line → is_some w ≡ is_none o → is_some o ≡ true → ⊥
clash None w line is one form = absurd cc
clash (Some x) w line is one form = absurd cc

-- a text of the form has no wrong line
no_wrong_line : (bytes : List ℕ) (line : ℕ) → first_wrong_line bytes ≡ Some line → is_some (calls_of_text bytes) ≡ true → ⊥
no_wrong_line bytes line is form = clash (calls_of_text bytes) (first_wrong_line bytes) line is (wrong_text bytes) form

-- the wrong line of told bytes
told_wrong : (rest : Option (List ℕ)) (bytes : List ℕ) (line : ℕ) → rest ≡ Some bytes → IfSome rest (λ left. first_wrong_line left ≡ Some line) → first_wrong_line bytes ≡ Some line
told_wrong None bytes line is wrong = absurd cc
told_wrong (Some left) bytes line is wrong = let same : left ≡ bytes = cc in subst (λ (t : List ℕ). first_wrong_line t ≡ Some line) same wrong

-- bytes of the form, and a wrong line in them
not_wrong : (before after : SourceState) (line : ℕ) → IsOfForm before after → IsWrongAt before after line → ⊥
not_wrong before after line form wrong =
    elim form.source [
      | inl rest ↦ no_wrong_line form.bytes line (told_wrong before.rest form.bytes line rest wrong.told) form.form
      | inr read ↦ no_wrong_line form.bytes line (subst (λ (t : List ℕ). first_wrong_line t ≡ Some line) (append_cancel_left before.given wrong.bytes form.bytes (sym wrong.gives.given ∙ read.gives.given)) wrong.wrong) form.form
    ]

-- a refusal is running out of memory, where nothing may cause another
pub no_cause : (words : List (List ℕ)) (before after : SourceState) (status : Status) → is_refusal status ≡ true
    → (status ≡ BadUse → is_command words ≡ false)
    → (status ≡ ReadFault → Increased before.faults after.faults)
    → ((line : ℕ) → status ≡ NotBuilt line → IsWrongAt before after line)
    → is_command words ≡ true → IsOfForm before after → ¬ Increased before.faults after.faults
    → is_ok_or_no_memory status ≡ true
no_cause words before after Ok refused no_command fault wrong command form still = refl
no_cause words before after NoMemory refused no_command fault wrong command form still = refl
no_cause words before after BadUse refused no_command fault wrong command form still = let none = no_command refl in absurd cc
no_cause words before after ReadFault refused no_command fault wrong command form still = absurd (still (fault refl))
no_cause words before after WriteFault refused no_command fault wrong command form still = absurd cc
no_cause words before after (NotBuilt line) refused no_command fault wrong command form still = absurd (not_wrong before after line form (wrong line refl))
