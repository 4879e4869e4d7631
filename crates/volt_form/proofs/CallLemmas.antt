-- What the lines of a script say.
use Rattle.std.proofs.Common.{◌≡◌, ◌==◌, ℕ, List, [], length, Option, Some, None, ℤ, arith, refl, ap, ◌∙◌}
use Rattle.std.proofs.lemmas.Grind.{common_steps}
use Rattle.std.specs.List.{position_or_len, before_first, after_first}
use Rattle.volt_base.specs.Reading.{◌>>=◌}
use Rattle.volt_form.specs.declared.call.ScriptCall.TheVariants.{Put}
use Rattle.volt_form.specs.Form.{number_of_word, put_of_numbers}
use Rattle.volt_form.proofs.Numbers.{number_of-nil}

-- one number is no Put
no_second : (id second : Option ℤ) → second ≡ None → (id >>= λ x. second >>= λ y. Some (Put x y)) ≡ None
no_second None second none = refl
no_second (Some x) None none = refl
no_second (Some x) (Some y) none = absurd cc

-- one word is no Put
pub put_of_no_space : (numbers : List ℕ) → position_or_len (λ b. b == 32) numbers ≡ length numbers → put_of_numbers numbers ≡ None
unfolding put_of_numbers
put_of_no_space numbers h =
    let nothing : after_first (λ b. b == 32) numbers ≡ [] = grind (arith, common_steps) in
    let none : number_of_word (after_first (λ b. b == 32) numbers) ≡ None = ap number_of_word nothing ∙ number_of-nil in
    no_second (number_of_word (before_first (λ b. b == 32) numbers)) (number_of_word (after_first (λ b. b == 32) numbers)) none
