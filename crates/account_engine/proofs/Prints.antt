-- What is printed of an answer, and that a reply has one answer.
use Rattle.std.proofs.Common.{◌≡◌, ℕ, ℤ, true, List, [], ◌∷◌, ◌++◌, Option, Some, refl, sym, ap, ◌∙◌}
use Rattle.std.specs.Prelude.{codes}
use Rattle.std.specs.Option.{option_map}
use Rattle.std.specs.Fmt.{signed_decimal, digits}
use Rattle.std.proofs.lemmas.List.{append-nil}
use Rattle.std.proofs.lemmas.Option.{same_Some}
use Rattle.volt_value.specs.declared.value.Value.TheVariants.{Int}
use Rattle.volt_report.specs.Report as report
use Rattle.volt_report.specs.Report.{ReportEnd}
use Rattle.volt_report.specs.Spelling.{end_text, newline}
use Rattle.account_engine.specs.declared.reply.Answer.{Answer}
use Rattle.account_engine.specs.declared.reply.Answer.TheVariants.{Nothing, Integer, Fault}
use Rattle.account_engine.specs.Spelling.{reply_bytes}
use Rattle.account_engine.specs.Answers.{end_of_answer, is_given, answer_of}
use Rattle.account_engine.specs.Again.{value_again}

pub text-nothing : end_text (end_of_answer Nothing) ≡ codes "ok 0\n"
unfolding digits
text-nothing = refl

pub text-integer : (z : ℤ) → end_text (end_of_answer (Integer z)) ≡ codes "ok 1\n " ++ signed_decimal z ++ newline
unfolding digits
text-integer z =
    let text : List ℕ = signed_decimal z in
    ap (λ (t : List ℕ). codes "ok 1\n " ++ t) (append-nil ((text ++ []) ++ newline) ∙ ap (λ (t : List ℕ). t ++ newline) (append-nil text))

-- the answer that a reply has
pub record HasAnswer (e : ReportEnd) : Type 0 where
  pub answer : Answer
  pub read : answer_of (reply_bytes e) ≡ Some answer
  pub end : end_of_answer answer ≡ e

pub has_answer : (e : ReportEnd) → is_given e ≡ true → HasAnswer e
has_answer (report.Kept []) given = record { answer = Nothing; read = refl; end = refl }
has_answer (report.Kept ((Int z ∷ []) ∷ [])) given = record { answer = Integer z; read = ap (option_map (λ v. Integer v.0)) (value_again z given); end = refl }
has_answer (report.Fault code) given = record { answer = Fault code; read = refl; end = refl }
has_answer e given = absurd cc

-- what was read of a reply is its end
pub end-read : (bytes : List ℕ) (r : Option Answer) (a : Answer) (e : ReportEnd) → r ≡ answer_of bytes → r ≡ Some a → is_given e ≡ true → bytes ≡ reply_bytes e → end_of_answer a ≡ e
end-read bytes r a e read is given spelled =
    let h = has_answer e given in
    let same : a ≡ h.answer = same_Some a h.answer (sym is ∙ read ∙ ap answer_of spelled ∙ h.read) in
    ap end_of_answer same ∙ h.end
