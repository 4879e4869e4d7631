use Rattle.std.proofs.Common.{◌≡◌, ◌++◌, subst, sym, ◌∙◌, ap}
use Rattle.std.specs.Prelude.{OnOk}
use Rattle.std.proofs.lemmas.Option.{none-some}
use Rattle.volt_report.specs.Report.{ReportEnd}
use Rattle.volt_report.specs.Spelling.{end_text}
use Rattle.account_engine.specs.Answers.{answer_of}
use Rattle.account_engine.proofs.Prints.{end-read, has_answer}
use Rattle.account_engine.proofs.reply.print_reply.Goals as goal

pub returns-in-Some : goal.returns-in-Some
returns-in-Some c = λ e given spelled.
    let same = end-read _ _ c.in-Some.answer e c.decode.ensures c.in-Some.is given spelled in
    subst (λ (d : ReportEnd). OnOk c.print.result (c.print.new.into.items ≡ c.args.into.now.items ++ end_text d)) same c.print.ensures

pub returns-in-None : goal.returns-in-None
returns-in-None c = λ e given spelled.
    let h = has_answer e given in
    absurd (none-some h.answer (sym c.in-None.is ∙ c.decode.ensures ∙ ap answer_of spelled ∙ h.read))
