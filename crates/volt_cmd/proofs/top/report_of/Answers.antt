use Rattle.std.proofs.Common.{List, sym, subst}
use Rattle.volt_form.specs.declared.call.ScriptCall.{ScriptCall}
use Rattle.volt_cmd.specs.Script.{Asks}
use Rattle.volt_cmd.specs.Prints.{printed_text}
use Rattle.soundness.specs.Carries.{script}
use Rattle.account_engine.specs.Accounts.{accounts}
use Rattle.account_engine.proofs.Given.{is_given-reply_in}
use Rattle.volt_cmd.proofs.ExplainLemmas.{explains}
use Rattle.volt_cmd.proofs.top.report_of.Goals as goal

pub returns : goal.returns
returns c = λ bytes input.
    let calls = c.requires.0 in
    let asks = c.requires.1 in
    explains calls c.in_ok-outcomes.outcomes (c.in_ok-outcomes.ensures calls (c.in_ok-input.ensures.given calls (subst (λ (s : List ScriptCall). Asks s calls) (sym c.deref.ensures.value) asks))) (is_given-reply_in (script accounts calls))
    c.args.calls.items bytes (printed_text c.in_ok-report.report) asks input c.in_ok-report.ensures
