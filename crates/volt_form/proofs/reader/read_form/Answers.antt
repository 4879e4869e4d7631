use Rattle.std.proofs.Common.{◌∙◌, arith, rules}
use Rattle.volt_form.specs.Form.{lines_of}
use Rattle.volt_form.proofs.FormLemmas.{wrong_text-long, wrong_text-line, calls_of_text_is}
use Rattle.volt_form.proofs.reader.read_form.Goals as goal

pub returns-then-text-gt-LONGEST_INPUT-clause-refused : goal.returns-then-text-gt-LONGEST_INPUT-clause-refused
returns-then-text-gt-LONGEST_INPUT-clause-refused c = λ line e. search (rules, wrong_text-long c.args.text.now (omega arith))

pub returns-in-Ok-clause-ok : goal.returns-in-Ok-clause-ok
returns-in-Ok-clause-ok c = search (rules, calls_of_text_is c.args.text.now (lines_of c.in-Ok.after.now))

pub returns-in-Ok-clause-refused : goal.returns-in-Ok-clause-refused
returns-in-Ok-clause-refused c = λ line e.
    wrong_text-line c.args.text.now line (omega arith) (c.in-Ok.ensures.wrong ∙ c.read_calls.ensures.refused line e)

pub returns-in-Err-clause-refused : goal.returns-in-Err-clause-refused
returns-in-Err-clause-refused c = λ line e. search (rules, wrong_text-line c.args.text.now c.in-Err.line (omega arith) c.in-Err.ensures.refused)
