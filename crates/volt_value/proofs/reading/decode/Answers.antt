use Rattle.std.proofs.Common.{◌≡◌, length, Some, IfSome, IfNone, ap, ◌∙◌, arith}
use Rattle.std.proofs.lemmas.Result.{IfOk-weaker}
use Rattle.volt_value.specs.Spelling.{value_bytes, BeginsWith, BeginsWithNone}
use Rattle.volt_value.specs.Reading.{value_at}
use Rattle.volt_value.proofs.ValueLemmas.{found_of, none_of, value_again}
use Rattle.volt_value.proofs.reading.decode.Goals as goal

pub returns-clause-found : goal.returns-clause-found
returns-clause-found c =
    let b = c.args.b.now in
    IfOk-weaker c.read_value.result (λ read. read ≡ value_at b) (λ read. IfSome read (λ found. BeginsWith b found.0 found.1))
    (λ read e. found_of b read (λ i. omega (arith, c.type_inv.b i)) e) c.read_value.ensures

pub returns-clause-none : goal.returns-clause-none
returns-clause-none c =
    let b = c.args.b.now in
    IfOk-weaker c.read_value.result (λ read. read ≡ value_at b) (λ read. IfNone read (BeginsWithNone b)) (λ read e. none_of b read e) c.read_value.ensures

pub returns-clause-again : goal.returns-clause-again
returns-clause-again c value rest is spelled =
    let b = c.args.b.now in
    IfOk-weaker c.read_value.result (λ read. read ≡ value_at b) (λ read. read ≡ Some (value, length (value_bytes value)))
    (λ read e. e ∙ ap value_at spelled ∙ value_again value rest is) c.read_value.ensures
