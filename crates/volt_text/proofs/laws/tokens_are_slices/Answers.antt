use Rattle.volt_text.proofs.Spans.{spans, slices}
use Rattle.volt_text.proofs.laws.tokens_are_slices.Goals as goal

pub returns-clause-spans : goal.returns-clause-spans
returns-clause-spans c = spans

pub returns-clause-slices : goal.returns-clause-slices
returns-clause-slices c = slices
