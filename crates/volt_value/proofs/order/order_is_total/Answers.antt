use Rattle.volt_value.specs.OrderLaws.{value_total}
use Rattle.volt_value.proofs.OrderLemmas.{value_cmp-same, value_cmp-equal}
use Rattle.volt_value.proofs.order.order_is_total.Goals as goal

pub returns-clause-total : goal.returns-clause-total
returns-clause-total c = value_total

pub returns-clause-same : goal.returns-clause-same
returns-clause-same c = value_cmp-same

pub returns-clause-equal : goal.returns-clause-equal
returns-clause-equal c = value_cmp-equal
