use Rattle.volt_index.proofs.KeyOrder.{key_order, end_order, same_keys}
use Rattle.volt_index.proofs.laws.keys_are_in_order.Goals as goal

pub returns-clause-order : goal.returns-clause-order
returns-clause-order c = key_order

pub returns-clause-same : goal.returns-clause-same
returns-clause-same c = same_keys c.order_is_total.ensures.equal

pub returns-clause-ends : goal.returns-clause-ends
returns-clause-ends c = end_order
