-- What a collector holds, and what it comes to.
use Rattle.std.specs.Prelude.{List, ◌++◌, filter_map, Result}
use Rattle.sql_plan.specs.declared.fault.Fault.{Fault}
use Rattle.sql_meaning.specs.Judged.{least, least_fault, value_in, unless}
use Rattle.expr_eval.specs.declared.collector.Collector.{Collector}

-- what is collected in all, where these come behind what was noted
abbrev pub with_more : {A : Type 0} → Collector A → List (Result A Fault) → Result (List A) Fault
with_more c rs = unless (least c.fault (least_fault rs)) (c.values.items ++ filter_map value_in rs)
