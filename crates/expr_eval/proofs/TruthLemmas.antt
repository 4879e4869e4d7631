-- Truth values that are joined one after another.
use Rattle.std.proofs.Common.{◌≡◌, true, false, Some, None, Result, Ok, Err, refl}
use Rattle.sql_plan.specs.declared.fault.Fault.{Fault}
use Rattle.sql_meaning.specs.Values.{Truth, conjunction, disjunction}
use Rattle.sql_meaning.specs.Expressions.{and_then, or_else}

-- AND goes on with the conjunction so far
pub and_then_more : (t u : Truth) (rest : Result Truth Fault) → and_then t (and_then u rest) ≡ and_then (conjunction t u) rest
and_then_more (Some false) u rest = refl
and_then_more (Some true) (Some false) rest = refl
and_then_more (Some true) (Some true) (Ok (Some false)) = refl
and_then_more (Some true) (Some true) (Ok (Some true)) = refl
and_then_more (Some true) (Some true) (Ok None) = refl
and_then_more (Some true) (Some true) (Err f) = refl
and_then_more (Some true) None (Ok (Some false)) = refl
and_then_more (Some true) None (Ok (Some true)) = refl
and_then_more (Some true) None (Ok None) = refl
and_then_more (Some true) None (Err f) = refl
and_then_more None (Some false) rest = refl
and_then_more None (Some true) (Ok (Some false)) = refl
and_then_more None (Some true) (Ok (Some true)) = refl
and_then_more None (Some true) (Ok None) = refl
and_then_more None (Some true) (Err f) = refl
and_then_more None None (Ok (Some false)) = refl
and_then_more None None (Ok (Some true)) = refl
and_then_more None None (Ok None) = refl
and_then_more None None (Err f) = refl

-- OR goes on with the disjunction so far
pub or_else_more : (t u : Truth) (rest : Result Truth Fault) → or_else t (or_else u rest) ≡ or_else (disjunction t u) rest
or_else_more (Some true) u rest = refl
or_else_more (Some false) (Some true) rest = refl
or_else_more (Some false) (Some false) (Ok u) = refl
or_else_more (Some false) (Some false) (Err f) = refl
or_else_more (Some false) None (Ok u) = refl
or_else_more (Some false) None (Err f) = refl
or_else_more None (Some true) rest = refl
or_else_more None (Some false) (Ok (Some true)) = refl
or_else_more None (Some false) (Ok (Some false)) = refl
or_else_more None (Some false) (Ok None) = refl
or_else_more None (Some false) (Err f) = refl
or_else_more None None (Ok (Some true)) = refl
or_else_more None None (Ok (Some false)) = refl
or_else_more None None (Ok None) = refl
or_else_more None None (Err f) = refl
