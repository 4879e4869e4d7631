-- A call that was spelled is read again.
use Rattle.std.proofs.Common.{◌≡◌, Some, option_map, ap}
use Rattle.sql_meaning.specs.Calls.{Call}
use Rattle.sql_wire.specs.Bodies.{call_bytes}
use Rattle.sql_wire.specs.Spelled.{CallFits}
use Rattle.sql_wire.specs.Whole.{call_again}
use Rattle.engine_meaning.specs.Bodies.{called_by, body_of, call_in}

pub call-again : (c : Call) → CallFits (body_of c) → call_in (call_bytes (body_of c)) ≡ Some c
call-again c fits = ap (option_map called_by) (call_again (body_of c) fits)
