use Rattle.std.proofs.Common.{not, ◌&&◌, Option, is_some, ap, ◌∙◌}
use Rattle.sql_meaning.specs.Calls.{Call}
use Rattle.sql_wire.specs.Bodies.{call_bytes}
use Rattle.engine_meaning.specs.Bodies.{body_of, call_in}
use Rattle.engine_meaning.specs.State.{Open}
use Rattle.engine_meaning.specs.Entries.{is_body_here, after_call, answer_to_call}
use Rattle.engine_meaning.proofs.Again.{call-again}
use Rattle.engine_meaning.proofs.calls_on_one_partition_are_carried_out.Goals as goal

pub returns : goal.returns
returns g = λ plan s call client point c fits closed here.
    let again = call-again c fits in
    record {
      fits = ap (λ (o : Option Open). not (is_some o) && is_body_here plan s.part (call_in (call_bytes (body_of c)))) closed ∙ ap (is_body_here plan s.part) again ∙ here;
      tables = ap (λ (o : Option Call). (after_call plan call client point s o).tables) again;
      answers = ap (answer_to_call plan s) again;
      applied = ap (λ (o : Option Call). (after_call plan call client point s o).applied) again;
    }
