use Rattle.std.proofs.Common.{arith}
use Rattle.volt_base.proofs.Entries.{rest_within, begins, read_again, begins_none}
use Rattle.volt_base.proofs.entry.Entry.decode.Goals as goal

pub overflow_sub-result : goal.overflow_sub-result
overflow_sub-result c = rest_within c.args.bytes.now c.in-Ok.entry c.in-Ok.rest.now (λ i. omega (arith, c.type_inv.bytes i)) c.in-Ok.ensures

pub returns-in-Ok-clause-found : goal.returns-in-Ok-clause-found
returns-in-Ok-clause-found c = begins c.args.bytes.now c.in-Ok.entry c.in-Ok.rest.now (λ i. omega (arith, c.type_inv.bytes i)) c.in-Ok.ensures

pub returns-in-Ok-clause-again : goal.returns-in-Ok-clause-again
returns-in-Ok-clause-again c entry rest fits spelled =
    let read = read_again c.args.bytes.now c.in-Ok.entry c.in-Ok.rest.now c.in-Ok.ensures entry rest fits spelled in
    cc (read.0, read.1)

pub returns-in-Err-NoEntry-clause-none : goal.returns-in-Err-NoEntry-clause-none
returns-in-Err-NoEntry-clause-none c = begins_none c.args.bytes.now (rw c.in-Err-NoEntry.field-0-is at c.in-Err-NoEntry.ensures)

pub returns-in-Err-NoEntry-clause-again : goal.returns-in-Err-NoEntry-clause-again
returns-in-Err-NoEntry-clause-again c entry rest fits spelled = absurd (begins_none c.args.bytes.now (rw c.in-Err-NoEntry.field-0-is at c.in-Err-NoEntry.ensures) entry rest fits spelled)
