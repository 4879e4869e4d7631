use Rattle.std.proofs.Common.{IfSome, IfNone, Some, sym, ap, ◌∙◌, subst, arith}
use Rattle.std.proofs.lemmas.List.{take_rest}
use Rattle.volt_base.specs.Spelling.{BeginsWith, BeginsWithNone}
use Rattle.snapshot_io.proofs.Ended.{entry_found, entry_none}
use Rattle.log_records.proofs.record.read_entry.Goals as goal

pub returns-in-Some : goal.returns-in-Some
returns-in-Some c =
    let bytes = c.args.bytes.now in
    let begins : BeginsWith bytes c.in-Some.entry c.in-Some.len = subst (λ got. IfSome got (λ found. BeginsWith bytes found.0 found.1)) c.in-Some.is c.in_ok-entry.ensures.found in
    entry_found bytes c.in-Some.entry c.in-Some.len begins ∙ ap (λ rest. Some (c.in-Some.entry, rest)) (sym (take_rest bytes c.in-Some.len))

pub returns-in-None : goal.returns-in-None
returns-in-None c =
    let bytes = c.args.bytes.now in
    entry_none bytes (λ i. omega (arith, c.type_inv.bytes i)) (subst (λ got. IfNone got (BeginsWithNone bytes)) c.in-None.is c.in_ok-entry.ensures.none)
