use Rattle.std.proofs.Common.{[], lit<}
use Rattle.sql_scenarios.specs.Builders.{counted, num}
use Rattle.sql_scenarios.specs.Notes as notes
use Rattle.sql_instances.specs.Instances.{code}
use Rattle.sql_instances.proofs.Premises.{is_catalog-notes, database-code, set_codes-prepared}
use Rattle.sql_instances.proofs.update_of_all_copies.Goals as goal

pub returns : goal.returns
returns c =
    let law = c.statements_are_of_their_parts.ensures 3 notes.catalog (notes.set_codes (num 3)) [] (code 1) (lit< tt) is_catalog-notes database-code set_codes-prepared (λ e. absurd (cc)) in
    record { parts = law; shares = law.shares (code 3, counted 1) c.counts_of_all.ensures.made_once }
