use Rattle.std.proofs.Common.{◌≡◌, [], ◌∷◌, ◌∙◌, refl, pos, lit<}
use Rattle.sql_meaning.proofs.Meanings.{meanings}
use Rattle.sql_meaning.specs.Calls.{own_call}
use Rattle.sql_meaning.specs.Starter.{plan}
use Rattle.sql_scenarios.specs.Accounts.{accounts, put}
use Rattle.sql_scenarios.specs.Builders.{int}
use Rattle.engine_meaning.specs.State.{nothing_in}
use Rattle.engine_instances.proofs.put_on_its_partition.Goals as goal

account_put : (own_call (plan 3) 1 ([] ∷ []) (put 1 (int 10))).0 ≡ accounts ((1, pos 10) ∷ [])
account_put = simp meanings

pub returns : goal.returns
returns c =
    let law = c.calls_on_one_partition_are_carried_out.ensures (plan 3) (nothing_in (plan 3) 1) 1 1 4 (put 1 (int 10)) (lit< tt, (lit< tt, (refl, (refl, tt)))) refl refl in
    record { called = law; tables = law.tables ∙ account_put }
