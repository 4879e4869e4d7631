use Rattle.std.proofs.Common.{[], ◌∷◌, refl}
use Rattle.sql_meaning.specs.Starter.{catalog, balance_of}
use Rattle.sql_instances.specs.Instances.{three}
use Rattle.sql_plan.specs.declared.prepared.Scope.TheVariants.{OnePartition}
use Rattle.sql_meaning.specs.Database.{share}
use Rattle.sql_scenarios.specs.Builders.{int}
use Rattle.sql_instances.proofs.balance_on_its_partition.Goals as goal

pub returns : goal.returns
returns c = c.statements_on_one_partition_are_of_one_part.ensures 3 catalog 2 (balance_of OnePartition) (int 2 ∷ []) (share 3 catalog 2 three) refl
