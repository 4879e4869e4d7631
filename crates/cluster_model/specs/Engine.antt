-- What the cluster knows of the database.
use Rattle.std.specs.Prelude.{ℕ, List, Option}
use Rattle.volt_base.specs.Semantics.{Semantics}
use Rattle.volt_base.specs.declared.entry.Outcome.{Outcome}
pub use Rattle.volt_base.specs.declared.coord.CoordStep.{CoordStep}
pub use Rattle.volt_base.specs.declared.coord.CoordStep.TheVariants.{Round, Finish}

-- An abstract database: the tables of each partition, and how a call on all partitions goes on.
pub record Database : Type 1 where
  -- what the entries of a partition's log do to its tables
  pub tables : Semantics
  -- the tables of a partition with which a run opens, as the disks showed them at the boot
  pub opening : ℕ → tables.State
  -- the last multi-partition transaction that was done in a partition by then
  pub opening_done : ℕ → Option (ℕ × Outcome)
  -- the tables as blocks, one after another, as a scan reads them out
  pub blocks : tables.State → List (List ℕ)
  -- what a call with this body does next, when each of its rounds so far was answered by these parts, one for each
  -- partition in their order
  pub asks : List ℕ → List (List (List ℕ)) → CoordStep
