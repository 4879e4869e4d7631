-- Logs of a partition, and what follows from one.
use Rattle.std.specs.Prelude.{ℕ, List, [], ◌∷◌, ◌++◌, ◌==◌, Bool, true, false, Option, Some, None, is_none, unwrap_or, max, if◌then◌else◌}
use Rattle.volt_base.specs.Semantics.{Semantics}
use Rattle.volt_base.specs.declared.entry.Entry.{Entry}
use Rattle.volt_base.specs.declared.entry.Entry.TheVariants.{Sp, Frag, Done}
use Rattle.volt_base.specs.declared.entry.Outcome.{Outcome}
use Rattle.volt_base.specs.declared.entry.Outcome.TheVariants.{Dropped, Kept, Aborted, Snapshot}
use Rattle.volt_base.specs.declared.entry.Applied.{Applied}
use Rattle.cluster_model.specs.Engine.{Database}

-- ---- replay

-- the tables after these entries
abbrev pub replay_from : (S : Semantics) → S.State → List Entry → S.State
replay_from S state [] = state
replay_from S state (e ∷ es) = replay_from S (S.after state e) es

-- the tables of a partition after its log
abbrev pub replay : (E : Database) → ℕ → List Entry → E.tables.State
replay E part log = replay_from E.tables (E.opening part) log

-- what an entry answers behind a log: the reply to a call, the part of a round
abbrev pub answer_behind : (E : Database) → ℕ → List Entry → Entry → List ℕ
answer_behind E part log e = E.tables.answer (replay E part log) e

-- ---- transactions

-- The transaction that is open behind a log. A round opens its own, and an end closes the one that is open.
abbrev pub open_behind : Option ℕ → List Entry → Option ℕ
open_behind now [] = now
open_behind now (Sp call client point body ∷ es) = open_behind now es
open_behind now (Frag m round body ∷ es) = open_behind (Some m) es
open_behind now (Done m outcome ∷ es) = open_behind None es

abbrev pub open_in : List Entry → Option ℕ
open_in log = open_behind None log

abbrev pub nothing_open : List Entry → Bool
nothing_open log = is_none (open_in log)

-- the last transaction that was done behind a log, and its outcome
abbrev pub done_behind : Option (ℕ × Outcome) → List Entry → Option (ℕ × Outcome)
done_behind last [] = last
done_behind last (Sp call client point body ∷ es) = done_behind last es
done_behind last (Frag m round body ∷ es) = done_behind last es
done_behind last (Done m outcome ∷ es) = done_behind (Some (m, outcome)) es

-- that of a partition, whose log begins at the boot
abbrev pub last_done : (E : Database) → ℕ → List Entry → Option (ℕ × Outcome)
last_done E part log = done_behind (E.opening_done part) log

-- The outcome of a transaction, where it is this last one. That of a snapshot isn't the outcome of a call.
abbrev pub outcome_if_last : ℕ → Option (ℕ × Outcome) → Option Outcome
outcome_if_last m None = None
outcome_if_last m (Some (n, Snapshot)) = None
outcome_if_last m (Some (n, o)) = if n == m then Some o else None

-- the first outcome that is known of a transaction, from the last ones of several partitions; without one it is dropped
abbrev pub first_outcome : ℕ → List (Option (ℕ × Outcome)) → Outcome
first_outcome m [] = Dropped
first_outcome m (last ∷ later) = unwrap_or (outcome_if_last m last) (first_outcome m later)

-- the greater of two numbers, where there are any
abbrev pub greater : Option ℕ → Option ℕ → Option ℕ
greater None b = b
greater (Some a) None = Some a
greater (Some a) (Some b) = Some (max a b)

-- its number, and 0 where there is none
abbrev pub number_of : Option (ℕ × Outcome) → ℕ
number_of None = 0
number_of (Some last) = last.0

abbrev pub is_snapshot : Entry → Bool
is_snapshot (Done m Snapshot) = true
is_snapshot _ = false

-- ---- the calls that a log applies

-- A single-partition call is applied at its entry, a call on all partitions at its end, whether it was kept or aborted.
abbrev pub applied_by : Entry → List Applied
applied_by (Sp call client point body) = record { call = call; point = point } ∷ []
applied_by (Frag m round body) = []
applied_by (Done m Dropped) = []
applied_by (Done m (Kept call client point reply)) = record { call = call; point = point } ∷ []
applied_by (Done m (Aborted call client point reply)) = record { call = call; point = point } ∷ []
applied_by (Done m Snapshot) = []

-- the applied list of a log, in its order
abbrev pub applied_in : List Entry → List Applied
applied_in [] = []
applied_in (e ∷ es) = applied_by e ++ applied_in es
