-- The log of a partition as a machine: which entries may stand in it, and in which order.
use Rattle.std.specs.Prelude.{ℕ, ◌≡◌, ◌<◌, ◌≤◌, ◌+◌, ◌⊎◌, List, [], ◌∷◌, map, Option, Some, None}
use Rattle.volt_base.specs.declared.entry.Entry.{Entry}
use Rattle.volt_base.specs.declared.entry.Entry.TheVariants.{Sp, Frag, Done}
use Rattle.volt_base.specs.declared.entry.Outcome.{Outcome}
use Rattle.volt_base.specs.declared.entry.Outcome.TheVariants.{Dropped, Kept, Aborted, Snapshot}
use Rattle.cluster_model.specs.Engine.{Database}
use Rattle.cluster_model.specs.Log.{number_of, applied_in}

-- Where a log stands.
pub record Stage : Type 0 where
  -- the transaction that is open, and its last round
  pub opened : Option (ℕ × ℕ)
  -- the greatest number that a transaction had
  pub number : ℕ
  -- the last point
  pub point : ℕ

-- that of an empty log, with which a partition begins at the boot
abbrev pub first_stage : Database → ℕ → Stage
first_stage E p = record { opened = None; number = number_of (E.opening_done p); point = 0 }

-- the point of an end that applies a call; another one has none, and the last point stays
abbrev pub point_after : ℕ → Outcome → ℕ
point_after now (Kept call client point reply) = point
point_after now (Aborted call client point reply) = point
point_after now Dropped = now
point_after now Snapshot = now

abbrev pub next_stage : Stage → Entry → Stage
next_stage s (Sp call client point body) = record s { point = point }
next_stage s (Frag m round body) = record { opened = Some (m, round); number = m; point = s.point }
next_stage s (Done m outcome) = record { opened = None; number = m; point = point_after s.point outcome }

abbrev pub stage_behind : Stage → List Entry → Stage
stage_behind s [] = s
stage_behind s (e ∷ es) = stage_behind (next_stage s e) es

-- behind a log of partition p
abbrev pub stage : Database → ℕ → List Entry → Stage
stage E p log = stage_behind (first_stage E p) log

-- ---- which entry fits

abbrev pub IsOpen : Stage → ℕ → Type 0
IsOpen s m = (round : ℕ) × (s.opened ≡ Some (m, round))

-- A transaction begins with its first round, where none is open, and with a number above all before it. Then its rounds come in order.
abbrev pub RoundFits : Stage → ℕ → ℕ → Type 0
RoundFits s m round =
    ((s.opened ≡ None) × (s.number < m) × (round ≡ 1))
    ⊎ ((last : ℕ) × (s.opened ≡ Some (m, last)) × (round ≡ last + 1))

-- An end is that of the transaction that is open. A snapshot has no rounds. The point of a call isn't below the last one.
abbrev pub EndFits : Stage → ℕ → Outcome → Type 0
EndFits s m (Kept call client point reply) = IsOpen s m × (s.point ≤ point)
EndFits s m (Aborted call client point reply) = IsOpen s m × (s.point ≤ point)
EndFits s m Dropped = IsOpen s m
EndFits s m Snapshot = (s.opened ≡ None) × (s.number < m)

-- A call on one partition runs where no transaction is open, at a point that isn't below the last one.
abbrev pub Fits : Stage → Entry → Type 0
Fits s (Sp call client point body) = (s.opened ≡ None) × (s.point ≤ point)
Fits s (Frag m round body) = RoundFits s m round
Fits s (Done m outcome) = EndFits s m outcome

-- each entry fits behind those before it
abbrev pub WellFormed : Stage → List Entry → Type 0
WellFormed s [] = Unit {0}
WellFormed s (e ∷ es) = Fits s e × WellFormed (next_stage s e) es

-- ---- points

-- the points of the calls that a log applies, in its order
abbrev pub points : List Entry → List ℕ
points log = map (λ a. a.point) (applied_in log)

-- None of these is below the one before it, nor the first one below this, nor the last one above that.
abbrev pub RiseWithin : ℕ → ℕ → List ℕ → Type 0
RiseWithin low high [] = low ≤ high
RiseWithin low high (x ∷ xs) = (low ≤ x) × RiseWithin x high xs
