-- The points of a log into which each entry fits never fall.
use Rattle.transaction_laws.proofs.Names.{Aborted, Done, Dropped, Entry, Frag, Kept, List, RiseWithin, Snapshot, Sp, Stage, WellFormed, [], next_stage, points, stage_behind, ℕ, ◌∷◌, ◌≤◌}

-- from the last point before it on, up to the last one in it
pub points-rise : (s : Stage) (high : ℕ) (log : List Entry) → WellFormed s log → (stage_behind s log).point ≤ high → RiseWithin s.point high (points log)
points-rise s high [] h l = l
points-rise s high (Sp call client point body ∷ es) h l = (h.0.1, points-rise (next_stage s (Sp call client point body)) high es h.1 l)
points-rise s high (Frag m round body ∷ es) h l = points-rise (next_stage s (Frag m round body)) high es h.1 l
points-rise s high (Done m Dropped ∷ es) h l = points-rise (next_stage s (Done m Dropped)) high es h.1 l
points-rise s high (Done m (Kept call client point reply) ∷ es) h l = (h.0.1, points-rise (next_stage s (Done m (Kept call client point reply))) high es h.1 l)
points-rise s high (Done m (Aborted call client point reply) ∷ es) h l = (h.0.1, points-rise (next_stage s (Done m (Aborted call client point reply))) high es h.1 l)
points-rise s high (Done m Snapshot ∷ es) h l = points-rise (next_stage s (Done m Snapshot)) high es h.1 l
