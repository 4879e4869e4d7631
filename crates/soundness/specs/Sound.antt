-- When a report is sound: its one serial list of calls, run on one plain database, explains all that it prints.
use Rattle.std.specs.Prelude.{ℕ, zero, suc, ◌≡◌, ◌==◌, ◌/◌, ◌≤◌, ◌&&◌, ◌||◌, Bool, true, false, not, nat_lt, nat_le, if◌then◌else◌, List, [], ◌∷◌, Option, Some, None, slice_get, filter, count_by}
use Rattle.std.specs.Option.{option_map, option_map_or}
use Rattle.std.specs.List.{list_any, list_all, range_with_len, AllByRecursion}
use Rattle.volt_base.specs.declared.entry.Applied.{Applied}
use Rattle.volt_report.specs.Report.{ReportEnd, Kept, User, Fault, Statements, Steps, Size, Lost, Down, CallLine, CopyLine, Report}
use Rattle.soundness.specs.Meaning.{Meaning, Asked, Script}

-- ---- the serial list on one plain database

-- the call of this number, from 1 on
abbrev pub call_at : (M : Meaning) → List (Asked M) → ℕ → Option M.Call
call_at M asked zero = None
call_at M asked (suc n) = option_map (λ a. a.call) (slice_get asked n)

-- the database after one call of the serial list
abbrev pub next : (M : Meaning) → Script M → M.Database → Applied → M.Database
next M s d a = option_map_or (λ c. M.after d c) (call_at M s.calls a.call) d

-- the database after the calls of the list, one after another
abbrev pub database_after : (M : Meaning) → Script M → M.Database → List Applied → M.Database
database_after M s d [] = d
database_after M s d (a ∷ later) = database_after M s (next M s d a) later

-- what a call answers at its place in the list
abbrev pub reply_in : (M : Meaning) → Script M → M.Database → List Applied → ℕ → Option ReportEnd
reply_in M s d [] call = None
reply_in M s d (a ∷ later) call =
    if a.call == call
    then option_map (λ c. M.reply d c) (call_at M s.calls call)
    else reply_in M s (next M s d a) later call

-- whether a call of the list is one of partition p's: a call on p alone, or one on all partitions
abbrev pub is_call_of : (M : Meaning) → Script M → ℕ → Applied → Bool
is_call_of M s p a = option_map_or (M.is_call_of p) (call_at M s.calls a.call) false

-- the shortest prefix of the list that holds n calls of a partition
abbrev pub prefix_with : (Applied → Bool) → ℕ → List Applied → List Applied
prefix_with is_of zero later = []
prefix_with is_of (suc n) [] = []
prefix_with is_of (suc n) (a ∷ later) = a ∷ prefix_with is_of (if is_of a then n else suc n) later

-- ---- what a report must say of it

-- an end that is an answer: the call was kept or it aborted
abbrev pub is_answer : ReportEnd → Bool
is_answer (Kept rows) = true
is_answer (User text) = true
is_answer (Fault code) = true
is_answer Statements = true
is_answer Steps = true
is_answer Size = true
is_answer Lost = false
is_answer (Down part) = false

-- how often a call stands in the list
abbrev pub times : ℕ → List Applied → ℕ
times call list = count_by (λ a. a.call == call) list

-- no call stands in the list twice
abbrev pub has_no_double : List Applied → Bool
has_no_double [] = true
has_no_double (a ∷ later) = not (list_any (λ b. b.call == a.call) later) && has_no_double later

-- a call's point is after its submission, and, where it was answered, before its end
abbrev pub is_between : CallLine → ℕ → Bool
is_between line point = nat_lt line.submitted point && (not (is_answer line.end) || nat_lt point line.ended)

abbrev pub is_in_time : List CallLine → Applied → Bool
is_in_time lines a = list_all (λ line. not (line.call == a.call) || is_between line a.point) lines

-- where the call was answered, its end is this reply
abbrev pub IsReply : Bool → Option ReportEnd → ReportEnd → Type 0
IsReply true reply end = reply ≡ Some end
IsReply false reply end = Unit {0}

-- the points of the list never fall
abbrev pub rises_from : ℕ → List Applied → Bool
rises_from low [] = true
rises_from low (a ∷ later) = nat_le low a.point && rises_from a.point later

-- the partition of which a slot holds a copy
abbrev pub partition_of_slot : (M : Meaning) → Script M → ℕ → ℕ
partition_of_slot M s slot = slot / s.copies

-- A copy at position n has the rows of its partition after the first n calls of that partition.
abbrev pub calls_of_copy : (M : Meaning) → Script M → List Applied → CopyLine → List Applied
calls_of_copy M s serial c = prefix_with (is_call_of M s (partition_of_slot M s c.slot)) c.position serial

pub record ShowsPart (M : Meaning) (s : Script M) (opening : M.Database) (serial : List Applied) (c : CopyLine) : Type 0 where
  pub enough : c.position ≤ count_by (is_call_of M s (partition_of_slot M s c.slot)) serial
  pub rows : c.rows ≡ M.part (partition_of_slot M s c.slot) (database_after M s opening (calls_of_copy M s serial c))

-- a call of the list is among the calls of its partition that some copy has
abbrev pub is_in_copy : (M : Meaning) → Script M → List Applied → Applied → CopyLine → Bool
is_in_copy M s serial a c =
    list_any (λ b. b.call == a.call)
    (filter (is_call_of M s (partition_of_slot M s c.slot)) (calls_of_copy M s serial c))

-- The report is sound. The opening's rows make the database on which the serial list runs.
pub record Sound (M : Meaning) (s : Script M) (r : Report) : Type 0 where
  -- each answered call stands in the serial list once, and no call stands in it twice
  pub once : list_all (λ line. not (is_answer line.end) || times line.call r.serial == 1) r.calls ≡ true
  pub no_double : has_no_double r.serial ≡ true
  -- each call stands after its submission and before its answer, so after every call answered before its submission
  pub in_time : list_all (is_in_time r.calls) r.serial ≡ true
  -- the serial list, run on the plain database, gives each answered call the reply that is printed
  pub replies : AllByRecursion (λ line. IsReply (is_answer line.end) (reply_in M s (M.database r.opening) r.serial line.call) line.end) r.calls
  -- each printed copy is that database's partition at the printed position
  pub copies : AllByRecursion (ShowsPart M s (M.database r.opening) r.serial) r.copies
  -- the points never fall, each call of the list is in a copy, and each partition has one
  pub points : rises_from 0 r.serial ≡ true
  pub held : list_all (λ a. list_any (is_in_copy M s r.serial a) r.copies) r.serial ≡ true
  pub each_part : list_all (λ p. list_any (λ c. partition_of_slot M s c.slot == p) r.copies) (range_with_len 0 M.parts) ≡ true
