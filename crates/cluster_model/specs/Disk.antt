-- What the disk of a slot may show, and what is chosen of several disks.
use Rattle.std.specs.Prelude.{ℕ, ◌==◌, ◌&&◌, ◌||◌, Bool, nat_lt, if◌then◌else◌, max, List, [], ◌∷◌, ◌++◌, map, take, drop, length, Option, Some, None, unwrap_or, option_map}
use Rattle.volt_base.specs.declared.entry.Entry.{Entry}
use Rattle.volt_base.specs.declared.entry.Entry.TheVariants.{Done}
use Rattle.volt_base.specs.declared.entry.Outcome.{Outcome}
use Rattle.volt_base.specs.declared.entry.Outcome.TheVariants as outcome
use Rattle.partition_ring.specs.Placement.{slots_of_part}
use Rattle.cluster_model.specs.Engine.{Database}
use Rattle.cluster_model.specs.Log.{open_in, last_done, first_outcome, greater}
use Rattle.cluster_model.specs.Words.{Deployment, all_parts}

-- What a disk that isn't blank shows: the greatest term whose mark is on it, and a log. Its base is the tables at one
-- position of that log, and the entries above it stand beside the base.
pub record Content : Type 0 where
  pub mark : ℕ
  pub base : ℕ
  pub log : List Entry

-- what a disk shows: nothing where it is blank
abbrev pub Shown : Type 0
Shown = Option Content

-- ---- the parts of an event

-- The disk of a slot may show one of several contents. A part that answered leaves one, that after it. A part that failed
-- leaves those before it and the one after it.
abbrev pub after_parts : List Shown → List Shown → List Shown
after_parts before [] = before
after_parts before (c ∷ cs) = after_parts (c ∷ []) cs

-- after so many parts that answered, the next one failed, if there is one
abbrev pub after_failure : List Shown → List Shown → ℕ → List Shown
after_failure before parts answered = after_parts before (take answered parts) ++ take 1 (drop answered parts)

-- ---- the choice of a recovery

-- one content is better than another by its mark, and then by the position that it reaches
abbrev pub is_better : Content → Content → Bool
is_better a b = nat_lt b.mark a.mark || (a.mark == b.mark && nat_lt (length b.log) (length a.log))

abbrev pub better : Shown → Shown → Shown
better None b = b
better (Some a) None = Some a
better (Some a) (Some b) = if is_better b a then Some b else Some a

-- the best of these contents, and of equally good ones the first
abbrev pub best_of : List Shown → Shown
best_of [] = None
best_of (c ∷ cs) = better c (best_of cs)

-- what the disks of a partition's slots show, in order of slots
abbrev pub shown_of_part : Deployment → (ℕ → Shown) → ℕ → List Shown
shown_of_part D shown p = map shown (slots_of_part D.layout.k p)

-- The log that is chosen for a partition. Were all its disks blank, it would be that of the opening.
abbrev pub chosen : Deployment → (ℕ → Shown) → ℕ → List Entry
chosen D shown p = unwrap_or (option_map (λ c. c.log) (best_of (shown_of_part D shown p))) []

-- the greatest mark of all disks, a blank one counting as 0
abbrev pub mark_of : Shown → ℕ
mark_of None = 0
mark_of (Some c) = c.mark

abbrev pub greatest_mark : List Shown → ℕ
greatest_mark [] = 0
greatest_mark (c ∷ cs) = max (mark_of c) (greatest_mark cs)

-- ---- the transaction that is open in the chosen logs

-- the greatest number that is open in one of these logs
abbrev pub greatest_open : List (List Entry) → Option ℕ
greatest_open [] = None
greatest_open (log ∷ logs) = greater (open_in log) (greatest_open logs)

-- The outcome of the first log, in order of partitions, whose last transaction has that number and an outcome other than
-- that of a snapshot. Without one it is dropped.
abbrev pub resolved : Database → Deployment → (ℕ → List Entry) → ℕ → Outcome
resolved E D logs m = first_outcome m (map (λ p. last_done E p (logs p)) (all_parts D))

-- a log with its open transaction closed: at the greatest number with the outcome that was found, at a lower one dropped
abbrev pub closed : List Entry → Option ℕ → Option ℕ → Outcome → List Entry
closed log None greatest o = log
closed log (Some m) greatest o =
    log ++ Done m (if m == unwrap_or greatest 0 then o else outcome.Dropped) ∷ []

abbrev pub resolved_log : Database → Deployment → (ℕ → List Entry) → Option ℕ → ℕ → List Entry
resolved_log E D logs greatest p =
    closed (logs p) (open_in (logs p)) greatest (resolved E D logs (unwrap_or greatest 0))

-- the logs with which a recovery goes on, from what each disk showed
abbrev pub recovered : Database → Deployment → (ℕ → Shown) → ℕ → List Entry
recovered E D shown p =
    resolved_log E D (chosen D shown) (greatest_open (map (chosen D shown) (all_parts D))) p
