-- A disk in memory: its files, and which of its calls fail.
use Rattle.std.specs.Prelude.{◌≡◌, ◌≢◌, ◌⊎◌, ℕ, ◌==◌, Bool, true, false, if◌then◌else◌, List, [], Option, Some, None, Result, Ok, Err}
use Rattle.std.specs.List.{list_any}
use Rattle.volt_disk.specs.declared.power.Power.{Power}
use Rattle.volt_disk.specs.declared.power.Fate.{Fate}
use Rattle.volt_disk.specs.declared.power.Fate.TheVariants.{Works, Cut, Dark}
use Rattle.volt_disk.specs.declared.memory.Turn.{Turn}
use Rattle.volt_disk.specs.declared.memory.Turn.TheVariants.{Done, Numbered, Lost, Off}
use Rattle.volt_disk.specs.declared.change.Change.{Change}
use Rattle.volt_disk.specs.declared.disk.DiskFailed.{DiskFailed}
use Rattle.volt_base.specs.Faults.{one_more}
use Rattle.volt_disk.specs.File.{File}
use Rattle.volt_disk.specs.Power.{full_power, fate, after_call, cycled}
use Rattle.volt_disk.specs.Stored.{Stored, changed, stored_at, with_file, all_lost}

pub record Memory : Type 0 where
  -- by number, in the order of the numbers
  pub files : List (ℕ × Stored)
  -- the numbers, from 1, of the calls that fail
  pub fail : List ℕ
  -- the number of the next call; past the greatest u64 it stays there
  pub call : ℕ
  -- how many calls failed; past the greatest u64 it stays there
  pub faults : ℕ
  -- how many of them found no memory; past the greatest u64 it stays there
  pub starved : ℕ
  pub power : Power

-- a disk without files, before its first call
abbrev pub empty_memory : List ℕ → Memory
empty_memory fail = record { files = []; fail = fail; call = 1; faults = 0; starved = 0; power = full_power }

-- what it tells of a file
abbrev pub told_of : Memory → ℕ → File
told_of m n = (stored_at n m.files).file

abbrev pub turn_by : Fate → Bool → Turn
turn_by Works numbered = if numbered then Numbered else Done
turn_by Cut numbered = Lost
turn_by Dark numbered = Off

-- what the next call meets: no power first, then a planned loss, then its number
abbrev pub turn_of : Memory → Turn
turn_of m = turn_by (fate m.power) (list_any (λ n. n == m.call) m.fail)

-- a call that meets nothing works, and any other fails
abbrev pub answer_in : {T : Type 0} → Turn → T → Result T DiskFailed
answer_in Done value = Ok value
answer_in _ value = Err (record {})

-- what a call answers, where it works with this value and takes no memory
abbrev pub answer_of : {T : Type 0} → Memory → T → Result T DiskFailed
answer_of m value = answer_in (turn_of m) value

-- after a call was counted
abbrev pub called : Memory → Memory
called m = record m { call = one_more m.call; power = after_call m.power }

-- after a call that failed and changed no file
abbrev pub failed : Memory → Memory
failed m = record (called m) { faults = one_more m.faults }

-- after a call that ran out of memory
abbrev pub starved : Memory → Memory
starved m = record (failed m) { starved = one_more m.starved }

-- after a call that leaves these files where it works, and else the files that were there
abbrev pub leaves_in : Turn → List (ℕ × Stored) → Memory → Memory
leaves_in Done files m = record (called m) { files = files }
leaves_in _ files m = failed m

abbrev pub leaves : List (ℕ × Stored) → Memory → Memory
leaves files m = leaves_in (turn_of m) files m

-- After a call that changes a file. It takes its effect where it works, and at a planned loss. Where it fails by its
-- number it was asked for, and without power nothing of it was begun.
abbrev pub changed_in : Turn → Change → ℕ → Memory → Memory
changed_in Done change n m = record (called m) { files = with_file n (changed true change (stored_at n m.files)) m.files }
changed_in Lost change n m = record (failed m) { files = with_file n (changed true change (stored_at n m.files)) m.files }
changed_in Numbered change n m = record (failed m) { files = with_file n (changed false change (stored_at n m.files)) m.files }
changed_in Off change n m = failed m

-- A call that changes a file answers by its turn, and leaves what that says. Or it runs out of memory, which it can only
-- with power: then it fails and changes no file.
abbrev pub IsChange : Change → ℕ → Result (Unit {0}) DiskFailed → Memory → Memory → Type 0
IsChange change n result before now =
    ((result ≡ answer_of before tt) × (now ≡ changed_in (turn_of before) change n before))
    ⊎ ((result ≡ Err (record {})) × (turn_of before ≢ Off) × (now ≡ starved before))

-- the choice of a loss of power; where none came true it is 1
abbrev pub choice_of : Option ℕ → ℕ
choice_of None = 1
choice_of (Some choice) = choice

-- after a power cycle
abbrev pub power_cycled : Memory → Memory
power_cycled m = record m { files = all_lost (choice_of m.power.lost) (choice_of m.power.lost) m.files; power = cycled m.power }
