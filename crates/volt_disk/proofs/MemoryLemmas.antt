-- A disk in memory does what each disk does.
use Rattle.std.proofs.Common.{◌≡◌, ◌≢◌, ℕ, Bool, true, false, Result, Err, OnOk, OnErr, refl, ap, inl, inr}
use Rattle.volt_disk.specs.declared.change.Change.{Change}
use Rattle.volt_disk.specs.declared.disk.DiskFailed.{DiskFailed}
use Rattle.volt_disk.specs.declared.memory.Turn.{Turn}
use Rattle.volt_disk.specs.declared.memory.Turn.TheVariants.{Done, Numbered, Lost, Off}
use Rattle.volt_disk.specs.Effects.{asked, made, synced, names_synced, FailsAs}
use Rattle.volt_disk.specs.Power.{has_power}
use Rattle.volt_disk.specs.Stored.{changed, stored_at, with_file, with_synced, all_names_synced}
use Rattle.volt_disk.specs.Memory.{Memory, told_of, turn_of, answer_in, leaves_in, changed_in, starved, IsChange}
use Rattle.volt_disk.proofs.PowerLemmas.{dark_without_power}
use Rattle.volt_disk.proofs.FileLemmas.{stored_at-put, stored_at-put_other, stored_at-synced, stored_at-synced_other, stored_at-names_synced}

off_without_power : (m : Memory) → has_power m.power ≡ false → turn_of m ≡ Off
off_without_power m none = rw (dark_without_power m.power none) refl

-- what each disk says of a change of a file
pub record Tells (change : Change) (n : ℕ) (result : Result (Unit {0}) DiskFailed) (before now : Memory) : Type 0 where
  pub taken : OnOk result (told_of now n ≡ made change (told_of before n))
  pub failed : OnErr result (FailsAs (told_of before n) (asked change (told_of before n)) (made change (told_of before n)) (told_of now n))
  pub others : (m : ℕ) → m ≢ n → told_of now m ≡ told_of before m
  pub dark : has_power before.power ≡ false → (m : ℕ) → told_of now m ≡ told_of before m

put_told : (n : ℕ) (change : Change) (is_made : Bool) (m : Memory) → (stored_at n (with_file n (changed is_made change (stored_at n m.files)) m.files)).file ≡ (changed is_made change (stored_at n m.files)).file
put_told n change is_made m = ap (λ s. s.file) (stored_at-put n (changed is_made change (stored_at n m.files)) m.files)

put_others : (n : ℕ) (change : Change) (is_made : Bool) (m : Memory) (k : ℕ) → k ≢ n → (stored_at k (with_file n (changed is_made change (stored_at n m.files)) m.files)).file ≡ (stored_at k m.files).file
put_others n change is_made m k other = ap (λ s. s.file) (stored_at-put_other n k (changed is_made change (stored_at n m.files)) m.files other)

tells_in : (t : Turn) (change : Change) (n : ℕ) (m : Memory) → turn_of m ≡ t → Tells change n (answer_in t tt) m (changed_in t change n m)
tells_in Done change n m turn = record {
  taken = put_told n change true m;
  failed = tt;
  others = put_others n change true m;
  dark = λ none. let off = off_without_power m none in absurd (cc);
}
tells_in Numbered change n m turn = record {
  taken = tt;
  failed = inr (inl (put_told n change false m));
  others = put_others n change false m;
  dark = λ none. let off = off_without_power m none in absurd (cc);
}
tells_in Lost change n m turn = record {
  taken = tt;
  failed = inr (inr (put_told n change true m));
  others = put_others n change true m;
  dark = λ none. let off = off_without_power m none in absurd (cc);
}
tells_in Off change n m turn = record { taken = tt; failed = inl refl; others = λ k other. refl; dark = λ none k. refl }

tells_starved : (change : Change) (n : ℕ) (m : Memory) → Tells change n (Err (record {})) m (starved m)
tells_starved change n m = record { taken = tt; failed = inl refl; others = λ k other. refl; dark = λ none k. refl }

pub tells_change : (change : Change) (n : ℕ) (result : Result (Unit {0}) DiskFailed) (before now : Memory) → IsChange change n result before now → Tells change n result before now
tells_change change n result before now (inl done) = rw (done.0, done.1) (tells_in (turn_of before) change n before refl)
tells_change change n result before now (inr starves) = rw (starves.0, starves.2) (tells_starved change n before)

-- what each disk says of a sync of a file
pub record TellsSync (n : ℕ) (result : Result (Unit {0}) DiskFailed) (before now : Memory) : Type 0 where
  pub done : OnOk result (told_of now n ≡ synced (told_of before n))
  pub failed : OnErr result (told_of now n ≡ told_of before n)
  pub others : (m : ℕ) → m ≢ n → told_of now m ≡ told_of before m

pub tells_sync : (t : Turn) (n : ℕ) (m : Memory) → TellsSync n (answer_in t tt) m (leaves_in t (with_synced n m.files) m)
tells_sync Done n m = record {
  done = stored_at-synced n m.files;
  failed = tt;
  others = λ k other. ap (λ s. s.file) (stored_at-synced_other n k m.files other);
}
tells_sync Numbered n m = record { done = tt; failed = refl; others = λ k other. refl }
tells_sync Lost n m = record { done = tt; failed = refl; others = λ k other. refl }
tells_sync Off n m = record { done = tt; failed = refl; others = λ k other. refl }

-- and of a sync of the names
pub record TellsNames (result : Result (Unit {0}) DiskFailed) (before now : Memory) : Type 0 where
  pub done : OnOk result ((m : ℕ) → told_of now m ≡ names_synced (told_of before m))
  pub failed : OnErr result ((m : ℕ) → told_of now m ≡ told_of before m)

pub tells_names : (t : Turn) (m : Memory) → TellsNames (answer_in t tt) m (leaves_in t (all_names_synced m.files) m)
tells_names Done m = record { done = λ k. stored_at-names_synced k m.files; failed = tt }
tells_names Numbered m = record { done = tt; failed = λ k. refl }
tells_names Lost m = record { done = tt; failed = λ k. refl }
tells_names Off m = record { done = tt; failed = λ k. refl }
