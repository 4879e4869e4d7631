-- The calls of a disk that a call of a log makes.
use Rattle.std.specs.Prelude.{◌≡◌, ℕ, zero, suc, ◌≤◌, Result, Err, OnOk, OnErr}
use Rattle.volt_base.specs.Faults.{Increased}
use Rattle.volt_disk.specs.declared.power.Power.{Power}
use Rattle.volt_disk.specs.declared.disk.LogFault.{LogFault}
use Rattle.volt_disk.specs.declared.disk.LogFault.TheVariants.{DiskFailed}
use Rattle.volt_disk.specs.Power.{after_call}

-- after so many counted calls
abbrev pub after_calls : ℕ → Power → Power
after_calls zero power = power
after_calls (suc n) power = after_calls n (after_call power)

-- There were at most so many counted calls. No loss of power was planned.
pub record AtMostCalls (most : ℕ) (before now : Power) : Type 0 where
  pub calls : ℕ
  pub within : calls ≤ most
  pub made : now ≡ after_calls calls before

-- Where it works it makes so many calls. Where it fails it makes no more, and the disk's count of faults, which never
-- falls, increased.
pub record MakesCalls {T E : Type 0} (calls : ℕ) (result : Result T E) (before now : Power) (faults_before faults : ℕ) : Type 0 where
  pub all : OnOk result (now ≡ after_calls calls before)
  pub some : OnErr result (AtMostCalls calls before now)
  pub increases : OnErr result (Increased faults_before faults)
  pub never_falls : faults_before ≤ faults

-- It makes at most so many calls. Where the disk failed its count of faults, which never falls, increased.
pub record MakesUpTo {T : Type 0} (most : ℕ) (result : Result T LogFault) (before now : Power) (faults_before faults : ℕ) : Type 0 where
  pub calls : AtMostCalls most before now
  pub increases : result ≡ Err DiskFailed → Increased faults_before faults
  pub never_falls : faults_before ≤ faults
