-- The calls of a script, as the engine has them.
use Rattle.std.specs.Prelude.{◌≡◌, ◌≤◌, List, length, map}
use Rattle.volt_form.specs.declared.call.ScriptCall.{ScriptCall}
use Rattle.volt_form.specs.declared.call.ScriptCall.TheVariants as script
use Rattle.volt_form.specs.Form.{most_calls}
use Rattle.one_host_model.specs.declared.input.WorldCall.{WorldCall}
use Rattle.one_host_model.specs.World.{World, first_world}
use Rattle.soundness.specs.Carries.{world_calls}
use Rattle.account_engine.specs.declared.call.AccountCall.{AccountCall}
use Rattle.account_engine.specs.declared.call.AccountCall.TheVariants as account
use Rattle.account_engine.specs.Calls.{ValidCall}
use Rattle.account_engine.specs.Accounts.{accounts}
use Rattle.account_engine.specs.Carrying.{carried}

-- what the script says of a call
abbrev pub script_call : AccountCall → ScriptCall
script_call (account.Put id balance) = script.Put id balance
script_call (account.Get id) = script.Get id

-- The script has these calls, each of them valid, and not too many.
pub record Asks (script : List ScriptCall) (calls : List ValidCall) : Type 0 where
  pub same : script ≡ map (λ c. script_call c.call) calls
  pub few : length calls ≤ most_calls

-- some valid calls are those of the script
abbrev pub IsAsked : List ScriptCall → Type 0
IsAsked script = (calls : List ValidCall) × Asks script calls

-- what the world is given for them, and the world before the first event
abbrev pub given_calls : List ValidCall → List WorldCall
given_calls calls = world_calls accounts carried.body calls

abbrev pub start : List ValidCall → World
start calls = first_world (given_calls calls)
