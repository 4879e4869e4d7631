-- Which calls there are.
use Rattle.std.specs.Prelude.{◌≡◌, Bool, true, ◌&&◌, List, [], ◌∷◌}
use Rattle.std.specs.List.{AllByRecursion}
use Rattle.volt_value.specs.Values.{is_bigint}
use Rattle.account_engine.specs.declared.call.AccountCall.{AccountCall}
use Rattle.account_engine.specs.declared.call.AccountCall.TheVariants.{Put, Get}

-- whether a call's integers are values
abbrev pub is_valid : AccountCall → Bool
is_valid (Put id balance) = is_bigint id && is_bigint balance
is_valid (Get id) = is_bigint id

-- a call whose integers are values
pub record ValidCall : Type 0 where
  pub call : AccountCall
  pub valid : is_valid call ≡ true

-- these calls, each of which is valid
abbrev pub valid_calls : (calls : List AccountCall) → AllByRecursion (λ c. is_valid c ≡ true) calls → List ValidCall
valid_calls [] valid = []
valid_calls (c ∷ later) valid = record { call = c; valid = valid.0 } ∷ valid_calls later valid.1
