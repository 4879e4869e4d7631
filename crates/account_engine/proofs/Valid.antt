-- Calls that are known to be valid.
use Rattle.std.proofs.Common.{◌≡◌, true, List, [], ◌∷◌, map, refl, ap}
use Rattle.std.specs.List.{AllByRecursion}
use Rattle.account_engine.specs.declared.call.AccountCall.{AccountCall}
use Rattle.account_engine.specs.Calls.{is_valid, valid_calls}

-- they are these calls
pub map-valid_calls : (calls : List AccountCall) (valid : AllByRecursion (λ c. is_valid c ≡ true) calls) → map (λ c. c.call) (valid_calls calls valid) ≡ calls
map-valid_calls [] valid = refl
map-valid_calls (c ∷ later) valid = ap (λ (cs : List AccountCall). c ∷ cs) (map-valid_calls later valid.1)
