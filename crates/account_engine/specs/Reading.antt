-- Which call a body spells.
use Rattle.std.specs.Prelude.{ℕ, ℤ, ◌==◌, ◌&&◌, if◌then◌else◌, nat_lt, List, [], ◌∷◌, length, take, drop, Option, Some, None}
use Rattle.std.specs.Int.{w16, w64, from_be_bytes, cast_signed}
use Rattle.volt_base.specs.Reading.{◌>>=◌}
use Rattle.account_engine.specs.declared.call.AccountCall.{AccountCall}
use Rattle.account_engine.specs.declared.call.AccountCall.TheVariants.{Put, Get}
use Rattle.volt_value.specs.Values.{is_bigint}

-- an integer with the bytes behind it, if it is a value
abbrev pub if_value : ℤ → List ℕ → Option (ℤ × List ℕ)
if_value z rest = if is_bigint z then Some (z, rest) else None

-- the integer of the first 8 bytes, and the bytes behind them
abbrev pub integer_then_rest : List ℕ → Option (ℤ × List ℕ)
integer_then_rest bytes = if nat_lt (length bytes) 8 then None else if_value (cast_signed w64 (from_be_bytes w64 (take 8 bytes))) (drop 8 bytes)

-- the value at the beginning, an integer, and the bytes behind it
abbrev pub value_then_rest : List ℕ → Option (ℤ × List ℕ)
value_then_rest [] = None
value_then_rest (kind ∷ bytes) = if kind == 1 then integer_then_rest bytes else None

-- x, if no bytes are left
abbrev pub if_ended : {A : Type 0} → List ℕ → A → Option A
if_ended rest x = if length rest == 0 then Some x else None

-- the call of Put with these values, and of Get
abbrev pub put_of_values : List ℕ → Option AccountCall
put_of_values values = do
  id ← value_then_rest values
  balance ← value_then_rest id.1
  if_ended balance.1 (Put id.0 balance.0)

abbrev pub get_of_values : List ℕ → Option AccountCall
get_of_values values = do
  id ← value_then_rest values
  if_ended id.1 (Get id.0)

-- the call of a procedure, with so many values, which the bytes spell
abbrev pub call_with : ℕ → ℕ → List ℕ → Option AccountCall
call_with procedure count values =
    if (procedure == 0) && (count == 2) then put_of_values values else
    if (procedure == 1) && (count == 1) then get_of_values values else None

-- the call that a body spells, all of it
abbrev pub call_of_body : List ℕ → Option AccountCall
call_of_body (high ∷ low ∷ count ∷ values) = call_with (from_be_bytes w16 (high ∷ low ∷ [])) count values
call_of_body _ = None
