-- Reading an entry from the beginning of bytes.
use Rattle.std.specs.Prelude.{◌≡◌, ℕ, zero, suc, List, [], ◌∷◌, length, take, drop, Option, Some, None, Result, Ok, Err, nat_lt, ◌==◌, ◌&&◌, if◌then◌else◌}
use Rattle.std.specs.Int.{Width, w16, w32, w64, byte_len, from_be_bytes}
use Rattle.volt_base.specs.declared.entry.Entry.{Entry}
use Rattle.volt_base.specs.declared.entry.Entry.TheVariants.{Sp, Frag, Done}
use Rattle.volt_base.specs.declared.entry.Outcome.{Outcome}
use Rattle.volt_base.specs.declared.entry.Outcome.TheVariants.{Dropped, Kept, Aborted, Snapshot}
use Rattle.volt_base.specs.declared.reading.Unread.{Unread}
use Rattle.volt_base.specs.declared.reading.Unread.TheVariants.{NoEntry, NoMemory}

infixl 10 ◌>>=◌
-- the next step, where there is something to go on with
abbrev pub ◌>>=◌ : {A B : Type 0} → Option A → (A → Option B) → Option B
(Some x) >>= f = f x
None >>= f = None

-- nothing is read only where nothing can be, unless memory runs out
abbrev pub Fails : {Y : Type 0} → Unread → Option Y → Type 0
Fails NoEntry read = read ≡ None
Fails NoMemory read = Unit {0}

-- what a function returned, seen by view, is what can be read, unless memory ran out
abbrev pub Gives : {X Y : Type 0} → (X → Y) → Result X Unread → Option Y → Type 0
Gives view (Ok x) read = read ≡ Some (view x)
Gives view (Err e) read = Fails e read

-- a number with its high byte first, and the bytes after it
abbrev pub number_at : Width → List ℕ → Option (ℕ × List ℕ)
number_at w bytes = if nat_lt (length bytes) (byte_len w) then None else Some (from_be_bytes w (take (byte_len w) bytes), drop (byte_len w) bytes)

-- a body behind its length, and the bytes after it
unfoldable pub body_at : List ℕ → Option (List ℕ × List ℕ)
body_at bytes = do
  len ← number_at w32 bytes
  if nat_lt (length len.1) len.0 then None else Some (take len.0 len.1, drop len.0 len.1)

-- a call and its point, and the bytes after them
unfoldable pub mark_at : List ℕ → Option (ℕ × ℕ × List ℕ)
mark_at bytes = do
  call ← number_at w32 bytes
  point ← number_at w64 call.1
  Some (call.0, point.0, point.1)

-- a client, which isn't 0, and the bytes after it
abbrev pub client_at : List ℕ → Option (ℕ × List ℕ)
client_at [] = None
client_at (zero ∷ bytes) = None
client_at (suc n ∷ bytes) = Some (suc n, bytes)

-- a call of a client, its point, a body or a reply, and the bytes after it
unfoldable pub of_client_at : List ℕ → Option (ℕ × ℕ × ℕ × List ℕ × List ℕ)
of_client_at bytes = do
  call ← number_at w32 bytes
  client ← client_at call.1
  point ← number_at w64 client.1
  body ← body_at point.1
  Some (call.0, client.0, point.0, body.0, body.1)

-- a call on one partition of no client, and of one
unfoldable pub sp_at : List ℕ → Option (Entry × List ℕ)
sp_at bytes = do
  mark ← mark_at bytes
  body ← body_at mark.2
  Some (Sp mark.0 0 mark.1 body.0, body.1)

unfoldable pub client_sp_at : List ℕ → Option (Entry × List ℕ)
client_sp_at bytes = do
  x ← of_client_at bytes
  Some (Sp x.0 x.1 x.2 x.3, x.4)

-- the rest of a round
unfoldable pub frag_at : List ℕ → Option (Entry × List ℕ)
frag_at bytes = do
  m ← number_at w64 bytes
  round ← number_at w16 m.1
  body ← body_at round.1
  Some (Frag m.0 round.0 body.0, body.1)

-- an outcome that applies no call has zeros in their places
abbrev pub without_call : Outcome → ℕ → ℕ → Option Outcome
without_call outcome call point = if call == 0 && point == 0 then Some outcome else None

-- the outcome that a kind, a call and a point stand for
abbrev pub outcome_of : ℕ → ℕ → ℕ → Option Outcome
outcome_of zero call point = without_call Dropped call point
outcome_of (suc zero) call point = Some (Kept call 0 point [])
outcome_of (suc (suc zero)) call point = Some (Aborted call 0 point [])
outcome_of (suc (suc (suc zero))) call point = without_call Snapshot call point
outcome_of (suc (suc (suc (suc kind)))) call point = None

-- one that applies a client's call
abbrev pub applied_of : ℕ → ℕ → ℕ → ℕ → List ℕ → Option Outcome
applied_of (suc zero) call client point reply = Some (Kept call client point reply)
applied_of (suc (suc zero)) call client point reply = Some (Aborted call client point reply)
applied_of _ call client point reply = None

-- the end of a transaction that has no client's call, and of one that has: its outcome, and the bytes after it
unfoldable pub outcome_at : List ℕ → Option (Outcome × List ℕ)
outcome_at [] = None
outcome_at (kind ∷ bytes) = do
  mark ← mark_at bytes
  outcome ← outcome_of kind mark.0 mark.1
  Some (outcome, mark.2)

unfoldable pub applied_at : List ℕ → Option (Outcome × List ℕ)
applied_at [] = None
applied_at (kind ∷ bytes) = do
  x ← of_client_at bytes
  outcome ← applied_of kind x.0 x.1 x.2 x.3
  Some (outcome, x.4)

unfoldable pub done_at : (List ℕ → Option (Outcome × List ℕ)) → List ℕ → Option (Entry × List ℕ)
done_at ends_at bytes = do
  m ← number_at w64 bytes
  outcome ← ends_at m.1
  Some (Done m.0 outcome.0, outcome.1)

-- an entry, and the bytes after it
unfoldable pub entry_at : List ℕ → Option (Entry × List ℕ)
entry_at [] = None
entry_at (zero ∷ bytes) = None
entry_at (suc zero ∷ bytes) = sp_at bytes
entry_at (suc (suc zero) ∷ bytes) = frag_at bytes
entry_at (suc (suc (suc zero)) ∷ bytes) = done_at outcome_at bytes
entry_at (suc (suc (suc (suc zero))) ∷ bytes) = client_sp_at bytes
entry_at (suc (suc (suc (suc (suc zero)))) ∷ bytes) = done_at applied_at bytes
entry_at (suc (suc (suc (suc (suc (suc kind))))) ∷ bytes) = None
