-- The one spelling of each entry of a log, as bytes.
use Rattle.std.specs.Prelude.{◌≡◌, ◌≢◌, ℕ, ◌<◌, ◌≤◌, ◌^◌, ◌==◌, if◌then◌else◌, List, [], ◌∷◌, ◌++◌, length, drop}
use Rattle.std.specs.Int.{w16, w32, w64, to_be_bytes}
use Rattle.volt_base.specs.declared.entry.Entry.{Entry}
use Rattle.volt_base.specs.declared.entry.Entry.TheVariants.{Sp, Frag, Done}
use Rattle.volt_base.specs.declared.entry.Outcome.{Outcome}
use Rattle.volt_base.specs.declared.entry.Outcome.TheVariants.{Dropped, Kept, Aborted, Snapshot}

-- four bytes of length, and that many bytes
unfoldable pub body_bytes : List ℕ → List ℕ
body_bytes body = to_be_bytes w32 (length body) ++ body

-- a kind, a call and its point
unfoldable pub mark_bytes : ℕ → ℕ → ℕ → List ℕ
mark_bytes kind call point = kind ∷ (to_be_bytes w32 call ++ to_be_bytes w64 point)

-- a kind, the call of a client, its point, and a body or a reply
unfoldable pub client_bytes : ℕ → ℕ → ℕ → ℕ → List ℕ → List ℕ
client_bytes kind call client point bytes =
    kind ∷ (to_be_bytes w32 call ++ client ∷ (to_be_bytes w64 point ++ body_bytes bytes))

-- a call on one partition, of no client and of one
unfoldable pub sp_bytes : ℕ → ℕ → ℕ → List ℕ → List ℕ
sp_bytes call client point body =
    if client == 0 then mark_bytes 1 call point ++ body_bytes body else client_bytes 4 call client point body

-- the end of a transaction that has no client's call, and of one that has
unfoldable pub end_bytes : ℕ → ℕ → ℕ → ℕ → List ℕ
end_bytes m kind call point = 3 ∷ (to_be_bytes w64 m ++ mark_bytes kind call point)

unfoldable pub applied_bytes : ℕ → ℕ → ℕ → ℕ → ℕ → List ℕ → List ℕ
applied_bytes m kind call client point reply =
    if client == 0 then end_bytes m kind call point
    else 5 ∷ (to_be_bytes w64 m ++ client_bytes kind call client point reply)

-- where no call is applied, zeros stand for the call and the point
unfoldable pub done_bytes : ℕ → Outcome → List ℕ
done_bytes m Dropped = end_bytes m 0 0 0
done_bytes m (Kept call client point reply) = applied_bytes m 1 call client point reply
done_bytes m (Aborted call client point reply) = applied_bytes m 2 call client point reply
done_bytes m Snapshot = end_bytes m 3 0 0

-- the number of its kind, and its fields in their order, numbers with the high byte first
unfoldable pub entry_bytes : Entry → List ℕ
entry_bytes (Sp call client point body) = sp_bytes call client point body
entry_bytes (Frag m round body) = 2 ∷ (to_be_bytes w64 m ++ to_be_bytes w16 round ++ body_bytes body)
entry_bytes (Done m outcome) = done_bytes m outcome

-- the reply that an outcome carries
abbrev pub reply_of : Outcome → List ℕ
reply_of (Kept call client point reply) = reply
reply_of (Aborted call client point reply) = reply
reply_of _ = []

-- what an entry has besides numbers: what an engine is to run, or a reply
abbrev pub bytes_of : Entry → List ℕ
bytes_of (Sp call client point body) = body
bytes_of (Frag m round body) = body
bytes_of (Done m outcome) = reply_of outcome

-- a reply to no client is empty
abbrev pub HasClientOfReply : Entry → Type 0
HasClientOfReply (Done m (Kept call client point reply)) = client ≡ 0 → reply ≡ []
HasClientOfReply (Done m (Aborted call client point reply)) = client ≡ 0 → reply ≡ []
HasClientOfReply _ = Unit {0}

-- the numbers of a call that is applied are in their ranges: call, client and point
abbrev pub CallFits : ℕ → ℕ → ℕ → Type 0
CallFits call client point = (call < 2 ^ 32) × (client < 2 ^ 8) × (point < 2 ^ 64)

-- each number of an outcome is in its range
abbrev pub OutcomeFits : Outcome → Type 0
OutcomeFits (Kept call client point reply) = CallFits call client point
OutcomeFits (Aborted call client point reply) = CallFits call client point
OutcomeFits _ = Unit {0}

-- each number of an entry is in its range
abbrev pub NumbersFit : Entry → Type 0
NumbersFit (Sp call client point body) = CallFits call client point
NumbersFit (Frag m round body) = (m < 2 ^ 64) × (round < 2 ^ 16)
NumbersFit (Done m outcome) = (m < 2 ^ 64) × OutcomeFits outcome

-- what has a spelling: each number fits the bytes that hold it, the length of a body or reply too
pub record Fits (entry : Entry) : Type 0 where
  pub numbers : NumbersFit entry
  pub bytes : length (bytes_of entry) < 2 ^ 32
  pub client : HasClientOfReply entry

-- the first len bytes are the spelling of the entry
pub record BeginsWith (bytes : List ℕ) (entry : Entry) (len : ℕ) : Type 0 where
  pub spelled : bytes ≡ entry_bytes entry ++ drop len bytes
  pub some : 0 < len
  pub within : len ≤ length bytes
  pub fits : Fits entry

-- the bytes do not begin with the spelling of an entry
abbrev pub BeginsWithNone : List ℕ → Type 0
BeginsWithNone bytes = (entry : Entry) (rest : List ℕ) → Fits entry → bytes ≢ entry_bytes entry ++ rest
