-- Reading a base from the bytes of a file.
use Rattle.std.specs.Prelude.{◌≡◌, ℕ, zero, suc, ◌==◌, if◌then◌else◌, Bool, true, false, List, [], ◌∷◌, length, Option, Some, None, Result, Ok, Err}
use Rattle.std.specs.Int.{w32, w64}
use Rattle.volt_base.specs.declared.entry.Applied.{Applied}
use Rattle.volt_base.specs.declared.entry.LastReply.{LastReply}
use Rattle.volt_base.specs.declared.entry.Outcome.{Outcome}
use Rattle.volt_base.specs.declared.entry.Outcome.TheVariants.{Dropped}
use Rattle.volt_base.specs.declared.entry.Entry.{Entry}
use Rattle.volt_base.specs.declared.entry.Entry.TheVariants.{Done}
use Rattle.volt_base.specs.Reading.{◌>>=◌, number_at, body_at, outcome_at, entry_at}
use Rattle.snapshot_io.specs.declared.reading.Unread.{Unread}
use Rattle.snapshot_io.specs.declared.reading.Unread.TheVariants.{NoBase, NoMemory}
use Rattle.snapshot_io.specs.Base.{Head, Base, signature, end_mark, rise_above}
use Rattle.snapshot_io.specs.Chunks.{chunk_at}

-- nothing is read only where nothing can be, unless memory runs out
abbrev pub Fails : {Y : Type 0} → Unread → Option Y → Type 0
Fails NoBase read = read ≡ None
Fails NoMemory read = Unit {0}

-- what a function returned, seen by view, is what can be read, unless memory ran out
abbrev pub Gives : {X Y : Type 0} → (X → Y) → Result X Unread → Option Y → Type 0
Gives view (Ok x) read = read ≡ Some (view x)
Gives view (Err e) read = Fails e read

-- ---- readers: what bytes begin with, and what stands behind it

abbrev pub Reader : Type 0 → Type 0
Reader A = List ℕ → Option (A × List ℕ)

abbrev pub byte_at : Reader ℕ
byte_at [] = None
byte_at (b ∷ bytes) = Some (b, bytes)

-- one thing, and another behind it
abbrev pub both_at : {A B : Type 0} → Reader A → Reader B → Reader (A × B)
both_at first_at second_at bytes = do
  first ← first_at bytes
  second ← second_at first.1
  Some ((first.0, second.0), second.1)

-- what a thing stands for, if it stands for something
abbrev pub as_at : {A B : Type 0} → (A → Option B) → Reader A → Reader B
as_at meaning one_at bytes = do
  one ← one_at bytes
  x ← meaning one.0
  Some (x, one.1)

-- so many things
abbrev pub many_at : {A : Type 0} → Reader A → ℕ → Reader (List A)
many_at one_at zero bytes = Some ([], bytes)
many_at one_at (suc n) bytes = do
  first ← one_at bytes
  rest ← many_at one_at n first.1
  Some (first.0 ∷ rest.0, rest.1)

-- as many as a number says that stands ahead of them
abbrev pub counted_at : {A : Type 0} → Reader ℕ → Reader A → Reader (List A)
counted_at count_at one_at bytes = do
  count ← count_at bytes
  many_at one_at count.0 count.1

-- ---- the head

-- hosts, sites, k and slot
unfoldable pub layout_at : Reader (ℕ × (ℕ × (ℕ × ℕ)))
layout_at = both_at byte_at (both_at byte_at (both_at byte_at byte_at))

-- definitions, mark and position
unfoldable pub place_at : Reader (List ℕ × (ℕ × ℕ))
place_at = both_at body_at (both_at (number_at w64) (number_at w64))

-- a transaction, whose number isn't 0, and how it ended
abbrev pub ended : ℕ → Outcome → Option (Option (ℕ × Outcome))
ended m outcome = if m == 0 then None else Some (Some (m, outcome))

-- the transaction that an entry ends, if nothing stands behind the entry
abbrev pub ended_by : Option (Entry × List ℕ) → Option (Option (ℕ × Outcome))
ended_by (Some (Done m outcome, [])) = ended m outcome
ended_by _ = None

-- none where there are no bytes
abbrev pub last_of : List ℕ → Option (Option (ℕ × Outcome))
last_of [] = Some None
last_of (b ∷ bytes) = ended_by (entry_at (b ∷ bytes))

unfoldable pub last_at : Reader (Option (ℕ × Outcome))
last_at = as_at last_of body_at

-- In format 1 a number and an outcome stand there, which carries no reply: each call is of no client. The number 0 with
-- an outcome of zeros says that no transaction ended.
abbrev pub if_zeros : Outcome → Option (Option (ℕ × Outcome))
if_zeros Dropped = Some None
if_zeros _ = None

abbrev pub old_last_of : ℕ × Outcome → Option (Option (ℕ × Outcome))
old_last_of x = if x.0 == 0 then if_zeros x.1 else Some (Some x)

unfoldable pub old_last_at : Reader (Option (ℕ × Outcome))
old_last_at = as_at old_last_of (both_at (number_at w64) outcome_at)

abbrev pub as_applied : ℕ × ℕ → Option Applied
as_applied x = Some (record { call = x.0; point = x.1 })

unfoldable pub applied_at : Reader Applied
applied_at = as_at as_applied (both_at (number_at w32) (number_at w64))

unfoldable pub all_applied_at : Reader (List Applied)
all_applied_at = counted_at (number_at w32) applied_at

abbrev pub as_reply : ℕ × (ℕ × List ℕ) → Option LastReply
as_reply x = Some (record { client = x.0; call = x.1.0; reply = x.1.1 })

unfoldable pub reply_at : Reader LastReply
reply_at = as_at as_reply (both_at byte_at (both_at (number_at w32) body_at))

abbrev pub if_rising : List LastReply → Option (List LastReply)
if_rising replies = if rise_above 0 replies then Some replies else None

unfoldable pub replies_at : Reader (List LastReply)
replies_at = as_at if_rising (counted_at byte_at reply_at)

-- format 1 has none
abbrev pub no_replies_at : Reader (List LastReply)
no_replies_at bytes = Some ([], bytes)

abbrev pub Parts : Type 0
Parts = (ℕ × (ℕ × (ℕ × ℕ))) × ((List ℕ × (ℕ × ℕ)) × (Option (ℕ × Outcome) × (List Applied × List LastReply)))

abbrev pub as_head : Parts → Option Head
as_head p = Some (record {
  hosts = p.0.0;
  sites = p.0.1.0;
  k = p.0.1.1.0;
  slot = p.0.1.1.1;
  ddl = p.1.0.0;
  mark = p.1.0.1.0;
  position = p.1.0.1.1;
  last = p.1.1.0;
  applied = p.1.1.1.0;
  replies = p.1.1.1.1;
})

-- by the readers of what a format has of its own
abbrev pub head_by : Reader (Option (ℕ × Outcome)) → Reader (List LastReply) → Reader Head
head_by ends_at answers_at = as_at as_head (both_at layout_at (both_at place_at (both_at ends_at (both_at all_applied_at answers_at))))

unfoldable pub head_at : Reader Head
head_at = head_by last_at replies_at

unfoldable pub old_head_at : Reader Head
old_head_at = head_by old_last_at no_replies_at

-- ---- the file

-- what stands behind these bytes
abbrev pub behind_these : List ℕ → List ℕ → Option (List ℕ)
behind_these [] bytes = Some bytes
behind_these (x ∷ xs) bytes = do
  first ← byte_at bytes
  if first.0 == x then behind_these xs first.1 else None

abbrev pub none_left : Option (List ℕ) → Bool
none_left (Some []) = true
none_left _ = false

-- chunks, and behind the last the mark of the end and nothing, where there are fewer chunks than a number
abbrev pub chunks_from : ℕ → List ℕ → Option (List (List ℕ))
chunks_from zero bytes = None
chunks_from (suc n) bytes = if none_left (behind_these end_mark bytes) then Some [] else do
  chunk ← chunk_at bytes
  chunks ← chunks_from n chunk.1
  Some (chunk.0 ∷ chunks)

-- a chunk takes a byte at least
unfoldable pub chunks_of : List ℕ → Option (List (List ℕ))
chunks_of bytes = chunks_from (length bytes) bytes

-- by the reader of a format's head
abbrev pub base_by : Reader Head → List ℕ → Option Base
base_by heads_at bytes = do
  head ← heads_at bytes
  chunks ← chunks_of head.1
  Some (record { head = head.0; chunks = chunks })

-- the number of its format, and what stands behind it
unfoldable pub format_at : Reader ℕ
format_at bytes = do
  rest ← behind_these signature bytes
  byte_at rest

-- what stands behind the number of a format is read by it; only 1 and 2 are known
abbrev pub base_of_format : ℕ × List ℕ → Option Base
base_of_format format =
    if format.0 == 1 then base_by old_head_at format.1 else if format.0 == 2 then base_by head_at format.1 else None

-- the base that the bytes of a file are
unfoldable pub base_of : List ℕ → Option Base
base_of bytes = do
  format ← format_at bytes
  base_of_format format
