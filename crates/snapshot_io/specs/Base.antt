-- A base: a partition as it stood at a position of its log, and its one spelling as a file.
use Rattle.std.specs.Prelude.{◌≡◌, ℕ, ◌+◌, ◌<◌, ◌^◌, ◌&&◌, nat_lt, Bool, true, List, [], ◌∷◌, ◌++◌, flat_map, length, Option, Some, None}
use Rattle.std.specs.Int.{w32, w64, to_be_bytes}
use Rattle.std.specs.List.{AllByRecursion}
use Rattle.volt_base.specs.declared.entry.Applied.{Applied}
use Rattle.volt_base.specs.declared.entry.LastReply.{LastReply}
use Rattle.volt_base.specs.declared.entry.Outcome.{Outcome}
use Rattle.volt_base.specs.declared.entry.Outcome.TheVariants.{Kept, Aborted}
use Rattle.volt_base.specs.declared.entry.Entry.TheVariants.{Done}
use Rattle.volt_base.specs.Spelling.{body_bytes, done_bytes, reply_of, HasClientOfReply, Fits}
use Rattle.snapshot_io.specs.declared.head.BaseHead.{BaseHead}
use Rattle.snapshot_io.specs.Chunks.{IsChunk}

-- what a base has besides rows
pub record Head : Type 0 where
  -- the layout: how many hosts, how many sites on each, how many copies may be lost; and the slot of this copy
  pub hosts : ℕ
  pub sites : ℕ
  pub k : ℕ
  pub slot : ℕ
  -- the text of the definitions
  pub ddl : List ℕ
  -- the term of which the copy had a mark, and the position in the log after which it stands
  pub mark : ℕ
  pub position : ℕ
  -- the transaction on all partitions that ended last, and how
  pub last : Option (ℕ × Outcome)
  -- the calls that it has, in their order
  pub applied : List Applied
  -- the last reply to each client, by rising client
  pub replies : List LastReply

-- a base: its head, and its rows in chunks, each as its bytes
pub record Base : Type 0 where
  pub head : Head
  pub chunks : List (List ℕ)

-- the head that a value of the code is
abbrev pub head_of : BaseHead → Head
head_of h = record {
  hosts = h.hosts;
  sites = h.sites;
  k = h.k;
  slot = h.slot;
  ddl = h.ddl;
  mark = h.mark;
  position = h.position;
  last = h.last;
  applied = h.applied.items;
  replies = h.replies.items;
}

-- the base that a head and chunks are
abbrev pub base_with : BaseHead → List (List ℕ) → Base
base_with h chunks = record { head = head_of h; chunks = chunks }

-- ---- the spelling: format 2

-- "VBAS"
abbrev pub signature : List ℕ
signature = 86 ∷ 66 ∷ 65 ∷ 83 ∷ []

-- no table has the number 65535: where a chunk's table would stand it says that no chunk comes; and "VEND"
abbrev pub end_mark : List ℕ
end_mark = 255 ∷ 255 ∷ 86 ∷ 69 ∷ 78 ∷ 68 ∷ []

-- the entry of the log that ends the transaction; nothing where none ended
abbrev pub ended_bytes : Option (ℕ × Outcome) → List ℕ
ended_bytes None = []
ended_bytes (Some last) = done_bytes last.0 last.1

-- it stands behind its length
unfoldable pub last_bytes : Option (ℕ × Outcome) → List ℕ
last_bytes last = body_bytes (ended_bytes last)

-- a call and its point
abbrev pub applied_bytes : Applied → List ℕ
applied_bytes a = to_be_bytes w32 a.call ++ to_be_bytes w64 a.point

-- a client, its call, and the reply behind its length
abbrev pub reply_bytes : LastReply → List ℕ
reply_bytes r = r.client ∷ (to_be_bytes w32 r.call ++ body_bytes r.reply)

-- how many there are, in four bytes or in one, and these
unfoldable pub all_applied_bytes : List Applied → List ℕ
all_applied_bytes applied = to_be_bytes w32 (length applied) ++ flat_map applied_bytes applied

unfoldable pub replies_bytes : List LastReply → List ℕ
replies_bytes replies = length replies ∷ flat_map reply_bytes replies

-- numbers have their high byte first
unfoldable pub layout_bytes : Head → List ℕ
layout_bytes h = h.hosts ∷ h.sites ∷ h.k ∷ h.slot ∷ []

unfoldable pub place_bytes : Head → List ℕ
place_bytes h = body_bytes h.ddl ++ (to_be_bytes w64 h.mark ++ to_be_bytes w64 h.position)

unfoldable pub calls_bytes : Head → List ℕ
calls_bytes h = last_bytes h.last ++ (all_applied_bytes h.applied ++ replies_bytes h.replies)

-- what the file begins with: its signature, the number of the format, and the head
unfoldable pub head_bytes : Head → List ℕ
head_bytes h = signature ++ 2 ∷ (layout_bytes h ++ (place_bytes h ++ calls_bytes h))

-- the head and some chunks
unfoldable pub begun : Head → List (List ℕ) → List ℕ
begun head chunks = head_bytes head ++ flat_map (λ chunk. chunk) chunks

-- the whole file
unfoldable pub base_bytes : Base → List ℕ
base_bytes b = begun b.head b.chunks ++ end_mark

-- ---- what has a spelling

-- each client is above the one before, and the first above a number
abbrev pub rise_above : ℕ → List LastReply → Bool
rise_above n [] = true
rise_above n (r ∷ rs) = nat_lt n r.client && rise_above r.client rs

abbrev pub AppliedFits : Applied → Type 0
AppliedFits a = (a.call < 2 ^ 32) × (a.point < 2 ^ 64)

abbrev pub ReplyFits : LastReply → Type 0
ReplyFits r = (r.client < 2 ^ 8) × (r.call < 2 ^ 32) × (length r.reply < 2 ^ 32)

-- the number of a transaction is above 0, and the entry that ends it has a spelling whose length four bytes hold
pub record LastFits (last : ℕ × Outcome) : Type 0 where
  pub some : 0 < last.0
  pub fits : Fits (Done last.0 last.1)
  pub short : length (done_bytes last.0 last.1) < 2 ^ 32

abbrev pub IfLastFits : Option (ℕ × Outcome) → Type 0
IfLastFits None = Unit {0}
IfLastFits (Some last) = LastFits last

-- Each number and each length fits the bytes that hold it. That clients rise from 1 on is a matter of form: the file
-- lists the replies by rising client, and whoever loads them may count on it. How many clients a cluster may have isn't.
pub record HeadFits (h : Head) : Type 0 where
  pub layout : (h.hosts < 2 ^ 8) × (h.sites < 2 ^ 8) × (h.k < 2 ^ 8) × (h.slot < 2 ^ 8)
  pub ddl : length h.ddl < 2 ^ 32
  pub mark : h.mark < 2 ^ 64
  pub position : h.position < 2 ^ 64
  pub last : IfLastFits h.last
  pub calls : length h.applied < 2 ^ 32
  pub applied : AllByRecursion AppliedFits h.applied
  pub clients : length h.replies < 2 ^ 8
  pub replies : AllByRecursion ReplyFits h.replies
  pub rise : rise_above 0 h.replies ≡ true

-- the transaction applied no call of a client, and answered none
abbrev pub IsOfNoClient : Outcome → Type 0
IsOfNoClient (Kept call client point reply) = (client ≡ 0) × (reply ≡ [])
IsOfNoClient (Aborted call client point reply) = (client ≡ 0) × (reply ≡ [])
IsOfNoClient _ = Unit {0}

abbrev pub IfOfNoClient : Option (ℕ × Outcome) → Type 0
IfOfNoClient None = Unit {0}
IfOfNoClient (Some last) = IsOfNoClient last.1

-- What is asked of a head besides what the types of its fields say. An entry that ends a transaction takes 27 bytes at
-- most besides its reply.
pub record CanEnd (last : ℕ × Outcome) : Type 0 where
  pub some : 0 < last.0
  pub client : HasClientOfReply (Done last.0 last.1)
  pub reply : length (reply_of last.1) + 27 < 2 ^ 32

abbrev pub IfCanEnd : Option (ℕ × Outcome) → Type 0
IfCanEnd None = Unit {0}
IfCanEnd (Some last) = CanEnd last

pub record CanStart (h : Head) : Type 0 where
  pub ddl : length h.ddl < 2 ^ 32
  pub last : IfCanEnd h.last
  pub calls : length h.applied < 2 ^ 32
  pub clients : length h.replies < 2 ^ 8
  pub replies : AllByRecursion (λ r. length r.reply < 2 ^ 32) h.replies
  pub rise : rise_above 0 h.replies ≡ true

pub record BaseFits (b : Base) : Type 0 where
  pub head : HeadFits b.head
  pub chunks : AllByRecursion IsChunk b.chunks
