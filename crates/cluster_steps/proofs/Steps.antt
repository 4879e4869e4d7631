-- The small steps of which each turn of a site consists: a relation that goes on over each of them goes on over the turn.
use Rattle.cluster_steps.proofs.Names.{◌≡◌, true, false, List, [], ◌∷◌, ◌++◌, ◌==◌, ℕ, map, drop, length, ◌-◌, Some, None, list_any, list_all, Entry, Sp, Frag, Done, Outcome, StreamHead, Membership, Actor, Agent, Site, Database, answer_behind, nothing_open, Deployment, part_of_slot, Letter, Sends, Waiting, Turn, becomes, sending, ◌▸◌, letter_to, SiteState, Joining, Joiner, AskedCall, is_leader, leads, other_copies, site_term, holds, holds_for, initiator_in, firm_now, floor_now, sends_firm, longest, lacks, may_stream, is_first_term, has_all_on_disk, tells_initiator, end_of_reply, In, Prefix}
use Rattle.volt_wire.specs.declared.message.Msg.TheVariants as msg
use Rattle.volt_wire.specs.declared.end.End.{End}
use Rattle.cluster_model.specs.Site.{answers_again, known_to, works_calls}
use Rattle.cluster_model.specs.declared.known.Known.TheVariants.{IsNew, IsAnswered}
use Rattle.cluster_steps.proofs.Frames.{InertSends, AlikeJoiner, AlikeJoiners, with_rest}

-- ---- states behind a step

-- the answer of a partition that is appended next
abbrev pub reply_to : Database → Deployment → ℕ → ℕ → AskedCall → SiteState → Letter
reply_to E D i stamp c s =
    letter_to c.start (msg.Reply c.call c.start (end_of_reply (answer_behind E (part_of_slot D i) s.log (Sp c.call c.client stamp c.body))))

-- the site with a call more that waits
abbrev pub with_call : SiteState → AskedCall → SiteState
with_call s c = record s { calls = s.calls ++ c ∷ [] }

-- the site with an entry more
abbrev pub with_entry : SiteState → Entry → SiteState
with_entry s e = record s { log = s.log ++ e ∷ [] }

-- a leader with what it lacks of the longest log that was reported
abbrev pub with_reported : SiteState → SiteState
with_reported s = record s {
  log = s.log ++ lacks (length s.log) (longest (length s.log) None s.reports);
  repaired = true;
  owes = Some (site_term s);
  reports = [];
}

-- a copy that its leader repaired
abbrev pub with_repair : SiteState → ℕ → List Entry → SiteState
with_repair s from entries = record s { log = s.log ++ drop (length s.log - from) entries; owes = Some (site_term s); repaired = true }

-- a joiner that took this stream
abbrev pub with_stream : SiteState → Joining → Letter → StreamHead → SiteState
with_stream s j l head = record s {
  joining = Some (record j { stream = Some (record { stream_start = head.stream_start; mark = head.mark }) });
  log = l.past;
  floor = head.stream_start;
  contents = None ∷ [];
}

-- a leader with these acknowledgements that counts what is firm
abbrev pub with_acks : SiteState → List (ℕ × ℕ) → List Joiner → SiteState
with_acks s acks joiners = record s { acks = acks; joiners = joiners }

abbrev pub counts_with : Deployment → ℕ → SiteState → Turn SiteState
counts_with D i s = sends_firm (record s { firm = firm_now D i s; floor = floor_now D i s })

-- A leader may tell the initiator of its term how its partition stands.
pub record MayTell (D : Deployment) (i : ℕ) (s : SiteState) : Type 0 where
  pub leads : leads D i s ≡ true
  pub later : is_first_term s.view ≡ false
  pub on_disk : has_all_on_disk D i s ≡ true

-- ---- the steps

-- A relation of a site and its turn goes on over the steps of what follows each handler,
pub record SmallSteps (R : SiteState → Turn SiteState → Type 0) : Type 0 where
  pub first : (s : SiteState) → R s (becomes s)
  pub next : (s : SiteState) (t : Turn SiteState) (f : SiteState → Turn SiteState) → R s t → R t.state (f t.state) → R s (t ▸ f)
  pub rest : (s u : SiteState) → R s (becomes (with_rest s u))
  pub says : (s : SiteState) (out : Sends) → InertSends out → R s (sending s out)
  pub joiners : (s : SiteState) (f : Joiner → Joiner) → ((j : Joiner) → AlikeJoiner (f j) j) → R s (becomes (record s { joiners = map f s.joiners }))

-- among them that a leader tells the initiator how its partition stands.
abbrev pub MayBeTold : Database → Deployment → ℕ → (SiteState → Turn SiteState → Type 0) → Type 0
MayBeTold E D i R = (s : SiteState) → MayTell D i s → (first : ℕ × ℕ) → R s (tells_initiator E D i s (Some first))

-- So it does over those of what a site says behind its Sync,
pub record SayingSteps (D : Deployment) (i : ℕ) (R : SiteState → Turn SiteState → Type 0) : Type 0 where
  pub moves : SmallSteps R
  -- a joiner goes on in its stream
  pub joins : (s : SiteState) (j k : Joining) (log : List Entry) → s.joining ≡ Some j → k.stream ≡ j.stream → k.is_based ≡ j.is_based → Prefix s.log log
      → R s (becomes (record s { joining = Some k; log = log }))
  -- a leader counts, with these acknowledgements
  pub counted : (s : SiteState) → leads D i s ≡ true → (acks : List (ℕ × ℕ)) (joiners : List Joiner) → AlikeJoiners joiners s.joiners
      → R s (counts_with D i (with_acks s acks joiners))

-- over those of the calls that wait,
pub record CallSteps (E : Database) (D : Deployment) (stamp i : ℕ) (R : SiteState → Turn SiteState → Type 0) : Type 0 where
  pub moves : SmallSteps R
  pub cleared : (s : SiteState) → R s (becomes (record s { calls = [] }))
  -- a call that is new runs, and its reply is held
  pub called : (s : SiteState) → leads D i s ≡ true → nothing_open s.log ≡ true → (c : AskedCall) → known_to E D i c s ≡ IsNew
      → R s (becomes (with_entry (holds s (Agent c.host) (reply_to E D i stamp c s)) (Sp c.call c.client stamp c.body)))
  -- one that was run already is answered again
  pub answered : (s : SiteState) → leads D i s ≡ true → nothing_open s.log ≡ true → (c : AskedCall) (e : End) → known_to E D i c s ≡ IsAnswered e
      → R s (answers_again c e s)

-- and over those of a handler, with K of each message that comes.
pub record HandlerSteps (E : Database) (D : Deployment) (stamp i : ℕ) (K : SiteState → Actor → Letter → Type 0) (R : SiteState → Turn SiteState → Type 0) : Type 0 where
  pub settles : SayingSteps D i R
  -- a call waits
  pub queued : (s : SiteState) (h : ℕ) (l : Letter) (call start client : ℕ) (body : List ℕ) → K s (Agent h) (record l { body = msg.SpCall call start client body })
      → R s (becomes (with_call s (record { call = call; client = client; host = h; start = start; body = body })))
  -- a leader works those that wait
  pub works : (s : SiteState) → R s (works_calls E D i stamp s)
  -- a leader takes a round or an end, and holds the answer
  pub round : (s : SiteState) (h : ℕ) (l : Letter) (m round : ℕ) (body : List ℕ) → K s (Agent h) (record l { body = msg.Frag m round body }) → leads D i s ≡ true
      → let e = Frag m round body in
      R s (becomes (with_entry (holds_for s (initiator_in s.view) (msg.FragDone m round (answer_behind E (part_of_slot D i) s.log e))) e))
  pub ended : (s : SiteState) (h : ℕ) (l : Letter) (m : ℕ) (o : Outcome) → K s (Agent h) (record l { body = msg.Done m o }) → leads D i s ≡ true
      → R s (becomes (with_entry (holds_for s (initiator_in s.view) (msg.Finished m)) (Done m o)))
  -- a word isn't taken so
  pub word : (s : SiteState) (h : ℕ) (l : Letter) (w : Membership) → K s (Agent h) (record l { body = msg.View w }) → ⊥
  -- a leader that has all reports begins its term
  pub begun : (s : SiteState) → is_leader D i s ≡ true → s.repaired ≡ false → list_all (λ c. list_any (λ r. r.slot == c) s.reports) (other_copies D i s) ≡ true
      → R s (becomes (with_reported s))
  pub reported : (s : SiteState) (slot : ℕ) (l : Letter) (position floor : ℕ) (tail : List Entry) → K s (Site slot) (record l { body = msg.Report position floor tail })
      → R s (becomes (record s { reports = s.reports ++ record { slot = slot; position = position; floor = floor; tail = tail } ∷ [] }))
  -- one that hasn't begun its term notes an acknowledgement
  pub noted : (s : SiteState) → leads D i s ≡ false → (acks : List (ℕ × ℕ)) (joiners : List Joiner) → AlikeJoiners joiners s.joiners
      → R s (becomes (with_acks s acks joiners))
  -- a copy takes an entry, or what it lacks
  pub put : (s : SiteState) (slot : ℕ) (l : Letter) (position : ℕ) (e : Entry) (floor : ℕ) → K s (Site slot) (record l { body = msg.Put position e floor })
      → R s (becomes (with_entry s e))
  pub repair : (s : SiteState) (slot : ℕ) (l : Letter) (from : ℕ) (entries : List Entry) → K s (Site slot) (record l { body = msg.Repair from entries })
      → R s (becomes (with_repair s from entries))
  -- a joiner takes its stream
  pub stream : (s : SiteState) (slot : ℕ) (l : Letter) (head : StreamHead) (j : Joining) → K s (Site slot) (record l { body = msg.StreamStart head })
      → s.joining ≡ Some j → may_stream s j l ≡ true → R s (becomes (with_stream s j l head))

-- What is known of a message that waits, if it is of the term: whatever the site is when it takes it.
abbrev pub KnownOf : (SiteState → Actor → Letter → Type 0) → ℕ → Waiting → Type 0
KnownOf K term x = x.letter.term ≡ term → (s : SiteState) → K s x.from x.letter

-- Messages that wait may be taken out.
abbrev pub LetsGo : (SiteState → Turn SiteState → Type 0) → Type 0
LetsGo R = (s : SiteState) (ws : List Waiting) → ((x : Waiting) → In x ws → In x s.waiting) → R s (becomes (record s { waiting = ws }))
