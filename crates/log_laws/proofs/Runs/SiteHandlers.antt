-- What a site does with a message that it takes, from its channel and of those that waited: all holds after its handler.
use Rattle.log_laws.proofs.Names.{◌≡◌, ◌<◌, List, [], ◌∷◌, ◌++◌, refl, sym, subst, ap, ◌∙◌, ◌⊎◌, inl, inr, arith, ℕ, AllByRecursion, Entry, Membership, Actor, Director, Client, Agent, Site, Scanner, Msg, Database, host_of_slot, Blocks, Letter, becomes, arrival, Taken, Waiting, on_view, from_agent, from_site, from_scanner, from_director, site_handler, rest, eqb-same, set_at, LogState, LogsHold, AckOk, ReportOk, EndOk, SiteLetterOk, SiteWaitingFrom, SiteWaitingOk, ForeignOk, part, site_start, term_at, between, flow, is_for}
use Rattle.volt_wire.specs.declared.message.Msg.TheVariants as msg
use Rattle.log_laws.specs.Histories as log
use Rattle.log_laws.proofs.Kept.{site_popped, left, Turns, LogsGo, look-goes, goes-same, goes-turns, running-slot, logs_moved}
use Rattle.log_laws.proofs.Plain.{if-none}
use Rattle.log_laws.proofs.Messages.Pops.{taken-for, pops-plain, leaves}
use Rattle.log_laws.proofs.Entries.Puts.{on_put-goes, on_repair-goes}
use Rattle.log_laws.proofs.Entries.Calls.{on_sp_call-goes, on_frag-goes, on_done-goes}
use Rattle.log_laws.proofs.Firmness.Acks.{on_ack-goes}
use Rattle.log_laws.proofs.NewTerms.Viewing.{on_view-turns}
use Rattle.log_laws.proofs.NewTerms.Reports.{on_report-goes}
use Rattle.log_laws.proofs.Joins.Asks.{join-ask-goes, join-ask-left-goes}
use Rattle.log_laws.proofs.Joins.StreamStarts.{stream-start-goes}
use Rattle.log_laws.proofs.Joins.Tasks.{task-goes}
use Rattle.log_laws.proofs.Joins.Loads.{stream-end-goes, chunk-goes, scan-end-goes}

-- ---- which messages are taken

-- a number that isn't 0
not-none : (n m : ℕ) → 0 < n → (n ≡ 0) ⊎ (n ≡ m) → n ≡ m
not-none n m some (inl e) = absurd (omega (arith, some, e))
not-none n m some (inr e) = e

-- for a start and of a term: it is the site's own one
pub taken-here : (start here : ℕ) (l : Letter) → arrival start here l ≡ Taken → 0 < l.start → 0 < l.term → (l.start ≡ start) × (l.term ≡ here)
taken-here start here l e s t = let k = taken-for start here l e in (not-none l.start start s k.0, not-none l.term here t k.1)

-- ---- messages of which nothing is said

-- from a scanner, and from the director
scanner-handler : (T : LogState) → LogsHold T → (i : ℕ) → 0 < site_start T i → (l : Letter) (m : Msg Blocks) → LogsGo T i (becomes (from_scanner (T.sites i) (record l { body = m })))
scanner-handler T H i up l m = elim m as (λ m. LogsGo T i (becomes (from_scanner (T.sites i) (record l { body = m })))) [
  | msg.Chunk id bytes ↦ chunk-goes T H i id up
  | msg.ScanEnd id count ↦ scan-end-goes T H i id count up
  | m ↦ goes-same T i H
]

director-handler : (T : LogState) → LogsHold T → (i : ℕ) → 0 < site_start T i → (l : Letter) (m : Msg Blocks) → LogsGo T i (becomes (from_director (T.sites i) (record l { body = m })))
director-handler T H i up l m = elim m as (λ m. LogsGo T i (becomes (from_director (T.sites i) (record l { body = m })))) [
  | msg.Look ↦ look-goes T i H
  | m ↦ goes-same T i H
]

-- ---- what was said of a message, once it has left

module _ (S : LogState) (ch : Actor → Actor → List Letter) (pend : ℕ → List Waiting) where
  ack-moved : (c t n : ℕ) → AckOk S c t n → AckOk (logs_moved S ch S.sites pend) c t n
  ack-moved c t n k = search

  report-moved : (p c t n m : ℕ) (tail : List Entry) → ReportOk S p c t n m tail → ReportOk (logs_moved S ch S.sites pend) p c t n m tail
  report-moved p c t n m tail k = record {
    entered = k.entered;
    is_entered = k.is_entered;
    position_is = k.position_is;
    floor_is = k.floor_is;
    tail_is = k.tail_is;
    part_is = k.part_is;
    word = k.word;
    is_word = record { decided = k.is_word.decided; term_is = k.is_word.term_is };
    follower = k.follower;
  }

-- ---- the handler of a message that is taken

module _ (E : Database) (stamp : ℕ) (S : LogState) (H : LogsHold S) (i : ℕ) (up : 0 < site_start S i) where
  -- from a site
  module _ (slot : ℕ) (l : Letter) (ls : List Letter) (take : arrival (site_start S i) (term_at S i) l ≡ Taken) where
    abbrev T : LogState
    T = site_popped S (Site slot) i

    abbrev OfBody : Msg Blocks → Type 0
    OfBody m = LogsGo T i (from_site E S.words.deployment stamp i (S.sites i) slot (record l { body = m }))

    -- it has left, where nothing of it is looked at
    gone : (m : Msg Blocks) → S.words.channel (Site slot) (Site i) ≡ record l { body = m } ∷ ls → log.line_in m ≡ [] → log.flow_in l.past m ≡ [] → LogsHold T
    gone m is p q = pops-plain S H (Site slot) i (record l { body = m }) ls is (record { line = λ k e. p; flow = λ k e. q; view = λ e. absurd (cc) })

    here : 0 < l.start → 0 < l.term → (l.start ≡ site_start S i) × (l.term ≡ term_at S i)
    here s t = taken-here (site_start S i) (term_at S i) l take s t

    left-behind : (m : Msg Blocks) → S.words.channel (Site slot) (Site i) ≡ record l { body = m } ∷ ls → between T slot i ≡ ls
    left-behind m is = rw (eqb-same i, eqb-same slot) (ap rest is)

    -- the flow behind the end of a stream is what it was with it
    ended : (count : ℕ) → S.words.channel (Site slot) (Site i) ≡ record l { body = msg.StreamEnd count } ∷ ls → EndOk S slot i (record l { body = msg.StreamEnd count })
        → EndOk T slot i (record l { body = msg.StreamEnd count })
    ended count is k = record {
      stream_start = k.stream_start;
      everywhere = k.everywhere;
      begun = λ j e s t b. subst (AllByRecursion (log.BeginsAt k.stream_start)) (same-flow) (k.begun j e s t b);
      taken = k.taken;
    }
      where
        same-flow : flow l.start l.term (between S slot i) ≡ flow l.start l.term (between T slot i)
        same-flow =
            ap (flow l.start l.term) is
            ∙ ap (λ xs. xs ++ flow l.start l.term ls) (if-none (is_for l.start l.term l))
            ∙ ap (flow l.start l.term) (sym (left-behind (msg.StreamEnd count) is))

    site-handler : (m : Msg Blocks) → S.words.channel (Site slot) (Site i) ≡ record l { body = m } ∷ ls → SiteLetterOk S slot i (record l { body = m }) → OfBody m
    site-handler m = elim m as (λ m. S.words.channel (Site slot) (Site i) ≡ record l { body = m } ∷ ls → SiteLetterOk S slot i (record l { body = m }) → OfBody m) [
      | msg.Put position e floor ↦ λ is k. let a = here k.0.0.0 k.0.0.1 in on_put-goes E S H i slot l ls position e floor is up a.0 a.1
      | msg.Ack position ↦ λ is k. let a = here k.0.0 k.0.1 in
          on_ack-goes T (gone (msg.Ack position) is refl refl) i slot position up (ack-moved S T.words.channel S.pending slot (term_at S i) position (rw a.1 at k.1))
      | msg.Report position floor tail ↦ λ is k. let a = here k.0.0 k.0.1 in
          on_report-goes E T (gone (msg.Report position floor tail) is refl refl) i stamp slot position floor tail up
          (report-moved S T.words.channel S.pending (part S i) slot (term_at S i) position floor tail (rw a.1 at k.1))
      | msg.Repair from entries ↦ λ is k. let a = here k.0.0 k.0.1 in on_repair-goes E S H i slot l ls from entries is up a.0 a.1
      | msg.JoinAsk start asking ↦ λ is k. let a = here k.0.0 k.0.1 in join-ask-goes S H i slot l ls start asking is up a.0 a.1
      | msg.StreamStart head ↦ λ is k. let a = here k.0.0 k.0.1 in stream-start-goes S H i slot l ls head is up a.0 a.1
      | msg.StreamEnd count ↦ λ is k. let a = here k.0.0.0 k.0.0.1 in
          stream-end-goes T (gone (msg.StreamEnd count) is refl refl) i slot (record l { body = msg.StreamEnd count }) count up a.0 a.1 (ended count is k.1)
      | msg.Task position e ↦ λ is k. let a = here k.0.0 k.0.1 in task-goes S H i slot l ls position e is up a.0 a.1
      | m ↦ λ is k. goes-same T i (gone m is refl refl)
    ]

  -- from an agent
  module _ (h : ℕ) (l : Letter) (ls : List Letter) (take : arrival (site_start S i) (term_at S i) l ≡ Taken) where
    abbrev FromAgent : Msg Blocks → Type 0
    FromAgent m = Turns (site_popped S (Agent h) i) i (from_agent E S.words.deployment stamp i (S.sites i) h (record l { body = m }))

    heard : (m : Msg Blocks) → S.words.channel (Agent h) (Site i) ≡ record l { body = m } ∷ ls → log.view_in m ≡ [] → LogsHold (site_popped S (Agent h) i)
    heard m is p = pops-plain S H (Agent h) i (record l { body = m }) ls is (record { line = λ k e. absurd (cc); flow = λ k e. absurd (cc); view = λ e. p })

    viewed : (w : Membership) → S.words.channel (Agent h) (Site i) ≡ record l { body = msg.View w } ∷ ls → h ≡ host_of_slot S.words.deployment i → FromAgent (msg.View w)
    viewed w is e =
        let own : log.agent_to_site S i ≡ record l { body = msg.View w } ∷ ls = rw e at is in
        let p = (rw own at (H.views i).plain).0 in
        subst (λ g. Turns (site_popped S (Agent g) i) i (on_view E S.words.deployment i stamp (S.sites i) w)) (sym e)
        (on_view-turns E S H i stamp l ls w own up (not-none l.start (site_start S i) p.1 (taken-for (site_start S i) (term_at S i) l take).0))

    agent-handler : (m : Msg Blocks) → S.words.channel (Agent h) (Site i) ≡ record l { body = m } ∷ ls → ForeignOk S i (Agent h) (record l { body = m }) → FromAgent m
    agent-handler m = elim m as (λ m. S.words.channel (Agent h) (Site i) ≡ record l { body = m } ∷ ls → ForeignOk S i (Agent h) (record l { body = m }) → FromAgent m) [
      | msg.SpCall call start client body ↦ λ is k. goes-turns (site_popped S (Agent h) i) i _
          (on_sp_call-goes E (site_popped S (Agent h) i) (heard (msg.SpCall call start client body) is refl) i stamp (record { call = call; client = client; host = h; start = start; body = body }) up)
      | msg.View w ↦ λ is k. viewed w is k
      | msg.Frag m round body ↦ λ is k. goes-turns (site_popped S (Agent h) i) i _
          (on_frag-goes E (site_popped S (Agent h) i) (heard (msg.Frag m round body) is refl) i m round body up)
      | msg.Done m o ↦ λ is k. goes-turns (site_popped S (Agent h) i) i _
          (on_done-goes E (site_popped S (Agent h) i) (heard (msg.Done m o) is refl) i stamp m o up)
      | m ↦ λ is k. goes-turns (site_popped S (Agent h) i) i _ (goes-same (site_popped S (Agent h) i) i (heard m is refl))
    ]

  -- All holds after the handler of a message that is taken.
  pub handler-turns : (from : Actor) (l : Letter) (ls : List Letter) → S.words.channel from (Site i) ≡ l ∷ ls → arrival (site_start S i) (term_at S i) l ≡ Taken
      → Turns (site_popped S from i) i (site_handler E S.words.deployment stamp i (S.sites i) from l)
  handler-turns (Site slot) l ls is take =
      goes-turns (site_popped S (Site slot) i) i (from_site E S.words.deployment stamp i (S.sites i) slot l)
      (site-handler slot l ls take l.body is (rw is at (H.letters slot i (running-slot S H i up))).0)
  handler-turns (Agent h) l ls is take = agent-handler h l ls take l.body is (rw is at (H.foreign (Agent h) i)).0
  handler-turns (Scanner x) l ls is take =
      goes-turns (site_popped S (Scanner x) i) i (becomes (from_scanner (S.sites i) l))
      (scanner-handler (site_popped S (Scanner x) i) (pops-plain S H (Scanner x) i l ls is (record { line = λ k e. absurd (cc); flow = λ k e. absurd (cc); view = λ e. absurd (cc) })) i up l l.body)
  handler-turns Director l ls is take =
      goes-turns (site_popped S Director i) i (becomes (from_director (S.sites i) l))
      (director-handler (site_popped S Director i) (pops-plain S H Director i l ls is (record { line = λ k e. absurd (cc); flow = λ k e. absurd (cc); view = λ e. absurd (cc) })) i up l l.body)
  handler-turns (Client n) l ls is take =
      goes-turns (site_popped S (Client n) i) i (becomes (S.sites i))
      (goes-same (site_popped S (Client n) i) i (pops-plain S H (Client n) i l ls is (record { line = λ k e. absurd (cc); flow = λ k e. absurd (cc); view = λ e. absurd (cc) })))

  -- ---- the handler of a message that waited

  left-site : (slot : ℕ) (l : Letter) (ws : List Waiting) (m : Msg Blocks) → S.pending i ≡ record { from = Site slot; letter = record l { body = m } } ∷ ws → l.term ≡ term_at S i
      → (l.start ≡ 0) ⊎ (l.start ≡ site_start S i) → SiteWaitingFrom S i (Site slot) (record l { body = m })
      → LogsGo (left S i ws) i (from_site E S.words.deployment stamp i (S.sites i) slot (record l { body = m }))
  left-site slot l ws m = elim m as (λ m. S.pending i ≡ record { from = Site slot; letter = record l { body = m } } ∷ ws → l.term ≡ term_at S i
      → (l.start ≡ 0) ⊎ (l.start ≡ site_start S i) → SiteWaitingFrom S i (Site slot) (record l { body = m })
      → LogsGo (left S i ws) i (from_site E S.words.deployment stamp i (S.sites i) slot (record l { body = m }))) [
        | msg.Put position e floor ↦ λ is t a k. absurd k
        | msg.Repair from entries ↦ λ is t a k. absurd k
        | msg.StreamStart head ↦ λ is t a k. absurd k
        | msg.StreamEnd count ↦ λ is t a k. absurd k
        | msg.Task position e ↦ λ is t a k. absurd k
        | msg.Ack position ↦ λ is t a k.
            on_ack-goes (left S i ws) (leaves S H i _ ws is) i slot position up (ack-moved S S.words.channel (set_at S.pending i ws) slot (term_at S i) position (rw t at k.1))
        | msg.Report position floor tail ↦ λ is t a k.
            on_report-goes E (left S i ws) (leaves S H i _ ws is) i stamp slot position floor tail up
            (report-moved S S.words.channel (set_at S.pending i ws) (part S i) slot (term_at S i) position floor tail (rw t at k.1))
        | msg.JoinAsk start asking ↦ λ is t a k. join-ask-left-goes S H i slot l ws start asking is up (not-none l.start (site_start S i) k.0.0 a) t
        | m ↦ λ is t a k. goes-same (left S i ws) i (leaves S H i _ ws is)
      ]

  left-agent : (h : ℕ) (l : Letter) (ws : List Waiting) (m : Msg Blocks) → LogsHold (left S i ws) → SiteWaitingFrom S i (Agent h) (record l { body = m })
      → LogsGo (left S i ws) i (from_agent E S.words.deployment stamp i (S.sites i) h (record l { body = m }))
  left-agent h l ws m = elim m as (λ m. LogsHold (left S i ws) → SiteWaitingFrom S i (Agent h) (record l { body = m })
      → LogsGo (left S i ws) i (from_agent E S.words.deployment stamp i (S.sites i) h (record l { body = m }))) [
        | msg.SpCall call start client body ↦ λ g k. on_sp_call-goes E (left S i ws) g i stamp (record { call = call; client = client; host = h; start = start; body = body }) up
        | msg.View w ↦ λ g k. absurd k
        | msg.Frag m round body ↦ λ g k. on_frag-goes E (left S i ws) g i m round body up
        | msg.Done m o ↦ λ g k. on_done-goes E (left S i ws) g i stamp m o up
        | m ↦ λ g k. goes-same (left S i ws) i g
      ]

  -- All holds after the handler of a message that waited for the term. One of an actor that isn't a site brings no ask.
  pub left-goes : (x : Waiting) (ws : List Waiting) → S.pending i ≡ x ∷ ws → x.letter.term ≡ term_at S i → SiteWaitingOk S i x
      → LogsGo (left S i ws) i (site_handler E S.words.deployment stamp i (S.sites i) x.from x.letter)
  left-goes x ws is t k = from-each x.from x.letter is t k.0 k.1
    where
      from-each : (from : Actor) (l : Letter) → S.pending i ≡ record { from = from; letter = l } ∷ ws → l.term ≡ term_at S i
          → (l.start ≡ 0) ⊎ (l.start ≡ site_start S i) → SiteWaitingFrom S i from l → LogsGo (left S i ws) i (site_handler E S.words.deployment stamp i (S.sites i) from l)
      from-each (Site slot) l is t a k = left-site slot l ws l.body is t a k
      from-each (Agent h) l is t a k = left-agent h l ws l.body (leaves S H i (record { from = Agent h; letter = l }) ws is) k
      from-each (Scanner x) l is t a k = scanner-handler (left S i ws) (leaves S H i (record { from = Scanner x; letter = l }) ws is) i up l l.body
      from-each Director l is t a k = director-handler (left S i ws) (leaves S H i (record { from = Director; letter = l }) ws is) i up l l.body
      from-each (Client n) l is t a k = goes-same (left S i ws) i (leaves S H i (record { from = Client n; letter = l }) ws is)
