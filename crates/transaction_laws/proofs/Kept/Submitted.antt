-- Clients submit more calls: what holds of transactions, holds with these.
use Rattle.call_laws.specs.Submissions.{Grows, Submissions}
use Rattle.transaction_laws.specs.Calls.{CallsOk, EntryAsked, IsAskedBefore, OutcomeAsked}
use Rattle.transaction_laws.proofs.Kept.Later.{settled-with}
use Rattle.transaction_laws.proofs.Names.{Aborted, AgentCalls, AgentState, Aligned, AtHand, Books, Bool, CallsHold, Closes, CoversIn, Database, Deployment, Done, Dropped, Entry, Fed, Firm, Frag, HeardPart, Hears, Idle, InitiatingOk, JobOk, Kept, KnownReply, LastReply, List, LogState, MayEnd, None, Off, Option, Outcome, Phase, PhaseOk, Settled, SiteCalls, Snapshot, Some, Sp, Transactions, Work, Works, all-mono, inl, inr, refl, ℕ}

-- ---- entries

module _ (A B : Submissions) (more : Grows A B) where
  before-on : (call client : ℕ) (part : Option ℕ) (body : List ℕ) (point : ℕ) → IsAskedBefore A call client part body point → IsAskedBefore B call client part body point
  before-on call client part body point k = record { at = k.at; is = more call _ k.is; before = k.before }

  outcome-on : (o : Outcome) → OutcomeAsked A o → OutcomeAsked B o
  outcome-on (Kept call client point reply) k = (k.0, before-on call client None k.0 point k.1)
  outcome-on (Aborted call client point reply) k = (k.0, before-on call client None k.0 point k.1)
  outcome-on Dropped k = tt
  outcome-on Snapshot k = tt

  entry-on : (p : ℕ) (e : Entry) → EntryAsked A p e → EntryAsked B p e
  entry-on p (Sp call client point body) k = before-on call client (Some p) body point k
  entry-on p (Frag m round body) k = tt
  entry-on p (Done m o) k = outcome-on o k

  ok-on : (p : ℕ) (log : List Entry) → CallsOk A p log → CallsOk B p log
  ok-on p log k = record { once = k.once; asked = all-mono (EntryAsked A p) (EntryAsked B p) (entry-on p) log k.asked }

-- ---- the history with more submissions

abbrev pub with_submitted : Transactions → Submissions → Transactions
with_submitted K B = record K { submitted = B }

module _ (E : Database) (S : LogState) (F : Firm) (K : Transactions) (B : Submissions) (more : Grows K.submitted B) where
  abbrev L : Transactions
  L = with_submitted K B

  aligned-on : (D : Deployment) (now : ℕ) (logs : ℕ → List Entry) → Aligned E D now K logs → Aligned E D now L logs
  aligned-on D now logs k = record {
    formed = k.formed;
    past = k.past;
    prefix = k.prefix;
    over = k.over;
    below = k.below;
    only = k.only;
    fresh = k.fresh;
    ends = k.ends;
    snapshot = k.snapshot;
    decided = k.decided;
    agreed = k.agreed;
    even = k.even;
  }

  part-on : (p : ℕ) → HeardPart S F K p → HeardPart S F L p
  part-on p h = record { leadership = h.leadership; led = h.led; inside = h.inside; closed = h.closed; decided = h.decided; top = h.top }

  end-on : (o : Outcome) → MayEnd E S K o → MayEnd E S L o
  end-on o k = record { asked = outcome-on K.submitted B more o k.asked; unapplied = k.unapplied; new = k.new }

  known-then : (work : Option Work) (r : LastReply) → KnownReply S F K.submitted K.heard work r → KnownReply S F B K.heard work r
  known-then work r (inl (inl (s, p, is, one))) = inl (inl (s, p, more r.call s is, one))
  known-then work r (inl (inr k)) = inl (inr k)
  known-then work r (inr own) = inr own

  books-on : (now : ℕ) → Books E S F K now → Books E S F L now
  books-on now k = record {
    due = k.due;
    leaderships = λ p t g part led. let r = k.leaderships p t g part led in
        record { formed = r.formed; past = r.past; unheard = r.unheard; calls = ok-on K.submitted B more p _ r.calls };
    heard = let h = k.heard in record {
      word = h.word;
      is_word = h.is_word;
      by = h.by;
      each = λ p part. part-on p (h.each p part);
      aligned = aligned-on S.words.deployment now _ h.aligned;
      ends = λ o is. end-on o (h.ends o is);
    };
  }

  settled-then : (p : ℕ) → Settled E S F K p → Settled E S F L p
  settled-then p s = settled-with E S F K L p refl s.none s

  fed-then : (p : ℕ) → Fed S F K p → Fed S F L p
  fed-then p f = record { none = f.none; everywhere = f.everywhere }

  job-then : (work : Option Work) → JobOk K work → JobOk L work
  job-then None k = tt
  job-then (Some w) k = k

  hand-then : (w : Work) (d : Option Outcome) → AtHand E S F K w d → AtHand E S F L w d
  hand-then w None k = (k.0, λ p part. let r = k.1 p part in (r.0, λ has. fed-then p (r.1 has)))
  hand-then w (Some o) k = λ p part. let r = k p part in (r.0, λ done. settled-then p (r.1 done))

  phase-then : (t : ℕ) (a : AgentState) (phase : Phase) → PhaseOk E S F K t a phase → PhaseOk E S F L t a phase
  phase-then t a Off k = k
  phase-then t a (Hears told) k = (k.0, k.1, job-then a.initiating.work k.2, k.3)
  phase-then t a (Closes m parts finished) k = (
    k.0,
    k.1,
    job-then a.initiating.work k.2,
    k.3,
    λ p part. let r = k.4 p part in (r.0, λ over. settled-then p (r.1 over)),
  )
  phase-then t a Idle k = k
  phase-then t a Works k = (k.0, k.1, (k.2.0, k.2.1, k.2.2, hand-then k.2.0 k.2.0.decision k.2.3))

  site-then : (c : ℕ) → SiteCalls S K c → SiteCalls S L c
  site-then c s = record { waiting = s.waiting; held = s.held; orders = s.orders; counts = s.counts; unrepaired = s.unrepaired }

  agent-then : (h : ℕ) → AgentCalls E S F K h → AgentCalls E S F L h
  agent-then h k = record {
    initiating = go k.initiating;
    knows = record { rise = k.knows.rise; covers = covers (S.words.agents h).initiating.phase k.knows.covers; decided = k.knows.decided; fresh = k.knows.fresh; from = all-mono _ _ (known-then (S.words.agents h).initiating.work) (S.words.agents h).initiating.replies k.knows.from; first = k.knows.first; outcome = k.knows.outcome };
    waiting = k.waiting;
  }
    where
      go : InitiatingOk E S F K h → InitiatingOk E S F L h
      go (inl off) = inl off
      go (inr (w, i, phase)) = inr (w, i, phase-then _ (S.words.agents h) (S.words.agents h).initiating.phase phase)

      covers : (phase : Phase) → CoversIn S K (S.words.agents h).initiating.replies phase → CoversIn S L (S.words.agents h).initiating.replies phase
      covers Off c = tt
      covers (Hears told) c = tt
      covers (Closes m parts finished) c = c
      covers Idle c = c
      covers Works c = c

  pub submitted-on : (halted : Bool) (now : ℕ) → CallsHold E S F halted K now → CallsHold E S F halted L now
  submitted-on halted now k = record {
    books = books-on now k.books;
    to_sites = k.to_sites;
    to_agents = k.to_agents;
    environment = k.environment;
    sites = λ c slot up. site-then c (k.sites c slot up);
    agents = λ h. agent-then h (k.agents h);
    halts = λ e shown s. let r = k.halts e shown s in (r.0, r.1, λ p part. ok-on K.submitted B more p _ (r.2 p part));
  }
