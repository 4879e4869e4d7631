-- An event that changes words, what is under way between others than sites, and what disks hold: what holds of sites and logs,
-- holds after it.
use Rattle.log_laws.proofs.Names.{◌≡◌, ◌<◌, List, refl, sym, subst, ap, ◌∙◌, inl, inr, fun_ext, ℕ, Option, Some, None, AllByRecursion, Entry, Membership, Actor, Director, Client, Agent, Site, Scanner, Deployment, term_of, Shown, Letter, Waiting, Streamed, Joining, Joiner, State, all-mono, Grows, LogState, Entered, Streaming, Leadership, Flow, IsSlot, HasBeen, AckOk, ReportOk, AsksToJoin, CountedOk, EndOk, SiteLetterOk, MemberOk, Coming, Took, Inert, Untaken, StreamIn, InWord, Wordless, ViewIn, JoinerOk, SiteWaitingFrom, SiteWaitingOk, KeepsOk, SiteOk, Came, EnteredOk, StreamedOk, LeadershipOk, UnledOk, WordOf, LogsHold, epoch_base, part, site_start, term_at, between, flow}
use Rattle.volt_wire.specs.declared.message.Msg.TheVariants as msg

-- what is under way between sites as in the first one, and else as in the second one
abbrev between_sites : (Actor → Actor → List Letter) → (Actor → Actor → List Letter) → Actor → Actor → List Letter
between_sites old new (Site i) (Site c) = old (Site i) (Site c)
between_sites old new a b = new a b

-- the state with these words, and with disks that hold this
abbrev pub with_words : LogState → State → (ℕ → List Shown) → LogState
with_words S W contents = record S { words = W; sites = λ c. record (S.sites c) { contents = contents c } }

module _ (S : LogState) (W : State) (contents : ℕ → List Shown) where
  -- the later state, in which what is under way between sites is as it was
  abbrev T : LogState
  T = with_words S (record W { deployment = S.words.deployment; channel = between_sites S.words.channel W.channel }) contents

  -- ---- what was said of slots

  been : (c t a : ℕ) → HasBeen S c t a → HasBeen T c t a
  been c t a k = search

  ack : (c t n : ℕ) → AckOk S c t n → AckOk T c t n
  ack c t n k = search

  ask : (p c t a : ℕ) → AsksToJoin S p c t a → AsksToJoin T p c t a
  ask p c t a k = search been

  counted : (p t : ℕ) (j : Joiner) → CountedOk S p t j → CountedOk T p t j
  counted p t j k = search been

  ended : (i c : ℕ) (l : Letter) → EndOk S i c l → EndOk T i c l
  ended i c l k = search

  -- ---- a joiner

  coming : (c : ℕ) (w : Membership) (fl : List Flow) → Coming S c w fl → Coming T c w fl
  coming c w fl k = search

  took : (c : ℕ) (w : Membership) (j : Joining) (stream_start : ℕ) → Took S c w j stream_start → Took T c w j stream_start
  took c w j stream_start k = search

  inert : (c : ℕ) (w : Membership) (l : ℕ) → Inert S c w l → Inert T c w l
  inert c w l k = search

  untaken : (c : ℕ) (w : Membership) (j : Joining) → Untaken S c w j → Untaken T c w j
  untaken c w j k = record {
    loads = k.loads;
    counts = k.counts;
    tasks = k.tasks;
    empty = k.empty;
    floor = k.floor;
    never = k.never;
    comes = λ l f e. elim (k.comes l f e) [ inl q ↦ inl (inert c w l q) | inr q ↦ inr (coming c w (flow (site_start S c) (term_of w) (between S l c)) q.0, q.1) ];
  }

  stream : (c : ℕ) (w : Membership) (j : Joining) (st : Option Streamed) → StreamIn S c w j st → StreamIn T c w j st
  stream c w j None k = untaken c w j k
  stream c w j (Some st) k = took c w j st.stream_start k

  wordless : (c : ℕ) (j : Joining) → Wordless S c j → Wordless T c j
  wordless c j k = search

  -- ---- where words have only grown

  module _ (g : Grows S.words.history W.history) where
    word : (t : ℕ) (w : Membership) → WordOf S t w → WordOf T t w
    word t w k = record { decided = g.decided w k.decided; term_is = k.term_is }

    report : (p c t n m : ℕ) (tail : List Entry) → ReportOk S p c t n m tail → ReportOk T p c t n m tail
    report p c t n m tail k = search word

    letter : (i c : ℕ) (l : Letter) → SiteLetterOk S i c l → SiteLetterOk T i c l
    letter i c l p = elim l.body as (λ m. SiteLetterOk S i c (record l { body = m }) → SiteLetterOk T i c (record l { body = m })) [
      | msg.StreamEnd count ↦ λ k. (k.0, ended i c (record l { body = msg.StreamEnd count }) k.1)
      | msg.Ack n ↦ λ k. (k.0, ack i l.term n k.1)
      | msg.Report position floor tail ↦ λ k. (k.0, report (part S c) i l.term position floor tail k.1)
      | msg.JoinAsk a slot ↦ λ k. (k.0, k.1, ask (part S c) i l.term a k.2)
      | m ↦ λ k. k
    ] p

    waits : (c : ℕ) (from : Actor) (l : Letter) → SiteWaitingFrom S c from l → SiteWaitingFrom T c from l
    waits c (Site i) l p = elim l.body as (λ m. SiteWaitingFrom S c (Site i) (record l { body = m }) → SiteWaitingFrom T c (Site i) (record l { body = m })) [
      | msg.Ack n ↦ letter i c (record l { body = msg.Ack n })
      | msg.Report position floor tail ↦ letter i c (record l { body = msg.Report position floor tail })
      | msg.JoinAsk a slot ↦ letter i c (record l { body = msg.JoinAsk a slot })
      | m ↦ λ k. k
    ] p
    waits c (Agent h) l p = p
    waits c from l p = tt

    waiting : (c : ℕ) (x : Waiting) → SiteWaitingOk S c x → SiteWaitingOk T c x
    waiting c x k = (k.0, waits c x.from x.letter k.1)

    keeps : (c : ℕ) → KeepsOk S c → KeepsOk T c
    keeps c k = record {
      acks = all-mono _ _ (λ a f i. ack a.0 (term_at S c) a.1 (f i)) (S.sites c).acks k.acks;
      reports = all-mono _ _ (λ r f. report (part S c) r.slot (term_at S c) r.position r.floor r.tail f) (S.sites c).reports k.reports;
      joiners = all-mono _ _ (counted (part S c) (term_at S c)) (S.sites c).joiners k.joiners;
      alone = k.alone;
      leads = k.leads;
      asks = all-mono _ _ (λ a f. ask (part S c) a.slot (term_at S c) a.start f) (S.sites c).asks k.asks;
      waiting = all-mono (SiteWaitingOk S c) (SiteWaitingOk T c) (waiting c) (S.sites c).waiting k.waiting;
      pending = all-mono (SiteWaitingOk S c) (SiteWaitingOk T c) (waiting c) (S.pending c) k.pending;
      on_disk = k.on_disk;
      held = k.held;
    }

    member : (c : ℕ) (w : Membership) → MemberOk S c w → MemberOk T c w
    member c w k = search g.decided

    in-word : (c : ℕ) (w : Membership) (j : Joining) → InWord S c w j → InWord T c w j
    in-word c w j k = record { took = g.took_word (site_start S c) w k.took; lines = k.lines; others = k.others; stream = stream c w j j.stream k.stream }

    view : (c : ℕ) (j : Joining) (o : Option Membership) → ViewIn S c j o → ViewIn T c j o
    view c j None k = wordless c j k
    view c j (Some w) k = in-word c w j k

    joiner : (c : ℕ) (j : Joining) → JoinerOk S c j → JoinerOk T c j
    joiner c j k = record { runs = k.runs; unentered = k.unentered; told = k.told; based = k.based; firm = k.firm; view = view c j (S.sites c).view k.view }

    site : (c : ℕ) → SiteOk S c → SiteOk T c
    site c k = record {
      environment = k.environment;
      ran = k.ran;
      term = k.term;
      earlier = k.earlier;
      member = λ u e. let m = k.member u e in (m.0, m.1, member c m.0 m.2);
      joiner = λ j e. joiner c j (k.joiner j e);
      keeps = λ u. keeps c (k.keeps u);
      stopped = k.stopped;
      blank = k.blank;
    }

    came : (c t a : ℕ) → Came S c t a → Came T c t a
    came c t a (inl e) = inl (rw g.first e)
    came c t a (inr k) = inr k

    entered : (c t : ℕ) (e : Entered) → EnteredOk S c t e → EnteredOk T c t e
    entered c t e k = search (been, word, came)

    streamed : (c t : ℕ) (x : Streaming) → StreamedOk S c t x → StreamedOk T c t x
    streamed c t x k = search (been, g.took_word)

    same-leadership-ok : (p t : ℕ) (r : Leadership) → LeadershipOk S p t r → LeadershipOk T p t r
    same-leadership-ok p t r k = record { word = k.word; is_word = word t k.word k.is_word; grown = k.grown; within = k.within; entered = k.entered; begun_by = rw g.first k.begun_by }

-- ---- the whole of it

-- What holds of sites and their logs.
pub record SitesHold (S : LogState) : Type 0 where
  pub sites : (c : ℕ) → SiteOk S c
  pub letters : (i c : ℕ) → IsSlot S c → AllByRecursion (SiteLetterOk S i c) (between S i c)
  pub entered : (c t : ℕ) (e : Entered) → S.logs.entered c t ≡ Some e → EnteredOk S c t e
  pub streamed : (c t : ℕ) (x : Streaming) → S.logs.streamed c t ≡ Some x → StreamedOk S c t x
  pub leaderships : (p t : ℕ) (g : Leadership) → S.logs.leadership p t ≡ Some g → LeadershipOk S p t g
  pub unled : (p t : ℕ) → S.logs.leadership p t ≡ None → UnledOk S p t
  pub some : 0 < epoch_base S
  pub first : (p : ℕ) → (g : Leadership) × (S.logs.leadership p (epoch_base S) ≡ Some g)

pub sites-hold : (S : LogState) → LogsHold S → SitesHold S
sites-hold S h = search

-- Words have only grown, and nothing new is under way between sites.
pub record KeepsSites (S : LogState) (W : State) : Type 0 where
  pub deployment : W.deployment ≡ S.words.deployment
  pub between : (i c : ℕ) → W.channel (Site i) (Site c) ≡ S.words.channel (Site i) (Site c)
  pub grows : Grows S.words.history W.history

module _ (S : LogState) (W : State) (contents : ℕ → List Shown) (k : KeepsSites S W) where
  channel-is : between_sites S.words.channel W.channel ≡ W.channel
  channel-is = fun_ext (λ a. fun_ext (λ b. one a b))
    where
      one : (a b : Actor) → between_sites S.words.channel W.channel a b ≡ W.channel a b
      one (Site i) (Site c) = sym (k.between i c)
      one (Site i) Director = refl
      one (Site i) (Client n) = refl
      one (Site i) (Agent h) = refl
      one (Site i) (Scanner x) = refl
      one Director b = refl
      one (Client n) b = refl
      one (Agent h) b = refl
      one (Scanner x) b = refl

  words-are : record W { deployment = S.words.deployment; channel = between_sites S.words.channel W.channel } ≡ W
  words-are = ap {A = Actor → Actor → List Letter} {B = State} (λ c. record W { deployment = S.words.deployment; channel = c }) channel-is
      ∙ ap {A = Deployment} {B = State} (λ d. record W { deployment = d }) (sym k.deployment)

  pub sites-kept : SitesHold S → SitesHold (with_words S W contents)
  sites-kept h = subst (λ w. SitesHold (with_words S w contents)) words-are (record {
    sites = λ c. site S W contents k.grows c (h.sites c);
    letters = λ i c s. all-mono (SiteLetterOk S i c) (SiteLetterOk (T S W contents) i c) (letter S W contents k.grows i c) (between S i c) (h.letters i c s);
    entered = λ c t e q. entered S W contents k.grows c t e (h.entered c t e q);
    streamed = λ c t x q. streamed S W contents k.grows c t x (h.streamed c t x q);
    leaderships = λ p t r q. same-leadership-ok S W contents k.grows p t r (h.leaderships p t r q);
    unled = h.unled;
    some = rw k.grows.first h.some;
    first = rw k.grows.first h.first;
  })
