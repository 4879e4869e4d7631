-- What the law of logs doesn't look at may be another: the disks' contents, the next start, and what others than sites and agents
-- have sent.
use Rattle.log_laws.proofs.Names.{◌≡◌, false, List, refl, sym, subst, ◌∙◌, true≢false, fun_ext, ℕ, AllByRecursion, Actor, Director, Client, Agent, Site, Scanner, Shown, same, Letter, Queued, ToRun, Admission, In, Admitted, all-mono, eqb-same, grows-same, LogState, views, ViewsOk, ForeignOk, AllLoaded, AskedOk, QueuedLoadedOk, LogsHold, site_start, agent_to_site}
use Rattle.volt_wire.specs.declared.message.Msg.TheVariants as msg
use Rattle.word_laws.specs.Histories as word
use Rattle.log_laws.proofs.Agents.Words.{sites-hold, sites-kept}
use Rattle.log_laws.proofs.Runs.Boots.{NoStart}
use Rattle.log_laws.proofs.Kept.{first_views-later, run_views-later}

-- the channels between sites and agents, and other ones
abbrev pub kept : (Actor → Actor → List Letter) → (Actor → Actor → List Letter) → Actor → Actor → List Letter
kept old new (Site i) (Site c) = old (Site i) (Site c)
kept old new (Site i) (Agent h) = old (Site i) (Agent h)
kept old new (Agent g) (Site c) = old (Agent g) (Site c)
kept old new (Agent g) (Agent h) = old (Agent g) (Agent h)
kept old new a b = new a b

abbrev pub reframed : LogState → ℕ → (ℕ → ℕ) → (Actor → Actor → List Letter) → (ℕ → List Shown) → LogState
reframed S next owner channel contents = record S {
  words = record S.words { next = next; channel = kept S.words.channel channel; owner = owner };
  sites = λ c. record (S.sites c) { contents = contents c };
}

module _ (S : LogState) (next : ℕ) (owner : ℕ → ℕ) (channel : Actor → Actor → List Letter) (contents : ℕ → List Shown) where
  abbrev T : LogState
  T = reframed S next owner channel contents

  views-ok : (c : ℕ) → ViewsOk S c → ViewsOk T c
  views-ok c k = record {
    plain = k.plain;
    began = k.began;
    running = λ up. run_views-later S T refl (λ w i. i) (λ a w e. e) c (S.sites c).view (views (site_start S c) (agent_to_site S c)) refl (k.running up);
    starting = λ s i. let x = k.starting s i in (x.0, x.1, first_views-later S T refl (λ w i. i) (λ a w e. e) c s (views s (agent_to_site S c)) x.2);
    wordless = k.wordless;
    below = k.below;
  }

  queued : (q : Queued) → QueuedLoadedOk S q → QueuedLoadedOk T q
  queued (ToRun job) k = tt
  queued (Admission a h term) k = k

  asked : (from : Actor) (l : Letter) → AskedOk S from l → AskedOk T from l
  asked (Agent h) l k = k
  asked (Site i) l k = k
  asked from l k = tt

  -- What holds is kept, where the hosts of starts that were admitted are, and others send sites no start.
  framed-holds : LogsHold S → word.WordsHold T.words → ((x : Admitted) → In x S.words.history.admitted → owner x.start ≡ S.words.owner x.start)
      → ((from : Actor) (c : ℕ) → AllByRecursion (ForeignOk T c from) (T.words.channel from (Site c))) → LogsHold T
  framed-holds H words owned foreign =
      let k = sites-kept S T.words contents (record { deployment = refl; between = λ i c. refl; grows = grows-same S.words.history }) (sites-hold S H) in
      record {
        words = words;
        sites = k.sites;
        views = λ c. views-ok c (H.views c);
        letters = k.letters;
        foreign = foreign;
        loads = record {
          told = H.loads.told;
          heard = H.loads.heard;
          asked = H.loads.asked;
          waiting = λ h. all-mono _ _ (λ x p. asked x.from x.letter p) (S.words.agents h).waiting (H.loads.waiting h);
          queued = λ h. all-mono (QueuedLoadedOk S) (QueuedLoadedOk T) queued (S.words.agents h).initiating.queue (H.loads.queued h);
          admitted = λ x i. subst (λ h. AllLoaded S h x.start) (sym (owned x i)) (H.loads.admitted x i);
        };
        entered = k.entered;
        streamed = k.streamed;
        leaderships = k.leaderships;
        unled = k.unled;
        some = k.some;
        first = k.first;
      }

-- ---- in general

-- the channels between sites and agents are as they were
pub record Agrees (old new : Actor → Actor → List Letter) : Type 0 where
  pub sites : (i c : ℕ) → new (Site i) (Site c) ≡ old (Site i) (Site c)
  pub told : (i h : ℕ) → new (Site i) (Agent h) ≡ old (Site i) (Agent h)
  pub views : (g c : ℕ) → new (Agent g) (Site c) ≡ old (Agent g) (Site c)
  pub agreed : (g h : ℕ) → new (Agent g) (Agent h) ≡ old (Agent g) (Agent h)

kept-agrees : (old new : Actor → Actor → List Letter) → Agrees old new → kept old new ≡ new
kept-agrees old new k = fun_ext (λ a. fun_ext (λ b. each a b))
  where
    each : (a b : Actor) → kept old new a b ≡ new a b
    each (Site i) (Site c) = sym (k.sites i c)
    each (Site i) (Agent h) = sym (k.told i h)
    each (Agent g) (Site c) = sym (k.views g c)
    each (Agent g) (Agent h) = sym (k.agreed g h)
    each a b = refl

-- others than agents send no start and no stream
pub foreign-plain : (S : LogState) (c : ℕ) (a : Actor) (l : Letter) → ((h : ℕ) → same a (Agent h) ≡ false) → NoStart l → ForeignOk S c a l
foreign-plain S c Director l other k = k
foreign-plain S c (Client n) l other k = k
foreign-plain S c (Agent h) l other k = absurd (true≢false (sym (eqb-same h) ∙ other h))
foreign-plain S c (Site i) l other k = elim l.body as (λ m. NoStart (record l { body = m }) → ForeignOk S c (Site i) (record l { body = m })) [
  | msg.Start s ↦ λ e. e
  | m ↦ λ _. tt
] k
foreign-plain S c (Scanner x) l other k = k

-- What holds is kept over all that the law doesn't look at.
pub frames-holds : (S : LogState) (next : ℕ) (owner : ℕ → ℕ) (channel : Actor → Actor → List Letter) (contents : ℕ → List Shown) → LogsHold S
    → Agrees S.words.channel channel
    → word.WordsHold (record S.words { next = next; channel = channel; owner = owner })
    → ((x : Admitted) → In x S.words.history.admitted → owner x.start ≡ S.words.owner x.start)
    → ((from : Actor) (c : ℕ) → AllByRecursion (ForeignOk S c from) (channel from (Site c)))
    → LogsHold (record S { words = record S.words { next = next; channel = channel; owner = owner }; sites = λ c. record (S.sites c) { contents = contents c } })
frames-holds S next owner channel contents H agrees words owned foreign =
    let e = kept-agrees S.words.channel channel agrees in
    subst (λ ch. LogsHold (record S { words = record S.words { next = next; channel = ch; owner = owner }; sites = λ c. record (S.sites c) { contents = contents c } })) e
    (framed-holds S next owner channel contents H
    (subst (λ ch. word.WordsHold (record S.words { next = next; channel = ch; owner = owner })) (sym e) words)
    owned
    (λ from c. all-mono (ForeignOk S c from) (ForeignOk (reframed S next owner channel contents) c from) (sent-by from c)
    (kept S.words.channel channel from (Site c))
    (subst (λ ch. AllByRecursion (ForeignOk S c from) (ch from (Site c))) (sym e) (foreign from c))))
  where
    sent-by : (from : Actor) (c : ℕ) (l : Letter) → ForeignOk S c from l → ForeignOk (reframed S next owner channel contents) c from l
    sent-by Director c l k = k
    sent-by from c l k = k
