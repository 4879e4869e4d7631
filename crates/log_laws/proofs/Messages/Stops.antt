-- A slot's site stops, or a start of it begins to run: what holds, holds after it.
use Rattle.log_laws.proofs.Names.{◌≡◌, ◌<◌, List, [], ◌∷◌, ◌++◌, refl, sym, subst, ap, ◌∙◌, inl, inr, ◌==◌, arith, ◌⊎◌, and_parts, nat_tests, ℕ, ◌≤◌, ◌&&◌, max, nat_le, nat_lt, length, Some, None, AllByRecursion, Membership, Actor, Agent, Site, Scanner, Deployment, host_of_slot, is_slot_of, slots, Shown, same, Letter, Sends, Turn, becomes, no_sends, only, open_letter, SiteState, site_term, new_joiner, new_joining, stopped_site, stops_others, on_stop, stops_so, sent, rest, set_at, starts_in, In, all-if, all-mono, not-both, same-some, set-both, set-here, set-there, set-twice, cond_both, LogState, Logs, Entered, Streaming, LogsHold, IsCounted, SiteLetterOk, ForeignOk, IsSlot, SiteOk, KeepsOk, ViewsOk, JoinerOk, FirstViews, Starting, part, site_start, log_at, term_at, between, agent_to_site, views, asks_in, asks_waiting, asks_of_term}
use Rattle.volt_wire.specs.declared.message.Msg.TheVariants as msg
use Rattle.cluster_model.specs.Site.{on_start}
use Rattle.log_laws.proofs.Kept.{SiteRises, site-stays, Enters, after_site, site_popped, LogsLater, SiteLater, Stays, JoinsOn, grown-same, grown-reach, enters-same, same-leaderships, ask-later-on, letter-later-with, end-later-if, loads-later, leaderships-later, AtMost, AsksLess, asks-at, at-most-both, at-most-same, SiteStays, still-same, Uncounted, counted-from, site-keeps, keeps-later, foreign-later, first_views-later, views-keeps, words-later, goes-same, here, popped-here, popped-after, first-after, Silent, Unwatched, inert-after, entereds-later, streameds-later}
use Rattle.log_laws.proofs.Kept.Moves.{Grown}
use Rattle.log_laws.proofs.Plain.{if-none, one-and-others}
use Rattle.log_laws.proofs.Messages.Pops.{pops-kind, pops-stopped}

-- a site that is as it was goes on
pub stays-same : (S T : LogState) (c : ℕ) → T.sites c ≡ S.sites c → Stays S T c
stays-same S T c e = subst (SiteRises (S.sites c)) (sym e) (site-stays (S.sites c))

-- ---- a site of another start, or none

-- slot i has this site, and its site ran with these starts
abbrev pub site_renewed : LogState → ℕ → SiteState → (ℕ → List ℕ) → LogState
site_renewed S i s ran = record S { sites = set_at S.sites i s; logs = record S.logs { ran = ran } }

-- Such a site: it keeps nothing, and doesn't go on with what the slot ran with. It is a joiner, or it isn't running.
pub record Renews (S : LogState) (i : ℕ) (s : SiteState) (ran : ℕ → List ℕ) : Type 0 where
  pub later : LogsLater S (site_renewed S i s ran)
  pub ends : Stays S (site_renewed S i s ran) i → 0 < s.start → ⊥
  pub joins : s.joining ≡ None → s.start ≡ 0
  pub waiting : s.waiting ≡ []
  pub asks : s.asks ≡ []
  pub joiners : s.joiners ≡ []
  pub others : (c : ℕ) → (c ≡ i → ⊥) → ran c ≡ S.logs.ran c

module _ (S : LogState) (H : LogsHold S) (i : ℕ) (s : SiteState) (ran : ℕ → List ℕ) (new : Renews S i s ran) where
  abbrev T : LogState
  T = site_renewed S i s ran

  mine : T.sites i ≡ s
  mine = set-here S.sites i s

  other : (c : ℕ) → (c ≡ i → ⊥) → T.sites c ≡ S.sites c
  other c d = set-there S.sites i s c d

  -- it doesn't run on
  ended : Stays S T i → 0 < site_start T i → ⊥
  ended k up = new.ends k (subst (λ z. 0 < z.start) mine up)

  -- starts that run on join on
  joins-on : (c : ℕ) → Stays S T c → 0 < site_start T c → JoinsOn S T c
  joins-on = one-and-others _ i (λ k up. absurd (ended k up)) (λ c d k up w j. (j.0, ap (λ z. z.joining) (other c d) ∙ j.1, ap (λ z. z.view) (other c d) ∙ j.2))

  counts : (c a stream_start : ℕ) (w : Membership) → IsCounted S c a stream_start w → IsCounted T c a stream_start w
  counts c a stream_start w = counted-from S T H new.later i other c a stream_start w (λ k up joining view.
      let z = new.joins (ap (λ x. x.joining) (sym mine) ∙ joining) in let u = subst (λ x. 0 < x.start) mine up in absurd (omega (arith, z, u)))

  asks-less : AsksLess S T
  asks-less = asks-at S T i (λ l d. (other l d, refl, λ c. refl)) (λ c t.
      rw (mine, new.waiting, kept-none c t s new.asks)
      (at-most-both (asks_in t (between S c i) ++ asks_waiting c t (S.sites i).waiting ++ asks_waiting c t (S.pending i))
      (asks_in t (between S c i) ++ [] ++ asks_waiting c t (S.pending i))
      (asks_of_term c t (S.sites i)) []
      (at-most-both (asks_in t (between S c i) ++ asks_waiting c t (S.sites i).waiting) (asks_in t (between S c i) ++ [])
      (asks_waiting c t (S.pending i)) (asks_waiting c t (S.pending i))
      (at-most-both (asks_in t (between S c i)) (asks_in t (between S c i)) (asks_waiting c t (S.sites i).waiting) [] (at-most-same (asks_in t (between S c i)))
      (at-most-nothing (asks_waiting c t (S.sites i).waiting)))
      (at-most-same (asks_waiting c t (S.pending i))))
      (at-most-nothing (asks_of_term c t (S.sites i)))))
    where
      kept-none : (c t : ℕ) (x : SiteState) → x.asks ≡ [] → asks_of_term c t x ≡ []
      kept-none c t x e = rw e (if-none (site_term x == t))

      at-most-nothing : (xs : List ℕ) → AtMost xs []
      at-most-nothing xs = record { shorter = omega arith; within = λ y k. absurd k }

  other-ok : (c : ℕ) → (c ≡ i → ⊥) → SiteOk T c
  other-ok c d = site-keeps S T H new.later c still (new.others c d) (record { entered = λ t e k _. k; streamed = λ t x k _. k }) (record { leadership = refl; reach = refl })
      (λ up l. record { lines = refl; flows = refl; ends = λ e. e; asks = asks-less c l (term_at S c); uncounted = uncounted l })
      (λ stream_start w. counts c (site_start S c) stream_start w) keeps
      (λ z k. (ap (λ x. x.waiting) (other c d) ∙ k.0, ap (λ x. x.asks) (other c d) ∙ k.1, ap (λ x. x.joiners) (other c d) ∙ k.2, k.3))
      (H.sites c)
    where
      still : SiteStays (S.sites c) (T.sites c)
      still = still-same (S.sites c) (T.sites c) (other c d)

      uncounted : (l : ℕ) → Uncounted S l c (site_start S c) → Uncounted T l c (site_start S c)
      uncounted = one-and-others _ i (λ k j m. absurd (subst (In j) (ap (λ x. x.joiners) mine ∙ new.joiners) m)) (λ l n k j m. k j (subst (λ x. In j x.joiners) (other l n) m))

      keeps : 0 < site_start S c → KeepsOk S c → KeepsOk T c
      keeps up k = keeps-later S T H new.later c still (other c d) refl joins-on k

  -- What must hold of that slot, so that what holds, holds.
  pub renewed-holds : SiteOk T i → ViewsOk T i → LogsHold T
  renewed-holds site views = let leaderships = same-leaderships S.logs T.logs refl in record {
    words = H.words;
    sites = one-and-others (SiteOk T) i site other-ok;
    views = one-and-others (ViewsOk T) i views (λ c d.
        views-keeps S T H new.later c (ap (λ x. x.start) (other c d)) (ap (λ x. x.view) (other c d)) (new.others c d) refl (λ s m. m) refl (H.views c));
    letters = λ j c slot. all-mono (SiteLetterOk S j c) (SiteLetterOk T j c) (λ l. letter-later-with S T H new.later j c l
        (λ a _ _. ask-later-on S T H new.later (part S c) j l.term a (joins-on j))
        (λ r e. end-later-if S T H new.later j c l r e (λ _ _ _ _ k. k) (λ x q _. inl q)))
        (between S j c) (H.letters j c slot);
    foreign = λ a c. all-mono (ForeignOk S c a) (ForeignOk T c a) (foreign-later S T H new.later c a) (S.words.channel a (Site c)) (H.foreign a c);
    loads = loads-later S T H new.later refl refl H.loads.told (λ h g. refl);
    entered = entereds-later S T H new.later leaderships (λ p t. refl);
    streamed = λ c t x k. let o = H.streamed c t x k in streameds-later S T H new.later leaderships (λ p t. refl) c t x o o.apart (counts c x.start x.stream_start o.word);
    leaderships = leaderships-later S T H new.later leaderships (λ p t g is. (H.leaderships p t g is).within);
    unled = H.unled;
    some = H.some;
    first = H.first;
  }

-- ---- and what it sends

-- messages that aren't looked at
pub renewed-sends : (S : LogState) (i : ℕ) (s : SiteState) (ran : ℕ → List ℕ) (out : Sends) → LogsHold (site_renewed S i s ran) → ((b : Actor) → AllByRecursion (Silent b) (out b))
    → LogsHold (after_site S i s out (record S.logs { ran = ran }))
renewed-sends S i s ran out H silent =
    subst (λ f. LogsHold (record S { words = record S.words { channel = sent S.words.channel (Site i) out }; sites = f; logs = record S.logs { ran = ran } }))
    (set-twice S.sites i s s)
    (inert-after (site_renewed S i s ran) i s out H (subst (λ z. Unwatched z s) (sym (set-here S.sites i s)) (record { same = refl; held = λ k. k })) silent)

-- ---- a site that stops

-- a site that has stopped, with another greatest Stop, and other contents and cuts of power of its disk
abbrev pub stopped_so : SiteState → ℕ → List Shown → List (ℕ × ℕ) → SiteState
stopped_so s stop contents plans = record (stopped_site s) { stop = stop; contents = contents; plans = plans }

module _ (S : LogState) (H : LogsHold S) (i : ℕ) (none : S.pending i ≡ []) (stop : ℕ) (contents : List Shown) (plans : List (ℕ × ℕ)) where
  abbrev Q : LogState
  Q = site_renewed S i (stopped_so (S.sites i) stop contents plans) S.logs.ran

  gone : Q.sites i ≡ stopped_so (S.sites i) stop contents plans
  gone = set-here S.sites i (stopped_so (S.sites i) stop contents plans)

  stop-later : LogsLater S Q
  stop-later = record {
    words = words-later S S.words.channel;
    ran = λ c a k. k;
    greatest = set-both (λ c x. (S.sites c).greatest ≤ x.greatest) S.sites i (stopped_so (S.sites i) stop contents plans) (omega arith) (λ c d. omega arith);
    sites = one-and-others (SiteLater S Q) i (inr (inl (ap (λ x. x.start) gone))) (λ c d. inl (stays-same S Q c (set-there S.sites i (stopped_so (S.sites i) stop contents plans) c d)));
    entered = λ c t e k. k;
    entered_now = λ c t e k. inl k;
    streamed = λ c t x k. k;
    streamed_now = λ c t x k. inl k;
    reach = λ p t. omega arith;
  }

  stop-site : SiteOk Q i
  stop-site = record {
    environment = λ _. ap (λ x. x.start) gone;
    ran = λ up. absurd (no-start up);
    term = rw gone (omega arith);
    earlier = rw gone (omega arith);
    member = λ up _. absurd (no-start up);
    joiner = λ j e. let z = ap (λ x. x.joining) (sym gone) ∙ e in absurd (cc);
    keeps = λ up. absurd (no-start up);
    stopped = λ _. (ap (λ x. x.waiting) gone, ap (λ x. x.asks) gone, ap (λ x. x.joiners) gone, none);
    blank = λ _. ap (λ x. x.view) gone;
  }
    where
      no-start : 0 < site_start Q i → ⊥
      no-start up = let z = ap (λ x. x.start) gone in omega (arith, z, up)

  stop-views : ViewsOk Q i
  stop-views = let k = H.views i in record {
    plain = k.plain;
    began = k.began;
    running = λ up. let z = ap (λ x. x.start) gone in absurd (omega (arith, z, up));
    starting = λ a m. let o = k.starting a m in (o.0, o.1, first_views-later S Q stop-later.words.deployment stop-later.words.decided stop-later.words.took_word i a (views a (agent_to_site S i)) o.2);
    wordless = k.wordless;
    below = λ up. ((k.below up).0, λ e. rw (ap site_term gone) (omega arith));
  }

  pub stopped-holds : LogsHold Q
  stopped-holds = renewed-holds S H i (stopped_so (S.sites i) stop contents plans) S.logs.ran (record {
    later = stop-later;
    ends = λ _ up. absurd (omega (arith, up));
    joins = λ _. refl;
    waiting = refl;
    asks = refl;
    joiners = refl;
    others = λ c d. refl;
  }) stop-site stop-views

  -- It sends nothing that is looked at.
  pub stops-holds : (out : Sends) → ((b : Actor) → AllByRecursion (Silent b) (out b)) → LogsHold (after_site S i (stopped_so (S.sites i) stop contents plans) out S.logs)
  stops-holds out silent = renewed-sends S i (stopped_so (S.sites i) stop contents plans) S.logs.ran out stopped-holds silent

-- It stops as it takes a message, whatever that is.
pub stops-message : (S : LogState) → LogsHold S → (from : Actor) (i : ℕ) (l : Letter) (ls : List Letter) → S.words.channel from (Site i) ≡ l ∷ ls → S.pending i ≡ []
    → (stop : ℕ) (contents : List Shown) (plans : List (ℕ × ℕ)) (out : Sends) → ((b : Actor) → AllByRecursion (Silent b) (out b))
    → LogsHold (after_site (site_popped S from i) i (stopped_so (S.sites i) stop contents plans) out S.logs)
stops-message S H from i l ls is none stop contents plans out silent =
    let s = stopped_so (S.sites i) stop contents plans in
    let first = first-after S from i s out S.logs l ls is in
    subst LogsHold (sym (popped-after S from i s out S.logs l ls is))
    (pops-stopped (after_site S i s out S.logs) (stops-holds S H i none stop contents plans out silent) from i l first.0 first.1 (ap (λ x. x.start) (here S i s out S.logs)))

-- ---- a start that begins

module _ (S : LogState) (H : LogsHold S) (i : ℕ) (l : Letter) (ls : List Letter) (a : ℕ) (is : agent_to_site S i ≡ record l { body = msg.Start a } ∷ ls)
    (slot : IsSlot S i) (above : site_start S i < a) (none : S.pending i ≡ []) where
  -- once the Start is taken
  abbrev P : LogState
  P = site_popped S (Agent (host_of_slot S.words.deployment i)) i

  abbrev ran : ℕ → List ℕ
  ran = set_at S.logs.ran i (a ∷ S.logs.ran i)

  abbrev N : LogState
  N = site_renewed P i (new_joiner (S.sites i) a) ran

  taken : LogsHold P
  taken = pops-kind S H (Agent (host_of_slot S.words.deployment i)) i (record l { body = msg.Start a }) ls is tt

  under-way : In a (starts_in (agent_to_site S i))
  under-way = subst (λ z. In a (starts_in z)) (sym is) (inl refl)

  starting : (In a (S.logs.ran i) → ⊥) × Starting a (agent_to_site S i) × FirstViews S i a (views a (agent_to_site S i))
  starting = (H.views i).starting a under-way

  left-of : agent_to_site P i ≡ ls
  left-of = popped-here S (Agent (host_of_slot S.words.deployment i)) i ∙ ap rest is

  -- the start isn't under way any more
  no-more : In a (starts_in (agent_to_site P i)) → ⊥
  no-more k = elim (subst (Starting a) is starting.1) [ inl e ↦ e.1 (subst (λ z. In a (starts_in z)) left-of k) | inr e ↦ e.1 (inl refl) ]

  ran-here : ran i ≡ a ∷ S.logs.ran i
  ran-here = set-here S.logs.ran i (a ∷ S.logs.ran i)

  fresh : N.sites i ≡ new_joiner (S.sites i) a
  fresh = set-here S.sites i (new_joiner (S.sites i) a)

  start-later : LogsLater P N
  start-later = record {
    words = words-later P P.words.channel;
    ran = λ c b k. set-both (λ c x. In b (S.logs.ran c) → In b x) S.logs.ran i (a ∷ S.logs.ran i) (λ k. inr k) (λ c d k. k) c k;
    greatest = set-both (λ c x. (S.sites c).greatest ≤ x.greatest) S.sites i (new_joiner (S.sites i) a) (omega arith) (λ c d. omega arith);
    sites = one-and-others (SiteLater P N) i
        (inr (inr (record { fresh = λ k. starting.0 (subst (λ z. In z (S.logs.ran i)) (ap (λ x. x.start) fresh) k); earlier = ap (λ x. x.earlier) fresh })))
        (λ c d. inl (stays-same P N c (set-there S.sites i (new_joiner (S.sites i) a) c d)));
    entered = λ c t e k. k;
    entered_now = λ c t e k. inl k;
    streamed = λ c t x k. k;
    streamed_now = λ c t x k. inl k;
    reach = λ p t. omega arith;
  }

  -- it was in no term
  unentered : (t : ℕ) (e : Entered) → S.logs.entered i t ≡ Some e → e.start ≡ a → ⊥
  unentered t e k start = starting.0 (subst (λ z. In z (S.logs.ran i)) start (H.entered i t e k).been.ran)

  unstreamed : (t : ℕ) (x : Streaming) → S.logs.streamed i t ≡ Some x → x.start ≡ a → ⊥
  unstreamed t x k start = starting.0 (subst (λ z. In z (S.logs.ran i)) start (H.streamed i t x k).been.ran)

  runs : 0 < site_start N i
  runs = rw (ap (λ x. x.start) fresh) (omega (arith, above))

  start-joiner : JoinerOk N i new_joining
  start-joiner = record {
    runs = runs;
    unentered = λ t e k start. unentered t e k (start ∙ ap (λ x. x.start) fresh);
    told = λ e. absurd (cc);
    based = λ e. absurd (cc);
    firm = ap (λ x. x.firm) fresh;
    view = rw (ap (λ x. x.view) fresh) (record {
      stream = refl;
      loads = refl;
      counts = refl;
      tasks = refl;
      empty = ap (λ x. x.log) fresh;
      floor = ap (λ x. x.floor) fresh;
      never = λ t x k start. unstreamed t x k (start ∙ ap (λ x. x.start) fresh);
    });
  }

  start-site : SiteOk N i
  start-site = record {
    environment = λ e. absurd (not-both (nat_lt i (slots S.words.deployment)) slot e);
    ran = λ _. (S.logs.ran i, ran-here ∙ ap (λ z. z ∷ S.logs.ran i) (ap (λ x. x.start) (sym fresh)));
    term = rw (ap site_term fresh) (omega arith);
    earlier = rw (ap (λ x. x.earlier) fresh, ap (λ x. x.greatest) fresh) (omega arith);
    member = λ _ e. let z = ap (λ x. x.joining) (sym fresh) ∙ e in absurd (cc);
    joiner = λ j e. subst (JoinerOk N i) (same-some (ap (λ x. x.joining) (sym fresh) ∙ e)) start-joiner;
    keeps = λ _. record {
      acks = rw (ap (λ x. x.acks) fresh) tt;
      reports = rw (ap (λ x. x.reports) fresh) tt;
      joiners = rw (ap (λ x. x.joiners) fresh) tt;
      alone = rw (ap (λ x. x.joiners) fresh) tt;
      leads = inl (ap (λ x. x.joiners) fresh);
      asks = rw (ap (λ x. x.asks) fresh) tt;
      waiting = rw (ap (λ x. x.waiting) fresh) tt;
      pending = rw none tt;
      on_disk = rw (ap (λ x. x.on_disk) fresh) (omega arith);
      held = rw (ap (λ x. x.held) fresh) tt;
    };
    stopped = λ e. absurd (omega (arith, runs, e));
    blank = λ e. absurd (omega (arith, runs, e));
  }

  start-views : ViewsOk N i
  start-views = let k = (taken).views i in record {
    plain = k.plain;
    began = λ s m. elim m as (λ _. In s (S.words.history.began (host_of_slot S.words.deployment i))) [
      | inl u ↦ k.began s (inl u)
      | inr (inl u) ↦ elim (subst (In s) ran-here u) [
        | inl e ↦ (H.views i).began s (inl (subst (λ z. In z (starts_in (agent_to_site S i))) e under-way))
        | inr v ↦ k.began s (inr (inl v))
      ]
      | inr (inr u) ↦ k.began s (inr (inr u))
    ];
    running = λ _. rw (ap (λ x. x.view) fresh) (first_run (site_start N i) (ap (λ x. x.start) fresh));
    starting = λ s m. let o = k.starting s m in (
      (λ r. elim (subst (In s) ran-here r) [ inl e ↦ no-more (subst (λ z. In z (starts_in (agent_to_site P i))) (sym e) m) | inr v ↦ o.0 v ]),
      o.1,
      first_views-later P N start-later.words.deployment start-later.words.decided start-later.words.took_word i s (views s (agent_to_site P i)) o.2,
    );
    wordless = λ up untaken undecided. let o = k.wordless up untaken undecided in (
      o.0,
      (λ r. elim (subst (In (S.words.agents (host_of_slot S.words.deployment i)).start) ran-here r) [
        | inl e ↦ ((H.views i).wordless up untaken undecided).0 (subst (λ z. In z (starts_in (agent_to_site S i))) e under-way)
        | inr v ↦ o.1 v
      ]),
      o.2,
    );
    below = λ up. ((k.below up).0, λ _. rw (ap site_term fresh) (omega arith));
  }
    where
      first_run : (s : ℕ) → s ≡ a → FirstViews N i s (views s (agent_to_site P i))
      first_run s e = rw e (first_views-later P N start-later.words.deployment start-later.words.decided start-later.words.took_word i a (views a (agent_to_site P i))
          (first_views-later S P refl (λ w d. d) (λ a w e. e) i a (views a (agent_to_site P i))
          (rw left-of (subst (λ z. FirstViews S i a z) (ap (views a) is ∙ ap (λ z. z ++ views a ls) (if-none (l.start == a))) starting.2))))

  pub started-holds : LogsHold N
  started-holds = renewed-holds P taken i (new_joiner (S.sites i) a) ran (record {
    later = start-later;
    ends = λ k _. let z = ap (λ x. x.start) (sym fresh) ∙ k.start in absurd (omega (arith, z, above));
    joins = λ e. absurd (cc);
    waiting = refl;
    asks = refl;
    joiners = refl;
    others = λ c d. set-there S.logs.ran i (a ∷ S.logs.ran i) c d;
  }) start-site start-views

  -- It sends Start to its scanner.
  pub starts-holds : LogsHold (after_site P i (new_joiner (S.sites i) a) (only (Scanner i) (open_letter (msg.Start a))) (record S.logs { ran = ran }))
  starts-holds = renewed-sends P i (new_joiner (S.sites i) a) ran (only (Scanner i) (open_letter (msg.Start a))) started-holds silent
    where
      silent : (b : Actor) → AllByRecursion (Silent b) (only (Scanner i) (open_letter (msg.Start a)) b)
      silent (Scanner x) = all-if (Silent (Scanner x)) (i == x) (open_letter (msg.Start a) ∷ []) [] (tt, tt) tt
      silent from = tt

-- ---- what a site does with Start and Stop, and when it stops of itself

-- AfterTurn a turn, with what it adds to the history. The site goes on with its start, or it has no word.
abbrev pub AfterTurn : LogState → ℕ → Turn SiteState → Type 0
AfterTurn S i t = (G : Logs) × LogsHold (after_site S i t.state t.sends G) × Grown S.words.deployment i t.state S.logs G × Enters i (length (log_at S i)) S.logs G
    × ((t.state.start ≡ site_start S i) ⊎ (t.state.view ≡ None))

-- Stop to others of its host
pub stops_others-silent : (D : Deployment) (h start : ℕ) (b : Actor) → AllByRecursion (Silent b) (stops_others D h start b)
stops_others-silent D h start (Agent g) = all-if (Silent (Agent g)) (g == h) (open_letter (msg.Stop start) ∷ []) [] (tt, tt) tt
stops_others-silent D h start (Site c) = all-if (Silent (Site c)) (is_slot_of D h c) (open_letter (msg.Stop start) ∷ []) [] (tt, tt) tt
stops_others-silent D h start (Scanner x) = all-if (Silent (Scanner x)) (is_slot_of D h x) (open_letter (msg.Stop start) ∷ []) [] (tt, tt) tt
stops_others-silent D h start from = tt

pub stops_so-silent : (D : Deployment) (i : ℕ) (s : SiteState) (start : ℕ) (contents : List Shown) (b : Actor) → AllByRecursion (Silent b) ((stops_so D i s start contents).sends b)
stops_so-silent D i s start contents b = all-if (Silent b) (same (Site i) b) [] (stops_others D (host_of_slot D i) start b) tt (stops_others-silent D (host_of_slot D i) start b)

-- The history stays.
same-after : (S : LogState) (i : ℕ) (t : Turn SiteState) → LogsHold (after_site S i t.state t.sends S.logs) → (t.state.start ≡ site_start S i) ⊎ (t.state.view ≡ None) → AfterTurn S i t
same-after S i t holds runs = (S.logs, holds, grown-same S.words.deployment i t.state S.logs, enters-same i (length (log_at S i)) S.logs S.logs refl, runs)

-- Its disk fails in a Sync, or it finds no memory.
pub stops_so-after : (S : LogState) → LogsHold S → (i : ℕ) → S.pending i ≡ [] → (D : Deployment) (start : ℕ) (contents : List Shown)
    → AfterTurn S i (stops_so D i (S.sites i) start contents)
stops_so-after S H i none D start contents = let t = stops_so D i (S.sites i) start contents in
    same-after S i t (stops-holds S H i none (S.sites i).stop contents (S.sites i).plans t.sends (stops_so-silent D i (S.sites i) start contents)) (inr refl)

-- or it does so as it takes a message
pub stops_so-message : (S : LogState) → LogsHold S → (from : Actor) (i : ℕ) (l : Letter) (ls : List Letter) → S.words.channel from (Site i) ≡ l ∷ ls → S.pending i ≡ []
    → (D : Deployment) (start : ℕ) (contents : List Shown) → AfterTurn (site_popped S from i) i (stops_so D i (S.sites i) start contents)
stops_so-message S H from i l ls is none D start contents = let t = stops_so D i (S.sites i) start contents in
    same-after (site_popped S from i) i t (stops-message S H from i l ls is none (S.sites i).stop contents (S.sites i).plans t.sends (stops_so-silent D i (S.sites i) start contents)) (inr refl)

-- Stop comes to it.
pub on_stop-after : (S : LogState) → LogsHold S → (from : Actor) (i : ℕ) (l : Letter) (ls : List Letter) (a : ℕ) → S.words.channel from (Site i) ≡ record l { body = msg.Stop a } ∷ ls
    → S.pending i ≡ [] → AfterTurn (site_popped S from i) i (becomes (on_stop (S.sites i) a))
on_stop-after S H from i l ls a is none = cond_both (nat_le (S.sites i).start a) _ _ (λ z. AfterTurn (site_popped S from i) i (becomes z))
    (λ _. same-after (site_popped S from i) i (becomes (stopped_site noted))
    (stops-message S H from i (record l { body = msg.Stop a }) ls is none (max (S.sites i).stop a) (S.sites i).contents (S.sites i).plans no_sends (λ b. tt)) (inr refl))
    (λ _. same-after (site_popped S from i) i (becomes noted)
    (inert-after (site_popped S from i) i noted no_sends (pops-kind S H from i (record l { body = msg.Stop a }) ls is tt) (record { same = refl; held = λ k. k }) (λ b. tt)) (inl refl))
  where
    noted : SiteState
    noted = record (S.sites i) { stop = max (S.sites i).stop a }

-- Start comes to it, from its own agent.
pub on_start-after : (S : LogState) → LogsHold S → (i : ℕ) (l : Letter) (ls : List Letter) (a : ℕ) → agent_to_site S i ≡ record l { body = msg.Start a } ∷ ls
    → IsSlot S i → S.pending i ≡ [] → AfterTurn (site_popped S (Agent (host_of_slot S.words.deployment i)) i) i (on_start i (S.sites i) a)
on_start-after S H i l ls a is slot none = cond_both (nat_lt (S.sites i).start a && nat_lt (S.sites i).stop a) _ _ (AfterTurn P i)
    (λ e. let above = (and_parts (nat_lt (S.sites i).start a) (nat_lt (S.sites i).stop a) e).0 in (
      record S.logs { ran = set_at S.logs.ran i (a ∷ S.logs.ran i) },
      starts-holds S H i l ls a is slot (grind (arith, nat_tests, above)) none,
      grown-reach S.words.deployment i (new_joiner (S.sites i) a) S.logs (record S.logs { ran = set_at S.logs.ran i (a ∷ S.logs.ran i) }) refl (λ p t. omega arith),
      enters-same i (length (log_at S i)) S.logs (record S.logs { ran = set_at S.logs.ran i (a ∷ S.logs.ran i) }) refl,
      inr refl,
    ))
    (λ e. let g = goes-same P i (pops-kind S H (Agent (host_of_slot S.words.deployment i)) i (record l { body = msg.Start a }) ls is tt) in (g.logs, g.holds, g.grown, g.enters, inl g.start))
  where
    P : LogState
    P = site_popped S (Agent (host_of_slot S.words.deployment i)) i
