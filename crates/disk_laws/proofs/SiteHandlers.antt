-- What a turn of a site leaves of its disk: it goes on over each small step.
use Rattle.volt_wire.specs.declared.end.End.{End}
use Rattle.cluster_model.specs.SiteState.{AskedCall, Held}
use Rattle.cluster_model.specs.Site.{holds_at, reply_to, sends_firm}
use Rattle.disk_laws.proofs.Names.{cond_both, ◌≡◌, ◌≤◌, Bool, true, false, List, [], ◌∷◌, ◌++◌, refl, sym, subst, ap, ◌∙◌, ◌⊎◌, inl, inr, ◌==◌, arith, cases_lt, eqb-true, map-append, ℕ, ◌+◌, map, max, filter, length, nat_lt, if◌then◌else◌, Option, Some, None, AllByRecursion, Entry, Sp, Frag, Done, StreamHead, Membership, Actor, Agent, Site, Msg, Database, Deployment, Blocks, Letter, Turn, becomes, ◌▸◌, letter_in, only, Arrival, arrival, Taken, Refused, Waits, SiteState, Joining, Reported, Joiner, Ask, leads, site_term, holds, holds_for, initiator_in, own_ack, copy_acks, least_of, at_least, firm_now, floor_now, in_new_term, stream_head, takes_first_ask, on_stream_start, settles, ordered, from_agent, from_site, site_handler, site_runs, after_sync, In, Prefix, all-append, all-filter, all-mono, in-left, in-right, in-map, none-and-some, same-some, prefix-refl, prefix-append, least_of-below, all-order, InertLetter, AlikeJoiners, holds_for-cases, mapped-joiners, with_rest, SmallSteps, SayingSteps, HandlerSteps, MayBeTold, with_acks, with_call, with_entry, after_sync-walk, handler-walk, works_calls-walk, Plain, PlainWaiting, MayTakeAsks, as_entered, as_joiner, takes_asks-cases, enters-walk, handler-known, joins-walk, site_runs-refused, site_runs-taken, site_runs-waits, settles-walk, stays_joiner, turn-walk, HeldOk, HeldFor, answers-all, held-away}
use Rattle.volt_wire.specs.declared.message.Msg.TheVariants as msg
use Rattle.disk_laws.proofs.Handlers.{DiskAt, DiskHandler, same-disk, BeginsStream, Counts, at-first, handler-becomes, handler-then}

-- ---- what a disk doesn't go by

-- the first site with what a disk doesn't go by of the second one
abbrev pub with_unseen : SiteState → SiteState → SiteState
with_unseen s u = record (with_rest s u) {
  stop = u.stop;
  log = u.log;
  reports = u.reports;
  acks = u.acks;
  calls = u.calls;
  held = u.held;
  joiners = u.joiners;
  waiting = u.waiting;
  plans = u.plans;
}

-- what says nothing begins no stream
inert-begins : (D : Deployment) (i c : ℕ) (s u : SiteState) (l : Letter) → InertLetter l → BeginsStream D i c s u l
inert-begins D i c s u l = elim l.body as (λ m. InertLetter (record l { body = m }) → BeginsStream D i c s u (record l { body = m })) [
  | msg.StreamStart head ↦ λ k. absurd k
  | m ↦ λ k. tt
]

-- ---- what is firm

-- what a site acknowledges to itself
own-parts : (s : SiteState) (v : ℕ) → own_ack s ≡ Some v → (s.mark ≡ site_term s) × (s.on_disk ≡ v)
own-parts s v e = cond_both (s.mark == site_term s) _ _ (λ z. z ≡ Some v → (s.mark ≡ site_term s) × (s.on_disk ≡ v))
    (λ q k. (eqb-true s.mark (site_term s) q, same-some k)) (λ q k. absurd (cc)) e

-- What is firm now was so before, or is under the site's own mark of the term and on its own disk.
firm-cases : (D : Deployment) (i : ℕ) (s : SiteState) → (firm_now D i s ≡ s.firm) ⊎ ((s.mark ≡ site_term s) × (firm_now D i s ≤ s.on_disk) × (s.firm ≤ firm_now D i s))
firm-cases D i s = choice (least_of xs) refl
  where
    xs : List (Option ℕ)
    xs = copy_acks D i s ++ map (λ j. Some (max j.stream_start j.position)) s.joiners

    choice : (o : Option ℕ) → least_of xs ≡ o → (at_least s.firm o ≡ s.firm) ⊎ ((s.mark ≡ site_term s) × (at_least s.firm o ≤ s.on_disk) × (s.firm ≤ at_least s.firm o))
    choice None e = inl refl
    choice (Some m) e =
        let q = least_of-below xs m e (own_ack s) (inl refl) in
        let r = own-parts s q.0 q.1 in
        elim (cases_lt s.firm m) [ inl l ↦ inr (r.0, omega (arith, l, q.2, r.1), omega (arith, l)) | inr l ↦ inl (omega (arith, l)) ]

-- ---- small steps

module _ (D : Deployment) (i : ℕ) where
  abbrev R : SiteState → Turn SiteState → Type 0
  R = DiskHandler D i

  at-rest : (s u : SiteState) → Prefix s.log u.log → (AllByRecursion HeldOk s.held → AllByRecursion HeldOk u.held) → ((c : ℕ) → Counts s c → Counts u c) → DiskAt D i s (with_unseen s u)
  at-rest s u log held counted = record {
    disk = same-disk s (with_unseen s u);
    log = log;
    member = λ e. e;
    joiner = λ j e. (j, e, refl, refl);
    repaired = λ e. e;
    owes = inl refl;
    firm = inl refl;
    held = held;
    counted = counted;
  }

  disk-rest : (s u : SiteState) → Prefix s.log u.log → (AllByRecursion HeldOk s.held → AllByRecursion HeldOk u.held) → ((c : ℕ) → Counts s c → Counts u c) → R s (becomes (with_unseen s u))
  disk-rest s u log held counted = handler-becomes D i s (with_unseen s u) (at-rest s u log held counted)

  -- with the same log and answers, and joiners of the same slots
  pub disk-same : (s u : SiteState) → u.log ≡ s.log → u.held ≡ s.held → map (λ j. j.slot) u.joiners ≡ map (λ j. j.slot) s.joiners → R s (becomes (with_unseen s u))
  disk-same s u log held slots =
      disk-rest s u (subst (Prefix s.log) (sym log) (prefix-refl s.log)) (subst (AllByRecursion HeldOk) (sym held)) (λ c. subst (In c) (sym slots))

  -- with more entries
  disk-log : (s : SiteState) (more : List Entry) → R s (becomes (record s { log = s.log ++ more }))
  disk-log s more = disk-rest s (record s { log = s.log ++ more }) (prefix-append s.log more) (λ k. k) (λ c k. k)

  -- with an answer more that is held for an agent, to an entry more
  disk-holds : (s : SiteState) (h : ℕ) (l : Letter) (e : Entry) → HeldFor (Agent h) l → R s (becomes (with_entry (holds s (Agent h) l) e))
  disk-holds s h l e k = disk-rest s (with_entry (holds s (Agent h) l) e) (prefix-append s.log (e ∷ []))
      (λ old. all-append HeldOk s.held (record { position = length s.log + 1; to = Agent h; letter = l } ∷ []) old (k, tt)) (λ c x. x)

  disk-answers : (s : SiteState) (m : Msg Blocks) (e : Entry) → ((first : ℕ × ℕ) → HeldFor (Agent first.0) (letter_in (site_term s) first.1 m))
      → R s (becomes (with_entry (holds_for s (initiator_in s.view) m) e))
  disk-answers s m e k = holds_for-cases (λ h. R s (becomes (with_entry h e))) s (initiator_in s.view) m (disk-log s (e ∷ []))
      (λ first. disk-holds s first.0 (letter_in (site_term s) first.1 m) e (k first))

  -- as one that has what its term begins with, and owes its mark
  disk-repaired : (s : SiteState) (more : List Entry) (reports : List Reported)
      → R s (becomes (record s { log = s.log ++ more; repaired = true; owes = Some (site_term s); reports = reports }))
  disk-repaired s more reports = handler-becomes D i s _ (record {
    disk = same-disk s (record s { log = s.log ++ more; repaired = true; owes = Some (site_term s); reports = reports });
    log = prefix-append s.log more;
    member = λ e. e;
    joiner = λ j e. (j, e, refl, refl);
    repaired = λ e. refl;
    owes = inr (refl, refl);
    firm = inl refl;
    held = λ h. h;
    counted = λ c h. h;
  })

  disk-moves : SmallSteps R
  disk-moves = record {
    first = λ s. handler-becomes D i s s (at-first D i s);
    next = handler-then D i;
    rest = λ s u. disk-same s (with_rest s u) refl refl refl;
    says = λ s out inert. record { at = at-first D i s; sends = λ x c. all-mono InertLetter (BeginsStream D i c s s) (inert-begins D i c s s) (out (Site c)) (inert (Site c)) };
    joiners = λ s f same. disk-same s (record s { joiners = map f s.joiners }) refl refl (mapped-joiners f same s.joiners).slots;
  }

  -- as a joiner with the same stream
  disk-joins : (s : SiteState) (j k : Joining) (log : List Entry) → s.joining ≡ Some j → k.stream ≡ j.stream → k.is_based ≡ j.is_based → Prefix s.log log
      → R s (becomes (record s { joining = Some k; log = log }))
  disk-joins s j k log is stream based more = handler-becomes D i s _ (record {
    disk = same-disk s (record s { joining = Some k; log = log });
    log = more;
    member = λ e. absurd (none-and-some e is);
    joiner = λ x e. let q : j ≡ x = same-some (sym is ∙ e) in (k, refl, stream ∙ ap (λ y. y.stream) q, based ∙ ap (λ y. y.is_based) q);
    repaired = λ e. e;
    owes = inl refl;
    firm = inl refl;
    held = λ h. h;
    counted = λ c h. h;
  })

  disk-counted : (s : SiteState) → leads D i s ≡ true → (acks : List (ℕ × ℕ)) (joiners : List Joiner) → AlikeJoiners joiners s.joiners
      → let m = with_acks s acks joiners in DiskAt D i s (record m { firm = firm_now D i m; floor = floor_now D i m; held = filter (λ d. nat_lt (firm_now D i m) d.position) s.held })
  disk-counted s authoritative acks joiners same = let m = with_acks s acks joiners in record {
    disk = same-disk s (record m { firm = firm_now D i m; floor = floor_now D i m; held = filter (λ d. nat_lt (firm_now D i m) d.position) s.held });
    log = prefix-refl s.log;
    member = λ e. e;
    joiner = λ j e. (j, e, refl, refl);
    repaired = λ e. e;
    owes = inl refl;
    firm = elim (firm-cases D i m) [ inl e ↦ inl e | inr r ↦ inr (record { leads = authoritative; mark = r.0; disk = r.1; above = r.2 }) ];
    held = all-filter HeldOk (λ d. nat_lt (firm_now D i m) d.position) s.held;
    counted = λ c. subst (In c) (sym same.slots);
  }

  disk-settles : SayingSteps D i R
  disk-settles = record {
    moves = disk-moves;
    joins = disk-joins;
    counted = λ s authoritative acks joiners same. let m = with_acks s acks joiners in record {
      at = disk-counted s authoritative acks joiners same;
      sends = λ x c. answers-all (BeginsStream D i c s _) (Site c) (λ d ok k. absurd (held-away c d ok k)) (firm_now D i m) s.held x;
    };
  }

  -- a call that was run already is answered again, at whatever position the answer is held
  disk-again : (s : SiteState) (c : AskedCall) (e : End) (position : ℕ) → R s (sends_firm (holds_at position s (Agent c.host) (reply_to c e)))
  disk-again s c e position = record {
    at = at-rest s (sends_firm (holds_at position s (Agent c.host) (reply_to c e))).state (prefix-refl s.log) (λ old. all-filter HeldOk (λ d. nat_lt s.firm d.position) held (ok old)) (λ x k. k);
    sends = λ old x. answers-all (BeginsStream D i x s _) (Site x) (λ d fits k. absurd (held-away x d fits k)) s.firm held (ok old);
  }
    where
      new : Held
      new = record { position = position; to = Agent c.host; letter = reply_to c e }

      held : List Held
      held = s.held ++ new ∷ []

      ok : AllByRecursion HeldOk s.held → AllByRecursion HeldOk held
      ok old = all-append HeldOk s.held (new ∷ []) old (tt, tt)

  disk-steps : (E : Database) (stamp : ℕ) → HandlerSteps E D stamp i (λ _ from l. Plain from l) R
  disk-steps E stamp = record {
    settles = disk-settles;
    queued = λ s h l call start client body k. disk-same s (with_call s (record { call = call; client = client; host = h; start = start; body = body })) refl refl refl;
    works = works_calls-walk E D stamp i R (record {
      moves = disk-settles.moves;
      cleared = λ s. disk-same s (record s { calls = [] }) refl refl refl;
      called = λ s authoritative clear c is. disk-holds s c.host _ (Sp c.call c.client stamp c.body) tt;
      answered = λ s authoritative clear c e is. disk-again s c e _;
    });
    round = λ s h l m round body k authoritative. disk-answers s _ (Frag m round body) (λ first. tt);
    ended = λ s h l m o k authoritative. disk-answers s _ (Done m o) (λ first. tt);
    word = λ s h l w k. k;
    begun = λ s authoritative un all. disk-repaired s _ [];
    reported = λ s slot l position floor tail k.
        disk-same s (record s { reports = s.reports ++ record { slot = slot; position = position; floor = floor; tail = tail } ∷ [] }) refl refl refl;
    noted = λ s idle acks joiners same. disk-same s (with_acks s acks joiners) refl refl same.slots;
    put = λ s slot l position e floor k. disk-log s (e ∷ []);
    repair = λ s slot l from entries k. disk-repaired s _ s.reports;
    stream = λ s slot l head j k is may. absurd k;
  }

-- ---- a joiner that is taken: its stream begins, under a mark that is on the leader's disk

module _ (E : Database) (D : Deployment) (i : ℕ) where
  disk-asks : MayTakeAsks E D i (DiskHandler D i)
  disk-asks s = takes_asks-cases E D i s (DiskHandler D i s) (handler-becomes D i s s (at-first D i s)) taken
    where
      taken : (a : Ask) → leads D i s ≡ true → s.mark ≡ site_term s → DiskHandler D i s (takes_first_ask E D i s (Some a))
      taken a authoritative mark = record {
        at = at-rest D i s u (prefix-refl s.log) (λ k. k) kept;
        sends = λ x c. all-append (BeginsStream D i c s u) (only (Site a.slot) l (Site c)) _ (to c (a.slot == c) refl) tt;
      }
        where
          u : SiteState
          u = (takes_first_ask E D i s (Some a)).state

          new : Joiner
          new = record { slot = a.slot; start = a.start; stream_start = length s.log; position = length s.log; count = None }

          l : Letter
          l = record (letter_in (site_term s) a.start (msg.StreamStart (stream_head E D i s))) { past = s.log }

          kept : (c : ℕ) → Counts s c → Counts u c
          kept c k = rw (map-append (λ j. j.slot) s.joiners (new ∷ [])) (in-left c (map (λ j. j.slot) s.joiners) (a.slot ∷ []) k)

          counted : Counts u a.slot
          counted = in-map (λ j. j.slot) new (s.joiners ++ new ∷ []) (in-right new s.joiners (new ∷ []) (inl refl))

          to : (c : ℕ) (x : Bool) → (a.slot == c) ≡ x → AllByRecursion (BeginsStream D i c s u) (if x then l ∷ [] else [])
          to c true q = (record { mark_is = refl; term_is = refl; own = mark; leads = authoritative; counted = subst (Counts u) (eqb-true a.slot c q) counted }, tt)
          to c false q = tt

  disk-tells : MayBeTold E D i (DiskHandler D i)
  disk-tells s may first = record { at = at-rest D i s (record s { has_told = true }) (prefix-refl s.log) (λ k. k) (λ c k. k); sends = λ x c. tt }

  ordered-handler : (s : SiteState) (t : Turn SiteState) → DiskHandler D i s t → DiskHandler D i s (ordered t)
  ordered-handler s t h = record { at = h.at; sends = λ x c. all-order (BeginsStream D i c s t.state) (t.sends (Site c)) (h.sends x c) }

  -- ---- a Sync, behind what is written

  pub syncs-handler : (b : SiteState) → DiskHandler D i b (ordered (after_sync D i b b.joining ▸ settles E D i))
  syncs-handler b = let t = after_sync D i b b.joining in
      ordered-handler b (t ▸ settles E D i) (handler-then D i b t (settles E D i) (after_sync-walk D i (DiskHandler D i) (disk-settles D i) b)
      (settles-walk E D i (DiskHandler D i) (disk-moves D i) disk-tells disk-asks t.state))

  -- ---- a turn that takes a message

  module _ (stamp : ℕ) (s : SiteState) (from : Actor) (l : Letter) (plain : AllByRecursion PlainWaiting s.waiting) where
    -- whose handler is from b on
    taken-handler : arrival s.start (site_term s) l ≡ Taken → (b : SiteState) → DiskHandler D i b (site_handler E D stamp i s from l) → DiskHandler D i b (site_runs E D stamp i s from l)
    taken-handler takes b handler = subst (DiskHandler D i b) (sym (site_runs-taken E D stamp i s from l takes)) (ordered-handler b _
        (turn-walk E D stamp i (λ _ from l. Plain from l) (DiskHandler D i) (disk-steps D i E stamp) (λ s ws less. disk-same D i s (record s { waiting = ws }) refl refl refl) disk-tells disk-asks b (site_handler E D stamp i s from l) handler
        (handler-known E D stamp i s from l plain)))

    pub refused-handler : arrival s.start (site_term s) l ≡ Refused → DiskHandler D i s (site_runs E D stamp i s from l)
    refused-handler e = subst (DiskHandler D i s) (sym (site_runs-refused E D stamp i s from l e)) (handler-becomes D i s s (at-first D i s))

    -- of a plain message, whether it is taken or not
    pub plain-handler : Plain from l → DiskHandler D i s (site_runs E D stamp i s from l)
    plain-handler k = go (arrival s.start (site_term s) l) refl
      where
        go : (a : Arrival) → arrival s.start (site_term s) l ≡ a → DiskHandler D i s (site_runs E D stamp i s from l)
        go Taken e = taken-handler e s (handler-walk E D stamp i (λ _ from l. Plain from l) (DiskHandler D i) (disk-steps D i E stamp) s from l k)
        go Refused e = refused-handler e
        go Waits e = subst (DiskHandler D i s) (sym (site_runs-waits E D stamp i s from l e)) (disk-same D i s (record s { waiting = s.waiting ++ record { from = from; letter = l } ∷ [] }) refl refl refl)

  -- that of StreamStart, and of a View
  module _ (stamp : ℕ) (s : SiteState) (l : Letter) (plain : AllByRecursion PlainWaiting s.waiting) (takes : arrival s.start (site_term s) l ≡ Taken) where
    pub stream-handler : (slot : ℕ) (head : StreamHead) → l.body ≡ msg.StreamStart head → DiskHandler D i (on_stream_start s s.joining l head) (site_runs E D stamp i s (Site slot) l)
    stream-handler slot head is = taken-handler stamp s (Site slot) l plain takes (on_stream_start s s.joining l head)
        (subst (λ m. DiskHandler D i (on_stream_start s s.joining (record l { body = m }) head) (from_site E D stamp i s slot (record l { body = m }))) (sym is)
        (let b = on_stream_start s s.joining (record l { body = msg.StreamStart head }) head in handler-becomes D i b b (at-first D i b)))

    pub joins-handler : (h : ℕ) (w : Membership) → l.body ≡ msg.View w → stays_joiner D i s w ≡ true → DiskHandler D i (as_joiner s w) (site_runs E D stamp i s (Agent h) l)
    joins-handler h w is e = taken-handler stamp s (Agent h) l plain takes (as_joiner s w)
        (subst (λ m. DiskHandler D i (as_joiner s w) (from_agent E D stamp i s h (record l { body = m }))) (sym is)
        (joins-walk E D stamp i (λ _ from l. Plain from l) (DiskHandler D i) (disk-steps D i E stamp) s w e))

    pub enters-handler : (h : ℕ) (w : Membership) → l.body ≡ msg.View w → stays_joiner D i s w ≡ false → DiskHandler D i (as_entered s w) (site_runs E D stamp i s (Agent h) l)
    enters-handler h w is e = taken-handler stamp s (Agent h) l plain takes (as_entered s w)
        (subst (λ m. DiskHandler D i (as_entered s w) (from_agent E D stamp i s h (record l { body = m }))) (sym is)
        (enters-walk E D stamp i (λ _ from l. Plain from l) (DiskHandler D i) (disk-steps D i E stamp) s w e))

-- answers that it held go to agents still
pub entered-held : (s : SiteState) (w : Membership) → AllByRecursion HeldOk s.held → AllByRecursion HeldOk (in_new_term s w).held
entered-held s w h = all-filter HeldOk _ s.held h
