-- What a turn of a site makes of its log where the site leads after it.
use Rattle.transaction_laws.proofs.Names.{Actor, AllByRecursion, AskedCall, CallOf, CallsOk, MayRun, Submissions, part_of_slot, Bool, Comes, Database, Deployment, DiskFails, DisksShow, Entry, Environment, Letter, List, NoFault, NoMemory, None, Over, ReportOf, Reported, SiteState, Some, StateSaying, StateSteps, Taken, [], after_sync, after_sync-walk, all-append, ap, append-nil, append_assoc, arith, arrival, false, false_from_ne_true, in_new_term, inl, inr, is_leader, lacks, leader-view, leads, leads-from, leads-parts, length, list_all, list_any, longest, none-and-some, not-both, nothing_open, other_copies, over-moves, over-settles, over-tells, refl, settled-walk, settled_turn, site_term, site_turn, subst, sym, sync_turn, syncs, takes_asks, term_in, term_of, true, with_others, written_site, wrote, ℕ, ◌++◌, ◌<◌, ◌==◌, ◌∙◌, ◌∷◌, ◌≡◌, ◌⊎◌}
use Rattle.transaction_laws.proofs.Kept.{CallsAt, IsCallAt}
use Rattle.transaction_laws.proofs.Entries.{ok-run}
use Rattle.transaction_laws.proofs.Sites.SiteWalk.{WaitsCall, WaitsQuietly, WaitsReport, taken_at, taken_by, AnyReport, any-report, any-reports, AnyCall, any-calls, asks-taken, asks-view, Walked, StopsOrBegins, NothingSeen, GoesOnSame, GoesOnNew, walked, comes-view, wrote-leader}

-- ---- what is shown

-- A site that leads takes this, and calls run behind it, where no transaction is open.
pub record SteadyLog (A : Submissions) (p stamp : ℕ) (s u : SiteState) (taken : List Entry) : Type 0 where
  pub more : List Entry
  pub log_is : u.log ≡ (s.log ++ taken) ++ more
  pub at : CallsAt stamp more
  pub room : (more ≡ []) ⊎ (nothing_open (s.log ++ taken) ≡ true)
  pub once : CallsOk A p (s.log ++ taken) → CallsOk A p u.log

-- with what it lacks of the longest log that was reported
abbrev pub repaired_log : SiteState → List Reported → List Entry
repaired_log s reports = s.log ++ lacks (length s.log) (longest (length s.log) None reports)

-- A leader begins its term with the reports of all other copies, and calls run behind it.
pub record Started (D : Deployment) (A : Submissions) (stamp i : ℕ) (s u : SiteState) (P : Reported → Type 0) : Type 0 where
  pub reports : List Reported
  pub ok : AllByRecursion P reports
  pub each : list_all (λ c. list_any (λ r. r.slot == c) reports) (other_copies D i u) ≡ true
  pub more : List Entry
  pub log_is : u.log ≡ repaired_log s reports ++ more
  pub at : CallsAt stamp more
  pub room : (more ≡ []) ⊎ (nothing_open (repaired_log s reports) ≡ true)
  pub once : CallsOk A (part_of_slot D i) (repaired_log s reports) → CallsOk A (part_of_slot D i) u.log

-- ---- calls behind a log

record CallsRun (A : Submissions) (p stamp : ℕ) (log after : List Entry) : Type 0 where
  more : List Entry
  is : after ≡ log ++ more
  at : CallsAt stamp more
  room : (more ≡ []) ⊎ (nothing_open log ≡ true)
  once : CallsOk A p log → CallsOk A p after

none-runs : (A : Submissions) (p stamp : ℕ) (log : List Entry) → CallsRun A p stamp log log
none-runs A p stamp log = record { more = []; is = sym (append-nil log); at = tt; room = inl refl; once = λ h. h }

runs-then : (A : Submissions) (p stamp : ℕ) (log middle after : List Entry) → CallsRun A p stamp log middle → CallsRun A p stamp middle after → CallsRun A p stamp log after
runs-then A p stamp log middle after h k = record {
  more = h.more ++ k.more;
  is = k.is ∙ ap (λ x. x ++ k.more) h.is ∙ append_assoc log h.more k.more;
  at = all-append (IsCallAt stamp) h.more k.more h.at k.at;
  room = room h.room k.room;
  once = λ o. k.once (h.once o);
}
  where
    room : (h.more ≡ []) ⊎ (nothing_open log ≡ true) → (k.more ≡ []) ⊎ (nothing_open middle ≡ true) → (h.more ++ k.more ≡ []) ⊎ (nothing_open log ≡ true)
    room (inr clear) y = inr clear
    room (inl none) (inl later) = inl (ap (λ x. x ++ k.more) none ∙ later)
    room (inl none) (inr clear) = inr (subst (λ x. nothing_open x ≡ true) (h.is ∙ ap (λ x. log ++ x) none ∙ append-nil log) clear)

started-then : (D : Deployment) (A : Submissions) (stamp i : ℕ) (s m u : SiteState) (P : Reported → Type 0) → Started D A stamp i s m P → u.view ≡ m.view → CallsRun A (part_of_slot D i) stamp m.log u.log
    → Started D A stamp i s u P
started-then D A stamp i s m u P k view runs =
    let r = runs-then A (part_of_slot D i) stamp (repaired_log s k.reports) m.log u.log (record { more = k.more; is = k.log_is; at = k.at; room = k.room; once = k.once }) runs in
    record { reports = k.reports; ok = k.ok; each = rw view k.each; more = r.more; log_is = r.is; at = r.at; room = r.room; once = r.once }

started-from : (D : Deployment) (A : Submissions) (stamp i : ℕ) (s m u : SiteState) (P : Reported → Type 0) → m.log ≡ s.log → Started D A stamp i m u P → Started D A stamp i s u P
started-from D A stamp i s m u P same k = record {
  reports = k.reports;
  ok = k.ok;
  each = k.each;
  more = k.more;
  log_is = subst (λ x. u.log ≡ (x ++ lacks (length x) (longest (length x) None k.reports)) ++ k.more) same k.log_is;
  at = k.at;
  room = subst (λ x. (k.more ≡ []) ⊎ (nothing_open (x ++ lacks (length x) (longest (length x) None k.reports)) ≡ true)) same k.room;
  once = subst (λ x. CallsOk A (part_of_slot D i) (x ++ lacks (length x) (longest (length x) None k.reports)) → CallsOk A (part_of_slot D i) u.log) same k.once;
}

-- ---- what goes on over each step of a turn

-- Once it leads, only calls run.
record LogGoes (D : Deployment) (A : Submissions) (stamp i : ℕ) (P : Reported → Type 0) (s u : SiteState) : Type 0 where
  same : is_leader D i u ≡ is_leader D i s
  view : u.view ≡ s.view
  steady : is_leader D i s ≡ true → s.repaired ≡ true → (u.repaired ≡ true) × CallsRun A (part_of_slot D i) stamp s.log u.log
  begins : is_leader D i s ≡ true → s.repaired ≡ false → AllByRecursion P s.reports
      → ((u.repaired ≡ false) × (u.log ≡ s.log) × AllByRecursion P u.reports) ⊎ ((u.repaired ≡ true) × Started D A stamp i s u P)

module _ (D : Deployment) (A : Submissions) (stamp i : ℕ) (P : Reported → Type 0) where
  -- with the same log and reports
  logs-same : (s u : SiteState) → is_leader D i u ≡ is_leader D i s → u.view ≡ s.view → u.repaired ≡ s.repaired → u.log ≡ s.log → u.reports ≡ s.reports
      → LogGoes D A stamp i P s u
  logs-same s u same view repaired log reports = record {
    same = same;
    view = view;
    steady = λ authoritative ready. (repaired ∙ ready, subst (CallsRun A (part_of_slot D i) stamp s.log) (sym log) (none-runs A (part_of_slot D i) stamp s.log));
    begins = λ authoritative un ok. inl (repaired ∙ un, log, subst (AllByRecursion P) (sym reports) ok);
  }

  logs-then : (s m u : SiteState) → LogGoes D A stamp i P s m → LogGoes D A stamp i P m u → LogGoes D A stamp i P s u
  logs-then s m u h k = record {
    same = k.same ∙ h.same;
    view = k.view ∙ h.view;
    steady = λ authoritative ready. let a = h.steady authoritative ready in let b = k.steady (h.same ∙ authoritative) a.0 in (b.0, runs-then A (part_of_slot D i) stamp s.log m.log u.log a.1 b.1);
    begins = λ authoritative un ok. elim (h.begins authoritative un ok) [
      | inr a ↦ let b = k.steady (h.same ∙ authoritative) a.0 in inr (b.0, started-then D A stamp i s m u P a.1 k.view b.1)
      | inl a ↦ elim (k.begins (h.same ∙ authoritative) a.0 a.2) [
        | inl b ↦ inl (b.0, b.1 ∙ a.1, b.2)
        | inr b ↦ inr (b.0, started-from D A stamp i s m u P a.1 b.1)
      ]
    ];
  }

  logs-settles : StateSaying D i (LogGoes D A stamp i P)
  logs-settles = record {
    first = λ s. logs-same s s refl refl refl refl refl;
    next = logs-then;
    rest = λ s u. logs-same s (with_others s u) refl refl refl refl refl;
    apart = λ s u a. record {
      same = a.after ∙ sym a.before;
      view = a.view;
      steady = λ authoritative ready. absurd (not-both (is_leader D i s) authoritative a.before);
      begins = λ authoritative un ok. absurd (not-both (is_leader D i s) authoritative a.before);
    };
    counted = λ s authoritative acks joiners e. logs-same s _ refl refl refl refl refl;
    joiners = λ s f n p. logs-same s _ refl refl refl refl refl;
  }

  logs-steps : (E : Database) → StateSteps E D stamp i P (MayRun A (part_of_slot D i) stamp) (LogGoes D A stamp i P)
  logs-steps E = record {
    settles = logs-settles;
    called = λ s authoritative clear c new may. record {
      same = refl;
      view = refl;
      steady = λ _ ready. (ready, record { more = _; is = refl; at = (refl, tt); room = inr clear; once = ok-run E A (part_of_slot D i) stamp c s.log may new });
      begins = λ _ un ok. absurd (not-both s.repaired (leads-parts D i s authoritative).1 un);
    };
    begun = λ s authoritative un all. record {
      same = refl;
      view = refl;
      steady = λ _ ready. absurd (not-both s.repaired ready un);
      begins = λ _ still ok. inr (
        refl,
        record { reports = s.reports; ok = ok; each = all; more = []; log_is = sym (append-nil (repaired_log s s.reports)); at = tt; room = inl refl; once = λ h. h },
      );
    };
    reported = λ s r p. record {
      same = refl;
      view = refl;
      steady = λ _ ready. (ready, none-runs A (part_of_slot D i) stamp s.log);
      begins = λ _ un ok. inl (un, refl, all-append P s.reports (r ∷ []) ok (p, tt));
    };
    noted = λ s authoritative acks joiners e. logs-same s _ refl refl refl refl refl;
  }

  -- a joiner that is taken changes no log
  asks-logs : (E : Database) (v : SiteState) → LogGoes D A stamp i P v (takes_asks E D i v).state
  asks-logs E v = elim (asks-taken E D i v) [
    | inl e ↦ subst (LogGoes D A stamp i P v) (sym e) (logs-same v v refl refl refl refl refl)
    | inr k ↦ subst (LogGoes D A stamp i P v) (sym k.is) (logs-same v _ refl refl refl refl refl)
  ]

-- ---- a site that leads, and goes on to do so

-- one without a word doesn't lead: neither one that is stopped, nor one that has just begun
pub stopped-not-leads : (D : Deployment) (i : ℕ) (s : SiteState) → s.view ≡ None → leads D i s ≡ true → ⊥
stopped-not-leads D i s e authoritative = none-and-some e (leader-view D i s (leads-parts D i s authoritative).0).1.1

-- where no call runs
steady-none : (A : Submissions) (p stamp : ℕ) (s u : SiteState) (taken : List Entry) → taken ≡ [] → u.log ≡ s.log → SteadyLog A p stamp s u taken
steady-none A p stamp s u taken none log = record {
  more = [];
  log_is = log ∙ sym (ap (λ x. (s.log ++ x) ++ []) none ∙ append-nil (s.log ++ []) ∙ append-nil s.log);
  at = tt;
  room = inl refl;
  once = subst (CallsOk A p) (ap (λ x. s.log ++ x) none ∙ append-nil s.log ∙ sym log);
}

steady-runs : (A : Submissions) (p stamp : ℕ) (s u : SiteState) (taken log : List Entry) → log ≡ s.log ++ taken → CallsRun A p stamp log u.log → SteadyLog A p stamp s u taken
steady-runs A p stamp s u taken log is k = record {
  more = k.more;
  log_is = k.is ∙ ap (λ x. x ++ k.more) is;
  at = k.at;
  room = subst (λ x. (k.more ≡ []) ⊎ (nothing_open x ≡ true)) is k.room;
  once = λ h. k.once (subst (CallsOk A p) (sym is) h);
}

module _ (E : Database) (D : Deployment) (A : Submissions) (stamp i : ℕ) (s : SiteState) (from : Actor) (l : Letter) (o : Environment) where
  -- what holds of a call that may run
  abbrev May : AskedCall → Type 0
  May = MayRun A (part_of_slot D i) stamp

  abbrev u : SiteState
  u = (site_turn E D stamp i s from l o).state

  pub site-steady : 0 < s.start → (arrival s.start (site_term s) l ≡ Taken → Comes D i s from l) → AllByRecursion WaitsQuietly s.waiting
      → AllByRecursion May s.calls → (arrival s.start (site_term s) l ≡ Taken → CallOf May from l) → AllByRecursion (WaitsCall May) s.waiting
      → leads D i s ≡ true → leads D i u ≡ true → u.view ≡ s.view → SteadyLog A (part_of_slot D i) stamp s u (taken_by s from l)
  site-steady up comes waiting calls call asked authoritative led same =
      go (walked E D stamp i AnyReport May (LogGoes D A stamp i AnyReport) (logs-steps D A stamp i AnyReport E) (λ s ws. logs-same D A stamp i AnyReport s _ refl refl refl refl refl) s waiting calls asked from l o
      comes (λ _. any-report from l) call (any-reports (site_term u) s.waiting))
    where
      parts : (is_leader D i s ≡ true) × (s.repaired ≡ true)
      parts = leads-parts D i s authoritative

      go : Walked E D i (LogGoes D A stamp i AnyReport) s from l u → SteadyLog A (part_of_slot D i) stamp s u (taken_by s from l)
      go (StopsOrBegins view joiners) = absurd (stopped-not-leads D i u view led)
      go (NothingSeen none is) = steady-none A (part_of_slot D i) stamp s u (taken_by s from l) (none up) (ap (λ x. x.log) is)
      go (GoesOnSame a log leading other v view k is) =
          let b = record s { log = log } in
          let r = (logs-then D A stamp i AnyReport b v (takes_asks E D i v).state k (asks-logs D A stamp i AnyReport E v)).steady parts.0 parts.1 in
          steady-runs A (part_of_slot D i) stamp s u (taken_by s from l) log (leading authoritative ∙ ap (λ x. s.log ++ taken_at x from l) (sym a)) (subst (λ x. CallsRun A (part_of_slot D i) stamp log x.log) (sym is) r.1)
      go (GoesOnNew a h w sender body joining enters v view k is) =
          let later : site_term s < term_of w = comes-view D i s from l h w sender body (comes a) in
          let here : s.view ≡ Some w = sym same ∙ ap (λ x. x.view) is ∙ asks-view E D i v ∙ view in
          let term : site_term s ≡ term_of w = ap term_in here in
          absurd (omega (arith, later, term))

  -- ---- one that comes to lead

  module _ (P : Reported → Type 0) where
    begins-term : (b : SiteState) → b.log ≡ s.log → b.repaired ≡ false → AllByRecursion P b.reports → LogGoes D A stamp i P b u → leads D i u ≡ true → Started D A stamp i s u P
    begins-term b log un ok k led =
        let p = leads-parts D i u led in
        elim (k.begins (sym k.same ∙ p.0) un ok) [ inl a ↦ absurd (not-both u.repaired p.1 a.0) | inr a ↦ started-from D A stamp i s b u P log a.1 ]

    pub site-starts : 0 < s.start → (arrival s.start (site_term s) l ≡ Taken → Comes D i s from l) → AllByRecursion WaitsQuietly s.waiting
        → AllByRecursion May s.calls → (arrival s.start (site_term s) l ≡ Taken → CallOf May from l) → AllByRecursion (WaitsCall May) s.waiting
        → leads D i u ≡ true → (leads D i s ≡ true → u.view ≡ s.view → ⊥) → (u.view ≡ s.view → AllByRecursion P s.reports)
        → (arrival s.start (site_term s) l ≡ Taken → ReportOf P from l) → AllByRecursion (WaitsReport P (site_term u)) s.waiting → Started D A stamp i s u P
    site-starts up comes waiting calls call asked led anew held report reports =
        go (walked E D stamp i P May (LogGoes D A stamp i P) (logs-steps D A stamp i P E) (λ s ws. logs-same D A stamp i P s _ refl refl refl refl refl) s waiting calls asked from l o comes report call reports)
      where
        -- to the end of the turn
        on : (b v : SiteState) → LogGoes D A stamp i P b v → u ≡ (takes_asks E D i v).state → LogGoes D A stamp i P b u
        on b v k is = subst (LogGoes D A stamp i P b) (sym is) (logs-then D A stamp i P b v (takes_asks E D i v).state k (asks-logs D A stamp i P E v))

        -- in its word it was a leader that hadn't begun
        unrepaired : is_leader D i s ≡ true → leads D i s ≡ false → s.repaired ≡ false
        unrepaired authoritative idle = false_from_ne_true s.repaired (λ r. not-both (leads D i s) (leads-from D i s authoritative r) idle)

        stays : (c : Bool) → leads D i s ≡ c → (log : List Entry) → (leads D i s ≡ false → log ≡ s.log) → LogGoes D A stamp i P (record s { log = log }) u → Started D A stamp i s u P
        stays true e log other k = absurd (anew e k.view)
        stays false e log other k = begins-term (record s { log = log }) (other e) (unrepaired (sym k.same ∙ (leads-parts D i u led).0) e) (held k.view) k led

        go : Walked E D i (LogGoes D A stamp i P) s from l u → Started D A stamp i s u P
        go (StopsOrBegins view joiners) = absurd (stopped-not-leads D i u view led)
        go (NothingSeen none is) = absurd (anew (sym (ap (leads D i) is) ∙ led) (ap (λ x. x.view) is))
        go (GoesOnSame a log leading other v view k is) = stays (leads D i s) refl log other (on (record s { log = log }) v k is)
        go (GoesOnNew a h w sender body joining enters v view k is) =
            let b = record (in_new_term s w) { joining = joining } in
            begins-term b refl refl tt (on b v k is) led

-- ---- a Sync

-- What a Sync leaves as it is.
record Still (D : Deployment) (i : ℕ) (s u : SiteState) : Type 0 where
  same : is_leader D i u ≡ is_leader D i s
  view : u.view ≡ s.view
  leads : is_leader D i s ≡ true → (u.repaired ≡ s.repaired) × (u.log ≡ s.log)

still-settles : (D : Deployment) (i : ℕ) → StateSaying D i (Still D i)
still-settles D i = record {
  first = λ s. record { same = refl; view = refl; leads = λ _. (refl, refl) };
  next = λ s m u h k. record {
    same = k.same ∙ h.same;
    view = k.view ∙ h.view;
    leads = λ authoritative. let a = h.leads authoritative in let b = k.leads (h.same ∙ authoritative) in (b.0 ∙ a.0, b.1 ∙ a.1);
  };
  rest = λ s u. record { same = refl; view = refl; leads = λ _. (refl, refl) };
  apart = λ s u a. record { same = a.after ∙ sym a.before; view = a.view; leads = λ authoritative. absurd (not-both (is_leader D i s) authoritative a.before) };
  counted = λ s authoritative acks joiners e. record { same = refl; view = refl; leads = λ _. (refl, refl) };
  joiners = λ s f n p. record { same = refl; view = refl; leads = λ _. (refl, refl) };
}

asks-still : (E : Database) (D : Deployment) (i : ℕ) (v : SiteState) → Still D i v (takes_asks E D i v).state
asks-still E D i v = elim (asks-taken E D i v) [
  | inl e ↦ subst (Still D i v) (sym e) (record { same = refl; view = refl; leads = λ _. (refl, refl) })
  | inr k ↦ subst (Still D i v) (sym k.is) (record { same = refl; view = refl; leads = λ _. (refl, refl) })
]

-- what it says, and what follows
syncs-still : (E : Database) (D : Deployment) (i : ℕ) (s : SiteState) → Still D i (written_site s) (syncs E D i s).state
syncs-still E D i s =
    let K = still-settles D i in
    let b = written_site s in
    let m = (after_sync D i b b.joining).state in
    let v = (settled_turn E D i m).state in
    K.next b v (takes_asks E D i v).state (K.next b m v (after_sync-walk D i (Over AnyCall (Still D i)) (over-settles D i AnyCall (Still D i) K) b (any-calls b.calls)).0
    (settled-walk E D i (Over AnyCall (Still D i)) (over-moves D i AnyCall (Still D i) K) (over-tells D i AnyCall (Still D i) K E) m (any-calls m.calls)).0) (asks-still E D i v)

syncs-steady : (E : Database) (D : Deployment) (i : ℕ) (s : SiteState) → leads D i (syncs E D i s).state ≡ true
    → ((syncs E D i s).state.log ≡ s.log) × ((syncs E D i s).state.view ≡ s.view) × (leads D i s ≡ true)
syncs-steady E D i s led =
    let k = syncs-still E D i s in
    let w = wrote s in
    let p = leads-parts D i (syncs E D i s).state led in
    let authoritative : is_leader D i (written_site s) ≡ true = sym k.same ∙ p.0 in
    let r = k.leads authoritative in
    (r.1 ∙ w.log, k.view ∙ w.view, leads-from D i s (wrote-leader D i s (written_site s) w authoritative (leader-view D i (written_site s) authoritative).0) (sym w.repaired ∙ sym r.0 ∙ p.1))

pub sync-steady : (E : Database) (D : Deployment) (i : ℕ) (s : SiteState) (o : Environment) → leads D i (sync_turn E D i s o).state ≡ true
    → ((sync_turn E D i s o).state.log ≡ s.log) × ((sync_turn E D i s o).state.view ≡ s.view) × (leads D i s ≡ true)
sync-steady E D i s NoFault led = syncs-steady E D i s led
sync-steady E D i s (DisksShow shown failed) led = syncs-steady E D i s led
sync-steady E D i s (DiskFails answered) led = absurd (stopped-not-leads D i (sync_turn E D i s (DiskFails answered)).state refl led)
sync-steady E D i s (NoMemory answered) led = absurd (stopped-not-leads D i (sync_turn E D i s (NoMemory answered)).state refl led)
