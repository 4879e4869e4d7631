-- Reports in a new term: a leader notes one, and begins its term once it has all.
use Rattle.log_laws.proofs.Names.{◌≡◌, ◌<◌, true, false, List, [], ◌∷◌, ◌++◌, refl, sym, subst, ap, ◌∙◌, ◌==◌, arith, and_parts, not-true, ℕ, ◌≤◌, ◌&&◌, not, length, Some, None, AllByRecursion, list_any, list_all, Entry, Membership, Agent, Site, Database, Deployment, term_of, leader, Letter, Sends, Turn, becomes, sending, ◌▸◌, SiteState, site_term, is_leader, other_copies, longest, lacks, appends_all, repair_to, repairs, works_calls, on_report, all-append, set-both, then-assoc, prefix-append, prefix-length, repair-all, Appended, appends-all, leader-view, leader-same, cond_both, LogState, LogsHold, ReportOk, part, site_start, log_at, term_at, between, asked}
use Rattle.log_laws.proofs.Kept.{after_site, LogsGo, NoStreamStart, enters-same, AtMost, at-most-same, goes-then, goes-same, becomes-goes, channels-same, noted-same, notes-same, asked_of}
use Rattle.log_laws.proofs.Kept.Moves.{Grown}
use Rattle.log_laws.proofs.Plain.{is-leader}
use Rattle.log_laws.proofs.Entries.Calls.{works-goes}
use Rattle.log_laws.proofs.NewTerms.Begun.{longest_site, begun_site, begun_leaderships, repairs_of, begun-holds, begun-grown}

-- ---- a leader with all reports

-- it begins its term, with repairs for all that reported
abbrev pub begins : Deployment → SiteState → Turn SiteState
begins D s = sending (record s { repaired = true; owes = Some (site_term s); reports = [] }) (λ b. elim b as (λ _. List Letter) [
  | Site slot ↦ repair_to D s slot s.reports
  | _ ↦ []
])

module _ (E : Database) (S : LogState) (i stamp : ℕ) (H : LogsHold S) (up : 0 < site_start S i) (leads : is_leader S.words.deployment i (S.sites i) ≡ true)
    (unrepaired : (S.sites i).repaired ≡ false) where
  has : (S.sites i).joining ≡ None × ((w : Membership) × ((S.sites i).view ≡ Some w))
  has = leader-view S.words.deployment i (S.sites i) leads

  leading : leader S.words.deployment has.1.0 (part S i) ≡ Some i
  leading = (is-leader S.words.deployment i (S.sites i) has.1.0 has.1.1 leads).1

  -- it takes the longest log, and begins with it
  begins-goes : list_all (λ c. list_any (λ r. r.slot == c) (S.sites i).reports) (other_copies S.words.deployment i (S.sites i)) ≡ true
      → LogsGo S i (appends_all E S.words.deployment i (lacks (length (log_at S i)) (longest (length (log_at S i)) None (S.sites i).reports)) (S.sites i)
      ▸ begins S.words.deployment)
  begins-goes all = record {
    logs = record S.logs { leadership = begun_leaderships S i (term_of has.1.0) };
    start = ap (λ z. z.start) state;
    view = ap (λ z. z.view) state;
    plain = λ c. subst (AllByRecursion NoStreamStart) (sym (sends c))
        (repair-all D (longest_site (S.sites i) app.scans app.scanning) c NoStreamStart (S.sites i).reports (λ r is q. tt));
    holds = subst (λ z. LogsHold (after_site S i z out (record S.logs { leadership = begun_leaderships S i (term_of has.1.0) }))) (sym state)
        (begun-holds S H i has.1.0 up has.0 has.1.1 leading unrepaired all app.scans app.scanning out sends (λ h. ap (λ z. z ++ []) (app.inert (Agent h) refl)));
    grown = subst (λ z. Grown D i z S.logs (record S.logs { leadership = begun_leaderships S i (term_of has.1.0) })) (sym state)
        (begun-grown S H i has.1.0 up has.0 has.1.1 leading unrepaired all app.scans app.scanning out sends (λ h. ap (λ z. z ++ []) (app.inert (Agent h) refl)));
    enters = enters-same i (length (log_at S i)) S.logs (record S.logs { leadership = begun_leaderships S i (term_of has.1.0) }) refl;
    longer = subst (λ z. length (log_at S i) ≤ length z.log) (sym state) (prefix-length (log_at S i) (log_at S i ++ es) (prefix-append (log_at S i) es));
  }
    where
      D : Deployment
      D = S.words.deployment

      es : List Entry
      es = lacks (length (log_at S i)) (longest (length (log_at S i)) None (S.sites i).reports)

      app : Appended i (S.sites i) es (appends_all E D i es (S.sites i))
      app = appends-all E D i es (S.sites i)

      out : Sends
      out b = (appends_all E D i es (S.sites i)).sends b ++ (begins D (appends_all E D i es (S.sites i)).state).sends b

      state : (begins D (appends_all E D i es (S.sites i)).state).state ≡ begun_site (S.sites i) app.scans app.scanning
      state = ap (λ z. (begins D z).state) app.state

      sends : (c : ℕ) → out (Site c) ≡ repairs_of S i app.scans app.scanning c
      sends c = ap (λ z. z ++ (begins D (appends_all E D i es (S.sites i)).state).sends (Site c)) (app.inert (Site c) refl)
          ∙ ap (λ z. (begins D z).sends (Site c)) app.state

  -- With all reports it begins its term, and works its queue.
  pub repairs-goes : LogsGo S i (repairs E S.words.deployment i stamp (S.sites i))
  repairs-goes = cond_both (list_all (λ c. list_any (λ r. r.slot == c) (S.sites i).reports) (other_copies S.words.deployment i (S.sites i))) _ _ (LogsGo S i)
      (λ e. subst (LogsGo S i) (then-assoc first (begins D) (works_calls E D i stamp))
      (goes-then S i (first ▸ begins D) (works_calls E D i stamp) (begins-goes e) (λ T site same _ h.
      subst (λ z. LogsGo T i (works_calls E D i stamp z)) site (subst (λ z. LogsGo T i (works_calls E z i stamp (T.sites i))) same
      (works-goes E T i stamp h (subst (λ z. 0 < z) (sym (ap (λ z. z.start) site ∙ (begins-goes e).start)) up))))))
      (λ e. goes-same S i H)
    where
      D : Deployment
      D = S.words.deployment

      first : Turn SiteState
      first = appends_all E D i (lacks (length (log_at S i)) (longest (length (log_at S i)) None (S.sites i).reports)) (S.sites i)

-- ---- a report that is noted

-- A leader notes a report. Once it has all, it begins its term.
pub on_report-goes : (E : Database) (S : LogState) → LogsHold S → (i stamp slot position floor : ℕ) (tail : List Entry) → 0 < site_start S i
    → ReportOk S (part S i) slot (term_at S i) position floor tail → LogsGo S i (on_report E S.words.deployment i stamp (S.sites i) slot position floor tail)
on_report-goes E S H i stamp slot position floor tail up ok = cond_both (is_leader D i (S.sites i) && not (S.sites i).repaired) _ _ (LogsGo S i)
    (λ e. let p = and_parts (is_leader D i (S.sites i)) (not (S.sites i).repaired) e in
    goes-then S i (becomes more) (repairs E D i stamp) noted (λ T site same _ h.
    subst (λ z. LogsGo T i (repairs E D i stamp z)) site (subst (λ z. LogsGo T i (repairs E z i stamp (T.sites i))) same
    (repairs-goes E T i stamp h (subst (λ z. 0 < z) (sym (ap (λ z. z.start) site)) up)
    (ap (λ z. is_leader z i (T.sites i)) same ∙ ap (is_leader D i) site ∙ leader-same D i (S.sites i) more refl refl ∙ p.0)
    (ap (λ z. z.repaired) site ∙ not-true (S.sites i).repaired p.1)))))
    (λ e. goes-same S i H)
  where
    D : Deployment
    D = S.words.deployment

    more : SiteState
    more = record (S.sites i) { reports = (S.sites i).reports ++ record { slot = slot; position = position; floor = floor; tail = tail } ∷ [] }

    noted : LogsGo S i (becomes more)
    noted = let o = notes-same S H i in becomes-goes S i more S.logs.streamed refl refl (omega arith) (noted-same S i more S.words.channel H refl (channels-same S H)
        (record {
          waiting = o.waiting;
          asks = o.asks;
          reports = λ _. all-append (λ r. ReportOk S (part S i) r.slot (term_at S i) r.position r.floor r.tail) (S.sites i).reports
              (record { slot = slot; position = position; floor = floor; tail = tail } ∷ []) (o.reports up) (ok, tt);
          pending = o.pending;
          none = o.none;
        })
        (λ c l t. set-both (λ l z. AtMost (asked S c l t) (asked_of c t (between S c l) z (S.pending l))) S.sites i more
        (at-most-same (asked S c i t)) (λ l _. at-most-same (asked S c l t)) l))
