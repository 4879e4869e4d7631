-- What a site makes of entries that it appends, and what a leader sends of them.
use Rattle.cluster_steps.proofs.Names.{◌≡◌, false, List, [], ◌∷◌, ◌++◌, append_assoc, append-nil, refl, sym, ap, ◌∙◌, ℕ, ◌&&◌, not, Option, is_none, Entry, Actor, Agent, Site, Scanner, Database, is_snapshot, Deployment, same, Sends, Turn, SiteState, Scanning, is_joiner, other_copies, appends, appends_all, put_to, tasks_to, passes_on, leads_with, cond_both}
use Rattle.cluster_steps.proofs.Lists.{all-append, all-if}
use Rattle.cluster_steps.proofs.Frames.{InertLetter, InertSends}

-- ---- entries behind a log

-- the site with more entries in its log, and its scans as they may be
abbrev pub grown : SiteState → List Entry → ℕ → Option Scanning → SiteState
grown s es scans scanning = record s { log = s.log ++ es; scans = scans; scanning = scanning }

-- It appended these, and told nobody but its scanner.
pub record Appended (i : ℕ) (s : SiteState) (es : List Entry) (t : Turn SiteState) : Type 0 where
  pub scans : ℕ
  pub scanning : Option Scanning
  pub state : t.state ≡ grown s es scans scanning
  pub inert : (b : Actor) → same (Scanner i) b ≡ false → t.sends b ≡ []
  pub plain : InertSends t.sends

pub appends-one : (E : Database) (D : Deployment) (i : ℕ) (e : Entry) (s : SiteState) → Appended i s (e ∷ []) (appends E D i e s)
appends-one E D i e s = cond_both (is_snapshot e && is_none s.scanning && not (is_joiner s)) _ _ (Appended i s (e ∷ []))
    (λ _. record { scans = _; scanning = _; state = refl; inert = λ a q. rw q; plain = λ a. all-if InertLetter (same (Scanner i) a) _ [] (tt, tt) tt })
    (λ _. record { scans = _; scanning = _; state = refl; inert = λ a q. refl; plain = λ a. tt })
  where
    b : SiteState
    b = record s { log = s.log ++ e ∷ [] }

pub appends-all : (E : Database) (D : Deployment) (i : ℕ) (es : List Entry) (s : SiteState) → Appended i s es (appends_all E D i es s)
appends-all E D i [] s = record {
  scans = s.scans;
  scanning = s.scanning;
  state = ap (λ es. record s { log = es }) (sym (append-nil s.log));
  inert = λ b q. refl;
  plain = λ b. tt;
}
appends-all E D i (e ∷ es) s =
    let one = appends-one E D i e s in
    let more = appends-all E D i es (appends E D i e s).state in
    record {
      scans = more.scans;
      scanning = more.scanning;
      state = more.state
          ∙ ap (λ x. grown x es more.scans more.scanning) one.state
          ∙ ap (λ log. record s { log = log; scans = more.scans; scanning = more.scanning }) (append_assoc s.log (e ∷ []) es);
      inert = λ b q. rw (one.inert b q, more.inert b q);
      plain = λ b. all-append InertLetter ((appends E D i e s).sends b) ((appends_all E D i es (appends E D i e s).state).sends b) (one.plain b) (more.plain b);
    }

-- ---- what a leader sends of an entry

-- Of an entry at the end of its log the site sends a Put to each other copy, and a Task to each joiner that it counts.
pub record Passed (D : Deployment) (i : ℕ) (e : Entry) (s : SiteState) (out : Sends) : Type 0 where
  pub sites : (c : ℕ) → out (Site c) ≡ put_to D s e c (other_copies D i s) ++ tasks_to s e c s.joiners
  pub agents : (h : ℕ) → out (Agent h) ≡ []

-- It appended the entry, and passed it on.
pub record Led (D : Deployment) (i : ℕ) (e : Entry) (s : SiteState) (t : Turn SiteState) : Type 0 where
  pub scans : ℕ
  pub scanning : Option Scanning
  pub state : t.state ≡ grown s (e ∷ []) scans scanning
  pub passed : Passed D i e (grown s (e ∷ []) scans scanning) t.sends

pub leads-with : (E : Database) (D : Deployment) (i : ℕ) (e : Entry) (s : SiteState) → Led D i e s (leads_with E D i e s)
leads-with E D i e s =
    let one = appends-one E D i e s in
    let sends : Sends = λ b. (appends E D i e s).sends b ++ (passes_on D i e (grown s (e ∷ []) one.scans one.scanning)).sends b in
    let same : (leads_with E D i e s).sends ≡ sends = ap (λ x. (λ b. (appends E D i e s).sends b ++ (passes_on D i e x).sends b)) one.state in
    record {
      scans = one.scans;
      scanning = one.scanning;
      state = one.state;
      passed = record {
        sites = λ c. ap (λ f. f (Site c)) same ∙ ap (λ ls. ls ++ (passes_on D i e (grown s (e ∷ []) one.scans one.scanning)).sends (Site c)) (one.inert (Site c) refl);
        agents = λ h. ap (λ f. f (Agent h)) same ∙ ap (λ ls. ls ++ []) (one.inert (Agent h) refl);
      };
    }
