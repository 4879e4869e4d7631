-- The authoritative log of a partition, which the world keeps: what the history says of it stays so in turns of sites.
use Rattle.log_laws.proofs.Names.{◌≡◌, ◌<◌, ◌≤◌, Bool, true, false, refl, sym, subst, ap, ◌∙◌, inl, inr, arith, cases_eq, cases_lt, and_from, leb-true, nat_tests, ℕ, nat_le, max, if◌then◌else◌, Some, Membership, Deployment, term_of, term_in, leader, SiteState, Joining, site_term, is_leader, leads, AuthoritativeLog, authoritative_after, none-and-some, same-some, not-both, leader-view, leads-parts, LogState, Logs, Leadership, LogsHold, ViewIn, LeadsIn, part, site_start, log_at, term_at, AuthoritativeOk}
use Rattle.log_laws.proofs.Plain.{leader-is, none-or-some}
use Rattle.log_laws.proofs.Kept.{took-unnamed, Heads}
use Rattle.log_laws.proofs.Kept.Moves.{Grown}
use Rattle.log_laws.proofs.Entries.Leads.{Leading, leading}

-- ---- a site that leads by its word

module _ (T : LogState) (H : LogsHold T) (i : ℕ) where
  -- one with a word runs
  runs-with-word : (w : Membership) → (T.sites i).view ≡ Some w → 0 < site_start T i
  runs-with-word w e = elim (cases_eq (site_start T i) 0) [ inl z ↦ absurd (none-and-some ((H.sites i).blank z) e) | inr n ↦ omega (arith, n) ]

  -- and so does one that leads
  pub leads-runs : leads T.words.deployment i (T.sites i) ≡ true → 0 < site_start T i
  leads-runs e =
      let v = leader-view T.words.deployment i (T.sites i) (leads-parts T.words.deployment i (T.sites i) e).0 in
      runs-with-word v.1.0 v.1.1

  -- By its word it leads: once its term has begun, it does so with what that begins with.
  pub heads-authoritative : (p t : ℕ) (g : Leadership) → Heads T.words.deployment i (T.sites i) p t → T.logs.leadership p t ≡ Some g → leads T.words.deployment i (T.sites i) ≡ true
  heads-authoritative p t g h led = elim (none-or-some (T.sites i).joining) [
    | inl e ↦
        let m = (H.sites i).member up e in
        let same : m.0 ≡ h.word = same-some (sym m.1 ∙ h.view) in
        let leading : LeadsIn (T.sites i) (T.logs.leadership (part T i) (term_of h.word)) =
        subst (λ w. leader T.words.deployment w (part T i) ≡ Some i → LeadsIn (T.sites i) (T.logs.leadership (part T i) (term_of w))) same m.2.leading first in
        and_from (is_leader T.words.deployment i (T.sites i)) (T.sites i).repaired (leader-is T.words.deployment i (T.sites i) h.word h.view e first)
        (subst (LeadsIn (T.sites i)) here leading).0
    | inr (j, e) ↦ absurd (joins j (subst (ViewIn T i j) h.view ((H.sites i).joiner j e).view))
  ]
    where
      up : 0 < site_start T i
      up = runs-with-word h.word h.view

      first : leader T.words.deployment h.word (part T i) ≡ Some i
      first = ap (leader T.words.deployment h.word) h.part_is ∙ h.first

      here : T.logs.leadership (part T i) (term_of h.word) ≡ Some g
      here = ap (λ q. T.logs.leadership q (term_of h.word)) h.part_is ∙ ap (T.logs.leadership p) h.term_is ∙ led

      -- its start was in the word that it would have taken
      joins : (j : Joining) → ViewIn T i j (Some h.word) → ⊥
      joins j k = took-unnamed T H (site_start T i) h.word i k.took h.start_is

-- ---- what the history says of a lead

module _ (D : Deployment) (i : ℕ) (s : SiteState) (F G : Logs) (grown : Grown D i s F G) (p : ℕ) (l : AuthoritativeLog) (k : AuthoritativeOk F p l) where
  -- what is firm stays so
  firm-still : (t : ℕ) × (g : Leadership) × (G.leadership p t ≡ Some g) × (l.firm ≤ G.reach p t)
  firm-still = let f = k.firm in let h = grown.onward.kept p f.0 f.1 f.2 in let r = grown.onward.reach p f.0 in (f.0, h.0, h.1, omega (arith, f.3, r))

  -- where its term isn't led in another way, its log is the one of that
  led-still : ((h : Leadership) → G.leadership p l.term ≡ Some h → Heads D i s p l.term → ⊥) → G.leadership p l.term ≡ Some k.leadership
  led-still none = let h = grown.onward.kept p l.term k.leadership k.led in elim (grown.led p l.term h.0 h.1) [
    | inl old ↦ h.1 ∙ ap Some (same-some (sym old ∙ k.led))
    | inr new ↦ absurd (none h.0 h.1 new)
  ]

  -- A lead stays, where the turn leads in no term of its partition.
  pub authoritative-still : ((t : ℕ) (h : Leadership) → G.leadership p t ≡ Some h → Heads D i s p t → ⊥) → AuthoritativeOk G p l
  authoritative-still none = record {
    leadership = k.leadership;
    led = led-still (none l.term);
    log = k.log;
    greatest = λ t g is. elim (grown.led p t g is) [ inl old ↦ k.greatest t g old | inr new ↦ absurd (none t g is new) ];
    firm = firm-still;
  }

-- After a turn of a site that leads, in this term and with this log.
module _ (T : LogState) (H : LogsHold T) (F : Logs) (i : ℕ) (grown : Grown T.words.deployment i (T.sites i) F T.logs) (l : AuthoritativeLog) (k : AuthoritativeOk F (part T i) l)
    (m : Leading T i) where
  abbrev D : Deployment
  D = T.words.deployment

  abbrev t : ℕ
  t = term_of m.word

  term-is : term_at T i ≡ t
  term-is = ap term_in m.view

  -- no term but its own is led in another way
  own-term : (u : ℕ) → Heads D i (T.sites i) (part T i) u → u ≡ t
  own-term u h = sym h.term_is ∙ ap term_of (same-some (sym h.view ∙ m.view))

  abbrev firm_after : ℕ
  firm_after = max l.firm (T.sites i).firm

  greatest-after : (u : ℕ) (g : Leadership) → T.logs.leadership (part T i) u ≡ Some g → u ≤ max l.term (term_at T i)
  greatest-after u g is = elim (grown.led (part T i) u g is) [
    | inl old ↦ let b = k.greatest u g old in omega (arith, b)
    | inr new ↦ let e = own-term u new in let f = term-is in omega (arith, e, f)
  ]

  firm-after : (u : ℕ) × (g : Leadership) × (T.logs.leadership (part T i) u ≡ Some g) × (firm_after ≤ T.logs.reach (part T i) u)
  firm-after = elim (cases_lt l.firm (T.sites i).firm) [
    | inl less ↦ (t, m.leadership, m.led, let b = m.member.firm in omega (arith, less, b))
    | inr more ↦ let f = firm-still D i (T.sites i) F T.logs grown (part T i) l k in (f.0, f.1, f.2, omega (arith, more, f.3))
  ]

  -- It takes the authoritative log, if no greater term was led. What it counts firm is firm in the authoritative log.
  leads-on : (b : Bool) → nat_le l.term (term_at T i) ≡ b
      → AuthoritativeOk T.logs (part T i) (record { term = max l.term (term_at T i); log = if b then log_at T i else l.log; firm = firm_after })
  leads-on true e = record {
    leadership = m.leadership;
    led = let low : l.term ≤ term_at T i = leb-true l.term (term_at T i) e in let f = term-is in
        subst (λ u. T.logs.leadership (part T i) u ≡ Some m.leadership) (omega (arith, low, f)) m.led;
    log = m.log;
    greatest = greatest-after;
    firm = firm-after;
  }
  leads-on false e = let above : term_at T i < l.term = grind (arith, nat_tests, e) in record {
    leadership = k.leadership;
    led = subst (λ u. T.logs.leadership (part T i) u ≡ Some k.leadership) (omega (arith, above))
        (led-still D i (T.sites i) F T.logs grown (part T i) l k (λ h is new. let q = own-term l.term new in let f = term-is in absurd (omega (arith, above, q, f))));
    log = k.log;
    greatest = greatest-after;
    firm = firm-after;
  }

-- What the history says of the authoritative log of a site's partition, after a turn of that site.
pub authoritative-turned : (T : LogState) → LogsHold T → (F : Logs) (i : ℕ) → Grown T.words.deployment i (T.sites i) F T.logs → (l : AuthoritativeLog)
    → AuthoritativeOk F (part T i) l → AuthoritativeOk T.logs (part T i) (authoritative_after T.words.deployment i (T.sites i) l)
authoritative-turned T H F i grown l k = choice (leads T.words.deployment i (T.sites i)) refl
  where
    choice : (b : Bool) → leads T.words.deployment i (T.sites i) ≡ b → AuthoritativeOk T.logs (part T i) (if b then record {
      term = max l.term (term_at T i);
      log = if nat_le l.term (term_at T i) then log_at T i else l.log;
      firm = max l.firm (T.sites i).firm;
    } else l)
    choice true e = leads-on T H F i grown l k (leading T i H (leads-runs T H i e) e) (nat_le l.term (term_at T i)) refl
    choice false e = authoritative-still T.words.deployment i (T.sites i) F T.logs grown (part T i) l k (λ t g is new.
        not-both (leads T.words.deployment i (T.sites i)) (heads-authoritative T H i (part T i) t g new is) e)

-- ---- the authoritative log only rises

-- of a lead and a later one
pub record AuthoritativeRises (l m : AuthoritativeLog) : Type 0 where
  pub term : l.term ≤ m.term
  pub firm : l.firm ≤ m.firm

pub rises-same : (l : AuthoritativeLog) → AuthoritativeRises l l
rises-same l = record { term = omega arith; firm = omega arith }

pub rises-then : (l m n : AuthoritativeLog) → AuthoritativeRises l m → AuthoritativeRises m n → AuthoritativeRises l n
rises-then l m n f g = record { term = let a = f.term in let b = g.term in omega (arith, a, b); firm = let a = f.firm in let b = g.firm in omega (arith, a, b) }

pub authoritative-rises : (D : Deployment) (i : ℕ) (s : SiteState) (l : AuthoritativeLog) → AuthoritativeRises l (authoritative_after D i s l)
authoritative-rises D i s l = choice (leads D i s)
  where
    choice : (b : Bool)
        → AuthoritativeRises l (if b then record { term = max l.term (site_term s); log = if nat_le l.term (site_term s) then s.log else l.log; firm = max l.firm s.firm } else l)
    choice true = record { term = omega arith; firm = omega arith }
    choice false = rises-same l

-- what a site counts firm that leads is firm in it
pub authoritative-counted : (D : Deployment) (i : ℕ) (s : SiteState) (l : AuthoritativeLog) → leads D i s ≡ true → s.firm ≤ (authoritative_after D i s l).firm
authoritative-counted D i s l e = rw e (omega arith)
