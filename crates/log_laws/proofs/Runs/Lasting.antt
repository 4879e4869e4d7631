-- What is firm in the authoritative log of a partition is never lost, and all that a leader counts firm is firm in it.
use Rattle.log_laws.proofs.Names.{◌≡◌, ◌<◌, ◌≤◌, length, take, refl, sym, subst, ap, ◌∙◌, inl, inr, arith, cases_eq, and_parts, nat_tests, ℕ, nat_lt, not, Some, Database, term_of, term_in, is_joiner, World, Input, AuthoritativeLog, Reached, RunsInEpoch, same-some, Prefix, prefix-trans, prefix-length, prefix-take, take-prefix, take-grown, take-of-prefix, LogState, Leadership, LogsHold, part, term_at, Leads, LeadsNext, AuthoritativeOk, KeepsFirm, IsInAuthoritative, HasLogs, log_state, log_of, authoritative_for}
use Rattle.log_laws.proofs.Runs.Agreeing.{agrees-begun}
use Rattle.log_laws.proofs.Kept.{Onward}
use Rattle.log_laws.proofs.Runs.Leading.{AuthoritativeRises}
use Rattle.log_laws.proofs.Entries.Leads.{Leading, leading}
use Rattle.log_laws.proofs.Runs.Worlds.{logs-agree, epoch-reaches}

-- ---- what is everywhere in a term

module _ (S : LogState) (H : LogsHold S) (p v n : ℕ) (g : Leadership) (led : S.logs.leadership p v ≡ Some g) (low : n ≤ S.logs.reach p v) where
  -- is in its log, and in that of each later one that was led, at its beginning
  pub lasting : (t : ℕ) (h : Leadership) → S.logs.leadership p t ≡ Some h → v ≤ t → (n ≤ length h.log) × Prefix (take n g.log) h.log
  lasting t h is upto = elim (cases_eq v t) [
    | inl e ↦
        let same : g ≡ h = same-some (sym led ∙ ap (S.logs.leadership p) e ∙ is) in
        let b = (H.leaderships p v g led).within in
        subst (λ x. (n ≤ length x.log) × Prefix (take n g.log) x.log) same (omega (arith, low, b), prefix-take n g.log)
    | inr d ↦
        let k = agrees-begun S H p v g led t h is (omega (arith, upto, d)) in
        let grown = (H.leaderships p t h is).grown in
        let m = prefix-length h.begun h.log grown in (
          omega (arith, low, k.0, m),
          prefix-trans (take n g.log) (take (S.logs.reach p v) g.log) h.log (take-prefix n (S.logs.reach p v) g.log low)
              (prefix-trans (take (S.logs.reach p v) g.log) h.begun h.log k.1 grown),
        )
  ]

  -- so as many of the log of one such term are a prefix of that of any other one
  pub lasting-both : (t u : ℕ) (h k : Leadership) → S.logs.leadership p t ≡ Some h → S.logs.leadership p u ≡ Some k → v ≤ t → v ≤ u → Prefix (take n h.log) k.log
  lasting-both t u h k led-t led-u low-t low-u =
      let own = (lasting v g led (omega arith)).0 in
      subst (λ x. Prefix x k.log) (sym (take-of-prefix n g.log h.log (lasting t h led-t low-t).1 own)) (lasting u k led-u low-u).1

-- ---- the authoritative log of a partition

-- Of that in a state, and that in a later one: what is firm in it is in its log, and a prefix of the later log.
module _ (S T : LogState) (H : LogsHold S) (J : LogsHold T) (f : Onward S.logs T.logs) (p : ℕ) (l m : AuthoritativeLog) (k : AuthoritativeOk S.logs p l) (n : AuthoritativeOk T.logs p m) where
  authoritative-within : l.firm ≤ length l.log
  authoritative-within = let q = k.firm in subst (λ x. l.firm ≤ length x) (sym k.log) (lasting S H p q.0 l.firm q.1 q.2 q.3 l.term k.leadership k.led (k.greatest q.0 q.1 q.2)).0

  authoritative-kept : Prefix (take l.firm l.log) m.log
  authoritative-kept =
      let q = k.firm in
      let g = f.kept p q.0 q.1 q.2 in
      let h = f.kept p l.term k.leadership k.led in
      let r = f.reach p q.0 in
      let both = lasting-both T J p q.0 l.firm g.0 g.1 (omega (arith, q.3, r)) l.term m.term h.0 n.leadership h.1 n.led (k.greatest q.0 q.1 q.2) (n.greatest q.0 g.0 g.1) in
      let own : take l.firm h.0.log ≡ take l.firm l.log =
      take-grown l.firm k.leadership.log h.0.log h.3 (subst (λ x. l.firm ≤ length x) k.log authoritative-within) ∙ ap (take l.firm) (sym k.log) in
      subst (λ x. Prefix x m.log) own (subst (Prefix (take l.firm h.0.log)) (sym n.log) both)

-- ---- worlds

-- In a later world of one epoch.
pub keeps-firm : (v w : World) (k : HasLogs v) (n : HasLogs w) → Onward k.logs n.logs → ((p : ℕ) → AuthoritativeRises (v.authoritative p) (w.authoritative p)) → (p : ℕ) → KeepsFirm v w p
keeps-firm v w k n f rises p =
    let S = log_state v k.owner k.history k.logs in
    let T = log_state w n.owner n.history n.logs in
    record {
      within = authoritative-within S T k.holds n.holds f p (v.authoritative p) (w.authoritative p) (k.authoritative p) (n.authoritative p);
      kept = authoritative-kept S T k.holds n.holds f p (v.authoritative p) (w.authoritative p) (k.authoritative p) (n.authoritative p);
      more = (rises p).firm;
      term = (rises p).term;
    }

pub never-lost : (E : Database) (input : Input) (v w : World) (p : ℕ) → Reached E input v → RunsInEpoch E v w → KeepsFirm v w p
never-lost E input v w p r s = let k = logs-agree E input v r in let n = epoch-reaches E v w s k in keeps-firm v w k n.next (n.onward refl) (n.rises refl) p

-- what a site that leads has
leading-in : (w : World) (k : HasLogs w) (l : ℕ) → Leads w l → Leading (log_state w k.owner k.history k.logs) l
leading-in w k l h =
    let p = (and_parts (nat_lt 0 (w.sites l).start) (not (is_joiner (w.sites l))) h.runs).0 in
    let up : 0 < (w.sites l).start = grind (arith, nat_tests, p) in
    leading (log_state w k.owner k.history k.logs) l k.holds up h.leads

-- What a leader counted firm is a prefix of the log of one of a term that isn't lower, in a later world of the epoch.
pub next-leader : (v w : World) (k : HasLogs v) (n : HasLogs w) → Onward k.logs n.logs → (l m : ℕ) → LeadsNext v w l m → Prefix (take (v.sites l).firm (log_of v l)) (log_of w m)
next-leader v w k n f l m h =
    let S = log_state v k.owner k.history k.logs in
    let a = leading-in v k l h.first in
    let t = term_of a.word in
    let T = log_state w n.owner n.history n.logs in
    let b = leading-in w n m h.second in
    let up : t ≤ term_of b.word = let x = h.term in let y = ap term_in a.view in let z = ap term_in b.view in omega (arith, x, y, z) in
    let own = part S l in
    let led : T.logs.leadership own (term_of b.word) ≡ Some b.leadership = ap (λ p. T.logs.leadership p (term_of b.word)) h.part ∙ b.led in
    let within : S.logs.reach own t ≤ length a.leadership.log = (k.holds.leaderships own t a.leadership a.led).within in
    let r = f.kept own t a.leadership a.led in
    subst (λ xs. Prefix (take (v.sites l).firm xs) (log_of w m)) (sym a.log) (subst (Prefix (take (v.sites l).firm a.leadership.log)) (sym b.log)
    (subst (λ xs. Prefix xs b.leadership.log) (take-grown (v.sites l).firm a.leadership.log r.0.log r.3 (omega (arith, a.member.firm, within)))
    (lasting T n.holds own t (v.sites l).firm r.0 r.1 (let e = f.reach own t in omega (arith, a.member.firm, e)) (term_of b.word) b.leadership led up).1))

pub next-leads : (E : Database) (input : Input) (v w : World) (l m : ℕ) → Reached E input v → RunsInEpoch E v w → LeadsNext v w l m
    → Prefix (take (v.sites l).firm (log_of v l)) (log_of w m)
next-leads E input v w l m r s = let k = logs-agree E input v r in let n = epoch-reaches E v w s k in next-leader v w k n.next (n.onward refl) l m

-- Of a site that leads, with its partition's lead.
pub in-authoritative : (w : World) (k : HasLogs w) (l : ℕ) → Leads w l → IsInAuthoritative w l
in-authoritative w k l h = let own = part S l in let authoritative = k.authoritative own in let low = authoritative.greatest (term_of m.word) m.leadership m.led in record {
  term = let e = term in omega (arith, low, e);
  same = λ e. m.log ∙ ap (λ g. g.log) (same-some (sym m.led ∙ ap (S.logs.leadership own) (sym term ∙ e) ∙ authoritative.led)) ∙ sym authoritative.log;
  counted = k.counted l h.runs h.leads;
  prefix = subst (λ xs. Prefix (take (S.sites l).firm xs) (authoritative_for w l).log) (sym m.log) (subst (Prefix (take (S.sites l).firm m.leadership.log)) (sym authoritative.log)
      (lasting S k.holds own (term_of m.word) (S.sites l).firm m.leadership m.led m.member.firm (authoritative_for w l).term authoritative.leadership authoritative.led low).1);
}
  where
    S : LogState
    S = log_state w k.owner k.history k.logs

    m : Leading S l
    m = leading-in w k l h

    term : term_at S l ≡ term_of m.word
    term = ap term_in m.view
