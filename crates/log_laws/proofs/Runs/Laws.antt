-- The laws of logs, from what holds of a history.
use Rattle.log_laws.proofs.Names.{◌≡◌, ◌<◌, ◌≤◌, true, false, List, ◌++◌, append_assoc, refl, sym, subst, ap, ◌∙◌, ◌⊎◌, inl, inr, arith, and_parts, nat_tests, ℕ, not, nat_lt, length, Option, Some, None, Membership, term_of, term_in, SiteState, Joining, Streamed, is_joiner, is_member_site, leads, World, not-both, same-some, none-and-some, Prefix, leads-parts, prefix-same, prefix-trans, prefixes-compare, Logs, LogState, Line, line, between, Leadership, Last, FollowsIn, LeadsIn, MemberOk, StreamIn, ViewIn, Took, LogsHold, part, site_start, log_at, term_at, epoch_base, OfOneTerm, AreCopies, Leads, HasLoaded, HasLogs, log_state}
use Rattle.log_laws.specs.Copies.{Follows}
use Rattle.log_laws.proofs.Plain.{leads-or-follows, is-leader, none-or-some}
use Rattle.log_laws.proofs.Kept.{base-least, leadership-entered, last-below, running-slot}

-- ---- sites

runs-member : (s : SiteState) → is_member_site s ≡ true → (0 < s.start) × (s.joining ≡ None)
runs-member s e = let p = and_parts (nat_lt 0 s.start) (not (is_joiner s)) e in (grind (arith, nat_tests, p.0), joins s.joining p.1)
  where
    joins : (o : Option Joining) → not (is_joiner (record s { joining = o })) ≡ true → o ≡ None
    joins None e = refl
    joins (Some j) e = absurd (cc)

-- of the same partition and term
abbrev last-at : (G : Logs) (p q v t u : ℕ) → p ≡ q → t ≡ u → Last G p v t → Last G q v u
last-at G p q v t u e f l = record {
  leadership = l.leadership;
  led = rw e at l.led;
  below = rw f at l.below;
  greatest = λ x g k b. l.greatest x g (rw e k) (rw f b);
}

module _ (S : LogState) (H : LogsHold S) where
  -- A copy in a term that was begun has a prefix of its leader's log.
  pub copy-behind : (c : ℕ) (w : Membership) (g : Leadership) → 0 < site_start S c → MemberOk S c w → S.logs.leadership (part S c) (term_of w) ≡ Some g → Prefix (log_at S c) g.log
  copy-behind c w g up m e = elim (leads-or-follows S.words.deployment w c (site_start S c) m.start_is) [
    | inl k ↦ prefix-same (log_at S c) g.log (subst (LeadsIn (S.sites c)) e (m.leading k)).1
    | inr (l, f) ↦ lacks (line (site_start S c) (term_of w) (between S l c)) (subst (FollowsIn (S.sites c) (line (site_start S c) (term_of w) (between S l c))) e (m.following l f))
  ]
    where
      lacks : (ln : List Line) → FollowsIn (S.sites c) ln (Some g) → Prefix (log_at S c) g.log
      lacks ln (inl x) = (x.0, sym x.3)
      lacks ln (inr x) =
          let n = leadership-entered S H (part S c) (term_of w) g e w (record { decided = m.decided; term_is = refl }) c (site_start S c) (running-slot S H c up) refl m.start_is in
          let one : n.0 ≡ m.entered = same-some (sym n.1 ∙ m.is_entered) in
          prefix-trans (log_at S c) g.begun g.log
          (subst (λ l. Prefix l g.begun) (ap (λ y. y.log) one ∙ sym (m.still x.1).0) n.3)
          (H.leaderships (part S c) (term_of w) g e).grown

  -- Of a copy in a term that wasn't begun: its leader hasn't repaired it, or itself.
  copy-waits : (c : ℕ) (w : Membership) → MemberOk S c w → S.logs.leadership (part S c) (term_of w) ≡ None → (S.sites c).repaired ≡ false
  copy-waits c w m e = elim (leads-or-follows S.words.deployment w c (site_start S c) m.start_is) [
    | inl k ↦ subst (LeadsIn (S.sites c)) e (m.leading k)
    | inr (l, f) ↦ (subst (FollowsIn (S.sites c) (line (site_start S c) (term_of w) (between S l c))) e (m.following l f)).0
  ]

  -- its log is the one with which it entered, a prefix of the log of the last leader before
  pub copy-entered : (c : ℕ) (w : Membership) (v : ℕ) → MemberOk S c w → S.logs.leadership (part S c) (term_of w) ≡ None
      → (l : Last S.logs (part S c) v (term_of w)) → Prefix (log_at S c) l.leadership.log
  copy-entered c w v m e l =
      let k = H.entered c (term_of w) m.entered m.is_entered in
      subst (λ x. Prefix x l.leadership.log) (sym (m.still (copy-waits c w m e)).0) (k.behind v l).0

  -- the last term that was led before
  pub last-before : (c : ℕ) (w : Membership) → MemberOk S c w → S.logs.leadership (part S c) (term_of w) ≡ None → (v : ℕ) × Last S.logs (part S c) v (term_of w)
  last-before c w m e = let low = base-least S H w m.decided in last-below S H (part S c) (term_of w) (omega (arith, low, unbegun))
    where
      unbegun : epoch_base S ≡ term_of w → ⊥
      unbegun b = none-and-some e (subst (λ x. S.logs.leadership (part S c) x ≡ Some (H.first (part S c)).0) b (H.first (part S c)).1)

  -- Two copies in one term.
  copies-meet : (c d : ℕ) (w v : Membership) → 0 < site_start S c → 0 < site_start S d → MemberOk S c w → MemberOk S d v → part S c ≡ part S d → term_of w ≡ term_of v
      → Prefix (log_at S c) (log_at S d) ⊎ Prefix (log_at S d) (log_at S c)
  copies-meet c d w v up ud m n p t = elim (none-or-some (S.logs.leadership (part S c) (term_of w))) [
    | inl e ↦
        let l = last-before c w m e in
        prefixes-compare (log_at S c) (log_at S d) l.1.leadership.log
        (copy-entered c w l.0 m e l.1)
        (copy-entered d v l.0 n (there None e) (last-at S.logs (part S c) (part S d) l.0 (term_of w) (term_of v) p t l.1))
    | inr (g, e) ↦ prefixes-compare (log_at S c) (log_at S d) g.log (copy-behind c w g up m e) (copy-behind d v g ud n (there (Some g) e))
  ]
    where
      there : (o : Option Leadership) → S.logs.leadership (part S c) (term_of w) ≡ o → S.logs.leadership (part S d) (term_of v) ≡ o
      there o e = rw (← p, ← t) e

  -- A leader that has what its term begins with.
  record HeldLeadership (l : ℕ) : Type 0 where
    pub word : Membership
    pub view : (S.sites l).view ≡ Some word
    pub member : MemberOk S l word
    pub leadership : Leadership
    pub led : S.logs.leadership (part S l) (term_of word) ≡ Some leadership
    pub log : log_at S l ≡ leadership.log

  held-leadership : (l : ℕ) → is_member_site (S.sites l) ≡ true → leads S.words.deployment l (S.sites l) ≡ true → HeldLeadership l
  held-leadership l e f =
      let r = runs-member (S.sites l) e in
      let m = (H.sites l).member r.0 r.1 in
      let q = leads-parts S.words.deployment l (S.sites l) f in
      let n = (is-leader S.words.deployment l (S.sites l) m.0 m.1 q.0).1 in
      begun m.0 m.1 m.2 (S.logs.leadership (part S l) (term_of m.0)) refl q.1 (m.2.leading n)
    where
      begun : (w : Membership) → (S.sites l).view ≡ Some w → MemberOk S l w → (o : Option Leadership) → S.logs.leadership (part S l) (term_of w) ≡ o → (S.sites l).repaired ≡ true
          → LeadsIn (S.sites l) (S.logs.leadership (part S l) (term_of w)) → HeldLeadership l
      begun w v m None i r k = absurd (not-both (S.sites l).repaired r (subst (λ o. LeadsIn (S.sites l) o) i k))
      begun w v m (Some g) i r k = record { word = w; view = v; member = m; leadership = g; led = i; log = (subst (λ o. LeadsIn (S.sites l) o) i k).1 }

  view-term : (c : ℕ) (w : Membership) → (S.sites c).view ≡ Some w → term_at S c ≡ term_of w
  view-term c w e = ap (λ o. term_in o) e

  -- A copy, and the leader of its term.
  copy-follows : (c l : ℕ) → is_member_site (S.sites c) ≡ true → HeldLeadership l → part S c ≡ part S l → term_at S c ≡ term_at S l → Prefix (log_at S c) (log_at S l)
  copy-follows c l e k p t =
      let r = runs-member (S.sites c) e in
      let m = (H.sites c).member r.0 r.1 in
      let u : term_of m.0 ≡ term_of k.word = sym (view-term c m.0 m.1) ∙ t ∙ view-term l k.word k.view in
      let g : S.logs.leadership (part S c) (term_of m.0) ≡ Some k.leadership = rw (p, u) k.led in
      subst (λ x. Prefix (log_at S c) x) (sym k.log) (copy-behind c m.0 k.leadership r.0 m.2 g)

  -- What a copy counts firm is in each copy of its term.
  firm-there : (c d : ℕ) (w v : Membership) → MemberOk S c w → MemberOk S d v → part S c ≡ part S d → term_of w ≡ term_of v → (S.sites d).firm ≤ length (log_at S c)
  firm-there c d w v m n p t =
      let k = ((H.entered c (term_of w) m.entered m.is_entered).running (sym m.since)).2 in
      let firm : (S.sites d).firm ≤ S.logs.reach (part S c) (term_of w) = rw (p, t) n.firm in
      omega (arith, firm, k)

  -- A joiner that has loaded its tables has taken its stream.
  record LoadedJoiner (c : ℕ) : Type 0 where
    pub word : Membership
    pub view : (S.sites c).view ≡ Some word
    pub joining : Joining
    pub stream_start : ℕ
    pub took : Took S c word joining stream_start

  has-loaded : (c : ℕ) (j : Joining) → (S.sites c).joining ≡ Some j → j.is_loaded ≡ true → LoadedJoiner c
  has-loaded c j e l = seen (S.sites c).view refl ((H.sites c).joiner j e).view
    where
      streamed : (w : Membership) → (S.sites c).view ≡ Some w → (o : Option Streamed) → StreamIn S c w j o → LoadedJoiner c
      streamed w v None k = absurd (not-both j.is_loaded l k.loads)
      streamed w v (Some st) k = record { word = w; view = v; joining = j; stream_start = st.stream_start; took = k }

      seen : (o : Option Membership) → (S.sites c).view ≡ o → ViewIn S c j o → LoadedJoiner c
      seen None v k = absurd (not-both j.is_loaded l k.loads)
      seen (Some w) v k = streamed w v j.stream k.stream

  joiner-follows : (c l : ℕ) → LoadedJoiner c → HeldLeadership l → part S c ≡ part S l → term_at S c ≡ term_at S l
      → Prefix (log_at S c) (log_at S l) × ((S.sites l).firm ≤ length (log_at S c))
  joiner-follows c l j k p t =
      let u : term_of j.word ≡ term_of k.word = sym (view-term c j.word j.view) ∙ t ∙ view-term l k.word k.view in
      let g : S.logs.leadership (part S c) (term_of j.word) ≡ Some k.leadership = rw (p, u) k.led in
      let one : j.took.leadership ≡ k.leadership = same-some (sym j.took.led ∙ g) in
      let n = ((H.streamed c (term_of j.word) (record { start = site_start S c; stream_start = j.stream_start }) j.took.streamed).running refl).2 in
      let firm : (S.sites l).firm ≤ S.logs.reach (part S c) (term_of j.word) = rw (p, u) k.member.firm in
      ((j.joining.tasks ++ j.took.more, k.log ∙ ap (λ x. x.log) (sym one) ∙ sym j.took.whole ∙ append_assoc (log_at S c) j.joining.tasks j.took.more), omega (arith, firm, n))

-- ---- worlds

module _ (w : World) (k : HasLogs w) where
  abbrev S : LogState
  S = log_state w k.owner k.history k.logs

  pub leader-ahead : (c l : ℕ) → AreCopies w c l → Leads w l → Prefix (log_at S c) (log_at S l)
  leader-ahead c l a b = copy-follows S k.holds c l a.first (held-leadership S k.holds l b.runs b.leads) a.alike.part a.alike.term

  -- the words of two copies
  record Words (c d : ℕ) : Type 0 where
    pub up : 0 < site_start S c
    pub up_too : 0 < site_start S d
    pub first : Membership
    pub second : Membership
    pub member : MemberOk S c first
    pub member_too : MemberOk S d second
    pub term : term_of first ≡ term_of second

  words-of : (c d : ℕ) → AreCopies w c d → Words c d
  words-of c d a =
      let r = runs-member (S.sites c) a.first in
      let q = runs-member (S.sites d) a.second in
      let m = (k.holds.sites c).member r.0 r.1 in
      let n = (k.holds.sites d).member q.0 q.1 in
      search (r.0, q.0, m.2, n.2, sym (view-term S k.holds c m.0 m.1) ∙ a.alike.term ∙ view-term S k.holds d n.0 n.1)

  pub firm-in : (c d : ℕ) → AreCopies w c d → (S.sites d).firm ≤ length (log_at S c)
  firm-in c d a = let x = words-of c d a in firm-there S k.holds c d x.first x.second x.member x.member_too a.alike.part x.term

  pub comparable : (c d : ℕ) → AreCopies w c d → Prefix (log_at S c) (log_at S d) ⊎ Prefix (log_at S d) (log_at S c)
  comparable c d a = let x = words-of c d a in copies-meet S k.holds c d x.first x.second x.up x.up_too x.member x.member_too a.alike.part x.term

  pub joiner-behind : (c l : ℕ) → HasLoaded w c → Leads w l → OfOneTerm w c l → Follows w c l
  joiner-behind c l h b a =
      let f = joiner-follows S k.holds c l (has-loaded S k.holds c h.0 h.1 h.2) (held-leadership S k.holds l b.runs b.leads) a.part a.term in
      record { prefix = f.0; firm = f.1 }
