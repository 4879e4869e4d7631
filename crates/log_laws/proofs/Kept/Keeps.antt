-- What holds of a slot that isn't the one that moves: it stays so.
use Rattle.log_laws.proofs.Names.{◌≡◌, ◌<◌, Bool, true, false, List, [], ◌∷◌, refl, sym, subst, ap, ◌∙◌, ◌⊎◌, inl, inr, ◌==◌, arith, cases_Bool, eqb-true, eq-eqb, ne_eqb, ℕ, ◌&&◌, not, length, Option, Some, None, AllByRecursion, Membership, Deployment, term_of, term_in, leader, SiteState, Streamed, Joining, Joiner, Ask, In, all-mono, none-and-some, same-some, LogState, LogsHold, Entered, Streaming, Leadership, Line, Flow, FollowsIn, LeadsIn, HeldOk, AsksToJoin, SiteWaitingOk, KeepsOk, SiteOk, MemberOk, JoinerOk, InWord, ViewIn, StreamIn, Untaken, Took, Coming, Inert, NoStream, IsCounted, part, site_start, term_at, between, follows, line, flow, stream_ends_in, asked}
use Rattle.log_laws.proofs.Kept.Moves.{LogsLater, Stays, JoinsOn}
use Rattle.log_laws.proofs.Kept.Asked.{AtMost, at-most-none, at-most-one}
use Rattle.log_laws.proofs.Kept.Laters.{part-later, slot-before, start-later, ask-later-on, waiting-later-on, counteds-later, keeps-at}
use Rattle.log_laws.proofs.Plain.{follows-leader, one-and-others, none-or-some}

-- ---- what is the same

-- of a slot's own site
pub record SiteStays (s t : SiteState) : Type 0 where
  pub start : t.start ≡ s.start
  pub greatest : t.greatest ≡ s.greatest
  pub earlier : t.earlier ≡ s.earlier
  pub view : t.view ≡ s.view
  pub joining : t.joining ≡ s.joining
  pub log : t.log ≡ s.log
  pub floor : t.floor ≡ s.floor
  pub repaired : t.repaired ≡ s.repaired
  pub firm : t.firm ≡ s.firm

pub still-same : (s t : SiteState) → t ≡ s → SiteStays s t
still-same s t e = subst (SiteStays s) (sym e) search

-- It runs on in its word, a member as one, and a joiner as one.
pub record RunsOn (s t : SiteState) : Type 0 where
  pub start : t.start ≡ s.start
  pub greatest : t.greatest ≡ s.greatest
  pub earlier : t.earlier ≡ s.earlier
  pub view : t.view ≡ s.view
  pub member : s.joining ≡ None → t.joining ≡ None
  pub joins : (j : Joining) → s.joining ≡ Some j → (k : Joining) × (t.joining ≡ Some k)

pub was-member : (s t : SiteState) → RunsOn s t → t.joining ≡ None → s.joining ≡ None
was-member s t on none = elim (none-or-some s.joining) [ inl e ↦ e | inr (j, e) ↦ absurd (none-and-some none (on.joins j e).1) ]

pub was-joiner : (s t : SiteState) → RunsOn s t → (k : Joining) → t.joining ≡ Some k → (j : Joining) × (s.joining ≡ Some j)
was-joiner s t on k is = elim (none-or-some s.joining) [ inl e ↦ absurd (none-and-some (on.member e) is) | inr (j, e) ↦ (j, e) ]

-- slot l counts no joiner of this start of a slot
abbrev pub Uncounted : LogState → ℕ → ℕ → ℕ → Type 0
Uncounted S l c a = (j : Joiner) → In j (S.sites l).joiners → j.slot ≡ c → j.start ≡ a → ⊥

-- To slot c from slot l in this term: what is under way, what was asked and whether l counts it.
pub record SameFrom (S T : LogState) (c l t : ℕ) : Type 0 where
  pub lines : line (site_start S c) t (between T l c) ≡ line (site_start S c) t (between S l c)
  pub flows : flow (site_start S c) t (between T l c) ≡ flow (site_start S c) t (between S l c)
  pub ends : stream_ends_in (site_start S c) t (between S l c) ≡ [] → stream_ends_in (site_start S c) t (between T l c) ≡ []
  pub asks : AtMost (asked S c l t) (asked T c l t)
  pub uncounted : Uncounted S l c (site_start S c) → Uncounted T l c (site_start S c)

-- of a partition in a term
pub record SameTerm (S T : LogState) (p t : ℕ) : Type 0 where
  pub leadership : T.logs.leadership p t ≡ S.logs.leadership p t
  pub reach : T.logs.reach p t ≡ S.logs.reach p t

-- What a site keeps is the same, but for what waits.
pub record SameKept (s t : SiteState) : Type 0 where
  pub acks : t.acks ≡ s.acks
  pub reports : t.reports ≡ s.reports
  pub joiners : t.joiners ≡ s.joiners
  pub asks : t.asks ≡ s.asks
  pub on_disk : t.on_disk ≡ s.on_disk
  pub held : AllByRecursion HeldOk s.held → AllByRecursion HeldOk t.held

pub kept-same : (s t : SiteState) → t ≡ s → SameKept s t
kept-same s t e = subst (SameKept s) (sym e) search

-- nothing waits, was asked or is counted at a site
abbrev pub KeepsNone : LogState → ℕ → Type 0
KeepsNone S c = ((S.sites c).waiting ≡ []) × ((S.sites c).asks ≡ []) × ((S.sites c).joiners ≡ []) × (S.pending c ≡ [])

-- a slot's own history with the start that it has
pub record SameRun (S T : LogState) (c : ℕ) : Type 0 where
  pub entered : (t : ℕ) (e : Entered) → T.logs.entered c t ≡ Some e → e.start ≡ site_start S c → S.logs.entered c t ≡ Some e
  pub streamed : (t : ℕ) (x : Streaming) → T.logs.streamed c t ≡ Some x → x.start ≡ site_start S c → S.logs.streamed c t ≡ Some x

-- ---- who is counted

-- slot l, while it is in this word, counts it
abbrev pub CountedBy : LogState → ℕ → ℕ → ℕ → Membership → ℕ → Type 0
CountedBy S c a stream_start w l =
    0 < site_start S l → (S.sites l).joining ≡ None → (S.sites l).view ≡ Some w → (j : Joiner) × In j (S.sites l).joiners × (j.slot ≡ c) × (j.start ≡ a) × (j.stream_start ≡ stream_start)

pub counted_by-same : (S T : LogState) (c a stream_start : ℕ) (w : Membership) (l : ℕ) → T.sites l ≡ S.sites l → CountedBy S c a stream_start w l → CountedBy T c a stream_start w l
counted_by-same S T c a stream_start w l e k = λ up joining view.
    let r = k (subst (λ s. 0 < s.start) e up) (ap (λ s. s.joining) (sym e) ∙ joining) (ap (λ s. s.view) (sym e) ∙ view) in
    (r.0, subst (λ s. In r.0 s.joiners) (sym e) r.1, r.2, r.3, r.4)

module _ (S T : LogState) (H : LogsHold S) (f : LogsLater S T) where
  -- by each leader
  pub counted-keeps : (c a stream_start : ℕ) (w : Membership) → ((l : ℕ) → CountedBy S c a stream_start w l → CountedBy T c a stream_start w l) → IsCounted S c a stream_start w → IsCounted T c a stream_start w
  counted-keeps c a stream_start w each k l authoritative = each l (k l (leads-before c l w authoritative))
    where
      leads-before : (c l : ℕ) (w : Membership) → leader T.words.deployment w (part T c) ≡ Some l → leader S.words.deployment w (part S c) ≡ Some l
      leads-before c l w authoritative = rw (f.words.deployment) at authoritative

  -- where at most slot i changes, and it counts whom it counted
  pub counted-from : (i : ℕ) → ((l : ℕ) → (l ≡ i → ⊥) → T.sites l ≡ S.sites l) → (c a stream_start : ℕ) (w : Membership)
      → (CountedBy S c a stream_start w i → CountedBy T c a stream_start w i) → IsCounted S c a stream_start w → IsCounted T c a stream_start w
  counted-from i others c a stream_start w mine = counted-keeps c a stream_start w (one-and-others _ i mine (λ l d. counted_by-same S T c a stream_start w l (others l d)))

-- ---- a slot

-- It runs on, where what it is, and what it keeps, is given anew.
pub site-runs : (S T : LogState) → LogsHold S → LogsLater S T → (c : ℕ) → RunsOn (S.sites c) (T.sites c) → T.logs.ran c ≡ S.logs.ran c
    → (0 < site_start S c → (S.sites c).joining ≡ None → (w : Membership) → (S.sites c).view ≡ Some w → MemberOk S c w → MemberOk T c w)
    → ((j k : Joining) → (S.sites c).joining ≡ Some j → (T.sites c).joining ≡ Some k → JoinerOk S c j → JoinerOk T c k)
    → (0 < site_start S c → KeepsOk S c → KeepsOk T c) → (site_start S c ≡ 0 → KeepsNone S c → KeepsNone T c) → SiteOk S c → SiteOk T c
site-runs S T H f c on ran member joiner keeps stopped k = record {
  environment = λ e. on.start ∙ k.environment (rw (f.words.deployment) at e);
  ran = λ up. rw (ran, on.start) (k.ran (rw (on.start) at up));
  term = rw (on.view, on.greatest) k.term;
  earlier = rw (on.earlier, on.greatest) k.earlier;
  member = λ up e. let old = rw (on.start) at up in let none = was-member (S.sites c) (T.sites c) on e in
      let m = k.member old none in (m.0, on.view ∙ m.1, member old none m.0 m.1 m.2);
  joiner = λ j e. let b = was-joiner (S.sites c) (T.sites c) on j e in joiner b.0 j b.1 e (k.joiner b.0 b.1);
  keeps = λ up. let old = rw (on.start) at up in keeps old (k.keeps old);
  stopped = λ e. stopped (sym on.start ∙ e) (k.stopped (sym on.start ∙ e));
  blank = λ e. on.view ∙ k.blank (sym on.start ∙ e);
}

-- ---- a member

-- these look at whether a site is repaired, and at its log
pub follows_in-same : (s t : SiteState) (ln : List Line) (o : Option Leadership) → t.repaired ≡ s.repaired → t.log ≡ s.log → FollowsIn s ln o → FollowsIn t ln o
follows_in-same s t ln None r l k = (r ∙ k.0, k.1)
follows_in-same s t ln (Some g) r l (inl (es, repaired, is, whole, prefix)) = inl (es, r ∙ repaired, is, rw l whole, rw l prefix)
follows_in-same s t ln (Some g) r l (inr (es, repaired, is, whole)) = inr (es, r ∙ repaired, rw l is, whole)

pub leads_in-same : (s t : SiteState) (o : Option Leadership) → t.repaired ≡ s.repaired → t.log ≡ s.log → LeadsIn s o → LeadsIn t o
leads_in-same s t None r l k = r ∙ k
leads_in-same s t (Some g) r l k = (r ∙ k.0, l ∙ k.1)

module _ (S T : LogState) (H : LogsHold S) (f : LogsLater S T) (c : ℕ) (site : SiteStays (S.sites c) (T.sites c)) where
  pub term-still : term_at T c ≡ term_at S c
  term-still = ap term_in site.view

  leader-before : (w : Membership) (l : ℕ) → leader T.words.deployment w (part T c) ≡ Some l → leader S.words.deployment w (part S c) ≡ Some l
  leader-before w l e = rw (f.words.deployment) at e

  follows-before : (w : Membership) (l : ℕ) (b : Bool) → follows T.words.deployment w c l ≡ b → follows S.words.deployment w c l ≡ b
  follows-before w l b e = rw (f.words.deployment) at e

  -- where all that it looks at is given anew
  pub member-keeps-with : (w : Membership) → MemberOk S c w
      → (leader S.words.deployment w (part S c) ≡ Some c → LeadsIn (S.sites c) (S.logs.leadership (part S c) (term_of w))
      → LeadsIn (S.sites c) (T.logs.leadership (part S c) (term_of w)))
      → ((l : ℕ) → follows S.words.deployment w c l ≡ true → FollowsIn (S.sites c) (line (site_start S c) (term_of w) (between S l c)) (S.logs.leadership (part S c) (term_of w))
      → FollowsIn (S.sites c) (line (site_start S c) (term_of w) (between T l c)) (T.logs.leadership (part S c) (term_of w)))
      → ((l : ℕ) → follows S.words.deployment w c l ≡ false → line (site_start S c) (term_of w) (between S l c) ≡ []
      → line (site_start S c) (term_of w) (between T l c) ≡ [])
      → MemberOk T c w
  member-keeps-with w k leading following others = record {
    decided = f.words.decided w k.decided;
    start_is = start-later S T H f w c ∙ k.start_is ∙ ap Some (sym site.start);
    entered = k.entered;
    is_entered = f.entered c (term_of w) k.entered k.is_entered;
    since = k.since ∙ sym site.start;
    earlier = rw (site.earlier) k.earlier;
    grown = rw (site.log) k.grown;
    still = λ e. let r = k.still (sym site.repaired ∙ e) in (site.log ∙ r.0, site.floor ∙ r.1, site.firm ∙ r.2);
    floor = rw (site.floor, part-later S T H f c) (let a = k.floor in let b = f.reach (part S c) (term_of w) in omega (arith, a, b));
    firm = rw (site.firm, part-later S T H f c) (let a = k.firm in let b = f.reach (part S c) (term_of w) in omega (arith, a, b));
    leading = λ e. rw (part-later S T H f c) (leads_in-same (S.sites c) (T.sites c) (T.logs.leadership (part S c) (term_of w)) site.repaired site.log
        (leading (leader-before w c e) (k.leading (leader-before w c e))));
    following = λ l e. rw (part-later S T H f c, site.start)
        (follows_in-same (S.sites c) (T.sites c) (line (site_start S c) (term_of w) (between T l c)) (T.logs.leadership (part S c) (term_of w)) site.repaired site.log
        (following l (follows-before w l true e) (k.following l (follows-before w l true e))));
    others = λ l e. rw (site.start) (others l (follows-before w l false e) (k.others l (follows-before w l false e)));
  }

  -- where all is the same
  pub member-keeps : (w : Membership) → MemberOk S c w
      → ((l : ℕ) → line (site_start S c) (term_of w) (between T l c) ≡ line (site_start S c) (term_of w) (between S l c))
      → T.logs.leadership (part S c) (term_of w) ≡ S.logs.leadership (part S c) (term_of w) → MemberOk T c w
  member-keeps w k lines leadership = member-keeps-with w k
      (λ e p. rw leadership p)
      (λ l e p. rw (lines l, leadership) p)
      (λ l e p. lines l ∙ p)

  -- where all but what comes from slot i is the same
  pub member-keeps-from : (i : ℕ) (w : Membership) → MemberOk S c w
      → ((l : ℕ) → (l ≡ i → ⊥) → line (site_start S c) (term_of w) (between T l c) ≡ line (site_start S c) (term_of w) (between S l c))
      → (follows S.words.deployment w c i ≡ false → T.logs.leadership (part S c) (term_of w) ≡ S.logs.leadership (part S c) (term_of w))
      → (follows S.words.deployment w c i ≡ true → FollowsIn (S.sites c) (line (site_start S c) (term_of w) (between S i c)) (S.logs.leadership (part S c) (term_of w))
      → FollowsIn (S.sites c) (line (site_start S c) (term_of w) (between T i c)) (T.logs.leadership (part S c) (term_of w)))
      → (follows S.words.deployment w c i ≡ false → line (site_start S c) (term_of w) (between S i c) ≡ []
      → line (site_start S c) (term_of w) (between T i c) ≡ [])
      → MemberOk T c w
  member-keeps-from i w k lines leadership mine none = member-keeps-with w k leading following others
    where
      D : Deployment
      D = S.words.deployment

      same-leadership : (l : ℕ) → (l ≡ i → ⊥) → leader D w (part S c) ≡ Some l → T.logs.leadership (part S c) (term_of w) ≡ S.logs.leadership (part S c) (term_of w)
      same-leadership l d e = leadership (rw e (is-none (i == c)))
        where
          is-none : (b : Bool) → (l == i && not b) ≡ false
          is-none b = rw (ne_eqb l i d) refl

      leading : leader D w (part S c) ≡ Some c → LeadsIn (S.sites c) (S.logs.leadership (part S c) (term_of w)) → LeadsIn (S.sites c) (T.logs.leadership (part S c) (term_of w))
      leading e p = rw (leadership (rw e (self c i))) p
        where
          eqb_swap : (x y : ℕ) → (x == y) ≡ true → (y == x) ≡ true
          eqb_swap x y q = eq-eqb y x (sym (eqb-true x y q))

          self : (x y : ℕ) → (x == y && not (y == x)) ≡ false
          self x y = elim (cases_Bool (x == y)) [ inl q ↦ rw (q, eqb_swap x y q) refl | inr q ↦ rw q refl ]

      following : (l : ℕ) → follows D w c l ≡ true → FollowsIn (S.sites c) (line (site_start S c) (term_of w) (between S l c)) (S.logs.leadership (part S c) (term_of w))
          → FollowsIn (S.sites c) (line (site_start S c) (term_of w) (between T l c)) (T.logs.leadership (part S c) (term_of w))
      following = one-and-others _ i mine (λ l d e p. rw (lines l d, same-leadership l d (follows-leader D w c l e).0) p)

      others : (l : ℕ) → follows D w c l ≡ false → line (site_start S c) (term_of w) (between S l c) ≡ [] → line (site_start S c) (term_of w) (between T l c) ≡ []
      others = one-and-others _ i none (λ l d e p. lines l d ∙ p)

  -- ---- a joiner

  -- one to which nothing is under way
  pub inert-keeps : (w : Membership) (l : ℕ) → SameFrom S T c l (term_of w) → Inert S c w l → Inert T c w l
  inert-keeps w l same k = record {
    flow_is = rw (site.start) (same.flows ∙ k.flow_is);
    ends_are = rw (site.start) (same.ends k.ends_are);
    uncounted = λ j is slot start. same.uncounted k.uncounted j is slot (start ∙ site.start);
    asks = λ slot. elim (k.asks (slot-before S T H f l slot)) [
      | inl e ↦ inl (at-most-none (asked S c l (term_of w)) (asked T c l (term_of w)) e same.asks)
      | inr e ↦ elim (at-most-one (asked S c l (term_of w)) (asked T c l (term_of w)) (site_start S c) e same.asks) [
        | inl n ↦ inl n
        | inr n ↦ inr (n ∙ ap (λ z. z ∷ []) (sym site.start))
      ]
    ];
  }

  -- one to which a stream is
  pub coming-keeps : (w : Membership) (fl : List Flow) → SameTerm S T (part S c) (term_of w)
      → ((stream_start : ℕ) → IsCounted S c (site_start S c) stream_start w → IsCounted T c (site_start S c) stream_start w) → Coming S c w fl → Coming T c w fl
  coming-keeps w fl same counted k = record {
    past = k.past;
    more = k.more;
    leadership = k.leadership;
    flow_is = k.flow_is;
    led = rw (part-later S T H f c) (same.leadership ∙ k.led);
    whole = k.whole;
    behind = k.behind;
    reach = rw (part-later S T H f c, same.reach) k.reach;
    counted = rw (site.start) (counted (length k.past) k.counted);
  }

  -- one that took it
  pub took-keeps : (w : Membership) (j : Joining) (stream_start : ℕ) → SameTerm S T (part S c) (term_of w) → ((l : ℕ) → SameFrom S T c l (term_of w))
      → Took S c w j stream_start → Took T c w j stream_start
  took-keeps w j stream_start same each k = record {
    from = k.from;
    following = rw (f.words.deployment) k.following;
    more = k.more;
    leadership = k.leadership;
    led = rw (part-later S T H f c) (same.leadership ∙ k.led);
    flow_is = rw (site.start) ((each k.from).flows ∙ k.flow_is);
    whole = rw (site.log) k.whole;
    streamed = f.streamed c (term_of w) (record { start = site_start S c; stream_start = stream_start }) k.streamed ∙ ap (λ s. Some (record { start = s; stream_start = stream_start })) (sym site.start);
    loading = λ e. rw (site.log) (k.loading e);
    loaded = k.loaded;
    ends = λ e. rw (part-later S T H f c) (let a = k.ends e in let b = f.reach (part S c) (term_of w) in omega (arith, a, b));
    floor = site.floor ∙ k.floor;
    asks = λ l slot. at-most-none (asked S c l (term_of w)) (asked T c l (term_of w)) (k.asks l (slot-before S T H f l slot)) (each l).asks;
  }

  pub never-keeps : SameRun S T c → NoStream S c → NoStream T c
  never-keeps run k t x is start = k t x (run.streamed t x is (start ∙ site.start)) (start ∙ site.start)

  -- one that hasn't
  pub untaken-keeps-with : (w : Membership) (j : Joining) → SameRun S T c
      → ((l : ℕ) → follows S.words.deployment w c l ≡ true → (S.sites c).earlier < term_of w
      → Inert S c w l ⊎ (Coming S c w (flow (site_start S c) (term_of w) (between S l c)) × (asked S c l (term_of w) ≡ []))
      → Inert T c w l ⊎ (Coming T c w (flow (site_start S c) (term_of w) (between T l c)) × (asked T c l (term_of w) ≡ [])))
      → Untaken S c w j → Untaken T c w j
  untaken-keeps-with w j run comes k = record {
    loads = k.loads;
    counts = k.counts;
    tasks = k.tasks;
    empty = site.log ∙ k.empty;
    floor = site.floor ∙ k.floor;
    never = never-keeps run k.never;
    comes = λ l e low. let below = rw site.earlier at low in
        rw (site.start) (comes l (follows-before w l true e) below (k.comes l (follows-before w l true e) below));
  }

  -- where what it looks at is given anew
  pub in_word-keeps-with : (w : Membership) (j : Joining) → SameRun S T c
      → ((l : ℕ) → line (site_start S c) (term_of w) (between S l c) ≡ [] → line (site_start S c) (term_of w) (between T l c) ≡ [])
      → ((l : ℕ) → follows S.words.deployment w c l ≡ false → flow (site_start S c) (term_of w) (between S l c) ≡ [] → stream_ends_in (site_start S c) (term_of w) (between S l c) ≡ []
      → (flow (site_start S c) (term_of w) (between T l c) ≡ []) × (stream_ends_in (site_start S c) (term_of w) (between T l c) ≡ []))
      → ((l : ℕ) → AtMost (asked S c l (term_of w)) (asked T c l (term_of w)))
      → ((l : ℕ) → follows S.words.deployment w c l ≡ true → (S.sites c).earlier < term_of w
      → Inert S c w l ⊎ (Coming S c w (flow (site_start S c) (term_of w) (between S l c)) × (asked S c l (term_of w) ≡ []))
      → Inert T c w l ⊎ (Coming T c w (flow (site_start S c) (term_of w) (between T l c)) × (asked T c l (term_of w) ≡ [])))
      → ((stream_start : ℕ) → Took S c w j stream_start → Took T c w j stream_start)
      → InWord S c w j → InWord T c w j
  in_word-keeps-with w j run lines other asks comes took k = record {
    took = f.words.took_word (site_start T c) w (rw (site.start) k.took);
    lines = λ l. rw (site.start) (lines l (k.lines l));
    others = λ l e. let o = k.others l (follows-before w l false e) in
        let n = other l (follows-before w l false e) o.0 o.1 in (
          rw (site.start) n.0,
          rw (site.start) n.1,
          λ slot low. at-most-none (asked S c l (term_of w)) (asked T c l (term_of w)) (o.2 (slot-before S T H f l slot) (rw (site.earlier) at low)) (asks l),
        );
    stream = stream j.stream k.stream;
  }
    where
      stream : (o : Option Streamed) → StreamIn S c w j o → StreamIn T c w j o
      stream None u = untaken-keeps-with w j run comes u
      stream (Some st) u = took st.stream_start u

  pub joiner-keeps-with : (j : Joining) → SameRun S T c → ((w : Membership) → (S.sites c).view ≡ Some w → InWord S c w j → InWord T c w j) → JoinerOk S c j → JoinerOk T c j
  joiner-keeps-with j run word k = record {
    runs = rw (site.start) k.runs;
    unentered = λ t e is start. k.unentered t e (run.entered t e is (start ∙ site.start)) (start ∙ site.start);
    told = k.told;
    based = k.based;
    firm = site.firm ∙ k.firm;
    view = rw (site.view) (view (S.sites c).view refl k.view);
  }
    where
      view : (o : Option Membership) → (S.sites c).view ≡ o → ViewIn S c j o → ViewIn T c j o
      view None e v = search (site.log ∙ v.empty, site.floor ∙ v.floor, never-keeps run v.never)
      view (Some w) e v = word w e v

  -- where all is the same
  pub joiner-keeps : (j : Joining) → SameRun S T c → SameTerm S T (part S c) (term_at S c) → ((l : ℕ) → SameFrom S T c l (term_at S c))
      → ((stream_start : ℕ) (w : Membership) → IsCounted S c (site_start S c) stream_start w → IsCounted T c (site_start S c) stream_start w)
      → JoinerOk S c j → JoinerOk T c j
  joiner-keeps j run term each counted = joiner-keeps-with j run (λ w e. let same = subst (λ o. SameTerm S T (part S c) (term_in o)) e term in
      let from = subst (λ o. (l : ℕ) → SameFrom S T c l (term_in o)) e each in
      in_word-keeps-with w j run
      (λ l z. (from l).lines ∙ z)
      (λ l _ z e. ((from l).flows ∙ z, (from l).ends e))
      (λ l. (from l).asks)
      (λ l _ _ z. elim z [
        | inl q ↦ inl (inert-keeps w l (from l) q)
        | inr q ↦ inr (
          rw ((from l).flows) (coming-keeps w (flow (site_start S c) (term_of w) (between S l c)) same (λ stream_start. counted stream_start w) q.0),
          at-most-none (asked S c l (term_of w)) (asked T c l (term_of w)) q.1 (from l).asks,
        )
      ])
      (λ stream_start. took-keeps w j stream_start same from))

  -- ---- what a site keeps

  pub keeps-with : SameKept (S.sites c) (T.sites c)
      → ((a : Ask) → AsksToJoin S (part S c) a.slot (term_at S c) a.start → AsksToJoin T (part S c) a.slot (term_at S c) a.start)
      → AllByRecursion (SiteWaitingOk T c) (T.sites c).waiting → AllByRecursion (SiteWaitingOk T c) (T.pending c) → KeepsOk S c → KeepsOk T c
  keeps-with same asks waiting pending k = keeps-at S T H f c (T.sites c) refl term-still (rw same.acks k.acks) (rw same.reports k.reports)
      (rw same.joiners (counteds-later S T H f (part S c) (term_at S c) (S.sites c).joiners k.joiners)) (rw same.joiners k.alone)
      (elim k.leads [ inl e ↦ inl (same.joiners ∙ e) | inr e ↦ inr (rw (site.joining, site.view) e) ])
      (rw same.asks (all-mono (λ a. AsksToJoin S (part S c) a.slot (term_at S c) a.start) (λ a. AsksToJoin T (part S c) a.slot (term_at S c) a.start) asks (S.sites c).asks k.asks))
      waiting pending (rw (same.on_disk, site.log) k.on_disk) (same.held k.held)

  -- where the site is as it was, and starts that ask and run on join on
  pub keeps-later : T.sites c ≡ S.sites c → T.pending c ≡ S.pending c → ((i : ℕ) → Stays S T i → 0 < site_start T i → JoinsOn S T i) → KeepsOk S c → KeepsOk T c
  keeps-later same pending on k = keeps-with (kept-same (S.sites c) (T.sites c) same)
      (λ a. ask-later-on S T H f (part S c) a.slot (term_at S c) a.start (on a.slot))
      (subst (λ x. AllByRecursion (SiteWaitingOk T c) x.waiting) (sym same)
      (all-mono (SiteWaitingOk S c) (SiteWaitingOk T c) (waiting-later-on S T H f c site.start on) (S.sites c).waiting k.waiting))
      (subst (AllByRecursion (SiteWaitingOk T c)) (sym pending)
      (all-mono (SiteWaitingOk S c) (SiteWaitingOk T c) (waiting-later-on S T H f c site.start on) (S.pending c) k.pending)) k

  -- ---- a slot

  pub site-keeps-with : T.logs.ran c ≡ S.logs.ran c
      → (0 < site_start S c → (S.sites c).joining ≡ None → (w : Membership) → (S.sites c).view ≡ Some w → MemberOk S c w → MemberOk T c w)
      → ((j : Joining) → (S.sites c).joining ≡ Some j → JoinerOk S c j → JoinerOk T c j)
      → (0 < site_start S c → KeepsOk S c → KeepsOk T c) → (site_start S c ≡ 0 → KeepsNone S c → KeepsNone T c) → SiteOk S c → SiteOk T c
  site-keeps-with ran member joiner = site-runs S T H f c (record { start = site.start; greatest = site.greatest; earlier = site.earlier; view = site.view; member = λ e. site.joining ∙ e; joins = λ j e. (j, site.joining ∙ e) })
      ran member (λ j k is e o. subst (JoinerOk T c) (same-some (sym is ∙ sym site.joining ∙ e)) (joiner j is o))

  -- where all is the same
  pub site-keeps : T.logs.ran c ≡ S.logs.ran c → SameRun S T c → SameTerm S T (part S c) (term_at S c) → (0 < site_start S c → (l : ℕ) → SameFrom S T c l (term_at S c))
      → ((stream_start : ℕ) (w : Membership) → IsCounted S c (site_start S c) stream_start w → IsCounted T c (site_start S c) stream_start w)
      → (0 < site_start S c → KeepsOk S c → KeepsOk T c) → (site_start S c ≡ 0 → KeepsNone S c → KeepsNone T c) → SiteOk S c → SiteOk T c
  site-keeps ran run term each counted keeps stopped = site-keeps-with ran
      (λ up none w e m. member-keeps w m
      (subst (λ o. (l : ℕ) → line (site_start S c) (term_in o) (between T l c) ≡ line (site_start S c) (term_in o) (between S l c)) e (λ l. (each up l).lines))
      (subst (λ o. T.logs.leadership (part S c) (term_in o) ≡ S.logs.leadership (part S c) (term_in o)) e term.leadership))
      (λ j e k. joiner-keeps j run term (each k.runs) counted k)
      keeps stopped
