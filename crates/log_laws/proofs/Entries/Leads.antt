-- The leader of a term that has begun appends an entry, and sends it to the copies and the joiners.
use Rattle.log_laws.proofs.Names.{◌≡◌, ◌<◌, true, false, List, [], ◌∷◌, ◌++◌, append_assoc, append-nil, refl, sym, subst, ap, ◌∙◌, ◌⊎◌, inl, inr, true≢false, arith, cases_eq, ℕ, ◌≤◌, map, drop, length, Option, Some, None, AllByRecursion, Entry, Membership, Actor, Agent, Site, Database, Deployment, is_in, leader, start_of_slot, term_of, term_in, SiteState, Joining, Joiner, Scanning, site_term, start_in_view, is_leader, leads, other_copies, Sends, leads_with, In, Prefix, all-append, not-both, same-some, none-and-some, all-at, set-both, put_letter, task_letter, leads-parts, leader-view, prefix-append, prefix-length, grown, Passed, leads-with, flat_map-append, map-append, LogState, Logs, Leadership, Line, Repairs, Puts, Flow, Begins, Follows, FollowsIn, LeadsIn, Coming, Took, Inert, InWord, JoinerOk, MemberOk, CountedOk, IsCounted, IsSlot, SiteLetterOk, ForeignOk, ToldOk, BeginsAt, LogsHold, follows, line, flow, stream_ends_in, asked, between, part, site_start, log_at, term_at, end_of, flow_of, line_of}
use Rattle.log_laws.proofs.Plain.{leader-follows-none, is-leader, start-in-view, other-copy, copy-other, follows-part, follows-one, leader-followed, passed-line, passed-line-other, passed-flow, passed-flow-other, passed-ends, passed-all, passed-follows, flat-same, one-and-others}
use Rattle.log_laws.proofs.Kept.{LogsLater, SameLeaderships, NoStreamStart, LogsGo, after_site, grown-at, enters-same, sent-either, here, there, between-here, between-there, same-word, some-term, leadership-entered, took-decided, took-unnamed, at-most-is, SiteStays, SameFrom, SameTerm, SameRun, Uncounted, still-same, member-keeps-from, counted-from, inert-keeps, coming-keeps, took-keeps, in_word-keeps-with, joiner-keeps-with, put_at, put-both, put-here, put-there, Carries, grew-later, grew-member, grew-holds, asked_of}
use Rattle.log_laws.proofs.Kept.Moves.{Grown}

-- ---- the history of the leader's term

-- its log with one entry more
abbrev pub longer : Leadership → Entry → Leadership
longer g e = record g { log = g.log ++ e ∷ [] }

-- where the log of what a term is led with has grown
pub longer-same : (G : Logs) (p t : ℕ) (g h : Leadership) → G.leadership p t ≡ Some g → h.begun ≡ g.begun → Prefix g.log h.log
    → SameLeaderships G (record G { leadership = put_at G.leadership p t (Some h) })
longer-same G p t g h led begun more = record {
  kept = put-both (λ q u o. (f : Leadership) → G.leadership q u ≡ Some f → (n : Leadership) × (o ≡ Some n) × (n.begun ≡ f.begun) × Prefix f.log n.log) G.leadership p t (Some h)
      (λ f is. let o = same-some (sym led ∙ is) in (h, refl, begun ∙ ap (λ x. x.begun) o, subst (λ x. Prefix x.log h.log) o more))
      (λ q u _ f is. (f, is, refl, ([], sym (append-nil f.log))));
  none = put-both (λ q u o. G.leadership q u ≡ None → o ≡ None) G.leadership p t (Some h) (λ is. absurd (none-and-some is led)) (λ q u _ is. is);
}

-- ---- who leads

-- A site that leads: the term of its word has begun with it.
pub record Leading (T : LogState) (i : ℕ) : Type 0 where
  pub joins : (T.sites i).joining ≡ None
  pub word : Membership
  pub view : (T.sites i).view ≡ Some word
  pub first : leader T.words.deployment word (part T i) ≡ Some i
  pub repaired : (T.sites i).repaired ≡ true
  pub member : MemberOk T i word
  pub leadership : Leadership
  pub led : T.logs.leadership (part T i) (term_of word) ≡ Some leadership
  pub log : log_at T i ≡ leadership.log

pub leading : (T : LogState) (i : ℕ) → LogsHold T → 0 < site_start T i → leads T.words.deployment i (T.sites i) ≡ true → Leading T i
leading T i H up authoritative = begun (T.logs.leadership (part T i) (term_of m.0)) refl (m.2.leading first)
  where
    s : SiteState
    s = T.sites i

    tests : (is_leader T.words.deployment i s ≡ true) × (s.repaired ≡ true)
    tests = leads-parts T.words.deployment i s authoritative

    joins : s.joining ≡ None
    joins = (leader-view T.words.deployment i s tests.0).0

    m : (w : Membership) × (s.view ≡ Some w) × MemberOk T i w
    m = (H.sites i).member up joins

    first : leader T.words.deployment m.0 (part T i) ≡ Some i
    first = (is-leader T.words.deployment i s m.0 m.1 tests.0).1

    begun : (r : Option Leadership) → T.logs.leadership (part T i) (term_of m.0) ≡ r → LeadsIn s (T.logs.leadership (part T i) (term_of m.0)) → Leading T i
    begun None e k = absurd (true≢false (sym tests.1 ∙ subst (λ r. LeadsIn s r) e k))
    begun (Some g) e k = record {
      joins = joins;
      word = m.0;
      view = m.1;
      first = first;
      repaired = tests.1;
      member = m.2;
      leadership = g;
      led = e;
      log = (subst (λ r. LeadsIn s r) e k).1;
    }

-- ---- with one entry more

-- what a copy follows
pub follows-longer : (s : SiteState) (ln : List Line) (g : Leadership) (e : Entry) → FollowsIn s ln (Some g) → FollowsIn s (ln ++ Puts e ∷ []) (Some (longer g e))
follows-longer s ln g e (inl (es, repaired, line_is, log_is, behind)) = inl (
  es ++ e ∷ [],
  repaired,
  ap (λ x. x ++ Puts e ∷ []) line_is ∙ sym (map-append Puts es (e ∷ [])),
  sym (append_assoc s.log es (e ∷ [])) ∙ ap (λ x. x ++ e ∷ []) log_is,
  behind,
)
follows-longer s ln g e (inr (es, unrepaired, line_is, log_is)) = inr (
  es ++ e ∷ [],
  unrepaired,
  ap (λ x. x ++ Puts e ∷ []) line_is ∙ ap (λ x. Repairs (length s.log) (drop (length s.log) g.begun) ∷ x) (sym (map-append Puts es (e ∷ []))),
  sym (append_assoc g.begun es (e ∷ [])) ∙ ap (λ x. x ++ e ∷ []) log_is,
)

-- ---- the state behind it

-- nothing is under way to a joiner, or a stream
abbrev ComesNext : LogState → ℕ → ℕ → Membership → ℕ → Type 0
ComesNext S a c w l = Inert S c w l ⊎ (Coming S c w (flow a (term_of w) (between S l c)) × (asked S c l (term_of w) ≡ []))

module _ (T : LogState) (i : ℕ) (e : Entry) (H : LogsHold T) (up : 0 < site_start T i) (k : Leading T i) (scans : ℕ) (scanning : Option Scanning) (out : Sends)
    (passed : Passed T.words.deployment i e (grown (T.sites i) (e ∷ []) scans scanning) out) where
  abbrev state : SiteState
  state = grown (T.sites i) (e ∷ []) scans scanning

  abbrev logs : Logs
  logs = record T.logs { leadership = put_at T.logs.leadership (part T i) (term_of k.word) (Some (longer k.leadership e)) }

  abbrev next : LogState
  next = after_site T i state out logs

  -- where it has no term but its own
  term-is : (t : ℕ) → site_term state ≡ t → t ≡ term_of k.word
  term-is t e = sym e ∙ ap term_in k.view

  -- whom it sends a Put, and whom a Task
  copy-in : (c : ℕ) → is_in c (other_copies T.words.deployment i state) ≡ true
      → (c ≡ i → ⊥) × (part T c ≡ part T i) × ((a : ℕ) × (start_of_slot T.words.deployment k.word c ≡ Some a))
  copy-in c is = other-copy T.words.deployment i state k.word k.view c is

  -- ---- what only grows

  later : LogsLater T next
  later = grew-later T H i (e ∷ []) (T.sites i).floor (T.sites i).repaired (T.sites i).owes scans scanning next.words.channel logs.leadership

  same-leaderships : SameLeaderships T.logs logs
  same-leaderships = longer-same T.logs (part T i) (term_of k.word) k.leadership (longer k.leadership e) k.led refl (e ∷ [], refl)

  -- ---- what is under way

  line-else : (c start term l : ℕ) → (l ≡ i → line start term (out (Site c)) ≡ []) → line start term (between next l c) ≡ line start term (between T l c)
  line-else c start term = one-and-others _ i
      (λ none. ap (line start term) (between-here T i state out logs c) ∙ flat-same (line_of start term) (between T i c) (out (Site c)) (none refl))
      (λ l n none. ap (line start term) (between-there T i state out logs l c n))

  -- ---- its term

  leadership-apart : (c t : ℕ) → (part T c ≡ part T i → t ≡ term_of k.word → ⊥) → logs.leadership (part T c) t ≡ T.logs.leadership (part T c) t
  leadership-apart c t n = put-there T.logs.leadership (part T i) (term_of k.word) (Some (longer k.leadership e)) (part T c) t n

  leadership-own : (c : ℕ) → part T c ≡ part T i → logs.leadership (part T c) (term_of k.word) ≡ Some (longer k.leadership e)
  leadership-own c p = ap (λ q. logs.leadership q (term_of k.word)) p ∙ put-here T.logs.leadership (part T i) (term_of k.word) (Some (longer k.leadership e))

  leadership-before : (c : ℕ) → part T c ≡ part T i → T.logs.leadership (part T c) (term_of k.word) ≡ Some k.leadership
  leadership-before c p = ap (λ q. T.logs.leadership q (term_of k.word)) p ∙ k.led

  -- of a decided word: a slot that doesn't follow the leader by it is of another partition or term
  word-is : (w : Membership) → In w T.words.history.decided → term_of w ≡ term_of k.word → w ≡ k.word
  word-is w d t = same-word T H (term_of k.word) w k.word (record { decided = d; term_is = t }) (record { decided = k.member.decided; term_is = refl })

  apart : (c : ℕ) → (c ≡ i → ⊥) → (w : Membership) → In w T.words.history.decided → follows T.words.deployment w c i ≡ false
      → part T c ≡ part T i → term_of w ≡ term_of k.word → ⊥
  apart c other w d f p t = not-both (follows T.words.deployment w c i)
      (subst (λ v. follows T.words.deployment v c i ≡ true) (sym (word-is w d t)) (leader-followed T.words.deployment k.word i c k.first p other)) f

  -- ---- copies

  -- one that follows the leader in its term gets the entry
  copy-gets : (c : ℕ) → (c ≡ i → ⊥) → part T c ≡ part T i → MemberOk T c k.word
      → FollowsIn (T.sites c) (line (site_start T c) (term_of k.word) (between T i c)) (T.logs.leadership (part T c) (term_of k.word))
      → FollowsIn (T.sites c) (line (site_start T c) (term_of k.word) (between next i c)) (logs.leadership (part T c) (term_of k.word))
  copy-gets c other p m old = rw (ln, leadership-own c p)
      (follows-longer (T.sites c) (line (site_start T c) (term_of k.word) (between T i c)) k.leadership e
      (subst (λ r. FollowsIn (T.sites c) (line (site_start T c) (term_of k.word) (between T i c)) r) (leadership-before c p) old))
    where
      got : line (site_start T c) (term_of k.word) (out (Site c)) ≡ Puts e ∷ []
      got = passed-line T.words.deployment i e state out passed c (site_start T c) (term_of k.word)
          (copy-other T.words.deployment i state k.word k.view c (site_start T c) other p m.start_is)
          (start-in-view T.words.deployment i state k.word k.view c (site_start T c) m.start_is) (ap term_in k.view)

      ln : line (site_start T c) (term_of k.word) (between next i c) ≡ line (site_start T c) (term_of k.word) (between T i c) ++ Puts e ∷ []
      ln = ap (line (site_start T c) (term_of k.word)) (between-here T i state out logs c)
          ∙ flat_map-append (line_of (site_start T c) (term_of k.word)) (between T i c) (out (Site c))
          ∙ ap (λ x. line (site_start T c) (term_of k.word) (between T i c) ++ x) got

  -- and no other does
  copy-none : (c start t : ℕ) → (part T c ≡ part T i → t ≡ term_of k.word → ⊥) → line start t (between next i c) ≡ line start t (between T i c)
  copy-none c start t n = line-else c start t i
      (λ q. passed-line-other T.words.deployment i e state out passed c start t (λ is a x. n (copy-in c is).1 (term-is t x)))

  copy-keeps : (c : ℕ) → (c ≡ i → ⊥) → (w : Membership) → MemberOk T c w → MemberOk next c w
  copy-keeps c other w m = member-keeps-from T next H later c (still-same (T.sites c) (next.sites c) (there T i state out logs c other)) i w m
      (λ l n. ap (line (site_start T c) (term_of w)) (between-there T i state out logs l c n))
      (λ f. leadership-apart c (term_of w) (apart c other w m.decided f))
      (λ f old. mine f old)
      (λ f old. copy-none c (site_start T c) (term_of w) (apart c other w m.decided f) ∙ old)
    where
      mine : follows T.words.deployment w c i ≡ true → FollowsIn (T.sites c) (line (site_start T c) (term_of w) (between T i c)) (T.logs.leadership (part T c) (term_of w))
          → FollowsIn (T.sites c) (line (site_start T c) (term_of w) (between next i c)) (logs.leadership (part T c) (term_of w))
      mine f old = elim (cases_eq (term_of w) (term_of k.word)) [
        | inl t ↦ subst (λ v. MemberOk T c v → FollowsIn (T.sites c) (line (site_start T c) (term_of v) (between T i c)) (T.logs.leadership (part T c) (term_of v))
            → FollowsIn (T.sites c) (line (site_start T c) (term_of v) (between next i c)) (logs.leadership (part T c) (term_of v)))
            (sym (word-is w m.decided t)) (copy-gets c other (sym (follows-part T.words.deployment w c i f))) m old
        | inr n ↦ rw (copy-none c (site_start T c) (term_of w) (λ _ t. n t), leadership-apart c (term_of w) (λ _ t. n t)) old
      ]

  -- ---- joiners

  -- whom it counts is of its partition
  counted-part : (c : ℕ) (j : Joiner) → In j (T.sites i).joiners → j.slot ≡ c → part T c ≡ part T i
  counted-part c j is q = subst (λ x. part T x ≡ part T i) q
      (all-at (CountedOk T (part T i) (term_at T i)) (T.sites i).joiners ((H.sites i).keeps up).joiners j is).part_is

  flow-else : (c start term l : ℕ) → (l ≡ i → flow start term (out (Site c)) ≡ []) → flow start term (between next l c) ≡ flow start term (between T l c)
  flow-else c start term = one-and-others _ i
      (λ none. ap (flow start term) (between-here T i state out logs c) ∙ flat-same (flow_of start term) (between T i c) (out (Site c)) (none refl))
      (λ l n none. ap (flow start term) (between-there T i state out logs l c n))

  ends-else : (c start term l : ℕ) → stream_ends_in start term (between next l c) ≡ stream_ends_in start term (between T l c)
  ends-else c start term = one-and-others _ i (ap (stream_ends_in start term) (between-here T i state out logs c)
      ∙ flat-same (end_of start term) (between T i c) (out (Site c)) (passed-ends T.words.deployment i e state out passed c start term))
      (λ l n. ap (stream_ends_in start term) (between-there T i state out logs l c n))

  -- nobody asks, and what was asked is kept
  asked-same : (c l t : ℕ) → (c ≡ i → ⊥) → asked next c l t ≡ asked T c l t
  asked-same c l t other = ap (λ ls. asked_of c t ls (next.sites l) (T.pending l)) (between-there T i state out logs c l other)
      ∙ set-both (λ h s. asked_of c t (between T c l) s (T.pending l) ≡ asked_of c t (between T c l) (T.sites h) (T.pending l)) T.sites i state refl (λ h n. refl) l

  -- who follows nobody of its term, or isn't counted, sees nothing of it
  same-from : (c l t : ℕ) → (c ≡ i → ⊥) → (l ≡ i → line (site_start T c) t (out (Site c)) ≡ []) → (l ≡ i → flow (site_start T c) t (out (Site c)) ≡ []) → SameFrom T next c l t
  same-from c l t other no-line no-flow = record {
    lines = line-else c (site_start T c) t l no-line;
    flows = flow-else c (site_start T c) t l no-flow;
    ends = λ z. ends-else c (site_start T c) t l ∙ z;
    asks = at-most-is (asked T c l t) (asked next c l t) (asked-same c l t other);
    uncounted = set-both (λ h s. Uncounted T h c (site_start T c) → (j : Joiner) → In j s.joiners → j.slot ≡ c → j.start ≡ site_start T c → ⊥)
        T.sites i state (λ f. f) (λ h n f. f) l;
  }

  -- no Put is for a joiner's start
  joiner-line : (c : ℕ) (w : Membership) (j : Joining) → InWord T c w j → line (site_start T c) (term_of w) (out (Site c)) ≡ []
  joiner-line c w j k' = passed-line-other T.words.deployment i e state out passed c (site_start T c) (term_of w) (λ is a t.
      let m = copy-in c is in
      took-unnamed T H (site_start T c) k.word c
      (subst (λ v. T.words.history.took (site_start T c) ≡ Some v) (word-is w (took-decided T H (site_start T c) w k'.took) (term-is (term_of w) t)) k'.took)
      (m.2.1 ∙ ap Some (sym (start-in-view T.words.deployment i state k.word k.view c m.2.0 m.2.1) ∙ a)))

  -- a Task is for one that is counted
  uncounted-flow : (c t : ℕ) → (Uncounted T i c (site_start T c) ⊎ (part T c ≡ part T i → t ≡ term_of k.word → ⊥)) → flow (site_start T c) t (out (Site c)) ≡ []
  uncounted-flow c t n = passed-flow-other T.words.deployment i e state out passed c (site_start T c) t (λ j is q a x. elim n [
    | inl u ↦ u j is q a
    | inr u ↦ u (counted-part c j is q) (term-is t x)
  ])

  counted-flow : (c a stream_start : ℕ) → part T c ≡ part T i → IsCounted T c a stream_start k.word → flow a (term_of k.word) (out (Site c)) ≡ Follows e ∷ []
  counted-flow c a stream_start p counted =
      let r = counted i (ap (λ q. leader T.words.deployment k.word q) p ∙ k.first) up k.joins k.view in
      passed-flow T.words.deployment i e state out passed c a (term_of k.word) ((H.sites i).keeps up).alone r.0 r.1 r.2 r.3 (ap term_in k.view)

  -- it is counted as it was
  still-counted : (c a stream_start : ℕ) (w : Membership) → IsCounted T c a stream_start w → IsCounted next c a stream_start w
  still-counted c a stream_start w = counted-from T next H later i (λ l n. there T i state out logs l n) c a stream_start w
      (subst (λ x. 0 < x.start → x.joining ≡ None → x.view ≡ Some w → (j : Joiner) × In j x.joiners × (j.slot ≡ c) × (j.start ≡ a) × (j.stream_start ≡ stream_start)) (sym (here T i state out logs)))

  -- the flow with the entry
  longer-flow : (c a stream_start : ℕ) (past : List Flow) (more : List Entry) → part T c ≡ part T i → IsCounted T c a stream_start k.word
      → flow a (term_of k.word) (between T i c) ≡ past ++ map Follows more → flow a (term_of k.word) (between next i c) ≡ past ++ map Follows (more ++ e ∷ [])
  longer-flow c a stream_start past more p counted is = ap (flow a (term_of k.word)) (between-here T i state out logs c)
      ∙ flat_map-append (flow_of a (term_of k.word)) (between T i c) (out (Site c))
      ∙ ap (λ x. flow a (term_of k.word) (between T i c) ++ x) (counted-flow c a stream_start p counted)
      ∙ ap (λ x. x ++ Follows e ∷ []) is
      ∙ append_assoc past (map Follows more) (Follows e ∷ [])
      ∙ ap (λ x. past ++ x) (sym (map-append Follows more (e ∷ [])))

  longer-log : (c : ℕ) (past more : List Entry) (g : Leadership) → part T c ≡ part T i → T.logs.leadership (part T c) (term_of k.word) ≡ Some g → past ++ more ≡ g.log
      → past ++ (more ++ e ∷ []) ≡ (longer k.leadership e).log
  longer-log c past more g p led whole = sym (append_assoc past more (e ∷ []))
      ∙ ap (λ x. x ++ e ∷ []) (whole ∙ ap (λ x. x.log) (same-some (sym led ∙ leadership-before c p)))

  module _ (c : ℕ) (other : c ≡ i → ⊥) where
    run : SameRun T next c
    run = record { entered = λ t x is start. is; streamed = λ t x is start. is }

    site : SiteStays (T.sites c) (next.sites c)
    site = still-same (T.sites c) (next.sites c) (there T i state out logs c other)

    -- where nothing is for it
    same-term : (t : ℕ) → (part T c ≡ part T i → t ≡ term_of k.word → ⊥) → SameTerm T next (part T c) t
    same-term t n = record { leadership = leadership-apart c t n; reach = refl }

    coming-else : (w : Membership) (l : ℕ) → SameTerm T next (part T c) (term_of w) → SameFrom T next c l (term_of w)
        → ComesNext T (site_start T c) c w l → ComesNext next (site_start T c) c w l
    coming-else w l same from (inl q) = inl (inert-keeps T next H later c site w l from q)
    coming-else w l same from (inr q) = inr (
      subst (Coming next c w) (sym from.flows)
          (coming-keeps T next H later c site w (flow (site_start T c) (term_of w) (between T l c)) same (λ stream_start. still-counted c (site_start T c) stream_start w) q.0),
      asked-same c l (term_of w) other ∙ q.1,
    )

    -- to one in the leader's term the entry comes, if a stream does
    coming-own : part T c ≡ part T i → line (site_start T c) (term_of k.word) (out (Site c)) ≡ []
        → ComesNext T (site_start T c) c k.word i → ComesNext next (site_start T c) c k.word i
    coming-own p none (inl q) = inl (inert-keeps T next H later c site k.word i
        (same-from c i (term_of k.word) other (λ _. none) (λ _. uncounted-flow c (term_of k.word) (inl q.uncounted))) q)
    coming-own p none (inr (q, asks)) = inr (
      record {
        past = q.past;
        more = q.more ++ e ∷ [];
        leadership = longer k.leadership e;
        flow_is = longer-flow c (site_start T c) (length q.past) (Begins q.past (length q.past) ∷ []) q.more p q.counted q.flow_is;
        led = leadership-own c p;
        whole = longer-log c q.past q.more q.leadership p q.led q.whole;
        behind = subst (λ g. length g.begun ≤ length q.past) (same-some (sym q.led ∙ leadership-before c p)) q.behind;
        reach = q.reach;
        counted = subst (λ a. IsCounted next c a (length q.past) k.word) (sym site.start) (still-counted c (site_start T c) (length q.past) k.word q.counted);
      },
      asked-same c i (term_of k.word) other ∙ asks,
    )

    took-own : (j : Joining) (stream_start : ℕ) → InWord T c k.word j → part T c ≡ part T i → Took T c k.word j stream_start → Took next c k.word j stream_start
    took-own j stream_start word p q =
        let old = H.streamed c (term_of k.word) (record { start = site_start T c; stream_start = stream_start }) q.streamed in
        let counted : IsCounted T c (site_start T c) stream_start k.word =
        subst (λ v. IsCounted T c (site_start T c) stream_start v) (same-some (sym old.took ∙ word.took)) old.counted in
        let is : q.from ≡ i = follows-one T.words.deployment k.word c q.from i q.following (leader-followed T.words.deployment k.word i c k.first p other) in
        record {
          from = i;
          following = leader-followed T.words.deployment k.word i c k.first p other;
          more = q.more ++ e ∷ [];
          leadership = longer k.leadership e;
          led = leadership-own c p;
          flow_is = ap (λ a. flow a (term_of k.word) (between next i c)) site.start
              ∙ longer-flow c (site_start T c) stream_start [] q.more p counted (subst (λ l. flow (site_start T c) (term_of k.word) (between T l c) ≡ map Follows q.more) is q.flow_is);
          whole = rw site.log (longer-log c (log_at T c ++ j.tasks) q.more q.leadership p q.led q.whole);
          streamed = q.streamed ∙ ap (λ a. Some (record { start = a; stream_start = stream_start })) (sym site.start);
          loading = λ x. rw site.log (q.loading x);
          loaded = q.loaded;
          ends = q.ends;
          floor = site.floor ∙ q.floor;
          asks = λ l slot. asked-same c l (term_of k.word) other ∙ q.asks l slot;
        }

    -- a joiner's word is the leader's, of the leader's partition, or nothing is for it
    joiner-word : (w : Membership) → In w T.words.history.decided
        → ((part T c ≡ part T i) × (w ≡ k.word)) ⊎ (part T c ≡ part T i → term_of w ≡ term_of k.word → ⊥)
    joiner-word w d = elim (cases_eq (part T c) (part T i)) [
      | inl p ↦ elim (cases_eq (term_of w) (term_of k.word)) [ inl t ↦ inl (p, word-is w d t) | inr n ↦ inr (λ _ t. n t) ]
      | inr n ↦ inr (λ p _. n p)
    ]

    in_word-keeps : (w : Membership) (j : Joining) → InWord T c w j → InWord next c w j
    in_word-keeps w j m = let decided = took-decided T H (site_start T c) w m.took in in_word-keeps-with T next H later c site w j run
        (λ l z. line-else c (site_start T c) (term_of w) l (λ _. joiner-line c w j m) ∙ z)
        (λ l f z n. (
          flow-else c (site_start T c) (term_of w) l (λ q. uncounted-flow c (term_of w) (inr (apart c other w decided
              (subst (λ x. follows T.words.deployment w c x ≡ false) q f)))) ∙ z,
          ends-else c (site_start T c) (term_of w) l ∙ n,
        ))
        (λ l. at-most-is (asked T c l (term_of w)) (asked next c l (term_of w)) (asked-same c l (term_of w) other))
        (λ l f low. comes l f (joiner-word w decided))
        (λ stream_start. took stream_start (joiner-word w decided))
        m
      where
        comes : (l : ℕ) → follows T.words.deployment w c l ≡ true → ((part T c ≡ part T i) × (w ≡ k.word)) ⊎ (part T c ≡ part T i → term_of w ≡ term_of k.word → ⊥)
            → ComesNext T (site_start T c) c w l → ComesNext next (site_start T c) c w l
        comes l f (inr n) = coming-else w l (same-term (term_of w) n)
            (same-from c l (term_of w) other (λ _. joiner-line c w j m) (λ _. uncounted-flow c (term_of w) (inr n)))
        comes l f (inl (p, q)) = subst (λ v. line (site_start T c) (term_of v) (out (Site c)) ≡ [] → ComesNext T (site_start T c) c v l → ComesNext next (site_start T c) c v l) (sym q)
            (subst (λ x. line (site_start T c) (term_of k.word) (out (Site c)) ≡ [] → ComesNext T (site_start T c) c k.word x → ComesNext next (site_start T c) c k.word x)
            (sym (follows-one T.words.deployment k.word c l i (subst (λ v. follows T.words.deployment v c l ≡ true) q f)
            (leader-followed T.words.deployment k.word i c k.first p other))) (coming-own p)) (joiner-line c w j m)

        took : (stream_start : ℕ) → ((part T c ≡ part T i) × (w ≡ k.word)) ⊎ (part T c ≡ part T i → term_of w ≡ term_of k.word → ⊥) → Took T c w j stream_start → Took next c w j stream_start
        took stream_start (inr n) = took-keeps T next H later c site w j stream_start (same-term (term_of w) n)
            (λ l. same-from c l (term_of w) other (λ _. joiner-line c w j m) (λ _. uncounted-flow c (term_of w) (inr n)))
        took stream_start (inl (p, q)) = subst (λ v. InWord T c v j → Took T c v j stream_start → Took next c v j stream_start) (sym q) (λ x. took-own j stream_start x p) m

    joiner-keeps : (j : Joining) → JoinerOk T c j → JoinerOk next c j
    joiner-keeps j m = joiner-keeps-with T next H later c site j run (λ w v. in_word-keeps w j) m

  -- ---- the leader itself

  own-member : MemberOk next i k.word
  own-member = grew-member T H i (e ∷ []) (T.sites i).floor (T.sites i).repaired (T.sites i).owes scans scanning next.words.channel logs.leadership
      k.word k.repaired k.member.floor
      (λ _. subst (λ r. LeadsIn state r) (sym (leadership-own i refl)) (k.repaired, ap (λ log. log ++ e ∷ []) k.log))
      (λ l f. absurd (not-both (follows T.words.deployment k.word i l) f (leader-follows-none T.words.deployment k.word i l k.first)))
      (λ l f. line-else i (site_start T i) (term_of k.word) l (λ _. passed-line-other T.words.deployment i e state out passed i (site_start T i) (term_of k.word)
      (λ is _ _. (copy-in i is).0 refl)) ∙ k.member.others l f)
      k.member

  -- ---- its messages

  -- who is told has been in the term
  reached : (c x a : ℕ) → x ≡ a → 0 < a → In a (T.logs.ran c) → (site_start T c ≡ a → term_of k.word ≤ term_at T c)
      → ((0 < x) × (0 < site_term state)) × In x (T.logs.ran c) × (site_start T c ≡ x → site_term state ≤ term_at T c)
  reached c x a q some ran there = rw (q, ap term_in k.view) ((some, some-term T H k.word k.member.decided), ran, there)

  some-put : (c : ℕ) → IsSlot T c → is_in c (other_copies T.words.deployment i state) ≡ true
      → SiteLetterOk T i c (put_letter T.words.deployment state e c (other_copies T.words.deployment i state))
  some-put c slot is =
      let m = copy-in c is in
      let r = leadership-entered T H (part T i) (term_of k.word) k.leadership k.led k.word (record { decided = k.member.decided; term_is = refl }) c m.2.0 slot m.1 m.2.1 in
      let old = H.entered c (term_of k.word) r.0 r.1 in (
        reached c (start_in_view T.words.deployment state.view c) r.0.start (start-in-view T.words.deployment i state k.word k.view c m.2.0 m.2.1 ∙ sym r.2)
            old.been.some old.been.ran (λ runs. (old.running runs).1),
        rw (m.1, ap term_in k.view) k.member.floor,
      )

  some-task : (c : ℕ) (j : Joiner) → In j (T.sites i).joiners → j.slot ≡ c → SiteLetterOk T i c (task_letter state e c j)
  some-task c j is q =
      let o = all-at (CountedOk T (part T i) (term_at T i)) (T.sites i).joiners ((H.sites i).keeps up).joiners j is in
      subst (λ x. SiteLetterOk T i x (task_letter state e c j)) q (reached j.slot j.start j.start refl o.been.some o.been.ran (λ runs. rw (ap term_in k.view) at (o.reached runs)))

  carries : Carries T next.words.channel
  carries = record {
    agents = λ h b. refl;
    director = λ h. refl;
    foreign = foreign;
    told = λ c h. sent-either T i state out logs (λ c ls. AllByRecursion (ToldOk T c) ls) (Agent h)
        (subst (λ ls. AllByRecursion (ToldOk T i) (T.words.channel (Site i) (Agent h) ++ ls)) (sym (passed.agents h))
        (subst (AllByRecursion (ToldOk T i)) (sym (append-nil (T.words.channel (Site i) (Agent h)))) (H.loads.told i h))) (λ c n. H.loads.told c h) c;
    letters = λ j c slot. sent-either T i state out logs (λ j ls. AllByRecursion (SiteLetterOk T j c) ls) (Site c)
        (all-append (SiteLetterOk T i c) (between T i c) (out (Site c)) (H.letters i c slot)
        (passed-all T.words.deployment i e state out passed c (SiteLetterOk T i c) (some-put c slot) (some-task c))) (λ j n. H.letters j c slot) j;
    begins = λ j c start term stream_start. sent-either T i state out logs
        (λ j ls. AllByRecursion (BeginsAt stream_start) (flow start term (between T j c)) → AllByRecursion (BeginsAt stream_start) (flow start term ls)) (Site c)
        (λ h. rw (flat_map-append (flow_of start term) (between T i c) (out (Site c))) (all-append (BeginsAt stream_start) (flow start term (between T i c)) (flow start term (out (Site c))) h
        (passed-follows T.words.deployment i e state out passed c (BeginsAt stream_start) start term tt))) (λ j n h. h) j;
  }
    where
      foreign : (from : Actor) (c : ℕ) → AllByRecursion (ForeignOk T c from) (next.words.channel from (Site c))
      foreign (Site j) c = sent-either T i state out logs (λ j ls. AllByRecursion (ForeignOk T c (Site j)) ls) (Site c)
          (all-append (ForeignOk T c (Site i)) (between T i c) (out (Site c)) (H.foreign (Site i) c)
          (passed-all T.words.deployment i e state out passed c (ForeignOk T c (Site i)) (λ is. tt) (λ j is q. tt))) (λ j n. H.foreign (Site j) c) j
      foreign from c = H.foreign from c

  led-holds : LogsHold next
  led-holds = grew-holds T H i (e ∷ []) (T.sites i).floor (T.sites i).repaired (T.sites i).owes scans scanning next.words.channel logs.leadership
      up k.joins same-leaderships carries k.word k.view own-member copy-keeps joiner-keeps

  -- its log has grown
  led-grown : Grown T.words.deployment i state T.logs logs
  led-grown = grown-at T.words.deployment i state T.logs logs (part T i) (term_of k.word)
      (record { word = k.word; view = k.view; part_is = refl; term_is = refl; first = k.first; start_is = k.member.start_is })
      (record { kept = same-leaderships.kept; reach = λ q u. omega arith }) (put-there T.logs.leadership (part T i) (term_of k.word) (Some (longer k.leadership e)))

-- ---- the turn

pub leads-goes : (E : Database) (T : LogState) (i : ℕ) (e : Entry) → LogsHold T → 0 < site_start T i → leads T.words.deployment i (T.sites i) ≡ true
    → LogsGo T i (leads_with E T.words.deployment i e (T.sites i))
leads-goes E T i e H up authoritative =
    let k = leading T i H up authoritative in
    let r = leads-with E T.words.deployment i e (T.sites i) in
    let out = (leads_with E T.words.deployment i e (T.sites i)).sends in
    let G : Logs = record T.logs { leadership = put_at T.logs.leadership (part T i) (term_of k.word) (Some (longer k.leadership e)) } in
    record {
      logs = G;
      start = ap (λ s. s.start) r.state;
      view = ap (λ s. s.view) r.state;
      plain = λ c. passed-all T.words.deployment i e (grown (T.sites i) (e ∷ []) r.scans r.scanning) out r.passed c NoStreamStart (λ is. tt) (λ j is q. tt);
      holds = subst (λ s. LogsHold (after_site T i s out G)) (sym r.state) (led-holds T i e H up k r.scans r.scanning out r.passed);
      grown = subst (λ s. Grown T.words.deployment i s T.logs G) (sym r.state) (led-grown T i e H up k r.scans r.scanning out r.passed);
      enters = enters-same i (length (log_at T i)) T.logs G refl;
      longer = subst (λ s. length (log_at T i) ≤ length s.log) (sym r.state) (prefix-length (log_at T i) (log_at T i ++ e ∷ []) (prefix-append (log_at T i) (e ∷ [])));
    }

-- and it leads still
pub leads-on : (E : Database) (D : Deployment) (i : ℕ) (e : Entry) (s : SiteState) → leads D i s ≡ true → leads D i (leads_with E D i e s).state ≡ true
leads-on E D i e s authoritative = ap (leads D i) (leads-with E D i e s).state ∙ authoritative
