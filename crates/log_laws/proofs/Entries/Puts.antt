-- A copy takes what its leader sent it to append: one entry more, or what it lacks of what its term begins with.
use Rattle.log_laws.proofs.Names.{◌≡◌, ◌<◌, true, false, List, [], ◌∷◌, ◌++◌, append_assoc, append-nil, refl, sym, subst, ap, ◌∙◌, inl, inr, ◌==◌, arith, cases_Bool, ne_eqb, ℕ, ◌≤◌, ◌-◌, ◌&&◌, max, map, drop, length, Option, Some, None, AllByRecursion, Entry, Membership, Actor, Agent, Site, Scanner, Database, term_of, term_in, same, Letter, Sends, SiteState, Joining, Joiner, Scanning, site_term, on_put, on_repair, took, sent, rest, In, Prefix, and-false, eqb-same, if-false, not-both, same-some, set-here, set-there, set-both, took-all, prefix-append, prefix-grows, prefix-length, prefix-refl, prefix-rest, Appended, appends-one, appends-all, cond_both, LogState, Leadership, Line, Puts, Repairs, FollowsIn, JoinerOk, ViewIn, MemberOk, MeantFor, ForeignOk, ToldOk, SiteLetterOk, BeginsAt, LogsHold, line_in, flow_in, ask_in, follows, line, flow, stream_ends_in, asks_in, asks_waiting, asks_of_term, asked, between, part, site_start, term_at, log_at, is_for}
use Rattle.volt_wire.specs.declared.message.Msg.TheVariants as msg
use Rattle.log_laws.proofs.Plain.{puts-cons, puts-not-repairs, repairs-not-put, repairs-same, leader-follows-none, follows-one, for-here, if-empty}
use Rattle.log_laws.proofs.Kept.{running-slot, leadership-entered, LogsLater, after_site, site_popped, NoStreamStart, LogsGo, grown-same, enters-same, same-leaderships, taken-either, at-most-is, SiteStays, SameFrom, Uncounted, still-same, member-keeps, counted-from, Carries, grew, grew-later, grew-member, grew-holds, asked_of}
use Rattle.log_laws.proofs.Kept.Keeps as keeps

-- ---- who takes it

-- A member that follows the sender in a term that has begun, and before which this is.
pub record Receives (S : LogState) (k i : ℕ) (x : Line) (ls : List Letter) : Type 0 where
  pub joins : (S.sites i).joining ≡ None
  pub word : Membership
  pub view : (S.sites i).view ≡ Some word
  pub member : MemberOk S i word
  pub following : follows S.words.deployment word i k ≡ true
  pub leadership : Leadership
  pub led : S.logs.leadership (part S i) (term_of word) ≡ Some leadership
  pub lacks : FollowsIn (S.sites i) (x ∷ line (site_start S i) (term_of word) ls) (Some leadership)

module _ (S : LogState) (H : LogsHold S) (k i : ℕ) (l : Letter) (ls : List Letter) (is : between S k i ≡ l ∷ ls) (own : l.start ≡ site_start S i) (now : l.term ≡ term_at S i)
    (up : 0 < site_start S i) (some : 0 < l.term) (x : Line) (said : line_in l.body ≡ x ∷ []) where
  -- it is first in the channel
  first-line : (w : Membership) → (S.sites i).view ≡ Some w → line (site_start S i) (term_of w) (between S k i) ≡ x ∷ line (site_start S i) (term_of w) ls
  first-line w v = ap (line (site_start S i) (term_of w)) is
      ∙ ap (λ ys. ys ++ line (site_start S i) (term_of w) ls) (for-here (site_start S i) (term_of w) l (line_in l.body) own (now ∙ ap term_in v) ∙ said)

  no-joiner : (j : Joining) → (S.sites i).joining ≡ Some j → ⊥
  no-joiner j e = view (S.sites i).view refl ((H.sites i).joiner j e).view
    where
      view : (o : Option Membership) → (S.sites i).view ≡ o → ViewIn S i j o → ⊥
      view None v m = omega (arith, some, now, ap term_in v)
      view (Some w) v m = let e = sym (first-line w v) ∙ m.lines k in absurd (cc)

  pub receives : Receives S k i x ls
  receives = joins (S.sites i).joining refl
    where
      begun : (m : (w : Membership) × ((S.sites i).view ≡ Some w) × MemberOk S i w) → (S.sites i).joining ≡ None → (f : follows S.words.deployment m.0 i k ≡ true)
          → (r : Option Leadership) → S.logs.leadership (part S i) (term_of m.0) ≡ r → FollowsIn (S.sites i) (x ∷ line (site_start S i) (term_of m.0) ls) r → Receives S k i x ls
      begun m none f None led lacks = let e = lacks.1 in absurd (cc)
      begun m none f (Some g) led lacks = record { joins = none; word = m.0; view = m.1; member = m.2; following = f; leadership = g; led = led; lacks = lacks }

      leads : (m : (w : Membership) × ((S.sites i).view ≡ Some w) × MemberOk S i w) → (S.sites i).joining ≡ None → Receives S k i x ls
      leads m none = elim (cases_Bool (follows S.words.deployment m.0 i k)) [
        | inl f ↦ begun m none f (S.logs.leadership (part S i) (term_of m.0)) refl
            (subst (λ ys. FollowsIn (S.sites i) ys (S.logs.leadership (part S i) (term_of m.0))) (first-line m.0 m.1) (m.2.following k f))
        | inr f ↦ (let e = sym (first-line m.0 m.1) ∙ m.2.others k f in absurd (cc))
      ]

      joins : (o : Option Joining) → (S.sites i).joining ≡ o → Receives S k i x ls
      joins (Some j) e = absurd (no-joiner j e)
      joins None e = leads ((H.sites i).member up e) e

-- ---- the messages behind it

module _ (S : LogState) (k i : ℕ) (out : Sends) (inert : (b : Actor) → same (Scanner i) b ≡ false → out b ≡ []) where
  abbrev ch : Actor → Actor → List Letter
  ch = sent (took S.words.channel (Site k) (Site i)) (Site i) out

  -- only its scanner was told something
  from-site : (a : ℕ) (b : Actor) → same (Scanner i) b ≡ false → ch (Site a) b ≡ took S.words.channel (Site k) (Site i) (Site a) b
  from-site a b apart = cond_both (i == a) _ _ (λ z. z ≡ took S.words.channel (Site k) (Site i) (Site a) b)
      (λ _. ap (λ ys. took S.words.channel (Site k) (Site i) (Site a) b ++ ys) (inert b apart) ∙ append-nil (took S.words.channel (Site k) (Site i) (Site a) b))
      (λ _. refl)

  -- to other slots all is as it was
  to-other : (a c : ℕ) → (c ≡ i → ⊥) → ch (Site a) (Site c) ≡ between S a c
  to-other a c n = from-site a (Site c) refl ∙ if-false (i == c && k == a) (rest (between S a c)) (between S a c) (rw (ne_eqb i c (λ e. n (sym e))) refl)

  -- and so is what others sent it
  from-other : (a : ℕ) → (a ≡ k → ⊥) → ch (Site a) (Site i) ≡ between S a i
  from-other a n = from-site a (Site i) refl
      ∙ if-false (i == i && k == a) (rest (between S a i)) (between S a i) (ap (λ c. i == i && c) (ne_eqb k a (λ e. n (sym e))) ∙ and-false (i == i))

  from-first : (l : Letter) (ls : List Letter) → between S k i ≡ l ∷ ls → ch (Site k) (Site i) ≡ ls
  from-first l ls is = from-site k (Site i) refl ∙ rw (eqb-same i, eqb-same k) (ap rest is)

-- ---- what holds behind it

module _ (S : LogState) (H : LogsHold S) (k i : ℕ) (l : Letter) (ls : List Letter) (is : between S k i ≡ l ∷ ls) (up : 0 < site_start S i) (x : Line) (r : Receives S k i x ls)
    (no-flow : flow_in l.past l.body ≡ []) (no-ask : ask_in l.body ≡ [])
    (more : List Entry) (floor : ℕ) (owes : Option ℕ) (scans : ℕ) (scanning : Option Scanning) (out : Sends) (inert : (b : Actor) → same (Scanner i) b ≡ false → out b ≡ [])
    (below : floor ≤ S.logs.reach (part S i) (term_of r.word))
    (lacks : FollowsIn (grew (S.sites i) more floor true owes scans scanning) (line (site_start S i) (term_of r.word) ls) (Some r.leadership)) where
  abbrev state : SiteState
  state = grew (S.sites i) more floor true owes scans scanning

  abbrev next : LogState
  next = after_site (site_popped S (Site k) i) i state out S.logs

  abbrev channel : Actor → Actor → List Letter
  channel = ch S k i out inert

  later : LogsLater S next
  later = grew-later S H i more floor true owes scans scanning channel S.logs.leadership

  -- what was taken was neither a stream's nor an ask
  flow-kept : (j c start term : ℕ) → flow start term (channel (Site j) (Site c)) ≡ flow start term (between S j c)
  flow-kept j c start term = ap (flow start term) (from-site S k i out inert j (Site c) refl)
      ∙ taken-either S (Site k) i (λ a c ys. flow start term ys ≡ flow start term (S.words.channel a (Site c)))
      (λ c q. subst (λ y. flow start term (rest (between S k y)) ≡ flow start term (between S k y)) (sym q)
      (ap (λ ys. flow start term (rest ys)) is ∙ sym (ap (λ ys. ys ++ flow start term ls) (if-empty (is_for start term l) (flow_in l.past l.body) no-flow)) ∙ ap (flow start term) (sym is)))
      (Site j) c refl

  asks-kept : (j c term : ℕ) → asks_in term (channel (Site j) (Site c)) ≡ asks_in term (between S j c)
  asks-kept j c term = ap (asks_in term) (from-site S k i out inert j (Site c) refl)
      ∙ taken-either S (Site k) i (λ a c ys. asks_in term ys ≡ asks_in term (S.words.channel a (Site c)))
      (λ c q. subst (λ y. asks_in term (rest (between S k y)) ≡ asks_in term (between S k y)) (sym q)
      (ap (λ ys. asks_in term (rest ys)) is ∙ sym (ap (λ ys. ys ++ asks_in term ls) (if-empty (l.term == term) (ask_in l.body) no-ask)) ∙ ap (asks_in term) (sym is)))
      (Site j) c refl

  carries : Carries S channel
  carries = record {
    agents = λ h b. if-false (same (Site i) b && false) (rest (S.words.channel (Agent h) b)) (S.words.channel (Agent h) b) (and-false (same (Site i) b));
    director = λ h. refl;
    foreign = foreign;
    told = λ c h. subst (AllByRecursion (ToldOk S c)) (sym (from-site S k i out inert c (Agent h) refl)) (H.loads.told c h);
    letters = λ j c slot. subst (AllByRecursion (SiteLetterOk S j c)) (sym (from-site S k i out inert j (Site c) refl))
        (took-all (SiteLetterOk S j c) S.words.channel (Site k) (Site i) (Site j) (Site c) (H.letters j c slot));
    begins = λ j c start term stream_start. subst (AllByRecursion (BeginsAt stream_start)) (sym (flow-kept j c start term));
  }
    where
      foreign : (from : Actor) (c : ℕ) → AllByRecursion (ForeignOk S c from) (channel from (Site c))
      foreign (Site j) c = subst (AllByRecursion (ForeignOk S c (Site j))) (sym (from-site S k i out inert j (Site c) refl))
          (took-all (ForeignOk S c (Site j)) S.words.channel (Site k) (Site i) (Site j) (Site c) (H.foreign (Site j) c))
      foreign from c = took-all (ForeignOk S c from) S.words.channel (Site k) (Site i) from (Site c) (H.foreign from c)

  own-member : MemberOk next i r.word
  own-member = grew-member S H i more floor true owes scans scanning channel S.logs.leadership r.word refl below
      (λ e. absurd (not-both (follows S.words.deployment r.word i k) r.following (leader-follows-none S.words.deployment r.word i k e)))
      (λ a f. subst (λ y. FollowsIn state (line (site_start S i) (term_of r.word) (channel (Site y) (Site i))) (S.logs.leadership (part S i) (term_of r.word)))
      (follows-one S.words.deployment r.word i k a r.following f)
      (rw (r.led, from-first S k i out inert l ls is) lacks))
      (λ a f. ap (line (site_start S i) (term_of r.word)) (from-other S k i out inert a
      (λ e. not-both (follows S.words.deployment r.word i a) (subst (λ y. follows S.words.deployment r.word i y ≡ true) (sym e) r.following) f)) ∙ r.member.others a f)
      r.member

  module _ (c : ℕ) (other : c ≡ i → ⊥) where
    site : SiteStays (S.sites c) (next.sites c)
    site = still-same (S.sites c) (next.sites c) (set-there S.sites i state c other)

    copy-keeps : (v : Membership) → MemberOk S c v → MemberOk next c v
    copy-keeps v m = member-keeps S next H later c site v m (λ a. ap (line (site_start S c) (term_of v)) (to-other S k i out inert a c other)) refl

    asked-same : (a t : ℕ) → asked next c a t ≡ asked S c a t
    asked-same a t =
        ap (λ ys. ys ++ asks_waiting c t (next.sites a).waiting ++ asks_waiting c t (S.pending a) ++ asks_of_term c t (next.sites a)) (asks-kept c a t)
        ∙ set-both (λ h y. asked_of c t (between S c a) y (S.pending a) ≡ asked_of c t (between S c a) (S.sites h) (S.pending a)) S.sites i state refl (λ h n. refl) a

    same-from : (a t : ℕ) → SameFrom S next c a t
    same-from a t = record {
      lines = ap (line (site_start S c) t) (to-other S k i out inert a c other);
      flows = ap (flow (site_start S c) t) (to-other S k i out inert a c other);
      ends = λ e. ap (stream_ends_in (site_start S c) t) (to-other S k i out inert a c other) ∙ e;
      asks = at-most-is (asked S c a t) (asked next c a t) (asked-same a t);
      uncounted = set-both (λ h y. Uncounted S h c (site_start S c) → (j : Joiner) → In j y.joiners → j.slot ≡ c → j.start ≡ site_start S c → ⊥)
          S.sites i state (λ f. f) (λ h n f. f) a;
    }

    joiner-keeps : (j : Joining) → JoinerOk S c j → JoinerOk next c j
    joiner-keeps j m = keeps.joiner-keeps S next H later c site j
        (record { entered = λ t e is _. is; streamed = λ t y is _. is })
        (record { leadership = refl; reach = refl })
        (λ a. same-from a (term_at S c))
        (λ stream_start v. counted-from S next H later i (λ a n. set-there S.sites i state a n) c (site_start S c) stream_start v
        (subst (λ y. 0 < y.start → y.joining ≡ None → y.view ≡ Some v → (j : Joiner) × In j y.joiners × (j.slot ≡ c) × (j.start ≡ site_start S c) × (j.stream_start ≡ stream_start))
        (sym (set-here S.sites i state))))
        m

  taken-holds : LogsHold next
  taken-holds = grew-holds S H i more floor true owes scans scanning channel S.logs.leadership
      up r.joins (same-leaderships S.logs S.logs refl) carries r.word r.view own-member copy-keeps joiner-keeps

-- ---- the handlers

-- what is so of the first message
first-ok : (S : LogState) → LogsHold S → (k i : ℕ) (l : Letter) (ls : List Letter) → between S k i ≡ l ∷ ls → 0 < site_start S i → SiteLetterOk S k i l
first-ok S H k i l ls is up = (subst (AllByRecursion (SiteLetterOk S k i)) is (H.letters k i (running-slot S H i up))).0

pub on_put-goes : (E : Database) (S : LogState) → LogsHold S → (i k : ℕ) (l : Letter) (ls : List Letter) (position : ℕ) (e : Entry) (floor : ℕ)
    → S.words.channel (Site k) (Site i) ≡ record l { body = msg.Put position e floor } ∷ ls → 0 < site_start S i → l.start ≡ site_start S i → l.term ≡ term_at S i
    → LogsGo (site_popped S (Site k) i) i (on_put E S.words.deployment i (S.sites i) position e floor)
on_put-goes E S H i k l ls position e floor is up own now = goes r.lacks
  where
    ok : MeantFor S i l × (floor ≤ S.logs.reach (part S i) l.term)
    ok = first-ok S H k i (record l { body = msg.Put position e floor }) ls is up

    r : Receives S k i (Puts e) ls
    r = receives S H k i (record l { body = msg.Put position e floor }) ls is own now up ok.0.0.1 (Puts e) refl

    one : Appended i (record (S.sites i) { floor = max (S.sites i).floor floor }) (e ∷ []) (on_put E S.words.deployment i (S.sites i) position e floor)
    one = appends-one E S.words.deployment i e (record (S.sites i) { floor = max (S.sites i).floor floor })

    below : max (S.sites i).floor floor ≤ S.logs.reach (part S i) (term_of r.word)
    below = let a = r.member.floor in let b = subst (λ t. floor ≤ S.logs.reach (part S i) t) (now ∙ ap term_in r.view) ok.1 in omega (arith, a, b)

    goes : FollowsIn (S.sites i) (Puts e ∷ line (site_start S i) (term_of r.word) ls) (Some r.leadership)
        → LogsGo (site_popped S (Site k) i) i (on_put E S.words.deployment i (S.sites i) position e floor)
    goes (inr (es, unrepaired, line_is, whole)) =
        absurd (repairs-not-put (length (S.sites i).log) (drop (length (S.sites i).log) r.leadership.begun) e (map Puts es) (line (site_start S i) (term_of r.word) ls) (sym line_is))
    goes (inl (es, repaired, line_is, whole, prefix)) =
        let fs = puts-cons es e (line (site_start S i) (term_of r.word) ls) (sym line_is) in
        let state : (on_put E S.words.deployment i (S.sites i) position e floor).state
        ≡ grew (S.sites i) (e ∷ []) (max (S.sites i).floor floor) true (S.sites i).owes one.scans one.scanning =
        one.state ∙ ap (λ b. grew (S.sites i) (e ∷ []) (max (S.sites i).floor floor) b (S.sites i).owes one.scans one.scanning) repaired in
        record {
          logs = S.logs;
          start = ap (λ x. x.start) state;
          view = ap (λ x. x.view) state;
          plain = λ c. subst (AllByRecursion NoStreamStart) (sym (one.inert (Site c) refl)) tt;
          holds = subst (λ x. LogsHold (after_site (site_popped S (Site k) i) i x (on_put E S.words.deployment i (S.sites i) position e floor).sends S.logs)) (sym state)
              (taken-holds S H k i (record l { body = msg.Put position e floor }) ls is up (Puts e) r refl refl (e ∷ [])
              (max (S.sites i).floor floor) (S.sites i).owes one.scans one.scanning
              (on_put E S.words.deployment i (S.sites i) position e floor).sends one.inert below
              (inl (
                fs.0,
                refl,
                fs.2,
                append_assoc (S.sites i).log (e ∷ []) fs.0 ∙ ap (λ x. (S.sites i).log ++ x) (sym fs.1) ∙ whole,
                prefix-grows r.leadership.begun (S.sites i).log (e ∷ []) prefix,
              )));
          grown = grown-same S.words.deployment i (on_put E S.words.deployment i (S.sites i) position e floor).state S.logs;
          enters = enters-same i (length (log_at S i)) S.logs S.logs refl;
          longer = subst (λ x. length (log_at S i) ≤ length x.log) (sym state) (prefix-length (log_at S i) (log_at S i ++ e ∷ []) (prefix-append (log_at S i) (e ∷ [])));
        }

pub on_repair-goes : (E : Database) (S : LogState) → LogsHold S → (i k : ℕ) (l : Letter) (ls : List Letter) (from : ℕ) (entries : List Entry)
    → S.words.channel (Site k) (Site i) ≡ record l { body = msg.Repair from entries } ∷ ls → 0 < site_start S i → l.start ≡ site_start S i → l.term ≡ term_at S i
    → LogsGo (site_popped S (Site k) i) i (on_repair E S.words.deployment i (S.sites i) from entries)
on_repair-goes E S H i k l ls from entries is up own now = goes r.lacks
  where
    ok : MeantFor S i l
    ok = first-ok S H k i (record l { body = msg.Repair from entries }) ls is up

    r : Receives S k i (Repairs from entries) ls
    r = receives S H k i (record l { body = msg.Repair from entries }) ls is own now up ok.0.1 (Repairs from entries) refl

    -- what it entered the term with is a prefix of what that begins with
    behind : (S.sites i).repaired ≡ false → Prefix (S.sites i).log r.leadership.begun
    behind unrepaired =
        let o = leadership-entered S H (part S i) (term_of r.word) r.leadership r.led r.word (record { decided = r.member.decided; term_is = refl }) i (site_start S i)
        (running-slot S H i up) refl r.member.start_is in
        subst (λ x. Prefix x r.leadership.begun) (sym ((r.member.still unrepaired).0 ∙ ap (λ e. e.log) (same-some (sym r.member.is_entered ∙ o.1)))) o.3

    all : Appended i (record (S.sites i) { owes = Some (site_term (S.sites i)); repaired = true }) (drop (length (S.sites i).log - from) entries)
        (on_repair E S.words.deployment i (S.sites i) from entries)
    all = appends-all E S.words.deployment i (drop (length (S.sites i).log - from) entries) (record (S.sites i) { owes = Some (site_term (S.sites i)); repaired = true })

    goes : FollowsIn (S.sites i) (Repairs from entries ∷ line (site_start S i) (term_of r.word) ls) (Some r.leadership)
        → LogsGo (site_popped S (Site k) i) i (on_repair E S.words.deployment i (S.sites i) from entries)
    goes (inl (es, repaired, line_is, whole, prefix)) = absurd (puts-not-repairs es entries from (line (site_start S i) (term_of r.word) ls) (sym line_is))
    goes (inr (es, unrepaired, line_is, whole)) =
        let same = repairs-same from (length (S.sites i).log) entries (drop (length (S.sites i).log) r.leadership.begun)
        (line (site_start S i) (term_of r.word) ls) (map Puts es) line_is in
        let none : length (S.sites i).log - from ≡ 0 = omega (arith, same.0) in
        let lacked : drop (length (S.sites i).log - from) entries ≡ drop (length (S.sites i).log) r.leadership.begun =
        ap (λ n. drop n entries) none ∙ same.1 in
        let begun : (S.sites i).log ++ drop (length (S.sites i).log - from) entries ≡ r.leadership.begun =
        ap (λ x. (S.sites i).log ++ x) lacked ∙ sym (prefix-rest (S.sites i).log r.leadership.begun (behind unrepaired)) in
        record {
          logs = S.logs;
          start = ap (λ x. x.start) all.state;
          view = ap (λ x. x.view) all.state;
          plain = λ c. subst (AllByRecursion NoStreamStart) (sym (all.inert (Site c) refl)) tt;
          holds = subst (λ x. LogsHold (after_site (site_popped S (Site k) i) i x (on_repair E S.words.deployment i (S.sites i) from entries).sends S.logs)) (sym all.state)
              (taken-holds S H k i (record l { body = msg.Repair from entries }) ls is up (Repairs from entries) r refl refl (drop (length (S.sites i).log - from) entries)
              (S.sites i).floor (Some (site_term (S.sites i))) all.scans all.scanning
              (on_repair E S.words.deployment i (S.sites i) from entries).sends all.inert r.member.floor
              (inl (es, refl, same.2, ap (λ x. x ++ es) begun ∙ whole, subst (Prefix r.leadership.begun) (sym begun) (prefix-refl r.leadership.begun))));
          grown = grown-same S.words.deployment i (on_repair E S.words.deployment i (S.sites i) from entries).state S.logs;
          enters = enters-same i (length (log_at S i)) S.logs S.logs refl;
          longer = subst (λ x. length (log_at S i) ≤ length x.log) (sym all.state)
              (prefix-length (log_at S i) (log_at S i ++ drop (length (S.sites i).log - from) entries) (prefix-append (log_at S i) (drop (length (S.sites i).log - from) entries)));
        }
