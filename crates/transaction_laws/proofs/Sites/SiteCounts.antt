-- What a turn of a site leaves of what a leader counts.
use Rattle.volt_wire.specs.declared.message.Msg.TheVariants as msg
use Rattle.transaction_laws.proofs.Names.{Actor, Agent, AllByRecursion, Bool, Comes, Database, Deployment, DiskFails, DisksShow, Environment, Joiner, Joining, Letter, List, Membership, NoFault, NoMemory, None, Option, Over, SiteState, Some, StateSaying, StateSteps, Taken, Wrote, [], acked_in, acknowledged, after_sync, after_sync-walk, all-append, ap, append_assoc, arith, arrival, becomes, begins_at, copy_acks, counts, eqb-true, false, firm_now, floor_now, if-true, if◌then◌else◌, in_new_term, inl, inr, is_leader, leader-view, leads, leads-from, leads-parts, least, least_of, least_of-below, length, lesser, lesser-parts, map, map-append, max, min, none-and-some, not-both, other_copies, over-moves, over-settles, over-tells, own_ack, refl, sends_firm, settled-walk, settled_turn, site_term, site_turn, stays_joiner, subst, sym, sync_turn, syncs, takes_asks, term_of, true, with_others, written_site, wrote, ℕ, ◌++◌, ◌<◌, ◌==◌, ◌∙◌, ◌∷◌, ◌≡◌, ◌≤◌}
use Rattle.transaction_laws.proofs.Sites.SiteWalk.{WaitsQuietly, AnyReport, any-report, any-reports, AnyCall, any-call, any-calls, any-waiting, asks-taken, asks-view, Walked, StopsOrBegins, NothingSeen, GoesOnSame, GoesOnNew, walked}
use Rattle.transaction_laws.proofs.Sites.SiteLogs.{stopped-not-leads, sync-steady}

-- ---- what is shown

-- All that was acknowledged is counted firm.
abbrev pub Counted : Deployment → ℕ → SiteState → Type 0
Counted D i s = (n : ℕ) → acknowledged D i s ≡ Some n → n ≤ s.firm

-- A word that makes the site a member is of a term above its mark.
abbrev pub AboveMark : Deployment → ℕ → SiteState → Actor → Letter → Type 0
AboveMark D i s (Agent h) l = elim l.body as (λ _. Type 0) [ msg.View w ↦ stays_joiner D i s w ≡ false → s.mark < term_of w | _ ↦ Unit {0} ]
AboveMark D i s from l = Unit {0}

abbrev pub Unrepaired : SiteState → Type 0
Unrepaired s = s.repaired ≡ false → s.joiners ≡ []

-- ---- the least of what was acknowledged

lesser-from : (a b : Option ℕ) (n x y : ℕ) → a ≡ Some x → b ≡ Some y → n ≤ x → n ≤ y → (m : ℕ) × (lesser a b ≡ Some m) × (n ≤ m)
lesser-from a b n x y e f h k = (min x y, rw (e, f), omega (arith, h, k))

-- With one position less it is known too, and not below.
least-fewer : (a : Option ℕ) (bs : List (Option ℕ)) (z : Option ℕ) (n : ℕ) → least a (bs ++ z ∷ []) ≡ Some n → (m : ℕ) × (least a bs ≡ Some m) × (n ≤ m)
least-fewer a [] z n e = let p = lesser-parts a z n e in (p.0, p.2, p.4)
least-fewer a (b ∷ bs) z n e =
    let p = lesser-parts a (least b (bs ++ z ∷ [])) n e in
    let q = least-fewer b bs z p.1 p.3 in
    lesser-from a (least b bs) n p.0 q.0 p.2 q.1 p.4 (let l = p.5 in let k = q.2 in omega (arith, l, k))

-- A site whose mark isn't that of its term acknowledges nothing.
unmarked-counted : (D : Deployment) (i : ℕ) (s : SiteState) → (s.mark ≡ site_term s → ⊥) → Counted D i s
unmarked-counted D i s unmarked n e = own (s.mark == site_term s) refl (q.1)
  where
    q : (v : ℕ) × (own_ack s ≡ Some v) × (n ≤ v)
    q = least_of-below (copy_acks D i s ++ map (λ j. Some (max j.stream_start j.position)) s.joiners) n e (own_ack s) (inl refl)

    own : (b : Bool) → (s.mark == site_term s) ≡ b → (if b then Some s.on_disk else None) ≡ Some q.0 → n ≤ s.firm
    own true m k = absurd (unmarked (eqb-true s.mark (site_term s) m))
    own false m k = absurd (cc)

-- it counts all that it may
counted-now : (D : Deployment) (i : ℕ) (s : SiteState) → Counted D i (record s { firm = firm_now D i s })
counted-now D i s n e = rw e (omega arith)

counts-counted : (D : Deployment) (i : ℕ) (s : SiteState) → leads D i s ≡ true → Counted D i (counts D i s).state
counts-counted D i s authoritative = choice (leads D i s) authoritative
  where
    n : SiteState
    n = record s { firm = firm_now D i s; floor = floor_now D i s }

    choice : (b : Bool) → b ≡ true → Counted D i (if b then sends_firm n else becomes s).state
    choice true e = counted-now D i s
    choice false e = absurd (cc)

-- ---- what goes on over each step of a turn

-- A leader has the mark of its term only where it is repaired.
abbrev Marked : SiteState → Type 0
Marked s = s.mark ≡ site_term s → s.repaired ≡ true

-- A leader's joiners stay, and so does what it has counted.
record Reckons (D : Deployment) (i : ℕ) (s u : SiteState) : Type 0 where
  same : is_leader D i u ≡ is_leader D i s
  view : u.view ≡ s.view
  joiners : begins_at u.joiners ≡ begins_at s.joiners
  repaired : u.repaired ≡ false → s.repaired ≡ false
  marked : is_leader D i s ≡ true → Marked s → Marked u
  counted : is_leader D i s ≡ true → Marked s → Counted D i s → Counted D i u

module _ (D : Deployment) (i : ℕ) where
  reckons-then : (s m u : SiteState) → Reckons D i s m → Reckons D i m u → Reckons D i s u
  reckons-then s m u h k = record {
    same = k.same ∙ h.same;
    view = k.view ∙ h.view;
    joiners = k.joiners ∙ h.joiners;
    repaired = λ e. h.repaired (k.repaired e);
    marked = λ authoritative x. k.marked (h.same ∙ authoritative) (h.marked authoritative x);
    counted = λ authoritative x c. k.counted (h.same ∙ authoritative) (h.marked authoritative x) (h.counted authoritative x c);
  }

  reckons-rest : (s u : SiteState) → Reckons D i s (with_others s u)
  reckons-rest s u = record { same = refl; view = refl; joiners = refl; repaired = λ e. e; marked = λ authoritative x. x; counted = λ authoritative x c. c }

  -- the same positions of joiners
  same-positions : (f : Joiner → Joiner) → ((j : Joiner) → (f j).stream_start ≡ j.stream_start) → ((j : Joiner) → (f j).position ≡ j.position) → (js : List Joiner)
      → (begins_at (map f js) ≡ begins_at js) × (map (λ j. Some (max j.stream_start j.position)) (map f js) ≡ map (λ j. Some (max j.stream_start j.position)) js)
  same-positions f n p [] = (refl, refl)
  same-positions f n p (j ∷ js) = let r = same-positions f n p js in (rw (n j, r.0), rw (n j, p j, r.1))

  reckons-settles : StateSaying D i (Reckons D i)
  reckons-settles = record {
    first = λ s. reckons-rest s s;
    next = reckons-then;
    rest = reckons-rest;
    apart = λ s u a. record {
      same = a.after ∙ sym a.before;
      view = a.view;
      joiners = ap begins_at a.joiners;
      repaired = a.repaired;
      marked = λ authoritative x. absurd (not-both (is_leader D i s) authoritative a.before);
      counted = λ authoritative x c. absurd (not-both (is_leader D i s) authoritative a.before);
    };
    counted = λ s authoritative acks joiners e. record {
      same = refl;
      view = refl;
      joiners = e;
      repaired = λ r. r;
      marked = λ _ x. x;
      counted = λ _ x c. counted-now D i (record s { acks = acks; joiners = joiners });
    };
    joiners = λ s f n p. let r = same-positions f n p s.joiners in record {
      same = refl;
      view = refl;
      joiners = r.0;
      repaired = λ e. e;
      marked = λ authoritative x. x;
      counted = λ authoritative x c n. subst (λ ps. least_of (copy_acks D i s ++ ps) ≡ Some n → n ≤ s.firm) (sym r.1) (c n);
    };
  }

  reckons-steps : (E : Database) (stamp : ℕ) → StateSteps E D stamp i AnyReport AnyCall (Reckons D i)
  reckons-steps E stamp = record {
    settles = reckons-settles;
    called = λ s authoritative clear call client body. record { same = refl; view = refl; joiners = refl; repaired = λ e. e; marked = λ _ x. x; counted = λ _ x c. c };
    begun = λ s authoritative un all. record { same = refl; view = refl; joiners = refl; repaired = λ e. un; marked = λ _ x m. refl; counted = λ _ x c. c };
    reported = λ s r p. record { same = refl; view = refl; joiners = refl; repaired = λ e. e; marked = λ _ x. x; counted = λ _ x c. c };
    noted = λ s idle acks joiners e. record {
      same = refl;
      view = refl;
      joiners = e;
      repaired = λ r. r;
      marked = λ _ x. x;
      counted = λ authoritative x c. unmarked-counted D i (record s { acks = acks; joiners = joiners }) (λ m. not-both (leads D i s) (leads-from D i s authoritative (x m)) idle);
    };
  }

-- ---- joiners and where their streams began

begins-to : (P : ℕ → Type 0) (js : List Joiner) → AllByRecursion (λ j. P j.stream_start) js → AllByRecursion P (begins_at js)
begins-to P [] h = tt
begins-to P (j ∷ js) h = (h.0, begins-to P js h.1)

begins-from : (P : ℕ → Type 0) (js : List Joiner) → AllByRecursion P (begins_at js) → AllByRecursion (λ j. P j.stream_start) js
begins-from P [] h = tt
begins-from P (j ∷ js) h = (h.0, begins-from P js h.1)

same-begins : (low : ℕ) (xs ys : List Joiner) → begins_at xs ≡ begins_at ys → AllByRecursion (λ j. low ≤ j.stream_start) ys → AllByRecursion (λ j. low ≤ j.stream_start) xs
same-begins low xs ys e h = begins-from (λ n. low ≤ n) xs (subst (AllByRecursion (λ n. low ≤ n)) (sym e) (begins-to (λ n. low ≤ n) ys h))

none-begins : (js : List Joiner) → begins_at js ≡ [] → js ≡ []
none-begins [] e = refl
none-begins (j ∷ js) e = absurd (cc)

-- ---- the last step

module _ (E : Database) (D : Deployment) (i : ℕ) (v : SiteState) where
  abbrev last : SiteState
  last = (takes_asks E D i v).state

  asks-leader : is_leader D i last ≡ is_leader D i v
  asks-leader = elim (asks-taken E D i v) [ inl e ↦ ap (is_leader D i) e | inr k ↦ ap (is_leader D i) k.is ]

  -- with a joiner more the least is no greater
  more-counted : (new : Joiner) → Counted D i v → Counted D i (record v { joiners = v.joiners ++ new ∷ [] })
  more-counted new c n e =
      let f : Joiner → Option ℕ = λ j. Some (max j.stream_start j.position) in
      let bs : List (Option ℕ) = map (acked_in v.acks) (other_copies D i v) in
      let split : map f (v.joiners ++ new ∷ []) ≡ map f v.joiners ++ f new ∷ [] = map-append f v.joiners (new ∷ []) in
      let same : bs ++ map f (v.joiners ++ new ∷ []) ≡ (bs ++ map f v.joiners) ++ f new ∷ [] =
      ap (λ x. bs ++ x) split ∙ sym (append_assoc bs (map f v.joiners) (f new ∷ [])) in
      let q = least-fewer (own_ack v) (bs ++ map f v.joiners) (f new) n (sym (ap (least (own_ack v)) same) ∙ e) in
      let k = c q.0 q.1 in
      let l = q.2 in
      omega (arith, k, l)

  asks-counted : Counted D i v → Counted D i last
  asks-counted c = elim (asks-taken E D i v) [ inl e ↦ subst (Counted D i) (sym e) c | inr k ↦ subst (Counted D i) (sym k.is) (more-counted k.new c) ]

  asks-joined : (low : ℕ) → low ≤ length last.log → AllByRecursion (λ j. low ≤ j.stream_start) v.joiners → AllByRecursion (λ j. low ≤ j.stream_start) last.joiners
  asks-joined low long h = elim (asks-taken E D i v) [
    | inl e ↦ subst (λ s. AllByRecursion (λ j. low ≤ j.stream_start) s.joiners) (sym e) h
    | inr k ↦
        let same : length last.log ≡ length v.log = ap (λ s. length s.log) k.is in
        let stream_start = k.stream_start in
        subst (λ s. AllByRecursion (λ j. low ≤ j.stream_start) s.joiners) (sym k.is)
        (all-append (λ j. low ≤ j.stream_start) v.joiners (k.new ∷ []) h (omega (arith, long, same, stream_start), tt))
  ]

  asks-unrepaired : Unrepaired v → Unrepaired last
  asks-unrepaired h = elim (asks-taken E D i v) [
    | inl e ↦ subst Unrepaired (sym e) h
    | inr k ↦ λ un. absurd (not-both v.repaired (leads-parts D i v k.leads).1 (sym (ap (λ s. s.repaired) k.is) ∙ un))
  ]

-- ---- a turn

above-mark : (D : Deployment) (i : ℕ) (s : SiteState) (from : Actor) (l : Letter) (h : ℕ) (w : Membership) → from ≡ Agent h → l.body ≡ msg.View w → AboveMark D i s from l
    → stays_joiner D i s w ≡ false → s.mark < term_of w
above-mark D i s from l h w e b c = subst (λ m. AboveMark D i s (Agent h) (record l { body = m })) b (subst (λ f. AboveMark D i s f l) e c)

-- a leader that isn't repaired, or has counted all
leader-counted : (D : Deployment) (i : ℕ) (s : SiteState) → is_leader D i s ≡ true → (leads D i s ≡ true → Counted D i s) → Marked s → Counted D i s
leader-counted D i s authoritative counted marked = choice s.repaired refl
  where
    choice : (b : Bool) → s.repaired ≡ b → Counted D i s
    choice true e = counted (leads-from D i s authoritative e)
    choice false e = unmarked-counted D i s (λ m. not-both s.repaired (marked m) e)

-- one that isn't repaired, or knows where its joiners' streams began
leader-joined : (D : Deployment) (i : ℕ) (s : SiteState) (low : ℕ) → is_leader D i s ≡ true → (leads D i s ≡ true → AllByRecursion (λ j. low ≤ j.stream_start) s.joiners)
    → Unrepaired s → AllByRecursion (λ j. low ≤ j.stream_start) s.joiners
leader-joined D i s low authoritative held un = choice s.repaired refl
  where
    choice : (b : Bool) → s.repaired ≡ b → AllByRecursion (λ j. low ≤ j.stream_start) s.joiners
    choice true e = held (leads-from D i s authoritative e)
    choice false e = subst (AllByRecursion (λ j. low ≤ j.stream_start)) (sym (un e)) tt

module _ (E : Database) (D : Deployment) (stamp i : ℕ) (s : SiteState) (from : Actor) (l : Letter) (o : Environment) where
  abbrev u : SiteState
  u = (site_turn E D stamp i s from l o).state

  goes : (arrival s.start (site_term s) l ≡ Taken → Comes D i s from l) → AllByRecursion WaitsQuietly s.waiting → Walked E D i (Reckons D i) s from l u
  goes comes waiting = walked E D stamp i AnyReport AnyCall (Reckons D i) (reckons-steps D i E stamp)
      (λ s ws. record { same = refl; view = refl; joiners = refl; repaired = λ e. e; marked = λ _ x. x; counted = λ _ x c. c }) s waiting (any-calls s.calls) (any-waiting s.waiting) from l o
      comes (λ _. any-report from l) (λ _. any-call from l) (any-reports (site_term u) s.waiting)

  -- who leads at the end did so before a joiner was taken
  led-before : (b v : SiteState) → Reckons D i b v → u ≡ (takes_asks E D i v).state → leads D i u ≡ true → is_leader D i b ≡ true
  led-before b v k is led = sym k.same ∙ sym (asks-leader E D i v) ∙ sym (ap (is_leader D i) is) ∙ (leads-parts D i u led).0

  pub site-counted : 0 < s.start → (arrival s.start (site_term s) l ≡ Taken → Comes D i s from l) → (arrival s.start (site_term s) l ≡ Taken → AboveMark D i s from l)
      → AllByRecursion WaitsQuietly s.waiting → (leads D i s ≡ true → Counted D i s) → (s.joining ≡ None → s.mark ≡ site_term s → s.repaired ≡ true)
      → leads D i u ≡ true → Counted D i u
  site-counted up comes above waiting counted marked led = go (goes comes waiting)
    where
      -- from the state before its walk
      from-state : (b v : SiteState) → Reckons D i b v → u ≡ (takes_asks E D i v).state → is_leader D i b ≡ true → Marked b → Counted D i b → Counted D i u
      from-state b v k is authoritative m c = subst (Counted D i) (sym is) (asks-counted E D i v (k.counted authoritative m c))

      go : Walked E D i (Reckons D i) s from l u → Counted D i u
      go (StopsOrBegins view joiners) = absurd (stopped-not-leads D i u view led)
      go (NothingSeen none is) = subst (Counted D i) (sym is) (counted (sym (ap (leads D i) is) ∙ led))
      go (GoesOnSame a log leading other v view k is) =
          let b = record s { log = log } in
          let authoritative : is_leader D i s ≡ true = led-before b v k is led in
          let m : Marked s = marked (leader-view D i s authoritative).0 in
          from-state b v k is authoritative m (leader-counted D i s authoritative counted m)
      go (GoesOnNew a h w sender body joining enters v view k is) =
          let b = record (in_new_term s w) { joining = joining } in
          let authoritative : is_leader D i b ≡ true = led-before b v k is led in
          let low : s.mark < term_of w = above-mark D i s from l h w sender body (above a) (enters (leader-view D i b authoritative).0) in
          from-state b v k is authoritative (λ e. absurd (omega (arith, low, e))) (unmarked-counted D i b (λ e. omega (arith, low, e)))

  pub site-joined : (low : ℕ) → 0 < s.start → (arrival s.start (site_term s) l ≡ Taken → Comes D i s from l) → AllByRecursion WaitsQuietly s.waiting
      → (leads D i s ≡ true → u.view ≡ s.view → AllByRecursion (λ j. low ≤ j.stream_start) s.joiners) → Unrepaired s → leads D i u ≡ true → low ≤ length u.log
      → AllByRecursion (λ j. low ≤ j.stream_start) u.joiners
  site-joined low up comes waiting held unrepaired led long = go (goes comes waiting)
    where
      from-state : (b v : SiteState) → Reckons D i b v → u ≡ (takes_asks E D i v).state → AllByRecursion (λ j. low ≤ j.stream_start) b.joiners → AllByRecursion (λ j. low ≤ j.stream_start) u.joiners
      from-state b v k is h = subst (λ x. AllByRecursion (λ j. low ≤ j.stream_start) x.joiners) (sym is)
          (asks-joined E D i v low (subst (λ x. low ≤ length x.log) is long) (same-begins low v.joiners b.joiners k.joiners h))

      go : Walked E D i (Reckons D i) s from l u → AllByRecursion (λ j. low ≤ j.stream_start) u.joiners
      go (StopsOrBegins view joiners) = absurd (stopped-not-leads D i u view led)
      go (NothingSeen none is) = subst (λ x. AllByRecursion (λ j. low ≤ j.stream_start) x.joiners) (sym is) (held (sym (ap (leads D i) is) ∙ led) (ap (λ x. x.view) is))
      go (GoesOnSame a log leading other v view k is) =
          let b = record s { log = log } in
          from-state b v k is (leader-joined D i s low (led-before b v k is led)
          (λ authoritative. held authoritative (ap (λ x. x.view) is ∙ asks-view E D i v ∙ view)) unrepaired)
      go (GoesOnNew a h w sender body joining enters v view k is) = from-state (record (in_new_term s w) { joining = joining }) v k is tt

  pub site-unrepaired : (arrival s.start (site_term s) l ≡ Taken → Comes D i s from l) → AllByRecursion WaitsQuietly s.waiting → Unrepaired s → Unrepaired u
  site-unrepaired comes waiting h = go (goes comes waiting)
    where
      from-state : (b v : SiteState) → Reckons D i b v → u ≡ (takes_asks E D i v).state → Unrepaired b → Unrepaired u
      from-state b v k is f = subst Unrepaired (sym is) (asks-unrepaired E D i v (λ un. none-begins v.joiners (k.joiners ∙ ap begins_at (f (k.repaired un)))))

      go : Walked E D i (Reckons D i) s from l u → Unrepaired u
      go (StopsOrBegins view joiners) = λ un. joiners
      go (NothingSeen none is) = subst Unrepaired (sym is) h
      go (GoesOnSame a log leading other v view k is) = from-state (record s { log = log }) v k is h
      go (GoesOnNew a h w sender body joining enters v view k is) = from-state (record (in_new_term s w) { joining = joining }) v k is (λ un. refl)

-- ---- a Sync

module _ (E : Database) (D : Deployment) (i : ℕ) (s : SiteState) where
  abbrev b : SiteState
  b = written_site s

  -- behind what it says, and before a joiner is taken
  abbrev m : SiteState
  m = (after_sync D i b b.joining).state

  abbrev v : SiteState
  v = (settled_turn E D i m).state

  said : Reckons D i b m
  said = (after_sync-walk D i (Over AnyCall (Reckons D i)) (over-settles D i AnyCall (Reckons D i) (reckons-settles D i)) b (any-calls b.calls)).0

  then : Reckons D i m v
  then = (settled-walk E D i (Over AnyCall (Reckons D i)) (over-moves D i AnyCall (Reckons D i) (reckons-settles D i)) (over-tells D i AnyCall (Reckons D i) (reckons-settles D i) E) m (any-calls m.calls)).0

  is-written : Wrote s b
  is-written = wrote s

  -- A leader counts.
  says-counted : (j : Option Joining) → b.joining ≡ j → leads D i b ≡ true → Counted D i (after_sync D i b j).state
  says-counted (Some j) e authoritative = absurd (none-and-some (leader-view D i b (leads-parts D i b authoritative).0).0 e)
  says-counted None e authoritative = subst (λ t. Counted D i t.state) (sym (if-true (is_leader D i b) (counts D i b) _ (leads-parts D i b authoritative).0)) (counts-counted D i b authoritative)

  syncs-counted : leads D i (syncs E D i s).state ≡ true → Counted D i (syncs E D i s).state
  syncs-counted led =
      let authoritative : is_leader D i b ≡ true = sym said.same ∙ sym then.same ∙ sym (asks-leader E D i v) ∙ (leads-parts D i (syncs E D i s).state led).0 in
      let p = leads-parts D i s (sync-steady E D i s NoFault led).2 in
      let repaired : b.repaired ≡ true = is-written.repaired ∙ p.1 in
      asks-counted E D i v (then.counted (said.same ∙ authoritative) (said.marked authoritative (λ _. repaired)) (says-counted b.joining refl (leads-from D i b authoritative repaired)))

  syncs-joined : (low : ℕ) → (leads D i s ≡ true → AllByRecursion (λ j. low ≤ j.stream_start) s.joiners) → leads D i (syncs E D i s).state ≡ true
      → low ≤ length (syncs E D i s).state.log → AllByRecursion (λ j. low ≤ j.stream_start) (syncs E D i s).state.joiners
  syncs-joined low held led long =
      asks-joined E D i v low long (same-begins low v.joiners s.joiners (then.joiners ∙ said.joiners ∙ ap begins_at is-written.joiners) (held (sync-steady E D i s NoFault led).2))

  syncs-unrepaired : Unrepaired s → Unrepaired (syncs E D i s).state
  syncs-unrepaired h = asks-unrepaired E D i v (λ un. none-begins v.joiners (then.joiners ∙ said.joiners
      ∙ ap begins_at (is-written.joiners ∙ h (sym is-written.repaired ∙ said.repaired (then.repaired un)))))

pub sync-counted : (E : Database) (D : Deployment) (i : ℕ) (s : SiteState) (o : Environment) → leads D i (sync_turn E D i s o).state ≡ true
    → Counted D i (sync_turn E D i s o).state
sync-counted E D i s NoFault led = syncs-counted E D i s led
sync-counted E D i s (DisksShow shown failed) led = syncs-counted E D i s led
sync-counted E D i s (DiskFails answered) led = absurd (stopped-not-leads D i (sync_turn E D i s (DiskFails answered)).state refl led)
sync-counted E D i s (NoMemory answered) led = absurd (stopped-not-leads D i (sync_turn E D i s (NoMemory answered)).state refl led)

pub sync-joined : (E : Database) (D : Deployment) (i : ℕ) (s : SiteState) (o : Environment) (low : ℕ) → (leads D i s ≡ true → AllByRecursion (λ j. low ≤ j.stream_start) s.joiners)
    → leads D i (sync_turn E D i s o).state ≡ true → low ≤ length (sync_turn E D i s o).state.log
    → AllByRecursion (λ j. low ≤ j.stream_start) (sync_turn E D i s o).state.joiners
sync-joined E D i s NoFault low held led long = syncs-joined E D i s low held led long
sync-joined E D i s (DisksShow shown failed) low held led long = syncs-joined E D i s low held led long
sync-joined E D i s o low held led long = tt

pub sync-unrepaired : (E : Database) (D : Deployment) (i : ℕ) (s : SiteState) (o : Environment) → Unrepaired s → Unrepaired (sync_turn E D i s o).state
sync-unrepaired E D i s NoFault h = syncs-unrepaired E D i s h
sync-unrepaired E D i s (DisksShow shown failed) h = syncs-unrepaired E D i s h
sync-unrepaired E D i s o h = λ un. refl
