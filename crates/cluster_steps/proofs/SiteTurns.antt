-- What goes on over each small step of a site goes on over its whole turn, and what a message or a Sync makes of a site, by cases.
use Rattle.cluster_steps.proofs.Names.{◌≡◌, ◌<◌, Bool, true, false, List, [], ◌∷◌, ◌++◌, refl, sym, subst, ap, ◌∙◌, ◌==◌, arith, and_parts, eqb-true, nat_tests, ℕ, ◌&&◌, not, max, find, nat_lt, nat_le, if◌then◌else◌, Option, Some, None, is_none, AllByRecursion, list_any, Entry, Frag, Done, StreamHead, Membership, Actor, Agent, Site, Scanner, Msg, Database, Shown, after_parts, after_failure, Environment, DiskFails, NoMemory, nothing_open, Deployment, part_of_slot, host_of_slot, is_slot_of, is_member, Blocks, same, Letter, Sends, Waiting, Turn, becomes, sending, ◌▸◌, arrival, Arrival, Taken, Refused, Waits, of_term, above_term, stops_others, SiteState, Streamed, Joining, Ask, emptied, new_joining, is_joiner, leads, leader_in, site_term, holds_for, initiator_in, may_stream, on_stream_start, in_new_term, asks_to_join, on_view, is_lost_in, can_take, takes_first_ask, takes_asks, settles, ordered, site_handler, takes_each, takes_waiting, on_start, on_stop, site_runs, site_takes, after_sync, written, joiner_written, syncs, parts_of_sync, parts_of_message, start_after, stops_so, site_turn, sync_turn, In, cond_both, take}
use Rattle.volt_wire.specs.declared.message.Msg.TheVariants as msg
use Rattle.cluster_steps.proofs.Lists.{all-append, all-at, all-from, all-if, all-mono, all-one, in-filter, same-some}
use Rattle.cluster_steps.proofs.Frames.{InertLetter, InertSends, holds_for-cases}
use Rattle.cluster_steps.proofs.Steps.{KnownOf, LetsGo, SmallSteps, SayingSteps, HandlerSteps, MayBeTold, with_entry, with_stream}
use Rattle.cluster_steps.proofs.SiteWalk.{after_sync-walk, as_member-walk, asks_to_join-inert, handler-walk, settled_turn, settled-walk, works_calls-walk}

-- ---- a joiner that asked is taken

-- one that is found passes the test
found-passes : (test : Ask → Bool) (xs : List Ask) (a : Ask) → find test xs ≡ Some a → test a ≡ true
found-passes test [] a e = absurd (cc)
found-passes test (x ∷ xs) a e = cond_both (test x) _ _ (λ z. (find test xs ≡ Some a → test a ≡ true) → z ≡ Some a → test a ≡ true)
    (λ q later k. ap test (sym (same-some k)) ∙ q) (λ q later k. later k) (found-passes test xs a) e

module _ (E : Database) (D : Deployment) (i : ℕ) (s : SiteState) where
  -- whom it can take, it takes as a leader whose mark is on its disk
  can_take-parts : (a : Ask) → can_take D i s a ≡ true → (leads D i s ≡ true) × (s.mark ≡ site_term s)
  can_take-parts a e =
      let lost = not (is_lost_in s.view a.start) in
      let p = and_parts (leads D i s && s.mark == site_term s && nothing_open s.log && is_none s.scanning && lost) (not (list_any (λ j. j.slot == a.slot) s.joiners)) e in
      let q = and_parts (leads D i s && s.mark == site_term s && nothing_open s.log && is_none s.scanning) lost p.0 in
      let r = and_parts (leads D i s && s.mark == site_term s && nothing_open s.log) (is_none s.scanning) q.0 in
      let u = and_parts (leads D i s && s.mark == site_term s) (nothing_open s.log) r.0 in
      let v = and_parts (leads D i s) (s.mark == site_term s) u.0 in
      (v.0, eqb-true s.mark (site_term s) v.1)

  -- Either nothing happens, or a joiner that asked is taken.
  pub takes_asks-cases : (P : Turn SiteState → Type 0) → P (becomes s)
      → ((a : Ask) → leads D i s ≡ true → s.mark ≡ site_term s → P (takes_first_ask E D i s (Some a))) → P (takes_asks E D i s)
  takes_asks-cases P none one = go (find (can_take D i s) s.asks) refl
    where
      go : (o : Option Ask) → find (can_take D i s) s.asks ≡ o → P (takes_first_ask E D i s o)
      go None e = none
      go (Some a) e = let can = can_take-parts a (found-passes (can_take D i s) s.asks a e) in one a can.0 can.1

-- ---- a word

-- A joiner stays one that the word doesn't admit. Else the site is a member from then on.
abbrev pub stays_joiner : Deployment → ℕ → SiteState → Membership → Bool
stays_joiner D i s w = is_joiner s && not (is_member w (host_of_slot D i) s.start)

abbrev pub as_joiner : SiteState → Membership → SiteState
as_joiner s w = in_new_term s w

abbrev pub as_entered : SiteState → Membership → SiteState
as_entered s w = record (in_new_term s w) { joining = None }

-- ---- a whole turn

-- It takes what waited, and does all that follows but to take a joiner.
abbrev pub worked_turn : Database → Deployment → ℕ → ℕ → Turn SiteState → Turn SiteState
worked_turn E D stamp i t = t ▸ takes_waiting E D stamp i ▸ settled_turn E D i

abbrev pub whole_turn : Database → Deployment → ℕ → ℕ → Turn SiteState → Turn SiteState
whole_turn E D stamp i t = ordered (t ▸ takes_waiting E D stamp i ▸ settles E D i)

-- what is said of what waits at a site
abbrev pub KnownAt : (SiteState → Actor → Letter → Type 0) → SiteState → Type 0
KnownAt K s = AllByRecursion (KnownOf K (site_term s)) s.waiting

-- A joiner that asked may be taken.
abbrev pub MayTakeAsks : Database → Deployment → ℕ → (SiteState → Turn SiteState → Type 0) → Type 0
MayTakeAsks E D i R = (s : SiteState) → R s (takes_asks E D i s)

-- what is so of each of those of a term, if it is of that
all-of-term : (Q : Waiting → Type 0) (term : ℕ) (ws : List Waiting) → AllByRecursion (λ x. x.letter.term ≡ term → Q x) ws → AllByRecursion Q (of_term term ws)
all-of-term Q term ws h = all-from Q (of_term term ws) (λ x k.
    let r = in-filter (λ w. w.letter.term == term) x ws k in all-at (λ x. x.letter.term ≡ term → Q x) ws h x r.0 (eqb-true x.letter.term term r.1))

module _ (E : Database) (D : Deployment) (i : ℕ) (R : SiteState → Turn SiteState → Type 0) (M : SmallSteps R) (told : MayBeTold E D i R) (asks : MayTakeAsks E D i R) where
  pub settles-walk : (s : SiteState) → R s (settles E D i s)
  settles-walk s = let t = settled_turn E D i s in M.next s t (takes_asks E D i) (settled-walk E D i R M told s) (asks t.state)

module _ (E : Database) (D : Deployment) (stamp i : ℕ) (K : SiteState → Actor → Letter → Type 0) (R : SiteState → Turn SiteState → Type 0) (W : HandlerSteps E D stamp i K R) where
  abbrev S : SmallSteps R
  S = W.settles.moves

  -- a word, from the site on that has it
  pub joins-walk : (s : SiteState) (w : Membership) → stays_joiner D i s w ≡ true → R (as_joiner s w) (on_view E D i stamp s w)
  joins-walk s w e =
      let b = as_joiner s w in let to = leader_in D b.view (part_of_slot D i) in
      rw e (S.says b (asks_to_join i D b to) (asks_to_join-inert i D b to))

  pub enters-walk : (s : SiteState) (w : Membership) → stays_joiner D i s w ≡ false → R (as_entered s w) (on_view E D i stamp s w)
  enters-walk s w e = rw e (as_member-walk E D stamp i K R W (as_entered s w) refl)

  takes_each-walk : (ws : List Waiting) (s : SiteState) → AllByRecursion (λ x. (m : SiteState) → K m x.from x.letter) ws → R s (takes_each E D stamp i ws s)
  takes_each-walk [] s k = S.first s
  takes_each-walk (w ∷ ws) s k =
      let t = site_handler E D stamp i s w.from w.letter in
      S.next s t (takes_each E D stamp i ws) (handler-walk E D stamp i K R W s w.from w.letter (k.0 s)) (takes_each-walk ws t.state k.1)

  module _ (lets : LetsGo R) where
    pub takes_waiting-walk : (s : SiteState) → KnownAt K s → R s (takes_waiting E D stamp i s)
    takes_waiting-walk s known =
        let term = site_term s in
        let u = record s { waiting = above_term term s.waiting } in
        S.next s (becomes u) (λ _. takes_waiting E D stamp i s) (lets s (above_term term s.waiting) (λ x k. (in-filter (λ w. nat_lt term w.letter.term) x s.waiting k).0))
        (takes_each-walk (of_term term s.waiting) u (all-of-term (λ x. (m : SiteState) → K m x.from x.letter) term s.waiting known))

    -- from a state on, from which the handler goes on
    pub taken-walk : (b : SiteState) (t : Turn SiteState) → R b t → KnownAt K t.state → R b (t ▸ takes_waiting E D stamp i)
    taken-walk b t handler known = S.next b t (takes_waiting E D stamp i) handler (takes_waiting-walk t.state known)

    pub worked-walk : MayBeTold E D i R → (b : SiteState) (t : Turn SiteState) → R b t → KnownAt K t.state → R b (worked_turn E D stamp i t)
    worked-walk told b t handler known =
        let u = t ▸ takes_waiting E D stamp i in S.next b u (settled_turn E D i) (taken-walk b t handler known) (settled-walk E D i R S told u.state)

    pub turn-walk : MayBeTold E D i R → MayTakeAsks E D i R → (b : SiteState) (t : Turn SiteState) → R b t → KnownAt K t.state → R b (t ▸ takes_waiting E D stamp i ▸ settles E D i)
    turn-walk told asks b t handler known =
        let u = t ▸ takes_waiting E D stamp i in S.next b u (settles E D i) (taken-walk b t handler known) (settles-walk E D i R S told asks u.state)

-- ---- what a turn leaves of the word and of what waits

-- no word
abbrev pub NoWord : Actor → Letter → Type 0
NoWord (Agent h) l = elim l.body as (λ _. Type 0) [ msg.View w ↦ ⊥ | _ ↦ Unit {0} ]
NoWord from l = Unit {0}

pub record KeepsWord (s : SiteState) (t : Turn SiteState) : Type 0 where
  pub start : t.state.start ≡ s.start
  pub view : t.state.view ≡ s.view
  pub waits : (x : Waiting) → In x t.state.waiting → In x s.waiting

keeps-same : (s : SiteState) (t : Turn SiteState) → t.state.start ≡ s.start → t.state.view ≡ s.view → t.state.waiting ≡ s.waiting → KeepsWord s t
keeps-same s t start view waiting = record { start = start; view = view; waits = λ x k. subst (In x) waiting k }

module _ (E : Database) (D : Deployment) (i : ℕ) where
  keeps-settles : SayingSteps D i KeepsWord
  keeps-settles = record {
    moves = record {
      first = λ s. keeps-same s (becomes s) refl refl refl;
      next = λ s t f h k. record { start = k.start ∙ h.start; view = k.view ∙ h.view; waits = λ x m. h.waits x (k.waits x m) };
      rest = λ s u. keeps-same s _ refl refl refl;
      says = λ s out inert. keeps-same s _ refl refl refl;
      joiners = λ s f same. keeps-same s _ refl refl refl;
    };
    joins = λ s j k log is stream based more. keeps-same s _ refl refl refl;
    counted = λ s authoritative acks joiners same. keeps-same s _ refl refl refl;
  }

  keeps-entry : (s : SiteState) (o : Option (ℕ × ℕ)) (m : Msg Blocks) (e : Entry) → KeepsWord s (becomes (with_entry (holds_for s o m) e))
  keeps-entry s o m e = holds_for-cases (λ h. KeepsWord s (becomes (with_entry h e))) s o m (keeps-same s _ refl refl refl) (λ first. keeps-same s _ refl refl refl)

  keeps-steps : (stamp : ℕ) → HandlerSteps E D stamp i (λ s from l. NoWord from l) KeepsWord
  keeps-steps stamp = record {
    settles = keeps-settles;
    queued = λ s h l call start client body k. keeps-same s _ refl refl refl;
    works = works_calls-walk E D stamp i KeepsWord (record {
      moves = keeps-settles.moves;
      cleared = λ s. keeps-same s _ refl refl refl;
      called = λ s authoritative clear c is. keeps-same s _ refl refl refl;
      answered = λ s authoritative clear c e is. keeps-same s _ refl refl refl;
    });
    round = λ s h l m round body k authoritative. keeps-entry s (initiator_in s.view) _ (Frag m round body);
    ended = λ s h l m o k authoritative. keeps-entry s (initiator_in s.view) _ (Done m o);
    word = λ s h l w k. k;
    begun = λ s authoritative un all. keeps-same s _ refl refl refl;
    reported = λ s slot l position floor tail k. keeps-same s _ refl refl refl;
    noted = λ s idle acks joiners same. keeps-same s _ refl refl refl;
    put = λ s slot l position e floor k. keeps-same s _ refl refl refl;
    repair = λ s slot l from entries k. keeps-same s _ refl refl refl;
    stream = λ s slot l head j k is may. keeps-same s _ refl refl refl;
  }

  keeps-asks : MayTakeAsks E D i KeepsWord
  keeps-asks s = takes_asks-cases E D i s (KeepsWord s) (keeps-same s (becomes s) refl refl refl) (λ a authoritative mark. keeps-same s _ refl refl refl)

  pub handler-keeps : (stamp : ℕ) (s : SiteState) (from : Actor) (l : Letter) → NoWord from l → KeepsWord s (site_handler E D stamp i s from l)
  handler-keeps stamp = handler-walk E D stamp i (λ s from l. NoWord from l) KeepsWord (keeps-steps stamp)

  pub worked-keeps : (stamp : ℕ) (t : Turn SiteState) → AllByRecursion (λ x. NoWord x.from x.letter) t.state.waiting → KeepsWord t.state (worked_turn E D stamp i t)
  worked-keeps stamp t quiet =
      let known = all-mono (λ x. NoWord x.from x.letter) (KnownOf (λ s from l. NoWord from l) (site_term t.state)) (λ x k _ _. k) t.state.waiting in
      let s = t.state in
      let k = worked-walk E D stamp i (λ s from l. NoWord from l) KeepsWord (keeps-steps stamp) lets (λ s may first. keeps-same s _ refl refl refl) s (becomes s) (keeps-same s (becomes s) refl refl refl) (known quiet) in
      record { start = k.start; view = k.view; waits = k.waits }
    where
      lets : LetsGo KeepsWord
      lets s ws less = record { start = refl; view = refl; waits = less }

  -- behind a whole turn, that of what waited and a joiner that is taken among it
  pub whole-keeps : (stamp : ℕ) (t : Turn SiteState) → AllByRecursion (λ x. NoWord x.from x.letter) t.state.waiting → KeepsWord t.state (whole_turn E D stamp i t)
  whole-keeps stamp t quiet =
      let h = worked-keeps stamp t quiet in
      let k = keeps-asks (worked_turn E D stamp i t).state in
      record { start = k.start ∙ h.start; view = k.view ∙ h.view; waits = λ x m. h.waits x (k.waits x m) }

  pub view-keeps : (stamp : ℕ) (s : SiteState) (w : Membership) (c : Bool) → stays_joiner D i s w ≡ c → KeepsWord (if c then as_joiner s w else as_entered s w) (on_view E D i stamp s w)
  view-keeps stamp s w true e = joins-walk E D stamp i (λ s from l. NoWord from l) KeepsWord (keeps-steps stamp) s w e
  view-keeps stamp s w false e = enters-walk E D stamp i (λ s from l. NoWord from l) KeepsWord (keeps-steps stamp) s w e

-- It goes on with its start, and what waits behind waited before: behind a handler, and behind a turn that takes a message.
abbrev pub StaysUp : SiteState → SiteState → Type 0
StaysUp s u = (u.start ≡ s.start) × ((x : Waiting) → In x u.waiting → In x s.waiting)

pub handler-stays : (E : Database) (D : Deployment) (stamp i : ℕ) (s : SiteState) (from : Actor) (l : Letter) → StaysUp s (site_handler E D stamp i s from l).state
handler-stays E D stamp i s from l = go from l
  where
    view : (w : Membership) (c : Bool) → stays_joiner D i s w ≡ c → StaysUp s (on_view E D i stamp s w).state
    view w true e = let k = view-keeps E D i stamp s w true e in (k.start, k.waits)
    view w false e = let k = view-keeps E D i stamp s w false e in (k.start, k.waits)

    plain : (from : Actor) (l : Letter) → NoWord from l → StaysUp s (site_handler E D stamp i s from l).state
    plain from l n = let k = handler-keeps E D i stamp s from l n in (k.start, k.waits)

    go : (from : Actor) (l : Letter) → StaysUp s (site_handler E D stamp i s from l).state
    go (Agent h) l = elim l.body as (λ m. StaysUp s (site_handler E D stamp i s (Agent h) (record l { body = m })).state) [
      | msg.View w ↦ view w (stays_joiner D i s w) refl
      | m ↦ plain (Agent h) (record l { body = m }) tt
    ]
    go from l = plain from l tt

pub taken-stays : (E : Database) (D : Deployment) (stamp i : ℕ) (s : SiteState) (from : Actor) (l : Letter) → AllByRecursion (λ x. NoWord x.from x.letter) s.waiting
    → StaysUp s (whole_turn E D stamp i (site_handler E D stamp i s from l)).state
taken-stays E D stamp i s from l quiet =
    let t = site_handler E D stamp i s from l in
    let h = handler-stays E D stamp i s from l in
    let k = whole-keeps E D i stamp t (all-from (λ x. NoWord x.from x.letter) t.state.waiting (λ x m. all-at (λ x. NoWord x.from x.letter) s.waiting quiet x (h.1 x m))) in
    (k.start ∙ h.0, λ x m. h.1 x (k.waits x m))

-- ---- from which state the handler of a message goes on

-- neither a word, nor a stream
abbrev pub Plain : Actor → Letter → Type 0
Plain (Site slot) l = elim l.body as (λ _. Type 0) [ msg.StreamStart head ↦ ⊥ | _ ↦ Unit {0} ]
Plain (Agent h) l = elim l.body as (λ _. Type 0) [ msg.View w ↦ ⊥ | _ ↦ Unit {0} ]
Plain from l = Unit {0}

abbrev pub PlainWaiting : Waiting → Type 0
PlainWaiting x = Plain x.from x.letter

pub plain-word : (x : Waiting) → PlainWaiting x → NoWord x.from x.letter
plain-word x = go x.from x.letter
  where
    go : (from : Actor) (l : Letter) → Plain from l → NoWord from l
    go (Agent h) l k = k
    go from l k = tt

-- what waits, behind the handler of a message
pub handler-known : (E : Database) (D : Deployment) (stamp i : ℕ) (s : SiteState) (from : Actor) (l : Letter) → AllByRecursion PlainWaiting s.waiting
    → KnownAt (λ _ from l. Plain from l) (site_handler E D stamp i s from l).state
handler-known E D stamp i s from l plain = all-from (KnownOf (λ _ from l. Plain from l) (site_term (site_handler E D stamp i s from l).state)) _
    (λ x m _ _. all-at PlainWaiting s.waiting plain x ((handler-stays E D stamp i s from l).1 x m))

module _ (E : Database) (D : Deployment) (stamp i : ℕ) (R : SiteState → Turn SiteState → Type 0) (W : HandlerSteps E D stamp i (λ _ from l. Plain from l) R) (s : SiteState)
    (P : SiteState → Type 0) (itself : P s) (streams : (j : Joining) (l : Letter) (head : StreamHead) → s.joining ≡ Some j → may_stream s j l ≡ true → P (with_stream s j l head))
    (words : (w : Membership) (joining : Option Joining) → P (record (in_new_term s w) { joining = joining })) where
  -- From the site itself, or with the stream or word that it takes.
  abbrev From : Turn SiteState → Type 0
  From t = (b : SiteState) × P b × R b t

  from-stream : (slot : ℕ) (l : Letter) (head : StreamHead) → From (becomes (on_stream_start s s.joining l head))
  from-stream slot l head = go s.joining refl
    where
      may : (j : Joining) → s.joining ≡ Some j → (c : Bool) → may_stream s j l ≡ c → From (becomes (if c then with_stream s j l head else s))
      may j e true m = let b = with_stream s j l head in (b, streams j l head e m, W.settles.moves.first b)
      may j e false m = (s, itself, W.settles.moves.first s)

      go : (o : Option Joining) → s.joining ≡ o → From (becomes (on_stream_start s o l head))
      go None e = (s, itself, W.settles.moves.first s)
      go (Some j) e = may j e (may_stream s j l) refl

  from-word : (w : Membership) → From (on_view E D i stamp s w)
  from-word w = go (stays_joiner D i s w) refl
    where
      go : (c : Bool) → stays_joiner D i s w ≡ c → From (on_view E D i stamp s w)
      go true e = (as_joiner s w, words w s.joining, joins-walk E D stamp i (λ _ from l. Plain from l) R W s w e)
      go false e = (as_entered s w, words w None, enters-walk E D stamp i (λ _ from l. Plain from l) R W s w e)

  from-plain : (from : Actor) (l : Letter) → Plain from l → From (site_handler E D stamp i s from l)
  from-plain from l k = (s, itself, handler-walk E D stamp i (λ _ from l. Plain from l) R W s from l k)

  pub handler-from : (from : Actor) (l : Letter) → From (site_handler E D stamp i s from l)
  handler-from (Agent h) l = elim l.body as (λ m. From (site_handler E D stamp i s (Agent h) (record l { body = m }))) [
    | msg.View w ↦ from-word w
    | m ↦ from-plain (Agent h) (record l { body = m }) tt
  ]
  handler-from (Site slot) l = elim l.body as (λ m. From (site_handler E D stamp i s (Site slot) (record l { body = m }))) [
    | msg.StreamStart head ↦ from-stream slot (record l { body = msg.StreamStart head }) head
    | m ↦ from-plain (Site slot) (record l { body = m }) tt
  ]
  handler-from from l = from-plain from l tt

-- ---- what a message makes of a site, by cases

-- a message that arrives so
abbrev arrived : Database → Deployment → ℕ → ℕ → SiteState → Actor → Letter → Arrival → Turn SiteState
arrived E D stamp i s from l a = elim a as (λ _. Turn SiteState) [
  | Taken ↦ whole_turn E D stamp i (site_handler E D stamp i s from l)
  | Waits ↦ becomes (record s { waiting = s.waiting ++ record { from = from; letter = l } ∷ [] })
  | Refused ↦ becomes s
]

module _ (E : Database) (D : Deployment) (stamp i : ℕ) (s : SiteState) (from : Actor) (l : Letter) where
  pub site_runs-taken : arrival s.start (site_term s) l ≡ Taken → site_runs E D stamp i s from l ≡ whole_turn E D stamp i (site_handler E D stamp i s from l)
  site_runs-taken e = ap (arrived E D stamp i s from l) e

  pub site_runs-refused : arrival s.start (site_term s) l ≡ Refused → site_runs E D stamp i s from l ≡ becomes s
  site_runs-refused e = ap (arrived E D stamp i s from l) e

  pub site_runs-waits : arrival s.start (site_term s) l ≡ Waits
      → site_runs E D stamp i s from l ≡ becomes (record s { waiting = s.waiting ++ record { from = from; letter = l } ∷ [] })
  site_runs-waits e = ap (arrived E D stamp i s from l) e

-- a site that stopped, or begins
abbrev pub anew : SiteState → ℕ → Option Joining → ℕ → List Shown → SiteState
anew s start joining stop contents = record (emptied s start joining) { stop = stop; contents = contents }

-- what is for the host, and no message that a site takes in its term
abbrev pub ForHost : Letter → Type 0
ForHost l = elim l.body as (λ _. Type 0) [ msg.Start start ↦ Unit {0} | msg.Stop start ↦ Unit {0} | msg.Power call choice ↦ Unit {0} | _ ↦ ⊥ ]

stops_so-inert : (D : Deployment) (i : ℕ) (s : SiteState) (start : ℕ) (contents : List Shown) → InertSends (stops_so D i s start contents).sends
stops_so-inert D i s start contents b = all-if InertLetter (same (Site i) b) [] (stops_others D (host_of_slot D i) start b) tt (others b)
  where
    others : InertSends (stops_others D (host_of_slot D i) start)
    others (Agent g) = all-one InertLetter (g == host_of_slot D i) _ (λ _. tt)
    others (Site c) = all-one InertLetter (is_slot_of D (host_of_slot D i) c) _ (λ _. tt)
    others (Scanner x) = all-one InertLetter (is_slot_of D (host_of_slot D i) x) _ (λ _. tt)
    others from = tt

module _ (E : Database) (D : Deployment) (stamp i : ℕ) (s : SiteState) (from : Actor) (G : Turn SiteState → Type 0)
    (ends : (start stop : ℕ) (joining : Option Joining) (contents : List Shown) (out : Sends) → InertSends out → G (sending (anew s start joining stop contents) out))
  where
    -- What holds of each turn that a message may make: it stops or begins, takes a number, lets the message wait, or takes it.
    module _ (l : Letter)
        (aside : (stop : ℕ) (plans : List (ℕ × ℕ)) → (0 < s.start → arrival s.start (site_term s) l ≡ Taken → ForHost l) → G (becomes (record s { stop = stop; plans = plans })))
        (waits : 0 < s.start → arrival s.start (site_term s) l ≡ Waits → G (becomes (record s { waiting = s.waiting ++ record { from = from; letter = l } ∷ [] })))
        (taken : 0 < s.start → arrival s.start (site_term s) l ≡ Taken → G (whole_turn E D stamp i (site_handler E D stamp i s from l))) where
      runs : 0 < s.start → G (site_runs E D stamp i s from l)
      runs up = go (arrival s.start (site_term s) l) refl
        where
          go : (a : Arrival) → arrival s.start (site_term s) l ≡ a → G (elim a as (λ _. Turn SiteState) [
            | Taken ↦ whole_turn E D stamp i (site_handler E D stamp i s from l)
            | Waits ↦ becomes (record s { waiting = s.waiting ++ record { from = from; letter = l } ∷ [] })
            | Refused ↦ becomes s
          ])
          go Taken e = taken up e
          go Waits e = waits up e
          go Refused e = aside s.stop s.plans (λ _ q. let r = sym e ∙ q in absurd (cc))

      running : G (if s.start == 0 then becomes s else site_runs E D stamp i s from l)
      running = cond_both (s.start == 0) _ _ G
          (λ e. aside s.stop s.plans (λ up. absurd (let z = eqb-true s.start 0 e in omega (arith, up, z)))) (λ e. runs (grind (arith, nat_tests, e)))

      starts : (start : ℕ) → ForHost l → G (on_start i s start)
      starts start k = cond_both (nat_lt s.start start && nat_lt s.stop start) _ _ G
          (λ _. ends start s.stop (Some new_joining) s.contents _ (λ b. all-one InertLetter (same (Scanner i) b) _ (λ _. tt))) (λ _. aside s.stop s.plans (λ _ _. k))

      stops : (start : ℕ) → ForHost l → G (becomes (on_stop s start))
      stops start k = cond_both (nat_le s.start start) _ _ (λ z. G (becomes z))
          (λ _. ends 0 (max s.stop start) None s.contents _ (λ b. tt)) (λ _. aside (max s.stop start) s.plans (λ _ _. k))

    abbrev Cases : Letter → Turn SiteState → Type 0
    Cases l t =
        ((stop : ℕ) (plans : List (ℕ × ℕ)) → (0 < s.start → arrival s.start (site_term s) l ≡ Taken → ForHost l) → G (becomes (record s { stop = stop; plans = plans })))
        → (0 < s.start → arrival s.start (site_term s) l ≡ Waits → G (becomes (record s { waiting = s.waiting ++ record { from = from; letter = l } ∷ [] })))
        → (0 < s.start → arrival s.start (site_term s) l ≡ Taken → G (whole_turn E D stamp i (site_handler E D stamp i s from l))) → G t

    takes-cases : (l : Letter) → Cases l (site_takes E D stamp i s from l)
    takes-cases l = elim l.body as (λ m. let x = record l { body = m } in Cases x (site_takes E D stamp i s from x)) [
      | msg.Start start ↦ λ aside waits taken. starts (record l { body = msg.Start start }) aside waits taken start tt
      | msg.Stop start ↦ λ aside waits taken. stops (record l { body = msg.Stop start }) aside waits taken start tt
      | msg.Power call choice ↦ λ aside waits taken. aside s.stop (s.plans ++ (call, choice) ∷ []) (λ _ _. tt)
      | m ↦ λ aside waits taken. running (record l { body = m }) aside waits taken
    ]

    pub site_turn-cases : (l : Letter) (o : Environment) → Cases l (site_turn E D stamp i s from l o)
    site_turn-cases l (DiskFails answered) = λ aside waits taken. let xs = after_failure s.contents (parts_of_message s l) answered in ends 0 s.stop None xs (stops_so D i s s.start xs).sends (stops_so-inert D i s s.start xs)
    site_turn-cases l (NoMemory answered) = λ aside waits taken. let xs = after_parts s.contents (take answered (parts_of_message s l)) in ends 0 s.stop None xs (stops_so D i s (start_after s l) xs).sends (stops_so-inert D i s (start_after s l) xs)
    site_turn-cases l x = takes-cases l

-- ---- a Sync

-- the state behind what it writes
abbrev pub written_site : SiteState → SiteState
written_site s = record (written s s.joining) { contents = after_parts s.contents (parts_of_sync s s.joining) }

-- it stops, or says what it has written
pub sync_turn-cases : (E : Database) (D : Deployment) (i : ℕ) (s : SiteState) (o : Environment) (G : Turn SiteState → Type 0)
    → ((stop : ℕ) (contents : List Shown) (out : Sends) → InertSends out → G (sending (anew s 0 None stop contents) out)) → G (syncs E D i s) → G (sync_turn E D i s o)
sync_turn-cases E D i s (DiskFails answered) G ends says = let xs = after_failure s.contents (parts_of_sync s s.joining) answered in ends s.stop xs (stops_so D i s s.start xs).sends (stops_so-inert D i s s.start xs)
sync_turn-cases E D i s (NoMemory answered) G ends says = let xs = after_parts s.contents (take answered (parts_of_sync s s.joining)) in ends s.stop xs (stops_so D i s s.start xs).sends (stops_so-inert D i s s.start xs)
sync_turn-cases E D i s x G ends says = says

-- What it has written leaves all this as it was.
pub record Wrote (s b : SiteState) : Type 0 where
  pub start : b.start ≡ s.start
  pub view : b.view ≡ s.view
  pub log : b.log ≡ s.log
  pub repaired : b.repaired ≡ s.repaired
  pub held : b.held ≡ s.held
  pub joiners : b.joiners ≡ s.joiners
  pub waiting : b.waiting ≡ s.waiting
  pub calls : b.calls ≡ s.calls
  pub member : b.joining ≡ None → s.joining ≡ None

pub wrote : (s : SiteState) → Wrote s (written_site s)
wrote s = go s.joining refl
  where
    same : (b : SiteState) → b.start ≡ s.start → b.view ≡ s.view → b.log ≡ s.log → b.repaired ≡ s.repaired → b.held ≡ s.held → b.joiners ≡ s.joiners
        → b.waiting ≡ s.waiting → b.calls ≡ s.calls → (b.joining ≡ None → s.joining ≡ None) → Wrote s b
    same b start view log repaired held joiners waiting calls member =
        record { start = start; view = view; log = log; repaired = repaired; held = held; joiners = joiners; waiting = waiting; calls = calls; member = member }

    shown : List Shown
    shown = after_parts s.contents (parts_of_sync s s.joining)

    streams : (j : Joining) → s.joining ≡ Some j → (o : Option Streamed) → Wrote s (record (joiner_written s j o) { contents = shown })
    streams j e None = same _ refl refl refl refl refl refl refl refl (λ none. none)
    streams j e (Some st) = cond_both j.is_loaded _ _ (λ (z : SiteState). Wrote s (record z { contents = shown }))
        (λ _. same _ refl refl refl refl refl refl refl refl (λ none. absurd (cc))) (λ _. same _ refl refl refl refl refl refl refl refl (λ none. absurd (cc)))

    go : (o : Option Joining) → s.joining ≡ o → Wrote s (record (written s o) { contents = shown })
    go None e = same _ refl refl refl refl refl refl refl refl (λ none. none)
    go (Some j) e = streams j e j.stream

-- ---- what waits behind a turn

module _ (E : Database) (D : Deployment) (stamp i : ℕ) (s : SiteState) (from : Actor) (l : Letter) (o : Environment) (P : Waiting → Type 0) where
  -- What is so of each message that waits is so behind a turn, if it is so of one that comes to wait.
  pub turn-waits : (0 < s.start → AllByRecursion (λ x. NoWord x.from x.letter) s.waiting) → (0 < s.start → AllByRecursion P s.waiting)
      → (0 < s.start → arrival s.start (site_term s) l ≡ Waits → P (record { from = from; letter = l }))
      → 0 < (site_turn E D stamp i s from l o).state.start → AllByRecursion P (site_turn E D stamp i s from l o).state.waiting
  turn-waits quiet all new = site_turn-cases E D stamp i s from (λ t. 0 < t.state.start → AllByRecursion P t.state.waiting) (λ start stop joining contents out inert up. tt) l o
      (λ stop plans aside. all)
      (λ up waits _. all-append P s.waiting (record { from = from; letter = l } ∷ []) (all up) (new up waits, tt))
      (λ up takes _. let k = taken-stays E D stamp i s from l (quiet up) in all-from P _ (λ x m. all-at P s.waiting (all up) x (k.1 x m)))

pub syncs-stays : (E : Database) (D : Deployment) (i : ℕ) (s : SiteState) → StaysUp s (syncs E D i s).state
syncs-stays E D i s =
    let b = written_site s in
    let w = wrote s in
    let h = after_sync-walk D i KeepsWord (keeps-settles E D i) b in
    let u = (after_sync D i b b.joining).state in
    let k = settles-walk E D i KeepsWord (keeps-settles E D i).moves (λ s may first. keeps-same s _ refl refl refl) (keeps-asks E D i) u in
    (k.start ∙ h.start ∙ w.start, λ x m. subst (In x) w.waiting (h.waits x (k.waits x m)))

pub sync-waits : (E : Database) (D : Deployment) (i : ℕ) (s : SiteState) (o : Environment) (x : Waiting) → In x (sync_turn E D i s o).state.waiting → In x s.waiting
sync-waits E D i s o x = sync_turn-cases E D i s o (λ t. In x t.state.waiting → In x s.waiting) (λ stop contents out inert m. absurd m) ((syncs-stays E D i s).1 x)
