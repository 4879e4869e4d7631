-- What a whole turn of a site comes to, for a relation of its states that goes on over each small step.
use Rattle.volt_wire.specs.declared.message.Msg.TheVariants as msg
use Rattle.cluster_model.specs.Site.{from_agent}
use Rattle.transaction_laws.proofs.Names.{Actor, Agent, AllByRecursion, Arrival, AskedCall, Blocks, Bool, Client, Comes, CallOf, ComesPlainly, Database, Deployment, Director, Done, Entry, Environment, ForHost, HandlerSteps, Frag, In, Joiner, Joining, KnownOf, Letter, List, LogState, Membership, Msg, NoWord, None, Option, Over, Plainly, Refused, ReportOf, Reported, Scanner, Site, SiteState, SiteWaitingFrom, SiteWaitingOk, Some, StateSteps, Taken, Turn, Waiting, Waits, WaitsPlain, Wrote, [], all-at, all-from, becomes, answer_behind, ap, append-nil, arrival, enters-walk, false, handler-keeps, handler-walk, holds, holds_for, holds_for-cases, host_of_slot, in_new_term, initiator_in, inl, inr, is_leader, is_member, is_some, joins-walk, leader-same, leads, leads_with, leads_with-walk, length, letter_in, not, not-both, on_done, on_frag, on_view, order_in, over-moves, over-steps, over-tells, part_of_slot, refl, site_handler, site_term, site_turn, site_turn-cases, stays_joiner, subst, sym, takes_asks, takes_asks-cases, term_of, true, view-keeps, whole-keeps, whole_turn, with_entry, with_others, worked-walk, worked_turn, works_calls, ℕ, ◌&&◌, ◌++◌, ◌<◌, ◌∙◌, ◌∷◌, ◌≡◌, ◌⊎◌}

-- ---- messages

-- Nothing of these kinds waits for a term.
abbrev pub InertKind : Actor → Letter → Type 0
InertKind (Site slot) l = elim l.body as (λ _. Type 0) [ msg.Put position e floor ↦ ⊥ | msg.Repair from entries ↦ ⊥ | msg.StreamStart head ↦ ⊥ | _ ↦ Unit {0} ]
InertKind (Agent h) l = elim l.body as (λ _. Type 0) [ msg.View w ↦ ⊥ | msg.Frag m round body ↦ ⊥ | msg.Done m o ↦ ⊥ | _ ↦ Unit {0} ]
InertKind from l = Unit {0}

abbrev pub WaitsQuietly : Waiting → Type 0
WaitsQuietly x = InertKind x.from x.letter

pub waits-quietly : (S : LogState) (c : ℕ) (x : Waiting) → SiteWaitingOk S c x → WaitsPlain x.from x.letter → WaitsQuietly x
waits-quietly S c x k p = go x.from x.letter k.1 p
  where
    go : (from : Actor) (l : Letter) → SiteWaitingFrom S c from l → WaitsPlain from l → InertKind from l
    go (Site j) l = elim l.body as (λ b. SiteWaitingFrom S c (Site j) (record l { body = b }) → WaitsPlain (Site j) (record l { body = b }) → InertKind (Site j) (record l { body = b })) [
      | msg.Put position e floor ↦ λ k p. k
      | msg.Repair from entries ↦ λ k p. k
      | msg.StreamStart head ↦ λ k p. k
      | b ↦ λ k p. tt
    ]
    go (Agent h) l = elim l.body as (λ b. SiteWaitingFrom S c (Agent h) (record l { body = b }) → WaitsPlain (Agent h) (record l { body = b }) → InertKind (Agent h) (record l { body = b })) [
      | msg.View w ↦ λ k p. k
      | msg.Frag m round body ↦ λ k p. p
      | msg.Done m o ↦ λ k p. p
      | b ↦ λ k p. tt
    ]
    go from l = λ k p. tt

-- P of a report that waits for a term
abbrev pub WaitsReport : (Reported → Type 0) → ℕ → Waiting → Type 0
WaitsReport P term x = x.letter.term ≡ term → ReportOf P x.from x.letter

-- where nothing is asked of reports
abbrev pub AnyReport : Reported → Type 0
AnyReport r = Unit {0}

pub any-report : (from : Actor) (l : Letter) → ReportOf AnyReport from l
any-report (Site slot) l = elim l.body as (λ b. ReportOf AnyReport (Site slot) (record l { body = b })) [ msg.Report position floor tail ↦ tt | b ↦ tt ]
any-report from l = tt

pub any-reports : (term : ℕ) (ws : List Waiting) → AllByRecursion (WaitsReport AnyReport term) ws
any-reports term ws = all-from (WaitsReport AnyReport term) ws (λ x i e. any-report x.from x.letter)

-- where nothing is asked of calls
abbrev pub AnyCall : AskedCall → Type 0
AnyCall c = Unit {0}

pub any-call : (from : Actor) (l : Letter) → CallOf AnyCall from l
any-call (Agent h) l = elim l.body as (λ b. CallOf AnyCall (Agent h) (record l { body = b })) [ msg.SpCall call start client body ↦ tt | b ↦ tt ]
any-call from l = tt

pub any-calls : (cs : List AskedCall) → AllByRecursion AnyCall cs
any-calls cs = all-from AnyCall cs (λ c i. tt)

-- Q of a call that waits for a term
abbrev pub WaitsCall : (AskedCall → Type 0) → Waiting → Type 0
WaitsCall Q x = CallOf Q x.from x.letter

pub any-waiting : (ws : List Waiting) → AllByRecursion (WaitsCall AnyCall) ws
any-waiting ws = all-from (WaitsCall AnyCall) ws (λ x i. any-call x.from x.letter)

-- what is known of one that waited, whatever the site is then
quiet-plainly : (D : Deployment) (i : ℕ) (P : Reported → Type 0) (Q : AskedCall → Type 0) (from : Actor) (l : Letter) → InertKind from l → ReportOf P from l → CallOf Q from l → (s : SiteState)
    → ComesPlainly D i P Q s from l
quiet-plainly D i P Q (Site slot) l k r c s = (tt, comes k, r, c)
  where
    comes : InertKind (Site slot) l → Comes D i s (Site slot) l
    comes = elim l.body as (λ b. InertKind (Site slot) (record l { body = b }) → Comes D i s (Site slot) (record l { body = b })) [
      | msg.Put position e floor ↦ λ k _. k
      | msg.Repair from entries ↦ λ k _. k
      | b ↦ λ k. tt
    ]
quiet-plainly D i P Q (Agent h) l k r c s = (plainly k, comes k, r, c)
  where
    plainly : InertKind (Agent h) l → Plainly (Agent h) l
    plainly = elim l.body as (λ b. InertKind (Agent h) (record l { body = b }) → Plainly (Agent h) (record l { body = b })) [
      | msg.View w ↦ λ k. k
      | msg.Frag m round body ↦ λ k. k
      | msg.Done m o ↦ λ k. k
      | b ↦ λ k. tt
    ]

    comes : InertKind (Agent h) l → Comes D i s (Agent h) l
    comes = elim l.body as (λ b. InertKind (Agent h) (record l { body = b }) → Comes D i s (Agent h) (record l { body = b })) [
      | msg.View w ↦ λ k. absurd k
      | b ↦ λ k. tt
    ]
quiet-plainly D i P Q from l k r c s = (tt, tt, r, c)

pub quiet-word : (from : Actor) (l : Letter) → InertKind from l → NoWord from l
quiet-word (Agent h) l k = (elim l.body as (λ b. InertKind (Agent h) (record l { body = b }) → NoWord (Agent h) (record l { body = b })) [
  | msg.View w ↦ λ k. k
  | b ↦ λ k. tt
]) k
quiet-word from l k = tt

-- ---- rounds and ends

-- the round or the end that a message brings, and that of one which is taken
abbrev pub taken_from : Actor → Letter → List Entry
taken_from (Agent h) l = order_in l.body
taken_from from l = []

abbrev pub taken_at : Arrival → Actor → Letter → List Entry
taken_at a from l = elim a as (λ _. List Entry) [ Taken ↦ taken_from from l | Refused ↦ [] | Waits ↦ [] ]

abbrev pub taken_by : SiteState → Actor → Letter → List Entry
taken_by s from l = taken_at (arrival s.start (site_term s) l) from l

-- what is for the host brings none
host-none : (from : Actor) (l : Letter) → ForHost l → taken_from from l ≡ []
host-none (Agent h) l k = (elim l.body as (λ m. ForHost (record l { body = m }) → order_in m ≡ []) [
  | msg.Frag m round body ↦ λ k. absurd k
  | msg.Done m o ↦ λ k. absurd k
  | m ↦ λ k. refl
]) k
host-none from l k = refl

-- A goes on from the site with the round or end that a leader takes.
record TakenHandler (D : Deployment) (i : ℕ) (Q : AskedCall → Type 0) (A : SiteState → SiteState → Type 0) (s : SiteState) (taken : List Entry) (u : SiteState) : Type 0 where
  log : List Entry
  leading : leads D i s ≡ true → log ≡ s.log ++ taken
  other : leads D i s ≡ false → log ≡ s.log
  handler : AllByRecursion Q s.calls → A (record s { log = log }) u × AllByRecursion Q u.calls

module _ (E : Database) (D : Deployment) (stamp i : ℕ) (P : Reported → Type 0) (Q : AskedCall → Type 0) (A : SiteState → SiteState → Type 0) (W : StateSteps E D stamp i P Q A) (s : SiteState) where
  abbrev steps : HandlerSteps E D stamp i (ComesPlainly D i P Q) (Over Q A)
  steps = over-steps E D stamp i P Q A W

  -- an entry that a leader takes
  order-handler : (e : Entry) (x : SiteState) → (leads D i s ≡ true → AllByRecursion Q s.calls → A (with_entry s e) x × AllByRecursion Q x.calls) → (leads D i s ≡ false → x ≡ s) → TakenHandler D i Q A s (e ∷ []) x
  order-handler e x led idle = choice (leads D i s) refl
    where
      choice : (b : Bool) → leads D i s ≡ b → TakenHandler D i Q A s (e ∷ []) x
      choice true q = record { log = s.log ++ e ∷ []; leading = λ _. refl; other = λ n. absurd (not-both (leads D i s) q n); handler = led q }
      choice false q = record { log = s.log; leading = λ y. absurd (not-both (leads D i s) y q); other = λ _. refl; handler = λ calls. subst (λ z. A s z × AllByRecursion Q z.calls) (sym (idle q)) (W.settles.first s, calls) }

  -- none
  plain-handler : (x : SiteState) → (AllByRecursion Q s.calls → A s x × AllByRecursion Q x.calls) → TakenHandler D i Q A s [] x
  plain-handler x r = record { log = s.log; leading = λ _. sym (append-nil s.log); other = λ _. refl; handler = r }

  -- It is passed on, and its answer held.
  led-entry : (m : Msg Blocks) (e : Entry) → Over Q A (with_entry s e) (leads_with E D i e (holds_for s (initiator_in s.view) m))
  led-entry m e = leads_with-walk E D i (Over Q A) (over-moves D i Q A W.settles) (with_entry s e) (holds_for s (initiator_in s.view) m) e
      (holds_for-cases (λ h. Over Q A (with_entry s e) (becomes (with_entry h e))) s (initiator_in s.view) m (λ calls. (W.settles.first (with_entry s e), calls))
      (λ first calls. (W.settles.rest (with_entry s e) (with_entry (holds s (Agent first.0) (letter_in (site_term s) first.1 m)) e), calls)))

  agent-taken : (h : ℕ) (l : Letter) → NoWord (Agent h) l → Comes D i s (Agent h) l → ReportOf P (Agent h) l → CallOf Q (Agent h) l
      → TakenHandler D i Q A s (taken_from (Agent h) l) (from_agent E D stamp i s h l).state
  agent-taken h l = elim l.body as (λ b. let x = record l { body = b } in NoWord (Agent h) x → Comes D i s (Agent h) x → ReportOf P (Agent h) x → CallOf Q (Agent h) x
      → TakenHandler D i Q A s (taken_from (Agent h) x) (from_agent E D stamp i s h x).state) [
        | msg.View w ↦ λ n c p k. absurd n
        | msg.Frag m round body ↦ λ n c p k. let e = Frag m round body in
            order-handler e (on_frag E D i s m round body).state (λ q. rw q (led-entry (msg.FragDone m round (answer_behind E (part_of_slot D i) s.log e)) e)) (λ q. rw q)
        | msg.Done m o ↦ λ n c p k. let t = leads_with E D i (Done m o) (holds_for s (initiator_in s.view) (msg.Finished m)) in
            order-handler (Done m o) (on_done E D i stamp s m o).state
            (λ q. rw q ((over-moves D i Q A W.settles).next (with_entry s (Done m o)) t (works_calls E D i stamp) (led-entry (msg.Finished m) (Done m o)) (steps.works t.state)))
            (λ q. rw q)
        | b ↦ λ n c p k. let x = record l { body = b } in
            plain-handler (from_agent E D stamp i s h x).state (handler-walk E D stamp i (ComesPlainly D i P Q) (Over Q A) steps s (Agent h) x (tt, c, p, k))
      ]

  taken-handler : (from : Actor) (l : Letter) → NoWord from l → Comes D i s from l → ReportOf P from l → CallOf Q from l
      → TakenHandler D i Q A s (taken_from from l) (site_handler E D stamp i s from l).state
  taken-handler (Agent h) l n c p k = agent-taken h l n c p k
  taken-handler (Site slot) l n c p k = plain-handler _ (handler-walk E D stamp i (ComesPlainly D i P Q) (Over Q A) steps s (Site slot) l (tt, c, p, k))
  taken-handler (Scanner x) l n c p k = plain-handler _ (handler-walk E D stamp i (ComesPlainly D i P Q) (Over Q A) steps s (Scanner x) l (tt, c, p, k))
  taken-handler Director l n c p k = plain-handler _ (handler-walk E D stamp i (ComesPlainly D i P Q) (Over Q A) steps s Director l (tt, c, p, k))
  taken-handler (Client x) l n c p k = plain-handler _ (handler-walk E D stamp i (ComesPlainly D i P Q) (Over Q A) steps s (Client x) l (tt, c, p, k))

-- ---- the last step: a joiner that asked is taken

-- the site of slot i took a joiner: its stream begins at the end of the log
pub record TakesJoiner (D : Deployment) (i : ℕ) (v u : SiteState) : Type 0 where
  pub leads : leads D i v ≡ true
  pub new : Joiner
  pub stream_start : new.stream_start ≡ length v.log
  pub is : u ≡ record (with_others v u) { joiners = v.joiners ++ new ∷ [] }

module _ (E : Database) (D : Deployment) (i : ℕ) (v : SiteState) where
  -- Either nothing changes, or it does so.
  pub asks-taken : ((takes_asks E D i v).state ≡ v) ⊎ TakesJoiner D i v (takes_asks E D i v).state
  asks-taken = takes_asks-cases E D i v (λ t. (t.state ≡ v) ⊎ TakesJoiner D i v t.state) (inl refl) (λ a authoritative mark. inr (record {
    leads = authoritative;
    new = record { slot = a.slot; start = a.start; stream_start = length v.log; position = length v.log; count = None };
    stream_start = refl;
    is = refl;
  }))

  pub asks-view : (takes_asks E D i v).state.view ≡ v.view
  asks-view = elim asks-taken [ inl e ↦ ap (λ s. s.view) e | inr k ↦ ap (λ s. s.view) k.is ]

-- ---- a turn

-- What a message makes of the site: it stops or begins; or nothing changes that A goes by, but what waits; or it goes on in its word, from
-- itself with the round or end that a leader takes; or in a new word.
pub data Walked (E : Database) (D : Deployment) (i : ℕ) (A : SiteState → SiteState → Type 0) (s : SiteState) (from : Actor) (l : Letter) (u : SiteState) : Type 0 where
  StopsOrBegins : u.view ≡ None → u.joiners ≡ [] → Walked E D i A s from l u
  NothingSeen : (0 < s.start → taken_by s from l ≡ []) → u ≡ record (with_others s u) { waiting = u.waiting } → Walked E D i A s from l u
  GoesOnSame : arrival s.start (site_term s) l ≡ Taken → (log : List Entry) → (leads D i s ≡ true → log ≡ s.log ++ taken_from from l) → (leads D i s ≡ false → log ≡ s.log)
      → (v : SiteState) → v.view ≡ s.view → A (record s { log = log }) v → u ≡ (takes_asks E D i v).state → Walked E D i A s from l u
  GoesOnNew : arrival s.start (site_term s) l ≡ Taken → (h : ℕ) (w : Membership) → from ≡ Agent h → l.body ≡ msg.View w
      → (joining : Option Joining) → (joining ≡ None → stays_joiner D i s w ≡ false)
      → (v : SiteState) → v.view ≡ Some w → A (record (in_new_term s w) { joining = joining }) v → u ≡ (takes_asks E D i v).state → Walked E D i A s from l u

-- A goes on where messages wait or are taken from those that do.
abbrev pub OnWaiting : (SiteState → SiteState → Type 0) → Type 0
OnWaiting A = (s : SiteState) (ws : List Waiting) → A s (record s { waiting = ws })

module _ (E : Database) (D : Deployment) (stamp i : ℕ) (P : Reported → Type 0) (Q : AskedCall → Type 0) (A : SiteState → SiteState → Type 0) (W : StateSteps E D stamp i P Q A) (left : OnWaiting A)
    (s : SiteState) (waiting : AllByRecursion WaitsQuietly s.waiting) (calls : AllByRecursion Q s.calls) (asked : AllByRecursion (WaitsCall Q) s.waiting) where
  -- A turn whose handler goes on from b: what waits behind it waited before.
  module _ (t : Turn SiteState) (less : (x : Waiting) → In x t.state.waiting → In x s.waiting) where
    whole-view : (whole_turn E D stamp i t).state.view ≡ t.state.view
    whole-view = (whole-keeps E D i stamp t (all-from (λ x. NoWord x.from x.letter) t.state.waiting (λ x k. quiet-word x.from x.letter (all-at WaitsQuietly s.waiting waiting x (less x k))))).view

    on-walk : (b : SiteState) → AllByRecursion (WaitsReport P (site_term (whole_turn E D stamp i t).state)) s.waiting → Over Q A b t → Over Q A b (worked_turn E D stamp i t)
    on-walk b reports handler = worked-walk E D stamp i (ComesPlainly D i P Q) (Over Q A) (over-steps E D stamp i P Q A W) (λ m ws _ known. (left m ws, known)) (over-tells D i Q A W.settles E) b t handler
        (all-from (KnownOf (ComesPlainly D i P Q) (site_term t.state)) t.state.waiting (λ x k e. quiet-plainly D i P Q x.from x.letter (all-at WaitsQuietly s.waiting waiting x (less x k))
        (all-at (WaitsReport P (site_term (whole_turn E D stamp i t).state)) s.waiting reports x (less x k) (e ∙ sym (ap (λ o. site_term (record s { view = o })) whole-view))) (all-at (WaitsCall Q) s.waiting asked x (less x k))))

    worked-view : (worked_turn E D stamp i t).state.view ≡ t.state.view
    worked-view = sym (asks-view E D i (worked_turn E D stamp i t).state) ∙ whole-view

  -- ---- one that is taken

  abbrev Result : Actor → Letter → SiteState → Type 0
  Result from l u = Walked E D i A s from l u

  -- no word
  stays : (from : Actor) (l : Letter) → arrival s.start (site_term s) l ≡ Taken → NoWord from l → Comes D i s from l → ReportOf P from l → CallOf Q from l
      → AllByRecursion (WaitsReport P (site_term (whole_turn E D stamp i (site_handler E D stamp i s from l)).state)) s.waiting → Result from l (whole_turn E D stamp i (site_handler E D stamp i s from l)).state
  stays from l a n c p q reports =
      let t = site_handler E D stamp i s from l in
      let k = taken-handler E D stamp i P Q A W s from l n c p q in
      let keeps = handler-keeps E D i stamp s from l n in
      GoesOnSame a k.log k.leading k.other (worked_turn E D stamp i t).state (worked-view t keeps.waits ∙ keeps.view)
      (on-walk t keeps.waits (record s { log = k.log }) reports k.handler calls).0 refl

  -- a word, for a joiner that stays one and for a member
  views : (h : ℕ) (l : Letter) (w : Membership) → l.body ≡ msg.View w → arrival s.start (site_term s) l ≡ Taken
      → AllByRecursion (WaitsReport P (site_term (whole_turn E D stamp i (on_view E D i stamp s w)).state)) s.waiting → Result (Agent h) l (whole_turn E D stamp i (on_view E D i stamp s w)).state
  views h l w is a reports = choice (stays_joiner D i s w) refl
    where
      t : Turn SiteState
      t = on_view E D i stamp s w

      with : (joining : Option Joining) → (joining ≡ None → stays_joiner D i s w ≡ false) → ((x : Waiting) → In x t.state.waiting → In x s.waiting) → t.state.view ≡ Some w
          → Over Q A (record (in_new_term s w) { joining = joining }) t → Result (Agent h) l (whole_turn E D stamp i t).state
      with joining enters less view k =
          GoesOnNew a h w refl is joining enters (worked_turn E D stamp i t).state (worked-view t less ∙ view) (on-walk t less (record (in_new_term s w) { joining = joining }) reports k calls).0 refl

      choice : (c : Bool) → stays_joiner D i s w ≡ c → Result (Agent h) l (whole_turn E D stamp i t).state
      choice true e = let k = view-keeps E D i stamp s w true e in
          with s.joining (λ none. ap (λ o. is_some o && not (is_member w (host_of_slot D i) s.start)) none) k.waits k.view
          (joins-walk E D stamp i (ComesPlainly D i P Q) (Over Q A) (over-steps E D stamp i P Q A W) s w e)
      choice false e = let k = view-keeps E D i stamp s w false e in
          with None (λ _. e) k.waits k.view (enters-walk E D stamp i (ComesPlainly D i P Q) (Over Q A) (over-steps E D stamp i P Q A W) s w e)

  taken : (from : Actor) (l : Letter) → arrival s.start (site_term s) l ≡ Taken → Comes D i s from l → ReportOf P from l → CallOf Q from l
      → AllByRecursion (WaitsReport P (site_term (whole_turn E D stamp i (site_handler E D stamp i s from l)).state)) s.waiting
      → Result from l (whole_turn E D stamp i (site_handler E D stamp i s from l)).state
  taken (Agent h) l a = elim l.body as (λ m. let x = record l { body = m } in Comes D i s (Agent h) x → ReportOf P (Agent h) x → CallOf Q (Agent h) x
      → AllByRecursion (WaitsReport P (site_term (whole_turn E D stamp i (site_handler E D stamp i s (Agent h) x)).state)) s.waiting
      → Result (Agent h) x (whole_turn E D stamp i (site_handler E D stamp i s (Agent h) x)).state) [
        | msg.View w ↦ λ c p q r. views h (record l { body = msg.View w }) w refl a r
        | m ↦ λ c p q r. stays (Agent h) (record l { body = m }) a tt c p q r
      ]
  taken (Site slot) l a = stays (Site slot) l a tt
  taken (Scanner x) l a = stays (Scanner x) l a tt
  taken Director l a = stays Director l a tt
  taken (Client n) l a = stays (Client n) l a tt

  -- ---- any message

  abbrev Given : Actor → Letter → SiteState → Type 0
  Given from l u = (arrival s.start (site_term s) l ≡ Taken → Comes D i s from l) → (arrival s.start (site_term s) l ≡ Taken → ReportOf P from l)
      → (arrival s.start (site_term s) l ≡ Taken → CallOf Q from l) → AllByRecursion (WaitsReport P (site_term u)) s.waiting → Result from l u

  pub walked : (from : Actor) (l : Letter) (o : Environment) → Given from l (site_turn E D stamp i s from l o).state
  walked from l o = site_turn-cases E D stamp i s from (λ t. Given from l t.state) (λ start stop joining contents out inert c p q r. StopsOrBegins refl refl) l o
      (λ stop plans aside c p q r. NothingSeen (λ up. none (arrival s.start (site_term s) l) refl (aside up)) refl)
      (λ up waits c p q r. NothingSeen (λ _. ap (λ a. taken_at a from l) waits) refl)
      (λ up takes c p q r. taken from l takes (c takes) (p takes) (q takes) r)
    where
      none : (a : Arrival) → arrival s.start (site_term s) l ≡ a → (arrival s.start (site_term s) l ≡ Taken → ForHost l) → taken_by s from l ≡ []
      none Taken e f = ap (λ a. taken_at a from l) e ∙ host-none from l (f e)
      none z e f = ap (λ a. taken_at a from l) e

-- a word that comes is of a later term
pub comes-view : (D : Deployment) (i : ℕ) (s : SiteState) (from : Actor) (l : Letter) (h : ℕ) (w : Membership) → from ≡ Agent h → l.body ≡ msg.View w → Comes D i s from l
    → site_term s < term_of w
comes-view D i s from l h w e b c = subst (λ m. Comes D i s (Agent h) (record l { body = m })) b (subst (λ f. Comes D i s f l) e c)

-- who leads behind a Sync led before
pub wrote-leader : (D : Deployment) (i : ℕ) (s b : SiteState) → Wrote s b → is_leader D i b ≡ true → b.joining ≡ None → is_leader D i s ≡ true
wrote-leader D i s b k authoritative none = leader-same D i b s (sym k.view) (k.member none ∙ sym none) ∙ authoritative
