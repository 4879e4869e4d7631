-- What goes on over each small step of a site goes on over each of its handlers, and over what follows one.
use Rattle.cluster_steps.proofs.Names.{◌≡◌, Bool, true, false, List, [], ◌∷◌, ◌++◌, refl, sym, subst, ap, ◌∙◌, ◌==◌, and_parts, not-true, ℕ, ◌+◌, ◌&&◌, ◌-◌, not, map, max, filter, drop, length, replicate, nat_lt, if◌then◌else◌, Option, Some, None, is_none, is_some, AllByRecursion, list_any, list_all, Entry, Sp, Frag, Done, Outcome, StreamHead, Actor, Director, Client, Agent, Site, Scanner, Database, is_snapshot, answer_behind, nothing_open, open_behind, Deployment, part_of_slot, host_of_slot, is_in, same, Letter, Sends, Turn, becomes, sending, ◌▸◌, only, SiteState, Joining, Joiner, Reported, AskedCall, Scanning, ForJoiner, ForBase, is_joiner, is_leader, leads, leader_in, other_copies, site_term, begins_base, appends, appends_all, put_to, tasks_to, passes_on, leads_with, holds, runs_call, runs_calls, works_calls, on_sp_call, holds_for, initiator_in, on_frag, on_done, counts, noted, on_ack, repair_to, is_repaired, longest, lacks, repairs, on_report, reports_to, asks_to_join, as_member, on_put, on_repair, on_join_ask, is_sent, without_count, ends_streams, with_count, on_scan_end, may_finish, may_stream, on_stream_start, finishes_load, on_chunk, on_stream_end, on_task, is_first_term, has_all_on_disk, tells, tells_initiator, looked, shows, from_agent, from_site, from_scanner, from_director, site_handler, acknowledges, says_loaded, after_sync, cond_both}
use Rattle.volt_wire.specs.declared.message.Msg.TheVariants as msg
use Rattle.cluster_model.specs.Site.{answers_again, runs_anew, known_to, runs_known}
use Rattle.cluster_model.specs.declared.known.Known.{Known}
use Rattle.cluster_model.specs.declared.known.Known.TheVariants.{IsNew, IsAnswered, IsPast}
use Rattle.cluster_steps.proofs.Lists.{all-append, all-if, all-map, all-one}
use Rattle.cluster_steps.proofs.Prefixes.{prefix-append, prefix-refl}
use Rattle.cluster_steps.proofs.Frames.{InertLetter, InertSends, AlikeJoiners, all-replicate, counted-alike, positioned, turn-assoc, uncounted-alike, with_rest}
use Rattle.cluster_steps.proofs.Appends.{Appended, appends-all, grown}
use Rattle.cluster_steps.proofs.Steps.{MayTell, SmallSteps, SayingSteps, CallSteps, HandlerSteps, MayBeTold, reply_to, with_acks, with_call, with_entry, with_reported}

-- ---- calls and tests

-- a call opens and ends nothing
pub call-opens : (now : Option ℕ) (log : List Entry) (call client point : ℕ) (body : List ℕ) → open_behind now (log ++ Sp call client point body ∷ []) ≡ open_behind now log
call-opens now [] call client point body = refl
call-opens now (Sp c n p b ∷ log) call client point body = call-opens now log call client point body
call-opens now (Frag m round b ∷ log) call client point body = call-opens (Some m) log call client point body
call-opens now (Done m o ∷ log) call client point body = call-opens None log call client point body

may-tell : (D : Deployment) (i : ℕ) (s : SiteState) → (leads D i s && not s.has_told && not (is_first_term s.view) && has_all_on_disk D i s) ≡ true → MayTell D i s
may-tell D i s e =
    let p = and_parts (leads D i s && not s.has_told && not (is_first_term s.view)) (has_all_on_disk D i s) e in
    let q = and_parts (leads D i s && not s.has_told) (not (is_first_term s.view)) p.0 in
    let r = and_parts (leads D i s) (not s.has_told) q.0 in
    record { leads = r.0; later = not-true (is_first_term s.view) q.1; on_disk = p.1 }

-- ---- what a site says of its state, which no law goes by

repair_to-inert : (D : Deployment) (s : SiteState) (slot : ℕ) (rs : List Reported) → AllByRecursion InertLetter (repair_to D s slot rs)
repair_to-inert D s slot [] = tt
repair_to-inert D s slot (r ∷ rs) = all-if InertLetter (r.slot == slot) _ (repair_to D s slot rs) (tt, tt) (repair_to-inert D s slot rs)

only-inert : (a : Actor) (l : Letter) → InertLetter l → InertSends (only a l)
only-inert a l h b = all-one InertLetter (same a b) l (λ _. h)

reports_to-inert : (D : Deployment) (s : SiteState) (to : Option ℕ) → InertSends (reports_to D s to)
reports_to-inert D s None b = tt
reports_to-inert D s (Some slot) b = only-inert (Site slot) _ tt b

pub asks_to_join-inert : (i : ℕ) (D : Deployment) (s : SiteState) (to : Option ℕ) → InertSends (asks_to_join i D s to)
asks_to_join-inert i D s None b = tt
asks_to_join-inert i D s (Some slot) b = all-if InertLetter (slot == i) [] _ tt (only-inert (Site slot) _ tt b)

passes_on-inert : (D : Deployment) (i : ℕ) (e : Entry) (s : SiteState) → InertSends (passes_on D i e s).sends
passes_on-inert D i e s (Site c) =
    all-append InertLetter (put_to D s e c (other_copies D i s)) (tasks_to s e c s.joiners)
    (all-one InertLetter (is_in c (other_copies D i s)) _ (λ _. tt)) (all-map InertLetter _ (λ j. tt) (filter (λ j. j.slot == c) s.joiners))
passes_on-inert D i e s from = tt

ends_streams-inert : (s : SiteState) → InertSends (ends_streams s).sends
ends_streams-inert s (Site c) = all-map InertLetter _ (λ j. tt) (filter (λ j. j.slot == c && is_sent s j) s.joiners)
ends_streams-inert s from = tt

-- ---- what follows a handler, and a Sync

-- all of it, but that a joiner is taken
abbrev pub settled_turn : Database → Deployment → ℕ → SiteState → Turn SiteState
settled_turn E D i s = tells E D i s ▸ ends_streams ▸ shows E D i

module _ (R : SiteState → Turn SiteState → Type 0) (W : SmallSteps R) where
  -- the one turn or the other
  pub walk-if : (s : SiteState) (c : Bool) (x y : Turn SiteState) → (c ≡ true → R s x) → (c ≡ false → R s y) → R s (if c then x else y)
  walk-if s true x y p q = p refl
  walk-if s false x y p q = q refl

  state-if : (s : SiteState) (c : Bool) (x y : SiteState) → (c ≡ true → R s (becomes x)) → (c ≡ false → R s (becomes y)) → R s (becomes (if c then x else y))
  state-if s true x y p q = p refl
  state-if s false x y p q = q refl

  -- from a state on the way
  pub walk-behind : (s m : SiteState) (t : Turn SiteState) → R s (becomes m) → R m t → R s t
  walk-behind s m t h k = W.next s (becomes m) (λ _. t) h k

  -- what no law goes by
  rest-says : (s u : SiteState) (out : Sends) → InertSends out → R s (sending (with_rest s u) out)
  rest-says s u out inert = walk-behind s (with_rest s u) (sending (with_rest s u) out) (W.rest s u) (W.says (with_rest s u) out inert)

module _ (E : Database) (D : Deployment) (i : ℕ) (R : SiteState → Turn SiteState → Type 0) (W : SmallSteps R) where
  tells-walk : MayBeTold E D i R → (s : SiteState) → R s (tells E D i s)
  tells-walk told s = walk-if R W s (leads D i s && not s.has_told && not (is_first_term s.view) && has_all_on_disk D i s) (tells_initiator E D i s (initiator_in s.view)) (becomes s)
      (λ e. to (may-tell D i s e) (initiator_in s.view)) (λ _. W.first s)
    where
      to : MayTell D i s → (o : Option (ℕ × ℕ)) → R s (tells_initiator E D i s o)
      to may None = W.first s
      to may (Some first) = told s may first

  ends_streams-walk : (s : SiteState) → R s (ends_streams s)
  ends_streams-walk s =
      let u = (ends_streams s).state in
      walk-behind R W s u (ends_streams s) (W.joiners s (without_count s) (uncounted-alike s)) (W.says u (ends_streams s).sends (ends_streams-inert s))

  shows-walk : (s : SiteState) → R s (shows E D i s)
  shows-walk s = walk-if R W s (nat_lt 0 s.looks && nothing_open s.log) _ (becomes s) (λ _. rest-says R W s (record s { looks = 0 }) _ shown) (λ _. W.first s)
    where
      shown : InertSends (λ b. elim b as (λ _. List Letter) [ Director ↦ replicate s.looks (looked E D i s) | _ ↦ [] ])
      shown Director = all-replicate InertLetter s.looks (looked E D i s) tt
      shown from = tt

  pub settled-walk : MayBeTold E D i R → (s : SiteState) → R s (settled_turn E D i s)
  settled-walk told s =
      let t = tells E D i s in let u = t ▸ ends_streams in
      W.next s u (shows E D i) (W.next s t ends_streams (tells-walk told s) (ends_streams-walk t.state)) (shows-walk u.state)

-- ---- behind a Sync

module _ (D : Deployment) (i : ℕ) (R : SiteState → Turn SiteState → Type 0) (W : SayingSteps D i R) where
  abbrev M : SmallSteps R
  M = W.moves

  pub counts-walk : (s : SiteState) (acks : List (ℕ × ℕ)) (joiners : List Joiner) → AlikeJoiners joiners s.joiners → leads D i s ≡ true → R s (counts D i (with_acks s acks joiners))
  counts-walk s acks joiners same authoritative = rw authoritative (W.counted s authoritative acks joiners same)

  counts-own : (s : SiteState) → R s (counts D i s)
  counts-own s = choice (leads D i s) refl
    where
      choice : (b : Bool) → leads D i s ≡ b → R s (counts D i s)
      choice true e = counts-walk s s.acks s.joiners (record { slots = refl; begins = refl }) e
      choice false e = rw e (M.first s)

  acknowledges-walk : (s : SiteState) (to : Option ℕ) → R s (acknowledges D i s to)
  acknowledges-walk s None = M.first s
  acknowledges-walk s (Some slot) = M.says s _ (only-inert (Site slot) _ tt)

  says_loaded-walk : (s : SiteState) (j : Joining) → s.joining ≡ Some j → R s (says_loaded D i s j)
  says_loaded-walk s j e = let u : SiteState = record s { joining = Some (record j { has_told = true }) } in walk-if R M s j.has_told (becomes s) _ (λ _. M.first s)
      (λ _. walk-behind R M s u _ (W.joins s j (record j { has_told = true }) s.log e refl refl (prefix-refl s.log)) (M.says u _ (only-inert (Agent (host_of_slot D i)) _ tt)))

  pub after_sync-walk : (s : SiteState) → R s (after_sync D i s s.joining)
  after_sync-walk s = go s.joining refl
    where
      to : Option ℕ
      to = leader_in D s.view (part_of_slot D i)

      state : (o : Option ℕ) → (acknowledges D i s o).state ≡ s
      state None = refl
      state (Some slot) = refl

      go : (o : Option Joining) → s.joining ≡ o → R s (after_sync D i s o)
      go None e = walk-if R M s (is_leader D i s) (counts D i s) _ (λ _. counts-own s)
          (λ _. walk-if R M s (s.mark == site_term s) (acknowledges D i s to) (becomes s) (λ _. acknowledges-walk s to) (λ _. M.first s))
      go (Some j) e = walk-if R M s j.is_based (acknowledges D i s to ▸ (λ b. says_loaded D i b j)) (becomes s)
          (λ _. M.next s (acknowledges D i s to) (λ b. says_loaded D i b j) (acknowledges-walk s to)
          (subst (λ b. R b (says_loaded D i b j)) (sym (state to)) (says_loaded-walk s j e)))
          (λ _. M.first s)

-- ---- entries, and calls that wait

module _ (E : Database) (D : Deployment) (i : ℕ) (R : SiteState → Turn SiteState → Type 0) (S : SmallSteps R) where
  -- An entry is appended to h, and a base may begin.
  appends-walk : (s h : SiteState) (e : Entry) → R s (becomes (with_entry h e)) → R s (appends E D i e h)
  appends-walk s h e k =
      let b = with_entry h e in
      walk-behind R S s b (appends E D i e h) k
      (walk-if R S b (is_snapshot e && is_none b.scanning && not (is_joiner b)) (begins_base E D i b) (becomes b)
      (λ _. rest-says R S b (begins_base E D i b).state (begins_base E D i b).sends (only-inert (Scanner i) _ tt)) (λ _. S.first b))

  -- and passed on
  pub leads_with-walk : (s h : SiteState) (e : Entry) → R s (becomes (with_entry h e)) → R s (leads_with E D i e h)
  leads_with-walk s h e k =
      let t = appends E D i e h in
      S.next s t (passes_on D i e) (appends-walk s h e k) (S.says t.state (passes_on D i e t.state).sends (passes_on-inert D i e t.state))

module _ (E : Database) (D : Deployment) (stamp i : ℕ) (R : SiteState → Turn SiteState → Type 0) (W : CallSteps E D stamp i R) where
  abbrev C : SmallSteps R
  C = W.moves

  -- ---- calls

  runs_calls-walk : (cs : List AskedCall) (s : SiteState) → leads D i s ≡ true → nothing_open s.log ≡ true → R s (runs_calls E D i stamp cs s)
  runs_calls-walk [] s authoritative clear = C.first s
  runs_calls-walk (c ∷ cs) s authoritative clear = by_known (known_to E D i c s) refl (runs_calls-walk cs)
    where
      by_known : (k : Known) → known_to E D i c s ≡ k → ((u : SiteState) → leads D i u ≡ true → nothing_open u.log ≡ true → R u (runs_calls E D i stamp cs u))
          → R s (runs_known E D i stamp c s k ▸ runs_calls E D i stamp cs)
      by_known IsNew is later =
          let e = Sp c.call c.client stamp c.body in
          let h = holds s (Agent c.host) (reply_to E D i stamp c s) in
          C.next s (runs_anew E D i stamp c s) (runs_calls E D i stamp cs) (leads_with-walk E D i R C s h e (W.called s authoritative clear c is))
          (later (with_entry h e) authoritative (ap is_none (call-opens None s.log c.call c.client stamp c.body) ∙ clear))
      by_known (IsAnswered e) is later =
          let t = answers_again c e s in
          C.next s t (runs_calls E D i stamp cs) (W.answered s authoritative clear c e is) (later t.state authoritative clear)
      by_known IsPast is later = later s authoritative clear

  pub works_calls-walk : (s : SiteState) → R s (works_calls E D i stamp s)
  works_calls-walk s =
      let b = record s { calls = [] } in
      walk-if R C s (leads D i s && nothing_open s.log) (runs_calls E D i stamp s.calls b) (becomes s)
      (λ e. let p = and_parts (leads D i s) (nothing_open s.log) e in
      walk-behind R C s b (runs_calls E D i stamp s.calls b) (W.cleared s) (runs_calls-walk s.calls b p.0 p.1)) (λ _. C.first s)

-- ---- that of a handler

module _ (E : Database) (D : Deployment) (stamp i : ℕ) (K : SiteState → Actor → Letter → Type 0) (R : SiteState → Turn SiteState → Type 0) (W : HandlerSteps E D stamp i K R) where
  abbrev S : SmallSteps R
  S = W.settles.moves

  -- ---- entries

  -- So is each of these, to m but for its log.
  appends_all-walk : (s h : SiteState) (es : List Entry) → R s (becomes (record h { log = h.log ++ es })) → R s (appends_all E D i es h)
  appends_all-walk s h es k =
      let all = appends-all E D i es h in
      let m = record h { log = h.log ++ es } in
      let t = appends_all E D i es h in
      walk-behind R S s m t k
      (subst (λ x. R m (sending x t.sends)) (sym all.state) (rest-says R S m (grown h es all.scans all.scanning) t.sends all.plain))

  -- ---- a call

  on_sp_call-walk : (s : SiteState) (h : ℕ) (l : Letter) (call start client : ℕ) (body : List ℕ) → K s (Agent h) (record l { body = msg.SpCall call start client body })
      → R s (on_sp_call E D i stamp s (record { call = call; client = client; host = h; start = start; body = body }))
  on_sp_call-walk s h l call start client body k =
      let c : AskedCall = record { call = call; client = client; host = h; start = start; body = body } in
      let b = with_call s c in walk-behind R S s b (works_calls E D i stamp b) (W.queued s h l call start client body k) (W.works b)

  -- ---- rounds and ends, which a leader appends

  on_frag-walk : (s : SiteState) (h : ℕ) (l : Letter) (m round : ℕ) (body : List ℕ) → K s (Agent h) (record l { body = msg.Frag m round body }) → R s (on_frag E D i s m round body)
  on_frag-walk s h l m round body k =
      let e = Frag m round body in
      let b = holds_for s (initiator_in s.view) (msg.FragDone m round (answer_behind E (part_of_slot D i) s.log e)) in
      walk-if R S s (leads D i s) (leads_with E D i e b) (becomes s) (λ q. leads_with-walk E D i R S s b e (W.round s h l m round body k q)) (λ _. S.first s)

  on_done-walk : (s : SiteState) (h : ℕ) (l : Letter) (m : ℕ) (o : Outcome) → K s (Agent h) (record l { body = msg.Done m o }) → R s (on_done E D i stamp s m o)
  on_done-walk s h l m o k =
      let b = holds_for s (initiator_in s.view) (msg.Finished m) in
      let t = leads_with E D i (Done m o) b in
      walk-if R S s (leads D i s) (t ▸ works_calls E D i stamp) (becomes s)
      (λ q. S.next s t (works_calls E D i stamp) (leads_with-walk E D i R S s b (Done m o) (W.ended s h l m o k q)) (W.works t.state)) (λ _. S.first s)

  -- ---- acknowledgements

  on_ack-walk : (s : SiteState) (slot position : ℕ) → R s (on_ack D i s slot position)
  on_ack-walk s slot position = walk-if R S s (is_leader D i s) (counts D i n) (becomes s) (λ _. choice (leads D i s) refl) (λ _. S.first s)
    where
      n : SiteState
      n = noted D i s slot position

      choice : (b : Bool) → leads D i s ≡ b → R s (counts D i n)
      choice true e = counts-walk D i R W.settles s n.acks n.joiners (positioned slot position s.joiners) e
      choice false e = rw e (W.noted s e n.acks n.joiners (positioned slot position s.joiners))

  -- ---- a new term

  -- what it lacks is appended, and it sends Repair
  begins-walk : (s : SiteState) → is_leader D i s ≡ true → s.repaired ≡ false → list_all (λ c. list_any (λ r. r.slot == c) s.reports) (other_copies D i s) ≡ true
      → R s (appends_all E D i (lacks (length s.log) (longest (length s.log) None s.reports)) s ▸ is_repaired E D i stamp)
  begins-walk s authoritative un all =
      let behind : R s (t ▸ repaired) = subst (λ a. R s (sending (repaired a).state (out a))) (sym one.state) from-grown in
      subst (R s) (turn-assoc t repaired (works_calls E D i stamp)) (S.next s (t ▸ repaired) (works_calls E D i stamp) behind (W.works (repaired t.state).state))
    where
      es : List Entry
      es = lacks (length s.log) (longest (length s.log) None s.reports)

      t : Turn SiteState
      t = appends_all E D i es s

      repaired : SiteState → Turn SiteState
      repaired a = sending (record a { repaired = true; owes = Some (site_term a); reports = [] }) (λ b. elim b as (λ _. List Letter) [
        | Site slot ↦ repair_to D a slot a.reports
        | _ ↦ []
      ])

      repaired-inert : (a : SiteState) → InertSends (repaired a).sends
      repaired-inert a (Site slot) = repair_to-inert D a slot a.reports
      repaired-inert a from = tt

      one : Appended i s es t
      one = appends-all E D i es s

      g : SiteState
      g = grown s es one.scans one.scanning

      out : SiteState → Sends
      out a b = t.sends b ++ (repaired a).sends b

      from-grown : R s (sending (repaired g).state (out g))
      from-grown =
          let m = with_reported s in
          walk-behind R S s m (sending (repaired g).state (out g)) (W.begun s authoritative un all)
          (rest-says R S m (repaired g).state (out g) (λ b. all-append InertLetter (t.sends b) ((repaired g).sends b) (one.plain b) (repaired-inert g b)))

  repairs-walk : (s : SiteState) → is_leader D i s ≡ true → s.repaired ≡ false → R s (repairs E D i stamp s)
  repairs-walk s authoritative un =
      walk-if R S s (list_all (λ c. list_any (λ r. r.slot == c) s.reports) (other_copies D i s)) _ (becomes s) (begins-walk s authoritative un) (λ _. S.first s)

  on_report-walk : (s : SiteState) (slot : ℕ) (l : Letter) (position floor : ℕ) (tail : List Entry) → K s (Site slot) (record l { body = msg.Report position floor tail })
      → R s (on_report E D i stamp s slot position floor tail)
  on_report-walk s slot l position floor tail k =
      let b = record s { reports = s.reports ++ record { slot = slot; position = position; floor = floor; tail = tail } ∷ [] } in
      walk-if R S s (is_leader D i s && not s.repaired) (repairs E D i stamp b) (becomes s)
      (λ e. let p = and_parts (is_leader D i s) (not s.repaired) e in
      walk-behind R S s b (repairs E D i stamp b) (W.reported s slot l position floor tail k) (repairs-walk b p.0 (not-true s.repaired p.1))) (λ _. S.first s)

  pub as_member-walk : (s : SiteState) → s.repaired ≡ false → R s (as_member E D i stamp s)
  as_member-walk s un =
      let to = leader_in D s.view (part_of_slot D i) in
      walk-if R S s (is_leader D i s) (repairs E D i stamp s) (sending s (reports_to D s to)) (λ e. repairs-walk s e un)
      (λ _. S.says s (reports_to D s to) (reports_to-inert D s to))

  -- ---- a copy

  on_put-walk : (s : SiteState) (slot : ℕ) (l : Letter) (position : ℕ) (e : Entry) (floor : ℕ) → K s (Site slot) (record l { body = msg.Put position e floor })
      → R s (on_put E D i s position e floor)
  on_put-walk s slot l position e floor k =
      let h = record s { floor = max s.floor floor } in
      let m = with_entry s e in let u = with_entry h e in
      appends-walk E D i R S s h e (walk-behind R S s m (becomes u) (W.put s slot l position e floor k) (S.rest m u))

  on_repair-walk : (s : SiteState) (slot : ℕ) (l : Letter) (from : ℕ) (entries : List Entry) → K s (Site slot) (record l { body = msg.Repair from entries })
      → R s (on_repair E D i s from entries)
  on_repair-walk s slot l from entries k =
      appends_all-walk s (record s { owes = Some (site_term s); repaired = true }) (drop (length s.log - from) entries) (W.repair s slot l from entries k)

  -- ---- joins

  on_scan_end-walk : (s : SiteState) (sc : Option Scanning) (id count : ℕ) → R s (becomes (on_scan_end s sc id count))
  on_scan_end-walk s None id count = S.first s
  on_scan_end-walk s (Some (ForJoiner own slot)) id count =
      let m = record s { joiners = map (with_count slot count) s.joiners } in
      let u = record m { scanning = None } in
      state-if R S s (own == id) u s (λ _. walk-behind R S s m (becomes u) (S.joiners s (with_count slot count) (counted-alike slot count)) (S.rest m u)) (λ _. S.first s)
  on_scan_end-walk s (Some (ForBase own position blocks written ended)) id count =
      let u = record s { scanning = Some (ForBase own position blocks written (Some count)) } in
      state-if R S s (own == id) u s (λ _. S.rest s u) (λ _. S.first s)

  finishes_load-walk : (s : SiteState) (j k : Joining) → s.joining ≡ Some j → k.stream ≡ j.stream → k.is_based ≡ j.is_based → R s (becomes (finishes_load s k))
  finishes_load-walk s j k is stream based =
      state-if R S s (may_finish k) (record s { joining = Some (record k { is_loaded = true; tasks = [] }); log = s.log ++ k.tasks }) (record s { joining = Some k })
      (λ _. W.settles.joins s j (record k { is_loaded = true; tasks = [] }) (s.log ++ k.tasks) is stream based (prefix-append s.log k.tasks))
      (λ _. W.settles.joins s j k s.log is stream based (prefix-refl s.log))

  on_chunk-walk : (s : SiteState) (o : Option Joining) (sc : Option Scanning) (id : ℕ) → s.joining ≡ o → R s (becomes (on_chunk s o sc id))
  on_chunk-walk s (Some j) sc id is = finishes_load-walk s j (record j { blocks = j.blocks + 1 }) is refl refl
  on_chunk-walk s None None id is = S.first s
  on_chunk-walk s None (Some (ForJoiner own slot)) id is = S.first s
  on_chunk-walk s None (Some (ForBase own position blocks written count)) id is =
      let u = record s { scanning = Some (ForBase own position (blocks + 1) written count) } in
      state-if R S s (own == id) u s (λ _. S.rest s u) (λ _. S.first s)

  on_stream_start-walk : (s : SiteState) (slot : ℕ) (o : Option Joining) (l : Letter) (head : StreamHead) → s.joining ≡ o → K s (Site slot) (record l { body = msg.StreamStart head })
      → R s (becomes (on_stream_start s o l head))
  on_stream_start-walk s slot None l head is k = S.first s
  on_stream_start-walk s slot (Some j) l head is k =
      cond_both (may_stream s j l) _ _ (λ z. R s (becomes z)) (λ e. W.stream s slot l head j k is e) (λ e. S.first s)

  on_stream_end-walk : (s : SiteState) (o : Option Joining) (count : ℕ) → s.joining ≡ o → R s (becomes (on_stream_end s o count))
  on_stream_end-walk s None count is = S.first s
  on_stream_end-walk s (Some j) count is =
      state-if R S s (is_some j.stream) (finishes_load s (record j { count = Some count })) s
      (λ _. finishes_load-walk s j (record j { count = Some count }) is refl refl) (λ _. S.first s)

  on_task-walk : (s : SiteState) (o : Option Joining) (e : Entry) → s.joining ≡ o → R s (becomes (on_task s o e))
  on_task-walk s None e is = S.first s
  on_task-walk s (Some j) e is =
      let v = record s { joining = Some (record j { tasks = j.tasks ++ e ∷ [] }) } in
      state-if R S s (is_some j.stream) (if j.is_loaded then with_entry s e else v) s
      (λ _. state-if R S s j.is_loaded (with_entry s e) v
      (λ _. subst (λ o. R s (becomes (record s { joining = o; log = s.log ++ e ∷ [] }))) (sym is) (W.settles.joins s j j (s.log ++ e ∷ []) is refl refl (prefix-append s.log (e ∷ []))))
      (λ _. W.settles.joins s j (record j { tasks = j.tasks ++ e ∷ [] }) s.log is refl refl (prefix-refl s.log)))
      (λ _. S.first s)

  -- ---- the handler of each message

  module _ (s : SiteState) where
    from_agent-walk : (h : ℕ) (l : Letter) → K s (Agent h) l → R s (from_agent E D stamp i s h l)
    from_agent-walk h l = elim l.body as (λ b. K s (Agent h) (record l { body = b }) → R s (from_agent E D stamp i s h (record l { body = b }))) [
      | msg.SpCall call start client body ↦ λ k. on_sp_call-walk s h l call start client body k
      | msg.View w ↦ λ k. absurd (W.word s h l w k)
      | msg.Frag m round body ↦ λ k. on_frag-walk s h l m round body k
      | msg.Done m o ↦ λ k. on_done-walk s h l m o k
      | b ↦ λ k. S.first s
    ]

    from_site-walk : (slot : ℕ) (l : Letter) → K s (Site slot) l → R s (from_site E D stamp i s slot l)
    from_site-walk slot l = elim l.body as (λ b. K s (Site slot) (record l { body = b }) → R s (from_site E D stamp i s slot (record l { body = b }))) [
      | msg.Put position e floor ↦ λ k. on_put-walk s slot l position e floor k
      | msg.Ack position ↦ λ k. on_ack-walk s slot position
      | msg.Report position floor tail ↦ λ k. on_report-walk s slot l position floor tail k
      | msg.Repair from entries ↦ λ k. on_repair-walk s slot l from entries k
      | msg.JoinAsk start asking ↦ λ k. S.rest s (on_join_ask s start asking)
      | msg.StreamStart head ↦ λ k. on_stream_start-walk s slot s.joining (record l { body = msg.StreamStart head }) head refl k
      | msg.StreamEnd count ↦ λ k. on_stream_end-walk s s.joining count refl
      | msg.Task position e ↦ λ k. on_task-walk s s.joining e refl
      | b ↦ λ k. S.first s
    ]

    from_scanner-walk : (l : Letter) → R s (becomes (from_scanner s l))
    from_scanner-walk l = elim l.body as (λ b. R s (becomes (from_scanner s (record l { body = b })))) [
      | msg.Chunk id bytes ↦ on_chunk-walk s s.joining s.scanning id refl
      | msg.ScanEnd id count ↦ on_scan_end-walk s s.scanning id count
      | b ↦ S.first s
    ]

    from_director-walk : (l : Letter) → R s (becomes (from_director s l))
    from_director-walk l = elim l.body as (λ b. R s (becomes (from_director s (record l { body = b })))) [
      | msg.Look ↦ let u = record s { looks = s.looks + 1 } in state-if R S s (is_joiner s) s u (λ _. S.first s) (λ _. S.rest s u)
      | b ↦ S.first s
    ]

    pub handler-walk : (from : Actor) (l : Letter) → K s from l → R s (site_handler E D stamp i s from l)
    handler-walk (Agent h) l k = from_agent-walk h l k
    handler-walk (Site slot) l k = from_site-walk slot l k
    handler-walk (Scanner x) l k = from_scanner-walk l
    handler-walk Director l k = from_director-walk l
    handler-walk (Client n) l k = S.first s
