-- Relations of a site's states alone, whatever it sends: the steps over which they go on, and that they so go on over a turn.
use Rattle.cluster_steps.proofs.Names.{◌≡◌, ◌<◌, Bool, true, false, List, [], ◌∷◌, ◌++◌, refl, sym, subst, ap, ◌∙◌, ◌==◌, and_parts, false_from_ne_true, ℕ, ◌&&◌, map, filter, length, nat_lt, not, Some, None, is_none, is_some, if◌then◌else◌, AllByRecursion, list_any, list_all, Sp, Actor, Agent, Site, Database, nothing_open, Deployment, part_of_slot, is_some_of, term_of, Letter, Turn, ◌▸◌, becomes, SiteState, AskedCall, Joining, Reported, Joiner, is_leader, leads, leader_in, other_copies, site_term, holds, firm_now, floor_now, longest, lacks}
use Rattle.volt_wire.specs.declared.message.Msg.TheVariants as msg
use Rattle.cluster_model.specs.Site.{answers_again, known_to, runs_calls, runs_known, works_calls}
use Rattle.cluster_model.specs.declared.known.Known.{Known}
use Rattle.cluster_model.specs.declared.known.Known.TheVariants.{IsNew, IsAnswered, IsPast}
use Rattle.cluster_steps.proofs.Lists.{all-append}
use Rattle.cluster_steps.proofs.SiteWalk.{call-opens}
use Rattle.cluster_steps.proofs.Frames.{begins_at, with_rest}
use Rattle.cluster_steps.proofs.Steps.{SmallSteps, SayingSteps, HandlerSteps, MayBeTold, reply_to, with_acks, with_call, with_entry, with_repair, with_reported, with_stream}

-- ---- messages

-- Of a message that a site takes: no leader gets Put or Repair, and a word that comes is of a later term.
abbrev pub Comes : Deployment → ℕ → SiteState → Actor → Letter → Type 0
Comes D i s (Site slot) l = elim l.body as (λ _. Type 0) [
  | msg.Put position e floor ↦ is_leader D i s ≡ true → ⊥
  | msg.Repair from entries ↦ is_leader D i s ≡ true → ⊥
  | _ ↦ Unit {0}
]
Comes D i s (Agent h) l = elim l.body as (λ _. Type 0) [ msg.View w ↦ site_term s < term_of w | _ ↦ Unit {0} ]
Comes D i s from l = Unit {0}

-- P of what a Report says
abbrev pub ReportOf : (Reported → Type 0) → Actor → Letter → Type 0
ReportOf P (Site slot) l = elim l.body as (λ _. Type 0) [
  | msg.Report position floor tail ↦ P (record { slot = slot; position = position; floor = floor; tail = tail })
  | _ ↦ Unit {0}
]
ReportOf P from l = Unit {0}

-- Q of a call that comes
abbrev pub CallOf : (AskedCall → Type 0) → Actor → Letter → Type 0
CallOf Q (Agent h) l = elim l.body as (λ _. Type 0) [
  | msg.SpCall call start client body ↦ Q (record { call = call; client = client; host = h; start = start; body = body })
  | _ ↦ Unit {0}
]
CallOf Q from l = Unit {0}

-- neither a word, nor a round or an end
abbrev pub Plainly : Actor → Letter → Type 0
Plainly (Agent h) l = elim l.body as (λ _. Type 0) [ msg.View w ↦ ⊥ | msg.Frag m round body ↦ ⊥ | msg.Done m o ↦ ⊥ | _ ↦ Unit {0} ]
Plainly from l = Unit {0}

abbrev pub ComesPlainly : Deployment → ℕ → (Reported → Type 0) → (AskedCall → Type 0) → SiteState → Actor → Letter → Type 0
ComesPlainly D i P Q s from l = Plainly from l × Comes D i s from l × ReportOf P from l × CallOf Q from l

-- ---- the steps

-- the first site with what no relation of states goes by of the second one
abbrev pub with_others : SiteState → SiteState → SiteState
with_others s u = record (with_rest s u) {
  stop = u.stop;
  greatest = u.greatest;
  earlier = u.earlier;
  base = u.base;
  owes = u.owes;
  calls = u.calls;
  held = u.held;
  contents = u.contents;
  plans = u.plans;
}

-- Of a site that isn't a leader, and stays so.
pub record Apart (D : Deployment) (i : ℕ) (s u : SiteState) : Type 0 where
  pub before : is_leader D i s ≡ false
  pub after : is_leader D i u ≡ false
  pub view : u.view ≡ s.view
  pub joiners : u.joiners ≡ s.joiners
  pub repaired : u.repaired ≡ false → s.repaired ≡ false

-- A goes on over the steps that follow the handler of a message.
pub record StateSaying (D : Deployment) (i : ℕ) (A : SiteState → SiteState → Type 0) : Type 0 where
  pub first : (s : SiteState) → A s s
  pub next : (s m u : SiteState) → A s m → A m u → A s u
  pub rest : (s u : SiteState) → A s (with_others s u)
  pub apart : (s u : SiteState) → Apart D i s u → A s u
  -- a leader counts, with these acknowledgements
  pub counted : (s : SiteState) → leads D i s ≡ true → (acks : List (ℕ × ℕ)) (joiners : List Joiner) → begins_at joiners ≡ begins_at s.joiners
      → A s (let m = with_acks s acks joiners in record m { firm = firm_now D i m })
  pub joiners : (s : SiteState) (f : Joiner → Joiner) → ((j : Joiner) → (f j).stream_start ≡ j.stream_start) → ((j : Joiner) → (f j).position ≡ j.position)
      → A s (record s { joiners = map f s.joiners })

-- So it does over those of a handler, with P of each report that comes, and Q of each call.
pub record StateSteps (E : Database) (D : Deployment) (stamp i : ℕ) (P : Reported → Type 0) (Q : AskedCall → Type 0) (A : SiteState → SiteState → Type 0) : Type 0 where
  pub settles : StateSaying D i A
  -- a call that is new runs
  pub called : (s : SiteState) → leads D i s ≡ true → nothing_open s.log ≡ true → (c : AskedCall) → known_to E D i c s ≡ IsNew → Q c
      → A s (with_entry s (Sp c.call c.client stamp c.body))
  -- a leader that has all reports begins its term
  pub begun : (s : SiteState) → is_leader D i s ≡ true → s.repaired ≡ false → list_all (λ c. list_any (λ r. r.slot == c) s.reports) (other_copies D i s) ≡ true
      → A s (record s { log = s.log ++ lacks (length s.log) (longest (length s.log) None s.reports); repaired = true; reports = [] })
  pub reported : (s : SiteState) (r : Reported) → P r → A s (record s { reports = s.reports ++ r ∷ [] })
  -- one that hasn't begun its term notes an acknowledgement
  pub noted : (s : SiteState) → leads D i s ≡ false → (acks : List (ℕ × ℕ)) (joiners : List Joiner) → begins_at joiners ≡ begins_at s.joiners → A s (with_acks s acks joiners)

-- ---- as relations of turns

-- A goes on, and Q of each call that waits.
abbrev pub Over : (AskedCall → Type 0) → (SiteState → SiteState → Type 0) → SiteState → Turn SiteState → Type 0
Over Q A s t = AllByRecursion Q s.calls → A s t.state × AllByRecursion Q t.state.calls

-- a joiner isn't a leader
pub joiner-apart : (D : Deployment) (i : ℕ) (s : SiteState) (j : Joining) → s.joining ≡ Some j → is_leader D i s ≡ false
joiner-apart D i s j e = ap (λ o. not (is_some o) && is_some_of (leader_in D s.view (part_of_slot D i)) i) e

module _ (D : Deployment) (i : ℕ) (Q : AskedCall → Type 0) (A : SiteState → SiteState → Type 0) (W : StateSaying D i A) where
  pub over-moves : SmallSteps (Over Q A)
  over-moves = record {
    first = λ s known. (W.first s, known);
    next = λ s t f h k known. let a = h known in let b = k a.1 in (W.next s t.state (f t.state).state a.0 b.0, b.1);
    rest = λ s u known. (W.rest s (with_rest s u), known);
    says = λ s out inert known. (W.first s, known);
    joiners = λ s f same known. (W.joiners s f (λ j. (same j).stream_start) (λ j. (same j).position), known);
  }

  pub over-tells : (E : Database) → MayBeTold E D i (Over Q A)
  over-tells E s may first known = (W.rest s (record s { has_told = true }), known)

  pub over-settles : SayingSteps D i (Over Q A)
  over-settles = record {
    moves = over-moves;
    joins = λ s j k log is stream based more known. (
      W.apart s _ (record { before = joiner-apart D i s j is; after = refl; view = refl; joiners = refl; repaired = λ e. e }),
      known,
    );
    counted = λ s authoritative acks joiners same known.
        let m = with_acks s acks joiners in
        let n = record m { firm = firm_now D i m } in
        let u = record n { floor = floor_now D i m; held = filter (λ d. nat_lt n.firm d.position) s.held } in
        (W.next s n u (W.counted s authoritative acks joiners same.begins) (W.rest n u), known);
  }

module _ (E : Database) (D : Deployment) (stamp i : ℕ) (P : Reported → Type 0) (Q : AskedCall → Type 0) (A : SiteState → SiteState → Type 0) (W : StateSteps E D stamp i P Q A) where
  abbrev S : StateSaying D i A
  S = W.settles

  -- the calls that wait are worked one after another
  runs-over : (cs : List AskedCall) → AllByRecursion Q cs → (s : SiteState) → leads D i s ≡ true → nothing_open s.log ≡ true
      → let u = (runs_calls E D i stamp cs s).state in A s u × (u.calls ≡ s.calls)
  runs-over [] k s authoritative clear = (S.first s, refl)
  runs-over (c ∷ cs) k s authoritative clear = by_known (known_to E D i c s) refl (runs-over cs k.1)
    where
      by_known : (z : Known) → known_to E D i c s ≡ z
          → ((m : SiteState) → leads D i m ≡ true → nothing_open m.log ≡ true → let u = (runs_calls E D i stamp cs m).state in A m u × (u.calls ≡ m.calls))
          → let u = (runs_known E D i stamp c s z ▸ runs_calls E D i stamp cs).state in A s u × (u.calls ≡ s.calls)
      by_known IsNew is later =
          let h = holds s (Agent c.host) (reply_to E D i stamp c s) in
          let m = with_entry h (Sp c.call c.client stamp c.body) in
          let r = later m authoritative (ap is_none (call-opens None s.log c.call c.client stamp c.body) ∙ clear) in
          (S.next s m (runs_calls E D i stamp cs m).state (S.next s h m (S.rest s h) (W.called h authoritative clear c is k.0)) r.0, r.1)
      by_known (IsAnswered e) is later =
          let m = (answers_again c e s).state in
          let r = later m authoritative clear in
          (S.next s m (runs_calls E D i stamp cs m).state (S.rest s m) r.0, r.1)
      by_known IsPast is later = later s authoritative clear

  works-over : (s : SiteState) → Over Q A s (works_calls E D i stamp s)
  works-over s known = choice (leads D i s && nothing_open s.log) refl
    where
      b : SiteState
      b = record s { calls = [] }

      choice : (c : Bool) → (leads D i s && nothing_open s.log) ≡ c
          → let u = (if c then runs_calls E D i stamp s.calls b else becomes s).state in A s u × AllByRecursion Q u.calls
      choice true e =
          let p = and_parts (leads D i s) (nothing_open s.log) e in
          let r = runs-over s.calls known b p.0 p.1 in
          (S.next s b (runs_calls E D i stamp s.calls b).state (S.rest s b) r.0, subst (AllByRecursion Q) (sym r.1) tt)
      choice false e = (S.first s, known)

  pub over-steps : HandlerSteps E D stamp i (ComesPlainly D i P Q) (Over Q A)
  over-steps = record {
    settles = over-settles D i Q A S;
    queued = λ s h l call start client body k known.
        let c : AskedCall = record { call = call; client = client; host = h; start = start; body = body } in
        (S.rest s (with_call s c), all-append Q s.calls (c ∷ []) known (k.3, tt));
    works = works-over;
    round = λ s h l m round body k authoritative. absurd k.0;
    ended = λ s h l m o k authoritative. absurd k.0;
    word = λ s h l w k. k.0;
    begun = λ s authoritative un all known.
        let m = record s { log = s.log ++ lacks (length s.log) (longest (length s.log) None s.reports); repaired = true; reports = [] } in
        (S.next s m (with_reported s) (W.begun s authoritative un all) (S.rest m (with_reported s)), known);
    reported = λ s slot l position floor tail k known. (W.reported s _ k.2, known);
    noted = λ s idle acks joiners same known. (W.noted s idle acks joiners same.begins, known);
    put = λ s slot l position e floor k known. let n = false_from_ne_true (is_leader D i s) k.1 in
        (S.apart s (with_entry s e) (record { before = n; after = n; view = refl; joiners = refl; repaired = λ r. r }), known);
    repair = λ s slot l from entries k known. let n = false_from_ne_true (is_leader D i s) k.1 in
        (S.apart s (with_repair s from entries) (record { before = n; after = n; view = refl; joiners = refl; repaired = λ r. absurd (cc) }), known);
    stream = λ s slot l head j k is may known.
        (S.apart s (with_stream s j l head) (record { before = joiner-apart D i s j is; after = refl; view = refl; joiners = refl; repaired = λ r. r }), known);
  }
