-- The turn of a site: the calls that wait at it are those that it was asked for, and it replies to no others.
use Rattle.std.proofs.Common.{◌≡◌, Bool, true, false, List, [], ◌∷◌, ◌++◌, refl, sym, subst, ap, ◌∙◌, ◌==◌}
use Rattle.std.proofs.lemmas.Bool.{and_parts}
use Rattle.std.specs.Prelude.{ℕ, ◌&&◌, filter, nat_le, nat_lt, if◌then◌else◌, is_none, Option, Some, None}
use Rattle.std.specs.List.{AllByRecursion}
use Rattle.volt_base.specs.declared.entry.Entry.{Entry}
use Rattle.volt_base.specs.declared.entry.Entry.TheVariants.{Sp, Frag, Done}
use Rattle.volt_base.specs.declared.entry.LastReply.{LastReply}
use Rattle.volt_base.specs.declared.entry.Outcome.{Outcome}
use Rattle.volt_wire.specs.declared.end.End.{End}
use Rattle.volt_wire.specs.Word.{Membership}
use Rattle.volt_wire.specs.declared.actor.Actor.{Actor}
use Rattle.volt_wire.specs.declared.actor.Actor.TheVariants.{Director, Client, Agent, Site, Scanner}
use Rattle.volt_wire.specs.declared.message.Msg.{Msg}
use Rattle.volt_wire.specs.declared.message.Msg.TheVariants as msg
use Rattle.cluster_model.specs.Engine.{Database}
use Rattle.cluster_model.specs.Environment.{Environment}
use Rattle.cluster_model.specs.Words.{Deployment, part_of_slot}
use Rattle.cluster_model.specs.Letters.{Blocks, same, Letter, Sends, Turn, becomes, ◌▸◌, letter_in, Waiting, of_term, above_term}
use Rattle.cluster_model.specs.Log.{answer_behind, last_done, nothing_open, open_in}
use Rattle.cluster_model.specs.Replies.{end_of_reply, last_replies}
use Rattle.cluster_model.specs.declared.known.Known.{Known}
use Rattle.cluster_model.specs.declared.known.Known.TheVariants.{IsNew, IsAnswered, IsPast}
use Rattle.cluster_model.specs.SiteState.{SiteState, AskedCall, Held, leads, site_term}
use Rattle.cluster_model.specs.Site.{answers_again, answers_held, firm_now, floor_now, holds, holds_at, holds_for, initiator_in, is_reply, known_to, ordered, reply_to, runs_anew, runs_calls, runs_known, sends_firm, settles, site_handler, standing, on_view, takes_each, takes_waiting, works_calls}
use Rattle.cluster_model.specs.Sync.{after_sync, site_turn, sync_turn, syncs}
use Rattle.cluster_steps.proofs.Lists.{all-append, all-at, all-filter, all-from, all-if, all-mono, in-filter, in-map-from}
use Rattle.cluster_steps.proofs.Sends.{all-order}
use Rattle.cluster_steps.proofs.Frames.{InertLetter, InertSends, holds_for-cases, with_rest}
use Rattle.cluster_steps.proofs.Steps.{SayingSteps, HandlerSteps, with_acks, with_entry}
use Rattle.cluster_steps.proofs.SiteWalk.{after_sync-walk, call-opens, handler-walk, leads_with-walk}
use Rattle.cluster_steps.proofs.SiteTurns.{as_entered, as_joiner, NoWord, Wrote, wrote, written_site, stays_joiner, joins-walk, enters-walk, settles-walk, takes_asks-cases, site_turn-cases, sync_turn-cases}
use Rattle.cluster_steps.proofs.StateSteps.{CallOf}
use Rattle.call_laws.specs.Submissions.{Submissions, AskedIn, RepliedBy, WaitingAsked, CallAsked, SiteAsks}

-- what says nothing is no reply
inert-plain : (A : Submissions) (p : ℕ) (l : Letter) → InertLetter l → RepliedBy A p l
inert-plain A p l = elim l.body as (λ m. InertLetter (record l { body = m }) → RepliedBy A p (record l { body = m })) [
  | msg.Reply call start end ↦ λ k. absurd k
  | m ↦ λ k. tt
]

module _ (E : Database) (D : Deployment) (A : Submissions) (i : ℕ) where
  abbrev Q : AskedCall → Type 0
  Q c = CallAsked A (part_of_slot D i) c

  -- of what it holds, and of what it says to agents
  abbrev P : Letter → Type 0
  P l = RepliedBy A (part_of_slot D i) l

  abbrev H : Held → Type 0
  H d = P d.letter

  abbrev Waits : Waiting → Type 0
  Waits x = WaitingAsked D A (Site i) x

  -- What waits stays, and the calls that wait, and those that it replies to, are no others.
  record Kept (s : SiteState) (t : Turn SiteState) : Type 0 where
    pub calls : AllByRecursion Q t.state.calls
    pub held : AllByRecursion H t.state.held
    pub waiting : t.state.waiting ≡ s.waiting
    pub sends : (h : ℕ) → AllByRecursion P (t.sends (Agent h))

  abbrev Keeps : SiteState → Turn SiteState → Type 0
  Keeps s t = AllByRecursion Q s.calls → AllByRecursion H s.held → Kept s t

  keeps-same : (s u : SiteState) → u.calls ≡ s.calls → u.held ≡ s.held → u.waiting ≡ s.waiting → Keeps s (becomes u)
  keeps-same s u calls held waiting c d = record { calls = subst (AllByRecursion Q) (sym calls) c; held = subst (AllByRecursion H) (sym held) d; waiting = waiting; sends = λ h. tt }

  -- one reply more
  keeps-held : (s u : SiteState) (position : ℕ) (to : Actor) (l : Letter) → P l → u.calls ≡ s.calls → u.held ≡ s.held ++ record { position = position; to = to; letter = l } ∷ [] → u.waiting ≡ s.waiting
      → Keeps s (becomes u)
  keeps-held s u position to l k calls held waiting c d = record {
    calls = subst (AllByRecursion Q) (sym calls) c;
    held = subst (AllByRecursion H) (sym held) (all-append H s.held (record { position = position; to = to; letter = l } ∷ []) d (k, tt));
    waiting = waiting;
    sends = λ h. tt;
  }

  -- what is firm goes out
  keeps-firm : (s : SiteState) → Keeps s (sends_firm s)
  keeps-firm s c d = record {
    calls = c;
    held = all-filter H (λ d. nat_lt s.firm d.position) s.held d;
    waiting = refl;
    sends = λ h. all-from P (answers_held s.firm s.held (Agent h)) (λ l k.
        let r = in-map-from (λ d. d.letter) l (filter (λ d. nat_le d.position s.firm && same d.to (Agent h)) s.held) k in
        let q = in-filter (λ d. nat_le d.position s.firm && same d.to (Agent h)) r.0 s.held r.1 in
        subst P r.2 (all-at H s.held d r.0 q.0));
  }

  -- with one reply more
  keeps-again : (s : SiteState) (position : ℕ) (to : Actor) (l : Letter) → P l → Keeps s (sends_firm (holds_at position s to l))
  keeps-again s position to l k c d =
      let b = holds_at position s to l in
      let a = keeps-held s b position to l k refl refl refl c d in
      let r = keeps-firm b a.calls a.held in
      record { calls = r.calls; held = r.held; waiting = r.waiting; sends = r.sends }

  keeps-saying : SayingSteps D i Keeps
  keeps-saying = record {
    moves = record {
      first = λ s. keeps-same s s refl refl refl;
      next = λ s t f h k c d. let a = h c d in let b = k a.calls a.held in record {
        calls = b.calls;
        held = b.held;
        waiting = b.waiting ∙ a.waiting;
        sends = λ x. all-append P (t.sends (Agent x)) ((f t.state).sends (Agent x)) (a.sends x) (b.sends x);
      };
      rest = λ s u. keeps-same s (with_rest s u) refl refl refl;
      says = λ s out inert c d. record { calls = c; held = d; waiting = refl; sends = λ h. all-mono InertLetter P (inert-plain A (part_of_slot D i)) (out (Agent h)) (inert (Agent h)) };
      joiners = λ s f alike. keeps-same s _ refl refl refl;
    };
    joins = λ s j k log is stream based more. keeps-same s _ refl refl refl;
    counted = λ s authoritative acks joiners alike c d.
        let k = keeps-firm (record (with_acks s acks joiners) { firm = firm_now D i (with_acks s acks joiners); floor = floor_now D i (with_acks s acks joiners) }) c d in
        record { calls = k.calls; held = k.held; waiting = k.waiting; sends = k.sends };
  }

  keeps-entry : (s : SiteState) (o : Option (ℕ × ℕ)) (m : Msg Blocks) (e : Entry) → ((term start : ℕ) → P (letter_in term start m)) → Keeps s (becomes (with_entry (holds_for s o m) e))
  keeps-entry s o m e plain = holds_for-cases (λ h. Keeps s (becomes (with_entry h e))) s o m (keeps-same s _ refl refl refl)
      (λ first. keeps-held s _ _ (Agent first.0) (letter_in (site_term s) first.1 m) (plain (site_term s) first.1) refl refl refl)

  -- The calls that wait are worked: it replies to them alone.
  runs-keeps : (stamp : ℕ) (cs : List AskedCall) → AllByRecursion Q cs → (s : SiteState) → leads D i s ≡ true → nothing_open s.log ≡ true → Keeps s (runs_calls E D i stamp cs s)
  runs-keeps stamp [] asked s authoritative clear = keeps-same s s refl refl refl
  runs-keeps stamp (c ∷ cs) asked s authoritative clear = by_known (known_to E D i c s) (runs-keeps stamp cs asked.1)
    where
      mine : (e : End) → P (reply_to c e)
      mine e = (c.client, c.body, asked.0)

      by_known : (k : Known) → ((u : SiteState) → leads D i u ≡ true → nothing_open u.log ≡ true → Keeps u (runs_calls E D i stamp cs u)) → Keeps s (runs_known E D i stamp c s k ▸ runs_calls E D i stamp cs)
      by_known IsNew later =
          let e = Sp c.call c.client stamp c.body in
          let reply = end_of_reply (answer_behind E (part_of_slot D i) s.log e) in
          let h = holds s (Agent c.host) (reply_to c reply) in
          keeps-saying.moves.next s (runs_anew E D i stamp c s) (runs_calls E D i stamp cs)
          (leads_with-walk E D i Keeps keeps-saying.moves s h e (keeps-held s (with_entry h e) _ (Agent c.host) (reply_to c reply) (mine reply) refl refl refl))
          (later (with_entry h e) authoritative (ap is_none (call-opens None s.log c.call c.client stamp c.body) ∙ clear))
      by_known (IsAnswered e) later =
          keeps-saying.moves.next s (answers_again c e s) (runs_calls E D i stamp cs) (keeps-again s _ (Agent c.host) (reply_to c e) (mine e)) (later (answers_again c e s).state authoritative clear)
      by_known IsPast later = later s authoritative clear

  works-keeps : (stamp : ℕ) (s : SiteState) → Keeps s (works_calls E D i stamp s)
  works-keeps stamp s c d = choice (leads D i s && nothing_open s.log) refl
    where
      b : SiteState
      b = record s { calls = [] }

      choice : (x : Bool) → (leads D i s && nothing_open s.log) ≡ x → Kept s (if x then runs_calls E D i stamp s.calls b else becomes s)
      choice true e =
          let p = and_parts (leads D i s) (nothing_open s.log) e in
          let k = runs-keeps stamp s.calls c b p.0 p.1 tt d in
          record { calls = k.calls; held = k.held; waiting = k.waiting; sends = k.sends }
      choice false e = keeps-same s s refl refl refl c d

  -- a call that comes, and no word
  abbrev Comes : SiteState → Actor → Letter → Type 0
  Comes s from l = NoWord from l × CallOf Q from l

  keeps-steps : (stamp : ℕ) → HandlerSteps E D stamp i Comes Keeps
  keeps-steps stamp = record {
    settles = keeps-saying;
    queued = λ s h l call start client body k c d. record { calls = all-append Q s.calls (_ ∷ []) c (k.1, tt); held = d; waiting = refl; sends = λ h. tt };
    works = works-keeps stamp;
    round = λ s h l m round body k authoritative. keeps-entry s (initiator_in s.view) _ (Frag m round body) (λ term start. tt);
    ended = λ s h l m o k authoritative. keeps-entry s (initiator_in s.view) _ (Done m o) (λ term start. tt);
    word = λ s h l w k. k.0;
    begun = λ s authoritative un all. keeps-same s _ refl refl refl;
    reported = λ s slot l position floor tail k. keeps-same s _ refl refl refl;
    noted = λ s idle acks joiners alike. keeps-same s _ refl refl refl;
    put = λ s slot l position e floor k. keeps-same s _ refl refl refl;
    repair = λ s slot l from entries k. keeps-same s _ refl refl refl;
    stream = λ s slot l head j k is may. keeps-same s _ refl refl refl;
  }

  -- how its partition stands is no reply
  standing-plain : (term start : ℕ) (o : Option ℕ) (last : Option (ℕ × Outcome)) (replies : List LastReply) → P (letter_in term start (standing o last replies))
  standing-plain term start (Some m) last replies = tt
  standing-plain term start None None replies = tt
  standing-plain term start None (Some last) replies = tt

  keeps-settles : (s : SiteState) → Keeps s (settles E D i s)
  keeps-settles s = settles-walk E D i Keeps keeps-saying.moves
      (λ s may first c d. record {
        calls = c;
        held = d;
        waiting = refl;
        sends = λ h. all-if P (same (Agent first.0) (Agent h)) _ [] (standing-plain (site_term s) first.1 (open_in s.log) (last_done E (part_of_slot D i) s.log) (last_replies E (part_of_slot D i) s.log), tt) tt;
      })
      (λ s. takes_asks-cases E D i s (Keeps s) (keeps-same s s refl refl refl) (λ a authoritative mark c d. record { calls = c; held = d; waiting = refl; sends = λ h. tt })) s

  -- ---- the handler of each message

  -- what is asked for by a message
  call-of : (from : Actor) (l : Letter) → AskedIn D A from (Site i) l → CallOf Q from l
  call-of (Agent h) l k = (elim l.body as (λ m. AskedIn D A (Agent h) (Site i) (record l { body = m }) → CallOf Q (Agent h) (record l { body = m })) [
    | msg.SpCall call start client body ↦ λ k. k
    | m ↦ λ k. tt
  ]) k
  call-of (Client c) l k = tt
  call-of (Site c) l k = tt
  call-of (Scanner c) l k = tt
  call-of Director l k = tt

  -- from the site on that has the word, in which only replies are held still
  from-word : (s b : SiteState) (t : Turn SiteState) → b.calls ≡ s.calls → b.held ≡ filter (λ d. is_reply d.letter) s.held → b.waiting ≡ s.waiting → Keeps b t → Keeps s t
  from-word s b t calls held waiting f c d =
      let k = f (subst (AllByRecursion Q) (sym calls) c) (subst (AllByRecursion H) (sym held) (all-filter H (λ d. is_reply d.letter) s.held d)) in
      record { calls = k.calls; held = k.held; waiting = k.waiting ∙ waiting; sends = k.sends }

  view-keeps : (stamp : ℕ) (s : SiteState) (w : Membership) → Keeps s (on_view E D i stamp s w)
  view-keeps stamp s w = go (stays_joiner D i s w) refl
    where
      go : (c : Bool) → stays_joiner D i s w ≡ c → Keeps s (on_view E D i stamp s w)
      go true e = from-word s (as_joiner s w) (on_view E D i stamp s w) refl refl refl (joins-walk E D stamp i Comes Keeps (keeps-steps stamp) s w e)
      go false e = from-word s (as_entered s w) (on_view E D i stamp s w) refl refl refl (enters-walk E D stamp i Comes Keeps (keeps-steps stamp) s w e)

  plain-keeps : (stamp : ℕ) (s : SiteState) (from : Actor) (l : Letter) → Comes s from l → Keeps s (site_handler E D stamp i s from l)
  plain-keeps stamp = handler-walk E D stamp i Comes Keeps (keeps-steps stamp)

  handler-keeps : (stamp : ℕ) (s : SiteState) (from : Actor) (l : Letter) → AskedIn D A from (Site i) l → Keeps s (site_handler E D stamp i s from l)
  handler-keeps stamp s (Agent h) l k = (elim l.body as (λ m. AskedIn D A (Agent h) (Site i) (record l { body = m }) → Keeps s (site_handler E D stamp i s (Agent h) (record l { body = m }))) [
    | msg.View w ↦ λ k. view-keeps stamp s w
    | m ↦ λ k. plain-keeps stamp s (Agent h) (record l { body = m }) (tt, call-of (Agent h) (record l { body = m }) k)
  ]) k
  handler-keeps stamp s (Client c) l k = plain-keeps stamp s (Client c) l (tt, tt)
  handler-keeps stamp s (Site c) l k = plain-keeps stamp s (Site c) l (tt, tt)
  handler-keeps stamp s (Scanner c) l k = plain-keeps stamp s (Scanner c) l (tt, tt)
  handler-keeps stamp s Director l k = plain-keeps stamp s Director l (tt, tt)

  each-keeps : (stamp : ℕ) (ws : List Waiting) (s : SiteState) → AllByRecursion Waits ws → Keeps s (takes_each E D stamp i ws s)
  each-keeps stamp [] s h = keeps-same s s refl refl refl
  each-keeps stamp (w ∷ ws) s h =
      let t = site_handler E D stamp i s w.from w.letter in
      keeps-saying.moves.next s t (takes_each E D stamp i ws) (handler-keeps stamp s w.from w.letter h.0) (each-keeps stamp ws t.state h.1)

  -- ---- a turn

  abbrev Good : SiteState → Type 0
  Good s = SiteAsks D A i s

  -- What a turn makes of it, and says to agents.
  pub record Asks (t : Turn SiteState) : Type 0 where
    pub state : Good t.state
    pub sends : (h : ℕ) → AllByRecursion P (t.sends (Agent h))

  good-from : (s : SiteState) (t : Turn SiteState) → Good s → Keeps s t → Asks t
  good-from s t g f = let k = f g.calls g.held in record { state = record { calls = k.calls; held = k.held; waiting = subst (AllByRecursion Waits) (sym k.waiting) g.waiting }; sends = k.sends }

  -- what follows a handler
  followed : (stamp : ℕ) (t : Turn SiteState) → Asks t → Asks (ordered (t ▸ takes_waiting E D stamp i ▸ settles E D i))
  followed stamp t a =
      let s = t.state in
      let term = site_term s in
      let b = record s { waiting = above_term term s.waiting } in
      let left : Good b = record { calls = a.state.calls; held = a.state.held; waiting = all-filter Waits (λ w. nat_lt term w.letter.term) s.waiting a.state.waiting } in
      let u = takes_each E D stamp i (of_term term s.waiting) b in
      let k = good-from b u left (each-keeps stamp (of_term term s.waiting) b (all-filter Waits (λ w. w.letter.term == term) s.waiting a.state.waiting)) in
      let m = good-from u.state (settles E D i u.state) k.state (keeps-settles u.state) in
      record {
        state = m.state;
        sends = λ h. all-order P ((t ▸ takes_waiting E D stamp i ▸ settles E D i).sends (Agent h))
            (all-append P ((t ▸ takes_waiting E D stamp i).sends (Agent h)) ((settles E D i u.state).sends (Agent h))
            (all-append P (t.sends (Agent h)) (u.sends (Agent h)) (a.sends h) (k.sends h)) (m.sends h));
      }

  inert-asks : (out : Sends) → InertSends out → (h : ℕ) → AllByRecursion P (out (Agent h))
  inert-asks out inert h = all-mono InertLetter P (inert-plain A (part_of_slot D i)) (out (Agent h)) (inert (Agent h))

  -- What a message makes of a site.
  pub site-asks : (stamp : ℕ) (s : SiteState) (from : Actor) (l : Letter) (o : Environment) → Good s → AskedIn D A from (Site i) l → Asks (site_turn E D stamp i s from l o)
  site-asks stamp s from l o g is = site_turn-cases E D stamp i s from Asks
      (λ start stop joining contents out inert. record { state = record { calls = tt; held = tt; waiting = tt }; sends = inert-asks out inert }) l o
      (λ stop plans aside. record { state = record { calls = g.calls; held = g.held; waiting = g.waiting }; sends = λ h. tt })
      (λ up waits. record {
        state = record { calls = g.calls; held = g.held; waiting = all-append Waits s.waiting (record { from = from; letter = l } ∷ []) g.waiting (is, tt) };
        sends = λ h. tt;
      })
      (λ up takes. let t = site_handler E D stamp i s from l in followed stamp t (good-from s t g (handler-keeps stamp s from l is)))

  -- What a Sync makes of it.
  pub sync-asks : (s : SiteState) (o : Environment) → Good s → Asks (sync_turn E D i s o)
  sync-asks s o g = sync_turn-cases E D i s o Asks (λ stop contents out inert. record { state = record { calls = tt; held = tt; waiting = tt }; sends = inert-asks out inert }) says
    where
      b : SiteState
      b = written_site s

      w : Wrote s b
      w = wrote s

      t : Turn SiteState
      t = after_sync D i b b.joining

      says : Asks (syncs E D i s)
      says =
          let g1 : Good b = record {
            calls = subst (AllByRecursion Q) (sym w.calls) g.calls;
            held = subst (AllByRecursion H) (sym w.held) g.held;
            waiting = subst (AllByRecursion Waits) (sym w.waiting) g.waiting;
          } in
          let g2 = good-from b t g1 (after_sync-walk D i Keeps keeps-saying b) in
          let m = good-from t.state (settles E D i t.state) g2.state (keeps-settles t.state) in
          record {
            state = m.state;
            sends = λ h. all-order P ((t ▸ settles E D i).sends (Agent h)) (all-append P (t.sends (Agent h)) ((settles E D i t.state).sends (Agent h)) (g2.sends h) (m.sends h));
          }
