-- In each world of a run the calls that wait and that are under way are those that clients have submitted.
use Rattle.std.proofs.Common.{◌≡◌, true, List, [], ◌∷◌, ◌++◌, append_assoc, append-nil, refl, sym, subst, ap, ◌∙◌, inl, ◌==◌, ◌+◌, arith}
use Rattle.std.proofs.lemmas.Bool.{and_parts, eqb-true, cond_both, true≢false}
use Rattle.std.proofs.lemmas.List.{length-append}
use Rattle.std.specs.Prelude.{ℕ, zero, suc, ◌&&◌, not, nat_lt, map, length, Option, Some, None}
use Rattle.std.specs.List.{AllByRecursion}
use Rattle.volt_base.specs.declared.entry.Entry.{Entry}
use Rattle.volt_wire.specs.declared.actor.Actor.{Actor}
use Rattle.volt_wire.specs.declared.actor.Actor.TheVariants.{Director, Client, Agent, Site, Scanner}
use Rattle.volt_wire.specs.declared.event.Event.{Event}
use Rattle.volt_wire.specs.declared.event.Event.TheVariants as event
use Rattle.volt_wire.specs.declared.message.Msg.TheVariants as msg
use Rattle.cluster_model.specs.Engine.{Database}
use Rattle.cluster_model.specs.Environment.{Environment, NoFault, DiskFails, NoMemory, DisksShow}
use Rattle.cluster_model.specs.Words.{Deployment, slots, parts, part_of_slot, is_host, is_client}
use Rattle.cluster_model.specs.Letters.{Letter, Sends, Turn, no_sends}
use Rattle.cluster_model.specs.Laws.{RiseFrom}
use Rattle.cluster_model.specs.Client.{Due, Submitted, ClientState, may_submit, target, submit_to, submits, client_takes}
use Rattle.cluster_model.specs.declared.initiating.Job.{Job}
use Rattle.cluster_model.specs.declared.initiating.Job.TheVariants.{RunCall, TakeSnapshot}
use Rattle.cluster_model.specs.declared.initiating.Queued.TheVariants.{ToRun, Admission}
use Rattle.cluster_model.specs.AgentState.{AgentState}
use Rattle.cluster_model.specs.Agent.{agent_turn}
use Rattle.cluster_model.specs.SiteState.{SiteState}
use Rattle.cluster_model.specs.Sync.{site_turn, sync_turn}
use Rattle.cluster_model.specs.Recover.{is_of_host, opens, new_channels, new_base, new_log, starts_anew}
use Rattle.cluster_model.specs.World.{World, Input, due, set_at, took, stamp_of, new_word, greatest_done, greatest_replies, member_agent, first_world, with_client}
use Rattle.cluster_model.specs.Events.{allows, can, delivered, happens, may_submit_in, recovered_with, step}
use Rattle.cluster_model.specs.Runs.{Happening, Reached, has_failed, may_happen}
use Rattle.cluster_model.proofs.Runs.{reached-kept}
use Rattle.cluster_steps.specs.Lists.{In}
use Rattle.cluster_steps.proofs.Lists.{all-append, all-from, all-if, all-mono, in-left, in-right, none-and-some, same-some, set-both, set-here, some-mono}
use Rattle.cluster_steps.proofs.Channels.{sent-all, took-all}
use Rattle.call_laws.specs.Submissions.{pending_call, submitted_by, Submission, Submissions, AnsweredTo, IsAsked, AskedOf, RepliedBy, AskedIn, WaitingAsked, PendingAsked, JobAsked, QueuedAsked, WorkAsked, AgentAsks, CallAsked, SiteAsks, ClientAsks, Grows, SubmissionOk, HasSubmissions}
use Rattle.call_laws.proofs.Agents.{agent-asks}
use Rattle.call_laws.proofs.Sites.{site-asks, sync-asks}
use Rattle.call_laws.proofs.Clients.{due-rises, due-numbered, rises-past, takes-goes, with_submission, submission-here, asked-more, client-more}

-- ---- requests of which more is known

module _ (D : Deployment) (A B : Submissions) (more : (call client : ℕ) (part : Option ℕ) (body : List ℕ) → IsAsked A call client part body → IsAsked B call client part body) where
  of-more : (to : Actor) (call client : ℕ) (body : List ℕ) → AskedOf D A to call client body → AskedOf D B to call client body
  of-more (Site c) call client body k = more call client (Some (part_of_slot D c)) body k
  of-more Director call client body k = k
  of-more (Client m) call client body k = k
  of-more (Agent h) call client body k = k
  of-more (Scanner x) call client body k = k

  answered-more : (to : Actor) (call : ℕ) → AnsweredTo A to call → AnsweredTo B to call
  answered-more (Client n) call (part, body, k) = (part, body, more call n part body k)
  answered-more Director call k = k
  answered-more (Agent h) call k = k
  answered-more (Site c) call k = k
  answered-more (Scanner x) call k = k

  replied-more : (p : ℕ) (l : Letter) → RepliedBy A p l → RepliedBy B p l
  replied-more p l k = (elim l.body as (λ m. RepliedBy A p (record l { body = m }) → RepliedBy B p (record l { body = m })) [
    | msg.Reply call start e ↦ λ (client, body, k). (client, body, more call client (Some p) body k)
    | m ↦ λ k. tt
  ]) k

  letter-more : (from to : Actor) (l : Letter) → AskedIn D A from to l → AskedIn D B from to l
  letter-more (Client n) to l k = (elim l.body as (λ m. AskedIn D A (Client n) to (record l { body = m }) → AskedIn D B (Client n) to (record l { body = m })) [
    | msg.Call call start part body ↦ more call n part body
    | m ↦ λ k. tt
  ]) k
  letter-more (Agent h) to l k = (elim l.body as (λ m. AskedIn D A (Agent h) to (record l { body = m }) → AskedIn D B (Agent h) to (record l { body = m })) [
    | msg.MpCall call start client body ↦ more call client None body
    | msg.SpCall call start client body ↦ of-more to call client body
    | msg.Answer call e ↦ answered-more to call
    | m ↦ λ k. tt
  ]) k
  letter-more Director to l k = tt
  letter-more (Site c) (Agent h) l k = replied-more (part_of_slot D c) l k
  letter-more (Site c) Director l k = tt
  letter-more (Site c) (Client m) l k = tt
  letter-more (Site c) (Site s) l k = tt
  letter-more (Site c) (Scanner x) l k = tt
  letter-more (Scanner x) to l k = tt

  job-more : (z : Job) → JobAsked A z → JobAsked B z
  job-more z = elim z as (λ z. JobAsked A z → JobAsked B z) [
    | RunCall call client host start body ↦ more call client None body
    | TakeSnapshot ↦ λ k. tt
  ]

  agent-more : (h : ℕ) (a : AgentState) → AgentAsks D A h a → AgentAsks D B h a
  agent-more h a k = record {
    pending = all-mono (PendingAsked A) (PendingAsked B) (λ p. more p.call p.client p.part p.body) a.pending k.pending;
    queue = all-mono (QueuedAsked A) (QueuedAsked B) (λ q. elim q as (λ q. QueuedAsked A q → QueuedAsked B q) [
      | ToRun job ↦ job-more job
      | Admission start host term ↦ λ k. tt
    ]) a.initiating.queue k.queue;
    work = some-mono (WorkAsked A) (WorkAsked B) (λ w. job-more w.job) a.initiating.work k.work;
    waiting = all-mono (WaitingAsked D A (Agent h)) (WaitingAsked D B (Agent h)) (λ x. letter-more x.from (Agent h) x.letter) a.waiting k.waiting;
  }

  site-more : (i : ℕ) (s : SiteState) → SiteAsks D A i s → SiteAsks D B i s
  site-more i s k = record {
    calls = all-mono (CallAsked A (part_of_slot D i)) (CallAsked B (part_of_slot D i)) (λ c. more c.call c.client (Some (part_of_slot D i)) c.body) s.calls k.calls;
    held = all-mono (λ d. RepliedBy A (part_of_slot D i) d.letter) (λ d. RepliedBy B (part_of_slot D i) d.letter) (λ d. replied-more (part_of_slot D i) d.letter) s.held k.held;
    waiting = all-mono (WaitingAsked D A (Site i)) (WaitingAsked D B (Site i)) (λ x. letter-more x.from (Site i) x.letter) s.waiting k.waiting;
  }

-- ---- events

module _ (E : Database) (I : Input) (now : ℕ) (w : World) (d : HasSubmissions I now w) where
  abbrev A : Submissions
  A = d.submissions

  abbrev D : Deployment
  D = w.deployment

  -- what holds after an event that leads to this world, and that what was submitted stays
  abbrev Then : World → Type 0
  Then v = (n : HasSubmissions I (now + 1) v) × Grows A n.submissions

  abbrev Under : Actor → Actor → Letter → Type 0
  Under a b l = AskedIn D A a b l

  -- what was submitted before
  before : (call : ℕ) (s : Submission) → A call ≡ Some s → SubmissionOk I (now + 1) w.clients call s
  before call s e = let k = d.each call s e in record { asked = k.asked; past = let p = k.past in omega (arith, p); submitted = k.submitted }

  none-sent : (out : Actor → List Letter) (x : Actor) → ((b : Actor) (l : Letter) → AskedIn D A x b l) → (b : Actor) → AllByRecursion (AskedIn D A x b) (out b)
  none-sent out x f b = all-from (AskedIn D A x b) (out b) (λ l i. f b l)

  taken : (from to a b : Actor) → AllByRecursion (Under a b) (took w.channel from to a b)
  taken from to a b = took-all (Under a b) w.channel from to a b (d.channels a b)

  -- with these channels
  only-channels : (v : World) → v.deployment ≡ D → v.clients ≡ w.clients → v.agents ≡ w.agents → v.sites ≡ w.sites
      → ((a b : Actor) → AllByRecursion (AskedIn D A a b) (v.channel a b)) → Then v
  only-channels v e clients agents sites ch = (
    record {
      submissions = A;
      deployment = e ∙ d.deployment;
      each = subst (λ c. (call : ℕ) (s : Submission) → A call ≡ Some s → SubmissionOk I (now + 1) c call s) (sym clients) before;
      clients = subst (λ (c : ℕ → ClientState). (n : ℕ) → ClientAsks I A n (c n)) (sym clients) d.clients;
      channels = subst (λ x. (a b : Actor) → AllByRecursion (AskedIn x A a b) (v.channel a b)) (sym e) ch;
      agents = subst (λ x. (h : ℕ) → AgentAsks x A h (v.agents h)) (sym e) (subst (λ (f : ℕ → AgentState). (h : ℕ) → AgentAsks D A h (f h)) (sym agents) d.agents);
      sites = subst (λ x. (i : ℕ) → SiteAsks x A i (v.sites i)) (sym e) (subst (λ (f : ℕ → SiteState). (i : ℕ) → SiteAsks D A i (f i)) (sym sites) d.sites);
    },
    λ call s e. e,
  )

  same-asks : Then w
  same-asks = only-channels w refl refl refl refl d.channels

  to_director : (from : Actor) (ls : List Letter) (o : Environment) → Then (delivered E w Director from ls o)
  to_director from [] o = same-asks
  to_director from (l ∷ ls) o = only-channels _ refl refl refl refl (sent-all Under (took w.channel from Director) Director no_sends (taken from Director) (λ b. tt))

  to_scanner : (i : ℕ) (from : Actor) (ls : List Letter) (o : Environment) → Then (delivered E w (Scanner i) from ls o)
  to_scanner i from [] o = same-asks
  to_scanner i from (l ∷ ls) o = only-channels _ refl refl refl refl (sent-all Under (took w.channel from (Scanner i)) (Scanner i) _ (taken from (Scanner i)) (none-sent _ (Scanner i) (λ b l. tt)))

  scans : (i : ℕ) (o : Environment) → Then (happens E w (event.Scan i) o)
  scans i o = only-channels _ refl refl refl refl (sent-all Under w.channel (Scanner i) _ d.channels (none-sent _ (Scanner i) (λ b l. tt)))

  items : (o : Environment) → Then (happens E w event.Item o)
  items o = only-channels _ refl refl refl refl (sent-all Under w.channel Director _ d.channels (none-sent _ Director (λ b l. tt)))

  -- a client that takes a message has submitted what it had
  to_client : (n : ℕ) (from : Actor) (ls : List Letter) (o : Environment) → w.channel from (Client n) ≡ ls → Then (delivered E w (Client n) from ls o)
  to_client n from [] o is = same-asks
  to_client n from (l ∷ ls) o is =
      let t = client_takes D (stamp_of w) n (w.clients n) from l in
      let k = takes-goes I D A n (stamp_of w) (w.clients n) from l (d.clients n) in (
        record {
          submissions = A;
          deployment = d.deployment;
          each = λ call s e. let b = before call s e in record {
            asked = b.asked;
            past = b.past;
            submitted = set-both (λ m c. In call (submitted_by (w.clients m)) → In call (submitted_by c)) w.clients n t.state (λ i. subst (In call) (sym k.same) i) (λ m x i. i) s.client b.submitted;
          };
          clients = set-both (λ m c. ClientAsks I A m c) w.clients n t.state k.state (λ m x. d.clients m);
          channels = sent-all Under (took w.channel from (Client n)) (Client n) t.sends (taken from (Client n)) k.sends;
          agents = d.agents;
          sites = d.sites;
        },
        λ call s e. e,
      )

  -- the first message of a channel
  first-under : (from to : Actor) (l : Letter) (ls : List Letter) → w.channel from to ≡ l ∷ ls → Under from to l
  first-under from to l ls is = (subst (AllByRecursion (Under from to)) is (d.channels from to)).0

  to_agent : (n : ℕ) (from : Actor) (ls : List Letter) (o : Environment) → w.channel from (Agent n) ≡ ls → Then (delivered E w (Agent n) from ls o)
  to_agent n from [] o is = same-asks
  to_agent n from (l ∷ ls) o is =
      let t = agent_turn E D n (stamp_of w) (w.agents n) from l o in
      let k = agent-asks E D A n (stamp_of w) (w.agents n) from l o (d.agents n) (first-under from (Agent n) l ls is) in (
        record {
          submissions = A;
          deployment = d.deployment;
          each = before;
          clients = d.clients;
          channels = sent-all Under (took w.channel from (Agent n)) (Agent n) t.sends (taken from (Agent n)) k.sends;
          agents = set-both (λ h a. AgentAsks D A h a) w.agents n t.state k.state (λ h x. d.agents h);
          sites = d.sites;
        },
        λ call s e. e,
      )

  -- to agents it replies so, and to others it says nothing of calls
  site-sends : (i : ℕ) (out : Sends) → ((h : ℕ) → AllByRecursion (RepliedBy A (part_of_slot D i)) (out (Agent h))) → (b : Actor) → AllByRecursion (Under (Site i) b) (out b)
  site-sends i out k (Agent h) = k h
  site-sends i out k Director = all-from (Under (Site i) Director) (out Director) (λ l j. tt)
  site-sends i out k (Client n) = all-from (Under (Site i) (Client n)) (out (Client n)) (λ l j. tt)
  site-sends i out k (Site s) = all-from (Under (Site i) (Site s)) (out (Site s)) (λ l j. tt)
  site-sends i out k (Scanner x) = all-from (Under (Site i) (Scanner x)) (out (Scanner x)) (λ l j. tt)

  to_site : (i : ℕ) (from : Actor) (ls : List Letter) (o : Environment) → w.channel from (Site i) ≡ ls → Then (delivered E w (Site i) from ls o)
  to_site i from [] o is = same-asks
  to_site i from (l ∷ ls) o is =
      let t = site_turn E D (stamp_of w) i (w.sites i) from l o in
      let k = site-asks E D A i (stamp_of w) (w.sites i) from l o (d.sites i) (first-under from (Site i) l ls is) in (
        record {
          submissions = A;
          deployment = d.deployment;
          each = before;
          clients = d.clients;
          channels = sent-all Under (took w.channel from (Site i)) (Site i) t.sends (taken from (Site i)) (site-sends i t.sends k.sends);
          agents = d.agents;
          sites = set-both (λ c s. SiteAsks D A c s) w.sites i t.state k.state (λ c x. d.sites c);
        },
        λ call s e. e,
      )

  syncs : (i : ℕ) (o : Environment) → Then (happens E w (event.Sync i) o)
  syncs i o =
      let t = sync_turn E D i (w.sites i) o in
      let k = sync-asks E D A i (w.sites i) o (d.sites i) in (
        record {
          submissions = A;
          deployment = d.deployment;
          each = before;
          clients = d.clients;
          channels = sent-all Under w.channel (Site i) t.sends d.channels (site-sends i t.sends k.sends);
          agents = d.agents;
          sites = set-both (λ c s. SiteAsks D A c s) w.sites i t.state k.state (λ c x. d.sites c);
        },
        λ call s e. e,
      )

  -- ---- recoveries

  anew-channels : (start : ℕ) (a b : Actor) → AllByRecursion (Under a b) (new_channels D start w.channel a b)
  anew-channels start a b = all-if (Under a b) (is_of_host a && is_of_host b) [] _ tt (all-append (Under a b) (w.channel a b) (opens D start a b) (d.channels a b) (opened a b))
    where
      opened : (a b : Actor) → AllByRecursion (Under a b) (opens D start a b)
      opened (Agent h) (Client n) = all-if (Under (Agent h) (Client n)) (is_host D h && is_client D n) _ [] (tt, tt) tt
      opened (Agent h) Director = tt
      opened (Agent h) (Agent g) = tt
      opened (Agent h) (Site s) = tt
      opened (Agent h) (Scanner x) = tt
      opened Director b = tt
      opened (Client n) b = tt
      opened (Site s) b = tt
      opened (Scanner x) b = tt

  anew : (shown : List ℕ) → Then (starts_anew E w shown)
  anew shown = (
    record {
      submissions = A;
      deployment = d.deployment;
      each = before;
      clients = d.clients;
      channels = anew-channels w.director.next_start;
      agents = λ h. cond_both (is_host D h) _ _ (AgentAsks D A h) (λ _. begun h h) (λ _. d.agents h);
      sites = λ i. cond_both (nat_lt i (slots D)) _ _ (SiteAsks D A i) (λ _. record { calls = tt; held = tt; waiting = tt }) (λ _. d.sites i);
    },
    λ call s e. e,
  )
    where
      logs : ℕ → List Entry
      logs = new_log E w shown

      begun : (h k : ℕ) → AgentAsks D A h (member_agent (new_word D (new_base w shown) w.director.next_start) (greatest_done E logs (parts D) + 1) (greatest_replies E logs (parts D)) w.director.next_start k)
      begun h zero = record { pending = tt; queue = tt; work = tt; waiting = tt }
      begun h (suc k) = record { pending = tt; queue = tt; work = tt; waiting = tt }

  recovers : (o : Environment) → Then (recovered_with E w o)
  recovers NoFault = same-asks
  recovers (DiskFails answered) = same-asks
  recovers (NoMemory answered) = same-asks
  recovers (DisksShow shown None) = anew shown
  recovers (DisksShow shown (Some failed)) = (
    record {
      submissions = A;
      deployment = d.deployment;
      each = before;
      clients = d.clients;
      channels = d.channels;
      agents = d.agents;
      sites = λ i. let k = d.sites i in record { calls = k.calls; held = k.held; waiting = k.waiting };
    },
    λ call s e. e,
  )

  -- ---- Submit

  -- the numbers of a client's calls, in their order
  rising : (n : ℕ) → RiseFrom 1 (submitted_by (w.clients n) ++ map (λ x. x.call) (w.clients n).left)
  rising n = subst (RiseFrom 1) (sym (d.clients n).order) (due-rises n 1 I.calls)

  submit : (n : ℕ) (x : Due) (left : List Due) → (w.clients n).left ≡ x ∷ left → (w.clients n).pending ≡ None → (o : Option ℕ)
      → Then (with_client w n (submit_to (now + 1) (w.clients n) x left o))
  submit n x left is none None = (
    record {
      submissions = A;
      deployment = d.deployment;
      each = λ call s e. let b = before call s e in record {
        asked = b.asked;
        past = b.past;
        submitted = set-both (λ m c. In call (submitted_by (w.clients m)) → In call (submitted_by c)) w.clients n (w.clients n) (λ i. i) (λ m k i. i) s.client b.submitted;
      };
      clients = set-both (λ m c. ClientAsks I A m c) w.clients n (w.clients n) (d.clients n) (λ m k. d.clients m);
      channels = sent-all Under w.channel (Client n) no_sends d.channels (λ b. tt);
      agents = d.agents;
      sites = d.sites;
    },
    λ call s e. e,
  )
  submit n x left is none (Some h) = (
    record {
      submissions = B;
      deployment = d.deployment;
      each = λ call s e. each call s e;
      clients = set-both (λ m c. ClientAsks I B m c) w.clients n t.state asks (λ m k. client-more I A B more m (w.clients m) (d.clients m));
      channels = sent-all (λ a b. AskedIn D B a b) w.channel (Client n) t.sends (λ a b. all-mono (AskedIn D A a b) (AskedIn D B a b) (letter-more D A B known a b) (w.channel a b) (d.channels a b)) sends;
      agents = λ m. agent-more D A B known m (w.agents m) (d.agents m);
      sites = λ i. site-more D A B known i (w.sites i) (d.sites i);
    },
    more,
  )
    where
      c : ClientState
      c = w.clients n

      t : Turn ClientState
      t = submit_to (now + 1) c x left (Some h)

      new : Submission
      new = record { client = n; part = x.part; body = x.body; at = now + 1 }

      B : Submissions
      B = with_submission A x.call new

      is_due : In x (due n 1 I.calls)
      is_due = (subst (AllByRecursion (λ y. In y (due n 1 I.calls))) is (d.clients n).left).0

      -- it wasn't submitted before
      fresh : In x.call (submitted_by c) → ⊥
      fresh i =
          let l = rises-past 1 (submitted_by c) (map (λ y. y.call) c.left) x.call x.call (rising n) i (subst (λ ys. In x.call (map (λ y. y.call) ys)) (sym is) (inl refl)) in
          omega (arith, l)

      unknown : (s : Submission) → A x.call ≡ Some s → ⊥
      unknown s e =
          let k = d.each x.call s e in
          let whose : s.client ≡ n = ap (λ a. a.client) (same-some (sym k.asked ∙ due-numbered n 1 I.calls x is_due)) in
          fresh (subst (λ m. In x.call (submitted_by (w.clients m))) whose k.submitted)

      more : (call : ℕ) (s : Submission) → A call ≡ Some s → B call ≡ Some s
      more call s e = cond_both (call == x.call) _ _ (λ z. z ≡ Some s)
          (λ q. absurd (unknown s (subst (λ m. A m ≡ Some s) (eqb-true call x.call q) e))) (λ q. e)

      known : (call client : ℕ) (part : Option ℕ) (body : List ℕ) → IsAsked A call client part body → IsAsked B call client part body
      known = asked-more I A B more

      here : B x.call ≡ Some new
      here = submission-here A x.call new

      -- what it has submitted by now
      calls : submitted_by t.state ≡ map (λ e. e.call) c.ended ++ x.call ∷ []
      calls = refl

      before-none : submitted_by c ≡ map (λ e. e.call) c.ended
      before-none = ap (λ o. map (λ e. e.call) c.ended ++ pending_call o) none ∙ append-nil (map (λ e. e.call) c.ended)

      asks : ClientAsks I B n t.state
      asks =
          let k = client-more I A B more n c (d.clients n) in
          record {
            order = append_assoc (map (λ e. e.call) c.ended) (x.call ∷ []) (map (λ y. y.call) left)
                ∙ ap (λ ys. ys ++ x.call ∷ map (λ y. y.call) left) (sym before-none)
                ∙ ap (λ ys. submitted_by c ++ map (λ y. y.call) ys) (sym is) ∙ (d.clients n).order;
            left = (subst (AllByRecursion (λ y. In y (due n 1 I.calls))) is (d.clients n).left).1;
            pending = here;
            ended = k.ended;
          }

      sends : (b : Actor) → AllByRecursion (AskedIn D B (Client n) b) (t.sends b)
      sends Director = (tt, tt)
      sends (Agent g) = all-if (AskedIn D B (Client n) (Agent g)) (h == g) _ [] (record { at = now + 1; is = here }, tt) tt
      sends (Client m) = tt
      sends (Site s) = tt
      sends (Scanner s) = tt

      grown : (call : ℕ) (m : ℕ) → In call (submitted_by (w.clients m)) → In call (submitted_by (set_at w.clients n t.state m))
      grown call m = set-both (λ m z. In call (submitted_by (w.clients m)) → In call (submitted_by z)) w.clients n t.state
          (λ i. in-left call (map (λ e. e.call) c.ended) (x.call ∷ []) (subst (In call) before-none i)) (λ m k i. i) m

      last : In x.call (submitted_by (set_at w.clients n t.state n))
      last = subst (λ z. In x.call (submitted_by z)) (sym (set-here w.clients n t.state)) (in-right x.call (map (λ e. e.call) c.ended) (x.call ∷ []) (inl refl))

      each : (call : ℕ) (s : Submission) → B call ≡ Some s → SubmissionOk I (now + 1) (set_at w.clients n t.state) call s
      each call s = cond_both (call == x.call) _ _ (λ z. z ≡ Some s → SubmissionOk I (now + 1) (set_at w.clients n t.state) call s)
          (λ q e. subst (λ y. SubmissionOk I (now + 1) (set_at w.clients n t.state) call y) (same-some e)
          (subst (λ m. SubmissionOk I (now + 1) (set_at w.clients n t.state) m new) (sym (eqb-true call x.call q))
          (record { asked = due-numbered n 1 I.calls x is_due; past = omega arith; submitted = last })))
          (λ q e. let b = before call s e in record { asked = b.asked; past = b.past; submitted = grown call s.client b.submitted })

-- a client that may submit has a call left, and none that is pending
may-parts : (D : Deployment) (c : ClientState) (left : List Due) (pending : Option Submitted) → may_submit D c left pending ≡ true
    → (pending ≡ None) × ((x : Due) × (more : List Due) × (left ≡ x ∷ more))
may-parts D c (x ∷ more) None e = (refl, (x, more, refl))
may-parts D c [] None e = absurd (true≢false (sym e))
may-parts D c [] (Some p) e = absurd (true≢false (sym e))
may-parts D c (x ∷ more) (Some p) e = absurd (true≢false (sym e))

submits-asks : (E : Database) (I : Input) (w : World) → (d : HasSubmissions I (length w.trace) w) → (n : ℕ) (o : Environment) → may_submit_in w n ≡ true
    → Then E I (length w.trace) w d (happens E w (event.Submit n) o)
submits-asks E I w d n o may =
    let c = w.clients n in
    let p = may-parts w.deployment c c.left c.pending may in
    subst (λ ys. Then E I (length w.trace) w d (with_client w n (submits w.deployment (stamp_of w) c ys))) (sym p.1.2)
    (submit E I (length w.trace) w d n p.1.0 p.1.1 p.1.2 p.0 (target w.deployment c))

happens-asks : (E : Database) (I : Input) (w : World) (e : Event) (o : Environment) → (d : HasSubmissions I (length w.trace) w) → can w e ≡ true → Then E I (length w.trace) w d (happens E w e o)
happens-asks E I w (event.Deliver Director from) o d may = to_director E I (length w.trace) w d from (w.channel from Director) o
happens-asks E I w (event.Deliver (Client n) from) o d may = to_client E I (length w.trace) w d n from (w.channel from (Client n)) o refl
happens-asks E I w (event.Deliver (Agent n) from) o d may = to_agent E I (length w.trace) w d n from (w.channel from (Agent n)) o refl
happens-asks E I w (event.Deliver (Site i) from) o d may = to_site E I (length w.trace) w d i from (w.channel from (Site i)) o refl
happens-asks E I w (event.Deliver (Scanner i) from) o d may = to_scanner E I (length w.trace) w d i from (w.channel from (Scanner i)) o
happens-asks E I w (event.Sync i) o d may = syncs E I (length w.trace) w d i o
happens-asks E I w (event.Scan i) o d may = scans E I (length w.trace) w d i o
happens-asks E I w event.Recover o d may = recovers E I (length w.trace) w d o
happens-asks E I w event.Item o d may = items E I (length w.trace) w d o
happens-asks E I w (event.Submit n) o d may = submits-asks E I w d n o (and_parts (is_client w.deployment n) (may_submit_in w n) may).1
happens-asks E I w (event.Idle a) o d may = same-asks E I (length w.trace) w d

-- the event is noted in the trace
noted : (I : Input) (A : Submissions) (now : ℕ) (w : World) (trace : List Event) → (n : HasSubmissions I now w) × Grows A n.submissions
    → (n : HasSubmissions I now (record w { trace = trace })) × Grows A n.submissions
noted I A now w trace (d, more) = (record { submissions = d.submissions; deployment = d.deployment; each = d.each; clients = d.clients; channels = d.channels; agents = d.agents; sites = d.sites }, more)

-- it isn't noted before
delivered-trace : (E : Database) (w : World) (to from : Actor) (ls : List Letter) (o : Environment) → (delivered E w to from ls o).trace ≡ w.trace
delivered-trace E w to from [] o = refl
delivered-trace E w Director from (l ∷ ls) o = refl
delivered-trace E w to from (l ∷ ls) o = refl

recovered-trace : (E : Database) (w : World) (o : Environment) → (recovered_with E w o).trace ≡ w.trace
recovered-trace E w (DisksShow shown None) = refl
recovered-trace E w o = refl

happens-trace : (E : Database) (w : World) (e : Event) (o : Environment) → (happens E w e o).trace ≡ w.trace
happens-trace E w (event.Deliver to from) o = delivered-trace E w to from (w.channel from to) o
happens-trace E w event.Recover o = recovered-trace E w o
happens-trace E w e o = refl

-- What was submitted before an event, was so after it.
pub step-asks : (E : Database) (I : Input) (w : World) (e : Happening) → may_happen w e ≡ true → (d : HasSubmissions I (length w.trace) w)
    → (n : HasSubmissions I (length (step E w e).trace) (step E w e)) × Grows d.submissions n.submissions
step-asks E I w e may d =
    let outer = and_parts (not (has_failed w) && can w e.0) (allows w e.0 e.1) may in
    let inner = and_parts (not (has_failed w)) (can w e.0) outer.0 in
    let v = happens E w e.0 e.1 in
    let same : length w.trace + 1 ≡ length (v.trace ++ e.0 ∷ []) = sym (length-append v.trace (e.0 ∷ []) ∙ ap (λ t. length t + 1) (happens-trace E w e.0 e.1)) in
    subst (λ n. (x : HasSubmissions I n (step E w e)) × Grows d.submissions x.submissions) same
    (noted I d.submissions (length w.trace + 1) v (v.trace ++ e.0 ∷ []) (happens-asks E I w e.0 e.1 d inner.1))

-- ---- reached worlds

abbrev nothing_submitted : Submissions
nothing_submitted call = None

pub first-asks : (E : Database) (I : Input) → HasSubmissions I 0 (first_world E I)
first-asks E I = record {
  submissions = nothing_submitted;
  deployment = refl;
  each = λ call s e. absurd (none-and-some refl e);
  clients = λ n. record { order = refl; left = all-from (λ x. In x (due n 1 I.calls)) (due n 1 I.calls) (λ x i. i); pending = tt; ended = tt };
  channels = λ a b. tt;
  agents = λ h. cond_both (is_host D h) _ _ (AgentAsks D nothing_submitted h) (λ _. begun h h) (λ _. record { pending = tt; queue = tt; work = tt; waiting = tt });
  sites = λ i. cond_both (nat_lt i (slots D)) _ _ (SiteAsks D nothing_submitted i) (λ _. record { calls = tt; held = tt; waiting = tt }) (λ _. record { calls = tt; held = tt; waiting = tt });
}
  where
    D : Deployment
    D = I.deployment

    begun : (h k : ℕ) → AgentAsks D nothing_submitted h (member_agent (new_word D I.base 1) (greatest_done E (λ p. []) (parts D) + 1) [] 1 k)
    begun h zero = record { pending = tt; queue = tt; work = tt; waiting = tt }
    begun h (suc k) = record { pending = tt; queue = tt; work = tt; waiting = tt }

-- All holds in each world that is reached.
pub submissions-agree : (E : Database) (I : Input) (w : World) → Reached E I w → HasSubmissions I (length w.trace) w
submissions-agree E I w r = reached-kept E (λ v. HasSubmissions I (length v.trace) v) (λ v e may d. (step-asks E I v e may d).0) I w (λ _. first-asks E I) r
