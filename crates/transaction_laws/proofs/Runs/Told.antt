-- In each world of a run what agents tell of calls is so: the entries stand among those that are firm.
use Rattle.volt_base.specs.declared.entry.Outcome.TheVariants as outcome
use Rattle.volt_wire.specs.declared.end.End.TheVariants as end
use Rattle.volt_wire.specs.declared.event.Event.TheVariants as event
use Rattle.volt_wire.specs.declared.message.Msg.TheVariants as msg
use Rattle.cluster_model.proofs.Runs.{reached-on, runs-to}
use Rattle.cluster_model.specs.Recover.{opens}
use Rattle.cluster_model.specs.Words.{is_client}
use Rattle.disk_laws.proofs.Worlds.{HasDisks, step-goes}
use Rattle.disk_laws.specs.Survival.{firm_entries}
use Rattle.reply_laws.proofs.Answers.{stands-on}
use Rattle.reply_laws.proofs.Worlds.{AnswerIn, HasAnswers, answers-agree, firm-grows}
use Rattle.reply_laws.specs.Answers.{IsAnsweredCall}
use Rattle.call_laws.specs.Submissions.{Grows, IsAsked, RepliedBy, Submission, Submissions}
use Rattle.transaction_laws.specs.Answers.{AnsweredIn, AnsweredOn, AnswerStands, EndsInAll, RunsIn, RunsOn, ToldOf}
use Rattle.transaction_laws.proofs.Names.{Actor, Agent, AgentState, AllByRecursion, AnswersCall, AuthoritativeLog, AuthoritativeOk, Bool, Client, Database, Deployment, Director, DiskFails, DisksShow, Done, End, Entry, Environment, Event, Firm, Happening, In, Input, IsInput, IsSlot, Letter, List, LogState, LogsHold, NoFault, NoMemory, None, Outcome, Prefix, Reached, Replied, Scanner, Site, Some, Stood, Turn, World, [], actor-host, agent_turn, all-append, all-at, all-if, all-mono, allows, and_parts, ap, append_assoc, arith, can, cases_Bool, cases_eq, delivered, end_of_reply, false, firm_in, first_world, greatest_done, greatest_replies, happens, has_failed, if◌then◌else◌, in-left, in-right, inl, inr, is_actor, is_host, is_some_letter, length, length-append, length-take, log_state, may_happen, member_agent, memory-runs, nat_lt, new_agent, new_base, new_log, new_word, not, not-both, open_letter, part_of_slot, parts, prefix-length, prefix-take, prefix-trans, prefixes-order, reached-kept, recovered_with, refl, same, same-some, sent-both, set-both, slots, stamp_of, starts_anew, step, subst, suc, sym, take, took, took-all, true, zero, ℕ, ◌&&◌, ◌++◌, ◌+◌, ◌∙◌, ◌∷◌, ◌≡◌, ◌≤◌, EntryAsked, OutcomeAsked, Option, prefix-refl, Frag, Sp, answer_behind, map, none-and-some}
use Rattle.transaction_laws.proofs.Kept.{Brings, Ending, MayTell, Tells, WaitsTold, everywhere-prefix}
use Rattle.transaction_laws.proofs.Entries.{end-part, in-at, ok-prefix}
use Rattle.transaction_laws.proofs.Initiators.{some-part, slot-part}
use Rattle.transaction_laws.proofs.Agents.AgentEvents.{agent-calls}
use Rattle.transaction_laws.proofs.Runs.Leads.{leads-calls}
use Rattle.transaction_laws.proofs.Runs.Worlds.{AllCalls, Facts, asked-facts, calls-agree, first-asked, step-grows}

-- ---- what is firm in a term is so in its partition

-- An entry that stands firm in the log of a leader is among the first ones of the authoritative log.
stood-firm : (S : LogState) (F : Firm) → LogsHold S → (p t : ℕ) (e : Entry) → Stood S F p t e → (l : AuthoritativeLog) → AuthoritativeOk S.logs p l → F p ≡ l.firm → In e (take l.firm l.log)
stood-firm S F H p t e k l a same =
    let (more, is) = within in subst (In e) (sym is) (in-left e xs more (in-right e k.stands.prefix (e ∷ []) (inl refl)))
  where
    xs : List Entry
    xs = k.stands.prefix ++ e ∷ []

    long : length xs ≡ k.position
    long = length-append k.stands.prefix (e ∷ []) ∙ k.stands.at

    -- its term isn't after that of the authoritative log
    low : t ≤ l.term
    low = a.greatest t k.leadership k.led

    stands : Prefix xs l.log
    stands = subst (Prefix xs) (sym a.log) (elim (cases_eq l.term t) [
      | inl e ↦ subst (λ g. Prefix xs g.log) (same-some (sym k.led ∙ ap (S.logs.leadership p) (sym e) ∙ a.led)) k.stands.stands
      | inr n ↦ prefix-trans xs a.leadership.begun a.leadership.log
          (everywhere-prefix S F H p t l.term k.leadership a.leadership xs k.led a.led (omega (arith, low, n)) k.stands.stands
          (record { reach = let r = k.everywhere.reach in omega (arith, r, long); firm = let f = k.everywhere.firm in omega (arith, f, long) }))
          (H.leaderships p l.term a.leadership a.led).grown
    ])

    within : Prefix xs (take l.firm l.log)
    within =
        let n = prefix-length xs l.log stands in
        let m = length-take l.firm l.log in
        let f = k.everywhere.firm in
        prefixes-order xs (take l.firm l.log) l.log stands (prefix-take l.firm l.log) (omega (arith, n, m, long, f, same))

-- ---- answers

-- Where an end stands that answers the call, the call is answered so.
end-answers : (E : Database) (logs : ℕ → List Entry) (p m : ℕ) (o : Outcome) (call : ℕ) (e : End) → AnswersCall o call e → In (Done m o) (logs p) → AnsweredIn E logs p call e
end-answers E logs p m o call e k i =
    let (before, behind, is) = in-at (Done m o) (logs p) i in
    record { prefix = before; entry = Done m o; stands = (behind, is ∙ sym (append_assoc before (Done m o ∷ []) behind)); claim = claim o k before }
  where
    claim : (o : Outcome) → AnswersCall o call e → (before : List Entry) → IsAnsweredCall E p call e before (Done m o)
    claim (outcome.Kept n client point reply) k before = record { point = point; is = ap (λ c. record { call = c; point = point } ∷ []) k.0; answers = k.1 }
    claim (outcome.Aborted n client point reply) k before = record { point = point; is = ap (λ c. record { call = c; point = point } ∷ []) k.0; answers = k.1 }
    claim outcome.Dropped k before = absurd k
    claim outcome.Snapshot k before = absurd k

pub all-answered : (E : Database) (D : Deployment) (logs : ℕ → List Entry) (call : ℕ) (e : End) → EndsInAll D logs call e → (p : ℕ) → nat_lt p (parts D) ≡ true → AnsweredIn E logs p call e
all-answered E D logs call e k p part = end-answers E logs p k.number k.outcome call e k.answers (k.stands p part)

-- No reply says that a call is lost.
never-lost : (reply : List ℕ) → end.Lost ≡ end_of_reply reply → ⊥
never-lost [] q = absurd (cc)
never-lost (zero ∷ bytes) q = absurd (cc)
never-lost (suc n ∷ bytes) q = absurd (cc)

-- an end of a call that is a reply
abbrev IsReply : End → Type 0
IsReply e = (reply : List ℕ) × (e ≡ end_of_reply reply)

answered-reply : (o : Outcome) (call : ℕ) (e : End) → AnswersCall o call e → IsReply e
answered-reply (outcome.Kept n client point reply) call e k = (reply, k.1)
answered-reply (outcome.Aborted n client point reply) call e k = (reply, k.1)
answered-reply outcome.Dropped call e k = absurd k
answered-reply outcome.Snapshot call e k = absurd k

answered-stands : (E : Database) (D : Deployment) (A : Submissions) (logs : ℕ → List Entry) (call : ℕ) (e : End) → IsReply e → (s : Submission) → A call ≡ Some s → AnsweredOn E D logs call e s.part
    → AnswerStands E D A logs call e
answered-stands E D A logs call (end.Ok bytes) reply s is k = (s, is, k)
answered-stands E D A logs call (end.Abort bytes) reply s is k = (s, is, k)
answered-stands E D A logs call (end.Down at) reply s is k = tt
answered-stands E D A logs call end.Lost reply s is k = never-lost reply.0 reply.1

-- ---- what a client is told

one-same : {X : Type 0} {x y : X} → x ∷ [] ≡ y ∷ [] → x ≡ y
one-same q = cc

-- The entry by which a call on one partition is answered is that of the call, with its client and body.
module _ (E : Database) (A : Submissions) (p : ℕ) (log : List Entry) (ok : AllByRecursion (EntryAsked A p) log) (call n : ℕ) (body : List ℕ) (asked : IsAsked A call n (Some p) body) (e : End) where
  entry-runs : (before : List Entry) (x : Entry) → Prefix (before ++ x ∷ []) log → EntryAsked A p x → IsAnsweredCall E p call e before x → RunsIn E p log n call body e
  entry-runs before (Sp c client point b) stands was k = again (sym (ap (λ s. s.client) same)) (sym (ap (λ s. s.body) same))
    where
      call-is : c ≡ call
      call-is = ap (λ a. a.call) (one-same k.is)

      mine : Submission
      mine = record { client = n; part = Some p; body = body; at = asked.at }

      its : Submission
      its = record { client = client; part = Some p; body = b; at = was.at }

      same : mine ≡ its
      same = same-some (sym asked.is ∙ ap A (sym call-is) ∙ was.is)

      again : client ≡ n → b ≡ body → RunsIn E p log n call body e
      again f g = record {
        before = before;
        point = point;
        stands = subst (λ x. Prefix (before ++ x ∷ []) log) is stands;
        answers = subst (λ x. e ≡ end_of_reply (answer_behind E p before x)) is k.answers;
      }
        where
          is : Sp c client point b ≡ Sp call n point body
          is = λ i. Sp (call-is i) (f i) point (g i)
  entry-runs before (Frag m round b) stands was k = absurd (none-left k.is)
    where
      none-left : {X : Type 0} {x : X} → [] ≡ x ∷ [] → ⊥
      none-left q = absurd (cc)
  entry-runs before (Done m o) stands was k =
      let r = end-part A p call (Done m o) was (λ c. c) (subst (In call) (sym (ap (map (λ a. a.call)) k.is)) (inl refl)) in
      absurd (none-and-some r.2 (ap (λ s. s.part) (same-some (sym r.1 ∙ asked.is))))

  call-runs : AnsweredIn E (λ q. log) p call e → RunsIn E p log n call body e
  call-runs k = let (more, is) = k.stands in
      entry-runs k.prefix k.entry k.stands (all-at (EntryAsked A p) log ok k.entry (subst (In k.entry) (sym is) (in-left k.entry (k.prefix ++ k.entry ∷ []) more (in-right k.entry k.prefix (k.entry ∷ []) (inl refl))))) k.claim

-- All of it, of logs with calls as they were submitted.
pub answer-told : (E : Database) (D : Deployment) (A : Submissions) (logs : ℕ → List Entry) → ((p : ℕ) → nat_lt p (parts D) ≡ true → AllByRecursion (EntryAsked A p) (logs p)) → (call : ℕ) (e : End)
    → AnswerStands E D A logs call e → (n : ℕ) (part : Option ℕ) (body : List ℕ) → IsAsked A call n part body → ToldOf E D logs n call body e part
answer-told E D A logs ok call e k n part body asked = elim e as (λ e. AnswerStands E D A logs call e → ToldOf E D logs n call body e part) [
  | end.Ok bytes ↦ λ (s, is, k). runs (end.Ok bytes) s is k
  | end.Abort bytes ↦ λ (s, is, k). runs (end.Abort bytes) s is k
  | end.Down at ↦ λ k. tt
  | end.Lost ↦ λ k. k
] k
  where
    on : (e : End) (part : Option ℕ) → IsAsked A call n part body → AnsweredOn E D logs call e part → RunsOn E D logs n call body e part
    on e (Some p) asked (there, k) = (there, call-runs E A p (logs p) (ok p there) call n body asked e k)
    on e None asked k = k

    runs : (e : End) (s : Submission) → A call ≡ Some s → AnsweredOn E D logs call e s.part → RunsOn E D logs n call body e part
    runs e s is k = on e part asked (subst (AnsweredOn E D logs call e) (ap (λ z. z.part) (same-some (sym is ∙ asked.is))) k)

-- ---- logs that have grown, and more submissions

module _ (E : Database) (D : Deployment) (A B : Submissions) (more : Grows A B) (F G : ℕ → List Entry) (grown : (p : ℕ) → Prefix (F p) (G p)) where
  ends-on : (call : ℕ) (e : End) → EndsInAll D F call e → EndsInAll D G call e
  ends-on call e k = record {
    number = k.number;
    outcome = k.outcome;
    answers = k.answers;
    stands = λ p part. let (more, is) = grown p in subst (In (Done k.number k.outcome)) (sym is) (in-left (Done k.number k.outcome) (F p) more (k.stands p part));
  }

  answered-on : (call : ℕ) (e : End) (part : Option ℕ) → AnsweredOn E D F call e part → AnsweredOn E D G call e part
  answered-on call e (Some p) (part, k) = (part, stands-on (IsAnsweredCall E p call e) (F p) (G p) (grown p) k)
  answered-on call e None k = ends-on call e k

  answer-on : (call : ℕ) (e : End) → AnswerStands E D A F call e → AnswerStands E D B G call e
  answer-on call (end.Ok bytes) (s, is, k) = (s, more call s is, answered-on call (end.Ok bytes) s.part k)
  answer-on call (end.Abort bytes) (s, is, k) = (s, more call s is, answered-on call (end.Abort bytes) s.part k)
  answer-on call (end.Down at) k = k
  answer-on call end.Lost k = k

  tells-on : (l : Letter) → Tells (EndsInAll D F) (AnswerStands E D A F) l → Tells (EndsInAll D G) (AnswerStands E D B G) l
  tells-on l k = elim l.body as (λ m. Tells (EndsInAll D F) (AnswerStands E D A F) (record l { body = m }) → Tells (EndsInAll D G) (AnswerStands E D B G) (record l { body = m })) [
    | msg.MpReply call e ↦ λ k. ends-on call e k
    | msg.Answer call e ↦ λ k. answer-on call e k
    | m ↦ λ k. tt
  ] k

  brings-on : (from : Actor) (l : Letter) → Brings (AnswerStands E D A F) from l → Brings (AnswerStands E D B G) from l
  brings-on Director l k = tt
  brings-on (Client c) l k = tt
  brings-on (Scanner x) l k = tt
  brings-on (Agent h) l k = elim l.body as (λ m. Brings (AnswerStands E D A F) (Agent h) (record l { body = m }) → Brings (AnswerStands E D B G) (Agent h) (record l { body = m })) [
    | msg.MpReply call e ↦ λ k. answer-on call e k
    | m ↦ λ k. tt
  ] k
  brings-on (Site c) l k = elim l.body as (λ m. Brings (AnswerStands E D A F) (Site c) (record l { body = m }) → Brings (AnswerStands E D B G) (Site c) (record l { body = m })) [
    | msg.Reply call start e ↦ λ k. answer-on call e k
    | m ↦ λ k. tt
  ] k

-- ---- worlds

-- Of what agents have sent and of what waits for them, with these submissions and firm entries of each partition.
pub record ToldOk (E : Database) (D : Deployment) (A : Submissions) (agents : ℕ → AgentState) (channel : Actor → Actor → List Letter) (firm : ℕ → List Entry) : Type 0 where
  pub sent : (h : ℕ) (b : Actor) → AllByRecursion (Tells (EndsInAll D firm) (AnswerStands E D A firm)) (channel (Agent h) b)
  pub waiting : (h : ℕ) → AllByRecursion (WaitsTold (AnswerStands E D A firm)) (agents h).waiting

abbrev pub HasTold : Database → Submissions → World → Type 0
HasTold E A w = ToldOk E w.deployment A w.agents w.channel (firm_entries w)

-- The same with more submissions and firm entries, where agents stay, and of what they have sent some may be taken.
moves : (E : Database) (D : Deployment) (A B : Submissions) → Grows A B → (agents : ℕ → AgentState) (ch next : Actor → Actor → List Letter) (F G : ℕ → List Entry)
    → ((P : Letter → Type 0) (h : ℕ) (b : Actor) → AllByRecursion P (ch (Agent h) b) → AllByRecursion P (next (Agent h) b)) → ((p : ℕ) → Prefix (F p) (G p))
    → ToldOk E D A agents ch F → ToldOk E D B agents next G
moves E D A B more agents ch next F G less grown k = record {
  sent = λ h b. less (Tells (EndsInAll D G) (AnswerStands E D B G)) h b (all-mono _ _ (tells-on E D A B more F G grown) (ch (Agent h) b) (k.sent h b));
  waiting = λ h. all-mono _ _ (λ x. brings-on E D A B more F G grown x.from x.letter) (agents h).waiting (k.waiting h);
}

-- ---- what an agent may tell

module _ (E : Database) (I : Input) (w : World) (d : AllCalls E I w) where
  abbrev D : Deployment
  D = w.deployment

  -- what was submitted by now
  abbrev A : Submissions
  A = d.asked.submissions

  abbrev S : LogState
  S = log_state w d.calls.logs.owner d.calls.logs.history d.calls.logs.logs

  abbrev firm : ℕ → List Entry
  firm = firm_entries w

  -- What an initiator answers stands among the firm entries of all partitions.
  replied-ends : (call : ℕ) (e : End) → Replied S.logs D (firm_in w) call e → EndsInAll D firm call e
  replied-ends call e k = record {
    number = k.number;
    outcome = k.outcome;
    answers = k.answers;
    stands = λ p part. stood-firm S (firm_in w) d.calls.logs.holds p k.term (Done k.number k.outcome) (k.stands p part) (w.authoritative p) (d.calls.logs.authoritative p) refl;
  }

  -- That is of a call on all.
  outcome-all : (o : Outcome) (call : ℕ) (e : End) → AnswersCall o call e → OutcomeAsked A o → (s : Submission) × (A call ≡ Some s) × (s.part ≡ None)
  outcome-all (outcome.Kept n client point reply) call e k asked =
      let s : Submission = record { client = client; part = None; body = asked.0; at = asked.1.at } in (s, sym (ap A k.0) ∙ asked.1.is, refl)
  outcome-all (outcome.Aborted n client point reply) call e k asked =
      let s : Submission = record { client = client; part = None; body = asked.0; at = asked.1.at } in (s, sym (ap A k.0) ∙ asked.1.is, refl)
  outcome-all outcome.Dropped call e k asked = absurd k
  outcome-all outcome.Snapshot call e k asked = absurd k

  -- The entries that are firm are as their calls were submitted.
  pub firm-asked : (p : ℕ) → nat_lt p (parts D) ≡ true → AllByRecursion (EntryAsked A p) (firm p)
  firm-asked p part =
      let n = d.calls.logs in
      let ok = leads-calls E S (firm_in w) d.calls.transactions (length w.trace) n.holds d.calls.calls.books w.authoritative n.authoritative p part in
      subst (λ B. AllByRecursion (EntryAsked B p) (firm p)) d.calls.submitted
      (ok-prefix d.calls.transactions.submitted p (firm p) (w.authoritative p).log (prefix-take (w.authoritative p).firm (w.authoritative p).log) ok).asked

  ends-told : (call : ℕ) (e : End) → EndsInAll D firm call e → AnswerStands E D A firm call e
  ends-told call e k =
      let p = part_of_slot D 0 in
      let part = some-part S d.calls.laid in
      let asked = all-at (EntryAsked A p) (firm p) (firm-asked p part) (Done k.number k.outcome) (k.stands p part) in
      let (s, at, all) = outcome-all k.outcome call e k.answers asked in
      answered-stands E D A firm call e (answered-reply k.outcome call e k.answers) s at (subst (AnsweredOn E D firm call e) (sym all) k)

  may-tell : MayTell S.logs D (firm_in w) (AnswerStands E D A firm)
  may-tell = record { down = λ call part. tt; replied = λ call e k. ends-told call e (replied-ends call e k) }

  -- ---- the turn of an agent

  abbrev Any : Ending
  Any = AnswerStands E D A firm

  abbrev Says : Letter → Type 0
  Says = Tells (EndsInAll D firm) Any

  -- What comes to it brings only such.
  module _ (told : HasTold E A w) (sites : HasAnswers E w) (n : ℕ) (l : Letter) (ls : List Letter) where
    comes : (from : Actor) → w.channel from (Agent n) ≡ l ∷ ls → Brings Any from l
    comes Director is = tt
    comes (Client c) is = tt
    comes (Scanner x) is = tt
    comes (Agent h) is = (elim l.body as (λ m. Says (record l { body = m }) → Brings Any (Agent h) (record l { body = m })) [
      | msg.MpReply call e ↦ λ k. ends-told call e k
      | m ↦ λ k. tt
    ]) (subst (AllByRecursion Says) is (told.sent h (Agent n))).0
    comes (Site c) is = (elim l.body as (λ m. AnswerIn E p (firm p) (record l { body = m }) → RepliedBy A p (record l { body = m }) → Brings Any (Site c) (record l { body = m })) [
      | msg.Reply call start e ↦ λ k (client, body, asked). let s = k refl in answered-stands E D A firm call e (_, s.claim.answers) _ asked.is (part, s)
      | m ↦ λ k r. tt
    ]) (subst (AllByRecursion (AnswerIn E p (firm p))) is (sites.sent c n)).0 (subst (AllByRecursion (RepliedBy A p)) is (d.asked.channels (Site c) (Agent n))).0
      where
        p : ℕ
        p = part_of_slot D c

        some-left : [] ≡ l ∷ ls → ⊥
        some-left q = absurd (cc)

        slot : IsSlot S c
        slot = elim (cases_Bool (nat_lt c (slots D))) [
          | inl there ↦ there
          | inr out ↦ absurd (some-left (sym (d.calls.calls.environment c n (λ there. not-both (nat_lt c (slots D)) there out)) ∙ is))
        ]

        part : nat_lt p (parts D) ≡ true
        part = slot-part S d.calls.laid c slot

  to_agent-told : HasTold E A w → HasAnswers E w → (n : ℕ) (from : Actor) (ls : List Letter) (o : Environment) → w.channel from (Agent n) ≡ ls → is_host D n ≡ true
      → allows w (event.Deliver (Agent n) from) o ≡ true → HasTold E A (delivered E w (Agent n) from ls o)
  to_agent-told told sites n from [] o is host may = told
  to_agent-told told sites n from (l ∷ ls) o is host may =
      let d = d.calls in
      let f = subst (λ z. Facts z (length w.trace + 1) w) (sym d.submitted) facts in
      let r = agent-calls E S (firm_in w) Any d.halted d.transactions (length w.trace) n from l ls o may-tell (comes told sites n l ls from is) (told.waiting n) d.laid d.logs.holds d.calls is host
      f.past (f.agents n) (first-asked d.transactions.submitted (length w.trace + 1) w f from (Agent n) l ls is)
      (λ answered e. memory-runs w n answered from l ls o is may e) in
      let tells = r.4 in
      let waits = r.5 in
      record {
        sent = λ h b. sent-both (AllByRecursion Says) (took w.channel from (Agent n)) n t.sends h b
            (λ e. all-append Says (took w.channel from (Agent n) (Agent h) b) (t.sends b) (took-all Says w.channel from (Agent n) (Agent h) b (told.sent h b))
            (all-mono (Tells (Replied S.logs D (firm_in w)) Any) Says one (t.sends b) (tells b)))
            (λ other. took-all Says w.channel from (Agent n) (Agent h) b (told.sent h b));
        waiting = set-both (λ h x. AllByRecursion (WaitsTold Any) x.waiting) w.agents n t.state waits (λ g other. told.waiting g);
      }
    where
      t : Turn AgentState
      t = agent_turn E D n (stamp_of w) (w.agents n) from l o

      facts : Facts A (length w.trace + 1) w
      facts = asked-facts I w d.input d.asked

      one : (x : Letter) → Tells (Replied S.logs D (firm_in w)) Any x → Says x
      one x k = elim x.body as (λ m. Tells (Replied S.logs D (firm_in w)) Any (record x { body = m }) → Says (record x { body = m })) [
        | msg.MpReply call e ↦ λ k. replied-ends call e k
        | msg.Answer call e ↦ λ k. k
        | m ↦ λ k. tt
      ] k

-- ---- events of others

module _ (E : Database) (A : Submissions) (w : World) (told : HasTold E A w) where
  -- with the firm entries of a later world
  abbrev Later : World → Type 0
  Later v = (p : ℕ) → Prefix (firm_entries w p) (firm_entries v p)

  -- Of what agents have sent some may be taken.
  others : (next : Actor → Actor → List Letter) (firm : ℕ → List Entry) → ((P : Letter → Type 0) (h : ℕ) (b : Actor) → AllByRecursion P (w.channel (Agent h) b) → AllByRecursion P (next (Agent h) b))
      → ((p : ℕ) → Prefix (firm_entries w p) (firm p)) → ToldOk E w.deployment A w.agents next firm
  others next firm less grown = moves E w.deployment A A (λ call s is. is) w.agents w.channel next (firm_entries w) firm less grown told

  other-told : (to from : Actor) (ls : List Letter) (o : Environment) → ((n : ℕ) → to ≡ Agent n → ⊥) → let v = delivered E w to from ls o in Later v → HasTold E A v
  other-told to from [] o other grown = told
  other-told Director from (l ∷ ls) o other grown = others (delivered E w Director from (l ∷ ls) o).channel (firm_entries w) (λ P h b k. took-all P w.channel from Director (Agent h) b k) grown
  other-told (Client n) from (l ∷ ls) o other grown = others (delivered E w (Client n) from (l ∷ ls) o).channel (firm_entries w) (λ P h b k. took-all P w.channel from (Client n) (Agent h) b k) grown
  other-told (Site i) from (l ∷ ls) o other grown =
      let v = delivered E w (Site i) from (l ∷ ls) o in others v.channel (firm_entries v) (λ P h b k. took-all P w.channel from (Site i) (Agent h) b k) grown
  other-told (Scanner i) from (l ∷ ls) o other grown = others (delivered E w (Scanner i) from (l ∷ ls) o).channel (firm_entries w) (λ P h b k. took-all P w.channel from (Scanner i) (Agent h) b k) grown
  other-told (Agent n) from (l ∷ ls) o other grown = absurd (other n refl)

  -- ---- recoveries

  -- No agent has told another one anything, and nothing waits. What clients were told is so still.
  anew-told : (shown : List ℕ) → Later (starts_anew E w shown) → HasTold E A (starts_anew E w shown)
  anew-told shown grown = record { sent = sent; waiting = λ h. waiting h (is_host w.deployment h) }
    where
      v : World
      v = starts_anew E w shown

      Says : Letter → Type 0
      Says = Tells (EndsInAll w.deployment (firm_entries v)) (AnswerStands E w.deployment A (firm_entries v))

      old : (h : ℕ) (b : Actor) → AllByRecursion Says (w.channel (Agent h) b)
      old h b = all-mono _ _ (tells-on E w.deployment A A (λ call s is. is) (firm_entries w) (firm_entries v) grown) (w.channel (Agent h) b) (told.sent h b)

      sent : (h : ℕ) (b : Actor) → AllByRecursion Says (v.channel (Agent h) b)
      sent h (Agent g) = tt
      sent h (Site i) = tt
      sent h (Scanner i) = tt
      sent h Director = all-append Says (w.channel (Agent h) Director) [] (old h Director) tt
      sent h (Client n) = all-append Says (w.channel (Agent h) (Client n)) (opens w.deployment w.director.next_start (Agent h) (Client n)) (old h (Client n))
          (all-if Says (is_host w.deployment h && is_client w.deployment n) (open_letter (msg.Opened (w.director.next_start + h)) ∷ []) [] (tt, tt) tt)

      waiting : (h : ℕ) (b : Bool) → AllByRecursion (WaitsTold (AnswerStands E w.deployment A (firm_entries v)))
          (if b then member_agent (new_word w.deployment (new_base w shown) w.director.next_start) (greatest_done E (new_log E w shown) (parts w.deployment) + 1)
          (greatest_replies E (new_log E w shown) (parts w.deployment)) w.director.next_start h else w.agents h).waiting
      waiting h true = tt
      waiting h false = all-mono _ _ (λ x. brings-on E w.deployment A A (λ call s is. is) (firm_entries w) (firm_entries v) grown x.from x.letter) (w.agents h).waiting (told.waiting h)

  recovery-told : (o : Environment) → let v = recovered_with E w o in Later v → HasTold E A v
  recovery-told NoFault grown = told
  recovery-told (DiskFails answered) grown = told
  recovery-told (NoMemory answered) grown = told
  recovery-told (DisksShow shown None) grown = anew-told shown grown
  recovery-told (DisksShow shown (Some failed)) grown = record { sent = told.sent; waiting = told.waiting }

-- ---- each event

module _ (E : Database) (I : Input) (w : World) (d : AllCalls E I w) (told : HasTold E d.asked.submissions w) (sites : HasAnswers E w) where
  abbrev B : Submissions
  B = d.asked.submissions

  delivers : (to from : Actor) (o : Environment) → is_actor w.deployment to ≡ true → allows w (event.Deliver to from) o ≡ true
      → let v = delivered E w to from (w.channel from to) o in Later E B w told v → HasTold E B v
  delivers (Agent n) from o there may grown = to_agent-told E I w d told sites n from (w.channel from (Agent n)) o refl (actor-host w.deployment n there) may
  delivers Director from o there may grown = other-told E B w told Director from (w.channel from Director) o (λ n q. absurd (cc)) grown
  delivers (Client n) from o there may grown = other-told E B w told (Client n) from (w.channel from (Client n)) o (λ n q. absurd (cc)) grown
  delivers (Site i) from o there may grown = other-told E B w told (Site i) from (w.channel from (Site i)) o (λ n q. absurd (cc)) grown
  delivers (Scanner i) from o there may grown = other-told E B w told (Scanner i) from (w.channel from (Scanner i)) o (λ n q. absurd (cc)) grown

  happens-told : (e : Event) (o : Environment) → can w e ≡ true → allows w e o ≡ true → let v = happens E w e o in Later E B w told v → HasTold E B v
  happens-told (event.Deliver to from) o can may grown = delivers to from o (and_parts (is_some_letter (w.channel from to)) (is_actor w.deployment to) can).1 may grown
  happens-told (event.Sync i) o can may grown = let v = happens E w (event.Sync i) o in others E B w told v.channel (firm_entries v) (λ P h b k. k) grown
  happens-told (event.Scan i) o can may grown = others E B w told (happens E w (event.Scan i) o).channel (firm_entries w) (λ P h b k. k) grown
  happens-told event.Recover o can may grown = recovery-told E B w told o grown
  happens-told event.Item o can may grown = others E B w told (happens E w event.Item o).channel (firm_entries w) (λ P h b k. k) grown
  happens-told (event.Submit n) o can may grown = others E B w told (happens E w (event.Submit n) o).channel (firm_entries w) (λ P h b k. k) grown
  happens-told (event.Idle a) o can may grown = told

-- ---- runs

-- A world of a run, and what its agents tell.
pub record AllTold (E : Database) (I : Input) (w : World) : Type 0 where
  pub reached : Reached E I w
  pub calls : AllCalls E I w
  pub told : HasTold E calls.asked.submissions w

step-told : (E : Database) (I : Input) (w : World) (e : Happening) → may_happen w e ≡ true → AllTold E I w → AllTold E I (step E w e)
step-told E I w e may k =
    let outer = and_parts (not (has_failed w) && can w e.0) (allows w e.0 e.1) may in
    let inner = and_parts (not (has_failed w)) (can w e.0) outer.0 in
    let n = k.calls.calls in
    let disks : HasDisks w = record { logs = n.logs; halted = n.halted; disks = n.disks } in
    let g = step-goes E w e may disks in
    let r = happens-told E I w k.calls k.told (answers-agree E I w k.reached) e.0 e.1 inner.1 outer.1 (λ p. firm-grows w (step E w e) disks g.next p (g.survives p)) in
    let next = step-grows E I w e may k.calls in
    let v = happens E w e.0 e.1 in
    let m = moves E v.deployment k.calls.asked.submissions next.0.asked.submissions next.1 v.agents v.channel v.channel (firm_entries v) (firm_entries v) (λ P h b x. x) (λ p. prefix-refl (firm_entries v p)) r in
    record {
      reached = reached-on E I w (step E w e) k.reached (runs-to E (e ∷ []) w (may, tt));
      calls = next.0;
      told = record { sent = m.sent; waiting = m.waiting };
    }

-- So it is in each world that is reached.
pub told-agree : (E : Database) (I : Input) (w : World) → Reached E I w → AllTold E I w
told-agree E I w r = reached-kept E (AllTold E I) (step-told E I) I w first r
  where
    waiting : (A : Submissions) (h : ℕ) (b : Bool) → AllByRecursion (WaitsTold (AnswerStands E I.deployment A (firm_entries (first_world E I))))
        (if b then member_agent (new_word I.deployment I.base 1) (greatest_done E (λ p. []) (parts I.deployment) + 1) [] 1 h else new_agent 0).waiting
    waiting A h true = tt
    waiting A h false = tt

    first : IsInput I → AllTold E I (first_world E I)
    first is =
        let start : Reached E I (first_world E I) = record { input = is; runs = runs-to E [] (first_world E I) tt } in
        record { reached = start; calls = calls-agree E I (first_world E I) start; told = record { sent = λ h b. tt; waiting = λ h. waiting _ h (is_host I.deployment h) } }
