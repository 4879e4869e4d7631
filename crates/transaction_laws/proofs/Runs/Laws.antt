-- The laws of transactions, from what holds in each world of a run.
use Rattle.cluster_model.specs.Client.{ClientState, Submitted}
use Rattle.call_laws.specs.Submissions.{EndedOk, PendingOk, pending_call}
use Rattle.transaction_laws.proofs.Names.{Aborted, Agent, AskedIn, Client, End, Letter, Aligned, AppliesOnce, Deployment, Option, CallIsAsked, CallsOk, Done, Dropped, EndIsAsked, EntryAsked, Frag, HasSubmissions, In, IsAskedBefore, IsCall, IsEnd, OutcomeAsked, ShareEnds, Snapshot, Sp, Submission, Submissions, SubmittedAt, WasAskedBefore, all-at, all-mono, call_of, in-cases, in-map-from, map, nat_lt, parts, same-some, some-here, subst, sym, Database, EndsAlike, Entry, GoesOnAlike, GoesOnClosed, Input, IsApplied, IsInitiator, IsPartOf, IsSlotOf, Kept, List, LogState, MayShow, None, Outcome, Prefix, Reached, RiseWithin, Some, StandsOrIsOpen, Transactions, WellFormed, World, ap, arith, chosen, firm_in, first_stage, inl, inr, is_none, length, log_of, log_state, nothing_open, option_map, part_of_slot, point_in, points, prefix-append, prefix-trans, recovered, refl, shown_of, stage, true, world-shows, ℕ, ◌++◌, ◌∙◌, ◌≡◌}
use Rattle.transaction_laws.proofs.Entries.{aligned-again, applied-alike, formed-prefix, ok-prefix, recovered-ok, prefix-point, open_in-stage, Recovered, aligned-recovered, recovered-even, one-way, stands-or-open, points-rise}
use Rattle.transaction_laws.proofs.Initiators.{slot-part, one-initiator}
use Rattle.transaction_laws.proofs.Runs.Leads.{leads-aligned, leads-calls}
use Rattle.transaction_laws.proofs.Runs.Logs.{LedLog, log-led}
use Rattle.transaction_laws.proofs.Runs.Epochs.{any-aligned}
use Rattle.transaction_laws.proofs.Runs.Worlds.{AllCalls, HasCalls, calls-agree}
use Rattle.disk_laws.specs.Survival.{firm_entries}
use Rattle.transaction_laws.proofs.Kept.{Tells}
use Rattle.transaction_laws.proofs.Runs.Told.{AllTold, answer-told, firm-asked, told-agree}
use Rattle.transaction_laws.specs.Answers.{AnswerIsFirm, AnswerStands, AnswersClient, EndIsFirm, EndsInAll, RepliesToAgent, to_agent, to_client}

-- ---- the log of a site

-- At the prefix of the log of its partition's leader it is well formed, and its last point isn't later than now.
module _ (E : Database) (A : Submissions) (now : ℕ) (w : World) (d : HasCalls E A now w) (i : ℕ) (slot : IsSlotOf w i) where
  abbrev S : LogState
  S = log_state w d.logs.owner d.logs.history d.logs.logs

  abbrev p : ℕ
  p = part_of_slot w.deployment i

  led : LedLog S i
  led = log-led S d.logs.holds i (d.blank i)

  abbrev whole_log : List Entry
  whole_log = led.leadership.log ++ d.transactions.due p led.term

  within : Prefix (log_of w i) whole_log
  within = prefix-trans (log_of w i) led.leadership.log whole_log led.prefix (prefix-append led.leadership.log (d.transactions.due p led.term))

  pub site-formed : WellFormed (first_stage E p) (log_of w i)
  site-formed = formed-prefix (first_stage E p) (log_of w i) whole_log within
      (d.calls.books.leaderships p led.term led.leadership (slot-part S d.laid i slot) led.is_led).formed

  pub site-calls : CallsOk A p (log_of w i)
  site-calls = subst (λ B. CallsOk B p (log_of w i)) d.submitted (ok-prefix d.transactions.submitted p (log_of w i) whole_log within
      (d.calls.books.leaderships p led.term led.leadership (slot-part S d.laid i slot) led.is_led).calls)

  pub site-points : RiseWithin 0 now (points (log_of w i))
  site-points =
      let k = d.calls.books.leaderships p led.term led.leadership (slot-part S d.laid i slot) led.is_led in
      let low = prefix-point (first_stage E p) (log_of w i) whole_log within k.formed in
      let past = k.past in
      points-rise (first_stage E p) now (log_of w i) site-formed (omega (arith, low, past))

-- ---- calls that are applied

-- They are those of the input, as they were submitted.
module _ (I : Input) (now : ℕ) (w : World) (d : HasSubmissions I now w) where
  submitted-at : (call : ℕ) (s : Submission) → d.submissions call ≡ Some s → SubmittedAt w s.client call s.at
  submitted-at call s is = elim (in-cases call (map (λ e. e.call) c.ended) (pending_call c.pending) (d.each call s is).submitted) [
    | inl i ↦ ended i
    | inr i ↦ pending c.pending refl i
  ]
    where
      c : ClientState
      c = w.clients s.client

      ended : In call (map (λ e. e.call) c.ended) → SubmittedAt w s.client call s.at
      ended i =
          let e = in-map-from (λ e. e.call) call c.ended i in
          let k = all-at (EndedOk d.submissions s.client) c.ended (d.clients s.client).ended e.0 e.1 in
          let same = same-some (sym k.1.1 ∙ ap d.submissions e.2 ∙ is) in
          inr (e.0, e.1, e.2, sym k.1.3 ∙ ap (λ z. z.at) same)

      pending : (o : Option Submitted) → c.pending ≡ o → In call (pending_call o) → SubmittedAt w s.client call s.at
      pending None q i = absurd i
      pending (Some p) q (inr i) = absurd i
      pending (Some p) q (inl e) =
          let k = some-here (PendingOk d.submissions s.client) c.pending p q (d.clients s.client).pending in
          inl (p, q, e, ap (λ z. z.at) (same-some (sym k ∙ ap d.submissions e ∙ is)))

  was-asked : (call client : ℕ) (part : Option ℕ) (body : List ℕ) (point : ℕ) → IsAskedBefore d.submissions call client part body point → WasAskedBefore I w call client part body point
  was-asked call client part body point k = record { asked = (d.each call _ k.is).asked; at = k.at; submitted = submitted-at call _ k.is; before = k.before }

  end-asked : (o : Outcome) → OutcomeAsked d.submissions o → EndIsAsked I w o
  end-asked (Kept call client point reply) k = (k.0, was-asked call client None k.0 point k.1)
  end-asked (Aborted call client point reply) k = (k.0, was-asked call client None k.0 point k.1)
  end-asked Dropped k = tt
  end-asked Snapshot k = tt

  call-asked : (p : ℕ) (e : Entry) → EntryAsked d.submissions p e → CallIsAsked I w p e
  call-asked p (Sp call client point body) k = was-asked call client (Some p) body point k
  call-asked p (Frag m round body) k = tt
  call-asked p (Done m o) k = end-asked o k

  applies-once : (p : ℕ) (log : List Entry) → CallsOk d.submissions p log → AppliesOnce I w p log
  applies-once p log k = record { once = k.once; asked = all-mono (EntryAsked d.submissions p) (CallIsAsked I w p) (call-asked p) log k.asked }

-- A call that logs of two partitions apply, they apply by one end.
shares : (E : Database) (D : Deployment) (now : ℕ) (K : Transactions) (logs : ℕ → List Entry) → Aligned E D now K logs → (A : Submissions)
    → ((p : ℕ) → nat_lt p (parts D) ≡ true → CallsOk A p (logs p)) → (p q : ℕ) → nat_lt p (parts D) ≡ true → nat_lt q (parts D) ≡ true → (p ≡ q → ⊥) → ShareEnds (logs p) (logs q)
shares E D now K logs k A ok p q part other apart call e f i j c d = elim (applied-alike E D now K logs k A ok p q call e f part other i j c d) [
  | inl same ↦ absurd (apart same)
  | inr one ↦ (one.0, is-end e c one.1)
]
  where
    is-end : (e : Entry) → In call (call_of e) → (IsCall e → ⊥) → IsEnd e
    is-end (Sp n client point body) c none = absurd (none tt)
    is-end (Frag m round body) c none = absurd c
    is-end (Done m o) c none = tt

-- ---- the logs with which a recovery goes on

-- an end that applies its call has a point
applied-point : (o : Outcome) → IsApplied o → (x : ℕ) × (point_in (Some o) ≡ Some x)
applied-point (Kept call client point reply) k = (point, refl)
applied-point (Aborted call client point reply) k = (point, refl)
applied-point o k = absurd k

closed-none : (E : Database) (p : ℕ) (log : List Entry) → (stage E p log).opened ≡ None → nothing_open log ≡ true
closed-none E p log e = ap is_none (open_in-stage E p log ∙ ap (option_map (λ x. x.0)) e)

module _ (E : Database) (A : Submissions) (w : World) (now : ℕ) (d : HasCalls E A now w) (shown : List ℕ) (may : MayShow w shown) where
  choice-aligned : (L : Transactions) × Aligned E w.deployment now L (chosen w.deployment (shown_of w shown))
      × ((p : ℕ) → IsPartOf w p → CallsOk d.transactions.submitted p (chosen w.deployment (shown_of w shown) p))
  choice-aligned =
      let k = d.logs in
      any-aligned E (log_state w k.owner k.history k.logs) (firm_in w) d.halted d.transactions now now k.holds d.disks d.calls (omega arith) (shown_of w shown)
      (world-shows w k.owner k.history k.logs (firm_in w) d.halted d.disks shown None may refl)

  goes-on : (p : ℕ) → IsPartOf w p → Recovered E w.deployment now (recovered E w.deployment (shown_of w shown)) p
  goes-on = let a = choice-aligned in aligned-recovered E w.deployment now a.0 (shown_of w shown) a.1

  -- each call stands once in it
  goes-on-calls : (p : ℕ) → IsPartOf w p → CallsOk A p (recovered E w.deployment (shown_of w shown) p)
  goes-on-calls p part = let a = choice-aligned in
      subst (λ B. CallsOk B p (recovered E w.deployment (shown_of w shown) p)) d.submitted (recovered-ok E w.deployment now a.0 (shown_of w shown) a.1 d.transactions.submitted a.2 p part)

  goes-on-shares : (p q : ℕ) → IsPartOf w p → IsPartOf w q → (p ≡ q → ⊥) → ShareEnds (recovered E w.deployment (shown_of w shown) p) (recovered E w.deployment (shown_of w shown) q)
  goes-on-shares p q part other apart =
      let a = choice-aligned in
      let b = aligned-again E w.deployment now a.0 (shown_of w shown) a.1 (recovered E w.deployment (shown_of w shown)) (λ p part. inr refl) in
      shares E w.deployment now b.0 (recovered E w.deployment (shown_of w shown)) b.1 A goes-on-calls p q part other apart

  goes-on-even : (p q : ℕ) → IsPartOf w p → IsPartOf w q → GoesOnAlike E w shown p q
  goes-on-even p q part other m o applied =
      let a = choice-aligned in
      let at = applied-point o applied in
      recovered-even E w.deployment now a.0 (shown_of w shown) a.1 p q m at.0 o part other at.1

-- ---- the leads

ends-alike : (E : Database) (B : Submissions) (w : World) (now : ℕ) → HasCalls E B now w → (p q : ℕ) → IsPartOf w p → IsPartOf w q → EndsAlike w p q
ends-alike E B w now d p q part other m o a applied =
    let k = d.logs in
    let A = leads-aligned E (log_state w k.owner k.history k.logs) (firm_in w) d.transactions now k.holds d.calls.books w.authoritative k.authoritative in
    let at = applied-point o applied in
    one-way E w.deployment now d.transactions (λ x. (w.authoritative x).log) A p q m at.0 o a part other at.1

stands-or-is-open : (E : Database) (B : Submissions) (w : World) (now : ℕ) → HasCalls E B now w → (p q : ℕ) → IsPartOf w p → IsPartOf w q → StandsOrIsOpen w p q
stands-or-is-open E B w now d p q part other m o applied i =
    let k = d.logs in
    let A = leads-aligned E (log_state w k.owner k.history k.logs) (firm_in w) d.transactions now k.holds d.calls.books w.authoritative k.authoritative in
    let at = applied-point o applied in
    elim (stands-or-open E w.deployment now d.transactions (λ x. (w.authoritative x).log) A p q m at.0 o part other at.1 i) [
      | inl there ↦ inl there
      | inr is ↦ inr (open_in-stage E q (w.authoritative q).log ∙ ap (option_map (λ x. x.0)) is.1)
    ]

-- ---- the laws

module _ (E : Database) (input : Input) (w : World) (r : Reached E input w) where
  all : AllCalls E input w
  all = calls-agree E input w r

  -- what was submitted by now
  abbrev submitted : Submissions
  submitted = all.asked.submissions

  d : HasCalls E submitted (length w.trace) w
  d = all.calls

  pub points-within : (i : ℕ) → IsSlotOf w i → RiseWithin 0 (length w.trace) (points (log_of w i))
  points-within i slot = site-points E submitted (length w.trace) w d i slot

  pub logs-formed : (i : ℕ) → IsSlotOf w i → WellFormed (first_stage E (part_of_slot w.deployment i)) (log_of w i)
  logs-formed i slot = site-formed E submitted (length w.trace) w d i slot

  pub goes-on-closed : (shown : List ℕ) (p : ℕ) → MayShow w shown → IsPartOf w p → GoesOnClosed E w shown p
  goes-on-closed shown p may part =
      let log = recovered E w.deployment (shown_of w shown) p in
      let k = goes-on E submitted w (length w.trace) d shown may p part in
      record { formed = k.formed; rise = points-rise (first_stage E p) (length w.trace) log k.formed k.past; closed = closed-none E p log k.over }

  pub goes-on-alike : (shown : List ℕ) (p q : ℕ) → MayShow w shown → IsPartOf w p → IsPartOf w q → GoesOnAlike E w shown p q
  goes-on-alike shown p q may part other = goes-on-even E submitted w (length w.trace) d shown may p q part other

  pub calls-end-alike : (p q : ℕ) → IsPartOf w p → IsPartOf w q → EndsAlike w p q
  calls-end-alike p q part other = ends-alike E submitted w (length w.trace) d p q part other

  pub calls-stand : (p q : ℕ) → IsPartOf w p → IsPartOf w q → StandsOrIsOpen w p q
  calls-stand p q part other = stands-or-is-open E submitted w (length w.trace) d p q part other

  pub one-runs : (h g : ℕ) → IsInitiator w h → IsInitiator w g → h ≡ g
  one-runs h g i j = one-initiator (log_state w d.logs.owner d.logs.history d.logs.logs) d.logs.holds.words h g i.word j.word
      (record { runs = i.runs; has_decided = i.decided; initiates = i.initiates })
      (record { runs = j.runs; has_decided = j.decided; initiates = j.initiates })

  -- ---- calls run once

  pub no-call-twice : (i : ℕ) → IsSlotOf w i → AppliesOnce input w (part_of_slot w.deployment i) (log_of w i)
  no-call-twice i slot = applies-once input (length w.trace) w all.asked (part_of_slot w.deployment i) (log_of w i) (site-calls E submitted (length w.trace) w d i slot)

  -- of the logs of the leaders of the greatest terms
  leads-ok : (p : ℕ) → IsPartOf w p → CallsOk submitted p (w.authoritative p).log
  leads-ok p part =
      let k = d.logs in
      subst (λ B. CallsOk B p (w.authoritative p).log) d.submitted
      (leads-calls E (log_state w k.owner k.history k.logs) (firm_in w) d.transactions (length w.trace) k.holds d.calls.books w.authoritative k.authoritative p part)

  pub runs-once : (p q : ℕ) → IsPartOf w p → IsPartOf w q → (p ≡ q → ⊥) → ShareEnds (w.authoritative p).log (w.authoritative q).log
  runs-once p q part other apart =
      let k = d.logs in
      shares E w.deployment (length w.trace) d.transactions (λ x. (w.authoritative x).log)
      (leads-aligned E (log_state w k.owner k.history k.logs) (firm_in w) d.transactions (length w.trace) k.holds d.calls.books w.authoritative k.authoritative)
      submitted leads-ok p q part other apart

  pub goes-on-once : (shown : List ℕ) (p : ℕ) → MayShow w shown → IsPartOf w p → AppliesOnce input w p (recovered E w.deployment (shown_of w shown) p)
  goes-on-once shown p may part = applies-once input (length w.trace) w all.asked p (recovered E w.deployment (shown_of w shown) p)
      (goes-on-calls E submitted w (length w.trace) d shown may p part)

  -- ---- answers

  abbrev firm : ℕ → List Entry
  firm = firm_entries w

  all-told : AllTold E input w
  all-told = told-agree E input w r

  -- the calls that were submitted by now, in the history in which it is so
  abbrev known : Submissions
  known = all-told.calls.asked.submissions

  abbrev Says : Letter → Type 0
  Says = Tells (EndsInAll w.deployment firm) (AnswerStands E w.deployment known firm)

  pub ends-firm : (h g : ℕ) (l : Letter) → In l (to_agent w h g) → (call : ℕ) (e : End) → RepliesToAgent l call e → EndIsFirm w call e
  ends-firm h g l i call e is = subst (λ m. Says (record l { body = m })) is (all-at Says (to_agent w h g) (all-told.told.sent h (Agent g)) l i)

  pub answers-firm : (h n : ℕ) (l : Letter) → In l (to_client w h n) → (call : ℕ) (e : End) → AnswersClient l call e → AnswerIsFirm E input w n call e
  answers-firm h n l i call e is =
      let d = all-told.calls.asked in
      let k = subst (λ m. Says (record l { body = m })) is (all-at Says (to_client w h n) (all-told.told.sent h (Client n)) l i) in
      let (part, body, asked) = subst (λ m. AskedIn w.deployment known (Agent h) (Client n) (record l { body = m })) is
      (all-at (AskedIn w.deployment known (Agent h) (Client n)) (to_client w h n) (d.channels (Agent h) (Client n)) l i) in
      record { part = part; body = body; asked = (d.each call _ asked.is).asked; stands = answer-told E w.deployment known firm (firm-asked E input w all-told.calls) call e k n part body asked }

  pub goes-on-runs-once : (shown : List ℕ) (p q : ℕ) → MayShow w shown → IsPartOf w p → IsPartOf w q → (p ≡ q → ⊥)
      → ShareEnds (recovered E w.deployment (shown_of w shown) p) (recovered E w.deployment (shown_of w shown) q)
  goes-on-runs-once shown p q may part other apart = goes-on-shares E submitted w (length w.trace) d shown may p q part other apart
