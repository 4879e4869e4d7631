-- Lost starts are stopped in every world that is reached: by what words of the epoch say, and, of messages to clients, which a recovery
-- leaves, because a start that is over never comes back.
use Rattle.std.proofs.Common.{◌≡◌, ◌+◌, ◌<◌, ◌≤◌, Bool, true, false, List, [], ◌∷◌, ◌++◌, append-nil, refl, sym, subst, ap, ◌∙◌, ◌⊎◌, inl, inr, ◌==◌, arith}
use Rattle.std.proofs.lemmas.Bool.{cases_Bool, and_parts}
use Rattle.std.specs.Prelude.{ℕ, ◌&&◌, not, if◌then◌else◌, Option, Some, None}
use Rattle.std.specs.List.{AllByRecursion}
use Rattle.volt_base.specs.declared.entry.LastReply.{LastReply}
use Rattle.volt_wire.specs.Word.{Membership}
use Rattle.volt_wire.specs.declared.actor.Actor.{Actor}
use Rattle.volt_wire.specs.declared.actor.Actor.TheVariants.{Director, Client, Agent, Site, Scanner}
use Rattle.volt_wire.specs.declared.event.Event.{Event}
use Rattle.volt_wire.specs.declared.event.Event.TheVariants as event
use Rattle.volt_wire.specs.declared.item.Item.{Item}
use Rattle.volt_wire.specs.declared.item.Item.TheVariants as item
use Rattle.volt_wire.specs.declared.item.TimedItem.{TimedItem}
use Rattle.volt_wire.specs.declared.message.Msg.TheVariants as msg
use Rattle.cluster_model.specs.Engine.{Database}
use Rattle.cluster_model.specs.Words.{Deployment, is_host, is_client, parts}
use Rattle.cluster_model.specs.Letters.{Letter, Turn, open_letter}
use Rattle.cluster_model.specs.Director.{DirectorState, does, does_next}
use Rattle.cluster_model.specs.Environment.{Environment, NoFault, DiskFails, NoMemory, DisksShow}
use Rattle.cluster_model.specs.AgentState.{AgentState}
use Rattle.cluster_model.specs.Agent.{agent_turn, agent_takes}
use Rattle.cluster_model.specs.World.{World, Input, took, stamp_of, with_director, new_word, greatest_done, greatest_replies, member_agent}
use Rattle.cluster_model.specs.Recover.{recovers, starts_anew, opens, new_base, new_log}
use Rattle.cluster_model.specs.Events.{is_actor, is_some_letter, can, allows, delivered, may_do, happens, step}
use Rattle.cluster_model.specs.Runs.{Happening, Reached, has_failed, may_happen}
use Rattle.cluster_model.specs.Laws.{start_in_letter, starts_in}
use Rattle.cluster_model.proofs.Runs.{reached-kept}
use Rattle.cluster_model.proofs.Starts.{takes-next}
use Rattle.word_laws.proofs.Closing.{turn-over}
use Rattle.cluster_steps.specs.Lists.{In, OnSome}
use Rattle.cluster_steps.proofs.Lists.{all-append, all-mono, all-from, all-if, list_any-in, eqb-same, all-both}
use Rattle.cluster_steps.proofs.Channels.{took-all, starts-append, starts-if, starts-all, stops_all-starts}
use Rattle.word_laws.specs.Histories.{State, GoodWord, OwnOk, SaidBy, LetterOk, AgentWaitingFrom, AgentWaitingOk, Gone, names, WordsHold}
use Rattle.word_laws.specs.Chain.{state_of, InEpoch}
use Rattle.word_laws.specs.Lost.{OfLost, OfLetter, OfLetterFrom, OfAgent, IsStopped, LostAreStopped}
use Rattle.word_laws.proofs.Agreement.{said-good}
use Rattle.word_laws.proofs.Arrivals.{stopped-cases}
use Rattle.word_laws.proofs.Moves.{ShownOk, TellsKnown}
use Rattle.word_laws.proofs.Worlds.{first-holds, happens-reaches, agent-reach, actor-host, AgentReach}

-- ---- a start that is over

-- no agent has it, or will have it
pub record Retired (w : World) (s : ℕ) : Type 0 where
  pub some : 0 < s
  pub below : s < w.director.next_start
  pub not_run : (g : ℕ) → (w.agents g).start ≡ s → ⊥
  pub not_sent : (g : ℕ) → AllByRecursion (λ x. x ≡ s → ⊥) (starts_in (w.channel Director (Agent g)))

-- the start with which an agent goes on: its own, none, or that of a Start from the director
abbrev StartFrom : AgentState → Actor → Letter → Turn AgentState → Type 0
StartFrom a from l t = (t.state.start ≡ a.start) ⊎ (t.state.start ≡ 0) ⊎ ((from ≡ Director) × (start_in_letter l ≡ t.state.start ∷ []))

turn-start : (E : Database) (D : Deployment) (n stamp : ℕ) (a : AgentState) (from : Actor) (l : Letter) (o : Environment) → StartFrom a from l (agent_turn E D n stamp a from l o)
turn-start E D n stamp a from l o = elim (cases_Bool (a.start == 0)) [
  | inl stopped ↦ of o stopped
  | inr runs ↦ elim (turn-over E D n stamp a from l o runs) [
    | inl e ↦ inl e
    | inr c ↦ inr (inl (ap (λ x. x.start) c.state))
  ]
]
  where
    taken : (a.start == 0) ≡ true → StartFrom a from l (agent_takes E D n stamp a from l)
    taken stopped = elim (stopped-cases E D n stamp a from l stopped) [
      | inl e ↦ inl (ap (λ t. t.state.start) e)
      | inr c ↦ let e = ap (λ t. t.state.start) c.1.2 in
          inr (inr (c.0, ap (λ m. start_in_letter (record l { body = m })) c.1.1 ∙ ap (λ x. x ∷ []) (sym e)))
    ]

    of : (o : Environment) → (a.start == 0) ≡ true → StartFrom a from l (agent_turn E D n stamp a from l o)
    of NoFault stopped = taken stopped
    of (DiskFails answered) stopped = taken stopped
    of (NoMemory answered) stopped = inr (inl refl)
    of (DisksShow shown failed) stopped = taken stopped

-- It stays so, whatever happens.
module _ (E : Database) (w : World) (s : ℕ) (r : Retired w s) where
  abbrev Others : List ℕ → Type 0
  Others xs = AllByRecursion (λ x. x ≡ s → ⊥) xs

  delivered-retired : (to from : Actor) (ls : List Letter) (o : Environment) → w.channel from to ≡ ls → Retired (delivered E w to from ls o) s
  delivered-retired to from [] o is = r
  delivered-retired (Agent n) from (l ∷ ls) o is = record {
    some = r.some;
    below = r.below;
    not_run = λ g. choice g (g == n);
    not_sent = λ g. starts-all (λ x. x ≡ s → ⊥) w.channel from (Agent n) g (r.not_sent g);
  }
    where
      t : Turn AgentState
      t = agent_turn E w.deployment n (stamp_of w) (w.agents n) from l o

      mine : StartFrom (w.agents n) from l t → t.state.start ≡ s → ⊥
      mine (inl e) q = r.not_run n (sym e ∙ q)
      mine (inr (inl z)) q = absurd (omega (arith, r.some, sym z ∙ q))
      mine (inr (inr c)) q =
          (subst Others (ap (λ x. x ++ starts_in ls) c.1) (subst Others (ap starts_in (subst (λ f. w.channel f (Agent n) ≡ l ∷ ls) c.0 is)) (r.not_sent n))).0 q

      choice : (g : ℕ) (c : Bool) → (if c then t.state else w.agents g).start ≡ s → ⊥
      choice g true = mine (turn-start E w.deployment n (stamp_of w) (w.agents n) from l o)
      choice g false = r.not_run g
  delivered-retired Director from (l ∷ ls) o is = record {
    some = r.some;
    below = subst (λ x. s < x) (takes-next w.director from l) r.below;
    not_run = r.not_run;
    not_sent = λ g. subst (λ xs. Others (starts_in xs)) (sym (append-nil (w.channel Director (Agent g)))) (r.not_sent g);
  }
  delivered-retired (Client n) from (l ∷ ls) o is = record { some = r.some; below = r.below; not_run = r.not_run; not_sent = r.not_sent }
  delivered-retired (Site i) from (l ∷ ls) o is = record { some = r.some; below = r.below; not_run = r.not_run; not_sent = r.not_sent }
  delivered-retired (Scanner i) from (l ∷ ls) o is = record { some = r.some; below = r.below; not_run = r.not_run; not_sent = r.not_sent }

  -- the director draws starts from the next one on
  director-retired : (t : Turn DirectorState) → w.director.next_start ≤ t.state.next_start
      → ((g : ℕ) → AllByRecursion (λ x. w.director.next_start ≤ x) (starts_in (t.sends (Agent g)))) → Retired (with_director w t) s
  director-retired t up above = record {
    some = r.some;
    below = omega (arith, r.below, up);
    not_run = r.not_run;
    not_sent = λ g. subst Others (sym (starts-append (w.channel Director (Agent g)) (t.sends (Agent g))))
        (all-append (λ x. x ≡ s → ⊥) (starts_in (w.channel Director (Agent g))) (starts_in (t.sends (Agent g))) (r.not_sent g)
        (all-mono (λ x. w.director.next_start ≤ x) (λ x. x ≡ s → ⊥) (λ x low e. absurd (omega (arith, low, r.below, e))) (starts_in (t.sends (Agent g))) (above g)));
  }

  plain-retired : (t : Turn DirectorState) → w.director.next_start ≡ t.state.next_start → ((g : ℕ) → starts_in (t.sends (Agent g)) ≡ []) → Retired (with_director w t) s
  plain-retired t up none = director-retired t (omega (arith, up)) (λ g. subst (AllByRecursion (λ x. w.director.next_start ≤ x)) (sym (none g)) tt)

  item-retired : (left : List TimedItem) (i : Item) → Retired (with_director w (does w.deployment (record w.director { items = left }) i)) s
  item-retired left (item.Lose host) = plain-retired _ refl (λ g. starts-if (g == host) (open_letter (msg.Stop (w.director.last_start host)) ∷ []) refl)
  item-retired left (item.Rejoin host) = director-retired _ (omega arith) (λ g. drawn (host == g))
    where
      drawn : (c : Bool) → AllByRecursion (λ x. w.director.next_start ≤ x) (starts_in (if c then open_letter (msg.Start w.director.next_start) ∷ [] else []))
      drawn true = (omega arith, tt)
      drawn false = tt
  item-retired left item.Snapshot = plain-retired _ refl (λ g. starts-if (is_host w.deployment g) (open_letter msg.Snap ∷ []) refl)
  item-retired left (item.Power slot call choice) = plain-retired _ refl (λ g. refl)
  item-retired left (item.Look slot) = plain-retired _ refl (λ g. refl)
  item-retired left item.Halt = plain-retired _ refl (λ g. stops_all-starts w.deployment w.director.last_start g)
  item-retired left item.Recover = plain-retired _ refl (λ g. stops_all-starts w.deployment w.director.last_start g)
  item-retired left item.Quiet = plain-retired _ refl (λ g. refl)

  next-retired : (may : Bool) (items : List TimedItem) → Retired (with_director w (does_next w.deployment may w.director items)) s
  next-retired true (next ∷ left) = item-retired left next.item
  next-retired true [] = plain-retired _ refl (λ g. stops_all-starts w.deployment w.director.last_start g)
  next-retired false items = plain-retired _ refl (λ g. stops_all-starts w.deployment w.director.last_start g)

  recovers-retired : (shown : List ℕ) (failed : Option (ℕ × Bool)) → Retired (recovers E w shown failed) s
  recovers-retired shown (Some failed) = record { some = r.some; below = r.below; not_run = r.not_run; not_sent = r.not_sent }
  recovers-retired shown None = record {
    some = r.some;
    below = let b = r.below in omega (arith, b);
    not_run = λ g. begins g (is_host w.deployment g);
    not_sent = λ g. subst (λ xs. Others (starts_in xs)) (sym (append-nil (w.channel Director (Agent g)))) (r.not_sent g);
  }
    where
      word : Membership
      word = new_word w.deployment (new_base w shown) w.director.next_start

      number : ℕ
      number = greatest_done E (new_log E w shown) (parts w.deployment) + 1

      replies : List LastReply
      replies = greatest_replies E (new_log E w shown) (parts w.deployment)

      begins : (g : ℕ) (c : Bool) → (if c then member_agent word number replies w.director.next_start g else w.agents g).start ≡ s → ⊥
      begins g true e = let b = r.below in absurd (omega (arith, b, e))
      begins g false e = r.not_run g e

  happens-retired : (e : Event) (o : Environment) → Retired (happens E w e o) s
  happens-retired (event.Deliver to from) o = delivered-retired to from (w.channel from to) o refl
  happens-retired (event.Sync i) o = record { some = r.some; below = r.below; not_run = r.not_run; not_sent = r.not_sent }
  happens-retired (event.Scan i) o = record { some = r.some; below = r.below; not_run = r.not_run; not_sent = r.not_sent }
  happens-retired event.Recover NoFault = r
  happens-retired event.Recover (DiskFails answered) = r
  happens-retired event.Recover (NoMemory answered) = r
  happens-retired event.Recover (DisksShow shown failed) = recovers-retired shown failed
  happens-retired event.Item o = next-retired (may_do w w.director.items) w.director.items
  happens-retired (event.Submit n) o = record { some = r.some; below = r.below; not_run = r.not_run; not_sent = r.not_sent }
  happens-retired (event.Idle a) o = r

-- ---- what a word of the epoch has lost is over

-- where this holds of each start that has stopped
module _ (S : State) (k : WordsHold S) (P : ℕ → Type 0) (ok : (s : ℕ) → Gone S s → P s) where
  word-lost : (m : Membership) → GoodWord S m → AllByRecursion P m.lost
  word-lost m g = all-from P m.lost (λ s i. ok s (g.lost_gone s (list_any-in (λ y. y == s) m.lost s i (eqb-same s))))

  told-lost : (l : Letter) → TellsKnown S l → OfLetter P l
  told-lost l p = elim l.body as (λ m. TellsKnown S (record l { body = m }) → OfLetter P (record l { body = m })) [
    | msg.Word base lost admitted ↦ λ q. absurd q
    | msg.Decided w ↦ λ q. word-lost w (k.history.decided_good w q)
    | msg.View w ↦ λ q. word-lost w (k.history.decided_good w q)
    | msg.Closed o ↦ ok o
    | m ↦ λ q. tt
  ] p

  letter-lost : (h g : ℕ) (l : Letter) → LetterOk S h g l → OfLetter P l
  letter-lost h g l p = elim l.body as (λ m. LetterOk S h g (record l { body = m }) → OfLetter P (record l { body = m })) [
    | msg.Word base lost admitted ↦ λ q.
        let m = record S.history.first { lost = lost; admitted = admitted } in word-lost m (said-good S k.history q.2.0 m q.2.2)
    | msg.Decided w ↦ λ q. word-lost w (k.history.decided_good w q.1)
    | msg.View w ↦ λ q. absurd q
    | msg.Closed o ↦ λ q. ok o q.2
    | m ↦ λ q. tt
  ] p

  known-lost : (Q : Membership → Type 0) → ((m : Membership) → Q m → GoodWord S m) → (o : Option Membership) → OnSome Q o → OfLost P o
  known-lost Q good None q = tt
  known-lost Q good (Some m) q = word-lost m (good m q)

  waiting-lost : (h : ℕ) (from : Actor) (l : Letter) → AgentWaitingFrom S h from l → OfLetterFrom P from l
  waiting-lost h (Agent g) l p = elim l.body as (λ m. AgentWaitingFrom S h (Agent g) (record l { body = m }) → OfLetter P (record l { body = m })) [
    | msg.Word base lost admitted ↦ λ q. absurd q
    | msg.Decided w ↦ λ q. absurd q
    | msg.View w ↦ λ q. absurd q
    | msg.Closed o ↦ λ q. absurd q
    | m ↦ λ q. tt
  ] p
  waiting-lost h Director l p = tt
  waiting-lost h (Client c) l p = tt
  waiting-lost h (Site c) l p = tt
  waiting-lost h (Scanner c) l p = tt

  agent-lost : (h : ℕ) → OfAgent P (S.agents h)
  agent-lost h = let a = k.agents h in let start = (S.agents h).start in record {
    of_own = known-lost (OwnOk S start) (λ m q. q.good) (S.agents h).own a.own;
    of_decided = known-lost (λ m. In m S.history.decided × (names m start ≡ true)) (λ m q. k.history.decided_good m q.0) (S.agents h).decided a.decided;
    of_taken = known-lost (λ m. (S.history.took start ≡ Some m) × In m S.history.decided) (λ m q. k.history.decided_good m q.1) (S.agents h).taken a.taken;
    of_said = λ g. known-lost (SaidBy S g) (λ m q. said-good S k.history q.0 m q.2) ((S.agents h).said g) (a.heard g);
    of_waiting = all-mono (AgentWaitingOk S h) (λ x. OfLetterFrom P x.from x.letter) (λ x. waiting-lost h x.from x.letter) (S.agents h).waiting a.waiting;
  }

gone-retired : (w : World) (k : InEpoch w) (s : ℕ) → Gone (state_of w k.owner k.history) s → Retired w s
gone-retired w k s gone = record {
  some = gone.0.some;
  below = gone.0.below;
  not_run = λ g e.
      let own : k.owner s ≡ g = ap k.owner (sym e) ∙ ((k.holds.hosts g).running (subst (λ x. 0 < x) (sym e) gone.0.some)).0 in
      gone.1 (ap (λ h. (w.agents h).start) own ∙ e);
  not_sent = λ g. all-both (λ x. (k.owner x ≡ g) × (0 < x) × (x < w.director.next_start)) (λ x. In x (k.history.began g) → ⊥) (λ x. x ≡ s → ⊥)
      (λ x o fresh e. fresh (subst (λ y. In y (k.history.began g)) (sym e) (subst (λ h. In s (k.history.began h)) (ap k.owner (sym e) ∙ o.0) gone.0.began)))
      (starts_in (w.channel Director (Agent g))) (k.holds.hosts g).owned (k.holds.hosts g).fresh;
}

-- ---- what others than agents have been told

abbrev Left : World → Actor → Letter → Type 0
Left w (Agent g) l = Unit {0}
Left w b l = OfLetter (Retired w) l

letter-mono : (P Q : ℕ → Type 0) → ((s : ℕ) → P s → Q s) → (l : Letter) → OfLetter P l → OfLetter Q l
letter-mono P Q f l h = elim l.body as (λ m. OfLetter P (record l { body = m }) → OfLetter Q (record l { body = m })) [
  | msg.Word base lost admitted ↦ all-mono P Q f lost
  | msg.Decided w ↦ all-mono P Q f w.lost
  | msg.View w ↦ all-mono P Q f w.lost
  | msg.Closed s ↦ f s
  | m ↦ λ p. tt
] h

left-mono : (w v : World) → ((s : ℕ) → Retired w s → Retired v s) → (b : Actor) (ls : List Letter) → AllByRecursion (Left w b) ls → AllByRecursion (Left v b) ls
left-mono w v f b ls h = all-mono (Left w b) (Left v b) (one b) ls h
  where
    one : (b : Actor) (l : Letter) → Left w b l → Left v b l
    one (Agent g) l p = tt
    one Director l p = letter-mono (Retired w) (Retired v) f l p
    one (Client g) l p = letter-mono (Retired w) (Retired v) f l p
    one (Site g) l p = letter-mono (Retired w) (Retired v) f l p
    one (Scanner g) l p = letter-mono (Retired w) (Retired v) f l p

shown-left : (w : World) (k : InEpoch w) (b : Actor) (ls : List Letter) → AllByRecursion (ShownOk (state_of w k.owner k.history) b) ls → AllByRecursion (Left w b) ls
shown-left w k b ls h = all-mono (ShownOk S b) (Left w b) (one b) ls h
  where
    S : State
    S = state_of w k.owner k.history

    told : (l : Letter) → TellsKnown S l → OfLetter (Retired w) l
    told = told-lost S k.holds (Retired w) (gone-retired w k)

    one : (b : Actor) (l : Letter) → ShownOk S b l → Left w b l
    one (Agent g) l p = tt
    one Director l p = told l p
    one (Client g) l p = told l p
    one (Site g) l p = told l p
    one (Scanner g) l p = told l p

-- What holds in every world that is reached.
record LostHold (w : World) : Type 0 where
  pub epoch : InEpoch w
  pub left : (h : ℕ) (b : Actor) → AllByRecursion (Left w b) (w.channel (Agent h) b)

module _ (E : Database) (w : World) (H : LostHold w) where
  -- where each channel from an agent is as it was, or its first message was taken
  kept : (v : World) → ((s : ℕ) → Retired w s → Retired v s) → (h : ℕ) (b : Actor) → AllByRecursion (Left v b) (w.channel (Agent h) b)
  kept v f h b = left-mono w v f b (w.channel (Agent h) b) (H.left h b)

  delivered-left : (to from : Actor) (ls : List Letter) (o : Environment) → w.channel from to ≡ ls → is_actor w.deployment to ≡ true
      → allows w (event.Deliver to from) o ≡ true → InEpoch (delivered E w to from ls o) → LostHold (delivered E w to from ls o)
  delivered-left to from [] o is there may k = H
  delivered-left (Agent n) from (l ∷ ls) o is there may k = record { epoch = a.next; left = λ h b. choice h b (n == h) }
    where
      v : World
      v = delivered E w (Agent n) from (l ∷ ls) o

      t : Turn AgentState
      t = agent_turn E w.deployment n (stamp_of w) (w.agents n) from l o

      a : AgentReach H.epoch.history v t.sends
      a = agent-reach E w n from l ls o H.epoch is (actor-host w.deployment n there) may

      before : (h : ℕ) (b : Actor) → AllByRecursion (Left v b) (took w.channel from (Agent n) (Agent h) b)
      before h b = took-all (Left v b) w.channel from (Agent n) (Agent h) b (kept v (λ s r. delivered-retired E w s r (Agent n) from (l ∷ ls) o is) h b)

      choice : (h : ℕ) (b : Actor) (c : Bool) → AllByRecursion (Left v b) (if c then took w.channel from (Agent n) (Agent h) b ++ t.sends b else took w.channel from (Agent n) (Agent h) b)
      choice h b true = all-append (Left v b) (took w.channel from (Agent n) (Agent h) b) (t.sends b) (before h b) (shown-left v a.next b (t.sends b) (a.shown b))
      choice h b false = before h b
  delivered-left Director from (l ∷ ls) o is there may k = record {
    epoch = k;
    left = λ h b.
        took-all (Left (delivered E w Director from (l ∷ ls) o) b) w.channel from Director (Agent h) b (kept _ (λ s r. delivered-retired E w s r Director from (l ∷ ls) o is) h b);
  }
  delivered-left (Client n) from (l ∷ ls) o is there may k = record {
    epoch = k;
    left = λ h b.
        took-all (Left (delivered E w (Client n) from (l ∷ ls) o) b) w.channel from (Client n) (Agent h) b (kept _ (λ s r. delivered-retired E w s r (Client n) from (l ∷ ls) o is) h b);
  }
  delivered-left (Site i) from (l ∷ ls) o is there may k = record {
    epoch = k;
    left = λ h b.
        took-all (Left (delivered E w (Site i) from (l ∷ ls) o) b) w.channel from (Site i) (Agent h) b (kept _ (λ s r. delivered-retired E w s r (Site i) from (l ∷ ls) o is) h b);
  }
  delivered-left (Scanner i) from (l ∷ ls) o is there may k = record {
    epoch = k;
    left = λ h b.
        took-all (Left (delivered E w (Scanner i) from (l ∷ ls) o) b) w.channel from (Scanner i) (Agent h) b (kept _ (λ s r. delivered-retired E w s r (Scanner i) from (l ∷ ls) o is) h b);
  }

  recovers-left : (shown : List ℕ) (failed : Option (ℕ × Bool)) → InEpoch (recovers E w shown failed) → LostHold (recovers E w shown failed)
  recovers-left shown (Some failed) k = record { epoch = k; left = kept (recovers E w shown (Some failed)) (λ s r. recovers-retired E w s r shown (Some failed)) }
  recovers-left shown None k = record { epoch = k; left = travels }
    where
      v : World
      v = starts_anew E w shown

      old : (h : ℕ) (b : Actor) → AllByRecursion (Left v b) (w.channel (Agent h) b)
      old = kept v (λ s r. recovers-retired E w s r shown None)

      travels : (h : ℕ) (b : Actor) → AllByRecursion (Left v b) (v.channel (Agent h) b)
      travels h (Client c) = all-append (Left v (Client c)) (w.channel (Agent h) (Client c)) (opens w.deployment w.director.next_start (Agent h) (Client c)) (old h (Client c))
          (all-if (Left v (Client c)) (is_host w.deployment h && is_client w.deployment c) (open_letter (msg.Opened (w.director.next_start + h)) ∷ []) [] (tt, tt) tt)
      travels h Director = all-append (Left v Director) (w.channel (Agent h) Director) [] (old h Director) tt
      travels h (Agent g) = tt
      travels h (Site i) = tt
      travels h (Scanner i) = tt

  -- an event of another actor sends nothing from an agent
  happens-left : (e : Event) (o : Environment) → can w e ≡ true → allows w e o ≡ true → InEpoch (happens E w e o) → LostHold (happens E w e o)
  happens-left (event.Deliver to from) o may environment k = delivered-left to from (w.channel from to) o refl
      (and_parts (is_some_letter (w.channel from to)) (is_actor w.deployment to) may).1 environment k
  happens-left (event.Sync i) o may environment k = record { epoch = k; left = kept (happens E w (event.Sync i) o) (λ s r. happens-retired E w s r (event.Sync i) o) }
  happens-left (event.Scan i) o may environment k = record { epoch = k; left = kept (happens E w (event.Scan i) o) (λ s r. happens-retired E w s r (event.Scan i) o) }
  happens-left event.Recover NoFault may environment k = H
  happens-left event.Recover (DiskFails answered) may environment k = H
  happens-left event.Recover (NoMemory answered) may environment k = H
  happens-left event.Recover (DisksShow shown failed) may environment k = recovers-left shown failed k
  happens-left event.Item o may environment k = record { epoch = k; left = kept (happens E w event.Item o) (λ s r. happens-retired E w s r event.Item o) }
  happens-left (event.Submit n) o may environment k = record { epoch = k; left = kept (happens E w (event.Submit n) o) (λ s r. happens-retired E w s r (event.Submit n) o) }
  happens-left (event.Idle a) o may environment k = H

  -- the event is noted in the trace
  noted-left : (v : World) (trace : List Event) → LostHold v → LostHold (record v { trace = trace })
  noted-left v trace k = record {
    epoch = record { owner = k.epoch.owner; history = k.epoch.history; holds = k.epoch.holds; strangers = k.epoch.strangers };
    left = λ h b. left-mono v (record v { trace = trace }) (λ s r. record { some = r.some; below = r.below; not_run = r.not_run; not_sent = r.not_sent }) b (v.channel (Agent h) b) (k.left h b);
  }

  step-left : (e : Happening) → may_happen w e ≡ true → LostHold (step E w e)
  step-left e may =
      let outer = and_parts (not (has_failed w) && can w e.0) (allows w e.0 e.1) may in
      let inner = and_parts (not (has_failed w)) (can w e.0) outer.0 in
      noted-left (happens E w e.0 e.1) ((happens E w e.0 e.1).trace ++ e.0 ∷ [])
      (happens-left e.0 e.1 inner.1 outer.1 (happens-reaches E w e.0 e.1 H.epoch inner.1 outer.1).next)

-- ---- the law

stopped : (w : World) (k : InEpoch w) (s : ℕ) → Retired w s → IsStopped w s
stopped w k s r g up e = r.not_run g e

hold-stopped : (w : World) → LostHold w → LostAreStopped w
hold-stopped w H = record { held = agent-lost S H.epoch.holds (IsStopped w) over; travelling = travels }
  where
    S : State
    S = state_of w H.epoch.owner H.epoch.history

    over : (s : ℕ) → Gone S s → IsStopped w s
    over s g = stopped w H.epoch s (gone-retired w H.epoch s g)

    left : (b : Actor) → ((l : Letter) → Left w b l → OfLetter (IsStopped w) l) → (h : ℕ) → AllByRecursion (OfLetter (IsStopped w)) (w.channel (Agent h) b)
    left b f h = all-mono (Left w b) (OfLetter (IsStopped w)) f (w.channel (Agent h) b) (H.left h b)

    travels : (h : ℕ) (b : Actor) → AllByRecursion (OfLetter (IsStopped w)) (w.channel (Agent h) b)
    travels h (Agent g) = all-mono (LetterOk S h g) (OfLetter (IsStopped w)) (letter-lost S H.epoch.holds (IsStopped w) over h g) (w.channel (Agent h) (Agent g)) (H.epoch.holds.channels h g).letters
    travels h Director = left Director (letter-mono (Retired w) (IsStopped w) (stopped w H.epoch)) h
    travels h (Client c) = left (Client c) (letter-mono (Retired w) (IsStopped w) (stopped w H.epoch)) h
    travels h (Site c) = left (Site c) (letter-mono (Retired w) (IsStopped w) (stopped w H.epoch)) h
    travels h (Scanner c) = left (Scanner c) (letter-mono (Retired w) (IsStopped w) (stopped w H.epoch)) h

pub lost-stopped : (E : Database) (I : Input) (w : World) → Reached E I w → LostAreStopped w
lost-stopped E I w r = hold-stopped w (reached-kept E LostHold (λ v e may H. step-left E v H e may) I w (λ is. record { epoch = first-holds E I; left = λ h b. tt }) r)
