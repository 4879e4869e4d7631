-- In each world of a run the answers that sites hold, and those under way, are what the replay answers where their entries stand.
use Rattle.std.proofs.Common.{◌≡◌, ◌<◌, Bool, true, false, List, [], ◌∷◌, ◌++◌, take, length-append, refl, sym, subst, ap, ◌∙◌, ◌==◌, arith}
use Rattle.std.proofs.lemmas.Bool.{and_parts, and_from, eqb-true}
use Rattle.std.proofs.lemmas.Bool.Decides.{nat_tests}
use Rattle.std.proofs.lemmas.List.{length-take, length-take-le}
use Rattle.std.specs.Prelude.{ℕ, ◌&&◌, not, nat_lt, if◌then◌else◌, Some, None}
use Rattle.std.specs.List.{AllByRecursion}
use Rattle.volt_base.specs.declared.entry.Entry.{Entry}
use Rattle.volt_wire.specs.Word.{Membership}
use Rattle.volt_wire.specs.declared.actor.Actor.{Actor}
use Rattle.volt_wire.specs.declared.actor.Actor.TheVariants.{Director, Client, Agent, Site, Scanner}
use Rattle.volt_wire.specs.declared.event.Event.{Event}
use Rattle.volt_wire.specs.declared.event.Event.TheVariants as event
use Rattle.cluster_model.specs.Engine.{Database}
use Rattle.cluster_model.specs.Words.{Deployment, slots, part_of_slot, is_some_of}
use Rattle.cluster_model.specs.Letters.{same, Letter, Turn}
use Rattle.cluster_model.specs.SiteState.{SiteState, is_joiner, leader_in, leads, no_site, member_site}
use Rattle.cluster_model.specs.Sync.{may_sync, site_turn, sync_turn}
use Rattle.cluster_model.specs.Environment.{Environment, NoFault, DiskFails, NoMemory, DisksShow}
use Rattle.cluster_model.specs.World.{World, Input, stamp_of, set_at, took, sent, rest, new_word, start_from}
use Rattle.cluster_model.specs.Recover.{new_base, new_log, new_site, starts_anew}
use Rattle.cluster_model.specs.Events.{can, allows, delivered, recovered_with, happens, step}
use Rattle.cluster_model.specs.Runs.{Happening, Reached, has_failed, may_happen}
use Rattle.cluster_model.proofs.Runs.{reached-kept}
use Rattle.cluster_steps.proofs.Lists.{all-append, all-mono, all-if, all-rest, set-here, set-both}
use Rattle.cluster_steps.specs.Lists.{Prefix}
use Rattle.log_laws.specs.Copies.{log_state}
use Rattle.cluster_steps.proofs.Prefixes.{prefix-trans, prefix-length, prefixes-order, prefix-take, take-short}
use Rattle.cluster_steps.proofs.Leaders.{leads-parts}
use Rattle.log_laws.proofs.Runs.Boots.{first-logs}
use Rattle.log_laws.proofs.Runs.Lasting.{in-authoritative}
use Rattle.disk_laws.specs.Survival.{Survives, firm_entries}
use Rattle.disk_laws.proofs.Boots.{first-disks}
use Rattle.disk_laws.proofs.Syncs.{sync-runs}
use Rattle.disk_laws.proofs.Worlds.{HasDisks, survives-same, step-goes}
use Rattle.reply_laws.specs.Answers.{ClaimsFit, Claim, Stands, ClaimOf, is_answer, HoldsAnswers, Answered, SentAnswer, TurnAnswers}
use Rattle.reply_laws.proofs.Answers.{stands-on}
use Rattle.reply_laws.proofs.Turns.{no-log, site_turn-answers, sync_turn-answers, waits-plain}

-- ---- what holds of the answers of a world

-- An answer under way is to an entry that stands in this log of partition p.
abbrev pub AnswerIn : Database → ℕ → List Entry → Letter → Type 0
AnswerIn E p log l = is_answer l.body ≡ true → Stands (ClaimOf E p l.body) log

-- With these sites and messages, and these firm entries of each partition.
pub record AnswersOk (E : Database) (D : Deployment) (sites : ℕ → SiteState) (channel : Actor → Actor → List Letter) (firm : ℕ → List Entry) : Type 0 where
  pub held : (i : ℕ) → 0 < (sites i).start → HoldsAnswers (ClaimOf E (part_of_slot D i)) (sites i)
  pub sent : (i h : ℕ) → AllByRecursion (AnswerIn E (part_of_slot D i) (firm (part_of_slot D i))) (channel (Site i) (Agent h))

abbrev pub HasAnswers : Database → World → Type 0
HasAnswers E w = AnswersOk E w.deployment w.sites w.channel (firm_entries w)

-- the replay answers so as an answer is held
tells-fit : (E : Database) (p : ℕ) → ClaimsFit E p (ClaimOf E p)
tells-fit E p = record {
  call = λ log e call start point is. record { point = point; is = is; answers = refl };
  round = λ log m round body. record { body = body; is = refl; answers = refl };
  end = λ log m o. record { outcome = o; is = refl };
}

-- ---- a log that grows

-- What stands in it still does.
answer-in : (E : Database) (p : ℕ) (xs ys : List Entry) → Prefix xs ys → (l : Letter) → AnswerIn E p xs l → AnswerIn E p ys l
answer-in E p xs ys f l k = λ a. stands-on (ClaimOf E p l.body) xs ys f (k a)

-- ---- an event

-- The firm entries of each partition only grow, and of what was under way to agents some may be taken.
moves : (E : Database) (D : Deployment) (sites : ℕ → SiteState) (ch next : Actor → Actor → List Letter) (F G : ℕ → List Entry)
    → ((P : Letter → Type 0) (i h : ℕ) → AllByRecursion P (ch (Site i) (Agent h)) → AllByRecursion P (next (Site i) (Agent h)))
    → ((p : ℕ) → Prefix (F p) (G p)) → AnswersOk E D sites ch F → AnswersOk E D sites next G
moves E D sites ch next F G less grown k = record {
  held = k.held;
  sent = λ i h. less (AnswerIn E (part_of_slot D i) (G (part_of_slot D i))) i h
      (all-mono (AnswerIn E (part_of_slot D i) (F (part_of_slot D i))) (AnswerIn E (part_of_slot D i) (G (part_of_slot D i)))
      (answer-in E (part_of_slot D i) (F (part_of_slot D i)) (G (part_of_slot D i)) (grown (part_of_slot D i))) (ch (Site i) (Agent h)) (k.sent i h));
}

-- A site sends what is in the firm entries.
module _ (E : Database) (D : Deployment) (i : ℕ) (t : Turn SiteState) (G : ℕ → List Entry) (r : TurnAnswers E D i (ClaimOf E (part_of_slot D i)) t)
    (firm : leads D i t.state ≡ true → 0 < t.state.start → Prefix (take t.state.firm t.state.log) (G (part_of_slot D i))) where
  answered : (P : Claim) → Answered D i t.state P → Stands P (G (part_of_slot D i))
  answered P k =
      let here = k.stands.here in
      let xs = here.prefix ++ here.entry ∷ [] in
      let u = t.state in
      let n = prefix-length xs u.log here.stands in
      let m = length-take u.firm u.log in
      let len = length-append here.prefix (here.entry ∷ []) in
      let at = k.stands.at in
      let low = k.firm in
      let within : Prefix xs (take u.firm u.log) = prefixes-order xs (take u.firm u.log) u.log here.stands (prefix-take u.firm u.log) (omega (arith, n, m, len, at, low)) in
      record {
        prefix = here.prefix;
        entry = here.entry;
        stands = prefix-trans xs (take u.firm u.log) (G (part_of_slot D i)) within (firm k.leads k.runs);
        claim = here.claim;
      }

  sent-in : (l : Letter) → SentAnswer E D i (ClaimOf E (part_of_slot D i)) t.state l → AnswerIn E (part_of_slot D i) (G (part_of_slot D i)) l
  sent-in l k = λ a. answered (ClaimOf E (part_of_slot D i) l.body) (k.answered a)

  -- in its partition's entries, as they are after the event
  abbrev InFirm : ℕ → Letter → Type 0
  InFirm j = AnswerIn E (part_of_slot D j) (G (part_of_slot D j))

  turned : (sites : ℕ → SiteState) (ch : Actor → Actor → List Letter) (F : ℕ → List Entry)
      → ((p : ℕ) → Prefix (F p) (G p)) → AnswersOk E D sites ch F → AnswersOk E D (set_at sites i t.state) (sent ch (Site i) t.sends) G
  turned sites ch F grown k = record {
    held = set-both (λ j s. 0 < s.start → HoldsAnswers (ClaimOf E (part_of_slot D j)) s) sites i t.state r.held (λ j n. k.held j);
    sent = λ j h. choice j h (i == j) refl;
  }
    where
      before : (j h : ℕ) → AllByRecursion (InFirm j) (ch (Site j) (Agent h))
      before j h = all-mono (AnswerIn E (part_of_slot D j) (F (part_of_slot D j))) (InFirm j)
          (answer-in E (part_of_slot D j) (F (part_of_slot D j)) (G (part_of_slot D j)) (grown (part_of_slot D j))) (ch (Site j) (Agent h)) (k.sent j h)

      new : (j h : ℕ) → i ≡ j → AllByRecursion (InFirm j) (t.sends (Agent h))
      new j h e = subst (λ x. AllByRecursion (InFirm x) (t.sends (Agent h))) e (all-mono (SentAnswer E D i (ClaimOf E (part_of_slot D i)) t.state) (InFirm i) sent-in (t.sends (Agent h)) (r.sends h))

      choice : (j h : ℕ) (b : Bool) → (i == j) ≡ b → AllByRecursion (InFirm j) (if b then ch (Site j) (Agent h) ++ t.sends (Agent h) else ch (Site j) (Agent h))
      choice j h true e = all-append (InFirm j) (ch (Site j) (Agent h)) (t.sends (Agent h)) (before j h) (new j h (eqb-true i j e))
      choice j h false e = before j h

-- ---- what is firm

-- What is firm before an event is a prefix of what is so after it.
pub firm-grows : (v w : World) → HasDisks v → HasDisks w → (p : ℕ) → Survives v w p → Prefix (firm_entries v p) (firm_entries w p)
firm-grows v w d e p f =
    let a = length-take-le (v.authoritative p).firm (v.authoritative p).log f.within in
    let b = length-take-le (w.authoritative p).firm (w.authoritative p).log (survives-same w e.logs p).within in
    let c = f.more in
    prefixes-order (firm_entries v p) (firm_entries w p) (w.authoritative p).log f.kept (prefix-take (w.authoritative p).firm (w.authoritative p).log) (omega (arith, a, b, c))

-- What a leader counts firm is so in its partition.
leader-firm : (w : World) → HasDisks w → (i : ℕ) → leads w.deployment i (w.sites i) ≡ true → 0 < (w.sites i).start
    → Prefix (take (w.sites i).firm (w.sites i).log) (firm_entries w (part_of_slot w.deployment i))
leader-firm w d i authoritative up =
    let s = w.sites i in
    let p = part_of_slot w.deployment i in
    let member = (and_parts (not (is_joiner s)) (is_some_of (leader_in w.deployment s.view p) i) (leads-parts w.deployment i s authoritative).0).0 in
    let r = in-authoritative w d.logs i (record { runs = and_from (nat_lt 0 s.start) (not (is_joiner s)) (grind (arith, nat_tests, up)) member; leads = authoritative }) in
    let a = take-short s.firm s.log in
    let b = length-take-le (w.authoritative p).firm (w.authoritative p).log (survives-same w d.logs p).within in
    let c = r.counted in
    prefixes-order (take s.firm s.log) (firm_entries w p) (w.authoritative p).log r.prefix (prefix-take (w.authoritative p).firm (w.authoritative p).log) (omega (arith, a, b, c))

-- after the turn of a site
turn-firm : (v w : World) (i : ℕ) (t : Turn SiteState) → HasDisks w → w.sites ≡ set_at v.sites i t.state → leads w.deployment i t.state ≡ true → 0 < t.state.start
    → Prefix (take t.state.firm t.state.log) (firm_entries w (part_of_slot w.deployment i))
turn-firm v w i t d sites =
    let e : w.sites i ≡ t.state = ap (λ f. f i) sites ∙ set-here v.sites i t.state in
    subst (λ s. leads w.deployment i s ≡ true → 0 < s.start → Prefix (take s.firm s.log) (firm_entries w (part_of_slot w.deployment i))) e (leader-firm w d i)

-- ---- events

module _ (E : Database) (w : World) (k : HasAnswers E w) (d : HasDisks w) where
  -- with the firm entries of a later world
  abbrev Later : World → Type 0
  Later v = (p : ℕ) → Prefix (firm_entries w p) (firm_entries v p)

  to_site : (i : ℕ) (from : Actor) (ls : List Letter) (o : Environment) → let v = delivered E w (Site i) from ls o in HasDisks v → Later v → HasAnswers E v
  to_site i from [] o next grown = k
  to_site i from (l ∷ ls) o next grown =
      let v = delivered E w (Site i) from (l ∷ ls) o in
      let t = site_turn E w.deployment (stamp_of w) i (w.sites i) from l o in
      let S = log_state w d.logs.owner d.logs.history d.logs.logs in
      turned E w.deployment i t (firm_entries v)
      (site_turn-answers E w.deployment i (ClaimOf E (part_of_slot w.deployment i)) (tells-fit E (part_of_slot w.deployment i)) (w.sites i) (stamp_of w) from l o
      (waits-plain S d.logs.holds i) (no-log S d.logs.holds i) (k.held i))
      (turn-firm w v i t next refl) w.sites (took w.channel from (Site i)) (firm_entries w) grown (record { held = k.held; sent = k.sent })

  to_agent : (n : ℕ) (from : Actor) (ls : List Letter) (o : Environment) → let v = delivered E w (Agent n) from ls o in Later v → HasAnswers E v
  to_agent n from [] o grown = k
  to_agent n from (l ∷ ls) o grown =
      let v = delivered E w (Agent n) from (l ∷ ls) o in
      moves E w.deployment w.sites w.channel v.channel (firm_entries w) (firm_entries v)
      (λ P i h m. let ms = w.channel (Site i) (Agent h) in all-if P (n == h && same from (Site i)) (rest ms) ms (all-rest P ms m) m) grown k

  -- all that others do leaves what sites have, and what is under way from them to agents
  others : (channel : Actor → Actor → List Letter) (firm : ℕ → List Entry) → ((i h : ℕ) → channel (Site i) (Agent h) ≡ w.channel (Site i) (Agent h))
      → ((p : ℕ) → Prefix (firm_entries w p) (firm p)) → AnswersOk E w.deployment w.sites channel firm
  others channel firm e grown = moves E w.deployment w.sites w.channel channel (firm_entries w) firm (λ P i h m. subst (AllByRecursion P) (sym (e i h)) m) grown k

  delivers : (to from : Actor) (ls : List Letter) (o : Environment) → let v = delivered E w to from ls o in HasDisks v → Later v → HasAnswers E v
  delivers (Site i) from ls o next grown = to_site i from ls o next grown
  delivers (Agent n) from ls o next grown = to_agent n from ls o grown
  delivers to from [] o next grown = k
  delivers Director from (l ∷ ls) o next grown = others (delivered E w Director from (l ∷ ls) o).channel (firm_entries w) (λ i h. refl) grown
  delivers (Client n) from (l ∷ ls) o next grown = others (delivered E w (Client n) from (l ∷ ls) o).channel (firm_entries w) (λ i h. refl) grown
  delivers (Scanner i) from (l ∷ ls) o next grown = others (delivered E w (Scanner i) from (l ∷ ls) o).channel (firm_entries w) (λ i h. refl) grown

  syncs : (i : ℕ) (o : Environment) → 0 < (w.sites i).start → let v = happens E w (event.Sync i) o in HasDisks v → Later v → HasAnswers E v
  syncs i o up next grown =
      let v = happens E w (event.Sync i) o in
      let t = sync_turn E w.deployment i (w.sites i) o in
      turned E w.deployment i t (firm_entries v) (sync_turn-answers E w.deployment i (ClaimOf E (part_of_slot w.deployment i)) (tells-fit E (part_of_slot w.deployment i)) (w.sites i) o up (k.held i up))
      (turn-firm w v i t next refl) w.sites w.channel (firm_entries w) grown k

  -- ---- recoveries

  -- all sites hold nothing, and nothing is under way
  anew : (shown : List ℕ) → HasAnswers E (starts_anew E w shown)
  anew shown = record { held = λ i. held i (nat_lt i (slots w.deployment)); sent = λ i h. tt }
    where
      word : Membership
      word = new_word w.deployment (new_base w shown) w.director.next_start

      new : ℕ → SiteState
      new i = new_site w.deployment i (w.sites i) word (start_from w.deployment w.director.next_start i) (new_log E w shown (part_of_slot w.deployment i))

      held : (i : ℕ) (b : Bool) → let s = if b then new i else w.sites i in 0 < s.start → HoldsAnswers (ClaimOf E (part_of_slot w.deployment i)) s
      held i true up = tt
      held i false up = k.held i up

  recovery : (o : Environment) → let v = recovered_with E w o in Later v → HasAnswers E v
  recovery NoFault grown = k
  recovery (DiskFails answered) grown = k
  recovery (NoMemory answered) grown = k
  recovery (DisksShow shown None) grown = anew shown
  recovery (DisksShow shown (Some failed)) grown = record { held = k.held; sent = k.sent }

  -- ---- each event

  event-answers : (e : Event) (o : Environment) → can w e ≡ true → let v = happens E w e o in HasDisks v → Later v → HasAnswers E v
  event-answers (event.Deliver to from) o may next grown = delivers to from (w.channel from to) o next grown
  event-answers (event.Sync i) o may next grown =
      syncs i o (sync-runs (w.sites i) (and_parts (nat_lt i (slots w.deployment)) (may_sync (w.sites i)) may).1) next grown
  event-answers (event.Scan i) o may next grown = others (happens E w (event.Scan i) o).channel (firm_entries w) (λ i h. refl) grown
  event-answers event.Recover o may next grown = recovery o grown
  event-answers event.Item o may next grown = others (happens E w event.Item o).channel (firm_entries w) (λ i h. refl) grown
  event-answers (event.Submit n) o may next grown = others (happens E w (event.Submit n) o).channel (firm_entries w) (λ i h. refl) grown
  event-answers (event.Idle a) o may next grown = k

-- ---- runs

-- the event is noted in the trace
unnoted : (w : World) (trace : List Event) → HasDisks (record w { trace = trace }) → HasDisks w
unnoted w trace d = let n = d.logs in record {
  logs = record { owner = n.owner; history = n.history; logs = n.logs; holds = n.holds; strangers = n.strangers; authoritative = n.authoritative; counted = n.counted };
  halted = d.halted;
  disks = d.disks;
}

step-answers : (E : Database) (w : World) (e : Happening) → may_happen w e ≡ true → HasDisks w → HasAnswers E w → HasDisks (step E w e) × HasAnswers E (step E w e)
step-answers E w e may d k =
    let g = step-goes E w e may d in
    let outer = and_parts (not (has_failed w) && can w e.0) (allows w e.0 e.1) may in
    let inner = and_parts (not (has_failed w)) (can w e.0) outer.0 in
    let v = happens E w e.0 e.1 in
    let r = event-answers E w k d e.0 e.1 inner.1 (unnoted v (v.trace ++ e.0 ∷ []) g.next) (λ p. firm-grows w (step E w e) d g.next p (g.survives p)) in
    (g.next, record { held = r.held; sent = r.sent })

-- So it is in each world that is reached: at first no site holds an answer.
pub answers-agree : (E : Database) (input : Input) (w : World) → Reached E input w → HasAnswers E w
answers-agree E input w r = (reached-kept E (λ v. HasDisks v × HasAnswers E v) (λ v e may k. step-answers E v e may k.0 k.1) input w
    (λ is. (
      record { logs = first-logs E input is.base; halted = false; disks = first-disks E input is.base },
      record { held = λ i. first i (nat_lt i (slots input.deployment)); sent = λ i h. tt },
    )) r).1
  where
    word : Membership
    word = new_word input.deployment input.base 1

    first : (i : ℕ) (b : Bool) → let s = if b then member_site input.deployment i no_site word (start_from input.deployment 1 i) [] else no_site in
        0 < s.start → HoldsAnswers (ClaimOf E (part_of_slot input.deployment i)) s
    first i true up = tt
    first i false up = tt
