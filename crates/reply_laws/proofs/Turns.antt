-- What a whole turn of a site leaves of the answers that it holds, and what it sends to agents.
use Rattle.std.proofs.Common.{◌≡◌, ◌<◌, true, List, [], ◌∷◌, refl, sym, subst, ap, ◌∙◌, arith}
use Rattle.std.proofs.lemmas.Bool.{and_parts}
use Rattle.std.specs.Prelude.{ℕ, nat_lt, Option, Some, None, is_none}
use Rattle.std.specs.List.{AllByRecursion}
use Rattle.volt_base.specs.declared.entry.LastReply.{LastReply}
use Rattle.volt_base.specs.declared.entry.Outcome.{Outcome}
use Rattle.volt_wire.specs.Stream.{StreamHead}
use Rattle.volt_wire.specs.Word.{Membership}
use Rattle.volt_wire.specs.declared.actor.Actor.{Actor}
use Rattle.volt_wire.specs.declared.actor.Actor.TheVariants.{Agent}
use Rattle.volt_wire.specs.declared.message.Msg.TheVariants as msg
use Rattle.cluster_model.specs.Engine.{Database}
use Rattle.cluster_model.specs.Log.{open_in, last_done}
use Rattle.cluster_model.specs.Replies.{last_replies}
use Rattle.cluster_model.specs.Words.{Deployment, part_of_slot}
use Rattle.cluster_model.specs.Letters.{same, Letter, Sends, Turn, ◌▸◌, letter_in}
use Rattle.cluster_model.specs.SiteState.{SiteState, Joining, site_term}
use Rattle.cluster_model.specs.Site.{is_reply, in_new_term, may_stream, standing, ordered, settles, site_handler, takes_waiting}
use Rattle.cluster_model.specs.Environment.{Environment}
use Rattle.cluster_model.specs.Sync.{after_sync, site_turn, sync_turn}
use Rattle.cluster_steps.specs.Lists.{Prefix}
use Rattle.cluster_steps.proofs.Lists.{all-append, all-at, all-from, all-if, all-mono, in-filter, is_none-none}
use Rattle.cluster_steps.proofs.Prefixes.{prefix-none}
use Rattle.cluster_steps.proofs.Sends.{all-order}
use Rattle.cluster_steps.proofs.Frames.{InertLetter, InertSends, with_rest}
use Rattle.cluster_steps.proofs.Steps.{LetsGo, MayTell, SmallSteps, MayBeTold, with_stream}
use Rattle.cluster_steps.proofs.SiteWalk.{after_sync-walk}
use Rattle.cluster_steps.proofs.SiteTurns.{Plain, PlainWaiting, MayTakeAsks, takes_asks-cases, handler-from, handler-known, settles-walk, sync_turn-cases, taken-walk, site_turn-cases, whole_turn, Wrote, wrote, written_site}
use Rattle.log_laws.specs.Histories.{LogsHold, LogState, SiteWaitingOk, site_start}
use Rattle.disk_laws.proofs.Handlers.{waiting-plain}
use Rattle.disk_laws.proofs.Worded.{unstreamed}
use Rattle.reply_laws.specs.Answers.{Claims, ClaimsFit, HeldAnswer, HoldsAnswers, OfTerm, SentAnswer, ToInitiator, TurnAnswers, is_answer}
use Rattle.reply_laws.proofs.Answers.{Answers, NoLog, SentFirm, all-held-on, answers-same, answers-settles, answers-steps, inert-answer, not-answer}

-- ---- what follows a handler

-- the first site with what may change then, of the second one
abbrev with_shown : SiteState → SiteState → SiteState
with_shown s u = record (with_rest s u) { joiners = u.joiners }

-- A turn of a site that changes nothing else: what it sends to agents is well.
record FollowsHandler (E : Database) (D : Deployment) (i : ℕ) (T : Claims) (s : SiteState) (t : Turn SiteState) : Type 0 where
  still : t.state ≡ with_shown s t.state
  sends : 0 < s.start → (h : ℕ) → AllByRecursion (SentAnswer E D i T t.state) (t.sends (Agent h))

module _ (E : Database) (D : Deployment) (i : ℕ) (T : Claims) where
  -- what was sent before
  shown-sent : (s u : SiteState) (l : Letter) → SentAnswer E D i T s l → SentAnswer E D i T (with_shown s u) l
  shown-sent s u l k = record {
    answered = λ a. let x = k.answered a in record { position = x.position; stands = x.stands; firm = x.firm; leads = x.leads; runs = x.runs };
    to_initiator = (elim l.body as (λ m. ToInitiator E D i s (record l { body = m }) → ToInitiator E D i (with_shown s u) (record l { body = m })) [
      | msg.FragDone m round partial ↦ λ x. x
      | msg.Finished m ↦ λ x. x
      | msg.MpState m is_open outcome replies ↦ λ x. record { leads = x.leads; runs = x.runs; term_is = x.term_is; later = x.later; on_disk = x.on_disk; told = x.told }
      | m ↦ λ x. tt
    ]) k.to_initiator;
  }

  still-sent : (s u : SiteState) → u ≡ with_shown s u → (l : Letter) → SentAnswer E D i T s l → SentAnswer E D i T u l
  still-sent s u e l k = subst (λ x. SentAnswer E D i T x l) (sym e) (shown-sent s u l k)

  firm-sent : (u : SiteState) (l : Letter) → SentFirm D i T u l → SentAnswer E D i T u l
  firm-sent u l k = record {
    answered = k.answered;
    to_initiator = (elim l.body as (λ m. OfTerm (site_term u) (record l { body = m }) → ToInitiator E D i u (record l { body = m })) [
      | msg.FragDone m round partial ↦ λ x. x
      | msg.Finished m ↦ λ x. x
      | msg.MpState m is_open outcome replies ↦ λ x. absurd x
      | m ↦ λ x. tt
    ]) k.term_is;
  }

  inert-sent : (u : SiteState) (l : Letter) → InertLetter l → SentAnswer E D i T u l
  inert-sent u l k = let q = inert-answer (site_term u) l k in firm-sent u l (record { answered = not-answer (is_answer l.body) q.0; term_is = q.1 })

  all-inert : (u : SiteState) (out : Sends) → InertSends out → (h : ℕ) → AllByRecursion (SentAnswer E D i T u) (out (Agent h))
  all-inert u out inert h = all-mono InertLetter (SentAnswer E D i T u) (inert-sent u) (out (Agent h)) (inert (Agent h))

  follows-moves : SmallSteps (FollowsHandler E D i T)
  follows-moves = record {
    first = λ s. record { still = refl; sends = λ up h. tt };
    next = λ s t f h k. let u = (f t.state).state in record {
      still = k.still ∙ ap (λ x. with_shown x u) h.still;
      sends = λ up a. all-append (SentAnswer E D i T u) (t.sends (Agent a)) ((f t.state).sends (Agent a))
          (all-mono (SentAnswer E D i T t.state) (SentAnswer E D i T u) (still-sent t.state u k.still) (t.sends (Agent a)) (h.sends up a))
          (k.sends (subst (λ x. 0 < x.start) (sym h.still) up) a);
    };
    rest = λ s u. record { still = refl; sends = λ up h. tt };
    says = λ s out inert. record { still = refl; sends = λ up h. all-inert s out inert h };
    joiners = λ s f same. record { still = refl; sends = λ up h. tt };
  }

  tells-standing : (s : SiteState) (start : ℕ) → MayTell D i s → 0 < s.start → (o : Option ℕ) (last : Option (ℕ × Outcome)) (replies : List LastReply)
      → standing (open_in s.log) (last_done E (part_of_slot D i) s.log) (last_replies E (part_of_slot D i) s.log) ≡ standing o last replies
      → SentAnswer E D i T (record s { has_told = true }) (letter_in (site_term s) start (standing o last replies))
  tells-standing s start may up (Some m) last replies e = record {
    answered = λ a. absurd (cc);
    to_initiator = record { leads = may.leads; runs = up; term_is = refl; later = may.later; on_disk = may.on_disk; told = e };
  }
  tells-standing s start may up None None replies e = record {
    answered = λ a. absurd (cc);
    to_initiator = record { leads = may.leads; runs = up; term_is = refl; later = may.later; on_disk = may.on_disk; told = e };
  }
  tells-standing s start may up None (Some last) replies e = record {
    answered = λ a. absurd (cc);
    to_initiator = record { leads = may.leads; runs = up; term_is = refl; later = may.later; on_disk = may.on_disk; told = e };
  }

  follows-tells : MayBeTold E D i (FollowsHandler E D i T)
  follows-tells s may first =
      let o = open_in s.log in let last = last_done E (part_of_slot D i) s.log in let replies = last_replies E (part_of_slot D i) s.log in
      record {
        still = refl;
        sends = λ up h. all-if (SentAnswer E D i T (record s { has_told = true })) (same (Agent first.0) (Agent h)) (letter_in (site_term s) first.1 (standing o last replies) ∷ []) []
            (tells-standing s first.1 may up o last replies refl, tt) tt;
      }

  follows-asks : MayTakeAsks E D i (FollowsHandler E D i T)
  follows-asks s = takes_asks-cases E D i s (FollowsHandler E D i T s) (record { still = refl; sends = λ up h. tt }) (λ a authoritative mark. record { still = refl; sends = λ up h. tt })

  -- A turn from b on, and what follows it.
  settled-answers : (b : SiteState) (t : Turn SiteState) → Answers D i T b t → 0 < b.start → HoldsAnswers T b → TurnAnswers E D i T (ordered (t ▸ settles E D i))
  settled-answers b t h up held = record {
    held = λ _. subst (HoldsAnswers T) (sym k.still) (h.at.held held);
    sends = λ a. all-order (SentAnswer E D i T u) ((t ▸ settles E D i).sends (Agent a)) (all-append (SentAnswer E D i T u) (t.sends (Agent a)) ((settles E D i t.state).sends (Agent a))
        (all-mono (SentFirm D i T t.state) (SentAnswer E D i T u) (λ l x. still-sent t.state u k.still l (firm-sent t.state l x)) (t.sends (Agent a)) (h.sends up held a))
        (k.sends (let e = h.at.start in omega (arith, up, e)) a));
  }
    where
      u : SiteState
      u = (settles E D i t.state).state

      k : FollowsHandler E D i T t.state (settles E D i t.state)
      k = settles-walk E D i (FollowsHandler E D i T) follows-moves follows-tells follows-asks t.state

-- ---- a whole turn

-- only replies stay in a new term
reply-term : (term : ℕ) (l : Letter) → is_reply l ≡ true → OfTerm term l
reply-term term l = elim l.body as (λ m. is_reply (record l { body = m }) ≡ true → OfTerm term (record l { body = m })) [
  | msg.FragDone m round partial ↦ λ e. absurd (cc)
  | msg.Finished m ↦ λ e. absurd (cc)
  | msg.MpState m is_open outcome replies ↦ λ e. absurd (cc)
  | m ↦ λ e. tt
]

module _ (E : Database) (D : Deployment) (i : ℕ) (T : Claims) (fits : ClaimsFit E (part_of_slot D i) T) (s : SiteState) where
  answers-let : LetsGo (Answers D i T)
  answers-let s ws less = answers-same D i T s _ refl refl refl (λ e. e) refl refl

  -- what it holds with a stream that it takes, and in a new term
  stream-held : NoLog s → HoldsAnswers T s → (j : Joining) (l : Letter) (head : StreamHead) → s.joining ≡ Some j → may_stream s j l ≡ true → HoldsAnswers T (with_stream s j l head)
  stream-held none held j l head is may = all-held-on T s.log l.past (site_term s) past s.held held
    where
      past : Prefix s.log l.past
      past = subst (λ xs. Prefix xs l.past) (sym (none j is (is_none-none j.stream (and_parts (is_none j.stream) (nat_lt s.earlier l.term) may).0))) (prefix-none l.past)

  term-held : HoldsAnswers T s → (w : Membership) (joining : Option Joining) → HoldsAnswers T (record (in_new_term s w) { joining = joining })
  term-held held w joining = let b = in_new_term s w in all-from (HeldAnswer T b.log (site_term b)) b.held (λ d k.
      let r = in-filter (λ x. is_reply x.letter) d s.held k in
      record { stands = (all-at (HeldAnswer T s.log (site_term s)) s.held held d r.0).stands; term_is = reply-term (site_term b) d.letter r.1 })

  taken-answers : (stamp : ℕ) (from : Actor) (l : Letter) → 0 < s.start → AllByRecursion PlainWaiting s.waiting → NoLog s → HoldsAnswers T s
      → TurnAnswers E D i T (whole_turn E D stamp i (site_handler E D stamp i s from l))
  taken-answers stamp from l up plain none held =
      let t = site_handler E D stamp i s from l in
      let W = answers-steps D i T E fits stamp in
      let r = handler-from E D stamp i (Answers D i T) W s (λ b. (b.start ≡ s.start) × HoldsAnswers T b) (refl, held)
      (λ j l head is may. (refl, stream-held none held j l head is may)) (λ w joining. (refl, term-held held w joining)) from l in
      settled-answers E D i T r.0 (t ▸ takes_waiting E D stamp i)
      (taken-walk E D stamp i (λ _ from l. Plain from l) (Answers D i T) W answers-let r.0 t r.2 (handler-known E D stamp i s from l plain))
      (let e = r.1.0 in omega (arith, up, e)) r.1.1

  -- What a message makes of it.
  pub site_turn-answers : (stamp : ℕ) (from : Actor) (l : Letter) (o : Environment) → (0 < s.start → AllByRecursion PlainWaiting s.waiting) → NoLog s
      → (0 < s.start → HoldsAnswers T s) → TurnAnswers E D i T (site_turn E D stamp i s from l o)
  site_turn-answers stamp from l o plain none held = site_turn-cases E D stamp i s from (TurnAnswers E D i T)
      (λ start stop joining contents out inert. record { held = λ _. tt; sends = λ h. all-inert E D i T _ out inert h }) l o
      (λ stop plans aside. record { held = held; sends = λ h. tt }) (λ up waits. record { held = held; sends = λ h. tt })
      (λ up takes. taken-answers stamp from l up (plain up) none (held up))

  -- What a Sync makes of it.
  pub sync_turn-answers : (o : Environment) → 0 < s.start → HoldsAnswers T s → TurnAnswers E D i T (sync_turn E D i s o)
  sync_turn-answers o up held = sync_turn-cases E D i s o (TurnAnswers E D i T)
      (λ stop contents out inert. record { held = λ _. tt; sends = λ h. all-inert E D i T _ out inert h })
      (settled-answers E D i T b (after_sync D i b b.joining) (after_sync-walk D i (Answers D i T) (answers-settles D i T) b) (let e = w.start in omega (arith, up, e)) holds)
    where
      b : SiteState
      b = written_site s

      w : Wrote s b
      w = wrote s

      holds : HoldsAnswers T b
      holds = subst (λ n. AllByRecursion (HeldAnswer T b.log n) b.held) (sym (ap (λ o. site_term (record s { view = o })) w.view))
          (subst (λ xs. AllByRecursion (HeldAnswer T xs (site_term s)) b.held) (sym w.log) (subst (AllByRecursion (HeldAnswer T s.log (site_term s))) (sym w.held) held))

-- ---- what the laws of logs give of a site

-- nothing waits at it that never does
pub waits-plain : (S : LogState) → LogsHold S → (i : ℕ) → 0 < site_start S i → AllByRecursion PlainWaiting (S.sites i).waiting
waits-plain S H i up = all-mono (SiteWaitingOk S i) PlainWaiting (waiting-plain S i) (S.sites i).waiting ((H.sites i).keeps up).waiting

-- a joiner that has no stream has no entries
pub no-log : (S : LogState) → LogsHold S → (i : ℕ) → NoLog (S.sites i)
no-log S H i j joins none = (unstreamed S H i j joins none).1
