-- What a turn of a site leaves of the answers that it holds, and what it sends of them: it goes on over each small step.
use Rattle.std.proofs.Common.{◌≡◌, ◌<◌, ◌≤◌, Bool, true, false, List, [], ◌∷◌, ◌++◌, append_assoc, length-append, refl, sym, subst, ap, ◌∙◌, ◌==◌, arith}
use Rattle.std.proofs.lemmas.Bool.{and_parts, cond_both, eqb-true}
use Rattle.std.proofs.lemmas.Bool.Decides.{nat_tests}
use Rattle.std.specs.Prelude.{ℕ, ◌+◌, ◌&&◌, filter, length, nat_lt, nat_le, Option, Some, None}
use Rattle.std.specs.List.{AllByRecursion}
use Rattle.volt_base.specs.declared.entry.Entry.{Entry}
use Rattle.volt_base.specs.declared.entry.Entry.TheVariants.{Sp, Frag, Done}
use Rattle.volt_base.specs.declared.entry.LastReply.{LastReply}
use Rattle.volt_wire.specs.declared.actor.Actor.TheVariants.{Agent}
use Rattle.volt_wire.specs.declared.end.End.{End}
use Rattle.volt_wire.specs.declared.message.Msg.{Msg}
use Rattle.volt_wire.specs.declared.message.Msg.TheVariants as msg
use Rattle.cluster_model.specs.Engine.{Database}
use Rattle.cluster_model.specs.Log.{applied_by}
use Rattle.cluster_model.specs.Replies.{end_of_reply, known_by, last_replies, last_reply_to}
use Rattle.cluster_model.specs.declared.known.Known.{Known}
use Rattle.cluster_model.specs.declared.known.Known.TheVariants.{IsAnswered}
use Rattle.cluster_model.specs.Words.{Deployment, part_of_slot}
use Rattle.cluster_model.specs.Letters.{Blocks, same, Letter, Turn, becomes, letter_in}
use Rattle.cluster_model.specs.SiteState.{AskedCall, SiteState, Joining, Held, is_leader, leads, site_term}
use Rattle.cluster_model.specs.Site.{answers_again, answers_held, firm_now, floor_now, holds, holds_at, holds_for, initiator_in, known_to, reply_to, sends_firm}
use Rattle.cluster_steps.specs.Lists.{Prefix}
use Rattle.cluster_steps.proofs.Lists.{all-append, all-at, all-filter, all-from, all-mono, in-filter, in-map-from, none-and-some}
use Rattle.cluster_steps.proofs.Leaders.{leader-view, leads-parts}
use Rattle.cluster_steps.proofs.Least.{firm_now-above}
use Rattle.cluster_steps.proofs.Prefixes.{prefix-append, prefix-length, prefix-refl, prefix-trans}
use Rattle.cluster_steps.proofs.Frames.{InertLetter, holds_for-cases}
use Rattle.cluster_steps.proofs.SiteWalk.{works_calls-walk}
use Rattle.cluster_steps.proofs.Steps.{SmallSteps, SayingSteps, HandlerSteps, with_acks, with_entry, with_repair}
use Rattle.cluster_steps.proofs.SiteTurns.{Plain}
use Rattle.reply_laws.specs.Answers.{Answered, Claim, Claims, ClaimsFit, HeldAnswer, HoldsAnswers, OfTerm, Stands, StandsAt, StandsBy, is_answer}
use Rattle.reply_laws.proofs.LastReplies.{last-reply-at}

-- a joiner without a stream has no entries
abbrev pub NoLog : SiteState → Type 0
NoLog s = (j : Joining) → s.joining ≡ Some j → j.stream ≡ None → s.log ≡ []

-- ---- a log that grows

-- What stands in a log still does when that has grown.
pub stands-on : (P : Claim) (log later : List Entry) → Prefix log later → Stands P log → Stands P later
stands-on P log later f k = record { prefix = k.prefix; entry = k.entry; stands = prefix-trans (k.prefix ++ k.entry ∷ []) log later k.stands f; claim = k.claim }

stands-at-on : (P : Claim) (log later : List Entry) → Prefix log later → (position : ℕ) → StandsAt P log position → StandsAt P later position
unfolding stands-on
stands-at-on P log later f position k = record { here = stands-on P log later f k.here; at = k.at }

stands-by-on : (P : Claim) (log later : List Entry) → Prefix log later → (position : ℕ) → StandsBy P log position → StandsBy P later position
stands-by-on P log later f position k = record { at = k.at; stands = stands-at-on P log later f k.at k.stands; waits = k.waits }

-- so does the entry of each answer that is held
pub all-held-on : (T : Claims) (log later : List Entry) (term : ℕ) → Prefix log later → (ds : List Held)
    → AllByRecursion (HeldAnswer T log term) ds → AllByRecursion (HeldAnswer T later term) ds
all-held-on T log later term f = all-mono (HeldAnswer T log term) (HeldAnswer T later term)
    (λ d k. record { stands = λ a. stands-by-on (T d.letter.body) log later f d.position (k.stands a); term_is = k.term_is })

-- by the last reply to its client a call is answered
answered-by : (call : ℕ) (o : Option LastReply) (e : End) → known_by call o ≡ IsAnswered e → (r : LastReply) × (o ≡ Some r) × (r.call ≡ call) × (e ≡ end_of_reply r.reply)
answered-by call None e is = absurd (cc)
answered-by call (Some r) e is = cond_both (nat_lt r.call call) _ _ Gives (λ _ k. absurd (cc)) (λ _. cond_both (r.call == call) _ _ Gives
    (λ same k. (r, refl, eqb-true r.call call same, cc)) (λ _ k. absurd (cc))) is
  where
    Gives : Known → Type 0
    Gives k = k ≡ IsAnswered e → (x : LastReply) × (Some r ≡ Some x) × (x.call ≡ call) × (e ≡ end_of_reply x.reply)

-- what says nothing is no answer
pub inert-answer : (term : ℕ) (l : Letter) → InertLetter l → (is_answer l.body ≡ false) × OfTerm term l
inert-answer term l = elim l.body as (λ m. InertLetter (record l { body = m }) → (is_answer m ≡ false) × OfTerm term (record l { body = m })) [
  | msg.StreamStart head ↦ λ k. absurd k
  | msg.Reply call start end ↦ λ k. absurd k
  | msg.FragDone m round partial ↦ λ k. absurd k
  | msg.Finished m ↦ λ k. absurd k
  | msg.MpState m is_open outcome replies ↦ λ k. absurd k
  | m ↦ λ k. (refl, tt)
]

pub not-answer : {A : Type 0} (b : Bool) → b ≡ false → b ≡ true → A
not-answer b e q = absurd (let r = sym e ∙ q in cc)

-- ---- a turn, but for what it tells an initiator at its end

-- The answers that it sends there are to what is firm.
pub record SentFirm (D : Deployment) (i : ℕ) (T : Claims) (u : SiteState) (l : Letter) : Type 0 where
  pub answered : is_answer l.body ≡ true → Answered D i u (T l.body)
  pub term_is : OfTerm (site_term u) l

-- The site of slot i came from s to u in the same word: its log has grown, and what it holds is well.
pub record AnswersAt (D : Deployment) (i : ℕ) (T : Claims) (s u : SiteState) : Type 0 where
  pub start : u.start ≡ s.start
  pub term : site_term u ≡ site_term s
  pub log : Prefix s.log u.log
  pub leads : leads D i s ≡ true → leads D i u ≡ true
  pub firm : s.firm ≤ u.firm
  pub held : HoldsAnswers T s → HoldsAnswers T u

pub record Answers (D : Deployment) (i : ℕ) (T : Claims) (s : SiteState) (t : Turn SiteState) : Type 0 where
  pub at : AnswersAt D i T s t.state
  pub sends : 0 < s.start → HoldsAnswers T s → (h : ℕ) → AllByRecursion (SentFirm D i T t.state) (t.sends (Agent h))

module _ (D : Deployment) (i : ℕ) (T : Claims) where
  -- with more in the log, but for what answers don't go by
  at-log : (s u : SiteState) → u.start ≡ s.start → site_term u ≡ site_term s → Prefix s.log u.log → (leads D i s ≡ true → leads D i u ≡ true) → u.firm ≡ s.firm → u.held ≡ s.held
      → AnswersAt D i T s u
  at-log s u start term log authoritative firm held = record {
    start = start;
    term = term;
    log = log;
    leads = authoritative;
    firm = omega (arith, firm);
    held = λ k. subst (λ n. AllByRecursion (HeldAnswer T u.log n) u.held) (sym term)
        (subst (AllByRecursion (HeldAnswer T u.log (site_term s))) (sym held) (all-held-on T s.log u.log (site_term s) log s.held k));
  }

  sent-on : (m u : SiteState) → AnswersAt D i T m u → (l : Letter) → SentFirm D i T m l → SentFirm D i T u l
  sent-on m u k l x = record {
    answered = λ a. let y = x.answered a in record {
      position = y.position;
      stands = stands-at-on (T l.body) m.log u.log k.log y.position y.stands;
      firm = let b = y.firm in omega (arith, b, k.firm);
      leads = k.leads y.leads;
      runs = let b = y.runs in omega (arith, b, k.start);
    };
    term_is = subst (λ n. OfTerm n l) (sym k.term) x.term_is;
  }

  answers-state : (s u : SiteState) → AnswersAt D i T s u → Answers D i T s (becomes u)
  answers-state s u h = record { at = h; sends = λ up x a. tt }

  pub answers-same : (s u : SiteState) → u.start ≡ s.start → site_term u ≡ site_term s → u.log ≡ s.log → (leads D i s ≡ true → leads D i u ≡ true) → u.firm ≡ s.firm → u.held ≡ s.held
      → Answers D i T s (becomes u)
  answers-same s u start term log authoritative firm held = answers-state s u (at-log s u start term (subst (Prefix s.log) (sym log) (prefix-refl s.log)) authoritative firm held)

  answers-moves : SmallSteps (Answers D i T)
  answers-moves = record {
    first = λ s. answers-same s s refl refl refl (λ e. e) refl refl;
    next = λ s t f h k. record {
      at = record {
        start = k.at.start ∙ h.at.start;
        term = k.at.term ∙ h.at.term;
        log = prefix-trans s.log t.state.log (f t.state).state.log h.at.log k.at.log;
        leads = λ e. k.at.leads (h.at.leads e);
        firm = let a = h.at.firm in let b = k.at.firm in omega (arith, a, b);
        held = λ x. k.at.held (h.at.held x);
      };
      sends = λ up x a. all-append (SentFirm D i T (f t.state).state) (t.sends (Agent a)) ((f t.state).sends (Agent a))
          (all-mono (SentFirm D i T t.state) (SentFirm D i T (f t.state).state) (sent-on t.state (f t.state).state k.at) (t.sends (Agent a)) (h.sends up x a))
          (k.sends (let e = h.at.start in omega (arith, up, e)) (h.at.held x) a);
    };
    rest = λ s u. answers-same s _ refl refl refl (λ e. e) refl refl;
    says = λ s out inert. record {
      at = (answers-same s s refl refl refl (λ e. e) refl refl).at;
      sends = λ up x h. all-mono InertLetter (SentFirm D i T s)
          (λ l k. let q = inert-answer (site_term s) l k in record { answered = not-answer (is_answer l.body) q.0; term_is = q.1 }) (out (Agent h)) (inert (Agent h));
    };
    joiners = λ s f same. answers-same s _ refl refl refl (λ e. e) refl refl;
  }

  -- the answers to what is firm by now
  firm-answers : (s : SiteState) → leads D i s ≡ true → 0 < s.start → HoldsAnswers T s → (h : ℕ) → AllByRecursion (SentFirm D i T (sends_firm s).state) ((sends_firm s).sends (Agent h))
  firm-answers s authoritative up x h = all-from (SentFirm D i T u) (answers_held s.firm s.held (Agent h)) (λ l k.
      let r = in-map-from (λ d. d.letter) l (filter (λ d. nat_le d.position s.firm && same d.to (Agent h)) s.held) k in
      let q = in-filter (λ d. nat_le d.position s.firm && same d.to (Agent h)) r.0 s.held r.1 in
      let low = (and_parts (nat_le r.0.position s.firm) (same r.0.to (Agent h)) q.1).0 in
      let y = all-at (HeldAnswer T s.log (site_term s)) s.held x r.0 q.0 in
      subst (SentFirm D i T u) r.2 (record {
        answered = λ a. let z = y.stands a in record {
          position = z.at;
          stands = z.stands;
          firm = let b = z.waits in grind (arith, nat_tests, low, b);
          leads = authoritative;
          runs = up;
        };
        term_is = y.term_is;
      }))
    where
      u : SiteState
      u = (sends_firm s).state

  pub answers-settles : SayingSteps D i (Answers D i T)
  answers-settles = record {
    moves = answers-moves;
    joins = λ s j k log is stream based more. answers-state s _ (at-log s _ refl refl more (λ e. absurd (none-and-some (leader-view D i s (leads-parts D i s e).0).0 is)) refl refl);
    counted = λ s authoritative acks joiners same. record {
      at = record {
        start = refl;
        term = refl;
        log = prefix-refl s.log;
        leads = λ e. e;
        firm = firm_now-above D i (with_acks s acks joiners);
        held = λ x. all-filter (HeldAnswer T s.log (site_term s)) (λ d. nat_lt (firm_now D i (with_acks s acks joiners)) d.position) s.held x;
      };
      sends = λ up x h. firm-answers (record (with_acks s acks joiners) { firm = firm_now D i (with_acks s acks joiners); floor = floor_now D i (with_acks s acks joiners) }) authoritative up x h;
    };
  }

  -- An answer to the entry that is appended next is held, and the entry is appended.
  entry-answers : (s : SiteState) (h : ℕ) (l : Letter) (e : Entry) → (is_answer l.body ≡ true → T l.body s.log e) → OfTerm (site_term s) l
      → Answers D i T s (becomes (with_entry (holds s (Agent h) l) e))
  entry-answers s h l e claim term_is = answers-state s _ (record {
    start = refl;
    term = refl;
    log = more;
    leads = λ k. k;
    firm = omega arith;
    held = λ old. all-append (HeldAnswer T log (site_term s)) s.held (d ∷ []) (all-held-on T s.log log (site_term s) more s.held old)
        (record { stands = λ a. record { at = length s.log + 1; stands = here a; waits = omega arith }; term_is = term_is }, tt);
  })
    where
      log : List Entry
      log = s.log ++ e ∷ []

      more : Prefix s.log log
      more = prefix-append s.log (e ∷ [])

      d : Held
      d = record { position = length s.log + 1; to = Agent h; letter = l }

      here : is_answer l.body ≡ true → StandsAt (T l.body) log (length s.log + 1)
      here a = record { here = record { prefix = s.log; entry = e; stands = prefix-refl log; claim = claim a }; at = refl }

  more-answers : (s : SiteState) (es : List Entry) → Answers D i T s (becomes (record s { log = s.log ++ es }))
  more-answers s es = answers-state s _ (at-log s _ refl refl (prefix-append s.log es) (λ e. e) refl refl)

  -- where there is an initiator
  held-answers : (s : SiteState) (m : Msg Blocks) (e : Entry) → T m s.log e → ((start : ℕ) → OfTerm (site_term s) (letter_in (site_term s) start m))
      → Answers D i T s (becomes (with_entry (holds_for s (initiator_in s.view) m) e))
  held-answers s m e claim term_is = holds_for-cases (λ b. Answers D i T s (becomes (with_entry b e))) s (initiator_in s.view) m (more-answers s (e ∷ []))
      (λ first. entry-answers s first.0 (letter_in (site_term s) first.1 m) e (λ _. claim) (term_is first.1))

  repaired-answers : (s u : SiteState) → u.start ≡ s.start → site_term u ≡ site_term s → Prefix s.log u.log → is_leader D i u ≡ is_leader D i s → u.repaired ≡ true → u.firm ≡ s.firm
      → u.held ≡ s.held → Answers D i T s (becomes u)
  repaired-answers s u start term log same repaired firm held =
      answers-state s u (at-log s u start term log (λ e. ap (λ b. b && u.repaired) (same ∙ (leads-parts D i s e).0) ∙ repaired) firm held)

  -- the last reply to a client stands in the log, as the reply to the call that is asked again
  again-stands : (E : Database) → ClaimsFit E (part_of_slot D i) T → (s : SiteState) (c : AskedCall) (e : End) → known_to E D i c s ≡ IsAnswered e
      → StandsBy (T (msg.Reply c.call c.start e)) s.log (length s.log)
  again-stands E fits s c e is =
      let p = part_of_slot D i in
      let (r, last, same, answer) = answered-by c.call (last_reply_to c.client (last_replies E p s.log)) e is in
      let k = last-reply-at E p c.client s.log r last in
      let xs = k.before ++ k.entry ∷ [] in
      let stands : Prefix xs s.log = (k.behind, k.splits ∙ sym (append_assoc k.before (k.entry ∷ []) k.behind)) in
      let fit = prefix-length xs s.log stands in
      let len = length-append k.before (k.entry ∷ []) in
      record {
        at = length k.before + 1;
        stands = record {
          here = record {
            prefix = k.before;
            entry = k.entry;
            stands = stands;
            claim = subst (λ end. T (msg.Reply c.call c.start end) k.before k.entry) (sym (answer ∙ ap end_of_reply k.reply_is))
                (fits.call k.before k.entry c.call c.start k.point (subst (λ n. applied_by k.entry ≡ record { call = n; point = k.point } ∷ []) same k.applies));
          };
          at = refl;
        };
        waits = omega (arith, fit, len);
      }

  -- a call that was run already is answered again
  again-answers : (E : Database) → ClaimsFit E (part_of_slot D i) T → (s : SiteState) → leads D i s ≡ true → (c : AskedCall) (e : End) → known_to E D i c s ≡ IsAnswered e
      → Answers D i T s (answers_again c e s)
  again-answers E fits s authoritative c e is = record {
    at = record {
      start = refl;
      term = refl;
      log = prefix-refl s.log;
      leads = λ k. k;
      firm = omega arith;
      held = λ old. all-filter (HeldAnswer T s.log (site_term s)) (λ d. nat_lt s.firm d.position) b.held (now old);
    };
    sends = λ up old h. firm-answers b authoritative up (now old) h;
  }
    where
      d : Held
      d = record { position = length s.log; to = Agent c.host; letter = reply_to c e }

      b : SiteState
      b = holds_at (length s.log) s (Agent c.host) (reply_to c e)

      now : HoldsAnswers T s → HoldsAnswers T b
      now old = all-append (HeldAnswer T s.log (site_term s)) s.held (d ∷ []) old (record { stands = λ _. again-stands E fits s c e is; term_is = tt }, tt)

  pub answers-steps : (E : Database) → ClaimsFit E (part_of_slot D i) T → (stamp : ℕ) → HandlerSteps E D stamp i (λ _ from l. Plain from l) (Answers D i T)
  answers-steps E fits stamp = record {
    settles = answers-settles;
    queued = λ s h l call start client body k. answers-same s _ refl refl refl (λ e. e) refl refl;
    works = works_calls-walk E D stamp i (Answers D i T) (record {
      moves = answers-settles.moves;
      cleared = λ s. answers-same s _ refl refl refl (λ e. e) refl refl;
      called = λ s authoritative clear c is. entry-answers s c.host _ (Sp c.call c.client stamp c.body) (λ _. fits.call s.log (Sp c.call c.client stamp c.body) c.call c.start stamp refl) tt;
      answered = λ s authoritative clear c e is. again-answers E fits s authoritative c e is;
    });
    round = λ s h l m round body k authoritative. held-answers s _ (Frag m round body) (fits.round s.log m round body) (λ start. refl);
    ended = λ s h l m o k authoritative. held-answers s _ (Done m o) (fits.end s.log m o) (λ start. refl);
    word = λ s h l w k. k;
    begun = λ s authoritative un all. repaired-answers s _ refl refl (prefix-append s.log _) refl refl refl refl;
    reported = λ s slot l position floor tail k. answers-same s _ refl refl refl (λ e. e) refl refl;
    noted = λ s idle acks joiners same. answers-same s _ refl refl refl (λ e. e) refl refl;
    put = λ s slot l position e floor k. more-answers s (e ∷ []);
    repair = λ s slot l from entries k. repaired-answers s (with_repair s from entries) refl refl (prefix-append s.log _) refl refl refl refl;
    stream = λ s slot l head j k is may. absurd k;
  }
