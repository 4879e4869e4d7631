-- Turns of one site by which the history of logs grows: what holds of the other slots, of messages and of what was loaded stays so.
use Rattle.log_laws.proofs.Names.{◌≡◌, ◌<◌, List, [], ◌++◌, refl, sym, subst, ap, ◌∙◌, ◌⊎◌, inl, inr, ◌==◌, arith, ℕ, ◌≤◌, length, filter, map, Option, Some, None, AllByRecursion, Membership, Actor, Agent, Site, term_of, host_of_slot, Letter, Waiting, SiteState, Joining, Joiner, Ask, set_at, In, Distinct, all-from, all-at, all-append, all-mono, in-map, filter-in, eqb-same, set-here, set-there, set-both, prefix-refl, LogState, LogsHold, Entered, Streaming, Leadership, EnteredOk, StreamedOk, LeadershipOk, UnledOk, SiteOk, KeepsOk, MemberOk, JoinerOk, InWord, Coming, ViewsOk, LoadsOk, ForeignOk, AckOk, ReportOk, CountedOk, HeldOk, SiteLetterOk, SiteWaitingOk, AsksToJoin, EndOk, MeantFor, IsCounted, IsSlot, ToldOk, epoch_base, part, site_start, term_at, between, agent_to_site, line, flow, stream_ends_in, ask_of, wait_of, asks_waiting, asks_kept, asks_of_term, asked, end_of, flow_of}
use Rattle.volt_wire.specs.declared.message.Msg.TheVariants as msg
use Rattle.word_laws.specs.Histories as word
use Rattle.log_laws.proofs.Kept.Moves.{SiteRises, site-stays, LogsLater, EntersNow}
use Rattle.log_laws.proofs.Kept.Laters.{ask-later, end-later, stays, letter-later-with, waiting-later-with, counteds-later, keeps-at, loads-later, streamed-later}
use Rattle.log_laws.proofs.Plain.{in-flat, flat-same, one-and-others}
use Rattle.log_laws.proofs.Kept.Asked.{AtMost, at-most-is, at-most-none, asks-moved, in-asked, keeps-less}
use Rattle.log_laws.proofs.Kept.Plumbing.{words-later}
use Rattle.log_laws.proofs.Kept.Terms.{running-slot, took-decided}
use Rattle.log_laws.proofs.Kept.Keeps.{SiteStays, SameFrom, SameTerm, SameRun, still-same, site-keeps-with, joiner-keeps-with, in_word-keeps-with, inert-keeps, coming-keeps, took-keeps}
use Rattle.log_laws.proofs.Kept.KeepsViews.{views-keeps-with, leaves-same, foreign-later}

-- ---- functions of two numbers that were changed at one place

abbrev pub put_at : {A : Type 0} → (ℕ → ℕ → A) → ℕ → ℕ → A → ℕ → ℕ → A
put_at f a b v = set_at f a (set_at (f a) b v)

-- of the new value at that place, and of the old ones elsewhere
pub put-both : {A : Type 0} (P : ℕ → ℕ → A → Type 0) (f : ℕ → ℕ → A) (a b : ℕ) (v : A) → P a b v → ((c d : ℕ) → (c ≡ a → d ≡ b → ⊥) → P c d (f c d))
    → (c d : ℕ) → P c d (put_at f a b v c d)
put-both P f a b v p q = set-both (λ c g. (d : ℕ) → P c d (g d)) f a (set_at (f a) b v)
    (set-both (λ d x. P a d x) (f a) b v p (λ d n. q a d (λ _ e. n e))) (λ c n d. q c d (λ e _. n e))

pub put-here : {A : Type 0} (f : ℕ → ℕ → A) (a b : ℕ) (v : A) → put_at f a b v a b ≡ v
put-here f a b v = put-both (λ c d x. c ≡ a → d ≡ b → x ≡ v) f a b v (λ _ _. refl) (λ c d n e q. absurd (n e q)) a b refl refl

pub put-there : {A : Type 0} (f : ℕ → ℕ → A) (a b : ℕ) (v : A) (c d : ℕ) → (c ≡ a → d ≡ b → ⊥) → put_at f a b v c d ≡ f c d
put-there f a b v c d n = put-both (λ c d x. (c ≡ a → d ≡ b → ⊥) → x ≡ f c d) f a b v (λ n. absurd (n refl refl)) (λ c d _ _. refl) c d n

-- ---- the state

-- the state after a turn of the site of slot i, with these channels and this history of terms
abbrev pub site_turned : LogState → ℕ → SiteState → (Actor → Actor → List Letter) → (ℕ → ℕ → Option Entered) → (ℕ → ℕ → Option Leadership) → (ℕ → ℕ → ℕ) → LogState
site_turned S i s ch en re rc = record S {
  words = record S.words { channel = ch };
  sites = set_at S.sites i s;
  logs = record S.logs { entered = en; leadership = re; reach = rc };
}

-- Such a state is a later one, where the site goes on, and the history grows.
pub turned-later : (S : LogState) (i : ℕ) (s : SiteState) (ch : Actor → Actor → List Letter) (en : ℕ → ℕ → Option Entered) (re : ℕ → ℕ → Option Leadership) (rc : ℕ → ℕ → ℕ)
    → SiteRises (S.sites i) s
    → ((c t : ℕ) (e : Entered) → S.logs.entered c t ≡ Some e → en c t ≡ Some e)
    → ((c t : ℕ) (e : Entered) → en c t ≡ Some e → (S.logs.entered c t ≡ Some e) ⊎ EntersNow S c t e)
    → ((p t : ℕ) → S.logs.reach p t ≤ rc p t) → LogsLater S (site_turned S i s ch en re rc)
turned-later S i s ch en re rc goes entered now reach = let all = set-both (λ c z. SiteRises (S.sites c) z) S.sites i s goes (λ c _. site-stays (S.sites c)) in record {
  words = words-later S ch;
  ran = λ c a is. is;
  greatest = λ c. (all c).greatest;
  sites = λ c. inl (all c);
  entered = entered;
  entered_now = now;
  streamed = λ c t x is. is;
  streamed_now = λ c t x is. inl is;
  reach = reach;
}

-- what is said of a channel, where what a site sent to others is behind what was there
pub said-same : {A : Type 0} (f : List Letter → A) (S : LogState) (i : ℕ) (ch : Actor → Actor → List Letter) (new : ℕ → List Letter)
    → ((c : ℕ) → ch (Site i) (Site c) ≡ between S i c ++ new c) → ((a c : ℕ) → (a ≡ i → ⊥) → ch (Site a) (Site c) ≡ between S a c)
    → (a c : ℕ) → f (between S i c ++ new c) ≡ f (between S i c) → f (ch (Site a) (Site c)) ≡ f (between S a c)
said-same f S i ch new mine theirs a c same = one-and-others (λ a. f (ch (Site a) (Site c)) ≡ f (between S a c)) i (ap f (mine c) ∙ same) (λ a n. ap f (theirs a c n)) a

-- What must be so of it. The site sent these to others.
pub record Turned (S : LogState) (i : ℕ) (s : SiteState) (ch : Actor → Actor → List Letter) (en : ℕ → ℕ → Option Entered) (re : ℕ → ℕ → Option Leadership) (rc : ℕ → ℕ → ℕ)
    (new : ℕ → List Letter) : Type 0 where
  pub later : LogsLater S (site_turned S i s ch en re rc)
  -- its channels: no stream is in them
  pub mine : (c : ℕ) → ch (Site i) (Site c) ≡ between S i c ++ new c
  pub theirs : (a c : ℕ) → (a ≡ i → ⊥) → ch (Site a) (Site c) ≡ between S a c
  pub flows : (c start t : ℕ) → flow start t (new c) ≡ []
  pub ends : (c start t : ℕ) → stream_ends_in start t (new c) ≡ []
  pub agreed : (h g : ℕ) → ch (Agent h) (Agent g) ≡ S.words.channel (Agent h) (Agent g)
  pub tells : (c h : ℕ) → ch (Site c) (Agent h) ≡ S.words.channel (Site c) (Agent h)
  pub views : (c : ℕ) → (c ≡ i → ⊥) → ch (Agent (host_of_slot S.words.deployment c)) (Site c) ≡ agent_to_site S c
  pub foreign : (from : Actor) (c : ℕ) → AllByRecursion (ForeignOk S c from) (ch from (Site c))
  -- what the site keeps
  pub waiting : s.waiting ≡ (S.sites i).waiting
  pub asks : (c t : ℕ) → AtMost (asks_of_term c t (S.sites i)) (asks_of_term c t s)
  pub joiners : (j : Joiner) → In j s.joiners → In j (S.sites i).joiners
  pub joins : (c t a : ℕ) → IsSlot S c → In a (asked S i c t) → AsksToJoin S (part S c) i t a → AsksToJoin (site_turned S i s ch en re rc) (part S c) i t a
  -- what others have entered, and terms that were led, are the same
  pub entered : (c t : ℕ) → (c ≡ i → ⊥) → en c t ≡ S.logs.entered c t
  pub led : (p t : ℕ) (g : Leadership) → S.logs.leadership p t ≡ Some g → (re p t ≡ S.logs.leadership p t) × (rc p t ≡ S.logs.reach p t)
  pub counted : (c a stream_start : ℕ) (w : Membership) (g : Leadership) → In w S.words.history.decided → S.logs.leadership (part S c) (term_of w) ≡ Some g
      → IsCounted S c a stream_start w → IsCounted (site_turned S i s ch en re rc) c a stream_start w
  -- what comes to the others
  pub members : (c : ℕ) (w : Membership) → (c ≡ i → ⊥) → 0 < site_start S c → (S.sites c).joining ≡ None → (S.sites c).view ≡ Some w
      → MemberOk S c w → MemberOk (site_turned S i s ch en re rc) c w
  pub lines : (c l : ℕ) (w : Membership) (j : Joining) → (c ≡ i → ⊥) → (S.sites c).joining ≡ Some j → JoinerOk S c j
      → line (site_start S c) (term_of w) (between S l c) ≡ [] → line (site_start S c) (term_of w) (ch (Site l) (Site c)) ≡ []

module _ (S : LogState) (H : LogsHold S) (i : ℕ) (s : SiteState) (ch : Actor → Actor → List Letter) (en : ℕ → ℕ → Option Entered) (re : ℕ → ℕ → Option Leadership) (rc : ℕ → ℕ → ℕ)
    (new : ℕ → List Letter) (F : Turned S i s ch en re rc new) where
  abbrev T : LogState
  T = site_turned S i s ch en re rc

  there : (c : ℕ) → (c ≡ i → ⊥) → T.sites c ≡ S.sites c
  there c other = set-there S.sites i s c other

  here : T.sites i ≡ s
  here = set-here S.sites i s

  -- ---- messages

  flows-same : (a c start t : ℕ) → flow start t (ch (Site a) (Site c)) ≡ flow start t (between S a c)
  flows-same a c start t = said-same (flow start t) S i ch new F.mine F.theirs a c (flat-same (flow_of start t) (between S i c) (new c) (F.flows c start t))

  ends-are-same : (a c start t : ℕ) → stream_ends_in start t (ch (Site a) (Site c)) ≡ stream_ends_in start t (between S a c)
  ends-are-same a c start t = said-same (stream_ends_in start t) S i ch new F.mine F.theirs a c (flat-same (end_of start t) (between S i c) (new c) (F.ends c start t))

  -- an ask that is somewhere
  ask-kept : (a c t x : ℕ) → IsSlot S c → In x (asked S a c t) → AsksToJoin S (part S c) a t x → AsksToJoin T (part S c) a t x
  ask-kept a c t x slot = one-and-others (λ a. In x (asked S a c t) → AsksToJoin S (part S c) a t x → AsksToJoin T (part S c) a t x) i (F.joins c t x slot)
      (λ a n is. ask-later S T H F.later (part S c) a t x (λ w j. (j.0, ap (λ z. z.joining) (there a n) ∙ j.1, ap (λ z. z.view) (there a n) ∙ j.2))) a

  end-kept : (a c : ℕ) (l : Letter) → MeantFor S c l → EndOk S a c l → EndOk T a c l
  end-kept a c l r k = end-later S T H F.later a c l r k (subst (AllByRecursion _) (sym (flows-same a c l.start l.term))) (λ x e start. inl e)

  letters-kept : (a c : ℕ) → IsSlot S c → AllByRecursion (SiteLetterOk T a c) (between S a c)
  letters-kept a c slot = all-from (SiteLetterOk T a c) (between S a c) (λ l is. letter-later-with S T H F.later a c l (λ x slot-of e. ask-kept a c l.term x slot (asked-letter l is x slot-of e))
      (end-kept a c l) (all-at (SiteLetterOk S a c) (between S a c) (H.letters a c slot) l is))
    where
      asked-letter : (l : Letter) → In l (between S a c) → (x slot-of : ℕ) → l.body ≡ msg.JoinAsk x slot-of → In x (asked S a c l.term)
      asked-letter l is x slot-of e =
          let one : In x (ask_of l.term l) = rw (eqb-same l.term, e) (inl refl) in
          in-asked S a c l.term x (inl (inl (in-flat (ask_of l.term) x l (between S a c) is one)))

  pub letters-turned : ((c : ℕ) → IsSlot S c → AllByRecursion (SiteLetterOk T i c) (new c)) → (a c : ℕ) → IsSlot S c → AllByRecursion (SiteLetterOk T a c) (ch (Site a) (Site c))
  letters-turned more a c slot = one-and-others (λ a. AllByRecursion (SiteLetterOk T a c) (ch (Site a) (Site c))) i
      (rw (F.mine c) (all-append (SiteLetterOk T i c) (between S i c) (new c) (letters-kept i c slot) (more c slot)))
      (λ a n. rw (F.theirs a c n) (letters-kept a c slot)) a

  -- what waits
  waits-turned : (c : ℕ) → IsSlot S c → site_start T c ≡ site_start S c → (ws : List Waiting) → ((a t x : ℕ) → In x (asks_waiting a t ws) → In x (asked S a c t))
      → AllByRecursion (SiteWaitingOk S c) ws → AllByRecursion (SiteWaitingOk T c) ws
  waits-turned c slot start ws within k = all-from (SiteWaitingOk T c) ws (λ x is. waiting-later-with S T H F.later c start x
      (λ a y slot-of e b. let one : In y (wait_of a x.letter.term x) = rw (e, eqb-same a, eqb-same x.letter.term, b) (inl refl) in
      ask-kept a c x.letter.term y slot (within a x.letter.term y (in-flat (wait_of a x.letter.term) y x ws is one))) (all-at (SiteWaitingOk S c) ws k x is))

  pub waiting-turned : (c : ℕ) → IsSlot S c → site_start T c ≡ site_start S c → KeepsOk S c → AllByRecursion (SiteWaitingOk T c) (S.sites c).waiting
  waiting-turned c slot start k = waits-turned c slot start (S.sites c).waiting (λ a t x i. in-asked S a c t x (inl (inr i))) k.waiting

  pub pending-turned : (c : ℕ) → IsSlot S c → site_start T c ≡ site_start S c → KeepsOk S c → AllByRecursion (SiteWaitingOk T c) (S.pending c)
  pending-turned c slot start k = waits-turned c slot start (S.pending c) (λ a t x i. in-asked S a c t x (inr (inl i))) k.pending

  -- ---- other slots

  asked-less : (c l t : ℕ) → (c ≡ i → ⊥) → AtMost (asked S c l t) (asked T c l t)
  asked-less c l t other = one-and-others (λ l. AtMost (asked S c l t) (asked T c l t)) i
      (subst (AtMost (asked S c i t)) (sym (asks-moved c t (between S c i) (between T c i) s (T.sites i) (S.pending i) (F.theirs c i other) here))
      (keeps-less c t (between S c i) (S.sites i) s (S.pending i) F.waiting (F.asks c t)))
      (λ l n. at-most-is (asked S c l t) (asked T c l t) (asks-moved c t (between S c l) (between T c l) (S.sites l) (T.sites l) (S.pending l) (F.theirs c l other) (there l n))) l

  keeps-other : (c : ℕ) → (c ≡ i → ⊥) → 0 < site_start S c → KeepsOk S c → KeepsOk T c
  keeps-other c other up k = keeps-at S T H F.later c (S.sites c) (there c other) refl k.acks k.reports
      (counteds-later S T H F.later (part S c) (term_at S c) (S.sites c).joiners k.joiners) k.alone k.leads
      (all-from (λ a. AsksToJoin T (part S c) a.slot (term_at S c) a.start) (S.sites c).asks (λ a is. ask-kept a.slot c (term_at S c) a.start slot (asked-kept a is)
      (all-at (λ a. AsksToJoin S (part S c) a.slot (term_at S c) a.start) (S.sites c).asks k.asks a is)))
      (waiting-turned c slot start k) (pending-turned c slot start k) k.on_disk k.held
    where
      slot : IsSlot S c
      slot = running-slot S H c up

      start : site_start T c ≡ site_start S c
      start = ap (λ z. z.start) (there c other)

      asked-kept : (a : Ask) → In a (S.sites c).asks → In a.start (asked S a.slot c (term_at S c))
      asked-kept a is =
          let t = term_at S c in
          let one : In a.start (asks_kept a.slot (S.sites c).asks) = in-map (λ z. z.start) a (filter (λ z. z.slot == a.slot) (S.sites c).asks)
          (filter-in (λ z. z.slot == a.slot) a (S.sites c).asks is (eqb-same a.slot)) in
          let kept : In a.start (asks_of_term a.slot t (S.sites c)) = rw (eqb-same t) one in
          in-asked S a.slot c t a.start (inr (inr kept))

  same-run : (c : ℕ) → (c ≡ i → ⊥) → SameRun S T c
  same-run c other = record { entered = λ t e is start. sym (F.entered c t other) ∙ is; streamed = λ t x is start. is }

  joiner-other : (c : ℕ) → (c ≡ i → ⊥) → (j : Joining) → (S.sites c).joining ≡ Some j → JoinerOk S c j → JoinerOk T c j
  joiner-other c other j joins k = joiner-keeps-with S T H F.later c site j (same-run c other) word k
    where
      site : SiteStays (S.sites c) (T.sites c)
      site = still-same (S.sites c) (T.sites c) (there c other)

      word : (w : Membership) → (S.sites c).view ≡ Some w → InWord S c w j → InWord T c w j
      word w view n = let decided = took-decided S H (site_start S c) w n.took in in_word-keeps-with S T H F.later c site w j (same-run c other)
          (λ l e. F.lines c l w j other joins k e)
          (λ l _ e d. (flows-same l c (site_start S c) (term_of w) ∙ e, ends-are-same l c (site_start S c) (term_of w) ∙ d))
          (λ l. asked-less c l (term_of w) other)
          (λ l _ _ z. elim z [
            | inl q ↦ inl (inert-keeps S T H F.later c site w l (from l) q)
            | inr q ↦ inr (
              subst (Coming T c w) (sym (flows-same l c (site_start S c) (term_of w)))
                  (coming-keeps S T H F.later c site w (flow (site_start S c) (term_of w) (between S l c)) (same-term q.0.leadership q.0.led)
                  (λ stream_start. F.counted c (site_start S c) stream_start w q.0.leadership decided q.0.led) q.0),
              at-most-none (asked S c l (term_of w)) (asked T c l (term_of w)) q.1 (asked-less c l (term_of w) other),
            )
          ])
          (λ stream_start q. took-keeps S T H F.later c site w j stream_start (same-term q.leadership q.led) from q)
          n
        where
          same-term : (g : Leadership) → S.logs.leadership (part S c) (term_of w) ≡ Some g → SameTerm S T (part S c) (term_of w)
          same-term g is = let p = F.led (part S c) (term_of w) g is in record { leadership = p.0; reach = p.1 }

          from : (l : ℕ) → SameFrom S T c l (term_of w)
          from l = record {
            lines = F.lines c l w j other joins k (n.lines l) ∙ sym (n.lines l);
            flows = flows-same l c (site_start S c) (term_of w);
            ends = λ e. ends-are-same l c (site_start S c) (term_of w) ∙ e;
            asks = asked-less c l (term_of w) other;
            uncounted = λ none x is. none x (set-both (λ d z. In x z.joiners → In x (S.sites d).joiners) S.sites i s (F.joiners x) (λ d _ y. y) l is);
          }

  site-other : (c : ℕ) → (c ≡ i → ⊥) → SiteOk T c
  site-other c other = site-keeps-with S T H F.later c (still-same (S.sites c) (T.sites c) (there c other)) refl
      (λ up none w view k. F.members c w other up none view k)
      (joiner-other c other)
      (keeps-other c other)
      (λ _ k. (ap (λ z. z.waiting) (there c other) ∙ k.0, ap (λ z. z.asks) (there c other) ∙ k.1, ap (λ z. z.joiners) (there c other) ∙ k.2, k.3))
      (H.sites c)

  views-other : (c : ℕ) → (c ≡ i → ⊥) → ViewsOk T c
  views-other c other = views-keeps-with S T H F.later c (ap (λ z. z.start) (there c other)) (ap (λ z. z.view) (there c other)) refl refl (λ x is. is)
      (leaves-same (site_start S c) (agent_to_site S c) (agent_to_site T c) (F.views c other)) (H.views c)

  -- ---- what was loaded, and streams

  loads-turned : LoadsOk T
  loads-turned = loads-later S T H F.later refl refl (λ c h. subst (AllByRecursion (ToldOk S c)) (sym (F.tells c h)) (H.loads.told c h)) F.agreed

  streamed-turned : (c t : ℕ) (x : Streaming) → S.logs.streamed c t ≡ Some x → en c t ≡ None → StreamedOk T c t x
  streamed-turned c t x is apart = let k = H.streamed c t x is in let r = F.led (part S c) t k.leadership k.led in
      streamed-later S T H F.later c t x k (k.leadership, r.0 ∙ k.led, refl, prefix-refl k.leadership.log) apart
      (λ runs. let y = stays S T H F.later c x.start k.been.some k.been.ran runs in
      let o = (k.running (sym y.start ∙ runs)).2 in let b = y.log in let e = r.1 in omega (arith, o, b, e))
      (F.counted c x.start x.stream_start k.word k.leadership (took-decided S H x.start k.word k.took) (subst (λ z. S.logs.leadership (part S c) z ≡ Some k.leadership) (sym k.term_is) k.led))

  -- ---- a site that keeps nothing but what waits

  pub fresh-keeps : 0 < site_start S i → s.start ≡ site_start S i → s.acks ≡ [] → s.reports ≡ [] → s.joiners ≡ [] → s.asks ≡ [] → s.on_disk ≤ length s.log
      → AllByRecursion HeldOk s.held → KeepsOk S i → KeepsOk T i
  fresh-keeps up start acks reports joiners asks on_disk held k = let slot = running-slot S H i up in record {
    acks = subst (λ z. AllByRecursion (λ a. IsSlot T a.0 → AckOk T a.0 (term_at T i) a.1) z) (sym (ap (λ z. z.acks) here ∙ acks)) tt;
    reports = subst (λ z. AllByRecursion (λ r. ReportOk T (part T i) r.slot (term_at T i) r.position r.floor r.tail) z) (sym (ap (λ z. z.reports) here ∙ reports)) tt;
    joiners = subst (AllByRecursion (CountedOk T (part T i) (term_at T i))) (sym none) tt;
    alone = subst (λ z. Distinct (map (λ j. j.slot) z)) (sym none) tt;
    leads = inl none;
    asks = subst (λ z. AllByRecursion (λ a. AsksToJoin T (part T i) a.slot (term_at T i) a.start) z) (sym (ap (λ z. z.asks) here ∙ asks)) tt;
    waiting = subst (AllByRecursion (SiteWaitingOk T i)) (sym (ap (λ z. z.waiting) here ∙ F.waiting)) (waiting-turned i slot same-start k);
    pending = pending-turned i slot same-start k;
    on_disk = subst (λ z. z.on_disk ≤ length z.log) (sym here) on_disk;
    held = subst (λ z. AllByRecursion HeldOk z.held) (sym here) held;
  }
    where
      same-start : site_start T i ≡ site_start S i
      same-start = ap (λ z. z.start) here ∙ start

      none : (T.sites i).joiners ≡ []
      none = ap (λ z. z.joiners) here ∙ joiners

  -- ---- all of it

  pub turned-holds : word.WordsHold T.words → SiteOk T i → ViewsOk T i → ((c : ℕ) → IsSlot S c → AllByRecursion (SiteLetterOk T i c) (new c))
      → ((c t : ℕ) (e : Entered) → en c t ≡ Some e → EnteredOk T c t e)
      → ((c t : ℕ) (x : Streaming) → S.logs.streamed c t ≡ Some x → en c t ≡ None)
      → ((p t : ℕ) (g : Leadership) → re p t ≡ Some g → LeadershipOk T p t g)
      → ((p t : ℕ) → re p t ≡ None → UnledOk T p t)
      → LogsHold T
  turned-holds words site views letters entered apart leaderships unled = record {
    words = words;
    sites = one-and-others (SiteOk T) i site site-other;
    views = one-and-others (ViewsOk T) i views views-other;
    letters = letters-turned letters;
    foreign = λ from c. all-mono (ForeignOk S c from) (ForeignOk T c from) (foreign-later S T H F.later c from) (ch from (Site c)) (F.foreign from c);
    loads = loads-turned;
    entered = entered;
    streamed = λ c t x is. streamed-turned c t x is (apart c t x is);
    leaderships = leaderships;
    unled = unled;
    some = H.some;
    first = λ p. let o = H.first p in (o.0, (F.led p (epoch_base S) o.0 o.1).0 ∙ o.1);
  }
