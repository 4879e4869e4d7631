-- An agent goes on after its turn, with a history that grew: what must hold of the turn, so that what holds, holds after it.
use Rattle.std.proofs.Common.{◌≡◌, ◌<◌, true, refl, sym, subst, ap, ◌∙◌, inl, inr}
use Rattle.std.specs.Prelude.{ℕ, None}
use Rattle.std.specs.List.{AllByRecursion}
use Rattle.volt_wire.specs.declared.actor.Actor.TheVariants.{Agent}
use Rattle.cluster_model.specs.Letters.{Sends}
use Rattle.cluster_model.specs.AgentState.{AgentState}
use Rattle.cluster_model.specs.World.{sent}
use Rattle.cluster_steps.specs.Lists.{In}
use Rattle.word_laws.specs.Histories.{State, History, Admitted, names, agent_start, IsRunning, Gone, LetterOk, ClosesFrom, InOrder, ChannelOk, AgentOk, HistoryOk, ClosedUnderWay, Told, HearsClosed, WordsHold}
use Rattle.cluster_steps.proofs.Lists.{all-append, all-mono, set-both}
use Rattle.cluster_steps.proofs.Channels.{sent-both, sent-keep}
use Rattle.word_laws.proofs.Channels.{order-append, closing-left}
use Rattle.word_laws.proofs.Moves.{OwnLost, after_agent, WordsLater}
use Rattle.word_laws.proofs.Laters.{letter-later}
use Rattle.word_laws.proofs.Steps.{host-after, agent-later, came-after}

-- The agent keeps its start, other starts said and took nothing more, and what it says is in order.
pub record Continues (S : State) (n : ℕ) (a : AgentState) (out : Sends) (G : History) : Type 0 where
  pub up : 0 < agent_start S n
  pub start : a.start ≡ agent_start S n
  pub began : G.began ≡ S.history.began
  pub later : WordsLater S (after_agent S n a out G)
  pub said : (r : ℕ) → (r ≡ agent_start S n → ⊥) → G.said r ≡ S.history.said r
  pub took_word : (r : ℕ) → (r ≡ agent_start S n → ⊥) → G.took r ≡ S.history.took r
  -- nobody without a word was admitted
  pub admitted : (h : ℕ) → 0 < agent_start S h → (S.agents h).own ≡ None → (x : Admitted) → In x G.admitted → x.start ≡ agent_start S h → In x S.history.admitted
  pub agent : AgentOk (after_agent S n a out G) n a
  pub letters : (g : ℕ) → AllByRecursion (LetterOk (after_agent S n a out G) n g) (out (Agent g))
  pub order : (g : ℕ) → InOrder (S.history.began n) (out (Agent g))
  pub closes : (g j : ℕ) → AllByRecursion (ClosesFrom (S.history.began n) j) (out (Agent g))
  pub history : HistoryOk (after_agent S n a out G)
  pub loses : (o : ℕ) → OwnLost o (S.agents n) → OwnLost o a

-- each agent has the start that it had
pub starts-on : (S : State) (n : ℕ) (a : AgentState) (out : Sends) (G : History) → a.start ≡ agent_start S n → (h : ℕ) → agent_start (after_agent S n a out G) h ≡ agent_start S h
starts-on S n a out G e h = set-both (λ k x. x.start ≡ (S.agents k).start) S.agents n a e (λ k d. refl) h

module _ (S : State) (H : WordsHold S) (n : ℕ) (a : AgentState) (out : Sends) (G : History) (c : Continues S n a out G) where
  abbrev T : State
  T = after_agent S n a out G

  starts : (h : ℕ) → agent_start T h ≡ agent_start S h
  starts h = starts-on S n a out G c.start h

  owned : S.owner (agent_start S n) ≡ n
  owned = ((H.hosts n).running c.up).0

  -- the starts of other hosts are others
  other-start : (h : ℕ) → (h ≡ n → ⊥) → agent_start S h ≡ agent_start S n → ⊥
  other-start h d e = d (sym ((H.hosts h).running (subst (λ z. 0 < z) (sym e) c.up)).0 ∙ ap S.owner e ∙ owned)

  -- what holds of agents
  pub continues-agents : (h : ℕ) → AgentOk T h (T.agents h)
  continues-agents h = set-both (λ k x. AgentOk T k x) S.agents n a c.agent
      (λ k d. agent-later S T c.later k (S.agents k) (c.said (agent_start S k) (other-start k d)) (c.took_word (agent_start S k) (other-start k d)) (c.admitted k)
      (came-after S n a out G c.later c.began c.closes k) (H.agents k))
      h

  before : (h g : ℕ) → AllByRecursion (LetterOk T h g) (S.channel (Agent h) (Agent g))
  before h g = all-mono (LetterOk S h g) (LetterOk T h g) (letter-later S T c.later h g) (S.channel (Agent h) (Agent g)) (H.channels h g).letters

  channels : (h g : ℕ) → ChannelOk T h g
  channels h g = record {
    letters = sent-both (λ x. AllByRecursion (LetterOk T h g) x) S.channel n out h (Agent g)
        (λ q. all-append (LetterOk T h g) (S.channel (Agent h) (Agent g)) (out (Agent g)) (before h g) (subst (λ y. AllByRecursion (LetterOk T y g) (out (Agent g))) q (c.letters g)))
        (λ q. before h g);
    ordered = subst (λ f. InOrder (f h) (sent S.channel (Agent n) out (Agent h) (Agent g))) (sym c.began)
        (sent-both (λ x. InOrder (S.history.began h) x) S.channel n out h (Agent g)
        (λ q. order-append (S.history.began h) (S.channel (Agent h) (Agent g)) (out (Agent g)) (H.channels h g).ordered
        (subst (λ y. InOrder (S.history.began y) (out (Agent g))) q (c.order g))
        (λ j. subst (λ y. AllByRecursion (ClosesFrom (S.history.began y) j) (out (Agent g))) q (c.closes g j)))
        (λ q. (H.channels h g).ordered));
  }

  gone-before : (o : ℕ) → Gone T o → Gone S o
  gone-before o gone = (
    record { some = gone.0.some; below = gone.0.below; host = gone.0.host; began = subst (λ f. In o (f (S.owner o))) c.began gone.0.began },
    λ e. gone.1 (starts (S.owner o) ∙ e),
  )

  not-here : (o : ℕ) → Gone T o → o ≡ agent_start S n → ⊥
  not-here o gone e = gone.1 (starts (S.owner o) ∙ ap (agent_start S) (ap S.owner e ∙ owned) ∙ sym e)

  own-lost : (g o : ℕ) → OwnLost o (S.agents g) → OwnLost o (T.agents g)
  own-lost g o l = set-both (λ k x. OwnLost o (S.agents k) → OwnLost o x) S.agents n a (c.loses o) (λ k d l. l) g l

  heard : (g o : ℕ) → Gone T o → HearsClosed S g o → HearsClosed T g o
  heard g o gone (inl k) = inl (sent-keep (ClosedUnderWay o) (closing-left o) S.channel n out (S.owner o) (Agent g) k)
  heard g o gone (inr (inl l)) = inr (inl (own-lost g o l))
  heard g o gone (inr (inr f)) = inr (inr (λ w i. ap (names w) (starts g) ∙ f w (subst (λ us. In w us) (c.said o (not-here o gone)) i)))

  -- where who runs knows whom it must know admitted
  pub continues-holds : ((x : Admitted) → In x G.admitted → (k : ℕ) → names x.at k ≡ true → (k ≡ x.by → ⊥) → IsRunning S k → Told T x k) → WordsHold T
  continues-holds told = record {
    some = H.some;
    hosts = λ h. host-after S n a out G (inl c.start) c.began h (H.hosts h);
    agents = continues-agents;
    channels = channels;
    history = c.history;
    told = λ x i k m e r. told x i k m e (sym (starts (S.owner k)) ∙ r);
    heard = λ g o up gone other. heard g o gone (H.heard g o (subst (λ z. 0 < z) (starts g) up) (gone-before o gone) other);
  }
