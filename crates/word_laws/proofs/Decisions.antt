-- A member decides its word: what holds, holds after that.
use Rattle.std.proofs.Common.{◌≡◌, ◌<◌, true, List, [], ◌∷◌, refl, sym, subst, ap, ◌∙◌, inl, inr}
use Rattle.std.specs.Prelude.{ℕ, Some}
use Rattle.std.specs.List.{AllByRecursion}
use Rattle.volt_wire.specs.Word.{Membership}
use Rattle.volt_wire.specs.declared.actor.Actor.TheVariants.{Agent}
use Rattle.volt_wire.specs.declared.message.Msg.TheVariants as msg
use Rattle.cluster_model.specs.Words.{start_of, admits}
use Rattle.cluster_model.specs.Letters.{Letter, Sends, open_letter}
use Rattle.cluster_model.specs.AgentState.{AgentState, initiates}
use Rattle.cluster_steps.specs.Lists.{In, OnSome}
use Rattle.word_laws.specs.Histories.{State, History, Within, Comparable, names, agent_start, GoodWord, SaidBy, LetterOk, ClosesFrom, InOrder, QueuedAdmissionOk, AgentWaitingOk, OwnOk, AgentOk, HistoryOk, Telling, OwnIs, WordsHold}
use Rattle.cluster_steps.proofs.Lists.{all-mono, some-here, set-both, none-and-some}
use Rattle.word_laws.proofs.Channels.{telling-left}
use Rattle.cluster_steps.proofs.Channels.{sent-keep}
use Rattle.word_laws.proofs.Algebra.{within-refl}
use Rattle.word_laws.proofs.Moves.{after_agent, WordsLater}
use Rattle.word_laws.proofs.Agreement.{agrees-with, between-said, running-member}
use Rattle.word_laws.proofs.Laters.{good-later, admitted_ok-later}
use Rattle.word_laws.proofs.Turns.{Decides, IsRequest, request-cases, DecidedOrRequest}
use Rattle.word_laws.proofs.Steps.{later-after, agent-later, came-after}
use Rattle.word_laws.proofs.Continues.{continues-holds}

-- ---- a member decides

module _ (S : State) (H : WordsHold S) (n : ℕ) (v : Membership) (a : AgentState) (out : Sends)
    (up : 0 < agent_start S n) (own : (S.agents n).own ≡ Some v) (member : names v (agent_start S n) ≡ true)
    (others : (h r : ℕ) → start_of v h ≡ Some r → In v (S.history.said r))
    (d : Decides n (S.agents n) v a)
    (sends : (g : ℕ) → AllByRecursion (DecidedOrRequest v) (out (Agent g))) where
  abbrev G : History
  G = record S.history { decided = v ∷ S.history.decided }

  -- the state after it
  abbrev T : State
  T = after_agent S n a out G

  owned : S.owner (agent_start S n) ≡ n
  owned = ((H.hosts n).running up).0

  good : GoodWord S v
  good = (some-here (OwnOk S (agent_start S n)) (S.agents n).own v own (H.agents n).own).good

  mine : start_of v n ≡ Some (agent_start S n)
  mine = subst (λ z. start_of v z ≡ Some (agent_start S n)) owned (running-member S H.history v (agent_start S n) good member (ap (agent_start S) owned))

  later : WordsLater S T
  later = later-after S n a out G (inl d.start) refl refl (λ r u i. i) (λ r u e. e) (λ u i. inr i) (λ x i. i)

  comparable : (u : Membership) → In u S.history.decided → Comparable u v
  comparable u i = agrees-with S H.history v good others n (agent_start S n) mine u i

  turned : (u w : Membership) → Comparable u w → Comparable w u
  turned u w (inl p) = inr p
  turned u w (inr p) = inl p

  history : HistoryOk T
  history = record {
    first_owned = H.history.first_owned;
    first_one = H.history.first_one;
    first_plain = H.history.first_plain;
    first_decided = inr H.history.first_decided;
    decided_good = λ u i. good-later S T later u (elim i [ inl e ↦ subst (GoodWord S) e good | inr j ↦ H.history.decided_good u j ]);
    said_good = λ s. all-mono (GoodWord S) (GoodWord T) (good-later S T later) (S.history.said s) (H.history.said_good s);
    said_names = H.history.said_names;
    said_falls = H.history.said_falls;
    knows = H.history.knows;
    one_way = H.history.one_way;
    members_said = λ u i h r m. elim i [
      | inl e ↦ subst (λ z. In z (S.history.said r)) e (others h r (subst (λ z. start_of z h ≡ Some r) (sym e) m))
      | inr j ↦ H.history.members_said u j h r m
    ];
    has_member = λ u i. elim i [
      | inl e ↦ inr (n, agent_start S n, subst (λ z. start_of z n ≡ Some (agent_start S n)) e mine)
      | inr j ↦ H.history.has_member u j
    ];
    chain = λ u w i j. elim i [
      | inl e ↦ elim j [
        | inl f ↦ inl (subst (λ z. Within u z) (sym e ∙ f) (within-refl u))
        | inr j ↦ subst (λ z. Comparable z w) e (turned w v (comparable w j))
      ]
      | inr i ↦ elim j [
        | inl f ↦ subst (λ z. Comparable u z) f (comparable u i)
        | inr j ↦ H.history.chain u w i j
      ]
    ];
    took_ok = λ j u e. let k = H.history.took_ok j u e in (inr k.0, later.begun j k.1, k.2, k.3);
    admitted_ok = λ x i. admitted_ok-later S T later x (H.history.admitted_ok x i);
    once = H.history.once;
    one_each = H.history.one_each;
    nothing_between = λ u i x k p q. elim i [
      | inl e ↦ subst (λ z. admits z x.start ≡ true) e (between-said S H.history v good others n (agent_start S n) mine x k
          (subst (λ z. Within x.at z) (sym e) p) (λ r. q (subst (λ z. Within z x.at) e r)))
      | inr j ↦ H.history.nothing_between u j x k p q
    ];
  }

  -- ---- channels

  either : (P : Letter → Type 0) → P (open_letter (msg.Decided v)) → ((l : Letter) → IsRequest l → P l) → (l : Letter) → DecidedOrRequest v l → P l
  either P p q l k = elim k [ inl e ↦ subst P (sym e) p | inr r ↦ q l r ]

  out-all : (P : Letter → Type 0) (g : ℕ) → P (open_letter (msg.Decided v)) → ((l : Letter) → IsRequest l → P l) → AllByRecursion P (out (Agent g))
  out-all P g p q = all-mono (DecidedOrRequest v) P (either P p q) (out (Agent g)) (sends g)

  in-order : (began : List ℕ) (ls : List Letter) → AllByRecursion (DecidedOrRequest v) ls → InOrder began ls
  in-order began [] k = tt
  in-order began (l ∷ ls) k = (
    either (λ z. elim z.body as (λ _. Type 0) [ msg.Admit j ↦ AllByRecursion (ClosesFrom began j) ls | _ ↦ Unit {0} ]) tt
        (request-cases _ (λ z call start client body. tt) (λ z call start client body. tt)) l k.0,
    in-order began ls k.1,
  )

  closes : (g j : ℕ) → AllByRecursion (ClosesFrom (S.history.began n) j) (out (Agent g))
  closes g j = out-all (ClosesFrom (S.history.began n) j) g tt (request-cases _ (λ l call start client body. tt) (λ l call start client body. tt))

  -- ---- the agent

  kept-agent : AgentOk T n (S.agents n)
  kept-agent = agent-later S T later n (S.agents n) refl refl (λ u none x i e. i) (came-after S n a out G later refl closes n) (H.agents n)

  this-agent : AgentOk T n a
  this-agent = let k = kept-agent in record {
    own = subst (λ z. OnSome (OwnOk T z) a.own) (sym d.start) (subst (λ z. OnSome (OwnOk T (agent_start S n)) z) (sym d.own) k.own);
    alone = λ u none. absurd (none-and-some (sym d.own ∙ none) own);
    decided = subst (λ z. OnSome (λ w. In w (v ∷ S.history.decided) × (names w a.start ≡ true)) z) (sym d.decided) (inl refl, subst (λ z. names v z ≡ true) (sym d.start) member);
    taken = subst (λ z. OnSome (λ w. (S.history.took z ≡ Some w) × In w (v ∷ S.history.decided)) a.taken) (sym d.start)
        (subst (λ z. OnSome (λ w. (S.history.took (agent_start S n) ≡ Some w) × In w (v ∷ S.history.decided)) z) (sym d.taken) k.taken);
    untaken = λ u e. ap S.history.took d.start ∙ k.untaken (subst (λ z. 0 < z) d.start u) (sym d.taken ∙ e);
    wordless = λ none. absurd (none-and-some (sym d.own ∙ none) own);
    joins = λ none. absurd (none-and-some (sym d.decided ∙ none) refl);
    heard = λ g. subst (λ z. OnSome (SaidBy T g) (z g)) (sym d.said) (k.heard g);
    waiting = subst (λ z. AllByRecursion (AgentWaitingOk T n) z) (sym d.waiting) k.waiting;
    queue = subst (λ z. AllByRecursion (QueuedAdmissionOk T n) z) (sym d.queue) k.queue;
    initiates = elim d.phase [ inl p ↦ inl p | inr p ↦ inr (subst (λ z. initiates n a z ≡ true) (sym d.decided) p) ];
  }

  same-own : (h : ℕ) → (T.agents h).own ≡ (S.agents h).own
  same-own h = set-both (λ k x. x.own ≡ (S.agents k).own) S.agents n a d.own (λ k e. refl) h

  own-is : (P : Membership → Type 0) (h : ℕ) → OwnIs P (S.agents h) → OwnIs P (T.agents h)
  own-is P h o = (o.0, same-own h ∙ o.1, o.2)

  -- A member decides its word.
  pub decides-holds : WordsHold T
  decides-holds = continues-holds S H n a out G (record {
    up = up;
    start = d.start;
    began = refl;
    later = later;
    said = λ r e. refl;
    took_word = λ r e. refl;
    admitted = λ h u none x i e. i;
    agent = this-agent;
    letters = λ g. out-all (LetterOk T n g) g (refl, inl refl) (request-cases (LetterOk T n g) (λ l call start client body. tt) (λ l call start client body. tt));
    order = λ g. in-order (S.history.began n) (out (Agent g)) (sends g);
    closes = closes;
    history = history;
    loses = λ o l. (l.0, d.own ∙ l.1, l.2);
  }) (λ x i c m e r. elim (H.told x i c m e r) [
    | inl o ↦ inl (own-is (λ z. admits z x.start ≡ true) (S.owner c) o)
    | inr t ↦ inr (
      sent-keep (Telling c x.start x.by) (telling-left c x.start x.by) S.channel n out (S.owner x.by) (Agent (S.owner c)) t.0,
      λ u p. t.1 u (sym (same-own (S.owner c)) ∙ p),
    )
  ])
