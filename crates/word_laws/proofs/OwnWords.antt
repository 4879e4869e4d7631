-- A member's own word grows, and it says so: what holds, holds after that.
use Rattle.std.proofs.Common.{◌≡◌, ◌<◌, Bool, true, false, List, [], ◌∷◌, ◌++◌, refl, sym, subst, ap, ◌∙◌, ◌⊎◌, inl, inr, ◌==◌}
use Rattle.std.proofs.lemmas.Bool.{cases_Bool, eqb-true, cases_eq}
use Rattle.std.specs.Prelude.{ℕ, ◌&&◌, not, if◌then◌else◌, Option, Some, None}
use Rattle.std.specs.List.{AllByRecursion}
use Rattle.volt_wire.specs.Word.{Membership}
use Rattle.volt_wire.specs.declared.actor.Actor.TheVariants.{Agent}
use Rattle.volt_wire.specs.declared.message.Msg.TheVariants as msg
use Rattle.cluster_model.specs.Words.{Deployment, is_host, is_in, start_of, is_member, admits}
use Rattle.cluster_model.specs.Letters.{Letter, Sends, letter_to}
use Rattle.cluster_model.specs.AgentState.{AgentState}
use Rattle.cluster_model.specs.Agent.{word_to}
use Rattle.cluster_steps.specs.Lists.{In, OnSome}
use Rattle.word_laws.specs.Histories.{State, History, Admitted, Within, Alike, names, agent_start, IsRunning, GoodWord, SaidBy, LetterOk, ClosesFrom, InOrder, CameOk, QueuedAdmissionOk, AgentWaitingOk, OwnOk, AgentOk, Falls, AdmittedOk, HistoryOk, IsClosed, Telling, OwnIs, Told, WordsHold}
use Rattle.cluster_steps.proofs.Lists.{all-mono, some-here, some-mono, not-both, eqb-same, same-some, none-and-some, set-both}
use Rattle.word_laws.proofs.Channels.{telling-left, telling-end}
use Rattle.cluster_steps.proofs.Channels.{sent-keep}
use Rattle.word_laws.proofs.Algebra.{within-trans, names-within}
use Rattle.word_laws.proofs.Members.{start-is_member}
use Rattle.word_laws.proofs.Moves.{after_agent, WordsLater}
use Rattle.word_laws.proofs.Agreement.{said-good, runs-not-lost, running-member, at-good}
use Rattle.word_laws.proofs.Laters.{good-later, said_by-later, waiting-later, queued-later}
use Rattle.word_laws.proofs.Steps.{later-after, came-after}
use Rattle.word_laws.proofs.Continues.{Continues, starts-on, continues-agents, continues-holds}

-- ---- the word of a member, and what its agent says of it

-- the message that says this word to host g
abbrev pub said_to : Deployment → ℕ → ℕ → Membership → ℕ → List Letter
said_to D n s v g = if is_member v n s && is_host D g && not (g == n) then word_to v (start_of v g) else []

word-letters : (P : Letter → Type 0) (v : Membership) (start : Option ℕ) → ((c : ℕ) → start ≡ Some c → P (letter_to c (msg.Word v.base v.lost v.admitted))) → AllByRecursion P (word_to v start)
word-letters P v None f = tt
word-letters P v (Some c) f = (f c refl, tt)

letters-if : (P : Letter → Type 0) (b : Bool) (xs : List Letter) → (b ≡ true → AllByRecursion P xs) → AllByRecursion P (if b then xs else [])
letters-if P true xs f = f refl
letters-if P false xs f = tt

said_to-all : (P : Letter → Type 0) (D : Deployment) (n s : ℕ) (v : Membership) (g : ℕ) → ((c : ℕ) → start_of v g ≡ Some c → P (letter_to c (msg.Word v.base v.lost v.admitted))) → AllByRecursion P (said_to D n s v g)
said_to-all P D n s v g f = letters-if P (is_member v n s && is_host D g && not (g == n)) (word_to v (start_of v g)) (λ b. word-letters P v (start_of v g) f)

-- ---- a member says its new word

-- what a start said, with one word more of this start
abbrev pub said_more : (ℕ → List Membership) → ℕ → Membership → ℕ → List Membership
said_more said s v r = if r == s then v ∷ said s else said r

-- the state once the agent of host n has this word, and has said it
abbrev pub spoken : State → ℕ → Membership → (ℕ → Option Membership) → Sends → List Admitted → State
spoken S n v heard out A =
    after_agent S n (record (S.agents n) { own = Some v; said = heard }) out (record S.history { said = said_more S.history.said (agent_start S n) v; admitted = A })

-- of the admissions after it, one that wasn't there before
pub record NewHere (S : State) (n : ℕ) (v : Membership) (x : Admitted) : Type 0 where
  pub by : x.by ≡ agent_start S n
  pub within : Within x.at v
  pub holds : admits v x.start ≡ true
  pub word : Membership
  pub took : S.history.took x.start ≡ Some word

-- a list that got longer for one number alone
pub said-both : (P : ℕ → List Membership → Type 0) (said : ℕ → List Membership) (s : ℕ) (v : Membership) → P s (v ∷ said s) → ((r : ℕ) → (r ≡ s → ⊥) → P r (said r)) → (r : ℕ) → P r (said_more said s v r)
said-both P said s v = set-both P said s (v ∷ said s)

module _ (S : State) (H : WordsHold S) (n : ℕ) (w v : Membership) (heard : ℕ → Option Membership) (out : Sends) (A : List Admitted)
    (up : 0 < agent_start S n) (own : (S.agents n).own ≡ Some w) (low : Within w v) (member : names v (agent_start S n) ≡ true)
    (hears : (k : ℕ) → OnSome (SaidBy S k) (heard k))
    (sends : (g : ℕ) → out (Agent g) ≡ said_to S.deployment n (agent_start S n) v g)
    (grows : (x : Admitted) → In x S.history.admitted → In x A)
    (new : (x : Admitted) → In x A → In x S.history.admitted ⊎ NewHere S n v x)
    (good : GoodWord (spoken S n v heard out A) v)
    (ok : (x : Admitted) → In x A → AdmittedOk (spoken S n v heard out A) x)
    (once : (x y : Admitted) → In x A → In y A → x.start ≡ y.start → x ≡ y)
    (one_each : (x y : Admitted) → In x A → In y A → Alike x.at y.at → x ≡ y)
    (between : (u : Membership) → In u S.history.decided → (x : Admitted) → In x A → Within x.at u → (Within u x.at → ⊥) → admits u x.start ≡ true)
    (knows : (x : Admitted) → In x A → is_in x.by v.lost ≡ true → admits v x.start ≡ true) where
  abbrev s : ℕ
  s = agent_start S n

  abbrev a : AgentState
  a = record (S.agents n) { own = Some v; said = heard }

  abbrev G : History
  G = record S.history { said = said_more S.history.said s v; admitted = A }

  -- the state after it
  abbrev T : State
  T = spoken S n v heard out A

  owned : S.owner s ≡ n
  owned = ((H.hosts n).running up).0

  starts : (h : ℕ) → agent_start T h ≡ agent_start S h
  starts h = starts-on S n a out G refl h

  runs-before : (r : ℕ) → IsRunning T r → IsRunning S r
  runs-before r e = sym (starts (S.owner r)) ∙ e

  runs-here : IsRunning S s
  runs-here = ap (agent_start S) owned

  later : WordsLater S T
  later = later-after S n a out G (inl refl) refl refl
      (λ r u i. said-both (λ k us. (u : Membership) → In u (S.history.said k) → In u us) S.history.said s v (λ x j. inr j) (λ k d x j. j) r u i)
      (λ r u e. e) (λ u i. i) grows

  -- a word that was said is one of those before, or the new one
  in-said : (r : ℕ) (u : Membership) → In u (said_more S.history.said s v r) → In u (S.history.said r) ⊎ ((r ≡ s) × (v ≡ u))
  in-said r u i =
      said-both (λ k us. (u : Membership) → In u us → In u (S.history.said k) ⊎ ((k ≡ s) × (v ≡ u))) S.history.said s v
      (λ x j. elim j [ inl e ↦ inr (refl, e) | inr j ↦ inl j ]) (λ k d x j. inl j) r u i

  -- the start that speaks is lost in none
  not-lost : (r : ℕ) (u : Membership) → In u (said_more S.history.said s v r) → is_in s u.lost ≡ true → ⊥
  not-lost r u i l = elim (in-said r u i) [
    | inl j ↦ not-both (is_in s u.lost) l (runs-not-lost S H.history u s (said-good S H.history r u j) runs-here)
    | inr e ↦ (good.lost_gone s (subst (λ z. is_in s z.lost ≡ true) (sym e.1) l)).1 (starts (S.owner s) ∙ runs-here)
  ]

  told-of : (u : Membership) (r : ℕ) → In u (S.history.said r) → (x : Admitted) → In x A → is_in x.by u.lost ≡ true → admits u x.start ≡ true
  told-of u r i x k l = elim (new x k) [
    | inl o ↦ H.history.knows r u i x o l
    | inr b ↦ absurd (not-both (is_in s u.lost) (subst (λ z. is_in z u.lost ≡ true) b.by l)
        (runs-not-lost S H.history u s (said-good S H.history r u i) runs-here))
  ]

  -- all that it said before is within the new word
  said-below : AllByRecursion (λ u. Within u v) (S.history.said s)
  said-below = elim (cases_Bool (names w s)) [
    | inl m ↦ let q = own-ok.member m in
        subst (λ us. AllByRecursion (λ u. Within u v) us) (sym q.1)
        (low, all-mono (λ u. Within u w) (λ u. Within u v) (λ u p. within-trans u w v p low) q.0 (subst (λ us. Falls us) q.1 (H.history.said_falls s)).0)
    | inr j ↦ subst (λ us. AllByRecursion (λ u. Within u v) us) (sym (own-ok.joiner j)) tt
  ]
    where
      own-ok : OwnOk S s w
      own-ok = some-here (OwnOk S s) (S.agents n).own w own (H.agents n).own

  history : HistoryOk T
  history = record {
    first_owned = H.history.first_owned;
    first_one = H.history.first_one;
    first_plain = H.history.first_plain;
    first_decided = H.history.first_decided;
    decided_good = λ u i. good-later S T later u (H.history.decided_good u i);
    said_good = said-both (λ r us. AllByRecursion (GoodWord T) us) S.history.said s v
        (good, all-mono (GoodWord S) (GoodWord T) (good-later S T later) (S.history.said s) (H.history.said_good s))
        (λ r d. all-mono (GoodWord S) (GoodWord T) (good-later S T later) (S.history.said r) (H.history.said_good r));
    said_names = said-both (λ r us. AllByRecursion (λ u. names u r ≡ true) us) S.history.said s v
        (member, H.history.said_names s) (λ r d. H.history.said_names r);
    said_falls = said-both (λ r us. Falls us) S.history.said s v (said-below, H.history.said_falls s) (λ r d. H.history.said_falls r);
    knows = λ r u i x k l. elim (in-said r u i) [
      | inl j ↦ told-of u r j x k l
      | inr e ↦ subst (λ z. admits z x.start ≡ true) e.1 (knows x k (subst (λ z. is_in x.by z.lost ≡ true) (sym e.1) l))
    ];
    one_way = λ r q x y i j l m. elim (in-said r x i) [
      | inl i' ↦ elim (in-said q y j) [
        | inl j' ↦ H.history.one_way r q x y i' j' l m
        | inr e ↦ not-lost r x i (subst (λ z. is_in z x.lost ≡ true) e.0 l)
      ]
      | inr e ↦ not-lost q y j (subst (λ z. is_in z y.lost ≡ true) e.0 m)
    ];
    members_said = λ u i h r m. later.said r u (H.history.members_said u i h r m);
    has_member = H.history.has_member;
    chain = H.history.chain;
    took_ok = λ j u e. let k = H.history.took_ok j u e in (k.0, later.begun j k.1, k.2, k.3);
    admitted_ok = ok;
    once = once;
    one_each = one_each;
    nothing_between = between;
  }

  -- ---- channels

  -- the word as a message spells it
  spelled : record S.history.first { lost = v.lost; admitted = v.admitted } ≡ v
  spelled = ap (λ z. record v { base = S.history.first.base; first = z }) (sym good.first) ∙ ap (λ z. record v { base = z }) (sym good.base)

  word-ok : (g c : ℕ) → start_of v g ≡ Some c → LetterOk T n g (letter_to c (msg.Word v.base v.lost v.admitted))
  word-ok g c e = (
    refl,
    good.base,
    subst (SaidBy T n) (sym spelled) (s, mine, here),
    ap (λ z. start_of z g) spelled ∙ e,
  )
    where
      mine : start_of v n ≡ Some s
      mine = subst (λ z. start_of v z ≡ Some s) owned
          (running-member T history v s good member (starts (S.owner s) ∙ runs-here))

      here : In v (said_more S.history.said s v s)
      here = said-both (λ r us. r ≡ s → In v us) S.history.said s v (λ e. inl refl) (λ r d e. absurd (d e)) s refl

  out-all : (P : Letter → Type 0) (g : ℕ) → ((c : ℕ) → start_of v g ≡ Some c → P (letter_to c (msg.Word v.base v.lost v.admitted))) → AllByRecursion P (out (Agent g))
  out-all P g f = subst (AllByRecursion P) (sym (sends g)) (said_to-all P S.deployment n s v g f)

  in-order : (began : List ℕ) (g : ℕ) → InOrder began (out (Agent g))
  in-order began g = subst (InOrder began) (sym (sends g)) (if-order (is_member v n s && is_host S.deployment g && not (g == n)))
    where
      word-order : (start : Option ℕ) → InOrder began (word_to v start)
      word-order None = tt
      word-order (Some c) = (tt, tt)

      if-order : (b : Bool) → InOrder began (if b then word_to v (start_of v g) else [])
      if-order true = word-order (start_of v g)
      if-order false = tt

  -- ---- agents

  same-said : (r : ℕ) → (r ≡ s → ⊥) → said_more S.history.said s v r ≡ S.history.said r
  same-said r d = said-both (λ k us. (k ≡ s → ⊥) → us ≡ S.history.said k) S.history.said s v (λ e. absurd (e refl)) (λ k e f. refl) r d

  -- one that has no word isn't admitted
  not-new : (h : ℕ) → 0 < agent_start S h → (S.agents h).own ≡ None → (x : Admitted) → In x A → x.start ≡ agent_start S h → ⊥
  not-new h u none x i e = elim (new x i) [
    | inl o ↦ ((H.agents h).alone u none).0.not_admitted x o e
    | inr b ↦ absurd (none-and-some ((H.agents h).untaken u ((H.agents h).wordless none)) (subst (λ z. S.history.took z ≡ Some b.word) e b.took))
  ]

  closes : (g j : ℕ) → AllByRecursion (ClosesFrom (S.history.began n) j) (out (Agent g))
  closes g j = out-all (ClosesFrom (S.history.began n) j) g (λ c e. tt)

  came : (h term j : ℕ) → CameOk S h n term j → CameOk T h n term j
  came = came-after S n a out G later refl closes n

  this-agent : AgentOk T n a
  this-agent = let k = H.agents n in record {
    own = record {
      good = good;
      member = λ m. (S.history.said s, said-both (λ r us. r ≡ s → us ≡ v ∷ S.history.said s) S.history.said s v (λ e. refl) (λ r d e. absurd (d e)) s refl);
      joiner = λ m. absurd (not-both (names v s) member m);
    };
    alone = λ u none. absurd (none-and-some none refl);
    decided = k.decided;
    taken = k.taken;
    untaken = k.untaken;
    wordless = λ none. absurd (none-and-some none refl);
    joins = λ d t. absurd (none-and-some (k.joins d t) own);
    heard = λ g. some-mono (SaidBy S g) (SaidBy T g) (said_by-later S T later g) (heard g) (hears g);
    waiting = all-mono (AgentWaitingOk S n) (AgentWaitingOk T n) (λ x. waiting-later S T n came x.from x.letter) (S.agents n).waiting k.waiting;
    queue = all-mono (QueuedAdmissionOk S n) (QueuedAdmissionOk T n) (queued-later S T n came) (S.agents n).initiating.queue k.queue;
    initiates = k.initiates;
  }

  goes-on : Continues S n a out G
  goes-on = record {
    up = up;
    start = refl;
    began = refl;
    later = later;
    said = same-said;
    took_word = λ r d. refl;
    admitted = λ h u none x i e. absurd (not-new h u none x i e);
    agent = this-agent;
    letters = λ g. out-all (LetterOk T n g) g (word-ok g);
    order = λ g. in-order (S.history.began n) g;
    closes = closes;
    history = history;
    loses = λ o l. (v, refl, low.lost o (subst (λ z. is_in o z.lost ≡ true) (same-some (sym l.1 ∙ own)) l.2));
  }

  -- ---- who knows of admissions

  own-is : (P : Membership → Type 0) (h : ℕ) → ((h ≡ n → ⊥) → OwnIs P (S.agents h)) → (h ≡ n → P v) → OwnIs P (T.agents h)
  own-is P h f g = set-both (λ k x. ((k ≡ n → ⊥) → OwnIs P (S.agents k)) → (k ≡ n → P v) → OwnIs P x) S.agents n a
      (λ f g. (v, refl, g refl)) (λ k d f g. f d) h f g

  own-grew : (P : Membership → Type 0) → ((u : Membership) → Within u v → P u → P v) → (h : ℕ) → OwnIs P (S.agents h) → OwnIs P (T.agents h)
  own-grew P f h o = own-is P h (λ d. o) (λ e. f o.0 (subst (λ z. Within z v) (same-some (sym own ∙ ap (λ z. (S.agents z).own) (sym e) ∙ o.1)) low) o.2)

  told-old : (x : Admitted) → In x A → (c : ℕ) → Told S x c → Told T x c
  told-old x i c (inl o) = inl (own-grew (λ z. admits z x.start ≡ true) (λ u p q. p.admitted x.start q) (S.owner c) o)
  told-old x i c (inr t) = choose-host (cases_eq (S.owner c) n)
    where
      telling : Telling c x.start x.by (T.channel (Agent (S.owner x.by)) (Agent (S.owner c)))
      telling = sent-keep (Telling c x.start x.by) (telling-left c x.start x.by) S.channel n out (S.owner x.by) (Agent (S.owner c)) t.0

      other-own : (S.owner c ≡ n → ⊥) → (u : Membership) → (T.agents (S.owner c)).own ≡ Some u → is_in x.by u.lost ≡ true → ⊥
      other-own d = set-both (λ k y. (k ≡ n → ⊥) → ((u : Membership) → (S.agents k).own ≡ Some u → is_in x.by u.lost ≡ true → ⊥) → (u : Membership) → y.own ≡ Some u → is_in x.by u.lost ≡ true → ⊥) S.agents n a
          (λ d f. absurd (d refl)) (λ k e d f. f) (S.owner c) d t.1

      choose-lost : S.owner c ≡ n → (b : Bool) → is_in x.by v.lost ≡ b → Told T x c
      choose-lost e true l = inl (own-is (λ z. admits z x.start ≡ true) (S.owner c) (λ d. absurd (d e)) (λ d. knows x i l))
      choose-lost e false l = inr (telling, λ u o p. not-both (is_in x.by v.lost) (subst (λ z. is_in x.by z.lost ≡ true) (mine u o) p) l)
        where
          mine : (u : Membership) → (T.agents (S.owner c)).own ≡ Some u → u ≡ v
          mine u o = sym (same-some (own-here (S.owner c) e ∙ o))
            where
              own-here : (h : ℕ) → h ≡ n → Some v ≡ (T.agents h).own
              own-here h e = set-both (λ k y. k ≡ n → Some v ≡ y.own) S.agents n a (λ e. refl) (λ k d e. absurd (d e)) h e

      choose-host : (S.owner c ≡ n) ⊎ (S.owner c ≡ n → ⊥) → Told T x c
      choose-host (inl e) = choose-lost e (is_in x.by v.lost) refl
      choose-host (inr d) = inr (telling, other-own d)

  -- no Closed of the start that speaks is under way
  no-closed : (h g : ℕ) → AllByRecursion (λ l. IsClosed s l → ⊥) (S.channel (Agent h) (Agent g))
  no-closed h g = all-mono (LetterOk S h g) (λ l. IsClosed s l → ⊥) open-letter (S.channel (Agent h) (Agent g)) (H.channels h g).letters
    where
      open-letter : (l : Letter) → LetterOk S h g l → IsClosed s l → ⊥
      open-letter l k = elim l.body as (λ m. LetterOk S h g (record l { body = m }) → IsClosed s (record l { body = m }) → ⊥) [
        | msg.Closed o ↦ λ k e. k.2.1 (subst (IsRunning S) (sym e) runs-here)
        | m ↦ λ k e. e
      ] k

  told-new : (x : Admitted) → In x A → NewHere S n v x → (c : ℕ) → names x.at c ≡ true → (c ≡ x.by → ⊥) → IsRunning T c → Told T x c
  told-new x i b c named other runs = inr (telling, not-lost-there)
    where
      far : (S.owner c == n) ≡ false
      far = elim (cases_Bool (S.owner c == n)) [
        | inl e ↦ absurd (other (sym (runs-before c runs) ∙ ap (agent_start S) (eqb-true (S.owner c) n e) ∙ sym b.by))
        | inr e ↦ e
      ]

      mine : is_member v n s ≡ true
      mine = start-is_member v n s (subst (λ z. start_of v z ≡ Some s) owned
          (running-member T history v s good member (starts (S.owner s) ∙ runs-here)))

      named-here : names v c ≡ true
      named-here = names-within x.at v c (first-same ∙ sym good.first) b.within named
        where
          first-same : x.at.first ≡ S.history.first.first
          first-same = (at-good T history x i).first

      there : is_host S.deployment (S.owner c) ≡ true
      there = (good.named_begun c named-here).host

      theirs : start_of v (S.owner c) ≡ Some c
      theirs = running-member T history v c good named-here runs

      what : out (Agent (S.owner c)) ≡ letter_to c (msg.Word v.base v.lost v.admitted) ∷ []
      what = sends (S.owner c) ∙ rw (mine, there, far, theirs) refl

      by-here : S.owner x.by ≡ n
      by-here = ap S.owner b.by ∙ owned

      sent-here : T.channel (Agent n) (Agent (S.owner c)) ≡ S.channel (Agent n) (Agent (S.owner c)) ++ letter_to c (msg.Word v.base v.lost v.admitted) ∷ []
      sent-here = rw (eqb-same n) (ap (λ z. S.channel (Agent n) (Agent (S.owner c)) ++ z) what)

      telling : Telling c x.start x.by (T.channel (Agent (S.owner x.by)) (Agent (S.owner c)))
      telling = subst (λ z. Telling c x.start x.by (T.channel (Agent z) (Agent (S.owner c)))) (sym by-here)
          (subst (Telling c x.start x.by) (sym sent-here)
          (telling-end c x.start x.by (S.channel (Agent n) (Agent (S.owner c))) (letter_to c (msg.Word v.base v.lost v.admitted))
          (subst (λ z. AllByRecursion (λ l. IsClosed z l → ⊥) (S.channel (Agent n) (Agent (S.owner c)))) (sym b.by) (no-closed n (S.owner c))) (refl, b.holds)))

      not-lost-there : (u : Membership) → (T.agents (S.owner c)).own ≡ Some u → is_in x.by u.lost ≡ true → ⊥
      not-lost-there u o l = not-both (is_in x.by u.lost) l
          (runs-not-lost T history u x.by
          (some-here (OwnOk T (agent_start T (S.owner c))) (T.agents (S.owner c)).own u o (continues-agents S H n a out G goes-on (S.owner c)).own).good
          (subst (IsRunning T) (sym b.by) (starts (S.owner s) ∙ runs-here)))

  -- A member says its new word.
  pub says-holds : WordsHold T
  says-holds = continues-holds S H n a out G goes-on (λ x i c named other runs. elim (new x i) [
    | inl o ↦ told-old x i c (H.told x o c named other runs)
    | inr b ↦ told-new x i b c named other (starts (S.owner c) ∙ runs)
  ])
