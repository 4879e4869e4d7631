-- What holds between a slot's site and its host's agent stays so, also when the site takes a message that is no word for it.
use Rattle.log_laws.proofs.Names.{◌≡◌, ◌<◌, List, [], ◌∷◌, ◌++◌, sym, subst, ap, ◌∙◌, ◌⊎◌, inl, inr, ◌+◌, ℕ, ◌≤◌, Option, Some, None, Membership, Actor, Agent, Site, term_of, host_of_slot, start_of_slot, Letter, AgentState, start_in_letter, starts_in, In, all-mono, all-at, all-from, in-right, LogState, LogsHold, MemberViews, FirstViews, RunViews, Starting, ViewsOk, ForeignOk, site_start, agent_to_site, views, view_of, sent_term}
use Rattle.volt_wire.specs.declared.message.Msg.TheVariants as msg
use Rattle.log_laws.proofs.Kept.Moves.{LogsLater}

-- ---- words that are under way

-- where words have only grown
module _ (S T : LogState) (deployment : T.words.deployment ≡ S.words.deployment) (decided : (w : Membership) → In w S.words.history.decided → In w T.words.history.decided)
    (took_word : (a : ℕ) (w : Membership) → S.words.history.took a ≡ Some w → T.words.history.took a ≡ Some w) where
  pub member_views-later : (c start low : ℕ) (ws : List Membership) → MemberViews S c start low ws → MemberViews T c start low ws
  member_views-later c start low ws k = (
    all-mono (λ w. In w S.words.history.decided × (start_of_slot S.words.deployment w c ≡ Some start))
        (λ w. In w T.words.history.decided × (start_of_slot T.words.deployment w c ≡ Some start))
        (λ w p. (decided w p.0, ap (λ D. start_of_slot D w c) deployment ∙ p.1)) ws k.0,
    k.1,
  )

  pub first_views-later : (c start : ℕ) (ws : List Membership) → FirstViews S c start ws → FirstViews T c start ws
  first_views-later c start ws k = search (took_word start k.first k.took, member_views-later c start (term_of k.first + 1) k.later k.members)

  pub run_views-later : (c : ℕ) (o : Option Membership) (ws : List Membership) → site_start T c ≡ site_start S c → RunViews S c o ws → RunViews T c o ws
  run_views-later c None ws e k = rw e (first_views-later c (site_start S c) ws k)
  run_views-later c (Some w) ws e k = rw e (member_views-later c (site_start S c) (term_of w + 1) ws k)

module _ (S T : LogState) (H : LogsHold S) (f : LogsLater S T) where
  -- Others send it no start, and no agent of another host a word.
  pub foreign-later : (c : ℕ) (from : Actor) (l : Letter) → ForeignOk S c from l → ForeignOk T c from l
  foreign-later c (Agent g) l k = elim l.body as (λ m. ForeignOk S c (Agent g) (record l { body = m }) → ForeignOk T c (Agent g) (record l { body = m })) [
    | msg.Start s ↦ λ e. rw (f.words.deployment) e
    | msg.View w ↦ λ e. rw (f.words.deployment) e
    | msg.StreamStart head ↦ λ e. e
    | m ↦ λ _. tt
  ] k
  foreign-later c from l k = k

-- ---- of messages from the agent, others that are left of them

-- no start and no word comes in, and all is as it was for a start that runs or is under way
pub record LeavesViews (start : ℕ) (xs ys : List Letter) : Type 0 where
  pub within : (l : Letter) → In l ys → In l xs
  pub starts : (s : ℕ) → In s (starts_in ys) → In s (starts_in xs)
  pub seen : (s : ℕ) (w : Membership) → In w (views s ys) → In w (views s xs)
  pub none : (s : ℕ) → views s xs ≡ [] → views s ys ≡ []
  pub running : 0 < start → views start ys ≡ views start xs
  pub starting : (s : ℕ) → In s (starts_in ys) → Starting s xs → Starting s ys × (views s ys ≡ views s xs)

pub leaves-same : (start : ℕ) (xs ys : List Letter) → ys ≡ xs → LeavesViews start xs ys
leaves-same start xs ys e = record {
  within = λ l. subst (In l) e;
  starts = λ s. subst (λ z. In s (starts_in z)) e;
  seen = λ s w. subst (λ z. In w (views s z)) e;
  none = λ s. subst (λ z. views s z ≡ []) (sym e);
  running = λ _. ap (views start) e;
  starting = λ s _ k. (subst (Starting s) (sym e) k, ap (views s) e);
}

-- the first one is taken, which is no word for the start that runs
pub leaves-first : (start : ℕ) (l : Letter) (ls : List Letter) → (0 < start → view_of start l ≡ []) → LeavesViews start (l ∷ ls) ls
leaves-first start l ls wordless = record {
  within = λ x i. inr i;
  starts = λ s i. in-right s (start_in_letter l) (starts_in ls) i;
  seen = λ s w i. in-right w (view_of s l) (views s ls) i;
  none = λ s e. behind (view_of s l) (views s ls) e;
  running = λ up. ap (λ z. z ++ views start ls) (sym (wordless up));
  starting = λ s i k. elim k [ inl e ↦ absurd (e.1 i) | inr e ↦ (e.2, ap (λ z. z ++ views s ls) (sym e.0)) ];
}
  where
    behind : (xs ys : List Membership) → xs ++ ys ≡ [] → ys ≡ []
    behind [] ys e = e
    behind (x ∷ xs) ys e = absurd (cc)

-- ---- between a site and its agent

module _ (S T : LogState) (H : LogsHold S) (f : LogsLater S T) (c : ℕ) where
  -- where its start and view, those with which it ran, and its agent are the same
  pub views-keeps-with : site_start T c ≡ site_start S c → (T.sites c).view ≡ (S.sites c).view → T.logs.ran c ≡ S.logs.ran c
      → T.words.agents (host_of_slot S.words.deployment c) ≡ S.words.agents (host_of_slot S.words.deployment c)
      → ((s : ℕ) → In s (S.words.history.began (host_of_slot S.words.deployment c)) → In s (T.words.history.began (host_of_slot S.words.deployment c)))
      → LeavesViews (site_start S c) (agent_to_site S c) (T.words.channel (Agent (host_of_slot S.words.deployment c)) (Site c)) → ViewsOk S c → ViewsOk T c
  views-keeps-with start view ran agent began left k = record {
    plain = rw (f.words.deployment) (all-from PlainView (T.words.channel (Agent (host_of_slot S.words.deployment c)) (Site c))
        (λ l i. all-at PlainView (agent_to_site S c) k.plain l (left.within l i)));
    began = λ s i. rw (f.words.deployment) (began s (k.began s (from s (rw (f.words.deployment, ran) at i))));
    running = λ up. let old = rw start at up in
        rw (channel, start, view, left.running old) (run_views-later S T f.words.deployment f.words.decided f.words.took_word c (S.sites c).view (views (site_start S c) (agent_to_site S c)) start (k.running old));
    starting = λ s i. let there = rw channel at i in
        let o = k.starting s (left.starts s there) in
        let n = left.starting s there o.1 in
        rw (ran, channel, n.1) (o.0, n.0, first_views-later S T f.words.deployment f.words.decided f.words.took_word c s (views s (agent_to_site S c)) o.2);
    wordless = rw (f.words.deployment, agent, ran) (λ up taken none. let o = k.wordless up taken none in (
      (λ i. o.0 (left.starts (S.words.agents (host_of_slot S.words.deployment c)).start i)),
      o.1,
      left.none (S.words.agents (host_of_slot S.words.deployment c)).start o.2,
    ));
    below = rw (f.words.deployment, agent, start, view) (λ up. let o = k.below up in (
      all-from Below (views own.start (T.words.channel (Agent (host_of_slot S.words.deployment c)) (Site c)))
          (λ w i. all-at Below (views own.start (agent_to_site S c)) o.0 w (left.seen own.start w i)),
      o.1,
    ));
  }
    where
      channel : agent_to_site T c ≡ T.words.channel (Agent (host_of_slot S.words.deployment c)) (Site c)
      channel = ap (λ D. T.words.channel (Agent (host_of_slot D c)) (Site c)) f.words.deployment

      own : AgentState
      own = S.words.agents (host_of_slot S.words.deployment c)

      PlainView : Letter → Type 0
      PlainView l = elim l.body as (λ _. Type 0) [ msg.View w ↦ (l.term ≡ 0) × (0 < l.start) | _ ↦ Unit {0} ]

      Below : Membership → Type 0
      Below w = term_of w ≤ sent_term own

      from : (s : ℕ) → In s (starts_in (T.words.channel (Agent (host_of_slot S.words.deployment c)) (Site c))) ⊎ In s (S.logs.ran c)
          ⊎ ((w : Membership) × In w (views s (T.words.channel (Agent (host_of_slot S.words.deployment c)) (Site c))))
          → In s (starts_in (agent_to_site S c)) ⊎ In s (S.logs.ran c) ⊎ ((w : Membership) × In w (views s (agent_to_site S c)))
      from s (inl i) = inl (left.starts s i)
      from s (inr (inl i)) = inr (inl i)
      from s (inr (inr (w, i))) = inr (inr (w, left.seen s w i))

  -- where all that is under way from the agent is, too
  pub views-keeps : site_start T c ≡ site_start S c → (T.sites c).view ≡ (S.sites c).view → T.logs.ran c ≡ S.logs.ran c
      → T.words.agents (host_of_slot S.words.deployment c) ≡ S.words.agents (host_of_slot S.words.deployment c)
      → ((s : ℕ) → In s (S.words.history.began (host_of_slot S.words.deployment c)) → In s (T.words.history.began (host_of_slot S.words.deployment c)))
      → T.words.channel (Agent (host_of_slot S.words.deployment c)) (Site c) ≡ agent_to_site S c → ViewsOk S c → ViewsOk T c
  views-keeps start view ran agent began same = views-keeps-with start view ran agent began (leaves-same (site_start S c) (agent_to_site S c)
      (T.words.channel (Agent (host_of_slot S.words.deployment c)) (Site c)) same)
