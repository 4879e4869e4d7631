-- A site takes the first word that is under way to it: its channels after that, and what is left of its words.
use Rattle.log_laws.proofs.Names.{◌≡◌, ◌+◌, ◌<◌, false, List, [], ◌∷◌, ◌++◌, append-nil, refl, sym, subst, ap, ◌∙◌, inl, inr, ◌==◌, arith, nat_tests, ℕ, ◌≤◌, ◌&&◌, Option, Some, None, AllByRecursion, Membership, Actor, Agent, Site, term_of, term_in, host_of_slot, start_of_slot, Letter, Sends, AgentState, SiteState, sent, rest, starts_in, In, if-true, if-false, and-false, all-at, all-from, all-append, all-mono, eqb-same, set-here, took-all, cond_both, PlainView, LogState, Logs, LogsHold, ViewsOk, MemberViews, FirstViews, RunViews, Starting, ForeignOk, site_start, term_at, agent_to_site, between, views, IsSlot, MeantFor, SiteLetterOk, is_for, line_of, flow_of, end_of, line, flow, stream_ends_in, sent_term, end_in, flow_in, line_in}
use Rattle.volt_wire.specs.declared.message.Msg.TheVariants as msg
use Rattle.log_laws.proofs.Kept.{after_site, site_popped, LogsLater, LeavesViews, leaves-first, member_views-later, first_views-later}
use Rattle.log_laws.proofs.Plain.{views-here, if-none, flat-none, for-other, one-and-others}

-- ---- nothing is under way to a site in a term that is above its own

module _ (S : LogState) (H : LogsHold S) (c t : ℕ) (slot : IsSlot S c) (above : term_at S c < t) where
  too-high : (l : Letter) → MeantFor S c l → l.start ≡ site_start S c → l.term ≡ t → ⊥
  too-high l k s e = let low = k.2 (sym s) in absurd (omega (arith, low, e, above))

  line-high : (a : ℕ) (l : Letter) → SiteLetterOk S a c l → line_of (site_start S c) t l ≡ []
  line-high a l k = elim l.body as (λ m. SiteLetterOk S a c (record l { body = m }) → line_of (site_start S c) t (record l { body = m }) ≡ []) [
    | msg.Put position e floor ↦ λ p. for-other (site_start S c) t (record l { body = msg.Put position e floor }) (line_in (record l { body = msg.Put position e floor }).body) (too-high (record l { body = msg.Put position e floor }) p.0)
    | msg.Repair from entries ↦ λ p. for-other (site_start S c) t (record l { body = msg.Repair from entries }) (line_in (record l { body = msg.Repair from entries }).body) (too-high (record l { body = msg.Repair from entries }) p)
    | m ↦ λ _. if-none (is_for (site_start S c) t l)
  ] k

  flow-high : (a : ℕ) (l : Letter) → SiteLetterOk S a c l → flow_of (site_start S c) t l ≡ []
  flow-high a l k = elim l.body as (λ m. SiteLetterOk S a c (record l { body = m }) → flow_of (site_start S c) t (record l { body = m }) ≡ []) [
    | msg.Task position e ↦ λ p. for-other (site_start S c) t (record l { body = msg.Task position e }) (flow_in (record l { body = msg.Task position e }).past (record l { body = msg.Task position e }).body) (too-high (record l { body = msg.Task position e }) p)
    | msg.StreamStart head ↦ λ p. for-other (site_start S c) t (record l { body = msg.StreamStart head }) (flow_in (record l { body = msg.StreamStart head }).past (record l { body = msg.StreamStart head }).body) (too-high (record l { body = msg.StreamStart head }) p)
    | m ↦ λ _. if-none (is_for (site_start S c) t l)
  ] k

  end-high : (a : ℕ) (l : Letter) → SiteLetterOk S a c l → end_of (site_start S c) t l ≡ []
  end-high a l k = elim l.body as (λ m. SiteLetterOk S a c (record l { body = m }) → end_of (site_start S c) t (record l { body = m }) ≡ []) [
    | msg.StreamEnd count ↦ λ p. for-other (site_start S c) t (record l { body = msg.StreamEnd count }) (end_in (record l { body = msg.StreamEnd count }).body) (too-high (record l { body = msg.StreamEnd count }) p.0)
    | m ↦ λ _. if-none (is_for (site_start S c) t l)
  ] k

  pub no-line : (a : ℕ) → line (site_start S c) t (between S a c) ≡ []
  no-line a = flat-none (line_of (site_start S c) t) (between S a c) (all-mono (SiteLetterOk S a c) (λ l. line_of (site_start S c) t l ≡ []) (line-high a) (between S a c) (H.letters a c slot))

  pub no-flow : (a : ℕ) → flow (site_start S c) t (between S a c) ≡ []
  no-flow a = flat-none (flow_of (site_start S c) t) (between S a c) (all-mono (SiteLetterOk S a c) (λ l. flow_of (site_start S c) t l ≡ []) (flow-high a) (between S a c) (H.letters a c slot))

  pub no-end : (a : ℕ) → stream_ends_in (site_start S c) t (between S a c) ≡ []
  no-end a = flat-none (end_of (site_start S c) t) (between S a c) (all-mono (SiteLetterOk S a c) (λ l. end_of (site_start S c) t l ≡ []) (end-high a) (between S a c) (H.letters a c slot))

-- ---- the word that is taken

module _ (S : LogState) (H : LogsHold S) (h i : ℕ) (l : Letter) (w : Membership) (ls : List Letter) (is : S.words.channel (Agent h) (Site i) ≡ record l { body = msg.View w } ∷ ls)
    (start : l.start ≡ site_start S i) (up : 0 < site_start S i) where
  -- the word is from its own host's agent
  pub own-agent : h ≡ host_of_slot S.words.deployment i
  own-agent = (subst (AllByRecursion (ForeignOk S i (Agent h))) is (H.foreign (Agent h) i)).0

  from-own : agent_to_site S i ≡ record l { body = msg.View w } ∷ ls
  from-own = ap (λ z. S.words.channel (Agent z) (Site i)) (sym own-agent) ∙ is

  view-first : views (site_start S i) (agent_to_site S i) ≡ w ∷ views (site_start S i) ls
  view-first = ap (views (site_start S i)) from-own ∙ ap (λ z. z ++ views (site_start S i) ls) (views-here (site_start S i) (record l { body = msg.View w }) start)

  runs : (o : Option Membership) → (S.sites i).view ≡ o → RunViews S i o (w ∷ views (site_start S i) ls)
  runs o e = subst (RunViews S i o) view-first (subst (λ z. RunViews S i z (views (site_start S i) (agent_to_site S i))) e ((H.views i).running up))

  heads : {xs ys : List Membership} {x y : Membership} → x ∷ xs ≡ y ∷ ys → x ≡ y
  heads e = cc

  -- Without a word it is the one that it took. With one it is a later one that counts it.
  pub first-word : (S.sites i).view ≡ None → S.words.history.took (site_start S i) ≡ Some w
  first-word e = let k = runs None e in let q : w ≡ k.first = heads k.views_are in k.took ∙ ap Some (sym q)

  pub later-word : (v : Membership) → (S.sites i).view ≡ Some v
      → In w S.words.history.decided × (start_of_slot S.words.deployment w i ≡ Some (site_start S i)) × (term_of v < term_of w)
  later-word v e = let k = runs (Some v) e in (k.0.0.0, k.0.0.1, (let a = k.1.0 in omega (arith, a)))

  -- the words behind it are later ones for a member
  left-words : (o : Option Membership) → (S.sites i).view ≡ o → MemberViews S i (site_start S i) (term_of w + 1) (views (site_start S i) ls)
  left-words None e = let k = runs None e in
      subst (λ z. MemberViews S i (site_start S i) (term_of w + 1) z) (sym (tails k.views_are))
      (subst (λ z. MemberViews S i (site_start S i) (term_of z + 1) k.later) (sym (heads k.views_are)) k.members)
    where
      tails : {xs ys : List Membership} {x y : Membership} → x ∷ xs ≡ y ∷ ys → xs ≡ ys
      tails e = cc
  left-words (Some v) e = let k = runs (Some v) e in (k.0.1, k.1.1)

  -- ---- channels

  popped-sites : (a c : ℕ) → (site_popped S (Agent h) i).words.channel (Site a) (Site c) ≡ between S a c
  popped-sites a c = if-false (i == c && false) (rest (between S a c)) (between S a c) (and-false (i == c))

  pub popped-other : (c : ℕ) → (c ≡ i → ⊥) → (g : ℕ) → (site_popped S (Agent h) i).words.channel (Agent g) (Site c) ≡ S.words.channel (Agent g) (Site c)
  popped-other c n g = let e : (i == c) ≡ false = grind (arith, nat_tests, n) in rw e refl

  popped-own : (site_popped S (Agent h) i).words.channel (Agent (host_of_slot S.words.deployment i)) (Site i) ≡ ls
  popped-own = subst (λ z. (site_popped S (Agent h) i).words.channel (Agent z) (Site i) ≡ ls) own-agent
      (if-true (i == i && h == h) (rest (S.words.channel (Agent h) (Site i))) (S.words.channel (Agent h) (Site i)) (rw (eqb-same i, eqb-same h) refl) ∙ ap rest is)

  popped-foreign : (from : Actor) (c : ℕ) → AllByRecursion (ForeignOk S c from) ((site_popped S (Agent h) i).words.channel from (Site c))
  popped-foreign from c = took-all (ForeignOk S c from) S.words.channel (Agent h) (Site i) from (Site c) (H.foreign from c)

  module _ (out : Sends) where
    abbrev ch : Actor → Actor → List Letter
    ch = sent (site_popped S (Agent h) i).words.channel (Site i) out

    pub mine-taken : (c : ℕ) → ch (Site i) (Site c) ≡ between S i c ++ out (Site c)
    mine-taken c = if-true (i == i) ((site_popped S (Agent h) i).words.channel (Site i) (Site c) ++ out (Site c)) ((site_popped S (Agent h) i).words.channel (Site i) (Site c)) (eqb-same i)
        ∙ ap (λ z. z ++ out (Site c)) (popped-sites i c)

    pub theirs-taken : (a c : ℕ) → (a ≡ i → ⊥) → ch (Site a) (Site c) ≡ between S a c
    theirs-taken a c n = let e : (i == a) ≡ false = grind (arith, nat_tests, n) in
        if-false (i == a) ((site_popped S (Agent h) i).words.channel (Site a) (Site c) ++ out (Site c)) ((site_popped S (Agent h) i).words.channel (Site a) (Site c)) e ∙ popped-sites a c

    pub tells-taken : ((g : ℕ) → out (Agent g) ≡ []) → (c g : ℕ) → ch (Site c) (Agent g) ≡ S.words.channel (Site c) (Agent g)
    tells-taken inert c g = cond_both (i == c) _ _ (λ z. z ≡ S.words.channel (Site c) (Agent g))
        (λ _. rw (inert g) (append-nil (S.words.channel (Site c) (Agent g)))) (λ _. refl)

    pub foreign-taken : ((c : ℕ) → AllByRecursion (ForeignOk S c (Site i)) (out (Site c))) → (from : Actor) (c : ℕ) → AllByRecursion (ForeignOk S c from) (ch from (Site c))
    foreign-taken new (Site a) c = one-and-others (λ a. AllByRecursion (ForeignOk S c (Site a)) (ch (Site a) (Site c))) i
        (rw (mine-taken c) (all-append (ForeignOk S c (Site i)) (between S i c) (out (Site c)) (H.foreign (Site i) c) (new c)))
        (λ a n. rw (theirs-taken a c n) (H.foreign (Site a) c)) a
    foreign-taken new from c = popped-foreign from c

    -- ---- its words, once it has this one

    module _ (s : SiteState) (G : Logs) (later : LogsLater S (after_site (site_popped S (Agent h) i) i s out G)) (same-start : s.start ≡ site_start S i)
        (has : s.view ≡ Some w) (ran : G.ran ≡ S.logs.ran) where
      abbrev T : LogState
      T = after_site (site_popped S (Agent h) i) i s out G

      abbrev own : AgentState
      own = S.words.agents (host_of_slot S.words.deployment i)

      abbrev first : Letter
      first = record l { body = msg.View w }

      leaves : LeavesViews 0 (first ∷ ls) ls
      leaves = leaves-first 0 first ls (λ z. absurd (omega (arith, z)))

      left : agent_to_site T i ≡ ls
      left = popped-own

      start-is : site_start T i ≡ site_start S i
      start-is = ap (λ z. z.start) (set-here S.sites i s) ∙ same-start

      view-is : (T.sites i).view ≡ Some w
      view-is = ap (λ z. z.view) (set-here S.sites i s) ∙ has

      -- what is left was there
      seen : (a : ℕ) (u : Membership) → In u (views a (agent_to_site T i)) → In u (views a (agent_to_site S i))
      seen a u m = subst (λ z. In u (views a z)) (sym from-own) (leaves.seen a u (subst (λ z. In u (views a z)) left m))

      starts : (a : ℕ) → In a (starts_in (agent_to_site T i)) → In a (starts_in (agent_to_site S i))
      starts a m = subst (λ z. In a (starts_in z)) (sym from-own) (leaves.starts a (subst (λ z. In a (starts_in z)) left m))

      -- a start that is under way, with its words
      start-left : (a : ℕ) → In a (starts_in (agent_to_site T i)) → Starting a (agent_to_site T i) × (views a (agent_to_site T i) ≡ views a (agent_to_site S i))
      start-left a m = let k = leaves.starting a (subst (λ z. In a (starts_in z)) left m) (subst (Starting a) from-own ((H.views i).starting a (starts a m)).1) in
          (subst (Starting a) (sym left) k.0, ap (views a) left ∙ k.1 ∙ ap (views a) (sym from-own))

      in-views : In w (views (site_start S i) (agent_to_site S i))
      in-views = subst (λ z. In w z) (sym view-first) (inl refl)

      pub views-taken : ViewsOk T i
      views-taken = let k = H.views i in record {
        plain = subst (AllByRecursion PlainView) (sym left) (subst (AllByRecursion PlainView) from-own k.plain).1;
        began = λ a m. k.began a (elim m [
          | inl x ↦ inl (starts a x)
          | inr (inl x) ↦ inr (inl (subst (λ z. In a (z i)) ran x))
          | inr (inr (u, x)) ↦ inr (inr (u, seen a u x))
        ]);
        running = λ _. subst (λ z. RunViews T i z (views (site_start T i) (agent_to_site T i))) (sym view-is)
            (subst (λ z. MemberViews T i z (term_of w + 1) (views z (agent_to_site T i))) (sym start-is)
            (subst (λ z. MemberViews T i (site_start S i) (term_of w + 1) (views (site_start S i) z)) (sym left)
            (member_views-later S T later.words.deployment later.words.decided later.words.took_word i (site_start S i) (term_of w + 1) (views (site_start S i) ls) (left-words (S.sites i).view refl))));
        starting = λ a m. let o = k.starting a (starts a m) in let n = start-left a m in
            ((λ x. o.0 (subst (λ z. In a (z i)) ran x)), n.0, subst (FirstViews T i a) (sym n.1) (first_views-later S T later.words.deployment later.words.decided later.words.took_word i a (views a (agent_to_site S i)) o.2));
        wordless = λ some taken none. let o = k.wordless some taken none in (
          (λ x. o.0 (starts own.start x)),
          (λ x. o.1 (subst (λ z. In own.start (z i)) ran x)),
          ap (views own.start) left ∙ leaves.none own.start (ap (views own.start) (sym from-own) ∙ o.2),
        );
        below = λ some. let o = k.below some in (
          all-from (λ u. term_of u ≤ sent_term own) (views own.start (agent_to_site T i))
              (λ u m. all-at (λ u. term_of u ≤ sent_term own) (views own.start (agent_to_site S i)) o.0 u (seen own.start u m)),
          (λ e. let low = all-at (λ u. term_of u ≤ sent_term own) (views own.start (agent_to_site S i)) o.0 w
              (subst (λ z. In w (views z (agent_to_site S i))) (sym start-is ∙ e) in-views) in
              let t = ap term_in view-is in omega (arith, low, t)),
        );
      }
