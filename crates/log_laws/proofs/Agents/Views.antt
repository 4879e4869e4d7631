-- The words that an agent sends to its sites: what holds of them, holds after its turns.
use Rattle.log_laws.proofs.Names.{◌==◌, ◌≡◌, ◌+◌, ◌<◌, ◌≤◌, List, [], ◌∷◌, ◌++◌, append-nil, refl, sym, subst, ap, ◌∙◌, ◌⊎◌, inl, inr, arith, cases_eq, map-append, ℕ, map, Option, Some, None, AllByRecursion, Membership, Actor, Agent, Site, host_of_slot, start_of_slot, term_of, term_in, Letter, Sends, open_letter, letter_to, AgentState, RiseFrom, start_in_letter, starts_in, In, History, all-mono, all-append, eqb-same, in-left, in-right, in-cases, none-and-some, set-here, set-there, rise-append, starts-append, sent-both, Grows, flat_map-append, PlainView, LogState, view_in, view_of, views, MemberViews, FirstViews, RunViews, Starting, ViewsOk, sent_term, site_start, term_at, agent_to_site}
use Rattle.volt_wire.specs.declared.message.Msg.TheVariants as msg
use Rattle.word_laws.proofs.Moves as word
use Rattle.log_laws.proofs.Plain.{flat-none, views-here, views-other, flat-same, if-empty}
use Rattle.log_laws.proofs.Agents.AgentSends.{NoView}
use Rattle.log_laws.proofs.Kept.{first_views-later, run_views-later}

-- the state with these agents, messages and history
abbrev pub worded : LogState → (ℕ → AgentState) → (Actor → Actor → List Letter) → History → LogState
worded S agents channel G = record S { words = record S.words { agents = agents; channel = channel; history = G } }

-- the state after a turn of the agent of host n
abbrev pub agent_turned : LogState → ℕ → AgentState → Sends → History → LogState
agent_turned S n a out G = record S { words = word.after_agent S.words n a out G }

-- ---- messages that bring a site neither its start nor a word

no-start : (l : Letter) → NoView l → start_in_letter l ≡ []
no-start l h = elim l.body as (λ m. NoView (record l { body = m }) → start_in_letter (record l { body = m }) ≡ []) [ msg.Start s ↦ λ k. absurd k | m ↦ λ k. refl ] h

no-view : (l : Letter) → NoView l → view_in l.body ≡ []
no-view l h = elim l.body as (λ m. NoView (record l { body = m }) → view_in m ≡ []) [ msg.View w ↦ λ k. absurd k | m ↦ λ k. refl ] h

no-starts : (ls : List Letter) → AllByRecursion NoView ls → starts_in ls ≡ []
no-starts ls h = flat-none start_in_letter ls (all-mono NoView (λ l. start_in_letter l ≡ []) no-start ls h)

no-views : (s : ℕ) (ls : List Letter) → AllByRecursion NoView ls → views s ls ≡ []
no-views s ls h = flat-none (view_of s) ls (all-mono NoView (λ l. view_of s l ≡ []) (λ l k. if-empty _ _ (no-view l k)) ls h)

-- ---- a start that is under way

-- stays so behind which another one comes
starting-left : (s : ℕ) (xs ys : List Letter) → (In s (starts_in ys) → ⊥) → Starting s xs → Starting s (xs ++ ys)
starting-left s [] ys none k = absurd k
starting-left s (l ∷ ls) ys none (inl k) = inl (
  k.0,
  λ i. elim (in-cases s (starts_in ls) (starts_in ys) (subst (In s) (starts-append ls ys) i)) [ inl j ↦ k.1 j | inr j ↦ none j ],
)
starting-left s (l ∷ ls) ys none (inr k) = inr (k.0, k.1, starting-left s ls ys none k.2)

-- and is so behind messages that bring neither it nor a word of it
starting-right : (s : ℕ) (xs ys : List Letter) → views s xs ≡ [] → (In s (starts_in xs) → ⊥) → Starting s ys → Starting s (xs ++ ys)
starting-right s [] ys e none k = k
starting-right s (l ∷ ls) ys e none k =
    let p = both-empty (view_of s l) (views s ls) e in
    inr (p.0, λ i. none (in-left s (start_in_letter l) (starts_in ls) i), starting-right s ls ys p.1 (λ i. none (in-right s (start_in_letter l) (starts_in ls) i)) k)
  where
    both-empty : (xs ys : List Membership) → xs ++ ys ≡ [] → (xs ≡ []) × (ys ≡ [])
    both-empty [] ys e = (refl, e)
    both-empty (x ∷ xs) ys e = absurd (cc)

-- ---- what holds between a slot's site and its host's agent, by what the agent is and what is under way

-- nothing was sent by this start
abbrev pub Unsent : LogState → ℕ → ℕ → List Letter → Type 0
Unsent S c s ls = (In s (starts_in ls) → ⊥) × (In s (S.logs.ran c) → ⊥) × (views s ls ≡ [])

-- and nothing of a term above this one
abbrev pub SentUpTo : LogState → ℕ → ℕ → ℕ → List Letter → Type 0
SentUpTo S c s top ls = AllByRecursion (λ w. term_of w ≤ top) (views s ls) × (site_start S c ≡ s → term_at S c ≤ top)

pub record ViewsIn (S : LogState) (c h : ℕ) (a : AgentState) (ls : List Letter) : Type 0 where
  pub plain : AllByRecursion PlainView ls
  pub began : (s : ℕ) → In s (starts_in ls) ⊎ In s (S.logs.ran c) ⊎ ((w : Membership) × In w (views s ls)) → In s (S.words.history.began h)
  pub running : 0 < site_start S c → RunViews S c (S.sites c).view (views (site_start S c) ls)
  pub starting : (s : ℕ) → In s (starts_in ls) → (In s (S.logs.ran c) → ⊥) × Starting s ls × FirstViews S c s (views s ls)
  pub wordless : 0 < a.start → a.taken ≡ None → a.decided ≡ None → Unsent S c a.start ls
  pub below : 0 < a.start → SentUpTo S c a.start (sent_term a) ls

pub views-in : (S : LogState) (c h : ℕ) → host_of_slot S.words.deployment c ≡ h → ViewsOk S c → ViewsIn S c h (S.words.agents h) (S.words.channel (Agent h) (Site c))
views-in S c h e k = subst (λ h. ViewsIn S c h (S.words.agents h) (S.words.channel (Agent h) (Site c))) e (search)

pub views-of : (S : LogState) (c h : ℕ) (a : AgentState) (ls : List Letter) → host_of_slot S.words.deployment c ≡ h → S.words.agents h ≡ a → S.words.channel (Agent h) (Site c) ≡ ls
    → ViewsIn S c h a ls → ViewsOk S c
views-of S c h a ls e p q k = of (subst (λ h. ViewsIn S c h (S.words.agents h) (S.words.channel (Agent h) (Site c))) (sym e) (rw (p, q) k))
  where
    of : ViewsIn S c (host_of_slot S.words.deployment c) (S.words.agents (host_of_slot S.words.deployment c)) (agent_to_site S c) → ViewsOk S c
    of k = search

-- ---- more messages

module _ (S : LogState) (c h : ℕ) (a : AgentState) (ls : List Letter) (k : ViewsIn S c h a ls) where
  -- that bring neither a start nor a word
  pub views-plainly : (more : List Letter) → AllByRecursion NoView more → ViewsIn S c h a (ls ++ more)
  views-plainly more plain = record {
    plain = all-append PlainView ls more k.plain (all-mono NoView PlainView plainly more plain);
    began = λ s i. k.began s (elim i [
      | inl j ↦ inl (subst (In s) starts j)
      | inr (inl j) ↦ inr (inl j)
      | inr (inr (w, j)) ↦ inr (inr (w, subst (In w) (same s) j))
    ]);
    running = λ u. subst (RunViews S c (S.sites c).view) (sym (same (site_start S c))) (k.running u);
    starting = λ s i. let r = k.starting s (subst (In s) starts i) in (
      r.0,
      starting-left s ls more (λ j. none-in s (subst (In s) (no-starts more plain) j)) r.1,
      subst (FirstViews S c s) (sym (same s)) r.2,
    );
    wordless = λ u t d. let r = k.wordless u t d in (λ i. r.0 (subst (In a.start) starts i), r.1, same a.start ∙ r.2);
    below = λ u. let r = k.below u in (subst (AllByRecursion (λ w. term_of w ≤ sent_term a)) (sym (same a.start)) r.0, r.1);
  }
    where
      plainly : (l : Letter) → NoView l → PlainView l
      plainly l p = elim l.body as (λ m. NoView (record l { body = m }) → PlainView (record l { body = m })) [ msg.View w ↦ λ k. absurd k | m ↦ λ k. tt ] p

      none-in : (s : ℕ) → In s [] → ⊥
      none-in s i = i

      starts : starts_in (ls ++ more) ≡ starts_in ls
      starts = starts-append ls more ∙ ap (λ x. starts_in ls ++ x) (no-starts more plain) ∙ append-nil (starts_in ls)

      same : (s : ℕ) → views s (ls ++ more) ≡ views s ls
      same s = flat-same (view_of s) ls more (no-views s more plain)

  -- the start of an agent that has said nothing yet, and the word that it took
  pub views-start : (w : Membership) → 0 < a.start → Unsent S c a.start ls → In a.start (S.words.history.began h) → S.words.history.took a.start ≡ Some w → a.taken ≡ Some w
      → sent_term a ≡ term_of w
      → (site_start S c ≡ a.start → ⊥) → ViewsIn S c h a (ls ++ open_letter (msg.Start a.start) ∷ letter_to a.start (msg.View w) ∷ [])
  views-start w up none began took taken top other = record {
    plain = all-append PlainView ls more k.plain (tt, ((refl, up), tt));
    began = λ s i. elim i [
      | inl j ↦ elim (in-cases s (starts_in ls) (a.start ∷ []) (subst (In s) (starts-append ls more) j)) [
        | inl q ↦ k.began s (inl q)
        | inr (inl q) ↦ subst (λ x. In x (S.words.history.began h)) q began
        | inr (inr q) ↦ absurd q
      ]
      | inr (inl j) ↦ k.began s (inr (inl j))
      | inr (inr (v, j)) ↦ elim (cases_eq s a.start) [
        | inl e ↦ subst (λ x. In x (S.words.history.began h)) (sym e) began
        | inr d ↦ k.began s (inr (inr (v, subst (In v) (apart s d) j)))
      ]
    ];
    running = λ u. subst (RunViews S c (S.sites c).view) (sym (apart (site_start S c) other)) (k.running u);
    starting = λ s i. elim (cases_eq s a.start) [
      | inl e ↦ subst (λ x. (In x (S.logs.ran c) → ⊥) × Starting x (ls ++ more) × FirstViews S c x (views x (ls ++ more))) (sym e)
          (none.1, starting-right a.start ls more none.2 none.0 (inl (refl, λ j. j)), first)
      | inr d ↦ let r = k.starting s (old s d i) in (
        r.0,
        starting-left s ls more (λ j. elim j [ inl q ↦ d (sym q) | inr q ↦ q ]) r.1,
        subst (FirstViews S c s) (sym (apart s d)) r.2,
      )
    ];
    wordless = λ u t d. absurd (none-and-some t taken);
    below = λ u. (subst (AllByRecursion (λ v. term_of v ≤ sent_term a)) (sym here) (omega (arith, top), tt), λ e. absurd (other e));
  }
    where
      more : List Letter
      more = open_letter (msg.Start a.start) ∷ letter_to a.start (msg.View w) ∷ []

      here : views a.start (ls ++ more) ≡ w ∷ []
      here = flat_map-append (view_of a.start) ls more
          ∙ rw (none.2, if-empty ((open_letter (msg.Start a.start)).start == a.start) [] refl, views-here a.start (letter_to a.start (msg.View w)) refl) refl

      apart : (s : ℕ) → (s ≡ a.start → ⊥) → views s (ls ++ more) ≡ views s ls
      apart s d = flat-same (view_of s) ls more (flat-none (view_of s) more (
        if-empty _ _ refl,
        (views-other s (letter_to a.start (msg.View w)) (λ e. d (sym e)), tt),
      ))

      old : (s : ℕ) → (s ≡ a.start → ⊥) → In s (starts_in (ls ++ more)) → In s (starts_in ls)
      old s d i = elim (in-cases s (starts_in ls) (a.start ∷ []) (subst (In s) (starts-append ls more) i)) [
        | inl j ↦ j
        | inr (inl q) ↦ absurd (d (sym q))
        | inr (inr q) ↦ absurd q
      ]

      first : FirstViews S c a.start (views a.start (ls ++ more))
      first = record { first = w; later = []; views_are = here; took = took; members = (tt, tt) }

  -- the next word, of a higher term than all before
  pub views-next : (w : Membership) (old : ℕ) → 0 < a.start → In w S.words.history.decided → start_of_slot S.words.deployment w c ≡ Some a.start
      → In a.start (S.words.history.began h)
      → a.decided ≡ Some w → SentUpTo S c a.start old ls → old < term_of w → ViewsIn S c h a (ls ++ letter_to a.start (msg.View w) ∷ [])
  views-next w old up decided start began is before above = let top : sent_term a ≡ term_of w = rw is refl in record {
    plain = all-append PlainView ls more k.plain ((refl, up), tt);
    began = λ s i. elim i [
      | inl j ↦ k.began s (inl (subst (In s) starts j))
      | inr (inl j) ↦ k.began s (inr (inl j))
      | inr (inr (v, j)) ↦ elim (cases_eq s a.start) [
        | inl e ↦ subst (λ x. In x (S.words.history.began h)) (sym e) began
        | inr d ↦ k.began s (inr (inr (v, subst (In v) (apart s d) j)))
      ]
    ];
    running = λ u. elim (cases_eq (site_start S c) a.start) [
      | inl e ↦ subst (λ x. RunViews S c (S.sites c).view x) (sym (ap (λ s. views s (ls ++ more)) e ∙ here))
          (run e (S.sites c).view refl (subst (λ s. RunViews S c (S.sites c).view (views s ls)) e (k.running u)))
      | inr d ↦ subst (RunViews S c (S.sites c).view) (sym (apart (site_start S c) d)) (k.running u)
    ];
    starting = λ s i. let r = k.starting s (subst (In s) starts i) in (
      r.0,
      starting-left s ls more (λ j. j) r.1,
      elim (cases_eq s a.start) [
        | inl e ↦ subst (λ x. FirstViews S c x (views x (ls ++ more))) (sym e) (subst (FirstViews S c a.start) (sym here)
            (longer (subst (λ x. FirstViews S c x (views x ls)) e r.2)))
        | inr d ↦ subst (FirstViews S c s) (sym (apart s d)) r.2
      ],
    );
    wordless = λ u t d. absurd (none-and-some d is);
    below = λ u. (
      subst (AllByRecursion (λ v. term_of v ≤ sent_term a)) (sym here)
          (all-append (λ v. term_of v ≤ sent_term a) (views a.start ls) (w ∷ [])
          (all-mono (λ v. term_of v ≤ old) (λ v. term_of v ≤ sent_term a) (λ v l. omega (arith, l, above, top)) (views a.start ls) before.0)
          (omega (arith, top), tt)),
      λ e. omega (arith, before.1 e, above, top),
    );
  }
    where
      more : List Letter
      more = letter_to a.start (msg.View w) ∷ []

      here : views a.start (ls ++ more) ≡ views a.start ls ++ w ∷ []
      here = flat_map-append (view_of a.start) ls more ∙ rw (views-here a.start (letter_to a.start (msg.View w)) refl) refl

      apart : (s : ℕ) → (s ≡ a.start → ⊥) → views s (ls ++ more) ≡ views s ls
      apart s d = flat-same (view_of s) ls more (flat-none (view_of s) more (views-other s (letter_to a.start (msg.View w)) (λ e. d (sym e)), tt))

      starts : starts_in (ls ++ more) ≡ starts_in ls
      starts = starts-append ls more ∙ append-nil (starts_in ls)

      -- behind words for this start
      behind : (low : ℕ) (ws : List Membership) → low ≤ term_of w → AllByRecursion (λ v. term_of v < term_of w) ws → MemberViews S c a.start low ws
          → MemberViews S c a.start low (ws ++ w ∷ [])
      behind low ws l b m = (
        all-append (λ v. In v S.words.history.decided × (start_of_slot S.words.deployment v c ≡ Some a.start)) ws (w ∷ []) m.0 ((decided, start), tt),
        subst (RiseFrom low) (sym (map-append term_of ws (w ∷ [])))
            (rise-append low (term_of w) (map term_of ws) (term_of w ∷ []) l (all-of-map ws b) m.1 (omega arith, tt)),
      )
        where
          all-of-map : (ws : List Membership) → AllByRecursion (λ v. term_of v < term_of w) ws → AllByRecursion (λ x. x < term_of w) (map term_of ws)
          all-of-map [] b = tt
          all-of-map (v ∷ vs) b = (b.0, all-of-map vs b.1)

      lower : AllByRecursion (λ v. term_of v < term_of w) (views a.start ls)
      lower = all-mono (λ v. term_of v ≤ old) (λ v. term_of v < term_of w) (λ v l. omega (arith, l, above)) (views a.start ls) before.0

      longer : FirstViews S c a.start (views a.start ls) → FirstViews S c a.start (views a.start ls ++ w ∷ [])
      longer f = let b = subst (AllByRecursion (λ v. term_of v < term_of w)) f.views_are lower in record {
        first = f.first;
        later = f.later ++ w ∷ [];
        views_are = ap (λ x. x ++ w ∷ []) f.views_are;
        took = f.took;
        members = behind (term_of f.first + 1) f.later (omega (arith, b.0)) b.1 f.members;
      }

      run : site_start S c ≡ a.start → (o : Option Membership) → (S.sites c).view ≡ o → RunViews S c o (views a.start ls) → RunViews S c o (views a.start ls ++ w ∷ [])
      run e None q f = subst (λ s. FirstViews S c s (views a.start ls ++ w ∷ [])) (sym e) (longer (subst (λ s. FirstViews S c s (views a.start ls)) e f))
      run e (Some v) q m = subst (λ s. MemberViews S c s (term_of v + 1) (views a.start ls ++ w ∷ [])) (sym e)
          (behind (term_of v + 1) (views a.start ls) (low (before.1 e)) lower (subst (λ s. MemberViews S c s (term_of v + 1) (views a.start ls)) e m))
        where
          low : term_at S c ≤ old → term_of v + 1 ≤ term_of w
          low b = let t : term_at S c ≡ term_of v = ap term_in q in omega (arith, b, above, t)

-- ---- another state of words

module _ (S : LogState) (agents : ℕ → AgentState) (channel : Actor → Actor → List Letter) (G : History) (g : Grows S.words.history G) where
  abbrev T : LogState
  T = worded S agents channel G

  -- with what its agent, or the one that comes after it, has sent
  pub views-later : (c h : ℕ) (x y : AgentState) (ls : List Letter) → ViewsIn S c h x ls → (0 < y.start → y.taken ≡ None → y.decided ≡ None → Unsent S c y.start ls)
      → (0 < y.start → SentUpTo S c y.start (sent_term y) ls) → ViewsIn T c h y ls
  views-later c h x y ls k unsent sent = record {
    plain = k.plain;
    began = λ s i. g.began h s (k.began s i);
    running = λ u. run_views-later S T refl g.decided g.took_word c (S.sites c).view (views (site_start S c) ls) refl (k.running u);
    starting = λ s i. let r = k.starting s i in (r.0, r.1, first_views-later S T refl g.decided g.took_word c s (views s ls) r.2);
    wordless = unsent;
    below = sent;
  }

-- The words of all slots, after a turn of the agent of host n: of another host's nothing was sent.
pub views-turned : (S : LogState) (n : ℕ) (a : AgentState) (out : Sends) (G : History) → Grows S.words.history G → (c : ℕ) → ViewsOk S c
    → (host_of_slot S.words.deployment c ≡ n → ViewsIn (agent_turned S n a out G) c n a (S.words.channel (Agent n) (Site c) ++ out (Site c))) → ViewsOk (agent_turned S n a out G) c
views-turned S n a out G g c k own = elim (cases_eq (host_of_slot S.words.deployment c) n) [
  | inl e ↦ views-of T c n a (S.words.channel (Agent n) (Site c) ++ out (Site c)) e (set-here S.words.agents n a) (rw (eqb-same n) refl) (own e)
  | inr d ↦
      let h = host_of_slot S.words.deployment c in
      let i = views-in S c h refl k in
      views-of T c h (S.words.agents h) (agent_to_site S c) refl (set-there S.words.agents n a h d) (still h d)
      (views-later S T.words.agents T.words.channel G g c h (S.words.agents h) (S.words.agents h) (agent_to_site S c) i i.wordless i.below)
]
  where
    T : LogState
    T = agent_turned S n a out G

    still : (h : ℕ) → (h ≡ n → ⊥) → T.words.channel (Agent h) (Site c) ≡ S.words.channel (Agent h) (Site c)
    still h d = sent-both (λ x. x ≡ S.words.channel (Agent h) (Site c)) S.words.channel n out h (Site c) (λ e. absurd (d (sym e))) (λ e. refl)
