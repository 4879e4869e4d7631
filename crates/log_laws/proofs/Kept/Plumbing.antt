-- States after turns: their channels, their words, and one turn behind another.
use Rattle.log_laws.proofs.Names.{◌≡◌, true, false, List, ◌∷◌, ◌++◌, refl, sym, subst, ap, ◌∙◌, ◌==◌, arith, eqb-true, and_parts, nat_tests, ℕ, ◌≤◌, ◌&&◌, length, AllByRecursion, Actor, Director, Client, Agent, Site, Scanner, same, Letter, Sends, no_sends, Turn, becomes, ◌▸◌, SiteState, sent, rest, set_at, In, all-append, all-at, all-from, all-mono, eqb-same, set-here, set-there, set-both, set-same, set-twice, sent-nothing, sent-twice, cond_both, inl, LogState, Logs, LogsHold, IsSlot, SiteLetterOk, ForeignOk, ViewsOk, site_start, log_at, between}
use Rattle.word_laws.specs.Histories as word
use Rattle.word_laws.proofs.Moves as word_moves
use Rattle.word_laws.proofs.Steps as word_steps
use Rattle.log_laws.proofs.Kept.Moves.{after_site, site_popped, LogsLater, Grown, Enters, Turns, LogsGo, NoStreamStart, SiteRises}
use Rattle.log_laws.proofs.Kept.Grown.{grown-same, grown-then, enters-same, enters-then}
use Rattle.log_laws.proofs.Kept.KeepsViews.{foreign-later, views-keeps}

-- ---- the site and the channels after a turn

module _ (S : LogState) (i : ℕ) (s : SiteState) (out : Sends) (G : Logs) where
  -- the site is what the turn made of it, and the others are as they were
  pub here : (after_site S i s out G).sites i ≡ s
  here = set-here S.sites i s

  pub there : (c : ℕ) → (c ≡ i → ⊥) → (after_site S i s out G).sites c ≡ S.sites c
  there c other = set-there S.sites i s c other

  -- what it sent is behind what was under way, and all other channels are as they were
  pub sent-here : (b : Actor) → (after_site S i s out G).words.channel (Site i) b ≡ S.words.channel (Site i) b ++ out b
  sent-here b = rw (eqb-same i) refl

  pub sent-there : (j : ℕ) (b : Actor) → (j ≡ i → ⊥) → (after_site S i s out G).words.channel (Site j) b ≡ S.words.channel (Site j) b
  sent-there j b other = let e : (i == j) ≡ false = grind (arith, nat_tests, other) in rw e refl

  pub between-here : (c : ℕ) → between (after_site S i s out G) i c ≡ between S i c ++ out (Site c)
  between-here c = sent-here (Site c)

  pub between-there : (j c : ℕ) → (j ≡ i → ⊥) → between (after_site S i s out G) j c ≡ between S j c
  between-there j c other = sent-there j (Site c) other

  -- of a channel from a site, whether it is this one or another
  pub sent-either : (P : ℕ → List Letter → Type 0) (b : Actor) → P i (S.words.channel (Site i) b ++ out b)
      → ((j : ℕ) → (j ≡ i → ⊥) → P j (S.words.channel (Site j) b)) → (j : ℕ) → P j ((after_site S i s out G).words.channel (Site j) b)
  sent-either P b mine other j = cond_both (i == j) _ _ (P j)
      (λ e. subst (λ z. P z (S.words.channel (Site z) b ++ out b)) (eqb-true i j e) mine) (λ e. other j (λ d. grind (arith, nat_tests, e, d)))

-- ---- all messages after a turn

-- those that were under way, where each stays as it may be, and those that the site sent
pub all-after : (P Q : Letter → Type 0) (xs ys : List Letter) → ((l : Letter) → In l xs → P l → Q l) → AllByRecursion P xs → AllByRecursion Q ys → AllByRecursion Q (xs ++ ys)
all-after P Q xs ys keeps h k = all-append Q xs ys (all-from Q xs (λ l i. keeps l i (all-at P xs h l i))) k

module _ (S : LogState) (H : LogsHold S) (i : ℕ) (s : SiteState) (out : Sends) (G : Logs) (f : LogsLater S (after_site S i s out G)) where
  -- from site to site
  pub letters-after : ((j c : ℕ) (l : Letter) → IsSlot S c → In l (between S j c) → SiteLetterOk S j c l → SiteLetterOk (after_site S i s out G) j c l)
      → ((c : ℕ) → IsSlot S c → AllByRecursion (SiteLetterOk (after_site S i s out G) i c) (out (Site c)))
      → (j c : ℕ) → IsSlot S c → AllByRecursion (SiteLetterOk (after_site S i s out G) j c) (between (after_site S i s out G) j c)
  letters-after keeps new j c slot = let T = after_site S i s out G in sent-either S i s out G (λ j ls. AllByRecursion (SiteLetterOk T j c) ls) (Site c)
      (all-after (SiteLetterOk S i c) (SiteLetterOk T i c) (between S i c) (out (Site c)) (λ l. keeps i c l slot) (H.letters i c slot) (new c slot))
      (λ k other. all-from (SiteLetterOk T k c) (between S k c) (λ l m. keeps k c l slot m (all-at (SiteLetterOk S k c) (between S k c) (H.letters k c slot) l m)))
      j

  -- from any actor to a site
  pub foreign-after : ((c : ℕ) → AllByRecursion (ForeignOk S c (Site i)) (out (Site c)))
      → (from : Actor) (c : ℕ) → AllByRecursion (ForeignOk (after_site S i s out G) c from) ((after_site S i s out G).words.channel from (Site c))
  foreign-after new from c = all-mono (ForeignOk S c from) (ForeignOk T c from) (foreign-later S T H f c from) (T.words.channel from (Site c)) (old from)
    where
      T : LogState
      T = after_site S i s out G

      old : (from : Actor) → AllByRecursion (ForeignOk S c from) (T.words.channel from (Site c))
      old (Site j) = sent-either S i s out G (λ j ls. AllByRecursion (ForeignOk S c (Site j)) ls) (Site c)
          (all-append (ForeignOk S c (Site i)) (between S i c) (out (Site c)) (H.foreign (Site i) c) (new c)) (λ j other. H.foreign (Site j) c) j
      old from = H.foreign from c

  -- what agents say of words to sites
  pub views-after : (c : ℕ) → (c ≡ i → (s.start ≡ site_start S i) × (s.view ≡ (S.sites i).view)) → G.ran c ≡ S.logs.ran c → ViewsOk S c → ViewsOk (after_site S i s out G) c
  views-after c own ran k = views-keeps S T H f c start view ran refl (λ s m. m) refl k
    where
      T : LogState
      T = after_site S i s out G

      start : site_start T c ≡ site_start S c
      start = set-both (λ d x. (d ≡ i → s.start ≡ site_start S i) → x.start ≡ site_start S d) S.sites i s (λ k. k refl) (λ d other k. refl) c (λ e. (own e).0)

      view : (T.sites c).view ≡ (S.sites c).view
      view = set-both (λ d x. (d ≡ i → s.view ≡ (S.sites i).view) → x.view ≡ (S.sites d).view) S.sites i s (λ k. k refl) (λ d other k. refl) c (λ e. (own e).1)

-- ---- channels from which a message was taken

-- of a channel to a site, whether the message was taken from it or not
pub taken-either : (S : LogState) (from : Actor) (i : ℕ) (P : Actor → ℕ → List Letter → Type 0) → ((c : ℕ) → c ≡ i → P from c (rest (S.words.channel from (Site c))))
    → (a : Actor) (c : ℕ) → P a c (S.words.channel a (Site c)) → P a c ((site_popped S from i).words.channel a (Site c))
taken-either S from i P mine a c other = cond_both (i == c && same from a) _ _ (P a c)
    (λ e. let p = and_parts (i == c) (same from a) e in
    subst (λ z. P z c (rest (S.words.channel z (Site c)))) (word_steps.same-true from a p.1) (mine c (sym (eqb-true i c p.0))))
    (λ e. other)

same-self : (a : Actor) → same a a ≡ true
same-self Director = refl
same-self (Client n) = eqb-same n
same-self (Agent h) = eqb-same h
same-self (Site i) = eqb-same i
same-self (Scanner x) = eqb-same x

-- what is left in the channel
pub popped-here : (S : LogState) (from : Actor) (i : ℕ) → (site_popped S from i).words.channel from (Site i) ≡ rest (S.words.channel from (Site i))
popped-here S from i = rw (eqb-same i, same-self from) refl

-- What a site sends doesn't touch the first message that it takes.
pub popped-after : (S : LogState) (from : Actor) (i : ℕ) (s : SiteState) (out : Sends) (G : Logs) (l : Letter) (ls : List Letter) → S.words.channel from (Site i) ≡ l ∷ ls
    → after_site (site_popped S from i) i s out G ≡ site_popped (after_site S i s out G) from i
popped-after S from i s out G l ls is =
    ap (λ c. record S { words = record S.words { channel = c }; sites = set_at S.sites i s; logs = G }) (word_steps.sent-took S.words.channel from (Site i) out l ls is)

pub first-after : (S : LogState) (from : Actor) (i : ℕ) (s : SiteState) (out : Sends) (G : Logs) (l : Letter) (ls : List Letter) → S.words.channel from (Site i) ≡ l ∷ ls
    → (more : List Letter) × ((after_site S i s out G).words.channel from (Site i) ≡ l ∷ more)
first-after S from i s out G l ls is = cond_both (same (Site i) from) _ _ (λ z. (more : List Letter) × (z ≡ l ∷ more))
    (λ _. (ls ++ out (Site i), ap (λ xs. xs ++ out (Site i)) is)) (λ _. (ls, is))

-- ---- the words

-- a turn of a site, and a message that it takes, leave all that is said of words
module _ (S : LogState) (i : ℕ) where
  pub words-after : (s : SiteState) (out : Sends) (G : Logs) → word.WordsHold S.words → word.WordsHold (after_site S i s out G).words
  words-after s out G h = word_steps.channel-holds S.words (after_site S i s out G).words.channel (λ x y. refl) (λ x. refl) h

  pub words-popped : (from : Actor) → word.WordsHold S.words → word.WordsHold (site_popped S from i).words
  words-popped from h = word_steps.channel-holds S.words (site_popped S from i).words.channel (λ x y. refl) (λ x. refl) h

-- and only add to it
pub words-later : (S : LogState) (ch : Actor → Actor → List Letter) → word_moves.WordsLater S.words (record S.words { channel = ch })
words-later S ch = word_steps.later-moved S.words S.words.agents ch (λ s b r. r)

-- All is later, where sites go on, and the history of what ran, was entered and was streamed stays.
pub later-by : (S T : LogState) → word_moves.WordsLater S.words T.words → T.logs.ran ≡ S.logs.ran → T.logs.entered ≡ S.logs.entered → T.logs.streamed ≡ S.logs.streamed
    → ((c : ℕ) → SiteRises (S.sites c) (T.sites c)) → ((p t : ℕ) → S.logs.reach p t ≤ T.logs.reach p t) → LogsLater S T
later-by S T words ran entered streamed sites reach = record {
  words = words;
  ran = λ c a. subst (λ r. In a (r c)) (sym ran);
  greatest = λ c. (sites c).greatest;
  sites = λ c. inl (sites c);
  entered = λ c t e is. ap (λ f. f c t) entered ∙ is;
  entered_now = λ c t e is. inl (ap (λ f. f c t) (sym entered) ∙ is);
  streamed = λ c t x is. ap (λ f. f c t) streamed ∙ is;
  streamed_now = λ c t x is. inl (ap (λ f. f c t) (sym streamed) ∙ is);
  reach = reach;
}

-- ---- turns, one behind another

-- one turn after another is one turn
pub after-after : (S : LogState) (i : ℕ) (a b : SiteState) (out more : Sends) (G F : Logs) → after_site (after_site S i a out G) i b more F ≡ after_site S i b (λ x. out x ++ more x) F
after-after S i a b out more G F =
    ap (λ g. record S { words = record S.words { channel = sent (sent S.words.channel (Site i) out) (Site i) more }; sites = g; logs = F }) (set-twice S.sites i a b)
    ∙ ap (λ c. record S { words = record S.words { channel = c }; sites = set_at S.sites i b; logs = F }) (sent-twice S.words.channel (Site i) out more)

-- where nothing changes
pub after-same : (S : LogState) (i : ℕ) → after_site S i (S.sites i) no_sends S.logs ≡ S
after-same S i =
    ap (λ c. record S { words = record S.words { channel = c }; sites = set_at S.sites i (S.sites i) }) (sent-nothing S.words.channel (Site i))
    ∙ ap (λ f. record S { sites = f }) (set-same S.sites i)

-- where nothing is sent
pub after-nothing : (S : LogState) (i : ℕ) (s : SiteState) (G : Logs) → after_site S i s no_sends G ≡ record S { sites = set_at S.sites i s; logs = G }
after-nothing S i s G = ap (λ c. record S { words = record S.words { channel = c }; sites = set_at S.sites i s; logs = G }) (sent-nothing S.words.channel (Site i))

-- what a further part of a turn adds
then-grown : (S : LogState) (i : ℕ) (s : SiteState) (t : Turn SiteState) (out : Sends) (G : Logs) (r : LogsGo (after_site S i s out G) i t)
    → Grown S.words.deployment i s S.logs G → Grown S.words.deployment i t.state S.logs r.logs
then-grown S i s t out G r k = grown-then S.words.deployment i s t.state S.logs G r.logs
    (r.start ∙ ap (λ x. x.start) (here S i s out G)) (r.view ∙ ap (λ x. x.view) (here S i s out G)) k r.grown

-- from the log that the first one left
pub log-here : (S : LogState) (i : ℕ) (s : SiteState) (out : Sends) (G : Logs) → length (log_at (after_site S i s out G) i) ≡ length s.log
log-here S i s out G = ap (λ x. length x.log) (here S i s out G)

then-enters : (S : LogState) (i : ℕ) (s : SiteState) (t : Turn SiteState) (out : Sends) (G : Logs) (r : LogsGo (after_site S i s out G) i t) → length (log_at S i) ≤ length s.log
    → Enters i (length (log_at S i)) S.logs G → Enters i (length (log_at S i)) S.logs r.logs
then-enters S i s t out G r longer k = let e = log-here S i s out G in
    enters-then i (length (log_at S i)) (length (log_at (after_site S i s out G) i)) S.logs G r.logs (omega (arith, longer, e)) k r.enters

pub then-longer : (S : LogState) (i : ℕ) (s : SiteState) (out : Sends) (G : Logs) (n : ℕ) → length (log_at S i) ≤ length s.log → length (log_at (after_site S i s out G) i) ≤ n → length (log_at S i) ≤ n
then-longer S i s out G n low high = let e = log-here S i s out G in omega (arith, low, high, e)

-- A further part of a turn, from the state after the first one.
pub goes-then-after : (S : LogState) (i : ℕ) (t : Turn SiteState) (f : SiteState → Turn SiteState) (g : LogsGo S i t)
    → LogsGo (after_site S i t.state t.sends g.logs) i (f t.state) → LogsGo S i (t ▸ f)
goes-then-after S i t f g r = record {
  logs = r.logs;
  start = r.start ∙ ap (λ x. x.start) (here S i t.state t.sends g.logs) ∙ g.start;
  view = r.view ∙ ap (λ x. x.view) (here S i t.state t.sends g.logs) ∙ g.view;
  plain = λ c. all-append NoStreamStart (t.sends (Site c)) ((f t.state).sends (Site c)) (g.plain c) (r.plain c);
  holds = subst LogsHold (after-after S i t.state (f t.state).state t.sends (f t.state).sends g.logs r.logs) r.holds;
  grown = then-grown S i t.state (f t.state) t.sends g.logs r g.grown;
  enters = then-enters S i t.state (f t.state) t.sends g.logs r g.longer g.enters;
  longer = then-longer S i t.state t.sends g.logs (length (f t.state).state.log) g.longer r.longer;
}

pub turns-then-after : (S : LogState) (i : ℕ) (t : Turn SiteState) (f : SiteState → Turn SiteState) (g : Turns S i t)
    → LogsGo (after_site S i t.state t.sends g.logs) i (f t.state) → Turns S i (t ▸ f)
turns-then-after S i t f g r = record {
  logs = r.logs;
  start = r.start ∙ ap (λ x. x.start) (here S i t.state t.sends g.logs) ∙ g.start;
  plain = λ c. all-append NoStreamStart (t.sends (Site c)) ((f t.state).sends (Site c)) (g.plain c) (r.plain c);
  holds = subst LogsHold (after-after S i t.state (f t.state).state t.sends (f t.state).sends g.logs r.logs) r.holds;
  grown = then-grown S i t.state (f t.state) t.sends g.logs r g.grown;
  enters = then-enters S i t.state (f t.state) t.sends g.logs r g.longer g.enters;
  longer = then-longer S i t.state t.sends g.logs (length (f t.state).state.log) g.longer r.longer;
}

-- from whatever state it is in which the site is what the first one made of it
abbrev pub GoesFrom : LogState → ℕ → SiteState → Turn SiteState → Type 0
GoesFrom S i s t = (T : LogState) → T.sites i ≡ s → T.words.deployment ≡ S.words.deployment → T.pending ≡ S.pending → LogsHold T → LogsGo T i t

pub goes-then : (S : LogState) (i : ℕ) (t : Turn SiteState) (f : SiteState → Turn SiteState) → LogsGo S i t → GoesFrom S i t.state (f t.state) → LogsGo S i (t ▸ f)
goes-then S i t f g k = goes-then-after S i t f g (k (after_site S i t.state t.sends g.logs) (here S i t.state t.sends g.logs) refl refl g.holds)

pub turns-then-goes : (S : LogState) (i : ℕ) (t : Turn SiteState) (f : SiteState → Turn SiteState) → Turns S i t → GoesFrom S i t.state (f t.state) → Turns S i (t ▸ f)
turns-then-goes S i t f g k = turns-then-after S i t f g (k (after_site S i t.state t.sends g.logs) (here S i t.state t.sends g.logs) refl refl g.holds)

pub goes-turns : (S : LogState) (i : ℕ) (t : Turn SiteState) → LogsGo S i t → Turns S i t
goes-turns S i t g = record { logs = g.logs; start = g.start; plain = g.plain; holds = g.holds; grown = g.grown; enters = g.enters; longer = g.longer }

-- a turn in which nothing happens
pub goes-same : (S : LogState) (i : ℕ) → LogsHold S → LogsGo S i (becomes (S.sites i))
goes-same S i h = record {
  logs = S.logs;
  start = refl;
  view = refl;
  plain = λ c. tt;
  holds = subst LogsHold (sym (after-same S i)) h;
  grown = grown-same S.words.deployment i (S.sites i) S.logs;
  enters = enters-same i (length (log_at S i)) S.logs S.logs refl;
  longer = omega arith;
}
