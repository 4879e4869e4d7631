-- A turn whose messages are put in order: what holds after it as they were sent, holds then.
use Rattle.log_laws.proofs.Names.{◌≡◌, Bool, true, false, List, [], ◌∷◌, ◌++◌, append-nil, append_assoc, refl, sym, subst, ap, ◌∙◌, ◌==◌, eqb-true, eqb-false, fun_ext, filter-append, ℕ, filter, find, Option, Some, None, if◌then◌else◌, AllByRecursion, Actor, Agent, Site, Scanner, Database, Deployment, same, Letter, Sends, Turn, ◌▸◌, only, SiteState, Ask, ordered, order_of, of_order, takes_asks, takes_first_ask, can_take, sent, all-append, all-behind, all-if, all-mono, filter-all, channel-holds, in_order, all-order, flat_map-append, LogState, Logs, LogsHold, SiteLetterOk, ForeignOk, ToldOk, site_start, term_at, between, agent_to_site, line, flow, stream_ends_in, asks_in, asks_waiting, asks_of_term, asked, ask_of, end_of, flow_of, line_of}
use Rattle.log_laws.proofs.Kept.Moves.{after_site, NoStreamStart, Turns}
use Rattle.log_laws.proofs.Plain.{line-order, flow-order, ends-order, asks-order}
use Rattle.log_laws.proofs.Kept.Asked.{at-most-is}
use Rattle.log_laws.proofs.Kept.KeepsViews.{leaves-same}
use Rattle.log_laws.proofs.Kept.Inert.{channels-hold}

-- ---- two turns that differ in the order of what they send

module _ (S : LogState) (i : ℕ) (s : SiteState) (out more : Sends) (G : Logs) where
  -- of a channel from a site behind the one and behind the other
  pub sent-two : (P : ℕ → List Letter → List Letter → Type 0) (b : Actor)
      → P i (S.words.channel (Site i) b ++ out b) (S.words.channel (Site i) b ++ more b)
      → ((j : ℕ) → (j ≡ i → ⊥) → P j (S.words.channel (Site j) b) (S.words.channel (Site j) b))
      → (j : ℕ) → P j ((after_site S i s out G).words.channel (Site j) b) ((after_site S i s more G).words.channel (Site j) b)
  sent-two P b mine other j = choice (i == j) refl
    where
      choice : (x : Bool) → (i == j) ≡ x
          → P j (if x then S.words.channel (Site j) b ++ out b else S.words.channel (Site j) b) (if x then S.words.channel (Site j) b ++ more b else S.words.channel (Site j) b)
      choice true e = subst (λ z. P z (S.words.channel (Site z) b ++ out b) (S.words.channel (Site z) b ++ more b)) (eqb-true i j e) mine
      choice false e = other j (λ d. eqb-false i j e (sym d))

-- What holds behind messages as they were sent, holds behind them in order, where no stream begins with one of them.
pub order-holds : (S : LogState) (i : ℕ) (s : SiteState) (out : Sends) (G : Logs) → ((c : ℕ) → AllByRecursion NoStreamStart (out (Site c)))
    → LogsHold (after_site S i s out G) → LogsHold (after_site S i s (λ b. in_order (out b)) G)
order-holds S i s out G plain H = channels-hold T ch H
    (record {
      words = channel-holds T.words ch (λ x y. refl) (λ x. refl) H.words;
      lines = λ l c up. sent-two S i s out (λ b. in_order (out b)) G (λ j xs ys. line (site_start T c) (term_at T c) ys ≡ line (site_start T c) (term_at T c) xs) (Site c)
          (same-behind (line (site_start T c) (term_at T c)) (flat_map-append (line_of (site_start T c) (term_at T c))) (between S i c) (out (Site c))
          (line-order (site_start T c) (term_at T c) (out (Site c))))
          (λ j other. refl) l;
      flows = λ l c up. sent-two S i s out (λ b. in_order (out b)) G (λ j xs ys. flow (site_start T c) (term_at T c) ys ≡ flow (site_start T c) (term_at T c) xs) (Site c)
          (same-behind (flow (site_start T c) (term_at T c)) (flat_map-append (flow_of (site_start T c) (term_at T c))) (between S i c) (out (Site c))
          (flow-order (site_start T c) (term_at T c) (out (Site c)) (plain c)))
          (λ j other. refl) l;
      ends = λ l c up. sent-two S i s out (λ b. in_order (out b)) G
          (λ j xs ys. stream_ends_in (site_start T c) (term_at T c) xs ≡ [] → stream_ends_in (site_start T c) (term_at T c) ys ≡ []) (Site c)
          (λ e. same-behind (stream_ends_in (site_start T c) (term_at T c)) (flat_map-append (end_of (site_start T c) (term_at T c))) (between S i c) (out (Site c))
          (ends-order (site_start T c) (term_at T c) (out (Site c))) ∙ e)
          (λ j other e. e) l;
      leaves = λ c. leaves-same (site_start T c) (agent_to_site T c) (agent_to_site T c) refl;
      letters = λ l c slot. all-two (λ j. SiteLetterOk T j c) (Site c) l (H.letters l c slot);
      foreign = foreign;
      told = λ c h. all-two (λ j. ToldOk T j) (Agent h) c (H.loads.told c h);
      asked = λ h g. refl;
    })
    (λ c l t. at-most-is (asked T c l t) (asked (record T { words = record T.words { channel = ch } }) c l t)
    (ap (λ z. z ++ asks_waiting c t (T.sites l).waiting ++ asks_waiting c t (T.pending l) ++ asks_of_term c t (T.sites l)) (asks c l t)))
  where
    T : LogState
    T = after_site S i s out G

    ch : Actor → Actor → List Letter
    ch = sent S.words.channel (Site i) (λ b. in_order (out b))

    same-behind : {A : Type 0} (f : List Letter → List A) → ((xs ys : List Letter) → f (xs ++ ys) ≡ f xs ++ f ys) → (xs ys : List Letter) → f (in_order ys) ≡ f ys
        → f (xs ++ in_order ys) ≡ f (xs ++ ys)
    same-behind f append xs ys e = append xs (in_order ys) ∙ ap (λ z. f xs ++ z) e ∙ sym (append xs ys)

    asks : (c l t : ℕ) → asks_in t (ch (Site c) (Site l)) ≡ asks_in t (between T c l)
    asks c l t = sent-two S i s out (λ b. in_order (out b)) G (λ j xs ys. asks_in t ys ≡ asks_in t xs) (Site l)
        (same-behind (asks_in t) (flat_map-append (ask_of t)) (between S i l) (out (Site l)) (asks-order t (out (Site l)))) (λ j other. refl) c

    in-prefix : (P : Letter → Type 0) (xs ys : List Letter) → AllByRecursion P (xs ++ ys) → AllByRecursion P xs
    in-prefix P [] ys k = tt
    in-prefix P (x ∷ xs) ys k = (k.0, in-prefix P xs ys k.1)

    all-two : (P : ℕ → Letter → Type 0) (b : Actor) (j : ℕ) → AllByRecursion (P j) (T.words.channel (Site j) b) → AllByRecursion (P j) (ch (Site j) b)
    all-two P b = sent-two S i s out (λ b. in_order (out b)) G (λ j xs ys. AllByRecursion (P j) xs → AllByRecursion (P j) ys) b
        (λ k. all-append (P i) (S.words.channel (Site i) b) (in_order (out b)) (in-prefix (P i) (S.words.channel (Site i) b) (out b) k)
        (all-order (P i) (out b) (all-behind (P i) (S.words.channel (Site i) b) (out b) k)))
        (λ j other k. k)

    foreign : (from : Actor) (c : ℕ) → AllByRecursion (ForeignOk T c from) (ch from (Site c))
    foreign (Site j) c = all-two (λ j. ForeignOk T c (Site j)) (Site c) j (H.foreign (Site j) c)
    foreign from c = H.foreign from c

-- ---- a turn in order

pub ordered-turns : (S : LogState) (i : ℕ) (t : Turn SiteState) → Turns S i t → Turns S i (ordered t)
ordered-turns S i t g = record {
  logs = g.logs;
  start = g.start;
  plain = λ c. all-order NoStreamStart (t.sends (Site c)) (g.plain c);
  holds = order-holds S i t.state t.sends g.logs g.plain g.holds;
  grown = g.grown;
  enters = g.enters;
  longer = g.longer;
}

-- ---- what is sent last

-- a message of the last place
abbrev pub IsLast : Letter → Type 0
IsLast l = order_of l ≡ 4

-- messages of the last place behind others stay behind them
pub order-behind : (xs ys : List Letter) → AllByRecursion IsLast ys → in_order (xs ++ ys) ≡ in_order xs ++ ys
order-behind xs ys h = let same-last = filter-all (λ l. order_of l == 4) ys (all-mono IsLast (λ l. (order_of l == 4) ≡ true) (λ l k. ap (λ m. m == 4) k) ys h) in rw (
  split 1,
  split 2,
  split 3,
  split 4,
  none 1 refl,
  none 2 refl,
  none 3 refl,
  same-last,
  append-nil (of_order 1 xs),
  append-nil (of_order 2 xs),
  append-nil (of_order 3 xs),
)
    (sym (append_assoc (of_order 1 xs ++ of_order 2 xs ++ of_order 3 xs) (of_order 4 xs) ys))
  where
    split : (n : ℕ) → of_order n (xs ++ ys) ≡ of_order n xs ++ of_order n ys
    split n = filter-append (λ l. order_of l == n) xs ys

    none : (n : ℕ) → (4 == n) ≡ false → of_order n ys ≡ []
    none n e = filter-nothing (λ l. order_of l == n) ys (all-mono IsLast (λ l. (order_of l == n) ≡ false) (λ l k. ap (λ m. m == n) k ∙ e) ys h)
      where
        filter-nothing : (p : Letter → Bool) (zs : List Letter) → AllByRecursion (λ l. p l ≡ false) zs → filter p zs ≡ []
        filter-nothing p [] k = refl
        filter-nothing p (z ∷ zs) k = rw (k.0) (filter-nothing p zs k.1)

pub ordered-then : (t : Turn SiteState) (f : SiteState → Turn SiteState) → ((b : Actor) → AllByRecursion IsLast ((f t.state).sends b)) → ordered (t ▸ f) ≡ ordered t ▸ f
ordered-then t f h = ap (λ z. record { state = (f t.state).state; sends = z }) (fun_ext (λ b. order-behind (t.sends b) ((f t.state).sends b) (h b)))

-- What a leader sends that takes a joiner.
pub takes_asks-last : (E : Database) (D : Deployment) (i : ℕ) (s : SiteState) (b : Actor) → AllByRecursion IsLast ((takes_asks E D i s).sends b)
takes_asks-last E D i s b = go (find (can_take D i s) s.asks)
  where
    one : (to : Actor) (l : Letter) → IsLast l → AllByRecursion IsLast (only to l b)
    one to l k = all-if IsLast (same to b) (l ∷ []) [] (k, tt) tt

    go : (o : Option Ask) → AllByRecursion IsLast ((takes_first_ask E D i s o).sends b)
    go None = tt
    go (Some a) = all-append IsLast _ _ (one (Site a.slot) _ refl) (one (Scanner i) _ refl)
