-- The turn of a site that takes a message: its handler, then what waited for its term, and then what settles.
use Rattle.log_laws.proofs.Names.{◌≡◌, ◌<◌, List, [], ◌∷◌, sym, subst, ap, ◌∙◌, inl, ℕ, Actor, Site, Database, same, Letter, Turn, ◌▸◌, arrival, Taken, Deployment, SiteState, site_handler, ends_streams, shows, takes_asks, settles, ordered, then-assoc, LogState, LogsHold, site_start, term_at}
use Rattle.cluster_model.specs.Site.{takes_waiting, tells}
use Rattle.log_laws.proofs.Kept.{after_site, site_popped, left, Turns, LogsGo, grown-on, here, after-after, goes-then, turns-then-goes, part-from, ordered-turns, tells-goes, shows-goes, ordered-then, takes_asks-last}
use Rattle.log_laws.proofs.Messages.Waited.{waited-goes}
use Rattle.log_laws.proofs.Messages.Stops.{AfterTurn}
use Rattle.log_laws.proofs.Joins.Streams.{TakesAsks, takes_asks-holds}
use Rattle.log_laws.proofs.Firmness.Ends.{ends_streams-goes}
use Rattle.log_laws.proofs.Runs.SiteHandlers.{handler-turns, left-goes}

-- ---- what settles, but for asks that are taken up

abbrev calms : Database → ℕ → Deployment → SiteState → Turn SiteState
calms E i D s = tells E D i s ▸ ends_streams ▸ shows E D i

calms-goes : (E : Database) (i : ℕ) (S : LogState) → LogsHold S → 0 < site_start S i → LogsGo S i (calms E i S.words.deployment (S.sites i))
calms-goes E i S H up =
    let D = S.words.deployment in
    let t = tells E D i (S.sites i) in
    let first = tells-goes E D S i H in
    let second = goes-then S i t ends_streams first
    (part-from S i t.state (λ D s. ends_streams s) (λ T K u. ends_streams-goes T K i u) (subst (λ n. 0 < n) (sym first.start) up)) in
    goes-then S i (t ▸ ends_streams) (shows E D i) second
    (part-from S i (t ▸ ends_streams).state (λ D s. shows E D i s) (λ T K u. shows-goes E T.words.deployment T i K) (subst (λ n. 0 < n) (sym second.start) up))

-- A turn behind which asks are taken up, in order.
asks-after : (E : Database) (S : LogState) (i : ℕ) (t : Turn SiteState) → 0 < site_start S i → Turns S i t → AfterTurn S i (ordered (t ▸ takes_asks E S.words.deployment i))
asks-after E S i t up k =
    let D = S.words.deployment in
    let o = ordered-turns S i t k in
    let T = after_site S i t.state (ordered t).sends o.logs in
    let a = takes_asks E D i t.state in
    let site : T.sites i ≡ t.state = here S i t.state (ordered t).sends o.logs in
    let r = subst (λ s. TakesAsks T i (takes_asks E D i s)) site (takes_asks-holds E T o.holds i (subst (λ s. 0 < s.start) (sym site) (subst (λ n. 0 < n) (sym k.start) up))) in
    subst (AfterTurn S i) (sym (ordered-then t (takes_asks E D i) (takes_asks-last E D i t.state))) (
      o.logs,
      subst LogsHold (after-after S i t.state a.state (ordered t).sends a.sends o.logs o.logs) r.holds,
      grown-on D i t.state a.state S.logs o.logs (r.start ∙ ap (λ s. s.start) site) (r.view ∙ ap (λ s. s.view) site) o.grown,
      o.enters,
      inl (r.start ∙ ap (λ s. s.start) site ∙ k.start),
    )

-- ---- turns

-- A turn behind which all settles, in order.
pub settled-after : (E : Database) (S : LogState) (i : ℕ) (t : Turn SiteState) → 0 < site_start S i → Turns S i t → AfterTurn S i (ordered (t ▸ settles E S.words.deployment i))
settled-after E S i t up k =
    let D = S.words.deployment in
    let calm = turns-then-goes S i t (calms E i D) k (part-from S i t.state (calms E i) (λ T K u. calms-goes E i T K u) (subst (λ n. 0 < n) (sym k.start) up)) in
    subst (λ u. AfterTurn S i (ordered u)) (then-assoc t (calms E i D) (takes_asks E D i)) (asks-after E S i (t ▸ calms E i D) up calm)

-- The handler of a message that is taken, and all that comes behind it.
pub taken-after : (E : Database) (stamp : ℕ) (S : LogState) → LogsHold S → (i : ℕ) → 0 < site_start S i → S.pending i ≡ [] → (from : Actor) (l : Letter) (ls : List Letter)
    → S.words.channel from (Site i) ≡ l ∷ ls → arrival (site_start S i) (term_at S i) l ≡ Taken
    → AfterTurn (site_popped S from i) i (ordered (site_handler E S.words.deployment stamp i (S.sites i) from l ▸ takes_waiting E S.words.deployment stamp i ▸ settles E S.words.deployment i))
taken-after E stamp S H i up none from l ls is take =
    let D = S.words.deployment in
    let T = site_popped S from i in
    let t = site_handler E D stamp i (S.sites i) from l in
    let handler = handler-turns E stamp S H i up from l ls is take in
    settled-after E T i (t ▸ takes_waiting E D stamp i) up
    (turns-then-goes T i t (takes_waiting E D stamp i) handler
    (λ U site same pending K. waits-from U site same pending K handler.start))
  where
    waits-from : (U : LogState) → U.sites i ≡ (site_handler E S.words.deployment stamp i (S.sites i) from l).state → U.words.deployment ≡ S.words.deployment → U.pending ≡ S.pending → LogsHold U
        → (site_handler E S.words.deployment stamp i (S.sites i) from l).state.start ≡ site_start S i
        → LogsGo U i (takes_waiting E S.words.deployment stamp i (site_handler E S.words.deployment stamp i (S.sites i) from l).state)
    waits-from U site same pending K start =
        let up_there : 0 < site_start U i = subst (λ s. 0 < s.start) (sym site) (subst (λ n. 0 < n) (sym start) up) in
        subst (λ s. LogsGo U i (takes_waiting E S.words.deployment stamp i s)) site
        (waited-goes E S.words.deployment stamp i U
        (λ V x ws K u d is t w. subst (λ D. LogsGo (left V i ws) i (site_handler E D stamp i (V.sites i) x.from x.letter)) d (left-goes E stamp V K i u x ws is t w))
        K up_there same (ap (λ p. p i) pending ∙ none))
