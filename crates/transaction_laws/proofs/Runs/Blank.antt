-- A site that isn't running has no log.
use Rattle.transaction_laws.proofs.Names.{Actor, AllByRecursion, Database, Deployment, Environment, Letter, NoWord, PlainWaiting, SiteState, [], all-mono, arith, plain-word, refl, site_turn, site_turn-cases, sync_turn, sync_turn-cases, syncs-stays, taken-stays, ℕ, ◌<◌, ◌≡◌}

abbrev pub Blank : SiteState → Type 0
Blank s = s.start ≡ 0 → s.log ≡ []

-- So it is after each turn: one that takes a message goes on with its start.
pub turn-blank : (E : Database) (D : Deployment) (stamp i : ℕ) (s : SiteState) → Blank s → (0 < s.start → AllByRecursion PlainWaiting s.waiting)
    → (from : Actor) (l : Letter) (o : Environment) → Blank (site_turn E D stamp i s from l o).state
turn-blank E D stamp i s blank waits from l o = site_turn-cases E D stamp i s from (λ t. Blank t.state) (λ start stop joining contents out inert e. refl) l o
    (λ stop plans aside. blank) (λ up waits e. absurd (omega (arith, up, e)))
    (λ up takes e.
    let k = (taken-stays E D stamp i s from l (all-mono PlainWaiting (λ x. NoWord x.from x.letter) plain-word s.waiting (waits up))).0 in
    absurd (omega (arith, up, k, e)))

pub sync-blank : (E : Database) (D : Deployment) (i : ℕ) (s : SiteState) → 0 < s.start → (o : Environment) → Blank (sync_turn E D i s o).state
sync-blank E D i s up o = sync_turn-cases E D i s o (λ t. Blank t.state) (λ stop contents out inert e. refl)
    (λ e. let k = (syncs-stays E D i s).0 in absurd (omega (arith, up, k, e)))
