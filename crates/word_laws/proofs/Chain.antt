-- Decided words of an epoch form a chain, and what follows.
use Rattle.std.proofs.Common.{◌≡◌, true, false, sym, ◌∙◌, inl, inr}
use Rattle.std.specs.Prelude.{ℕ, Some}
use Rattle.volt_wire.specs.Word.{Membership}
use Rattle.cluster_model.specs.Engine.{Database}
use Rattle.cluster_model.specs.Words.{Deployment, is_in, term_of, not_lost}
use Rattle.cluster_model.specs.World.{World, Input}
use Rattle.cluster_model.specs.Runs.{Happening, Reached, RunsInEpoch, may_happen, renews}
use Rattle.cluster_model.specs.Events.{step}
use Rattle.cluster_model.proofs.Runs.{reached-kept, in-epoch-kept}
use Rattle.cluster_steps.specs.Lists.{In}
use Rattle.word_laws.specs.Histories.{State, Comparable, GoodWord, OwnOk, SaidBy, HistoryOk, names}
use Rattle.word_laws.specs.Chain.{state_of, InEpoch, HasDecided, HasWord, OneStartPerHost, MembersRise, KeepsInitiator, KeepsLeaders}
use Rattle.cluster_steps.proofs.Lists.{some-here}
use Rattle.word_laws.proofs.Members.{in-not_lost, member-start}
use Rattle.word_laws.proofs.Moves.{Grows}
use Rattle.word_laws.proofs.Agreement.{said-good, term-same, one-start, hosts-of, members-rise}
use Rattle.word_laws.proofs.Initiators.{initiator-lasts}
use Rattle.word_laws.proofs.Leaders.{leader-lasts}
use Rattle.word_laws.proofs.Worlds.{first-holds, step-holds, step-grows, grows-same, grows-then}

-- Each world that is reached is in an epoch, of which all holds.
pub words-agree : (E : Database) (input : Input) (w : World) → Reached E input w → InEpoch w
words-agree E input w r = reached-kept E InEpoch (step-holds E) input w (λ is. first-holds E input) r

-- a decided word of a world is one of its epoch's history
pub decided-in : (w : World) (k : InEpoch w) (m : Membership) → HasDecided w m → In m k.history.decided
decided-in w k m d = elim d.1 [
  | inl e ↦ (some-here (λ x. In x k.history.decided × (names x (w.agents d.0).start ≡ true)) (w.agents d.0).decided m e (k.holds.agents d.0).decided).0
  | inr e ↦ (some-here (λ x. (k.history.took (w.agents d.0).start ≡ Some x) × In x k.history.decided) (w.agents d.0).taken m e (k.holds.agents d.0).taken).1
]

-- two worlds of a run in one epoch, with the history of the later one
pub record OfOneEpoch (w v : World) : Type 0 where
  pub earlier : InEpoch w
  pub later : InEpoch v
  pub grows : Grows earlier.history later.history

-- so are those of a run in which no recovery works
pub of-one-epoch : (E : Database) (v w : World) → RunsInEpoch E v w → InEpoch v → OfOneEpoch v w
of-one-epoch E v w r k = in-epoch-kept E (OfOneEpoch v) goes-on v w r (record { earlier = k; later = k; grows = grows-same k.history })
  where
    goes-on : (u : World) (e : Happening) → may_happen u e ≡ true → renews e ≡ false → OfOneEpoch v u → OfOneEpoch v (step E u e)
    goes-on u e may same o =
        let n = step-grows E u e may same o.later in
        record { earlier = o.earlier; later = n.0; grows = grows-then o.earlier.history o.later.history n.0.history o.grows n.1 }

-- Of two words that were decided in one epoch, one is within the other; of one term, they are one.
pub chained : (w v : World) → OfOneEpoch w v → (m n : Membership) → HasDecided w m → HasDecided v n → Comparable m n
chained w v o m n d e = o.later.holds.history.chain m n (o.grows.decided m (decided-in w o.earlier m d)) (decided-in v o.later n e)

pub one-of-term : (w v : World) → OfOneEpoch w v → (m n : Membership) → HasDecided w m → HasDecided v n → term_of m ≡ term_of n → m ≡ n
one-of-term w v o m n d e t =
    let H = o.later.holds.history in
    let S = state_of v o.later.owner o.later.history in
    term-same S H m n (H.decided_good m (o.grows.decided m (decided-in w o.earlier m d))) (H.decided_good n (decided-in v o.later n e)) (chained w v o m n d e) t

-- ---- an earlier and a later word

-- what is so of any two words that were decided in the history of the later world, is so of two of one epoch, either way round
both-ways : (P : Membership → Membership → Type 0) (w v : World) (o : OfOneEpoch w v)
    → ((m n : Membership) → In m o.later.history.decided → In n o.later.history.decided → P m n)
    → (m n : Membership) → HasDecided w m → HasDecided v n → P m n × P n m
both-ways P w v o f m n d e =
    let i = o.grows.decided m (decided-in w o.earlier m d) in
    let j = decided-in v o.later n e in
    (f m n i j, f n m j i)

-- Members rise by start as they were admitted.
pub rising : (w v : World) → OfOneEpoch w v → (m n : Membership) → HasDecided w m → HasDecided v n → MembersRise m n × MembersRise n m
rising w v o = both-ways MembersRise w v o (λ m n i j h s g t x y z u.
    members-rise (state_of v o.later.owner o.later.history) o.later.holds.history m n i j h s g t (member-start m h s x) (member-start n h s y) (member-start n g t z) u)

-- The initiator and the leaders stay until they are lost.
pub initiator-kept : (w v : World) → OfOneEpoch w v → (m n : Membership) → HasDecided w m → HasDecided v n → KeepsInitiator m n × KeepsInitiator n m
initiator-kept w v o = both-ways KeepsInitiator w v o (λ m n i j p h s e l.
    initiator-lasts (state_of v o.later.owner o.later.history) o.later.holds.history m h s i e n j p l)

pub leaders-kept : (w v : World) → OfOneEpoch w v → (D : Deployment) (m n : Membership) → HasDecided w m → HasDecided v n → KeepsLeaders D m n × KeepsLeaders D n m
leaders-kept w v o D = both-ways (KeepsLeaders D) w v o (λ m n i j p part slot s e h l.
    leader-lasts D part (state_of v o.later.owner o.later.history) o.later.holds.history m n i j p slot s e h l)

-- ---- words of a world are good

-- each word of a world is one of its epoch's
pub word-good : (w : World) (k : InEpoch w) (m : Membership) → HasWord w m → GoodWord (state_of w k.owner k.history) m
word-good w k m (inl d) = k.holds.history.decided_good m (decided-in w k m d)
word-good w k m (inr (h, inl e)) = (some-here (OwnOk (state_of w k.owner k.history) (w.agents h).start) (w.agents h).own m e (k.holds.agents h).own).good
word-good w k m (inr (h, inr (g, e))) =
    let s = some-here (SaidBy (state_of w k.owner k.history) g) ((w.agents h).said g) m e ((k.holds.agents h).heard g) in
    said-good (state_of w k.owner k.history) k.holds.history s.0 m s.2

-- who is there and isn't lost is named, and is its host's
there : (S : State) (H : HistoryOk S) (m : Membership) → GoodWord S m → (h s : ℕ) → In (h, s) (not_lost m) → (names m s ≡ true) × (is_in s m.lost ≡ false) × (S.owner s ≡ h)
there S H m g h s i = in-not_lost S.owner m (hosts-of S H m g) g.owned h s i

-- Of each host one start is there.
pub one-start-each : (w : World) (k : InEpoch w) (m : Membership) → HasWord w m → OneStartPerHost m
one-start-each w k m d h r s i j =
    let S = state_of w k.owner k.history in
    let g = word-good w k m d in
    let p = there S k.holds.history m g h r i in
    let q = there S k.holds.history m g h s j in
    one-start S k.holds.history m r s g p.0 q.0 (p.2 ∙ sym q.2) p.1 q.1
