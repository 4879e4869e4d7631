-- Who leads, and who is a joiner.
use Rattle.cluster_steps.proofs.Names.{◌≡◌, true, false, refl, sym, ap, true≢false, and_parts, and_from, not-true, ℕ, not, is_some, Option, Some, None, Membership, Deployment, part_of_slot, is_some_of, SiteState, Joining, is_joiner, leader_in, is_leader, leads}

-- whether it is a joiner
pub not-joiner : (s : SiteState) → is_joiner s ≡ false → s.joining ≡ None
not-joiner s e = none s.joining e
  where
    none : (o : Option Joining) → is_some o ≡ false → o ≡ None
    none None e = refl
    none (Some j) e = absurd (true≢false e)

pub a-joiner : (s : SiteState) (j : Joining) → s.joining ≡ Some j → is_joiner s ≡ true
a-joiner s j e = ap is_some e

-- a leader isn't one, and has a word
pub leader-view : (D : Deployment) (i : ℕ) (s : SiteState) → is_leader D i s ≡ true → (s.joining ≡ None) × ((w : Membership) × (s.view ≡ Some w))
leader-view D i s e =
    let p = and_parts (not (is_joiner s)) (is_some_of (leader_in D s.view (part_of_slot D i)) i) e in
    (not-joiner s (not-true (is_joiner s) p.0), word s.view refl p.1)
  where
    word : (o : Option Membership) → s.view ≡ o → is_some_of (leader_in D o (part_of_slot D i)) i ≡ true → (w : Membership) × (s.view ≡ Some w)
    word None v k = absurd (true≢false (sym k))
    word (Some w) v k = (w, v)

-- it leads once it has what its term begins with
pub leads-parts : (D : Deployment) (i : ℕ) (s : SiteState) → leads D i s ≡ true → (is_leader D i s ≡ true) × (s.repaired ≡ true)
leads-parts D i s e = and_parts (is_leader D i s) s.repaired e

pub leads-from : (D : Deployment) (i : ℕ) (s : SiteState) → is_leader D i s ≡ true → s.repaired ≡ true → leads D i s ≡ true
leads-from D i s e r = and_from (is_leader D i s) s.repaired e r

-- as the view and the join stay, so does all that
pub leader-same : (D : Deployment) (i : ℕ) (s t : SiteState) → t.view ≡ s.view → t.joining ≡ s.joining → is_leader D i t ≡ is_leader D i s
leader-same D i s t v j = rw (v, j) refl
