-- Leaders of partitions: one whose host isn't lost leads its partition in each later word.
use Rattle.std.proofs.Common.{◌≡◌, Bool, true, false, List, [], ◌∷◌, refl, sym, subst, ap, ◌∙◌, ◌⊎◌, inl, inr, ◌==◌, arith}
use Rattle.std.proofs.lemmas.Bool.{cases_Bool, and_parts, and_from, or_left, eqb-true, lt-ltb}
use Rattle.std.proofs.lemmas.Bool.Decides.{nat_tests}
use Rattle.std.proofs.lemmas.Option.{none-some}
use Rattle.std.specs.Prelude.{ℕ, ◌&&◌, nat_lt, map, option_map, Option, Some, None}
use Rattle.std.specs.List.{list_any, cons_option}
use Rattle.volt_wire.specs.Word.{Membership}
use Rattle.partition_ring.specs.Placement.{host_of, slots_of_part, start_in, standing, comes_before, with_copies, ordered_copies, Rises}
use Rattle.partition_ring.proofs.LawLemmas.{rises, same_copies}
use Rattle.cluster_model.specs.Words.{Deployment, is_in, members, first_of, start_of, start_of_slot, host_of_slot, leader}
use Rattle.cluster_steps.specs.Lists.{In}
use Rattle.word_laws.specs.Histories.{State, Within, names, GoodWord, HistoryOk}
use Rattle.cluster_steps.proofs.Lists.{not-both, eqb-same, same-some, all-at, list_any-in, list_any-from}
use Rattle.word_laws.proofs.Algebra.{names-within}
use Rattle.word_laws.proofs.Members.{first-in}
use Rattle.word_laws.proofs.Agreement.{one-first, member-is, member-of, members-rise}

-- ---- copies that stand

module _ (hosts : ℕ) (ms : List (ℕ × ℕ)) where
  abbrev stands : ℕ → Option (ℕ × ℕ)
  stands slot = option_map (λ start. (start, slot)) (start_in ms (host_of hosts slot))

  pub standing-in : (c a : ℕ) (slots : List ℕ) → In c slots → start_in ms (host_of hosts c) ≡ Some a → In (a, c) (standing hosts ms slots)
  standing-in c a [] i e = absurd i
  standing-in c a (s ∷ slots) (inl q) e =
      let here : stands s ≡ Some (a, c) = ap stands q ∙ ap (option_map (λ start. (start, c))) e in rw here (inl refl)
  standing-in c a (s ∷ slots) (inr i) e = behind (stands s) (standing-in c a slots i e)
    where
      behind : (o : Option (ℕ × ℕ)) → In (a, c) (standing hosts ms slots) → In (a, c) (cons_option o (standing hosts ms slots))
      behind None k = k
      behind (Some m) k = inr k

  pub in-standing : (c a : ℕ) (slots : List ℕ) → In (a, c) (standing hosts ms slots) → In c slots × (start_in ms (host_of hosts c) ≡ Some a)
  in-standing c a [] i = absurd i
  in-standing c a (s ∷ slots) i = choice (start_in ms (host_of hosts s)) refl i (in-standing c a slots)
    where
      choice : (o : Option ℕ) → start_in ms (host_of hosts s) ≡ o → In (a, c) (cons_option (option_map (λ start. (start, s)) o) (standing hosts ms slots))
          → (In (a, c) (standing hosts ms slots) → In c slots × (start_in ms (host_of hosts c) ≡ Some a))
          → In c (s ∷ slots) × (start_in ms (host_of hosts c) ≡ Some a)
      choice None e k f = let r = f k in (inr r.0, r.1)
      choice (Some b) e (inr k) f = let r = f k in (inr r.0, r.1)
      choice (Some b) e (inl q) f =
          let p : b ≡ a = ap (λ m. m.0) q in let r : s ≡ c = ap (λ m. m.1) q in
          (inl r, ap (λ x. start_in ms (host_of hosts x)) (sym r) ∙ e ∙ ap Some p)

-- ---- the first copy

-- it is this copy, or comes before it
abbrev Leads : ℕ × ℕ → ℕ × ℕ → Type 0
Leads c d = (d ≡ c) ⊎ (comes_before c d ≡ true)

not-before : (c d : ℕ × ℕ) → comes_before c d ≡ true → comes_before d c ≡ true → ⊥
not-before c d e f = grind (arith, nat_tests)

-- of copies in order, the first one comes before the others
first-leads : (c : ℕ × ℕ) (xs : List (ℕ × ℕ)) → Rises xs → first_of xs ≡ Some c → (d : ℕ × ℕ) → In d xs → Leads c d
first-leads c [] r e d i = absurd i
first-leads c (x ∷ xs) r e d (inl q) = inl (sym q ∙ same-some e)
first-leads c (x ∷ xs) r e d (inr i) = inr (subst (λ z. comes_before z d ≡ true) (same-some e) (all-at (λ z. comes_before x z ≡ true) xs r.0 d i))

-- and one that does is the first
leads-first : (c : ℕ × ℕ) (xs : List (ℕ × ℕ)) → Rises xs → In c xs → ((d : ℕ × ℕ) → In d xs → Leads c d) → first_of xs ≡ Some c
leads-first c [] r i f = absurd i
leads-first c (x ∷ xs) r (inl e) f = ap Some e
leads-first c (x ∷ xs) r (inr i) f = elim (f x (inl refl)) [
  | inl e ↦ ap Some e
  | inr b ↦ absurd (not-before c x b (all-at (λ z. comes_before x z ≡ true) xs r.0 c i))
]

first-slot : (q : ℕ) (xs : List (ℕ × ℕ)) → first_of (map (λ m. m.1) xs) ≡ Some q → (a : ℕ) × (first_of xs ≡ Some (a, q))
first-slot q [] e = absurd (none-some q e)
first-slot q (x ∷ xs) e = (x.0, ap (λ z. Some (x.0, z)) (same-some e))

slot-first : (c : ℕ × ℕ) (xs : List (ℕ × ℕ)) → first_of xs ≡ Some c → first_of (map (λ m. m.1) xs) ≡ Some c.1
slot-first c [] e = absurd (none-some c e)
slot-first c (x ∷ xs) e = ap (λ z. Some z.1) (same-some e)

-- ---- the same copies, in order or not

abbrev is-copy : ℕ × ℕ → ℕ × ℕ → Bool
is-copy c m = m.0 == c.0 && m.1 == c.1

copy-in : (c : ℕ × ℕ) (ms : List (ℕ × ℕ)) → list_any (is-copy c) ms ≡ true → In c ms
copy-in c ms e =
    let r = list_any-from (is-copy c) ms e in
    let p = and_parts (r.0.0 == c.0) (r.0.1 == c.1) r.2 in
    let a = eqb-true r.0.0 c.0 p.0 in
    let b = eqb-true r.0.1 c.1 p.1 in
    subst (λ z. In z ms) (λ i. (a i, b i)) r.1

in-copy : (c : ℕ × ℕ) (ms : List (ℕ × ℕ)) → In c ms → list_any (is-copy c) ms ≡ true
in-copy c ms i = list_any-in (is-copy c) ms c i (and_from (c.0 == c.0) (c.1 == c.1) (eqb-same c.0) (eqb-same c.1))

in-order : (c : ℕ × ℕ) (ms : List (ℕ × ℕ)) → In c ms → In c (with_copies [] ms)
in-order c ms i = copy-in c (with_copies [] ms) (same_copies (is-copy c) ms ∙ in-copy c ms i)

from-order : (c : ℕ × ℕ) (ms : List (ℕ × ℕ)) → In c (with_copies [] ms) → In c ms
from-order c ms i = copy-in c ms (sym (same_copies (is-copy c) ms) ∙ in-copy c (with_copies [] ms) i)

-- ---- leaders of words

module _ (D : Deployment) (p : ℕ) where
  -- the slots of the partition, and the copies of it that stand
  abbrev slots : List ℕ
  slots = slots_of_part D.layout.k p

  abbrev copies : Membership → List (ℕ × ℕ)
  copies w = standing D.layout.hosts (members w) slots

  abbrev ordered : Membership → List (ℕ × ℕ)
  ordered w = ordered_copies D.layout.hosts D.layout.k (members w) p

  in-copies : (w : Membership) (d : ℕ × ℕ) → In d (ordered w) → In d.1 slots × (start_of_slot D w d.1 ≡ Some d.0)
  in-copies w d i = in-standing D.layout.hosts (members w) d.1 d.0 slots (from-order d (copies w) i)

  copies-in : (w : Membership) (d : ℕ × ℕ) → In d.1 slots → start_of_slot D w d.1 ≡ Some d.0 → In d (ordered w)
  copies-in w d i e = in-order d (copies w) (standing-in D.layout.hosts (members w) d.1 d.0 slots i e)

  -- the leader stands first, with its host's start
  leader-first : (w : Membership) (q s : ℕ) → leader D w p ≡ Some q → start_of_slot D w q ≡ Some s → first_of (ordered w) ≡ Some (s, q)
  leader-first w q s e h =
      let f = first-slot q (ordered w) e in
      let k = in-copies w (f.0, q) (first-in (f.0, q) (ordered w) f.1) in
      f.1 ∙ ap (λ z. Some (z, q)) (same-some (sym k.1 ∙ h))

  module _ (S : State) (H : HistoryOk S) (v w : Membership) (dv : In v S.history.decided) (dw : In w S.history.decided) (later : Within v w)
      (q s : ℕ) (leads : leader D v p ≡ Some q) (host : start_of_slot D v q ≡ Some s) (unlost : is_in s w.lost ≡ false) where
    gv : GoodWord S v
    gv = H.decided_good v dv

    gw : GoodWord S w
    gw = H.decided_good w dw

    first : first_of (ordered v) ≡ Some (s, q)
    first = leader-first v q s leads host

    -- its host is a member still
    stays : start_of_slot D w q ≡ Some s
    stays =
        let m = member-is S H v (host_of_slot D q) s gv host in
        subst (λ h. start_of w h ≡ Some s) m.2
        (member-of S H w s gw (names-within v w s (one-first S H v w gv gw) later m.0) unlost)

    -- another copy stood behind it before, or its host was admitted since
    behind : (d : ℕ × ℕ) → In d (ordered w) → Leads (s, q) d
    behind d i = elim (cases_Bool (names v d.0)) [
      | inl n ↦ first-leads (s, q) (ordered v) (rises [] (copies v) tt) first d (copies-in v d k.0 (before n))
      | inr n ↦ inr (or_left (nat_lt s d.0) (s == d.0 && nat_lt q d.1)
          (lt-ltb s d.0 (members-rise S H v w dv dw (host_of_slot D q) s (host_of_slot D d.1) d.0 host stays k.1 n)))
    ]
      where
        k : In d.1 slots × (start_of_slot D w d.1 ≡ Some d.0)
        k = in-copies w d i

        before : names v d.0 ≡ true → start_of_slot D v d.1 ≡ Some d.0
        before n =
            let m = member-is S H w (host_of_slot D d.1) d.0 gw k.1 in
            subst (λ h. start_of v h ≡ Some d.0) m.2 (member-of S H v d.0 gv n (elim (cases_Bool (is_in d.0 v.lost)) [
              | inl e ↦ absurd (not-both (is_in d.0 w.lost) (later.lost d.0 e) m.1)
              | inr e ↦ e
            ]))

    -- The leader leads in the later word, too.
    pub leader-lasts : leader D w p ≡ Some q
    leader-lasts = slot-first (s, q) (ordered w) (leads-first (s, q) (ordered w) (rises [] (copies w) tt)
        (copies-in w (s, q) (in-copies v (s, q) (first-in (s, q) (ordered v) first)).0 stays) behind)
