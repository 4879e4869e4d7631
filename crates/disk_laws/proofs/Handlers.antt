-- What a turn of a site leaves as it was of all that its disk shows, and of what the record of disks looks at.
use Rattle.disk_laws.proofs.Names.{none-or-some, ◌≡◌, ◌≤◌, true, refl, sym, ap, ◌∙◌, ◌⊎◌, inl, inr, arith, and_parts, ℕ, not, map, Some, None, AllByRecursion, Actor, Agent, Site, Deployment, part_of_slot, is_some_of, term_in, Letter, Waiting, Turn, becomes, ◌▸◌, SiteState, Joining, Joiner, site_term, leader_in, is_joiner, leads, In, Prefix, all-append, all-mono, in-map-from, none-and-some, same-some, Plain, PlainWaiting, LogState, HeldOk, SiteWaitingFrom, SiteWaitingOk, leader-view, leads-parts, prefix-refl, prefix-trans}
use Rattle.volt_wire.specs.declared.message.Msg.TheVariants as msg

-- ---- the state behind a turn

-- It counts a joiner of this slot.
abbrev pub Counts : SiteState → ℕ → Type 0
Counts s c = In c (map (λ j. j.slot) s.joiners)

pub counts-joiner : (s : SiteState) (c : ℕ) → Counts s c → (j : Joiner) × In j s.joiners × (j.slot ≡ c)
counts-joiner s c k = in-map-from (λ j. j.slot) c s.joiners k

-- It counted more firm: as a leader, under its own mark of the term, and no more than is on its own disk.
pub record FirmRises (D : Deployment) (i : ℕ) (s u : SiteState) : Type 0 where
  pub leads : leads D i u ≡ true
  pub mark : s.mark ≡ site_term s
  pub disk : u.firm ≤ s.on_disk
  pub above : s.firm ≤ u.firm

-- Its start and word, and its disk as it knows that, are the same.
pub record SameDisk (s u : SiteState) : Type 0 where
  pub start : u.start ≡ s.start
  pub greatest : u.greatest ≡ s.greatest
  pub earlier : u.earlier ≡ s.earlier
  pub view : u.view ≡ s.view
  pub contents : u.contents ≡ s.contents
  pub mark : u.mark ≡ s.mark
  pub base : u.base ≡ s.base
  pub on_disk : u.on_disk ≡ s.on_disk

-- the second site with all that of the first one
abbrev pub with_disk : SiteState → SiteState → SiteState
with_disk s u = record u {
  start = s.start;
  greatest = s.greatest;
  earlier = s.earlier;
  view = s.view;
  contents = s.contents;
  mark = s.mark;
  base = s.base;
  on_disk = s.on_disk;
}

pub same-disk : (s u : SiteState) → SameDisk s (with_disk s u)
same-disk s u = record { start = refl; greatest = refl; earlier = refl; view = refl; contents = refl; mark = refl; base = refl; on_disk = refl }

-- The site of slot i came from s to u with the same disk, in the same word.
pub record DiskAt (D : Deployment) (i : ℕ) (s u : SiteState) : Type 0 where
  pub disk : SameDisk s u
  pub open disk use *
  pub log : Prefix s.log u.log
  pub member : s.joining ≡ None → u.joining ≡ None
  pub joiner : (j : Joining) → s.joining ≡ Some j → (k : Joining) × (u.joining ≡ Some k) × (k.stream ≡ j.stream) × (k.is_based ≡ j.is_based)
  pub repaired : s.repaired ≡ true → u.repaired ≡ true
  pub owes : (u.owes ≡ s.owes) ⊎ ((u.owes ≡ Some (site_term s)) × (u.repaired ≡ true))
  pub firm : (u.firm ≡ s.firm) ⊎ FirmRises D i s u
  pub held : AllByRecursion HeldOk s.held → AllByRecursion HeldOk u.held
  pub counted : (c : ℕ) → Counts s c → Counts u c

-- ---- a turn

-- A stream that begins with a message of it, to the site of slot c: its mark is the term's, and the site has that on its disk.
pub record BeginsOk (D : Deployment) (i c : ℕ) (s u : SiteState) (l : Letter) (mark : ℕ) : Type 0 where
  pub mark_is : mark ≡ site_term s
  pub term_is : l.term ≡ site_term s
  pub own : s.mark ≡ site_term s
  pub leads : leads D i u ≡ true
  pub counted : Counts u c

abbrev pub BeginsStream : Deployment → ℕ → ℕ → SiteState → SiteState → Letter → Type 0
BeginsStream D i c s u l = elim l.body as (λ _. Type 0) [ msg.StreamStart head ↦ BeginsOk D i c s u l head.mark | _ ↦ Unit {0} ]

-- A turn of the site of slot i from s on: its disk and its word stay.
pub record DiskHandler (D : Deployment) (i : ℕ) (s : SiteState) (t : Turn SiteState) : Type 0 where
  pub at : DiskAt D i s t.state
  pub sends : AllByRecursion HeldOk s.held → (c : ℕ) → AllByRecursion (BeginsStream D i c s t.state) (t.sends (Site c))

-- ---- what follows from it

module _ (D : Deployment) (i : ℕ) (s u : SiteState) (h : DiskAt D i s u) where
  pub at-term : site_term u ≡ site_term s
  at-term = ap term_in h.view

  -- who is a member then was one, and who is a joiner was one
  pub at-was-member : u.joining ≡ None → s.joining ≡ None
  at-was-member e = elim (none-or-some s.joining) [ inl q ↦ q | inr (j, q) ↦ absurd (none-and-some e (h.joiner j q).1) ]

  pub at-was-joiner : (k : Joining) → u.joining ≡ Some k → (j : Joining) × (s.joining ≡ Some j) × (k.stream ≡ j.stream) × (k.is_based ≡ j.is_based)
  at-was-joiner k e = elim (none-or-some s.joining) [
    | inl q ↦ absurd (none-and-some (h.member q) e)
    | inr (j, q) ↦
        let r = h.joiner j q in
        let same : r.0 ≡ k = same-some (sym r.1 ∙ e) in
        (j, q, ap (λ x. x.stream) (sym same) ∙ r.2, ap (λ x. x.is_based) (sym same) ∙ r.3)
  ]

  -- a leader goes on to lead
  pub at-leads : leads D i s ≡ true → leads D i u ≡ true
  at-leads e =
      let p = leads-parts D i s e in
      let m : s.joining ≡ None = (leader-view D i s p.0).0 in
      let q = and_parts (not (is_joiner s)) (is_some_of (leader_in D s.view (part_of_slot D i)) i) p.0 in
      rw (h.member m, h.view, h.repaired p.1) (rw q.1 refl)

  pub at-firm : s.firm ≤ u.firm
  at-firm = elim h.firm [ inl e ↦ omega (arith, e) | inr r ↦ r.above ]

-- ---- one after the other

-- at the first state itself
pub at-first : (D : Deployment) (i : ℕ) (s : SiteState) → DiskAt D i s s
at-first D i s = record {
  disk = same-disk s s;
  log = prefix-refl s.log;
  member = λ e. e;
  joiner = λ j e. (j, e, refl, refl);
  repaired = λ e. e;
  owes = inl refl;
  firm = inl refl;
  held = λ k. k;
  counted = λ c k. k;
}

module _ (D : Deployment) (i : ℕ) (s m u : SiteState) (h : DiskAt D i s m) (k : DiskAt D i m u) where
  then-owes : (m.owes ≡ s.owes) ⊎ ((m.owes ≡ Some (site_term s)) × (m.repaired ≡ true)) → (u.owes ≡ m.owes) ⊎ ((u.owes ≡ Some (site_term m)) × (u.repaired ≡ true))
      → (u.owes ≡ s.owes) ⊎ ((u.owes ≡ Some (site_term s)) × (u.repaired ≡ true))
  then-owes x (inr y) = inr (y.0 ∙ ap Some (at-term D i s m h), y.1)
  then-owes (inl x) (inl y) = inl (y ∙ x)
  then-owes (inr x) (inl y) = inr (y ∙ x.0, k.repaired x.1)

  then-firm : (m.firm ≡ s.firm) ⊎ FirmRises D i s m → (u.firm ≡ m.firm) ⊎ FirmRises D i m u → (u.firm ≡ s.firm) ⊎ FirmRises D i s u
  then-firm x (inr y) = inr (record {
    leads = y.leads;
    mark = sym h.mark ∙ y.mark ∙ at-term D i s m h;
    disk = omega (arith, y.disk, h.on_disk);
    above = omega (arith, y.above, at-firm D i s m h);
  })
  then-firm (inl x) (inl y) = inl (y ∙ x)
  then-firm (inr x) (inl y) = inr (record { leads = at-leads D i m u k x.leads; mark = x.mark; disk = omega (arith, x.disk, y); above = omega (arith, x.above, y) })

  pub at-then : DiskAt D i s u
  at-then = record {
    disk = search (k.start ∙ h.start, k.greatest ∙ h.greatest, k.earlier ∙ h.earlier, k.view ∙ h.view, k.contents ∙ h.contents, k.mark ∙ h.mark, k.base ∙ h.base, k.on_disk ∙ h.on_disk);
    log = prefix-trans s.log m.log u.log h.log k.log;
    member = λ e. k.member (h.member e);
    joiner = λ j e. let a = h.joiner j e in let b = k.joiner a.0 a.1 in (b.0, b.1, b.2 ∙ a.2, b.3 ∙ a.3);
    repaired = λ e. k.repaired (h.repaired e);
    owes = then-owes h.owes k.owes;
    firm = then-firm h.firm k.firm;
    held = λ x. k.held (h.held x);
    counted = λ c x. k.counted c (h.counted c x);
  }

  -- what was sent on the way, and what is sent then
  then-before : (c : ℕ) (l : Letter) → BeginsStream D i c s m l → BeginsStream D i c s u l
  then-before c l = elim l.body as (λ b. BeginsStream D i c s m (record l { body = b }) → BeginsStream D i c s u (record l { body = b })) [
    | msg.StreamStart head ↦ λ x. (search (at-leads D i m u k x.leads, k.counted c x.counted))
    | b ↦ λ x. tt
  ]

  then-behind : (c : ℕ) (l : Letter) → BeginsStream D i c m u l → BeginsStream D i c s u l
  then-behind c l = elim l.body as (λ b. BeginsStream D i c m u (record l { body = b }) → BeginsStream D i c s u (record l { body = b })) [
    | msg.StreamStart head ↦ λ x. (search (x.mark_is ∙ at-term D i s m h, x.term_is ∙ at-term D i s m h, sym h.mark ∙ x.own ∙ at-term D i s m h))
    | b ↦ λ x. tt
  ]

pub handler-then : (D : Deployment) (i : ℕ) (s : SiteState) (t : Turn SiteState) (f : SiteState → Turn SiteState)
    → DiskHandler D i s t → DiskHandler D i t.state (f t.state) → DiskHandler D i s (t ▸ f)
handler-then D i s t f h k = record {
  at = at-then D i s t.state (f t.state).state h.at k.at;
  sends = λ x c. all-append (BeginsStream D i c s (f t.state).state) (t.sends (Site c)) ((f t.state).sends (Site c))
      (all-mono (BeginsStream D i c s t.state) (BeginsStream D i c s (f t.state).state) (then-before D i s t.state (f t.state).state h.at k.at c) (t.sends (Site c)) (h.sends x c))
      (all-mono (BeginsStream D i c t.state (f t.state).state) (BeginsStream D i c s (f t.state).state) (then-behind D i s t.state (f t.state).state h.at k.at c) ((f t.state).sends (Site c))
      (k.sends (h.at.held x) c));
}

-- a turn that sends nothing
pub handler-becomes : (D : Deployment) (i : ℕ) (s u : SiteState) → DiskAt D i s u → DiskHandler D i s (becomes u)
handler-becomes D i s u h = record { at = h; sends = λ x c. tt }

-- ---- what waits

-- What waits at a site is plain.
pub waiting-plain : (S : LogState) (c : ℕ) (x : Waiting) → SiteWaitingOk S c x → PlainWaiting x
waiting-plain S c x k = go x.from x.letter k.1
  where
    go : (from : Actor) (l : Letter) → SiteWaitingFrom S c from l → Plain from l
    go (Site j) l = elim l.body as (λ b. SiteWaitingFrom S c (Site j) (record l { body = b }) → Plain (Site j) (record l { body = b })) [
      | msg.StreamStart head ↦ λ x. x
      | b ↦ λ x. tt
    ]
    go (Agent h) l = elim l.body as (λ b. SiteWaitingFrom S c (Agent h) (record l { body = b }) → Plain (Agent h) (record l { body = b })) [
      | msg.View w ↦ λ x. x
      | b ↦ λ x. tt
    ]
    go from l = λ x. tt
