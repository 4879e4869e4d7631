-- What disks show is kept when one site's state changes: the other sites, the letters, and what is firm.
use Rattle.disk_laws.proofs.Names.{one-and-others, cond_both, ◌≡◌, ◌<◌, ◌≤◌, Bool, true, false, List, length, take, length-take, refl, sym, subst, ap, ◌∙◌, ◌⊎◌, inl, inr, arith, cases_Bool, cases_lt, ℕ, nat_le, max, if◌then◌else◌, None, AllByRecursion, Actor, Site, Shown, Deployment, part_of_slot, term_of, term_in, Letter, Sends, SiteState, site_term, leads, AuthoritativeLog, set_at, authoritative_after, In, all-at, all-from, all-append, none-and-some, if-false, set-here, set-there, LogState, Logs, LogsHold, IsSlot, part, site_start, log_at, between, leader-view, leads-parts, Leading, leading, Grown, after_site, here, there, sent-either, leads-runs, AtLeast, Top, Firm, ContentOk, DiskOk, StreamLetter, Halted, FirmOk, DisksHold}
use Rattle.volt_wire.specs.declared.message.Msg.TheVariants as msg
use Rattle.disk_laws.proofs.Contents.{Rises, contents-later, firm-later}
use Rattle.disk_laws.proofs.Own.{OwnAt, disk-own, own-disk, own-on}

-- ---- what is firm, after a turn of one site

-- The greatest position that was counted firm is as it was, but for the site's partition, where a leader may have raised it.
pub record Raised (D : Deployment) (i : ℕ) (s : SiteState) (F G : Firm) : Type 0 where
  pub own : G (part_of_slot D i) ≡ (if leads D i s then max (F (part_of_slot D i)) s.firm else F (part_of_slot D i))
  pub others : (p : ℕ) → (p ≡ part_of_slot D i → ⊥) → G p ≡ F p

-- so it is with what the world keeps of a partition's lead
pub authoritative-raised : (D : Deployment) (i : ℕ) (s : SiteState) (authoritative : ℕ → AuthoritativeLog)
    → Raised D i s (λ p. (authoritative p).firm) (λ p. (set_at authoritative (part_of_slot D i) (authoritative_after D i s (authoritative (part_of_slot D i))) p).firm)
authoritative-raised D i s authoritative = record {
  own = ap (λ x. x.firm) (set-here authoritative (part_of_slot D i) (authoritative_after D i s l)) ∙ choice (leads D i s);
  others = λ p n. ap (λ x. x.firm) (set-there authoritative (part_of_slot D i) (authoritative_after D i s l) p n);
}
  where
    l : AuthoritativeLog
    l = authoritative (part_of_slot D i)

    choice : (b : Bool) → (if b then record {
      term = max l.term (site_term s);
      log = if nat_le l.term (site_term s) then s.log else l.log;
      firm = max l.firm s.firm;
    } else l).firm ≡ (if b then max l.firm s.firm else l.firm)
    choice true = refl
    choice false = refl

-- ---- one site changes, and what is under way

module _ (S : LogState) (H : LogsHold S) (F M : Firm) (halted : Bool) (K : DisksHold S F halted) (ch : Actor → Actor → List Letter)
    (fewer : (a b : Actor) (l : Letter) → In l (ch a b) → In l (S.words.channel a b)) (i : ℕ) (slot : IsSlot S i) (s : SiteState) (out : Sends) (G : Logs) where
  -- with fewer messages under way
  abbrev pub less : LogState
  less = record S { words = record S.words { channel = ch } }

  abbrev pub later : LogState
  later = after_site less i s out G

  module _ (L : LogsHold later) (grown : Grown S.words.deployment i s S.logs G) (raised : Raised S.words.deployment i s F M) (halts : halted ≡ true → Halted later) where
    abbrev D : Deployment
    D = S.words.deployment

    site : later.sites i ≡ s
    site = here less i s out G

    -- one that leads runs
    leader-up : leads D i s ≡ true → 0 < site_start later i
    leader-up l = leads-runs later L i (subst (λ x. leads D i x ≡ true) (sym site) l)

    -- ---- after a recovery that was stopped nobody leads

    none-leads : halted ≡ true → leads D i s ≡ true → ⊥
    none-leads e l =
        let j = (halts e).joiners i (leader-up l) in
        none-and-some (leader-view D i s (leads-parts D i s l).0).0 (ap (λ x. x.joining) (sym site) ∙ j.1)

    firm-same : leads D i s ≡ false → (p : ℕ) → M p ≡ F p
    firm-same e = one-and-others _ (part S i) (raised.own ∙ if-false (leads D i s) (max (F (part S i)) s.firm) (F (part S i)) e) raised.others

    -- it never falls
    pub firm-up : (p : ℕ) → F p ≤ M p
    firm-up = one-and-others _ (part S i)
        (cond_both (leads D i s) _ _ (λ z. M (part S i) ≡ z → F (part S i) ≤ M (part S i)) (λ _ e. omega (arith, e)) (λ _ e. omega (arith, e)) raised.own)
        (λ p n. let e = raised.others p n in omega (arith, e))

    -- ---- contents

    rises : Rises S later
    rises = record { deployment = refl; kept = grown.onward.kept; reach = grown.onward.reach }

    -- What a disk may show stays what it may show.
    pub contents-on : (p : ℕ) (xs : List Shown) → AllByRecursion (ContentOk S F halted p) xs → AllByRecursion (ContentOk later M halted p) xs
    contents-on p = contents-later S later rises H L F M p (K.firm p) halted (λ e. elim (cases_Bool (leads D i s)) [ inl l ↦ absurd (none-leads e l) | inr l ↦ firm-same l p ])

    -- ---- the other slots

    pub disk-on : (c : ℕ) (x : SiteState) → OwnAt S F halted c x → OwnAt later M halted c x
    disk-on c x = own-on halted (ContentOk S F halted (part S c)) (ContentOk later M halted (part S c)) (S.logs.leadership (part S c)) (G.leadership (part S c))
        (F (part S c)) (M (part S c)) x (contents-on (part S c) x.contents) (grown.onward.kept (part S c)) (firm-up (part S c))

    pub disk-other : (c : ℕ) → later.sites c ≡ S.sites c → DiskOk S F halted c → DiskOk later M halted c
    disk-other c same k = own-disk later M halted c (S.sites c) same (disk-on c (S.sites c) (disk-own S F halted c k))

    -- ---- what is firm

    module _ (own : DiskOk later M halted i) (tops : (p m n : ℕ) → Top S p m n → Top later p m n)
        (counted : leads D i s ≡ true → (s.firm ≤ F (part S i)) ⊎ ((s.mark ≡ site_term s) × (s.firm ≤ s.on_disk))) where
      firm-kept : (p : ℕ) → M p ≡ F p → FirmOk later M p
      firm-kept p e = firm-later S later rises F M p e (tops p) (K.firm p)

      -- a leader that raised it has it on its own disk
      firm-raised : leads D i s ≡ true → M (part S i) ≡ s.firm → s.mark ≡ site_term s → s.firm ≤ s.on_disk → FirmOk later M (part S i)
      firm-raised l e mark disk = let marked : (later.sites i).mark ≡ term_of x.word = subst (λ z. z.mark ≡ site_term z) (sym site) mark ∙ ap term_in x.view in record {
        term = term_of x.word;
        leadership = x.leadership;
        led = x.led;
        reach = let a = x.member.firm in let b = ap (λ z. z.firm) site in omega (arith, a, b, e);
        top = λ some. record {
          slot = i;
          is_slot = slot;
          part_is = refl;
          all = subst (AllByRecursion (AtLeast (term_of x.word) (M (part S i)))) (sym (own.member up x.joins).shows) (inr (marked, whole), tt);
        };
      }
        where
          up : 0 < site_start later i
          up = leader-up l

          x : Leading later i
          x = leading later i L up (subst (λ z. leads D i z ≡ true) (sym site) l)

          whole : M (part S i) ≤ length (take (later.sites i).on_disk (log_at later i))
          whole =
              let a = ((L.sites i).keeps up).on_disk in
              let b = length-take (later.sites i).on_disk (log_at later i) in
              let c : s.firm ≤ (later.sites i).on_disk = subst (λ z. s.firm ≤ z.on_disk) (sym site) disk in
              omega (arith, a, b, c, e)

      firm-own : FirmOk later M (part S i)
      firm-own = cond_both (leads D i s) _ _ (λ z. M (part S i) ≡ z → FirmOk later M (part S i))
          (λ l e. elim (cases_lt (F (part S i)) s.firm) [
            | inr low ↦ firm-kept (part S i) (omega (arith, e, low))
            | inl high ↦ elim (counted l) [ inl low ↦ absurd (omega (arith, low, high)) | inr k ↦ firm-raised l (omega (arith, e, high)) k.0 k.1 ]
          ])
          (λ l e. firm-kept (part S i) e) raised.own

      -- ---- letters

      letter-on : (c : ℕ) (l : Letter) → StreamLetter S c l → StreamLetter later c l
      letter-on c l k = elim l.body as (λ m. StreamLetter S c (record l { body = m }) → StreamLetter later c (record l { body = m })) [
        | msg.StreamStart head ↦ λ k. record { mark_is = k.mark_is; top = tops (part S c) l.term 0 k.top }
        | m ↦ λ k. tt
      ] k

      -- Where the site's own disk is well, so are all that were.
      pub disks-after : ((c : ℕ) → IsSlot S c → AllByRecursion (StreamLetter later c) (out (Site c))) → DisksHold later M halted
      disks-after new = record {
        disks = one-and-others _ i (λ _. own) (λ c n is. disk-other c (there less i s out G c n) (K.disks c is));
        environment = one-and-others _ i (λ not. absurd (not slot))
            (λ c n not. subst (λ x. AllByRecursion (λ y. y ≡ None) x.contents) (sym (there less i s out G c n)) (K.environment c not));
        streams = λ j c is. sent-either less i s out G (λ j ls. AllByRecursion (StreamLetter later c) ls) (Site c)
            (all-append (StreamLetter later c) (ch (Site i) (Site c)) (out (Site c)) (old i c is) (new c is))
            (λ k n. old k c is) j;
        firm = one-and-others _ (part S i) firm-own (λ p n. firm-kept p (raised.others p n));
        halts = halts;
      }
        where
          old : (j c : ℕ) → IsSlot S c → AllByRecursion (StreamLetter later c) (ch (Site j) (Site c))
          old j c is = all-from (StreamLetter later c) (ch (Site j) (Site c)) (λ l m.
              letter-on c l (all-at (StreamLetter S c) (between S j c) (K.streams j c is) l (fewer (Site j) (Site c) l m)))
