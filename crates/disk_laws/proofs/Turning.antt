-- Disks hold after a turn with which a site takes a message, by what the turn makes of the site.
use Rattle.disk_laws.proofs.Names.{one-and-others, none-or-some, ◌≡◌, ◌<◌, ◌≤◌, Bool, true, false, true≢false, List, [], ◌∷◌, length, refl, sym, subst, ap, ◌∙◌, ◌⊎◌, inl, inr, ◌==◌, arith, cases_eq, ℕ, max, Some, None, AllByRecursion, Actor, Site, Scanner, Shown, mark_of, stops_others, Deployment, host_of_slot, is_slot_of, Letter, Turn, becomes, sending, only, open_letter, SiteState, Joining, new_joiner, new_joining, site_term, leads, stops_so, took, In, took-all, all-if, all-at, all-from, all-mono, if-true, same-some, LogState, Logs, LogsHold, IsSlot, HeldOk, CountedOk, part, site_start, term_at, leader-view, leads-parts, Grown, NoStreamStart, after_site, site_popped, here, there, leads-runs, AtLeast, Top, Firm, ContentOk, DiskOk, StreamLetter, Halted, DisksHold, shown_at}
use Rattle.volt_wire.specs.declared.message.Msg.TheVariants as msg
use Rattle.disk_laws.proofs.Order.{Raise, raise-refl, raise-same, top-raise, top-wipe}
use Rattle.disk_laws.proofs.SiteHandlers.{disk-same}
use Rattle.disk_laws.proofs.Handlers.{DiskHandler, Counts, counts-joiner, BeginsStream, at-term, at-was-joiner}
use Rattle.disk_laws.proofs.Own.{OwnAt, OwnStream, disk-own, own-disk, own-handler}
use Rattle.disk_laws.proofs.Halts.{SiteGoes, LeadersBegin, halted-site}
use Rattle.disk_laws.proofs.SiteDisks.{Raised, contents-on, disk-on, disk-other, disks-after}

-- What a turn of a site makes of disks. All holds that did before; each partition shows no less than it did; and while all is stopped
-- no disk shows what it didn't show before.
pub record DisksGo (S T : LogState) (M : Firm) (halted : Bool) : Type 0 where
  pub disks : DisksHold T M halted
  pub tops : (p m n : ℕ) → Top S p m n → Top T p m n
  pub still : halted ≡ true → (c : ℕ) (y : Shown) → In y (shown_at T c) → In y (shown_at S c)

-- Disks hold after this turn of the site of slot i, with which it takes the first message from this actor: with what the leader of its
-- partition, where it leads, has counted firm by then.
abbrev pub Kept : LogState → Firm → Bool → Actor → ℕ → Turn SiteState → Type 0
Kept S F halted from i t =
    (M : Firm) (G : Logs) → LogsHold (after_site (site_popped S from i) i t.state t.sends G) → Grown S.words.deployment i t.state S.logs G
    → Raised S.words.deployment i t.state F M → DisksGo S (after_site (site_popped S from i) i t.state t.sends G) M halted

-- The disk of slot i may be wiped: another slot of its partition shows this mark or a later one, and all of its own are lower.
pub record Wiped (S : LogState) (i : ℕ) : Type 0 where
  pub mark : ℕ
  pub marks : AllByRecursion (λ x. mark_of x < mark) (shown_at S i)
  pub top : Top S (part S i) mark 0

-- What it shows then, of what it showed, or blank; while all is stopped nothing is wiped.
pub record LeavesShown (S : LogState) (halted : Bool) (i : ℕ) (xs : List Shown) : Type 0 where
  pub some : (xs ≡ []) → ⊥
  pub from : (y : Shown) → In y xs → In y (shown_at S i) ⊎ (y ≡ None)
  pub still : halted ≡ true → (y : Shown) → In y xs → In y (shown_at S i)
  pub wipes : Raise (shown_at S i) xs ⊎ Wiped S i

pub none-ok : (S : LogState) (F : Firm) (halted : Bool) (p : ℕ) → ContentOk S F halted p None
none-ok S F true p = tt
none-ok S F false p = tt

leaders-letter : (D : Deployment) (i : ℕ) (s : SiteState) (l : Letter) → NoStreamStart l → LeadersBegin D i s l
leaders-letter D i s l k = elim l.body as (λ m. NoStreamStart (record l { body = m }) → LeadersBegin D i s (record l { body = m })) [
  | msg.StreamStart head ↦ λ k. absurd k
  | m ↦ λ k. tt
] k

begins-leader : (D : Deployment) (i c : ℕ) (m s : SiteState) (l : Letter) → BeginsStream D i c m s l → LeadersBegin D i s l
begins-leader D i c m s l k = elim l.body as (λ b. BeginsStream D i c m s (record l { body = b }) → LeadersBegin D i s (record l { body = b })) [
  | msg.StreamStart head ↦ λ k. k.leads
  | b ↦ λ k. tt
] k

-- what a site sends when it stops
pub stops-none : (D : Deployment) (i start : ℕ) (s : SiteState) (xs : List Shown) (c : ℕ) → AllByRecursion NoStreamStart ((stops_so D i s start xs).sends (Site c))
stops-none D i start s xs c = all-if NoStreamStart (i == c) [] (stops_others D (host_of_slot D i) start (Site c)) tt
    (all-if NoStreamStart (is_slot_of D (host_of_slot D i) c) (open_letter (msg.Stop start) ∷ []) [] (tt, tt) tt)

no-letter : (S : LogState) (c : ℕ) (l : Letter) → NoStreamStart l → StreamLetter S c l
no-letter S c l k = elim l.body as (λ m. NoStreamStart (record l { body = m }) → StreamLetter S c (record l { body = m })) [
  | msg.StreamStart head ↦ λ k. absurd k
  | m ↦ λ k. tt
] k

-- what the site counted firm is no more than what was
pub firm-before : (S : LogState) → LogsHold S → (F : Firm) (halted : Bool) → DisksHold S F halted → (i : ℕ) → IsSlot S i → 0 < site_start S i → (S.sites i).firm ≤ F (part S i)
firm-before S H F halted K i slot up = elim (none-or-some (S.sites i).joining) [
  | inl e ↦ ((K.disks i slot).member up e).firm
  | inr (j, e) ↦ let z = ((H.sites i).joiner j e).firm in omega (arith, z)
]

-- ---- a turn, with fewer messages under way

module _ (S : LogState) (H : LogsHold S) (F : Firm) (halted : Bool) (K : DisksHold S F halted) (ch : Actor → Actor → List Letter)
    (fewer : (a b : Actor) (l : Letter) → In l (ch a b) → In l (S.words.channel a b)) (i : ℕ) (slot : IsSlot S i) where
  abbrev less : LogState
  less = record S { words = record S.words { channel = ch } }

  module _ (t : Turn SiteState) (M : Firm) (G : Logs) (L : LogsHold (after_site less i t.state t.sends G)) (grown : Grown S.words.deployment i t.state S.logs G)
      (raised : Raised S.words.deployment i t.state F M) (halts : halted ≡ true → Halted (after_site less i t.state t.sends G)) where
    abbrev T : LogState
    T = after_site less i t.state t.sends G

    abbrev C : Shown → Type 0
    C = ContentOk T M halted (part S i)

    site : T.sites i ≡ t.state
    site = here less i t.state t.sends G

    others : (c : ℕ) → (c ≡ i → ⊥) → shown_at T c ≡ shown_at S c
    others c n = ap (λ x. x.contents) (there less i t.state t.sends G c n)

    old-contents : AllByRecursion C (shown_at S i)
    old-contents = contents-on S H F M halted K ch fewer i slot t.state t.sends G L grown raised halts
        (part S i) (shown_at S i) (K.disks i slot).contents

    leader-up : leads S.words.deployment i t.state ≡ true → 0 < t.state.start
    leader-up l = subst (λ x. 0 < x.start) site (leads-runs T L i (subst (λ x. leads S.words.deployment i x ≡ true) (sym site) l))

    -- ---- the site's own disk

    pub own-before : OwnAt T M halted i (S.sites i)
    own-before = disk-on S H F M halted K ch fewer i slot t.state t.sends G L grown raised halts i (S.sites i) (disk-own S F halted i (K.disks i slot))

    -- ---- what some slot shows

    pub raised-tops : Raise (shown_at S i) t.state.contents → (p m n : ℕ) → Top S p m n → Top T p m n
    raised-tops f = top-raise S T refl i (subst (λ x. Raise (shown_at S i) x.contents) (sym site) f) others

    pub same-tops : t.state.contents ≡ shown_at S i → (p m n : ℕ) → Top S p m n → Top T p m n
    same-tops e = raised-tops (raise-same (shown_at S i) t.state.contents e)

    pub wiped-tops : Wiped S i → (p m n : ℕ) → Top S p m n → Top T p m n
    wiped-tops w = top-wipe S T refl i w.mark others (K.disks i slot).some w.marks w.top

    -- ---- what disks show while all is stopped

    -- Where it shows nothing but what it showed, so do all.
    still-shown : ((y : Shown) → In y t.state.contents → In y (shown_at S i)) → (c : ℕ) (y : Shown) → In y (shown_at T c) → In y (shown_at S c)
    still-shown own = one-and-others _ i (λ y m. own y (subst (λ x. In y x.contents) site m)) (λ c n y. subst (In y) (others c n))

    pub same-still : t.state.contents ≡ shown_at S i → halted ≡ true → (y : Shown) → In y t.state.contents → In y (shown_at S i)
    same-still e h y m = subst (In y) e m

    -- ---- all of it

    assembled : DiskOk T M halted i → ((p m n : ℕ) → Top S p m n → Top T p m n) → (halted ≡ true → (y : Shown) → In y t.state.contents → In y (shown_at S i))
        → (leads S.words.deployment i t.state ≡ true → (t.state.firm ≤ F (part S i)) ⊎ ((t.state.mark ≡ site_term t.state) × (t.state.firm ≤ t.state.on_disk)))
        → ((c : ℕ) → IsSlot S c → AllByRecursion (StreamLetter T c) (t.sends (Site c))) → DisksGo S T M halted
    assembled own tops still counted new = record {
      disks = disks-after S H F M halted K ch fewer i slot t.state t.sends G L grown raised halts own tops counted new;
      tops = tops;
      still = λ e. still-shown (still e);
    }

    -- ---- a turn that leaves the disk, from a state on

    module _ (m : SiteState) (o : OwnAt T M halted i m) (whole : m.on_disk ≤ length m.log) (handler : DiskHandler S.words.deployment i m t)
        (up : 0 < t.state.start) where
      own : DiskOk T M halted i
      own = own-disk T M halted i t.state site (own-handler S.words.deployment i m t.state handler.at halted C (G.leadership (part S i)) (M (part S i)) whole
          (λ r. let e = raised.own ∙ if-true (leads S.words.deployment i t.state) (max (F (part S i)) t.state.firm) (F (part S i)) r.leads in omega (arith, e)) o)

      letter : (c : ℕ) (l : Letter) → BeginsStream S.words.deployment i c m t.state l → StreamLetter T c l
      letter c l k = elim l.body as (λ b. BeginsStream S.words.deployment i c m t.state (record l { body = b }) → StreamLetter T c (record l { body = b })) [
        | msg.StreamStart head ↦ λ k. record {
          mark_is = k.mark_is ∙ sym k.term_is;
          top = search (slot, receiver k.counted, shows (handler.at.mark ∙ k.own ∙ sym k.term_is) (leader-view S.words.deployment i t.state (leads-parts S.words.deployment i t.state k.leads).0).0);
        }
        | b ↦ λ k. tt
      ] k
        where
          there-up : 0 < site_start T i
          there-up = subst (λ x. 0 < x.start) (sym site) up

          -- the receiver is of the site's partition, which counts it
          receiver : Counts t.state c → part T i ≡ part T c
          receiver k =
              let r = counts-joiner t.state c k in
              let joined = subst (λ x. AllByRecursion (CountedOk T (part T i) (term_at T i)) x.joiners) site ((L.sites i).keeps there-up).joiners in
              sym (ap (part T) (sym r.2) ∙ (all-at (CountedOk T (part T i) (term_at T i)) t.state.joiners joined r.0 r.1).part_is)

          shows : t.state.mark ≡ l.term → t.state.joining ≡ None → AllByRecursion (AtLeast l.term 0) (shown_at T i)
          shows e none =
              let k = own.member there-up (ap (λ x. x.joining) site ∙ none) in
              subst (AllByRecursion (AtLeast l.term 0)) (sym k.shows) (inr (ap (λ x. x.mark) site ∙ e, omega arith), tt)

      pub handler-disks : AllByRecursion HeldOk m.held → m.firm ≤ F (part S i) → ((p n k : ℕ) → Top S p n k → Top T p n k)
          → (halted ≡ true → (y : Shown) → In y t.state.contents → In y (shown_at S i)) → DisksGo S T M halted
      handler-disks held firm tops still = assembled own tops still counted
          (λ c _. all-mono (BeginsStream S.words.deployment i c m t.state) (StreamLetter T c) (letter c) (t.sends (Site c)) (handler.sends held c))
        where
          counted : leads S.words.deployment i t.state ≡ true → (t.state.firm ≤ F (part S i)) ⊎ ((t.state.mark ≡ site_term t.state) × (t.state.firm ≤ t.state.on_disk))
          counted l = elim handler.at.firm [
            | inl e ↦ inl (omega (arith, e, firm))
            | inr r ↦ inr (handler.at.mark ∙ r.mark ∙ sym (at-term S.words.deployment i m t.state handler.at), (let a = r.disk in let b = handler.at.on_disk in omega (arith, a, b)))
          ]

    pub handler-same : 0 < site_start S i → DiskHandler S.words.deployment i (S.sites i) t → DisksGo S T M halted
    handler-same up handler = handler-disks (S.sites i) own-before ((H.sites i).keeps up).on_disk handler (subst (λ n. 0 < n) (sym handler.at.start) up) ((H.sites i).keeps up).held
        (firm-before S H F halted K i slot up) (same-tops handler.at.contents) (same-still handler.at.contents)

    -- ---- a site that stops

    pub stopped-disks : t.state.start ≡ 0 → (t.state.contents ≡ [] → ⊥) → AllByRecursion C t.state.contents
        → (halted ≡ false → AllByRecursion (λ y. mark_of y ≤ t.state.greatest) t.state.contents) → ((p m n : ℕ) → Top S p m n → Top T p m n)
        → (halted ≡ true → (y : Shown) → In y t.state.contents → In y (shown_at S i)) → ((c : ℕ) → AllByRecursion NoStreamStart (t.sends (Site c))) → DisksGo S T M halted
    stopped-disks down some contents marks tops still none = assembled own tops still (λ l. let u = leader-up l in absurd (omega (arith, u, down)))
        (λ c _. all-mono NoStreamStart (StreamLetter T c) (no-letter T c) (t.sends (Site c)) (none c))
      where
        down-there : site_start T i ≡ 0
        down-there = ap (λ x. x.start) site ∙ down

        own : DiskOk T M halted i
        own = record {
          some = λ e. some (ap (λ x. x.contents) (sym site) ∙ e);
          contents = subst (λ x. AllByRecursion C x.contents) (sym site) contents;
          marks = λ e. subst (λ x. AllByRecursion (λ y. mark_of y ≤ x.greatest) x.contents) (sym site) (marks e);
          member = λ up none. absurd (omega (arith, up, down-there));
          joiner = λ e j is. let up = ((L.sites i).joiner j is).runs in absurd (omega (arith, up, down-there));
        }

    -- with what its disk showed, or blank
    pub stops-disks : t.state.start ≡ 0 → t.state.greatest ≡ (S.sites i).greatest → LeavesShown S halted i t.state.contents
        → ((c : ℕ) → AllByRecursion NoStreamStart (t.sends (Site c))) → DisksGo S T M halted
    stops-disks down greatest k = stopped-disks down k.some (all-from C t.state.contents contents)
        (λ e. all-from (λ y. mark_of y ≤ t.state.greatest) t.state.contents (mark e)) tops k.still
      where
        contents : (y : Shown) → In y t.state.contents → C y
        contents y m = elim (k.from y m) [ inl old ↦ all-at C (shown_at S i) old-contents y old | inr e ↦ subst C (sym e) (none-ok T M halted (part S i)) ]

        mark : halted ≡ false → (y : Shown) → In y t.state.contents → mark_of y ≤ t.state.greatest
        mark e y m = elim (k.from y m) [
          | inl old ↦ let a = all-at (λ x. mark_of x ≤ (S.sites i).greatest) (shown_at S i) ((K.disks i slot).marks e) y old in omega (arith, a, greatest)
          | inr none ↦ let a = ap mark_of none in omega (arith, a)
        ]

        tops : (p m n : ℕ) → Top S p m n → Top T p m n
        tops = elim k.wipes [ inl f ↦ raised-tops f | inr w ↦ wiped-tops w ]

    -- ---- a site that stays as it is

    pub still-disks : t.state ≡ S.sites i → ((c : ℕ) → t.sends (Site c) ≡ []) → DisksGo S T M halted
    still-disks e none = assembled
        (disk-other S H F M halted K ch fewer i slot t.state t.sends G L grown raised halts i (site ∙ e) (K.disks i slot))
        (same-tops (ap (λ x. x.contents) e)) (same-still (ap (λ x. x.contents) e))
        (λ l. inl (subst (λ x. x.firm ≤ F (part S i)) (sym e) (firm-before S H F halted K i slot (subst (λ x. 0 < x.start) e (leader-up l)))))
        (λ c _. subst (AllByRecursion (StreamLetter T c)) (sym (none c)) tt)

    -- ---- a site that begins

    pub begins-disks : (a : ℕ) → t.state ≡ new_joiner (S.sites i) a → ((c : ℕ) → t.sends (Site c) ≡ []) → DisksGo S T M halted
    begins-disks a e none = assembled
        (own-disk T M halted i t.state site (subst (OwnAt T M halted i) (sym e) new))
        (same-tops (ap (λ x. x.contents) e)) (same-still (ap (λ x. x.contents) e))
        (λ l. absurd (true≢false (sym l ∙ ap (leads S.words.deployment i) e)))
        (λ c _. subst (AllByRecursion (StreamLetter T c)) (sym (none c)) tt)
      where
        new : OwnAt T M halted i (new_joiner (S.sites i) a)
        new = record {
          some = (K.disks i slot).some;
          contents = old-contents;
          marks = (K.disks i slot).marks;
          member = λ _ q. absurd (cc);
          joiner = λ q j is. subst (λ x. OwnStream (new_joiner (S.sites i) a) x x.stream) (same-some is) ((K.disks i slot).marks q);
        }

  -- ---- what goes on while all is stopped

  pub halts-after : (t : Turn SiteState) (G : Logs) → LogsHold (after_site less i t.state t.sends G) → SiteGoes S i t.state
      → ((c : ℕ) → AllByRecursion (LeadersBegin S.words.deployment i t.state) (t.sends (Site c))) → halted ≡ true → Halted (after_site less i t.state t.sends G)
  halts-after t G L goes begins e = halted-site S H (K.halts e) ch fewer i slot t.state t.sends G L goes begins

-- ---- behind a turn that leaves the disk, from a state on

module _ (S : LogState) (i : ℕ) where
  pub handler-goes : (t : Turn SiteState) (m : SiteState) → DiskHandler S.words.deployment i m t → m.start ≡ site_start S i
      → ((j : Joining) → m.joining ≡ Some j → (k : Joining) × ((S.sites i).joining ≡ Some k) × (j.stream ≡ k.stream)) → SiteGoes S i t.state
  handler-goes t m handler start joins = inr (inl (
    handler.at.start ∙ start,
    λ k e.
        let a = at-was-joiner S.words.deployment i m t.state handler.at k e in
        let b = joins a.0 a.1 in
        (b.0, b.1, a.2 ∙ b.2),
  ))

  pub handler-begins : (t : Turn SiteState) (m : SiteState) → DiskHandler S.words.deployment i m t → AllByRecursion HeldOk m.held
      → (c : ℕ) → AllByRecursion (LeadersBegin S.words.deployment i t.state) (t.sends (Site c))
  handler-begins t m handler held c = all-mono (BeginsStream S.words.deployment i c m t.state) (LeadersBegin S.words.deployment i t.state)
      (begins-leader S.words.deployment i c m t.state) (t.sends (Site c)) (handler.sends held c)

-- ---- the turns

-- what is under way once the site of slot i has taken the first message from this actor
abbrev pub taken-from : LogState → Actor → ℕ → Actor → Actor → List Letter
taken-from S from i = took S.words.channel from (Site i)

pub fewer : (S : LogState) (from : Actor) (i : ℕ) (a b : Actor) (l : Letter) → In l (taken-from S from i a b) → In l (S.words.channel a b)
fewer S from i a b l m = all-at (λ x. In x (S.words.channel a b)) (taken-from S from i a b)
    (took-all (λ x. In x (S.words.channel a b)) S.words.channel from (Site i) a b (all-from (λ x. In x (S.words.channel a b)) (S.words.channel a b) (λ x k. k))) l m

module _ (S : LogState) (H : LogsHold S) (F : Firm) (halted : Bool) (K : DisksHold S F halted) (from : Actor) (i : ℕ) (slot : IsSlot S i) where
  abbrev ch : Actor → Actor → List Letter
  ch = taken-from S from i

  abbrev on : (a b : Actor) (l : Letter) → In l (ch a b) → In l (S.words.channel a b)
  on = fewer S from i

  pub handler-kept : (t : Turn SiteState) → 0 < site_start S i → DiskHandler S.words.deployment i (S.sites i) t → Kept S F halted from i t
  handler-kept t up handler M G L grown raised = handler-same S H F halted K ch on i slot t M G L grown raised
      (halts-after S H F halted K ch on i slot t G L (handler-goes S i t (S.sites i) handler refl (λ j e. (j, e, refl)))
      (handler-begins S i t (S.sites i) handler ((H.sites i).keeps up).held)) up handler

  pub still-kept : Kept S F halted from i (becomes (S.sites i))
  still-kept M G L grown raised = still-disks S H F halted K ch on i slot (becomes (S.sites i)) M G L grown raised
      (halts-after S H F halted K ch on i slot (becomes (S.sites i)) G L (inr (inl (refl, λ k e. (k, e, refl)))) (λ c. tt)) refl (λ c. refl)

  -- a start that its slot hasn't run with
  pub begins-kept : (a : ℕ) → (In a (S.logs.ran i) → ⊥) → Kept S F halted from i (sending (new_joiner (S.sites i) a) (only (Scanner i) (open_letter (msg.Start a))))
  begins-kept a fresh M G L grown raised =
      let t = sending (new_joiner (S.sites i) a) (only (Scanner i) (open_letter (msg.Start a))) in
      begins-disks S H F halted K ch on i slot t M G L grown raised
      (halts-after S H F halted K ch on i slot t G L (inr (inr ((new_joining, refl, refl), fresh))) (λ c. tt)) a refl (λ c. refl)

  pub stops-kept : (t : Turn SiteState) → t.state.start ≡ 0 → t.state.greatest ≡ (S.sites i).greatest → LeavesShown S halted i t.state.contents
      → ((c : ℕ) → AllByRecursion NoStreamStart (t.sends (Site c))) → Kept S F halted from i t
  stops-kept t down greatest k none M G L grown raised = stops-disks S H F halted K ch on i slot t M G L grown raised
      (halts-after S H F halted K ch on i slot t G L (inl down) (λ c.
      all-mono NoStreamStart (LeadersBegin S.words.deployment i t.state) (leaders-letter S.words.deployment i t.state) (t.sends (Site c)) (none c)))
      down greatest k none

  -- where the disk stays
  pub leaves-same : LeavesShown S halted i (shown_at S i)
  leaves-same = record { some = (K.disks i slot).some; from = λ y m. inl m; still = λ e y m. m; wipes = inl (raise-refl (shown_at S i)) }

  -- a number is noted
  pub noted-kept : (stop : ℕ) (plans : List (ℕ × ℕ)) → Kept S F halted from i (becomes (record (S.sites i) { stop = stop; plans = plans }))
  noted-kept stop plans = elim (cases_eq (site_start S i) 0) [
    | inl z ↦ stops-kept (becomes (record (S.sites i) { stop = stop; plans = plans })) z refl leaves-same (λ c. tt)
    | inr n ↦ handler-kept (becomes (record (S.sites i) { stop = stop; plans = plans })) (omega (arith, n))
        (disk-same S.words.deployment i (S.sites i) (record (S.sites i) { stop = stop; plans = plans }) refl refl refl)
  ]
