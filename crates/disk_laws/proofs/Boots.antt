-- What the disks show as an epoch begins: in the first world, and once a recovery has worked.
use Rattle.disk_laws.proofs.Names.{◌≡◌, ◌<◌, ◌≤◌, Bool, true, false, List, [], ◌∷◌, length, take, refl, sym, subst, ap, ◌∙◌, inl, inr, ◌==◌, arith, false≢true, false_from_ne_true, cases_Bool, ℕ, nat_lt, map, unwrap_or, option_map, slice_index, Some, None, AllByRecursion, Entry, Database, Deployment, slots, part_of_slot, all_parts, open_in, Content, Shown, best_of, shown_of_part, chosen, mark_of, greatest_open, resolved, closed, recovered, SiteState, no_site, stopped_site, member_site, World, Input, first_world, new_word, start_from, shown_of, new_base, new_log, starts_anew, eqb-same, if-true, if-false, none-and-some, not-both, Prefix, LogState, IsSlot, part, between, log_state, HasLogs, prefix-refl, prefix-same, first_leadership, new_logs, first-logs, anew-logs, first-logs-are, anew-logs-are, Top, Written, Firm, MemberDisk, DiskOk, DisksHold, own_content, shown_at}
use Rattle.std.proofs.Common.{take_all}
use Rattle.word_laws.specs.Histories as word
use Rattle.disk_laws.proofs.Order.{best-in, shown-from}
use Rattle.disk_laws.proofs.Choices.{get-none}

-- ---- what holds as an epoch begins

-- Each slot's site runs as a member of the first word with its partition's log, all of it in its base. Where a partition has no slot
-- its log is empty.
pub record DisksBegin (S : LogState) (base start : ℕ) (log : ℕ → List Entry) : Type 0 where
  pub members : (c : ℕ) → IsSlot S c
      → (x : SiteState) × (S.sites c ≡ member_site S.words.deployment c x (new_word S.words.deployment base start) (start_from S.words.deployment start c) (log (part S c)))
  pub environment : (c : ℕ) → (IsSlot S c → ⊥) → AllByRecursion (λ x. x ≡ None) (shown_at S c)
  pub leadership : (p : ℕ) → S.logs.leadership p base ≡ Some (first_leadership log p)
  pub reach : (p : ℕ) → S.logs.reach p base ≡ length (log p)
  pub inert : (i c : ℕ) → between S i c ≡ []
  pub slots : (p : ℕ) → 0 < length (log p) → (c : ℕ) × IsSlot S c × (part S c ≡ p)

module _ (S : LogState) (base start : ℕ) (log : ℕ → List Entry) (k : DisksBegin S base start log) where
  abbrev D : Deployment
  D = S.words.deployment

  -- what is counted firm
  abbrev all_firm : Firm
  all_firm p = length (log p)

  -- a slot's site
  abbrev site : (c : ℕ) → IsSlot S c → SiteState
  site c q = member_site D c (k.members c q).0 (new_word D base start) (start_from D start c) (log (part S c))

  site-is : (c : ℕ) (q : IsSlot S c) → S.sites c ≡ site c q
  site-is c q = (k.members c q).1

  -- its base
  abbrev content : ℕ → Content
  content p = record { mark = base; base = length (log p); log = log p }

  shown-is : (c : ℕ) (q : IsSlot S c) → shown_at S c ≡ Some (content (part S c)) ∷ []
  shown-is c q = ap (λ s. s.contents) (site-is c q)

  content-written : (p : ℕ) → Written S p (content p)
  content-written p = search (first_leadership log p, k.leadership p, prefix-refl (log p), base, arith)

  -- it is the log that the site has
  whole : (xs : List Entry) → take (length xs) xs ≡ xs
  whole xs = take_all (length xs) xs (omega arith)

  own-is : (c : ℕ) (q : IsSlot S c) → own_content (site c q) ≡ Some (content (part S c))
  own-is c q = ap (λ l. Some (record { mark = base; base = length (log (part S c)); log = l })) (whole (log (part S c)))

  member-disk : (c : ℕ) (q : IsSlot S c) → MemberDisk S all_firm c
  member-disk c q =
      let e = site-is c q in
      record {
        shows = shown-is c q ∙ ap (λ x. x ∷ []) (sym (ap own_content e ∙ own-is c q));
        mark = rw e (omega arith);
        leadership = first_leadership log (part S c);
        led = rw e (k.leadership (part S c));
        begun = subst (λ s. Prefix (log (part S c)) (take s.on_disk s.log)) (sym e) (prefix-same (log (part S c)) (take (length (log (part S c))) (log (part S c))) (sym (whole (log (part S c)))));
        marked = λ _. ap (λ s. s.repaired) e;
        firm = rw e (omega arith);
        owes = inl (ap (λ s. s.owes) e);
      }

  disk-begins : (c : ℕ) (q : IsSlot S c) → DiskOk S all_firm false c
  disk-begins c q = record {
    some = λ e. none (sym (shown-is c q) ∙ e);
    contents = rw (shown-is c q) (content-written (part S c), tt);
    marks = λ _. subst (λ s. AllByRecursion (λ x. mark_of x ≤ s.greatest) s.contents) (sym (site-is c q)) (omega arith, tt);
    member = λ up j. member-disk c q;
    joiner = λ _ j e. absurd (none-and-some (ap (λ s. s.joining) (site-is c q)) e);
  }
    where
      none : Some (content (part S c)) ∷ [] ≡ [] → ⊥
      none e = absurd (cc)

  top-begins : (p : ℕ) → 0 < length (log p) → Top S p base (length (log p))
  top-begins p some =
      let r = k.slots p some in
      record { slot = r.0; is_slot = r.1; part_is = r.2; all = rw (shown-is r.0 r.1, r.2) (inr (refl, omega arith), tt) }

  pub disks-begin : DisksHold S all_firm false
  disks-begin = record {
    disks = disk-begins;
    environment = k.environment;
    streams = λ i c q. rw (k.inert i c) tt;
    firm = λ p. record { term = base; leadership = first_leadership log p; led = k.leadership p; reach = omega (arith, k.reach p); top = top-begins p };
    halts = λ e. absurd (false≢true e);
  }

-- ---- the first epoch

-- what was counted firm in the epoch that a world is in
abbrev pub firm_in : World → Firm
firm_in w p = (w.authoritative p).firm

first-hold : (E : Database) (I : Input) (owner : ℕ → ℕ) (history : word.History)
    → DisksHold (log_state (first_world E I) owner history (new_logs I.deployment I.base 1 (λ p. []))) (firm_in (first_world E I)) false
first-hold E I owner history =
    let D = I.deployment in
    let site : ℕ → SiteState = λ c. member_site D c no_site (new_word D I.base 1) (start_from D 1 c) [] in
    disks-begin (log_state (first_world E I) owner history (new_logs D I.base 1 (λ p. []))) I.base 1 (λ p. []) (record {
      members = λ c q. (no_site, if-true (nat_lt c (slots D)) (site c) no_site q);
      environment = λ c out. subst {A = SiteState} (λ s. AllByRecursion (λ x. x ≡ None) s.contents)
          (sym (if-false (nat_lt c (slots D)) (site c) no_site (false_from_ne_true (nat_lt c (slots D)) out))) tt;
      leadership = λ p. if-true (I.base == I.base) (Some (first_leadership (λ p. []) p)) None (eqb-same I.base);
      reach = λ p. if-true (I.base == I.base) 0 0 (eqb-same I.base);
      inert = λ i c. refl;
      slots = λ p some. absurd (omega (arith, some));
    })

pub first-disks : (E : Database) (I : Input) (positive : 0 < I.base)
    → let k = first-logs E I positive in DisksHold (log_state (first_world E I) k.owner k.history k.logs) (firm_in (first_world E I)) false
first-disks E I positive =
    let k = first-logs E I positive in
    subst (λ G. DisksHold (log_state (first_world E I) k.owner k.history G) (firm_in (first_world E I)) false) (sym (first-logs-are E I positive))
    (first-hold E I k.owner k.history)

-- ---- those that a recovery begins

-- The log with which a recovery goes on is empty but for what a disk showed.
module _ (E : Database) (D : Deployment) (shown : ℕ → Shown) (p : ℕ) where
  none-recovered : chosen D shown p ≡ [] → recovered E D shown p ≡ []
  none-recovered e =
      let greatest = greatest_open (map (chosen D shown) (all_parts D)) in
      ap (λ l. closed l (open_in l) greatest (resolved E D (chosen D shown) (unwrap_or greatest 0))) e

  some-recovered : 0 < length (recovered E D shown p) → (c : ℕ) × (x : Content) × (part_of_slot D c ≡ p) × (shown c ≡ Some x)
  some-recovered some = choice (best_of (shown_of_part D shown p)) refl
    where
      choice : (b : Shown) → best_of (shown_of_part D shown p) ≡ b → (c : ℕ) × (x : Content) × (part_of_slot D c ≡ p) × (shown c ≡ Some x)
      choice None e =
          let none : recovered E D shown p ≡ [] = none-recovered (ap (λ b. unwrap_or (option_map (λ c. c.log) b) []) e) in
          absurd (omega (arith, some, ap length none))
      choice (Some x) e = let r = shown-from D shown p (Some x) (best-in (shown_of_part D shown p) x e) in (r.0, x, r.1, r.2)

anew-hold : (E : Database) (w : World) (shown : List ℕ) (owner : ℕ → ℕ) (history : word.History)
    → ((c : ℕ) → (nat_lt c (slots w.deployment) ≡ true → ⊥) → AllByRecursion (λ x. x ≡ None) (w.sites c).contents)
    → DisksHold (log_state (starts_anew E w shown) owner history (new_logs w.deployment (new_base w shown) w.director.next_start (new_log E w shown)))
    (firm_in (starts_anew E w shown)) false
anew-hold E w shown owner history environment =
    let D = w.deployment in
    let base = new_base w shown in
    let start = w.director.next_start in
    let log = new_log E w shown in
    let site : ℕ → SiteState = λ c. member_site D c (stopped_site (w.sites c)) (new_word D base start) (start_from D start c) (log (part_of_slot D c)) in
    disks-begin (log_state (starts_anew E w shown) owner history (new_logs D base start log)) base start log (record {
      members = λ c q. (stopped_site (w.sites c), if-true (nat_lt c (slots D)) (site c) (w.sites c) q);
      environment = λ c out. subst {A = SiteState} (λ s. AllByRecursion (λ x. x ≡ None) s.contents)
          (sym (if-false (nat_lt c (slots D)) (site c) (w.sites c) (false_from_ne_true (nat_lt c (slots D)) out))) (environment c out);
      leadership = λ p. if-true (base == base) (Some (first_leadership log p)) None (eqb-same base);
      reach = λ p. if-true (base == base) (length (log p)) 0 (eqb-same base);
      inert = λ i c. refl;
      slots = λ p some. let r = some-recovered E D (shown_of w shown) p some in (r.0, is-slot r.0 r.1 r.3, r.2);
    })
  where
    -- what is shown is so by a slot's disk
    is-slot : (c : ℕ) (x : Content) → shown_of w shown c ≡ Some x → nat_lt c (slots w.deployment) ≡ true
    is-slot c x e = elim (cases_Bool (nat_lt c (slots w.deployment))) [
      | inl q ↦ q
      | inr q ↦ absurd (none-and-some (get-none (w.sites c).contents (slice_index shown c) (environment c (λ y. not-both (nat_lt c (slots w.deployment)) y q))) e)
    ]

pub anew-disks : (E : Database) (w : World) (shown : List ℕ) (k : HasLogs w) (F : Firm) (halted : Bool) → DisksHold (log_state w k.owner k.history k.logs) F halted
    → let a = anew-logs E w shown k in DisksHold (log_state (starts_anew E w shown) a.owner a.history a.logs) (firm_in (starts_anew E w shown)) false
anew-disks E w shown k F halted K =
    let a = anew-logs E w shown k in
    subst (λ G. DisksHold (log_state (starts_anew E w shown) a.owner a.history G) (firm_in (starts_anew E w shown)) false) (sym (anew-logs-are E w shown k))
    (anew-hold E w shown a.owner a.history K.environment)
