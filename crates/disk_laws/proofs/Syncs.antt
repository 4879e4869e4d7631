-- A site writes what it owes its disk: all that disks show is well after it, also where the disk fails or no memory is found.
use Rattle.disk_laws.proofs.Names.{◌≡◌, ◌<◌, ◌≤◌, Bool, true, false, List, [], take, refl, sym, subst, ap, true≢false, arith, and_parts, nat_tests, ℕ, nat_lt, is_some, Some, None, AllByRecursion, Actor, Shown, after_parts, after_failure, mark_of, Database, Letter, Turn, Environment, NoFault, DiskFails, NoMemory, DisksShow, SiteState, Joining, joiner_owes, may_sync, owes_in, parts_of_sync, syncs, stops_so, sync_turn, In, not-both, LogState, Logs, LogsHold, IsSlot, part, site_start, Grown, after_site, Firm, Top, ContentOk, DisksHold}
use Rattle.disk_laws.proofs.Order.{all-take, some-after_parts, some-after_failure, all-after_parts, all-after_failure, Raise, raise-after_parts, raise-after_failure, raise-take}
use Rattle.disk_laws.proofs.Handlers.{DiskHandler}
use Rattle.disk_laws.proofs.SiteHandlers.{syncs-handler}
use Rattle.disk_laws.proofs.SiteDisks.{Raised, contents-on, disk-on}
use Rattle.disk_laws.proofs.Turning.{DisksGo, stops-none, firm-before, raised-tops, handler-disks, stopped-disks}
use Rattle.disk_laws.proofs.SyncContents.{PartsOk, parts-ok}
use Rattle.disk_laws.proofs.Writing.{wrote_disk, wrote-start, wrote-firm, wrote-held, wrote-low, wrote-own}

-- ---- a site that may sync

-- It runs, and is a member or has its stream.
pub sync-runs : (s : SiteState) → may_sync s ≡ true → 0 < s.start
sync-runs s may = grind (arith, nat_tests, (and_parts (nat_lt 0 s.start) (owes_in s s.joining) may).0)

pub sync-streams : (s : SiteState) → may_sync s ≡ true → (j : Joining) → s.joining ≡ Some j → j.stream ≡ None → ⊥
sync-streams s may j joins none =
    let o : joiner_owes s j ≡ true = subst (λ x. owes_in s x ≡ true) joins (and_parts (nat_lt 0 s.start) (owes_in s s.joining) may).1 in
    not-both (is_some j.stream) (and_parts (is_some j.stream) _ o).0 (ap is_some none)

-- ---- all that disks show, after a Sync

module _ (E : Database) (S : LogState) (H : LogsHold S) (F : Firm) (K : DisksHold S F false) (i : ℕ) (slot : IsSlot S i) (up : 0 < site_start S i) where
  abbrev s : SiteState
  s = S.sites i

  abbrev parts : List Shown
  parts = parts_of_sync s s.joining

  p : PartsOk S F i parts
  p = parts-ok S H i up F (K.disks i slot)

  never : {A : Type 0} → false ≡ true → A
  never e = absurd (true≢false (sym e))

  all-same : (a b : Actor) (l : Letter) → In l (S.words.channel a b) → In l (S.words.channel a b)
  all-same a b l k = k

  -- ---- the site has written, and says so

  module _ (M : Firm) (G : Logs) where
    abbrev b : SiteState
    b = wrote_disk S H i up F (K.disks i slot)

    abbrev t : Turn SiteState
    t = syncs E S.words.deployment i s

    abbrev T : LogState
    T = after_site S i t.state t.sends G

    handler : DiskHandler S.words.deployment i b t
    handler = syncs-handler E S.words.deployment i b

    module _ (L : LogsHold T) (grown : Grown S.words.deployment i t.state S.logs G) (raised : Raised S.words.deployment i t.state F M) where
      pub syncs-disks : DisksGo S T M false
      syncs-disks = handler-disks S H F false K S.words.channel all-same i slot t M G L grown raised never b
          (disk-on S H F M false K S.words.channel all-same i slot t.state t.sends G L grown raised never i b (wrote-own S H i up F (K.disks i slot)))
          (wrote-low S H i up F (K.disks i slot)) handler start (wrote-held S H i up F (K.disks i slot)) firm tops never
        where
          start : 0 < t.state.start
          start = let e = wrote-start S H i up F (K.disks i slot) in omega (arith, up, handler.at.start, e)

          firm : b.firm ≤ F (part S i)
          firm = let e = wrote-firm S H i up F (K.disks i slot) in let l = firm-before S H F false K i slot up in omega (arith, e, l)

          tops : (p m n : ℕ) → Top S p m n → Top T p m n
          tops = raised-tops S H F false K S.words.channel all-same i slot t M G L grown raised never
              (subst (Raise s.contents) (sym handler.at.contents) (raise-after_parts s.contents parts p.raise))

  -- ---- it stops, after parts of which some were written

  module _ (start : ℕ) (xs : List Shown) (some : (xs ≡ []) → ⊥) (contents : AllByRecursion (ContentOk S F false (part S i)) xs)
      (marks : AllByRecursion (λ x. mark_of x ≤ s.greatest) xs) (raise : Raise s.contents xs) (M : Firm) (G : Logs) where
    abbrev stop : Turn SiteState
    stop = stops_so S.words.deployment i s start xs

    pub stop-disks : LogsHold (after_site S i stop.state stop.sends G) → Grown S.words.deployment i stop.state S.logs G → Raised S.words.deployment i stop.state F M
        → DisksGo S (after_site S i stop.state stop.sends G) M false
    stop-disks L grown raised = stopped-disks S H F false K S.words.channel all-same i slot stop M G L grown raised never refl some
        (contents-on S H F M false K S.words.channel all-same i slot stop.state stop.sends G L grown raised never (part S i) xs contents) (λ _. marks)
        (raised-tops S H F false K S.words.channel all-same i slot stop M G L grown raised never raise) never (stops-none S.words.deployment i start s xs)

  -- ---- either

  pub turn-disks : (o : Environment) (M : Firm) (G : Logs) → let t = sync_turn E S.words.deployment i s o in
      LogsHold (after_site S i t.state t.sends G) → Grown S.words.deployment i t.state S.logs G → Raised S.words.deployment i t.state F M
      → DisksGo S (after_site S i t.state t.sends G) M false
  turn-disks NoFault M G L grown raised = syncs-disks M G L grown raised
  turn-disks (DisksShow shown failed) M G L grown raised = syncs-disks M G L grown raised
  turn-disks (DiskFails answered) M G L grown raised = stop-disks (site_start S i) (after_failure s.contents parts answered)
      (some-after_failure s.contents parts answered (K.disks i slot).some)
      (all-after_failure (ContentOk S F false (part S i)) s.contents parts (K.disks i slot).contents p.contents answered)
      (all-after_failure (λ x. mark_of x ≤ s.greatest) s.contents parts ((K.disks i slot).marks refl) p.marks answered)
      (raise-after_failure s.contents parts p.raise answered) M G L grown raised
  turn-disks (NoMemory answered) M G L grown raised = stop-disks (site_start S i) (after_parts s.contents (take answered parts))
      (some-after_parts s.contents (take answered parts) (K.disks i slot).some)
      (all-after_parts (ContentOk S F false (part S i)) s.contents (take answered parts) (K.disks i slot).contents
      (all-take (ContentOk S F false (part S i)) answered parts p.contents))
      (all-after_parts (λ x. mark_of x ≤ s.greatest) s.contents (take answered parts) ((K.disks i slot).marks refl)
      (all-take (λ x. mark_of x ≤ s.greatest) answered parts p.marks))
      (raise-after_parts s.contents (take answered parts) (raise-take s.contents parts p.raise answered)) M G L grown raised

-- All that disks show is well after a site's Sync. After a recovery that was stopped there is none, since nobody has taken a stream.
pub sync-disks : (E : Database) (S : LogState) → LogsHold S → (F : Firm) (halted : Bool) → DisksHold S F halted → (i : ℕ) → IsSlot S i → may_sync (S.sites i) ≡ true
    → (o : Environment) (M : Firm) (G : Logs) → let t = sync_turn E S.words.deployment i (S.sites i) o in
    LogsHold (after_site S i t.state t.sends G) → Grown S.words.deployment i t.state S.logs G → Raised S.words.deployment i t.state F M
    → DisksGo S (after_site S i t.state t.sends G) M halted
sync-disks E S H F false K i slot may o M G L grown raised = turn-disks E S H F K i slot (sync-runs (S.sites i) may) o M G L grown raised
sync-disks E S H F true K i slot may o M G L grown raised =
    let j = (K.halts refl).joiners i (sync-runs (S.sites i) may) in
    absurd (sync-streams (S.sites i) may j.0 j.1 j.2)
