-- A site takes a message, or syncs: all that holds of transactions holds after it.
use Rattle.transaction_laws.proofs.Names.{Actor, Agent, AllBefore, AllByRecursion, AskedIn, CallsOk, SiteAsks, subst, Bool, CallsHold, Database, DisksGo, DisksHold, Enters, Entry, Environment, Firm, Grown, IsSlot, Leading, Letter, List, LogState, Logs, LogsHold, NoWord, None, PlainWaiting, Raised, Site, SiteCalls, SiteState, ToOrders, ToSiteOk, Transactions, WaitsPlain, [], after_site, all-at, all-from, all-mono, append-nil, fewer, inl, leading, leads, length, log_at, no-log, part, plain-word, refl, site_popped, site_start, site_turn, site_turn-answers, some-start, sym, sync-waits, sync_turn, sync_turn-answers, true, turn-waits, waits-plain, ℕ, ◌++◌, ◌+◌, ◌<◌, ◌∙◌, ◌∷◌, ◌≡◌, ◌⊎◌}
use Rattle.transaction_laws.proofs.Kept.{with_due}
use Rattle.transaction_laws.proofs.Initiators.{LaidOut}
use Rattle.transaction_laws.proofs.Sites.Leaderships.{OwnTurn, due_after, runs}
use Rattle.transaction_laws.proofs.Sites.Answers.{orders-fit}
use Rattle.transaction_laws.proofs.Sites.SiteCounts.{sync-counted, sync-joined, sync-unrepaired}
use Rattle.transaction_laws.proofs.Sites.SiteGiven.{given-counted, given-joined, given-starts, given-steady, given-unrepaired}
use Rattle.transaction_laws.proofs.Sites.SiteLogs.{sync-steady}
use Rattle.transaction_laws.proofs.Sites.SiteOrders.{head-ok, left-orders, own-orders, popped-there, taken-due, order-waits-none}
use Rattle.transaction_laws.proofs.Sites.SiteTurned.{OwnFacts, turned-calls}
use Rattle.transaction_laws.proofs.Sites.SiteWalk.{taken_by}

module _ (E : Database) (S : LogState) (H : LogsHold S) (F : Firm) (halted : Bool) (K : Transactions) (now : ℕ) (C : CallsHold E S F halted K now) (lay : LaidOut S) (i : ℕ)
    (slot : IsSlot S i) (disks : DisksHold S F halted) where
  -- what was so of the site
  before : 0 < site_start S i → SiteCalls S K i
  before up = C.sites i slot up

  under-way : (h : ℕ) → AllByRecursion (ToSiteOk S h i) (S.words.channel (Agent h) (Site i))
  under-way h = C.to_sites h i slot

  -- a leader runs
  leading-runs : Leading S i → 0 < site_start S i
  leading-runs k = some-start S H k.word i (site_start S i) k.member.decided k.member.start_is

  -- ---- it takes a message

  module _ (from : Actor) (l : Letter) (ls : List Letter) (is : S.words.channel from (Site i) ≡ l ∷ ls) (past : AllBefore K.submitted (now + 1))
      (asks : SiteAsks S.words.deployment K.submitted i (S.sites i)) (asked : AskedIn S.words.deployment K.submitted from (Site i) l) (o : Environment) (G : Logs) (M : Firm) where
    abbrev u : SiteState
    u = (site_turn E S.words.deployment (now + 1) i (S.sites i) from l o).state

    abbrev out : Actor → List Letter
    out = (site_turn E S.words.deployment (now + 1) i (S.sites i) from l o).sends

    abbrev T : LogState
    T = after_site (site_popped S from i) i u out G

    module _ (J : LogsHold T) (grown : Grown S.words.deployment i u S.logs G) (enters : Enters i (length (log_at S i)) S.logs G) (on : (u.start ≡ site_start S i) ⊎ (u.view ≡ None))
        (go : DisksGo S T M halted) (raised : Raised S.words.deployment i u F M) where
      abbrev ch : Actor → Actor → List Letter
      ch = (site_popped S from i).words.channel

      abbrev taken : List Entry
      taken = taken_by (S.sites i) from l

      own : OwnTurn E S H K C.books.due (now + 1) i ch u out G J grown enters on taken
      own = record {
        steady = λ was authoritative view. let up = runs S H i ch u out G J enters on authoritative in given-steady E (now + 1) S H i slot up from l ls is (before up).waiting o K.submitted (past, asks, asked) was authoritative view;
        starts = λ authoritative anew. let up = runs S H i ch u out G J enters on authoritative in given-starts E (now + 1) S H i slot up from l ls is (before up).waiting o K.submitted (past, asks, asked) authoritative anew;
        was_due = λ was authoritative view. let up = runs S H i ch u out G J enters on authoritative in
            taken-due S H K C.books.due i slot under-way (before up) (leading S i H up was) from l ls is;
      }

      facts : OwnFacts E S H F M halted K now C lay i slot ch u out G J grown enters on go.disks raised go.tops taken
      facts = record {
        own = own;
        answers = site_turn-answers E S.words.deployment i ToOrders (orders-fit E (part S i)) (S.sites i) (now + 1) from l o (waits-plain S H i) (no-log S H i) (λ up. (before up).held);
        waiting = turn-waits E S.words.deployment (now + 1) i (S.sites i) from l o (λ x. WaitsPlain x.from x.letter)
            (λ up. all-mono PlainWaiting (λ x. NoWord x.from x.letter) plain-word (S.sites i).waiting (waits-plain S H i up)) (λ up. (before up).waiting)
            (λ up. order-waits-none S H i slot from l (head-ok S i under-way from l ls is));
        counted = λ authoritative. let up = runs S H i ch u out G J enters on authoritative in
            given-counted E (now + 1) S H i slot up from l ls is (before up).waiting o F halted disks (λ was. ((before up).counts was).counted) authoritative;
        joined = λ low old authoritative. let up = runs S H i ch u out G J enters on authoritative in
            given-joined E (now + 1) S H i slot up from l ls is (before up).waiting o low old (before up).unrepaired authoritative;
        unrepaired = λ up. given-unrepaired E (now + 1) S H i slot up from l ls is (before up).waiting o (before up).unrepaired;
        left = λ k h a init. left-orders S H K C.books.due i slot under-way (before (leading-runs k)) k from l ls is h a init;
        less = fewer S from i;
        there = λ h c n. popped-there S from (Agent h) i c n;
      }

      -- All that holds of transactions holds after it.
      pub site-calls : (due : ℕ → ℕ → List Entry) × CallsHold E T M halted (with_due K due) (now + 1)
      site-calls = (
        due_after S K i u taken,
        turned-calls E S H F M halted K now C lay i slot ch u out G J grown enters on go.disks raised go.tops taken facts before go.still,
      )

  -- ---- it syncs

  module _ (up : 0 < site_start S i) (o : Environment) (G : Logs) (M : Firm) where
    abbrev synced : SiteState
    synced = (sync_turn E S.words.deployment i (S.sites i) o).state

    abbrev says : Actor → List Letter
    says = (sync_turn E S.words.deployment i (S.sites i) o).sends

    abbrev later : LogState
    later = after_site S i synced says G

    module _ (J : LogsHold later) (grown : Grown S.words.deployment i synced S.logs G) (enters : Enters i (length (log_at S i)) S.logs G)
        (on : (synced.start ≡ site_start S i) ⊎ (synced.view ≡ None)) (go : DisksGo S later M halted) (raised : Raised S.words.deployment i synced F M) where
      still-leads : leads S.words.deployment i synced ≡ true → (synced.log ≡ log_at S i) × (synced.view ≡ (S.sites i).view) × (leads S.words.deployment i (S.sites i) ≡ true)
      still-leads = sync-steady E S.words.deployment i (S.sites i) o

      sync-own : OwnTurn E S H K C.books.due (now + 1) i S.words.channel synced says G J grown enters on []
      sync-own = record {
        steady = λ was authoritative view. record {
          more = [];
          log_is = (still-leads authoritative).0 ∙ sym (append-nil (log_at S i ++ []) ∙ append-nil (log_at S i));
          at = tt;
          room = inl refl;
          once = subst (CallsOk K.submitted (part S i)) (append-nil (log_at S i) ∙ sym (still-leads authoritative).0);
        };
        starts = λ authoritative anew. let s = still-leads authoritative in absurd (anew s.2 s.1);
        was_due = λ was authoritative view. inl refl;
      }

      sync-facts : OwnFacts E S H F M halted K now C lay i slot S.words.channel synced says G J grown enters on go.disks raised go.tops []
      sync-facts = record {
        own = sync-own;
        answers = sync_turn-answers E S.words.deployment i ToOrders (orders-fit E (part S i)) (S.sites i) o up (before up).held;
        waiting = λ _. all-from (λ x. WaitsPlain x.from x.letter) synced.waiting
            (λ x m. all-at (λ x. WaitsPlain x.from x.letter) (S.sites i).waiting (before up).waiting x (sync-waits E S.words.deployment i (S.sites i) o x m));
        counted = sync-counted E S.words.deployment i (S.sites i) o;
        joined = λ low old authoritative. sync-joined E S.words.deployment i (S.sites i) o low (λ was. old was (still-leads authoritative).1) authoritative;
        unrepaired = λ _. sync-unrepaired E S.words.deployment i (S.sites i) o (before up).unrepaired;
        left = λ k h a init. own-orders S H K C.books.due i slot under-way (before up) k h a init;
        less = λ a b l m. m;
        there = λ h c n. refl;
      }

      -- All that holds of transactions holds after it.
      pub sync-calls : (due : ℕ → ℕ → List Entry) × CallsHold E later M halted (with_due K due) (now + 1)
      sync-calls = (
        due_after S K i synced [],
        turned-calls E S H F M halted K now C lay i slot S.words.channel synced says G J grown enters on go.disks raised go.tops [] sync-facts before go.still,
      )
