-- How an epoch begins: all holds in the first world, and once a recovery has worked.
use Rattle.std.proofs.Common.{◌≡◌, ◌+◌, ◌<◌, ◌≤◌, Bool, true, false, List, [], ◌∷◌, append-nil, refl, sym, subst, ap, ◌∙◌, ◌⊎◌, inl, inr, ◌==◌, arith, zero, suc}
use Rattle.std.proofs.lemmas.Bool.{eqb-true, cases_Bool, cases_eq}
use Rattle.std.proofs.lemmas.Bool.Decides.{nat_tests}
use Rattle.std.specs.Prelude.{ℕ, ◌-◌, ◌||◌, not, nat_le, if◌then◌else◌, filter, fold, Option, Some, None}
use Rattle.std.specs.List.{AllByRecursion, list_any, list_all}
use Rattle.volt_base.specs.declared.entry.LastReply.{LastReply}
use Rattle.volt_wire.specs.Word.{Membership}
use Rattle.volt_wire.specs.declared.actor.Actor.{Actor}
use Rattle.volt_wire.specs.declared.actor.Actor.TheVariants.{Director, Agent}
use Rattle.partition_ring.specs.Placement.{greater_start}
use Rattle.cluster_model.specs.Letters.{same, Letter}
use Rattle.cluster_model.specs.AgentState.{AgentState, new_agent, initiates, is_initiator_in}
use Rattle.cluster_model.specs.Laws.{RiseFrom, starts_in}
use Rattle.cluster_model.specs.Words.{Deployment, is_host, is_in, not_lost, members, start_of, first_of, initiator}
use Rattle.cluster_model.specs.World.{hosts_from, new_word, first_initiating, member_agent}
use Rattle.cluster_model.specs.Recover.{new_channels}
use Rattle.cluster_steps.specs.Lists.{In}
use Rattle.word_laws.specs.Histories.{names, Within, Comparable, History, State, agent_start, starts_to, Begun, Gone, HostOk, GoodWord, LetterOk, InOrder, ChannelOk, QueuedAdmissionOk, IsOff, AgentOk, Falls, HistoryOk, WordsHold}
use Rattle.cluster_steps.proofs.Lists.{all-mono, if-true, if-false, or-false, in-one, only-one, all-one, of-only, all-from, list_all-all, filter-all}
use Rattle.word_laws.proofs.Steps.{new_agent-known}

-- ---- the first word

-- of a host and its start, where so many hosts have theirs in order, the first one this
abbrev pub HostFrom : ℕ → ℕ → ℕ → ℕ × ℕ → Type 0
HostFrom n host start m = (host ≤ m.0) × (m.0 < host + n) × (m.1 + host ≡ m.0 + start)

-- they stand in the list from this host and start on
pub hosts-all : (n host start : ℕ) → AllByRecursion (HostFrom n host start) (hosts_from n host start)
hosts-all zero host start = tt
hosts-all (suc n) host start = (
  (omega arith, omega arith, omega arith),
  all-mono (HostFrom n (host + 1) (start + 1)) (HostFrom (suc n) host start) (λ m k. (omega (arith, k.0), omega (arith, k.1), omega (arith, k.2)))
      (hosts_from n (host + 1) (start + 1)) (hosts-all n (host + 1) (start + 1)),
)

-- a start that stands there is one of these, and each of these stands there
pub hosts-any : (n host start s : ℕ) → list_any (λ m. m.1 == s) (hosts_from n host start) ≡ true → (start ≤ s) × (s < start + n)
hosts-any zero host start s e = absurd (cc)
hosts-any (suc n) host start s e = elim (cases_Bool (start == s)) [
  | inl q ↦ let p = eqb-true start s q in (omega (arith, p), omega (arith, p))
  | inr q ↦ let k = hosts-any n (host + 1) (start + 1) s (rw q at e) in (omega (arith, k.0), omega (arith, k.1))
]

-- each start of the list is there
pub hosts-there : (n host start s : ℕ) → start ≤ s → s < start + n → list_any (λ m. m.1 == s) (hosts_from n host start) ≡ true
hosts-there zero host start s low high = absurd (omega (arith, low, high))
hosts-there (suc n) host start s low high = elim (cases_Bool (start == s)) [
  | inl q ↦ rw q
  | inr q ↦ let d : (start ≡ s → ⊥) = grind (arith, nat_tests, q) in rw q (hosts-there n (host + 1) (start + 1) s (omega (arith, low, d)) (omega (arith, high)))
]

not_lost-first : (D : Deployment) (base start : ℕ) → not_lost (new_word D base start) ≡ hosts_from D.layout.hosts 0 start
not_lost-first D base start = rw append-nil (filter-all (λ m. true) (hosts_from D.layout.hosts 0 start) (all-from (λ m. true ≡ true) (hosts_from D.layout.hosts 0 start) (λ m i. refl)))

one-greatest : (n host start : ℕ) (k m : ℕ × ℕ) → HostFrom n host start k → HostFrom n host start m → (not (k.0 == m.0) || nat_le k.1 m.1) ≡ true
one-greatest n host start k m a b = elim (cases_Bool (k.0 == m.0)) [
  | inl q ↦ let p = eqb-true k.0 m.0 q in rw q (grind (arith, nat_tests, p, a.2, b.2))
  | inr q ↦ rw q
]

-- all of them are members of the word with which an epoch begins
pub members-first : (D : Deployment) (base start : ℕ) → members (new_word D base start) ≡ hosts_from D.layout.hosts 0 start
members-first D base start =
    let hosts = hosts_from D.layout.hosts 0 start in
    let all = hosts-all D.layout.hosts 0 start in
    ap (λ xs. filter (λ m. list_all (λ n. not (n.0 == m.0) || nat_le n.1 m.1) xs) xs) (not_lost-first D base start)
    ∙ filter-all (λ m. list_all (λ n. not (n.0 == m.0) || nat_le n.1 m.1) hosts) hosts
    (all-mono (HostFrom D.layout.hosts 0 start) (λ m. list_all (λ n. not (n.0 == m.0) || nat_le n.1 m.1) hosts ≡ true)
    (λ m b. list_all-all (λ n. not (n.0 == m.0) || nat_le n.1 m.1) hosts
    (all-mono (HostFrom D.layout.hosts 0 start) (λ n. (not (n.0 == m.0) || nat_le n.1 m.1) ≡ true) (λ k a. one-greatest D.layout.hosts 0 start k m a b) hosts all))
    hosts all)

-- the start of a host among these
greater-here : (host start h : ℕ) → host ≡ h → greater_start h None (host, start) ≡ Some start
greater-here host start h e = grind (arith, nat_tests, e)

greater-other : (host start h : ℕ) (o : Option ℕ) → (host ≡ h → ⊥) → greater_start h o (host, start) ≡ o
greater-other host start h None d = let e : (host == h) ≡ false = grind (arith, nat_tests, d) in rw e
greater-other host start h (Some x) d = let e : (host == h) ≡ false = grind (arith, nat_tests, d) in rw e

fold-past : (n host start h : ℕ) (o : Option ℕ) → h < host → fold (greater_start h) o (hosts_from n host start) ≡ o
fold-past zero host start h o low = refl
fold-past (suc n) host start h o low =
    ap (λ x. fold (greater_start h) x (hosts_from n (host + 1) (start + 1))) (greater-other host start h o (λ e. omega (arith, e, low)))
    ∙ fold-past n (host + 1) (start + 1) h o (omega (arith, low))

fold-none : (n host start h : ℕ) → host + n ≤ h → fold (greater_start h) None (hosts_from n host start) ≡ None
fold-none zero host start h high = refl
fold-none (suc n) host start h high =
    ap (λ x. fold (greater_start h) x (hosts_from n (host + 1) (start + 1))) (greater-other host start h None (λ e. omega (arith, e, high)))
    ∙ fold-none n (host + 1) (start + 1) h (omega (arith, high))

fold-some : (n host start h s : ℕ) → host ≤ h → h < host + n → s + host ≡ h + start → fold (greater_start h) None (hosts_from n host start) ≡ Some s
fold-some zero host start h s low high same = absurd (omega (arith, low, high))
fold-some (suc n) host start h s low high same = elim (cases_eq host h) [
  | inl e ↦
      ap (λ x. fold (greater_start h) x (hosts_from n (host + 1) (start + 1))) (greater-here host start h e)
      ∙ fold-past n (host + 1) (start + 1) h (Some start) (omega (arith, e))
      ∙ ap (λ x. Some x) (let f : start ≡ s = omega (arith, e, same) in f)
  | inr d ↦
      ap (λ x. fold (greater_start h) x (hosts_from n (host + 1) (start + 1))) (greater-other host start h None d)
      ∙ fold-some n (host + 1) (start + 1) h s (omega (arith, low, d)) (omega (arith, high)) (omega (arith, same))
]

-- each host is a member by its start, and no other is one
pub start_of-first : (D : Deployment) (base start h : ℕ) → is_host D h ≡ true → start_of (new_word D base start) h ≡ Some (start + h)
start_of-first D base start h e =
    let b : h < D.layout.hosts = grind (arith, nat_tests, e) in
    rw (members-first D base start) (fold-some D.layout.hosts 0 start h (start + h) (omega arith) (omega (arith, b)) (omega arith))

pub start_of-none : (D : Deployment) (base start h : ℕ) → is_host D h ≡ false → start_of (new_word D base start) h ≡ None
start_of-none D base start h e =
    let b : D.layout.hosts ≤ h = grind (arith, nat_tests, e) in
    rw (members-first D base start) (fold-none D.layout.hosts 0 start h (omega (arith, b)))

first_of-hosts : (n start : ℕ) → 0 < n → first_of (hosts_from n 0 start) ≡ Some (0, start)
first_of-hosts zero start e = absurd (omega (arith, e))
first_of-hosts (suc n) start e = refl

-- host 0 initiates
pub initiator-first : (D : Deployment) (base start : ℕ) → is_host D 0 ≡ true → initiator (new_word D base start) ≡ Some (0, start)
initiator-first D base start e = rw (members-first D base start) (first_of-hosts D.layout.hosts start (grind (arith, nat_tests, e)))

-- each host is there with its start, and each start there is a host's
pub first-there : (D : Deployment) (start h : ℕ) → is_host D h ≡ true → list_any (λ m. m.1 == start + h) (hosts_from D.layout.hosts 0 start) ≡ true
first-there D start h e =
    let b : h < D.layout.hosts = grind (arith, nat_tests, e) in
    hosts-there D.layout.hosts 0 start (start + h) (omega arith) (omega (arith, b))

pub first-any : (D : Deployment) (start s : ℕ) → list_any (λ m. m.1 == s) (hosts_from D.layout.hosts 0 start) ≡ true → (h : ℕ) × (is_host D h ≡ true) × (s ≡ start + h)
first-any D start s e = let k = hosts-any D.layout.hosts 0 start s e in (s - start, grind (arith, nat_tests, k.0, k.1), omega (arith, k.0))

-- ---- an epoch begins

-- nothing was said in it but the word of all hosts
abbrev pub new_history : Deployment → Membership → ℕ → History
new_history D w start = record {
  first = w;
  began = λ h. if is_host D h then (start + h) ∷ [] else [];
  said = λ s. if list_any (λ m. m.1 == s) w.first then w ∷ [] else [];
  took = λ s. None;
  decided = w ∷ [];
  admitted = [];
}

-- What is so as it begins: hosts run with new starts, all others are stopped; what agents said is gone, and of starts older ones
-- alone are under way.
pub record EpochBegins (D : Deployment) (base start number next : ℕ) (replies : List LastReply) (agents : ℕ → AgentState) (channel : Actor → Actor → List Letter) (owner : ℕ → ℕ) : Type 0 where
  pub positive : 0 < start
  pub room : start + D.layout.hosts ≤ next
  pub hosts : (h : ℕ) → is_host D h ≡ true → agents h ≡ member_agent (new_word D base start) number replies start h
  pub others : (h : ℕ) → is_host D h ≡ false → agents h ≡ new_agent 0
  pub inert : (h g : ℕ) → channel (Agent h) (Agent g) ≡ []
  pub owned : (h : ℕ) → is_host D h ≡ true → owner (start + h) ≡ h
  pub older : (h : ℕ) → AllByRecursion (λ x. (owner x ≡ h) × (0 < x) × (x < start)) (starts_in (channel Director (Agent h)))
  pub rising : (h : ℕ) → RiseFrom 0 (starts_in (channel Director (Agent h)))

abbrev pub epoch_state : Deployment → ℕ → ℕ → ℕ → (ℕ → AgentState) → (Actor → Actor → List Letter) → (ℕ → ℕ) → State
epoch_state D base start next agents channel owner = record {
  deployment = D;
  next = next;
  agents = agents;
  channel = channel;
  owner = owner;
  history = new_history D (new_word D base start) start;
}

-- ---- choices

falls-one : (c : Bool) (x : Membership) → Falls (if c then x ∷ [] else [])
falls-one true x = (tt, tt)
falls-one false x = tt

initiates-first : (start : ℕ) (i : Option (ℕ × ℕ)) → i ≡ Some (0, start) → is_initiator_in 0 (start + 0) i ≡ true
initiates-first start i e = rw e (grind (arith, nat_tests))

-- ---- what holds as an epoch begins

module _ (D : Deployment) (base start number next : ℕ) (replies : List LastReply) (agents : ℕ → AgentState) (channel : Actor → Actor → List Letter) (owner : ℕ → ℕ)
    (b : EpochBegins D base start number next replies agents channel owner) where
  abbrev T : State
  T = epoch_state D base start next agents channel owner

  abbrev W : Membership
  W = new_word D base start

  abbrev names_first : ℕ → Bool
  names_first s = list_any (λ m. m.1 == s) (hosts_from D.layout.hosts 0 start)

  run-start : (h : ℕ) → is_host D h ≡ true → agent_start T h ≡ start + h
  run-start h e = ap (λ a. a.start) (b.hosts h e)

  rest-start : (h : ℕ) → is_host D h ≡ false → agent_start T h ≡ 0
  rest-start h e = ap (λ a. a.start) (b.others h e)

  host-below : (h : ℕ) → is_host D h ≡ true → start + h < next
  host-below h e = let l : h < D.layout.hosts = grind (arith, nat_tests, e) in omega (arith, b.room, l)

  host-begun : (h : ℕ) → is_host D h ≡ true → Begun T (start + h)
  host-begun h e = record {
    some = omega (arith, b.positive);
    below = host-below h e;
    host = rw (b.owned h e) e;
    began = rw (b.owned h e) (in-one (is_host D h) (start + h) e);
  }

  named-begun : (s : ℕ) → names W s ≡ true → Begun T s
  named-begun s e = let k = first-any D start s (sym (or-false (names_first s)) ∙ e) in rw k.2 (host-begun k.0 k.1)

  word-good : GoodWord T W
  word-good = record {
    base = refl;
    first = refl;
    lost_rises = tt;
    admitted_rises = tt;
    owned = tt;
    lost_gone = λ s e. absurd (cc);
    named_begun = named-begun;
    recorded = λ s e. absurd (cc);
  }

  said-first : (s : ℕ) (v : Membership) → In v (T.history.said s) → (names_first s ≡ true) × (W ≡ v)
  said-first s v i = only-one (names_first s) W v i

  first-one : (r s : ℕ) → names_first r ≡ true → names_first s ≡ true → owner r ≡ owner s → r ≡ s
  first-one r s p q e =
      let j = first-any D start r p in
      let k = first-any D start s q in
      let f : owner (start + j.0) ≡ owner (start + k.0) = rw (← j.2, ← k.2) e in
      let g : j.0 ≡ k.0 = sym (b.owned j.0 j.1) ∙ f ∙ b.owned k.0 k.1 in
      j.2 ∙ ap (λ x. start + x) g ∙ sym k.2

  within-self : Within W W
  within-self = record { lost = λ s e. e; admitted = λ s e. e }

  host-owned : (m : ℕ × ℕ) → HostFrom D.layout.hosts 0 start m → owner m.1 ≡ m.0
  host-owned m k =
      let e : start + m.0 ≡ m.1 = omega (arith, k.2) in
      let i : is_host D m.0 ≡ true = grind (arith, nat_tests, k.1) in
      rw e at (b.owned m.0 i)

  member-said : (h s : ℕ) → start_of W h ≡ Some s → In W (T.history.said s)
  member-said h s e = elim (cases_Bool (is_host D h)) [
    | inl q ↦
        let f : start + h ≡ s = some-one (sym (start_of-first D base start h q) ∙ e) in
        subst (λ x. In W (T.history.said x)) f (in-one (names_first (start + h)) W (first-there D start h q))
    | inr q ↦ let f : None ≡ Some s = sym (start_of-none D base start h q) ∙ e in absurd (cc)
  ]
    where
      some-one : {x y : ℕ} → Some x ≡ Some y → x ≡ y
      some-one e = cc

  none-lost : (s : ℕ) (v : Membership) → W ≡ v → is_in s v.lost ≡ true → ⊥
  none-lost s v e k = let f : false ≡ true = ap (λ w. is_in s w.lost) e ∙ k in absurd (cc)

  history-ok : HistoryOk T
  history-ok = record {
    first_owned = all-mono (λ m. HostFrom D.layout.hosts 0 start m) (λ m. owner m.1 ≡ m.0) host-owned (hosts_from D.layout.hosts 0 start) (hosts-all D.layout.hosts 0 start);
    first_one = first-one;
    first_plain = (refl, refl);
    first_decided = inl refl;
    decided_good = of-only (λ w. GoodWord T w) W word-good;
    said_good = λ s. all-one (GoodWord T) (names_first s) W (λ e. word-good);
    said_names = λ s. all-one (λ w. names w s ≡ true) (names_first s) W (λ e. or-false (names_first s) ∙ e);
    said_falls = λ s. falls-one (names_first s) W;
    knows = λ s w i x k. absurd k;
    one_way = λ r s v w i k e. λ f. none-lost s v (said-first r v i).1 e;
    members_said = of-only (λ w. (h s : ℕ) → start_of w h ≡ Some s → In w (T.history.said s)) W member-said;
    has_member = of-only (λ w. Within w W ⊎ ((h : ℕ) × (s : ℕ) × (start_of w h ≡ Some s))) W (inl within-self);
    chain = λ v w i k. of-only (λ x. Comparable x w) W (of-only (λ y. Comparable W y) W (inl within-self) w k) v i;
    took_ok = λ j w e. absurd (cc);
    admitted_ok = λ x k. absurd k;
    once = λ x y k. absurd k;
    one_each = λ x y k. absurd k;
    nothing_between = λ w i x k. absurd k;
  }

  older-below : (h : ℕ) → AllByRecursion (λ x. (owner x ≡ h) × (0 < x) × (x < next)) (starts_to T h)
  older-below h = all-mono (λ x. (owner x ≡ h) × (0 < x) × (x < start)) (λ x. (owner x ≡ h) × (0 < x) × (x < next)) (λ x k. (k.0, k.1, omega (arith, k.2, b.room))) (starts_to T h) (b.older h)

  older-fresh : (h : ℕ) → AllByRecursion (λ x. In x (T.history.began h) → ⊥) (starts_to T h)
  older-fresh h = all-mono (λ x. (owner x ≡ h) × (0 < x) × (x < start)) (λ x. In x (T.history.began h) → ⊥)
      (λ x k i. absurd (omega (arith, k.2, (only-one (is_host D h) (start + h) x i).1))) (starts_to T h) (b.older h)

  host-ok : (h : ℕ) (c : Bool) → is_host D h ≡ c → HostOk T h
  host-ok h true q = record {
    environment = λ e. absurd (cc);
    running = λ u. rw (run-start h q) (b.owned h q, host-below h q);
    last = λ u. ([], rw (run-start h q) (if-true (is_host D h) ((start + h) ∷ []) [] q));
    began = all-one (λ x. (owner x ≡ h) × (0 < x) × (x < next)) (is_host D h) (start + h) (λ e. (b.owned h q, omega (arith, b.positive), host-below h q));
    distinct = rw (if-true (is_host D h) ((start + h) ∷ []) [] q) ((λ i. i), tt);
    owned = older-below h;
    fresh = older-fresh h;
    rising = b.rising h;
  }
  host-ok h false q = record {
    environment = λ e. rest-start h q;
    running = λ u. absurd (omega (arith, u, rest-start h q));
    last = λ u. absurd (omega (arith, u, rest-start h q));
    began = all-one (λ x. (owner x ≡ h) × (0 < x) × (x < next)) (is_host D h) (start + h) (λ e. absurd (cc));
    distinct = rw (if-false (is_host D h) ((start + h) ∷ []) [] q) tt;
    owned = older-below h;
    fresh = older-fresh h;
    rising = b.rising h;
  }

  begins-or-off : (h : ℕ) → is_host D h ≡ true → IsOff (first_initiating h number replies).phase ⊎ (initiates h (member_agent W number replies start h) (Some W) ≡ true)
  begins-or-off zero q = inr (initiates-first start (initiator W) (initiator-first D base start q))
  begins-or-off (suc h) q = inl tt

  queue-ok : (h : ℕ) → AllByRecursion (QueuedAdmissionOk T h) (first_initiating h number replies).queue
  queue-ok zero = tt
  queue-ok (suc h) = tt

  member-ok : (h : ℕ) → is_host D h ≡ true → AgentOk T h (member_agent W number replies start h)
  member-ok h q =
      let n : names W (start + h) ≡ true = or-false (names_first (start + h)) ∙ (first-there D start h q) in
      record {
        own = record {
          good = word-good;
          member = λ m. ([], if-true (names_first (start + h)) (W ∷ []) [] (first-there D start h q));
          joiner = λ m. absurd (cc);
        };
        alone = λ u e. absurd (cc);
        decided = (inl refl, n);
        taken = tt;
        untaken = λ u e. refl;
        wordless = λ e. refl;
        joins = λ d t. absurd (cc);
        heard = λ k. tt;
        waiting = tt;
        queue = queue-ok h;
        initiates = begins-or-off h q;
      }

  agent-ok : (h : ℕ) (c : Bool) → is_host D h ≡ c → AgentOk T h (agents h)
  agent-ok h true q = subst (λ a. AgentOk T h a) (sym (b.hosts h q)) (member-ok h q)
  agent-ok h false q = subst (λ a. AgentOk T h a) (sym (b.others h q)) (new_agent-known T h)

  channel-ok : (h g : ℕ) → ChannelOk T h g
  channel-ok h g = record {
    letters = subst (λ ls. AllByRecursion (LetterOk T h g) ls) (sym (b.inert h g)) tt;
    ordered = subst (λ ls. InOrder (T.history.began h) ls) (sym (b.inert h g)) tt;
  }

  -- each start that began runs
  none-gone : (o : ℕ) → Gone T o → ⊥
  none-gone o k =
      let i = only-one (is_host D (owner o)) (start + owner o) o k.0.began in
      k.1 (run-start (owner o) i.0 ∙ i.1)

  -- All holds as an epoch begins.
  pub epoch-holds : WordsHold T
  epoch-holds = record {
    some = omega (arith, b.positive, b.room);
    hosts = λ h. host-ok h (is_host D h) refl;
    agents = λ h. agent-ok h (is_host D h) refl;
    channels = channel-ok;
    history = history-ok;
    told = λ x i. absurd i;
    heard = λ g o u k. absurd (none-gone o k);
  }

-- ---- the first epoch, and those that a recovery begins

-- the agents as an epoch begins: hosts run with new starts, the others are as before
abbrev pub epoch_agents : Deployment → ℕ → ℕ → ℕ → List LastReply → (ℕ → AgentState) → ℕ → AgentState
epoch_agents D base start number replies agents h = if is_host D h then member_agent (new_word D base start) number replies start h else agents h

-- the hosts of the starts that are drawn in order from this one on; those before it have their hosts as before
abbrev pub new_owner : ℕ → (ℕ → ℕ) → ℕ → ℕ
new_owner start owner s = if nat_le start s then s - start else owner s

new_owner-new : (start : ℕ) (owner : ℕ → ℕ) (h : ℕ) → new_owner start owner (start + h) ≡ h
new_owner-new start owner h =
    let e : nat_le start (start + h) ≡ true = grind (arith, nat_tests) in
    let f : start + h - start ≡ h = omega arith in
    rw e f

new_owner-old : (start : ℕ) (owner : ℕ → ℕ) (s : ℕ) → s < start → new_owner start owner s ≡ owner s
new_owner-old start owner s l = let e : nat_le start s ≡ false = grind (arith, nat_tests, l) in rw e

-- The first world.
pub boot-holds : (D : Deployment) (base number : ℕ) (replies : List LastReply)
    → WordsHold (epoch_state D base 1 (D.layout.hosts + 1) (epoch_agents D base 1 number replies (λ h. new_agent 0)) (λ a b. []) (new_owner 1 (λ s. 0)))
boot-holds D base number replies =
    epoch-holds D base 1 number (D.layout.hosts + 1) replies (epoch_agents D base 1 number replies (λ h. new_agent 0)) (λ a b. []) (new_owner 1 (λ s. 0)) (record {
      positive = omega arith;
      room = omega arith;
      hosts = λ h e. if-true (is_host D h) (member_agent (new_word D base 1) number replies 1 h) (new_agent 0) e;
      others = λ h e. if-false (is_host D h) (member_agent (new_word D base 1) number replies 1 h) (new_agent 0) e;
      inert = λ h g. refl;
      owned = λ h e. new_owner-new 1 (λ s. 0) h;
      older = λ h. tt;
      rising = λ h. tt;
    })

-- A recovery that works, where agents of others than hosts never ran.
pub recovery-holds : (S : State) (base number : ℕ) (replies : List LastReply) → WordsHold S → ((h : ℕ) → is_host S.deployment h ≡ false → S.agents h ≡ new_agent 0)
    → WordsHold (epoch_state S.deployment base S.next (S.next + S.deployment.layout.hosts) (epoch_agents S.deployment base S.next number replies S.agents)
    (new_channels S.deployment S.next S.channel) (new_owner S.next S.owner))
recovery-holds S base number replies h others =
    let D = S.deployment in
    epoch-holds D base S.next number (S.next + D.layout.hosts) replies (epoch_agents D base S.next number replies S.agents) (new_channels D S.next S.channel) (new_owner S.next S.owner) (record {
      positive = h.some;
      room = omega arith;
      hosts = λ g e. if-true (is_host D g) (member_agent (new_word D base S.next) number replies S.next g) (S.agents g) e;
      others = λ g e. if-false (is_host D g) (member_agent (new_word D base S.next) number replies S.next g) (S.agents g) e ∙ others g e;
      inert = λ f g. refl;
      owned = λ g e. new_owner-new S.next S.owner g;
      older = λ g. subst (λ ls. AllByRecursion (λ x. (new_owner S.next S.owner x ≡ g) × (0 < x) × (x < S.next)) (starts_in ls)) (sym (append-nil (S.channel Director (Agent g))))
          (all-mono (λ x. (S.owner x ≡ g) × (0 < x) × (x < S.next)) (λ x. (new_owner S.next S.owner x ≡ g) × (0 < x) × (x < S.next))
          (λ x k. (new_owner-old S.next S.owner x k.2 ∙ k.0, k.1, k.2)) (starts_to S g) (h.hosts g).owned);
      rising = λ g. subst (λ ls. RiseFrom 0 (starts_in ls)) (sym (append-nil (S.channel Director (Agent g)))) (h.hosts g).rising;
    })
