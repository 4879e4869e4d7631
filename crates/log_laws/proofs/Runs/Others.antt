-- Events that change nothing of sites: those of the director, of clients and scanners, and a recovery that fails.
use Rattle.log_laws.proofs.Names.{◌≡◌, ◌+◌, ◌<◌, Bool, true, false, List, [], ◌∷◌, append-nil, refl, sym, subst, ap, ◌∙◌, ◌==◌, arith, ℕ, Option, Some, None, AllByRecursion, Actor, Director, Client, Agent, Site, Scanner, Item, TimedItem, Database, Deployment, is_host, is_slot_of, host_of_slot, same, Letter, Sends, Turn, no_sends, open_letter, only, new_agent, stops_others, ClientState, Due, submits, submit_to, target, DirectorState, stops_host, asks_recovery, does, does_next, ScannerState, Scan, scan_block, scans, scan_turn, scanner_turn, Environment, NoMemory, World, took, sent, set_at, stop_noted, stamp_of, with_director, with_client, with_scanner, left_contents, stays_stopped, delivered, starts_in, takes-next, state_of, all-append, all-if, all-mono, set-there, starts-if, stops_all-starts, same-true, channel-holds, director-inert-holds, draws-holds, cond_both, LogState, ForeignOk, LogsHold, log_state, AuthoritativeOk, CountedIn, HasLogs, ◌&&◌}
use Rattle.volt_wire.specs.declared.item.Item.TheVariants as item
use Rattle.volt_wire.specs.declared.message.Msg.TheVariants as msg
use Rattle.cluster_model.specs.Client.{Submitted, asks_again, loses, without_agent, client_takes}
use Rattle.cluster_model.specs.Letters.{becomes}
use Rattle.word_laws.specs.Histories as word
use Rattle.log_laws.proofs.Runs.Boots.{NoStart}
use Rattle.log_laws.proofs.Runs.Frames.{Agrees, foreign-plain, frames-holds}

-- ---- what they send

-- an actor that isn't one of those whose messages the law looks at
abbrev Foreign : Actor → Type 0
Foreign (Agent h) = ⊥
Foreign (Site i) = ⊥
Foreign from = Unit {0}

-- none of them sends a start to a site
sent-foreign : (S : LogState) (channel : Actor → Actor → List Letter) (a : Actor) (out : Sends) → Foreign a
    → ((from : Actor) (c : ℕ) → AllByRecursion (ForeignOk S c from) (channel from (Site c)))
    → ((c : ℕ) → AllByRecursion NoStart (out (Site c)))
    → (from : Actor) (c : ℕ) → AllByRecursion (ForeignOk S c from) (sent channel a out from (Site c))
sent-foreign S channel a out far before more from c = cond_both (same a from) _ _ (AllByRecursion (ForeignOk S c from))
    (λ e. all-append (ForeignOk S c from) (channel from (Site c)) (out (Site c)) (before from c)
    (subst (λ x. AllByRecursion (ForeignOk S c x) (out (Site c))) (same-true a from e)
    (all-mono NoStart (ForeignOk S c a) (λ l k. foreign-plain S c a l (apart a far) k) (out (Site c)) (more c))))
    (λ e. before from c)
  where
    apart : (b : Actor) → Foreign b → (h : ℕ) → same b (Agent h) ≡ false
    apart (Agent n) k h = absurd k
    apart (Site i) k h = absurd k
    apart from k h = refl

-- and what one of them took is nothing that sites get
took-foreign : (S : LogState) (channel : Actor → Actor → List Letter) (from to : Actor) → Foreign to
    → ((a : Actor) (c : ℕ) → AllByRecursion (ForeignOk S c a) (channel a (Site c)))
    → (a : Actor) (c : ℕ) → AllByRecursion (ForeignOk S c a) (took channel from to a (Site c))
took-foreign S channel from (Agent n) far before a c = absurd far
took-foreign S channel from (Site i) far before a c = absurd far
took-foreign S channel from to far before a c = before a c

sent-agrees : (channel : Actor → Actor → List Letter) (a : Actor) (out : Sends) → Foreign a → Agrees channel (sent channel a out)
sent-agrees channel (Agent n) out far = absurd far
sent-agrees channel (Site i) out far = absurd far
sent-agrees channel from out far = record { sites = λ i c. refl; told = λ i h. refl; views = λ g c. refl; agreed = λ g h. refl }

took-agrees : (channel : Actor → Actor → List Letter) (from to : Actor) → Foreign to → Agrees channel (took channel from to)
took-agrees channel from (Agent n) far = absurd far
took-agrees channel from (Site i) far = absurd far
took-agrees channel from to far = record { sites = λ i c. refl; told = λ i h. refl; views = λ g c. refl; agreed = λ g h. refl }

agrees-then : (f g h : Actor → Actor → List Letter) → Agrees f g → Agrees g h → Agrees f h
agrees-then f g h p q = record {
  sites = λ i c. q.sites i c ∙ p.sites i c;
  told = λ i n. q.told i n ∙ p.told i n;
  views = λ n c. q.views n c ∙ p.views n c;
  agreed = λ n m. q.agreed n m ∙ p.agreed n m;
}

-- ---- worlds

module _ (w : World) (k : HasLogs w) where
  abbrev S : LogState
  S = log_state w k.owner k.history k.logs

  -- where words are, the same is so of logs
  framed : (next : ℕ) (owner : ℕ → ℕ) (channel : Actor → Actor → List Letter) → Agrees w.channel channel
      → word.WordsHold (record S.words { next = next; channel = channel; owner = owner })
      → ((x : ℕ) → x < S.words.next → owner x ≡ k.owner x)
      → ((from : Actor) (c : ℕ) → AllByRecursion (ForeignOk S c from) (channel from (Site c)))
      → LogsHold (record S { words = record S.words { next = next; channel = channel; owner = owner } })
  framed next owner channel agrees words same_owner foreign =
      frames-holds S next owner channel (λ c. (S.sites c).contents) k.holds agrees words
      (λ x i. same_owner x.start (k.holds.words.history.admitted_ok x i).begun.below) foreign

  -- one of them took a message, and sent these
  foreign-turn : (next : ℕ) (owner : ℕ → ℕ) (channel : Actor → Actor → List Letter) (a : Actor) (out : Sends) → Foreign a
      → Agrees w.channel channel
      → ((from : Actor) (c : ℕ) → AllByRecursion (ForeignOk S c from) (channel from (Site c)))
      → word.WordsHold (record S.words { next = next; channel = sent channel a out; owner = owner })
      → ((x : ℕ) → x < S.words.next → owner x ≡ k.owner x)
      → ((c : ℕ) → AllByRecursion NoStart (out (Site c)))
      → LogsHold (record S { words = record S.words { next = next; channel = sent channel a out; owner = owner } })
  foreign-turn next owner channel a out far agrees before words same_owner none =
      framed next owner (sent channel a out) (agrees-then w.channel channel (sent channel a out) agrees (sent-agrees channel a out far)) words same_owner
      (sent-foreign S channel a out far before none)

-- a later world, with the same histories of words and logs, and the same leads
pub record Keeps (w : World) (k : HasLogs w) (v : World) : Type 0 where
  pub next : HasLogs v
  pub history : next.history ≡ k.history
  pub logs : next.logs ≡ k.logs
  pub authoritative : v.authoritative ≡ w.authoritative

still : (w : World) (k : HasLogs w) → Keeps w k w
still w k = record { next = k; history = refl; logs = refl; authoritative = refl }

-- where the histories stay
pub keeps : (w v : World) (k : HasLogs w) (owner : ℕ → ℕ) → v.authoritative ≡ w.authoritative → CountedIn v → LogsHold (log_state v owner k.history k.logs)
    → ((h : ℕ) → is_host v.deployment h ≡ false → v.agents h ≡ new_agent 0) → Keeps w k v
keeps w v k owner authoritative counted holds strangers = record {
  next = record {
    owner = owner;
    history = k.history;
    logs = k.logs;
    holds = holds;
    strangers = strangers;
    authoritative = λ p. subst (AuthoritativeOk k.logs p) (ap (λ f. f p) (sym authoritative)) (k.authoritative p);
    counted = counted;
  };
  history = refl;
  logs = refl;
  authoritative = authoritative;
}

-- ---- one of them takes a message

-- a client sends no start
asks-none : (stamp n : ℕ) (c : ClientState) (p : Submitted) (o : Option ℕ) (i : ℕ) → AllByRecursion NoStart ((asks_again stamp n c p o).sends (Site i))
asks-none stamp n c p None i = tt
asks-none stamp n c p (Some h) i = tt

loses-none : (D : Deployment) (stamp n : ℕ) (c : ClientState) (p : Option Submitted) (host start i : ℕ) → AllByRecursion NoStart ((loses D stamp n c p host start).sends (Site i))
loses-none D stamp n c None host start i = tt
loses-none D stamp n c (Some p) host start i =
    cond_both (p.host == host && p.start == start) (asks_again stamp n c p (target D c)) (becomes c) (λ t. AllByRecursion NoStart (t.sends (Site i)))
    (λ e. asks-none stamp n c p (target D c) i) (λ e. tt)

takes-none : (D : Deployment) (stamp n : ℕ) (c : ClientState) (from : Actor) (l : Letter) (i : ℕ) → AllByRecursion NoStart ((client_takes D stamp n c from l).sends (Site i))
takes-none D stamp n c (Agent h) l i = elim l.body as (λ m. AllByRecursion NoStart ((client_takes D stamp n c (Agent h) (record l { body = m })).sends (Site i))) [
  | msg.Closed start ↦ loses-none D stamp n (record c { known = without_agent c.known h start }) c.pending h start i
  | m ↦ tt
]
takes-none D stamp n c Director l i = tt
takes-none D stamp n c (Client g) l i = tt
takes-none D stamp n c (Site g) l i = tt
takes-none D stamp n c (Scanner g) l i = tt

-- a client takes it
pub to_client-logs : (E : Database) (w : World) (n : ℕ) (from : Actor) (ls : List Letter) (o : Environment) → (k : HasLogs w) → Keeps w k (delivered E w (Client n) from ls o)
to_client-logs E w n from [] o k = still w k
to_client-logs E w n from (l ∷ ls) o k =
    let S = log_state w k.owner k.history k.logs in
    let v = delivered E w (Client n) from (l ∷ ls) o in
    keeps w v k k.owner refl k.counted
    (foreign-turn w k S.words.next k.owner (took w.channel from (Client n)) (Client n) (client_takes w.deployment (stamp_of w) n (w.clients n) from l).sends tt (took-agrees w.channel from (Client n) tt)
    (took-foreign S w.channel from (Client n) tt k.holds.foreign)
    (channel-holds S.words v.channel (λ h g. refl) (λ h. refl) k.holds.words) (λ x l. refl) (takes-none w.deployment (stamp_of w) n (w.clients n) from l))
    k.strangers

-- so does the director
pub to_director-logs : (E : Database) (w : World) (from : Actor) (ls : List Letter) (o : Environment) → (k : HasLogs w) → Keeps w k (delivered E w Director from ls o)
to_director-logs E w from [] o k = still w k
to_director-logs E w from (l ∷ ls) o k =
    let S = log_state w k.owner k.history k.logs in
    let v = delivered E w Director from (l ∷ ls) o in
    keeps w v k k.owner refl k.counted
    (subst (λ n. LogsHold (record S { words = record S.words { next = n; channel = v.channel } })) (takes-next w.director from l)
    (foreign-turn w k S.words.next k.owner (took w.channel from Director) Director no_sends tt (took-agrees w.channel from Director tt)
    (took-foreign S w.channel from Director tt k.holds.foreign)
    (channel-holds S.words v.channel (λ h g. refl) (λ h. ap starts_in (append-nil (w.channel Director (Agent h)))) k.holds.words) (λ x l. refl) (λ c. tt)))
    k.strangers

-- A scanner sends no start.
stops-none : (D : Deployment) (h start c : ℕ) → AllByRecursion NoStart (stops_others D h start (Site c))
stops-none D h start c = all-if NoStart (is_slot_of D h c) (open_letter (msg.Stop start) ∷ []) [] (tt, tt) tt

only-none : (to : Actor) (l : Letter) (b : Actor) → NoStart l → AllByRecursion NoStart (only to l b)
only-none to l b k = all-if NoStart (same to b) (l ∷ []) [] (k, tt) tt

scanner_turn-none : (D : Deployment) (i : ℕ) (x : ScannerState) (from : Actor) (l : Letter) (o : Environment) (c : ℕ)
    → AllByRecursion NoStart ((scanner_turn D i x from l o).sends (Site c))
scanner_turn-none D i x from l (NoMemory answered) c = stops-none D (host_of_slot D i) _ c
scanner_turn-none D i x from l y c = tt

scans-none : (i : ℕ) (x : ScannerState) (s : Option Scan) (c : ℕ) → AllByRecursion NoStart ((scans i x s).sends (Site c))
scans-none i x None c = tt
scans-none i x (Some s) c = block s.left
  where
    block : (left : List (List ℕ)) → AllByRecursion NoStart ((scan_block i x s left).sends (Site c))
    block [] = only-none (Site i) _ (Site c) tt
    block (b ∷ left) = only-none s.target _ (Site c) tt

scan_turn-none : (D : Deployment) (i : ℕ) (x : ScannerState) (o : Environment) (c : ℕ) → AllByRecursion NoStart ((scan_turn D i x o).sends (Site c))
scan_turn-none D i x (NoMemory answered) c = stops-none D (host_of_slot D i) _ c
scan_turn-none D i x y c = scans-none i x x.scan c

pub to_scanner-logs : (E : Database) (w : World) (i : ℕ) (from : Actor) (ls : List Letter) (o : Environment) → (k : HasLogs w) → Keeps w k (delivered E w (Scanner i) from ls o)
to_scanner-logs E w i from [] o k = still w k
to_scanner-logs E w i from (l ∷ ls) o k =
    let S = log_state w k.owner k.history k.logs in
    let v = delivered E w (Scanner i) from (l ∷ ls) o in
    let t = scanner_turn w.deployment i (w.scanners i) from l o in
    keeps w v k k.owner refl k.counted
    (foreign-turn w k S.words.next k.owner (took w.channel from (Scanner i)) (Scanner i) t.sends tt (took-agrees w.channel from (Scanner i) tt)
    (took-foreign S w.channel from (Scanner i) tt k.holds.foreign)
    (channel-holds S.words v.channel (λ h g. refl) (λ h. refl) k.holds.words) (λ x l. refl) (scanner_turn-none w.deployment i (w.scanners i) from l o))
    k.strangers

-- ---- what they do of themselves

-- an event of one of them, in which it sends no start to a site
of-itself : (w v : World) (k : HasLogs w) (a : Actor) (out : Sends) → Foreign a
    → word.WordsHold (record (state_of w k.owner k.history) { channel = sent w.channel a out })
    → ((c : ℕ) → AllByRecursion NoStart (out (Site c)))
    → LogsHold (record (log_state w k.owner k.history k.logs) { words = record (state_of w k.owner k.history) { channel = sent w.channel a out } })
of-itself w v k a out far words none =
    let S = log_state w k.owner k.history k.logs in
    foreign-turn w k S.words.next k.owner w.channel a out far (record { sites = λ i c. refl; told = λ i h. refl; views = λ g c. refl; agreed = λ g h. refl })
    k.holds.foreign words (λ x l. refl) none

pub scan-logs : (w : World) (i : ℕ) (o : Environment) → (k : HasLogs w) → Keeps w k (with_scanner (stop_noted w (Scanner i) o) i (scan_turn w.deployment i (w.scanners i) o))
scan-logs w i o k =
    let v = with_scanner (stop_noted w (Scanner i) o) i (scan_turn w.deployment i (w.scanners i) o) in
    let out = (scan_turn w.deployment i (w.scanners i) o).sends in
    keeps w v k k.owner refl k.counted
    (of-itself w v k (Scanner i) out tt (channel-holds (state_of w k.owner k.history) v.channel (λ h g. refl) (λ h. refl) k.holds.words)
    (scan_turn-none w.deployment i (w.scanners i) o))
    k.strangers

submits-none : (D : Deployment) (stamp : ℕ) (c : ClientState) (left : List Due) (n : ℕ) → AllByRecursion NoStart ((submits D stamp c left).sends (Site n))
submits-none D stamp c [] n = tt
submits-none D stamp c (due ∷ left) n = goes (target D c)
  where
    goes : (o : Option ℕ) → AllByRecursion NoStart ((submit_to stamp c due left o).sends (Site n))
    goes None = tt
    goes (Some h) = tt

pub submit-logs : (w : World) (n : ℕ) → (k : HasLogs w) → Keeps w k (with_client w n (submits w.deployment (stamp_of w) (w.clients n) (w.clients n).left))
submit-logs w n k =
    let t = submits w.deployment (stamp_of w) (w.clients n) (w.clients n).left in
    let v = with_client w n t in
    keeps w v k k.owner refl k.counted
    (of-itself w v k (Client n) t.sends tt (channel-holds (state_of w k.owner k.history) v.channel (λ h g. refl) (λ h. refl) k.holds.words)
    (submits-none w.deployment (stamp_of w) (w.clients n) (w.clients n).left))
    k.strangers

-- ---- the director does an item

stops_host-none : (D : Deployment) (last : ℕ → ℕ) (h c : ℕ) → AllByRecursion NoStart (stops_host D last h (Site c))
stops_host-none D last h c = all-if NoStart (is_slot_of D h c) (open_letter (msg.Stop (last h)) ∷ []) [] (tt, tt) tt

-- one in which no start is drawn
plain-item : (w : World) (t : Turn DirectorState) (k : HasLogs w) → w.director.next_start ≡ t.state.next_start → ((g : ℕ) → starts_in (t.sends (Agent g)) ≡ [])
    → ((c : ℕ) → AllByRecursion NoStart (t.sends (Site c))) → Keeps w k (with_director w t)
plain-item w t k same none inert =
    let S = log_state w k.owner k.history k.logs in
    keeps w (with_director w t) k k.owner refl k.counted
    (subst (λ n. LogsHold (record S { words = record S.words { next = n; channel = sent w.channel Director t.sends } })) same
    (of-itself w (with_director w t) k Director t.sends tt (director-inert-holds S.words t.sends k.holds.words none) inert))
    k.strangers

-- one in which a start is drawn for a host
draws-item : (w : World) (left : List TimedItem) (host : ℕ) → (k : HasLogs w) → Keeps w k (with_director w (does w.deployment (record w.director { items = left }) (item.Rejoin host)))
draws-item w left host k =
    let S = log_state w k.owner k.history k.logs in
    let t = does w.deployment (record w.director { items = left }) (item.Rejoin host) in
    keeps w (with_director w t) k (set_at k.owner w.director.next_start host) refl k.counted
    (foreign-turn w k (S.words.next + 1) (set_at k.owner w.director.next_start host) w.channel Director t.sends tt
    (record { sites = λ i c. refl; told = λ i h. refl; views = λ g c. refl; agreed = λ g h. refl }) k.holds.foreign
    (draws-holds S.words host k.holds.words)
    (λ x l. set-there k.owner S.words.next host x (λ e. omega (arith, e, l)))
    (λ c. tt))
    k.strangers

item-logs : (w : World) (left : List TimedItem) (i : Item) → (k : HasLogs w) → Keeps w k (with_director w (does w.deployment (record w.director { items = left }) i))
item-logs w left (item.Lose host) k = plain-item w (does w.deployment (record w.director { items = left }) (item.Lose host)) k refl
    (λ g. starts-if (g == host) (open_letter (msg.Stop (w.director.last_start host)) ∷ []) refl) (stops_host-none w.deployment w.director.last_start host)
item-logs w left (item.Rejoin host) k = draws-item w left host k
item-logs w left item.Snapshot k = plain-item w (does w.deployment (record w.director { items = left }) item.Snapshot) k refl
    (λ g. starts-if (is_host w.deployment g) (open_letter msg.Snap ∷ []) refl) (λ c. tt)
item-logs w left (item.Power slot call choice) k = plain-item w (does w.deployment (record w.director { items = left }) (item.Power slot call choice)) k refl (λ g. refl)
    (λ c. only-none (Site slot) (open_letter (msg.Power call choice)) (Site c) tt)
item-logs w left (item.Look slot) k = plain-item w (does w.deployment (record w.director { items = left }) (item.Look slot)) k refl (λ g. refl)
    (λ c. only-none (Site slot) (open_letter msg.Look) (Site c) tt)
item-logs w left item.Halt k = plain-item w (does w.deployment (record w.director { items = left }) item.Halt) k refl
    (λ g. stops_all-starts w.deployment w.director.last_start g) (λ c. stops_host-none w.deployment w.director.last_start (host_of_slot w.deployment c) c)
item-logs w left item.Recover k = plain-item w (does w.deployment (record w.director { items = left }) item.Recover) k refl
    (λ g. stops_all-starts w.deployment w.director.last_start g) (λ c. stops_host-none w.deployment w.director.last_start (host_of_slot w.deployment c) c)
item-logs w left item.Quiet k = plain-item w (does w.deployment (record w.director { items = left }) item.Quiet) k refl (λ g. refl) (λ c. tt)

implied : (w : World) (may : Bool) (items : List TimedItem) (k : HasLogs w)
    → does_next w.deployment may w.director items ≡ asks_recovery w.deployment true w.director → Keeps w k (with_director w (does_next w.deployment may w.director items))
implied w may items k e = subst (λ t. Keeps w k (with_director w t)) (sym e)
    (plain-item w (asks_recovery w.deployment true w.director) k refl
    (λ g. stops_all-starts w.deployment w.director.last_start g) (λ c. stops_host-none w.deployment w.director.last_start (host_of_slot w.deployment c) c))

pub next-logs : (w : World) (may : Bool) (items : List TimedItem) → (k : HasLogs w) → Keeps w k (with_director w (does_next w.deployment may w.director items))
next-logs w true (next ∷ left) k = item-logs w left next.item k
next-logs w true [] k = implied w true [] k refl
next-logs w false items k = implied w false items k refl

-- ---- a recovery that fails

pub stopped-logs : (E : Database) (w : World) (shown : List ℕ) (failed : ℕ × Bool) → (k : HasLogs w) → Keeps w k (stays_stopped E w shown failed)
stopped-logs E w shown failed k =
    let S = log_state w k.owner k.history k.logs in
    keeps w (stays_stopped E w shown failed) k k.owner refl k.counted
    (frames-holds S S.words.next k.owner w.channel (left_contents E w shown failed) k.holds
    (record { sites = λ i c. refl; told = λ i h. refl; views = λ g c. refl; agreed = λ g h. refl })
    k.holds.words (λ x i. refl) k.holds.foreign)
    k.strangers
