-- Where the last replies of a log come from, and what holds of each of several last replies.
use Rattle.cluster_model.specs.Initiator.{replies_told}
use Rattle.cluster_model.specs.Log.{applied_by}
use Rattle.cluster_model.specs.Replies.{known_by, last_reply_to, replied, replied_by, with_replies, with_reply}
use Rattle.reply_laws.proofs.LastReplies.{last-replies-rise, last-reply-at}
use Rattle.reply_laws.specs.LastReplies.{reply_at}
use Rattle.transaction_laws.proofs.Names.{Aborted, AllByRecursion, AnswersCall, Bool, Database, Done, Dropped, End, Entry, EntryAsked, Frag, Heard, In, IsAnswered, IsAsked, IsNew, IsOnOne, IsPast, Job, Kept, LastReply, List, None, Option, Outcome, OutcomeOf, RiseFrom, RunCall, Snapshot, Some, Sp, Submissions, TakeSnapshot, [], all-at, all-from, ap, arith, cond_both, end_of_reply, eqb-same, eqb-true, false, greatest_replies, if-false, if-true, if◌then◌else◌, in-right, inl, inr, known_of, last_replies, map, nat_lt, nat_tests, none-and-some, outcome_of, point_in, refl, same-some, subst, suc, sym, true, zero, ℕ, ◌++◌, ◌+◌, ◌<◌, ◌==◌, ◌∙◌, ◌∷◌, ◌≡◌, ◌≤◌, ◌⊎◌}

-- ---- of each of them

module _ (P : LastReply → Type 0) where
  -- one more
  pub all-reply : (r : LastReply) → P r → (replies : List LastReply) → AllByRecursion P replies → AllByRecursion P (with_reply r replies)
  all-reply r k [] h = (k, tt)
  all-reply r k (x ∷ xs) h = cond_both (r.client == x.client) _ _ (AllByRecursion P)
      (λ _. cond_both (nat_lt x.call r.call) _ _ (AllByRecursion P) (λ _. (k, h.1)) (λ _. h))
      (λ _. cond_both (nat_lt r.client x.client) _ _ (AllByRecursion P) (λ _. (k, h)) (λ _. (h.0, all-reply r k xs h.1)))

  pub all-replies : (rs replies : List LastReply) → AllByRecursion P rs → AllByRecursion P replies → AllByRecursion P (with_replies rs replies)
  all-replies [] replies h k = k
  all-replies (r ∷ rs) replies h k = all-replies rs (with_reply r replies) h.1 (all-reply r h.0 replies k)

  pub each-told : (told : List Heard) → AllByRecursion (λ t. AllByRecursion P t.replies) told → (replies : List LastReply) → AllByRecursion P replies → AllByRecursion P (replies_told told replies)
  each-told [] h replies k = k
  each-told (t ∷ ts) h replies k = each-told ts h.1 (with_replies t.replies replies) (all-replies t.replies replies h.0 k)

  all-replied : (client call : ℕ) (reply : List ℕ) → P (record { client = client; call = call; reply = reply }) → (replies : List LastReply) → AllByRecursion P replies
      → AllByRecursion P (replied client call reply replies)
  all-replied client call reply k replies h = cond_both (client == 0) _ _ (AllByRecursion P) (λ _. h) (λ _. all-reply (record { client = client; call = call; reply = reply }) k replies h)

  -- with the reply of an outcome
  pub all-decided : (o : Outcome) → ((r : LastReply) → AnswersCall o r.call (end_of_reply r.reply) → P r) → (replies : List LastReply) → AllByRecursion P replies → AllByRecursion P (replied_by o replies)
  all-decided (Kept call client point reply) k replies h = all-replied client call reply (k (record { client = client; call = call; reply = reply }) (refl, refl)) replies h
  all-decided (Aborted call client point reply) k replies h = all-replied client call reply (k (record { client = client; call = call; reply = reply }) (refl, refl)) replies h
  all-decided Dropped k replies h = h
  all-decided Snapshot k replies h = h

  -- the last one to a client is among them
  pub all-last : (client : ℕ) (replies : List LastReply) → AllByRecursion P replies → (r : LastReply) → last_reply_to client replies ≡ Some r → P r
  all-last client [] h r is = absurd (none-and-some refl is)
  all-last client (x ∷ xs) h r is = choice (x.client == client) is (λ q. all-last client xs h.1 r q)
    where
      choice : (b : Bool) → (if b then Some x else last_reply_to client xs) ≡ Some r → (last_reply_to client xs ≡ Some r → P r) → P r
      choice true q later = subst P (same-some q) h.0
      choice false q later = later q

-- ---- the last replies of a log

-- Each of them is the last one to its client.
in-last : (low : ℕ) (replies : List LastReply) → RiseFrom low (map (λ x. x.client) replies) → (r : LastReply) → In r replies → (last_reply_to r.client replies ≡ Some r) × (low ≤ r.client)
in-last low [] rise r i = absurd i
in-last low (x ∷ xs) rise r (inl e) = (
  subst (λ y. last_reply_to y.client (x ∷ xs) ≡ Some y) e (if-true (x.client == x.client) (Some x) (last_reply_to x.client xs) (eqb-same x.client)),
  subst (λ y. low ≤ y.client) e rise.0,
)
in-last low (x ∷ xs) rise r (inr i) =
    let k = in-last (x.client + 1) xs rise.1 r i in
    let above = k.1 in
    let first = rise.0 in (
      if-false (x.client == r.client) (Some x) (last_reply_to r.client xs) (grind (arith, nat_tests, above)) ∙ k.0,
      omega (arith, above, first),
    )

-- Such a reply is to a call on one partition, or that of an end in the log.
abbrev pub InLog : Submissions → List Entry → LastReply → Type 0
InLog A log r = IsOnOne A r.call ⊎ ((m : ℕ) × (o : Outcome) × In (Done m o) log × AnswersCall o r.call (end_of_reply r.reply))

one-same : {X : Type 0} {x y : X} → x ∷ [] ≡ y ∷ [] → x ≡ y
one-same q = cc

module _ (E : Database) (A : Submissions) (p : ℕ) (log : List Entry) (asked : AllByRecursion (EntryAsked A p) log) where
  -- of the entry of which it is the reply
  entry-reply : (r : LastReply) (before : List Entry) (e : Entry) (point : ℕ) → In e log → applied_by e ≡ record { call = r.call; point = point } ∷ [] → r.reply ≡ reply_at E p before e → InLog A log r
  entry-reply r before (Sp call client at body) point i is reply =
      let k = all-at (EntryAsked A p) log asked (Sp call client at body) i in
      inl (_, p, sym (ap (λ a. A a.call) (one-same is)) ∙ k.is, refl)
  entry-reply r before (Frag m round body) point i is reply = absurd (cc)
  entry-reply r before (Done m Dropped) point i is reply = absurd (cc)
  entry-reply r before (Done m Snapshot) point i is reply = absurd (cc)
  entry-reply r before (Done m (Kept call client at bytes)) point i is reply =
      inr (m, Kept call client at bytes, i, (ap (λ a. a.call) (one-same is), ap end_of_reply reply))
  entry-reply r before (Done m (Aborted call client at bytes)) point i is reply =
      inr (m, Aborted call client at bytes, i, (ap (λ a. a.call) (one-same is), ap end_of_reply reply))

  reply-in-log : (r : LastReply) → In r (last_replies E p log) → InLog A log r
  reply-in-log r i =
      let k = last-reply-at E p r.client log r (in-last 1 (last_replies E p log) (last-replies-rise E p log) r i).0 in
      entry-reply r k.before k.entry k.point (subst (In k.entry) (sym k.splits) (in-right k.entry k.before (k.entry ∷ k.behind) (inl refl))) k.applies k.reply_is

  -- so is each of them
  pub replies-in-log : AllByRecursion (InLog A log) (last_replies E p log)
  replies-in-log = all-from (InLog A log) (last_replies E p log) reply-in-log

-- the last replies of several logs
pub greatest-in-logs : (E : Database) (P : LastReply → Type 0) (logs : ℕ → List Entry) (n : ℕ) → ((p : ℕ) → p < n → AllByRecursion P (last_replies E p (logs p))) → AllByRecursion P (greatest_replies E logs n)
greatest-in-logs E P logs zero h = tt
greatest-in-logs E P logs (suc n) h = all-replies P (last_replies E n (logs n)) (greatest_replies E logs n) (h n (omega arith)) (greatest-in-logs E P logs n (λ p l. h p (omega (arith, l))))

-- ---- places

-- what stands before an entry of a log, and behind it
pub in-at : (e : Entry) (xs : List Entry) → In e xs → (before : List Entry) × (behind : List Entry) × (xs ≡ before ++ e ∷ behind)
in-at e [] i = absurd i
in-at e (x ∷ xs) (inl is) = ([], xs, ap (λ y. y ∷ xs) is)
in-at e (x ∷ xs) (inr i) = let (before, behind, is) = in-at e xs i in (x ∷ before, behind, ap (λ ys. x ∷ ys) is)

-- ---- jobs

-- What a job's end answers is the answer to its call.
pub outcome-of : (keep : Bool) (job : Job) (stamp : ℕ) (reply : List ℕ) → OutcomeOf job (outcome_of keep job stamp reply)
outcome-of true (RunCall call client host start body) stamp reply = λ e is. (refl, sym (same-some is))
outcome-of false (RunCall call client host start body) stamp reply = λ e is. (refl, sym (same-some is))
outcome-of keep TakeSnapshot stamp reply = tt

-- An outcome that answers a call has a point.
pub answer-point : (o : Outcome) (call : ℕ) (e : End) → AnswersCall o call e → (x : ℕ) × (point_in (Some o) ≡ Some x)
answer-point (Kept n client point reply) call e k = (point, refl)
answer-point (Aborted n client point reply) call e k = (point, refl)
answer-point Dropped call e k = absurd k
answer-point Snapshot call e k = absurd k

-- A call that is known to be answered so: by the last reply to its client.
known-is : (call : ℕ) (o : Option LastReply) (e : End) → known_by call o ≡ IsAnswered e → (r : LastReply) × (o ≡ Some r) × (r.call ≡ call) × (end_of_reply r.reply ≡ e)
known-is call None e is = absurd (cc)
known-is call (Some r) e is = go (nat_lt r.call call) (r.call == call) refl is
  where
    go : (less same : Bool) → (r.call == call) ≡ same → (if less then IsNew else if same then IsAnswered (end_of_reply r.reply) else IsPast) ≡ IsAnswered e
        → (q : LastReply) × (Some r ≡ Some q) × (q.call ≡ call) × (end_of_reply q.reply ≡ e)
    go true same at q = absurd (cc)
    go false true at q = (r, refl, eqb-true r.call call at, cc)
    go false false at q = absurd (cc)

-- A job of which this holds of each last reply: the one by which its call is answered is of its call.
pub job-known : (P : LastReply → Type 0) (replies : List LastReply) → AllByRecursion P replies → (call client host start : ℕ) (body : List ℕ) (e : End)
    → known_of (RunCall call client host start body) replies ≡ IsAnswered e → (r : LastReply) × P r × (r.call ≡ call) × (end_of_reply r.reply ≡ e)
job-known P replies h call client host start body e is =
    let k = known-is call (last_reply_to client replies) e is in
    (k.0, all-last P client replies h k.0 k.1, k.2, k.3)

-- A call on all partitions is none on one.
pub not-on-one : (A : Submissions) (call client : ℕ) (body : List ℕ) → IsAsked A call client None body → IsOnOne A call → ⊥
not-on-one A call client body k (s, p, is, one) = none-and-some (sym (ap (λ z. z.part) (same-some (sym k.is ∙ is)))) one
