-- What an initiator knows by last replies: it covers more and more calls.
use Rattle.cluster_model.specs.Laws.{RiseFrom}
use Rattle.cluster_model.specs.Replies.{last_reply_to, replied, replied_by, with_replies, with_reply}
use Rattle.cluster_model.specs.Initiator.{outcome_of, replies_told}
use Rattle.reply_laws.proofs.LastReplies.{greater_of, last-replies-rise, last-reply-above, reply-others, reply-own, reply-rises}
use Rattle.call_laws.specs.Submissions.{IsAsked, JobAsked, Submission, Submissions}
use Rattle.transaction_laws.specs.Calls.{AllBefore, CallsOk, Covered, EntryAsked, OutcomeAsked, RepliesRise, call_of, calls_of}
use Rattle.transaction_laws.proofs.Entries.Calls.{call-entry, in-client, kinds-apart, known-new}
use Rattle.transaction_laws.proofs.Names.{Aborted, AllByRecursion, Bool, Database, Done, Dropped, Entry, Frag, Heard, In, IsCall, IsNew, Job, Kept, LastReply, List, None, Option, Outcome, RunCall, Snapshot, Some, Sp, TakeSnapshot, [], all-at, ap, arith, cases_Bool, cases_eq, greatest_replies, suc, zero, eqb-true, false, if-false, if◌then◌else◌, inl, inr, known_of, last_replies, map, nat_lt, nat_tests, none-and-some, refl, same-some, subst, sym, true, ℕ, ◌+◌, ◌<◌, ◌==◌, ◌∙◌, ◌∷◌, ◌≡◌, ◌≤◌}

-- The last reply to a client is of this call or a later one.
abbrev pub AtLeastTo : List LastReply → ℕ → ℕ → Type 0
AtLeastTo replies client call = (r : LastReply) × (last_reply_to client replies ≡ Some r) × (call ≤ r.call)

greater-keeps : (o : Option LastReply) (r x : LastReply) → o ≡ Some x → (x.call ≤ (greater_of o r).call) × (r.call ≤ (greater_of o r).call)
greater-keeps None r x e = absurd (none-and-some refl e)
greater-keeps (Some y) r x e = subst (λ z. (z.call ≤ (greater_of (Some y) r).call) × (r.call ≤ (greater_of (Some y) r).call)) (same-some e) (choice (nat_lt y.call r.call) refl)
  where
    choice : (b : Bool) → nat_lt y.call r.call ≡ b → (y.call ≤ (if b then r else y).call) × (r.call ≤ (if b then r else y).call)
    choice true e = (grind (arith, nat_tests, e), omega arith)
    choice false e = (omega arith, grind (arith, nat_tests, e))

greater-own : (o : Option LastReply) (r : LastReply) → r.call ≤ (greater_of o r).call
greater-own None r = omega arith
greater-own (Some y) r = (greater-keeps (Some y) r y refl).1

-- one reply more
reply-keeps : (r : LastReply) (replies : List LastReply) → RepliesRise replies → (client call : ℕ) → AtLeastTo replies client call → AtLeastTo (with_reply r replies) client call
reply-keeps r replies rise client call (x, is, l) = elim (cases_Bool (r.client == client)) [
  | inr other ↦ (x, reply-others r client other replies ∙ is, l)
  | inl same ↦
      let e = eqb-true r.client client same in
      subst (λ c. AtLeastTo (with_reply r replies) c call) e (
        greater_of (last_reply_to r.client replies) r,
        reply-own r 1 replies rise,
        let k = (greater-keeps (last_reply_to r.client replies) r x (ap (λ c. last_reply_to c replies) e ∙ is)).0 in omega (arith, l, k),
      )
]

reply-own-least : (r : LastReply) (replies : List LastReply) → RepliesRise replies → AtLeastTo (with_reply r replies) r.client r.call
reply-own-least r replies rise = (greater_of (last_reply_to r.client replies) r, reply-own r 1 replies rise, greater-own (last_reply_to r.client replies) r)

-- ---- outcomes

-- what covers more calls covers all that was covered
pub covered-on : (xs ys : List LastReply) → ((client call : ℕ) → AtLeastTo xs client call → AtLeastTo ys client call) → (o : Outcome) → Covered xs o → Covered ys o
covered-on xs ys f (Kept call client point reply) k = f client call k
covered-on xs ys f (Aborted call client point reply) k = f client call k
covered-on xs ys f Dropped k = tt
covered-on xs ys f Snapshot k = tt

replied-keeps : (client call : ℕ) (reply : List ℕ) (replies : List LastReply) → RepliesRise replies
    → RepliesRise (replied client call reply replies) × ((c n : ℕ) → AtLeastTo replies c n → AtLeastTo (replied client call reply replies) c n)
replied-keeps client call reply replies rise = choice (client == 0) refl
  where
    r : LastReply
    r = record { client = client; call = call; reply = reply }

    choice : (b : Bool) → (client == 0) ≡ b → RepliesRise (if b then replies else with_reply r replies)
        × ((c n : ℕ) → AtLeastTo replies c n → AtLeastTo (if b then replies else with_reply r replies) c n)
    choice true e = (rise, λ c n k. k)
    choice false e = (reply-rises r 1 replies (grind (arith, nat_tests, e)) rise, λ c n k. reply-keeps r replies rise c n k)

-- The own decision keeps all that was covered,
pub decision-keeps : (o : Outcome) (replies : List LastReply) → RepliesRise replies
    → RepliesRise (replied_by o replies) × ((c n : ℕ) → AtLeastTo replies c n → AtLeastTo (replied_by o replies) c n)
decision-keeps (Kept call client point reply) replies rise = replied-keeps client call reply replies rise
decision-keeps (Aborted call client point reply) replies rise = replied-keeps client call reply replies rise
decision-keeps Dropped replies rise = (rise, λ c n k. k)
decision-keeps Snapshot replies rise = (rise, λ c n k. k)

replied-least : (client call : ℕ) (reply : List ℕ) (replies : List LastReply) → RepliesRise replies → 0 < client → AtLeastTo (replied client call reply replies) client call
replied-least client call reply replies rise some =
    let r : LastReply = record { client = client; call = call; reply = reply } in
    subst (λ ws. AtLeastTo ws client call) (sym (if-false (client == 0) replies (with_reply r replies) (grind (arith, nat_tests, some)))) (reply-own-least r replies rise)

-- and is covered.
pub decision-covered : (A : Submissions) (stamp : ℕ) → AllBefore A stamp → (o : Outcome) → OutcomeAsked A o → (replies : List LastReply) → RepliesRise replies → Covered (replied_by o replies) o
decision-covered A stamp h (Kept call client point reply) k replies rise = replied-least client call reply replies rise (h call _ k.1.is).0
decision-covered A stamp h (Aborted call client point reply) k replies rise = replied-least client call reply replies rise (h call _ k.1.is).0
decision-covered A stamp h Dropped k replies rise = tt
decision-covered A stamp h Snapshot k replies rise = tt

-- ---- what all partitions told

-- last replies of a partition, from client 1 on
with_replies-keeps : (rs : List LastReply) (low : ℕ) → 0 < low → RiseFrom low (map (λ x. x.client) rs) → (replies : List LastReply) → RepliesRise replies
    → RepliesRise (with_replies rs replies) × ((c n : ℕ) → AtLeastTo replies c n → AtLeastTo (with_replies rs replies) c n)
with_replies-keeps [] low some h replies rise = (rise, λ c n k. k)
with_replies-keeps (r ∷ rs) low some h replies rise =
    let first = h.0 in
    let k = with_replies-keeps rs (r.client + 1) (omega arith) h.1 (with_reply r replies) (reply-rises r 1 replies (omega (arith, some, first)) rise) in
    (k.0, λ c n a. k.1 c n (reply-keeps r replies rise c n a))

with_replies-least : (rs : List LastReply) (low : ℕ) → 0 < low → RiseFrom low (map (λ x. x.client) rs) → (replies : List LastReply) → RepliesRise replies → (client call : ℕ)
    → AtLeastTo rs client call → AtLeastTo (with_replies rs replies) client call
with_replies-least [] low some h replies rise client call (x, is, l) = absurd (none-and-some refl is)
with_replies-least (r ∷ rs) low some h replies rise client call (x, is, l) =
    choice (r.client == client) refl is (λ q. with_replies-least rs (r.client + 1) (omega arith) h.1 (with_reply r replies) more client call (x, q, l))
  where
    more : RepliesRise (with_reply r replies)
    more = let first = h.0 in reply-rises r 1 replies (omega (arith, some, first)) rise

    choice : (b : Bool) → (r.client == client) ≡ b → (if b then Some r else last_reply_to client rs) ≡ Some x
        → (last_reply_to client rs ≡ Some x → AtLeastTo (with_replies rs (with_reply r replies)) client call) → AtLeastTo (with_replies (r ∷ rs) replies) client call
    choice true e q f =
        let same = same-some q in
        let at : AtLeastTo (with_reply r replies) client call = subst (λ c. AtLeastTo (with_reply r replies) c call) (eqb-true r.client client e)
        (let k = reply-own-least r replies rise in (k.0, k.1, (let a = k.2 in let b = ap (λ z. z.call) same in omega (arith, a, b, l)))) in
        (with_replies-keeps rs (r.client + 1) (omega arith) h.1 (with_reply r replies) more).1 client call at
    choice false e q f = f q

-- of all that told
pub told-keeps : (told : List Heard) → AllByRecursion (λ t. RepliesRise t.replies) told → (replies : List LastReply) → RepliesRise replies
    → RepliesRise (replies_told told replies) × ((c n : ℕ) → AtLeastTo replies c n → AtLeastTo (replies_told told replies) c n)
told-keeps [] h replies rise = (rise, λ c n k. k)
told-keeps (t ∷ ts) h replies rise =
    let a = with_replies-keeps t.replies 1 (omega arith) h.0 replies rise in
    let b = told-keeps ts h.1 (with_replies t.replies replies) a.0 in
    (b.0, λ c n k. b.1 c n (a.1 c n k))

pub told-least : (told : List Heard) → AllByRecursion (λ t. RepliesRise t.replies) told → (replies : List LastReply) → RepliesRise replies → (x : Heard) → In x told → (client call : ℕ)
    → AtLeastTo x.replies client call → AtLeastTo (replies_told told replies) client call
told-least [] h replies rise x i client call k = absurd i
told-least (t ∷ ts) h replies rise x (inl e) client call k =
    let a = with_replies-keeps t.replies 1 (omega arith) h.0 replies rise in
    (told-keeps ts h.1 (with_replies t.replies replies) a.0).1 client call
    (with_replies-least t.replies 1 (omega arith) h.0 replies rise client call (subst (λ z. AtLeastTo z.replies client call) (sym e) k))
told-least (t ∷ ts) h replies rise x (inr i) client call k =
    told-least ts h.1 (with_replies t.replies replies) (with_replies-keeps t.replies 1 (omega arith) h.0 replies rise).0 x i client call k

-- ---- a call that is new

-- A job whose call is new is that of no outcome that is covered.
pub new-uncovered : (call client host start : ℕ) (body : List ℕ) (replies : List LastReply) → known_of (RunCall call client host start body) replies ≡ IsNew → AtLeastTo replies client call → ⊥
new-uncovered call client host start body replies new (r, is, l) = let less = known-new call (last_reply_to client replies) new r is in omega (arith, less, l)

-- an end of a call that is covered covers the call
end-covered : (A : Submissions) (p n : ℕ) (x : Entry) → EntryAsked A p x → (IsCall x → ⊥) → In n (call_of x) → (s : Submission) → A n ≡ Some s → (replies : List LastReply)
    → ((m : ℕ) (o : Outcome) → x ≡ Done m o → Covered replies o) → AtLeastTo replies s.client n
end-covered A p n (Sp call client point body) k is i s at replies covers = absurd (is tt)
end-covered A p n (Frag m round body) k is i s at replies covers = absurd i
end-covered A p n (Done m Dropped) k is i s at replies covers = absurd i
end-covered A p n (Done m Snapshot) k is i s at replies covers = absurd i
end-covered A p n (Done m (Kept call client point reply)) k is (inr i) s at replies covers = absurd i
end-covered A p n (Done m (Kept call client point reply)) k is (inl e) s at replies covers =
    let same = ap (λ z. z.client) (same-some (sym k.1.is ∙ ap A e ∙ at)) in
    subst (AtLeastTo replies s.client) e (subst (λ c. AtLeastTo replies c call) same (covers m (Kept call client point reply) refl))
end-covered A p n (Done m (Aborted call client point reply)) k is (inr i) s at replies covers = absurd i
end-covered A p n (Done m (Aborted call client point reply)) k is (inl e) s at replies covers =
    let same = ap (λ z. z.client) (same-some (sym k.1.is ∙ ap A e ∙ at)) in
    subst (AtLeastTo replies s.client) e (subst (λ c. AtLeastTo replies c call) same (covers m (Aborted call client point reply) refl))

-- So a job whose call is new is applied by no log whose ends are covered.
module _ (A : Submissions) (p : ℕ) (log : List Entry) (ok : CallsOk A p log) (replies : List LastReply) (covers : (m : ℕ) (o : Outcome) → In (Done m o) log → Covered replies o) where
  call-fresh : (call client host start : ℕ) (body : List ℕ) → known_of (RunCall call client host start body) replies ≡ IsNew → IsAsked A call client None body → In call (calls_of log) → ⊥
  call-fresh call client host start body new k i = let x = call-entry call log i in apart x.0 (all-at (EntryAsked A p) log ok.asked x.0 x.1) x.2 x.1
    where
      s : Submission
      s = record { client = client; part = None; body = body; at = k.at }

      ends : (x : Entry) → EntryAsked A p x → (IsCall x → ⊥) → In call (call_of x) → In x log → ⊥
      ends x asked is j at = new-uncovered call client host start body replies new
          (end-covered A p call x asked is j s k.is replies (λ m o e. covers m o (subst (λ z. In z log) e at)))

      apart : (x : Entry) → EntryAsked A p x → In call (call_of x) → In x log → ⊥
      apart (Sp n c point b) asked j at = kinds-apart A p call (Sp n c point b) asked tt j s k.is refl
      apart (Frag m round b) asked j at = j
      apart (Done m o) asked j at = ends (Done m o) asked (λ c. c) j at

  pub job-fresh : (job : Job) → known_of job replies ≡ IsNew → JobAsked A job → (keep : Bool) (stamp : ℕ) (reply : List ℕ) (m n : ℕ)
      → In n (call_of (Done m (outcome_of keep job stamp reply))) → In n (calls_of log) → ⊥
  job-fresh TakeSnapshot new k true stamp reply m n i j = i
  job-fresh TakeSnapshot new k false stamp reply m n i j = i
  job-fresh (RunCall call client host start body) new k true stamp reply m n (inl e) j = call-fresh call client host start body new k (subst (λ z. In z (calls_of log)) (sym e) j)
  job-fresh (RunCall call client host start body) new k true stamp reply m n (inr i) j = i
  job-fresh (RunCall call client host start body) new k false stamp reply m n (inl e) j = call-fresh call client host start body new k (subst (λ z. In z (calls_of log)) (sym e) j)
  job-fresh (RunCall call client host start body) new k false stamp reply m n (inr i) j = i

-- its outcome is as it was submitted
pub outcome-asked : (A : Submissions) (stamp : ℕ) → AllBefore A stamp → (keep : Bool) (job : Job) (reply : List ℕ) → JobAsked A job → OutcomeAsked A (outcome_of keep job stamp reply)
outcome-asked A stamp past true (RunCall call client host start body) reply k = (body, record { at = k.at; is = k.is; before = (past call _ k.is).1 })
outcome-asked A stamp past false (RunCall call client host start body) reply k = (body, record { at = k.at; is = k.is; before = (past call _ k.is).1 })
outcome-asked A stamp past true TakeSnapshot reply k = tt
outcome-asked A stamp past false TakeSnapshot reply k = tt

-- ---- the last replies of a log

-- They cover each end in it.
pub log-covered : (E : Database) (A : Submissions) (p stamp : ℕ) → AllBefore A stamp → (log : List Entry) (m : ℕ) (o : Outcome) → OutcomeAsked A o → In (Done m o) log → Covered (last_replies E p log) o
log-covered E A p stamp past log m Dropped k i = tt
log-covered E A p stamp past log m Snapshot k i = tt
log-covered E A p stamp past log m (Kept call client point reply) k i =
    last-reply-above E p client (past call _ k.1.is).0 log call (in-client client call (Done m (Kept call client point reply)) log i refl (inl refl))
log-covered E A p stamp past log m (Aborted call client point reply) k i =
    last-reply-above E p client (past call _ k.1.is).0 log call (in-client client call (Done m (Aborted call client point reply)) log i refl (inl refl))

-- ---- of the logs of all partitions

-- the greatest last replies of the first partitions cover each end in their logs
pub greatest-covered : (E : Database) (A : Submissions) (stamp : ℕ) → AllBefore A stamp → (logs : ℕ → List Entry) (n : ℕ) → ((p : ℕ) → p < n → CallsOk A p (logs p))
    → RepliesRise (greatest_replies E logs n) × ((p m : ℕ) (o : Outcome) → p < n → In (Done m o) (logs p) → Covered (greatest_replies E logs n) o)
greatest-covered E A stamp past logs zero ok = (tt, λ p m o l i. absurd (omega (arith, l)))
greatest-covered E A stamp past logs (suc n) ok = more (greatest-covered E A stamp past logs n (λ p l. ok p (omega (arith, l))))
  where
    old : List LastReply
    old = greatest_replies E logs n

    own : List LastReply
    own = last_replies E n (logs n)

    more : RepliesRise old × ((p m : ℕ) (o : Outcome) → p < n → In (Done m o) (logs p) → Covered old o)
        → RepliesRise (with_replies own old) × ((p m : ℕ) (o : Outcome) → p < suc n → In (Done m o) (logs p) → Covered (with_replies own old) o)
    more k = (
      r.0,
      λ p m o l i. elim (cases_eq p n) [
        | inl same ↦
            let j = subst (λ q. In (Done m o) (logs q)) same i in
            let asked = all-at (EntryAsked A n) (logs n) (ok n (omega arith)).asked (Done m o) j in
            covered-on own (with_replies own old) (with_replies-least own 1 (omega arith) (last-replies-rise E n (logs n)) old k.0) o (log-covered E A n stamp past (logs n) m o asked j)
        | inr other ↦ covered-on old (with_replies own old) r.1 o (k.1 p m o (omega (arith, l, other)) i)
      ],
    )
      where
        r : RepliesRise (with_replies own old) × ((c n : ℕ) → AtLeastTo old c n → AtLeastTo (with_replies own old) c n)
        r = with_replies-keeps own 1 (omega arith) (last-replies-rise E n (logs n)) old k.0
