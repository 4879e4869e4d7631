-- The last reply to a client, behind any log of any database: it is that to the client's greatest call in the log.
use Rattle.std.proofs.Common.{◌≡◌, ◌<◌, ◌≤◌, Bool, true, false, List, [], ◌∷◌, ◌++◌, append-nil, append_assoc, refl, sym, subst, ap, ◌∙◌, inl, ◌==◌, zero, suc, arith}
use Rattle.std.proofs.lemmas.Bool.{cond_both, eq-eqb, eqb-true}
use Rattle.std.proofs.lemmas.Bool.Decides.{nat_tests}
use Rattle.std.specs.Prelude.{ℕ, ◌+◌, map, nat_lt, if◌then◌else◌, Option, Some, None}
use Rattle.std.specs.List.{AllByRecursion}
use Rattle.volt_base.specs.Semantics.{Semantics}
use Rattle.volt_base.specs.declared.entry.Entry.{Entry}
use Rattle.volt_base.specs.declared.entry.Entry.TheVariants.{Sp, Frag, Done}
use Rattle.volt_base.specs.declared.entry.LastReply.{LastReply}
use Rattle.volt_base.specs.declared.entry.Outcome.TheVariants.{Dropped, Kept, Aborted, Snapshot}
use Rattle.cluster_model.specs.Engine.{Database}
use Rattle.cluster_model.specs.Laws.{RiseFrom}
use Rattle.cluster_model.specs.Log.{answer_behind, applied_by, replay, replay_from}
use Rattle.cluster_model.specs.Replies.{last_replies, last_reply_to, replied, replies_after, replies_from, with_reply}
use Rattle.cluster_steps.specs.Lists.{In, Prefix}
use Rattle.cluster_steps.proofs.Lists.{all-append, all-at, all-mono, eqb-same, if-false, if-true, in-left, in-right, none-and-some}
use Rattle.reply_laws.specs.LastReplies.{IsLastReply, LastReplyIs, applied_for, calls_by, calls_in, reply_at}

-- ---- one reply more

-- of the reply that was kept and another one that to the greater call, and of equal ones the one that was kept
abbrev pub greater_of : Option LastReply → LastReply → LastReply
greater_of None r = r
greater_of (Some x) r = if nat_lt x.call r.call then r else x

-- no client below all of the list has one
pub reply-none : (client low : ℕ) (xs : List LastReply) → RiseFrom low (map (λ x. x.client) xs) → client < low → last_reply_to client xs ≡ None
reply-none client low [] h less = refl
reply-none client low (x ∷ xs) h less =
    let other : (x.client == client) ≡ false = let b = h.0 in grind (arith, nat_tests, b, less) in
    if-false (x.client == client) (Some x) (last_reply_to client xs) other ∙ reply-none client (x.client + 1) xs h.1 (let b = h.0 in omega (arith, b, less))

-- those to other clients stay
pub reply-others : (r : LastReply) (client : ℕ) → (r.client == client) ≡ false → (xs : List LastReply) → last_reply_to client (with_reply r xs) ≡ last_reply_to client xs
reply-others r client other [] = if-false (r.client == client) (Some r) None other
reply-others r client other (x ∷ xs) = cond_both (r.client == x.client) _ _ P (λ e. cond_both (nat_lt x.call r.call) _ _ P (λ _. replaced e) (λ _. refl))
    (λ n. cond_both (nat_lt r.client x.client) _ _ P (λ _. if-false (r.client == client) (Some r) (last_reply_to client (x ∷ xs)) other)
    (λ _. ap (λ o. if x.client == client then Some x else o) (reply-others r client other xs)))
  where
    P : List LastReply → Type 0
    P ws = last_reply_to client ws ≡ last_reply_to client (x ∷ xs)

    replaced : (r.client == x.client) ≡ true → P (r ∷ xs)
    replaced e =
        let there : (x.client == client) ≡ false = subst (λ n. (n == client) ≡ false) (eqb-true r.client x.client e) other in
        if-false (r.client == client) (Some r) (last_reply_to client xs) other ∙ sym (if-false (x.client == client) (Some x) (last_reply_to client xs) there)

-- of its own client the greater one stays
pub reply-own : (r : LastReply) (low : ℕ) (xs : List LastReply) → RiseFrom low (map (λ x. x.client) xs)
    → last_reply_to r.client (with_reply r xs) ≡ Some (greater_of (last_reply_to r.client xs) r)
reply-own r low [] h = if-true (r.client == r.client) (Some r) None (eqb-same r.client)
reply-own r low (x ∷ xs) h = cond_both (r.client == x.client) _ _ P (λ e. cond_both (nat_lt x.call r.call) _ _ P (λ l. replaced e l) (λ l. kept e l))
    (λ n. cond_both (nat_lt r.client x.client) _ _ P (λ l. put (grind (arith, nat_tests, l))) (λ l. later n (reply-own r (x.client + 1) xs h.1)))
  where
    o : Option LastReply
    o = last_reply_to r.client (x ∷ xs)

    P : List LastReply → Type 0
    P ws = last_reply_to r.client ws ≡ Some (greater_of o r)

    mine : (r.client == x.client) ≡ true → o ≡ Some x
    mine e = if-true (x.client == r.client) (Some x) (last_reply_to r.client xs) (eq-eqb x.client r.client (sym (eqb-true r.client x.client e)))

    first : (zs : List LastReply) → last_reply_to r.client (r ∷ zs) ≡ Some r
    first zs = if-true (r.client == r.client) (Some r) (last_reply_to r.client zs) (eqb-same r.client)

    replaced : (r.client == x.client) ≡ true → nat_lt x.call r.call ≡ true → P (r ∷ xs)
    replaced e l = first xs ∙ sym (ap (λ a. Some (greater_of a r)) (mine e) ∙ ap (λ a. Some a) (if-true (nat_lt x.call r.call) r x l))

    kept : (r.client == x.client) ≡ true → nat_lt x.call r.call ≡ false → P (x ∷ xs)
    kept e l = mine e ∙ sym (ap (λ a. Some (greater_of a r)) (mine e) ∙ ap (λ a. Some a) (if-false (nat_lt x.call r.call) r x l))

    put : r.client < x.client → P (r ∷ x ∷ xs)
    put l = first (x ∷ xs) ∙ sym (ap (λ a. Some (greater_of a r)) (reply-none r.client x.client (x ∷ xs) (omega arith, h.1) l))

    later : (r.client == x.client) ≡ false → last_reply_to r.client (with_reply r xs) ≡ Some (greater_of (last_reply_to r.client xs) r) → P (x ∷ with_reply r xs)
    later n rest =
        let other : (x.client == r.client) ≡ false = grind (arith, nat_tests, n) in
        if-false (x.client == r.client) (Some x) (last_reply_to r.client (with_reply r xs)) other ∙ rest
        ∙ ap (λ a. Some (greater_of a r)) (sym (if-false (x.client == r.client) (Some x) (last_reply_to r.client xs) other))

-- the clients rise still
pub reply-rises : (r : LastReply) (low : ℕ) (xs : List LastReply) → low ≤ r.client → RiseFrom low (map (λ x. x.client) xs) → RiseFrom low (map (λ x. x.client) (with_reply r xs))
reply-rises r low [] l h = (l, tt)
reply-rises r low (x ∷ xs) l h = cond_both (r.client == x.client) _ _ P (λ e. cond_both (nat_lt x.call r.call) _ _ P (λ _. replaced (eqb-true r.client x.client e)) (λ _. h))
    (λ n. cond_both (nat_lt r.client x.client) _ _ P (λ less. (l, (grind (arith, nat_tests, less), h.1)))
    (λ more. (h.0, reply-rises r (x.client + 1) xs (grind (arith, nat_tests, n, more)) h.1)))
  where
    P : List LastReply → Type 0
    P ws = RiseFrom low (map (λ x. x.client) ws)

    replaced : r.client ≡ x.client → P (r ∷ xs)
    replaced e = (l, subst (λ n. RiseFrom (n + 1) (map (λ x. x.client) xs)) (sym e) h.1)

-- ---- a log that grows

pub calls-append : (client : ℕ) (xs ys : List Entry) → calls_in client (xs ++ ys) ≡ calls_in client xs ++ calls_in client ys
calls-append client [] ys = refl
calls-append client (e ∷ xs) ys = ap (λ ns. calls_by client e ++ ns) (calls-append client xs ys) ∙ sym (append_assoc (calls_by client e) (calls_in client xs) (calls_in client ys))

-- an entry that applies no call
calls-none : (client : ℕ) (e : Entry) → applied_by e ≡ [] → calls_by client e ≡ []
calls-none client e is = cond_both (applied_for e == client) _ _ (λ ns. ns ≡ []) (λ _. ap (map (λ a. a.call)) is) (λ _. refl)

pub replay-append : (S : Semantics) (state : S.State) (xs ys : List Entry) → replay_from S state (xs ++ ys) ≡ replay_from S (replay_from S state xs) ys
replay-append S state [] ys = refl
replay-append S state (e ∷ xs) ys = replay-append S (S.after state e) xs ys

module _ (E : Database) (p client : ℕ) where
  -- no call of the client in the log is greater
  pub all-calls : (log : List Entry) (r : LastReply) → IsLastReply E p client log r → AllByRecursion (λ n. n ≤ r.call) (calls_in client log)
  all-calls log r k = subst (λ ns. AllByRecursion Below ns) (sym (ap (calls_in client) k.splits ∙ calls-append client k.before (k.entry ∷ k.behind)))
      (all-append Below (calls_in client k.before) (calls_by client k.entry ++ calls_in client k.behind)
      (all-mono (λ n. n < r.call) Below (λ n l. omega (arith, l)) (calls_in client k.before) k.less)
      (all-append Below (calls_by client k.entry) (calls_in client k.behind) own k.greatest))
    where
      Below : ℕ → Type 0
      Below n = n ≤ r.call

      own : AllByRecursion Below (calls_by client k.entry)
      own = cond_both (applied_for k.entry == client) _ _ (AllByRecursion Below)
          (λ _. subst (λ as_. AllByRecursion Below (map (λ a. a.call) as_)) (sym k.applies) (omega arith, tt)) (λ _. tt)

  -- that call itself is in it
  pub call-in : (log : List Entry) (r : LastReply) → IsLastReply E p client log r → In r.call (calls_in client log)
  call-in log r k = subst (In r.call) (sym (ap (calls_in client) k.splits ∙ calls-append client k.before (k.entry ∷ k.behind)))
      (in-right r.call (calls_in client k.before) (calls_by client k.entry ++ calls_in client k.behind)
      (in-left r.call (calls_by client k.entry) (calls_in client k.behind) own))
    where
      own : In r.call (calls_by client k.entry)
      own = subst (In r.call) (sym (if-true (applied_for k.entry == client) (map (λ a. a.call) (applied_by k.entry)) [] (eq-eqb (applied_for k.entry) client k.for_client)
          ∙ ap (map (λ a. a.call)) k.applies)) (inl refl)

  -- with entries behind it that apply no greater call of the client
  last-on : (log more : List Entry) (r : LastReply) → IsLastReply E p client log r → AllByRecursion (λ n. n ≤ r.call) (calls_in client more)
      → IsLastReply E p client (log ++ more) r
  last-on log more r k below = record {
    before = k.before;
    entry = k.entry;
    behind = k.behind ++ more;
    splits = ap (λ xs. xs ++ more) k.splits ∙ append_assoc k.before (k.entry ∷ k.behind) more;
    point = k.point;
    applies = k.applies;
    for_client = k.for_client;
    client_is = k.client_is;
    reply_is = k.reply_is;
    less = k.less;
    greatest = subst (AllByRecursion (λ n. n ≤ r.call)) (sym (calls-append client k.behind more))
        (all-append (λ n. n ≤ r.call) (calls_in client k.behind) (calls_in client more) k.greatest below);
  }

  -- with an entry that applies none
  last-same : (log : List Entry) (e : Entry) (o : Option LastReply) → calls_by client e ≡ [] → LastReplyIs E p client log o → LastReplyIs E p client (log ++ e ∷ []) o
  last-same log e None none k = calls-append client log (e ∷ []) ∙ ap (λ ns. ns ++ (calls_by client e ++ [])) k ∙ ap (λ ns. ns ++ []) none
  last-same log e (Some r) none k = last-on log (e ∷ []) r k (subst (AllByRecursion (λ n. n ≤ r.call)) (sym (ap (λ ns. ns ++ []) none)) tt)

  -- An entry that applies a call of the client, where the last reply to it was this one: what is kept then.
  last-own : (log : List Entry) (e : Entry) (call point : ℕ) (reply : List ℕ) (o : Option LastReply) → applied_for e ≡ client → applied_by e ≡ record { call = call; point = point } ∷ []
      → reply ≡ reply_at E p log e → LastReplyIs E p client log o
      → IsLastReply E p client (log ++ e ∷ []) (greater_of o (record { client = client; call = call; reply = reply }))
  last-own log e call point reply o own applies is k = by_last o k
    where
      r : LastReply
      r = record { client = client; call = call; reply = reply }

      new : AllByRecursion (λ n. n < call) (calls_in client log) → IsLastReply E p client (log ++ e ∷ []) r
      new less = record {
        before = log;
        entry = e;
        behind = [];
        splits = refl;
        point = point;
        applies = applies;
        for_client = own;
        client_is = refl;
        reply_is = is;
        less = less;
        greatest = tt;
      }

      calls : calls_in client (e ∷ []) ≡ call ∷ []
      calls = ap (λ ns. ns ++ []) (if-true (applied_for e == client) (map (λ a. a.call) (applied_by e)) [] (eq-eqb (applied_for e) client own) ∙ ap (map (λ a. a.call)) applies)

      by_last : (o : Option LastReply) → LastReplyIs E p client log o → IsLastReply E p client (log ++ e ∷ []) (greater_of o r)
      by_last None k = new (subst (AllByRecursion (λ n. n < call)) (sym k) tt)
      by_last (Some x) k = cond_both (nat_lt x.call call) r x (IsLastReply E p client (log ++ e ∷ []))
          (λ l. let above : x.call < call = grind (arith, nat_tests, l) in
          new (all-mono (λ n. n ≤ x.call) (λ n. n < call) (λ n b. omega (arith, b, above)) (calls_in client log) (all-calls log x k)))
          (λ l. let below : call ≤ x.call = grind (arith, nat_tests, l) in
          last-on log (e ∷ []) x k (subst (AllByRecursion (λ n. n ≤ x.call)) (sym calls) (below, tt)))

-- ---- the last replies of a log

-- what an entry makes of them
module _ (E : Database) (p : ℕ) (log : List Entry) (replies : List LastReply) (rise : RiseFrom 1 (map (λ x. x.client) replies)) where
  -- of an entry that applies this call
  replied-rises : (asked call : ℕ) (reply : List ℕ) → RiseFrom 1 (map (λ x. x.client) (replied asked call reply replies))
  replied-rises asked call reply = cond_both (asked == 0) _ _ (λ xs. RiseFrom 1 (map (λ x. x.client) xs)) (λ _. rise)
      (λ n. reply-rises (record { client = asked; call = call; reply = reply }) 1 replies (grind (arith, nat_tests, n)) rise)

  replied-last : (client : ℕ) → 0 < client → LastReplyIs E p client log (last_reply_to client replies) → (e : Entry) (asked call point : ℕ) (reply : List ℕ)
      → applied_for e ≡ asked → applied_by e ≡ record { call = call; point = point } ∷ [] → reply ≡ reply_at E p log e
      → LastReplyIs E p client (log ++ e ∷ []) (last_reply_to client (replied asked call reply replies))
  replied-last client some k e asked call point reply own applies is = cond_both (asked == 0) _ _ (λ xs. LastReplyIs E p client (log ++ e ∷ []) (last_reply_to client xs))
      (λ z. last-same E p client log e (last_reply_to client replies) (others (grind (arith, nat_tests, z, some))) k)
      (λ _. by_client (asked == client) refl)
    where
      r : LastReply
      r = record { client = asked; call = call; reply = reply }

      others : (asked == client) ≡ false → calls_by client e ≡ []
      others n = if-false (applied_for e == client) (map (λ a. a.call) (applied_by e)) [] (subst (λ c. (c == client) ≡ false) (sym own) n)

      by_client : (b : Bool) → (asked == client) ≡ b → LastReplyIs E p client (log ++ e ∷ []) (last_reply_to client (with_reply r replies))
      by_client false n = subst (LastReplyIs E p client (log ++ e ∷ [])) (sym (reply-others r client n replies)) (last-same E p client log e (last_reply_to client replies) (others n) k)
      by_client true y =
          let same = eqb-true asked client y in
          subst (λ c. LastReplyIs E p c (log ++ e ∷ []) (last_reply_to c (with_reply r replies))) same
          (subst (LastReplyIs E p asked (log ++ e ∷ [])) (sym (reply-own r 1 replies rise))
          (last-own E p asked log e call point reply (last_reply_to asked replies) own applies is (subst (λ c. LastReplyIs E p c log (last_reply_to c replies)) (sym same) k)))

  after-rises : (e : Entry) → RiseFrom 1 (map (λ x. x.client) (replies_after e (answer_behind E p log e) replies))
  after-rises (Sp call asked point body) = replied-rises asked call (answer_behind E p log (Sp call asked point body))
  after-rises (Frag m round body) = rise
  after-rises (Done m Dropped) = rise
  after-rises (Done m (Kept call asked point reply)) = replied-rises asked call reply
  after-rises (Done m (Aborted call asked point reply)) = replied-rises asked call reply
  after-rises (Done m Snapshot) = rise

  -- a client from 1 on
  after-last : (client : ℕ) → 0 < client → LastReplyIs E p client log (last_reply_to client replies) → (e : Entry)
      → LastReplyIs E p client (log ++ e ∷ []) (last_reply_to client (replies_after e (answer_behind E p log e) replies))
  after-last client some k (Sp call asked point body) =
      replied-last client some k (Sp call asked point body) asked call point (answer_behind E p log (Sp call asked point body)) refl refl refl
  after-last client some k (Frag m round body) = last-same E p client log (Frag m round body) (last_reply_to client replies) (calls-none client (Frag m round body) refl) k
  after-last client some k (Done m Dropped) = last-same E p client log (Done m Dropped) (last_reply_to client replies) (calls-none client (Done m Dropped) refl) k
  after-last client some k (Done m (Kept call asked point reply)) = replied-last client some k (Done m (Kept call asked point reply)) asked call point reply refl refl refl
  after-last client some k (Done m (Aborted call asked point reply)) = replied-last client some k (Done m (Aborted call asked point reply)) asked call point reply refl refl refl
  after-last client some k (Done m Snapshot) = last-same E p client log (Done m Snapshot) (last_reply_to client replies) (calls-none client (Done m Snapshot) refl) k

module _ (E : Database) (p : ℕ) where
  -- from those of a first part of a log on
  more-rises : (log more : List Entry) (replies : List LastReply) → RiseFrom 1 (map (λ x. x.client) replies)
      → RiseFrom 1 (map (λ x. x.client) (replies_from E.tables (replay E p log) more replies))
  more-rises log [] replies rise = rise
  more-rises log (e ∷ more) replies rise =
      let next = replies_after e (answer_behind E p log e) replies in
      subst (λ s. RiseFrom 1 (map (λ x. x.client) (replies_from E.tables s more next))) (replay-append E.tables (E.opening p) log (e ∷ []))
      (more-rises (log ++ e ∷ []) more next (after-rises E p log replies rise e))

  more-last : (client : ℕ) → 0 < client → (log more : List Entry) (replies : List LastReply) → RiseFrom 1 (map (λ x. x.client) replies)
      → LastReplyIs E p client log (last_reply_to client replies)
      → LastReplyIs E p client (log ++ more) (last_reply_to client (replies_from E.tables (replay E p log) more replies))
  more-last client some log [] replies rise k = subst (λ xs. LastReplyIs E p client xs (last_reply_to client replies)) (sym (append-nil log)) k
  more-last client some log (e ∷ more) replies rise k =
      let next = replies_after e (answer_behind E p log e) replies in
      subst (λ xs. LastReplyIs E p client xs (last_reply_to client (replies_from E.tables (E.tables.after (replay E p log) e) more next))) (append_assoc log (e ∷ []) more)
      (subst (λ s. LastReplyIs E p client ((log ++ e ∷ []) ++ more) (last_reply_to client (replies_from E.tables s more next))) (replay-append E.tables (E.opening p) log (e ∷ []))
      (more-last client some (log ++ e ∷ []) more next (after-rises E p log replies rise e) (after-last E p log replies rise client some k e)))

  -- They are by rising client, from 1 on: client 0 has none.
  pub last-replies-rise : (log : List Entry) → RiseFrom 1 (map (λ x. x.client) (last_replies E p log))
  last-replies-rise log = more-rises [] log [] tt

  pub no-client : (log : List Entry) → last_reply_to 0 (last_replies E p log) ≡ None
  no-client log = reply-none 0 1 (last_replies E p log) (last-replies-rise log) (omega arith)

  pub some-client : (log : List Entry) (client : ℕ) (r : LastReply) → last_reply_to client (last_replies E p log) ≡ Some r → 0 < client
  some-client log zero r is = absurd (none-and-some (no-client log) is)
  some-client log (suc n) r is = omega arith

  -- The last reply to a client is that to the greatest of its calls, as its entry answers it; where there is none the log applies none.
  pub last-reply-is : (client : ℕ) → 0 < client → (log : List Entry) → LastReplyIs E p client log (last_reply_to client (last_replies E p log))
  last-reply-is client some log = more-last client some [] log [] tt refl

  pub last-reply-at : (client : ℕ) (log : List Entry) (r : LastReply) → last_reply_to client (last_replies E p log) ≡ Some r → IsLastReply E p client log r
  last-reply-at client log r is = subst (LastReplyIs E p client log) is (last-reply-is client (some-client log client r is) log)

  pub no-last-reply : (client : ℕ) → 0 < client → (log : List Entry) → last_reply_to client (last_replies E p log) ≡ None → calls_in client log ≡ []
  no-last-reply client some log is = subst (LastReplyIs E p client log) is (last-reply-is client some log)

  -- No call of a client that the log applies is greater than the one to which the last reply is kept.
  pub last-reply-above : (client : ℕ) → 0 < client → (log : List Entry) (call : ℕ) → In call (calls_in client log)
      → (r : LastReply) × (last_reply_to client (last_replies E p log) ≡ Some r) × (call ≤ r.call)
  last-reply-above client some log call there = by_last (last_reply_to client (last_replies E p log)) refl
    where
      by_last : (o : Option LastReply) → last_reply_to client (last_replies E p log) ≡ o → (r : LastReply) × (o ≡ Some r) × (call ≤ r.call)
      by_last None is = absurd (subst (In call) (no-last-reply client some log is) there)
      by_last (Some r) is = (r, refl, all-at (λ n. n ≤ r.call) (calls_in client log) (all-calls E p client log r (last-reply-at client log r is)) call there)

  -- As a log grows, its number only rises.
  pub last-reply-rises : (client : ℕ) (log later : List Entry) → Prefix log later → (r : LastReply) → last_reply_to client (last_replies E p log) ≡ Some r
      → (x : LastReply) × (last_reply_to client (last_replies E p later) ≡ Some x) × (r.call ≤ x.call)
  last-reply-rises client log later (more, grown) r is = last-reply-above client (some-client log client r is) later r.call
      (subst (λ xs. In r.call (calls_in client xs)) (sym grown) (subst (In r.call) (sym (calls-append client log more))
      (in-left r.call (calls_in client log) (calls_in client more) (call-in E p client log r (last-reply-at client log r is)))))
