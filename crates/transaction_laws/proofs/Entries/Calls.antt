-- The calls that logs apply: none is twice in a log, and each is as it was submitted.
use Rattle.reply_laws.specs.LastReplies.{applied_for, calls_in, calls_by}
use Rattle.reply_laws.proofs.LastReplies.{last-reply-above}
use Rattle.cluster_model.specs.Log.{applied_by, applied_in}
use Rattle.cluster_model.specs.Replies.{end_of_reply, known_by, last_reply_to}
use Rattle.call_laws.specs.Submissions.{Submission, Submissions}
use Rattle.transaction_laws.specs.Calls.{CallsOk, EntryAsked, MayRun, NoTwice, call_of, calls_of}
use Rattle.transaction_laws.proofs.Names.{Aborted, AllByRecursion, AskedCall, Bool, Database, Done, Dropped, Entry, Frag, In, IsAnswered, IsCall, IsNew, IsPast, Kept, LastReply, List, None, OnlyCalls, Option, Prefix, Snapshot, Some, Sp, [], all-append, all-at, all-behind, all-first, ap, append_assoc, arith, eq-eqb, false, if-true, if◌then◌else◌, in-cases, in-left, in-right, inl, inr, last_replies, map-append, nat_lt, nat_tests, none-and-some, refl, same-some, subst, sym, true, ℕ, ◌++◌, ◌<◌, ◌==◌, ◌∙◌, ◌∷◌, ◌≡◌}

-- ---- lists in which nothing is twice

pub once-append : (xs ys : List ℕ) → NoTwice xs → NoTwice ys → ((n : ℕ) → In n xs → In n ys → ⊥) → NoTwice (xs ++ ys)
once-append [] ys h k apart = k
once-append (x ∷ xs) ys h k apart = (
  λ i. elim (in-cases x xs ys i) [ inl j ↦ h.0 j | inr j ↦ apart x (inl refl) j ],
  once-append xs ys h.1 k (λ n i j. apart n (inr i) j),
)

once-first : (xs ys : List ℕ) → NoTwice (xs ++ ys) → NoTwice xs
once-first [] ys h = tt
once-first (x ∷ xs) ys h = (λ i. h.0 (in-left x xs ys i), once-first xs ys h.1)

once-behind : (xs ys : List ℕ) → NoTwice (xs ++ ys) → NoTwice ys
once-behind [] ys h = h
once-behind (x ∷ xs) ys h = once-behind xs ys h.1

once-apart : (xs ys : List ℕ) → NoTwice (xs ++ ys) → (n : ℕ) → In n xs → In n ys → ⊥
once-apart [] ys h n i j = i
once-apart (x ∷ xs) ys h n (inl e) j = h.0 (subst (λ z. In z (xs ++ ys)) (sym e) (in-right n xs ys j))
once-apart (x ∷ xs) ys h n (inr i) j = once-apart xs ys h.1 n i j

-- ---- the calls of a log

pub calls_of-append : (xs ys : List Entry) → calls_of (xs ++ ys) ≡ calls_of xs ++ calls_of ys
calls_of-append [] ys = refl
calls_of-append (e ∷ xs) ys =
    map-append (λ a. a.call) (applied_by e) (applied_in (xs ++ ys)) ∙ ap (λ ns. call_of e ++ ns) (calls_of-append xs ys)
    ∙ sym (append_assoc (call_of e) (calls_of xs) (calls_of ys)) ∙ ap (λ ns. ns ++ calls_of ys) (sym (map-append (λ a. a.call) (applied_by e) (applied_in xs)))

calls_of-more : (e : Entry) (es : List Entry) → calls_of (e ∷ es) ≡ call_of e ++ calls_of es
calls_of-more e es = map-append (λ a. a.call) (applied_by e) (applied_in es)

-- one is that of an entry
pub call-entry : (n : ℕ) (log : List Entry) → In n (calls_of log) → (e : Entry) × In e log × In n (call_of e)
call-entry n [] i = absurd i
call-entry n (e ∷ es) i = elim (in-cases n (call_of e) (calls_of es) (subst (In n) (calls_of-more e es) i)) [
  | inl j ↦ (e, inl refl, j)
  | inr j ↦ let r = call-entry n es j in (r.0, inr r.1, r.2)
]

pub entry-call : (n : ℕ) (e : Entry) (log : List Entry) → In e log → In n (call_of e) → In n (calls_of log)
entry-call n e [] i j = absurd i
entry-call n e (x ∷ xs) (inl q) j = subst (In n) (sym (calls_of-more x xs)) (in-left n (call_of x) (calls_of xs) (subst (λ z. In n (call_of z)) (sym q) j))
entry-call n e (x ∷ xs) (inr i) j = subst (In n) (sym (calls_of-more x xs)) (in-right n (call_of x) (calls_of xs) (entry-call n e xs i j))

-- so it is that of one entry alone
pub same-entry : (n : ℕ) (log : List Entry) → NoTwice (calls_of log) → (x y : Entry) → In x log → In y log → In n (call_of x) → In n (call_of y) → x ≡ y
same-entry n [] h x y i j a b = absurd i
same-entry n (e ∷ es) h x y i j a b = go i j (λ p q. same-entry n es (once-behind (call_of e) (calls_of es) k) x y p q a b)
  where
    k : NoTwice (call_of e ++ calls_of es)
    k = subst NoTwice (calls_of-more e es) h

    other : (z : Entry) → In z es → In n (call_of z) → In n (call_of e) → ⊥
    other z at c d = once-apart (call_of e) (calls_of es) k n d (entry-call n z es at c)

    go : In x (e ∷ es) → In y (e ∷ es) → (In x es → In y es → x ≡ y) → x ≡ y
    go (inl p) (inl q) f = sym p ∙ q
    go (inl p) (inr q) f = absurd (other y q b (subst (λ z. In n (call_of z)) (sym p) a))
    go (inr p) (inl q) f = absurd (other x p a (subst (λ z. In n (call_of z)) (sym q) b))
    go (inr p) (inr q) f = f p q

-- ---- logs

module _ (A : Submissions) (p : ℕ) where
  pub ok-append : (xs ys : List Entry) → CallsOk A p xs → CallsOk A p ys → ((n : ℕ) → In n (calls_of xs) → In n (calls_of ys) → ⊥) → CallsOk A p (xs ++ ys)
  ok-append xs ys h k apart = record {
    once = subst NoTwice (sym (calls_of-append xs ys)) (once-append (calls_of xs) (calls_of ys) h.once k.once apart);
    asked = all-append (EntryAsked A p) xs ys h.asked k.asked;
  }

  pub ok-first : (xs ys : List Entry) → CallsOk A p (xs ++ ys) → CallsOk A p xs
  ok-first xs ys h = record {
    once = once-first (calls_of xs) (calls_of ys) (subst NoTwice (calls_of-append xs ys) h.once);
    asked = all-first (EntryAsked A p) xs ys h.asked;
  }

  pub ok-behind : (xs ys : List Entry) → CallsOk A p (xs ++ ys) → CallsOk A p ys
  ok-behind xs ys h = record {
    once = once-behind (calls_of xs) (calls_of ys) (subst NoTwice (calls_of-append xs ys) h.once);
    asked = all-behind (EntryAsked A p) xs ys h.asked;
  }

  pub ok-apart : (xs ys : List Entry) → CallsOk A p (xs ++ ys) → (n : ℕ) → In n (calls_of xs) → In n (calls_of ys) → ⊥
  ok-apart xs ys h = once-apart (calls_of xs) (calls_of ys) (subst NoTwice (calls_of-append xs ys) h.once)

  pub ok-prefix : (xs ys : List Entry) → Prefix xs ys → CallsOk A p ys → CallsOk A p xs
  ok-prefix xs ys (more, is) h = ok-first xs more (subst (CallsOk A p) is h)

  -- of one entry
  one-call : (e : Entry) → NoTwice (calls_of (e ∷ []))
  one-call (Sp call client point body) = (λ i. i, tt)
  one-call (Frag m round body) = tt
  one-call (Done m Dropped) = tt
  one-call (Done m (Kept call client point reply)) = (λ i. i, tt)
  one-call (Done m (Aborted call client point reply)) = (λ i. i, tt)
  one-call (Done m Snapshot) = tt

  -- with one entry more, that applies no call of the log
  pub ok-more : (log : List Entry) (e : Entry) → CallsOk A p log → EntryAsked A p e → ((n : ℕ) → In n (call_of e) → In n (calls_of log) → ⊥) → CallsOk A p (log ++ e ∷ [])
  ok-more log e h asked fresh = ok-append log (e ∷ []) h (record { once = one-call e; asked = (asked, tt) })
      (λ n i j. elim (in-cases n (call_of e) [] (subst (In n) (calls_of-more e []) j)) [ inl c ↦ fresh n c i | inr c ↦ absurd c ])

  -- ---- calls on one partition, and on all

  -- a call on one partition is one on this
  sp-part : (n : ℕ) (x : Entry) → EntryAsked A p x → IsCall x → In n (call_of x) → (s : Submission) × (A n ≡ Some s) × (s.part ≡ Some p)
  sp-part n (Sp call client point body) k is (inl e) = (_, subst (λ z. A z ≡ Some (record { client = client; part = Some p; body = body; at = k.at })) e k.is, refl)
  sp-part n (Sp call client point body) k is (inr i) = absurd i
  sp-part n x k is i = absurd is

  -- an end is that of one on all
  pub end-part : (n : ℕ) (x : Entry) → EntryAsked A p x → (IsCall x → ⊥) → In n (call_of x) → (s : Submission) × (A n ≡ Some s) × (s.part ≡ None)
  end-part n (Sp call client point body) k is i = absurd (is tt)
  end-part n (Frag m round body) k is i = absurd i
  end-part n (Done m Dropped) k is i = absurd i
  end-part n (Done m Snapshot) k is i = absurd i
  end-part n (Done m (Kept call client point reply)) k is (inl e) = (_, subst (λ z. A z ≡ Some (record { client = client; part = None; body = k.0; at = k.1.at })) e k.1.is, refl)
  end-part n (Done m (Kept call client point reply)) k is (inr i) = absurd i
  end-part n (Done m (Aborted call client point reply)) k is (inl e) = (_, subst (λ z. A z ≡ Some (record { client = client; part = None; body = k.0; at = k.1.at })) e k.1.is, refl)
  end-part n (Done m (Aborted call client point reply)) k is (inr i) = absurd i

  -- So no call is of both kinds.
  pub kinds-apart : (n : ℕ) (x : Entry) → EntryAsked A p x → IsCall x → In n (call_of x) → (s : Submission) → A n ≡ Some s → s.part ≡ None → ⊥
  kinds-apart n x k is i s at none = let r = sp-part n x k is i in none-and-some none (ap (λ z. z.part) (same-some (sym at ∙ r.1)) ∙ r.2)

  -- Calls between a log and what is due behind it are others than that.
  pub ok-between : (log calls due : List Entry) → CallsOk A p (log ++ due) → CallsOk A p (log ++ calls) → OnlyCalls calls → AllByRecursion (λ x. IsCall x → ⊥) due → CallsOk A p ((log ++ calls) ++ due)
  ok-between log calls due h k only orders = ok-append (log ++ calls) due k (ok-behind log due h) (λ n i j. elim (in-cases n (calls_of log) (calls_of calls) (subst (In n) (calls_of-append log calls) i)) [
    | inl a ↦ ok-apart log due h n a j
    | inr a ↦
        let x = call-entry n calls a in
        let y = call-entry n due j in
        let r = end-part n y.0 (all-at (EntryAsked A p) due (ok-behind log due h).asked y.0 y.1) (all-at (λ z. IsCall z → ⊥) due orders y.0 y.1) y.2 in
        kinds-apart n x.0 (all-at (EntryAsked A p) calls (ok-behind log calls k).asked x.0 x.1) (all-at IsCall calls only x.0 x.1) x.2 r.0 r.1 r.2
  ])

-- ---- clients

-- the client of a call is that which submitted it
pub entry-client : (A : Submissions) (p n : ℕ) (x : Entry) → EntryAsked A p x → In n (call_of x) → (s : Submission) × (A n ≡ Some s) × (applied_for x ≡ s.client)
entry-client A p n (Sp call client point body) k (inl e) = (_, subst (λ z. A z ≡ Some (record { client = client; part = Some p; body = body; at = k.at })) e k.is, refl)
entry-client A p n (Sp call client point body) k (inr i) = absurd i
entry-client A p n (Frag m round body) k i = absurd i
entry-client A p n (Done m Dropped) k i = absurd i
entry-client A p n (Done m Snapshot) k i = absurd i
entry-client A p n (Done m (Kept call client point reply)) k (inl e) = (_, subst (λ z. A z ≡ Some (record { client = client; part = None; body = k.0; at = k.1.at })) e k.1.is, refl)
entry-client A p n (Done m (Kept call client point reply)) k (inr i) = absurd i
entry-client A p n (Done m (Aborted call client point reply)) k (inl e) = (_, subst (λ z. A z ≡ Some (record { client = client; part = None; body = k.0; at = k.1.at })) e k.1.is, refl)
entry-client A p n (Done m (Aborted call client point reply)) k (inr i) = absurd i

pub in-client : (client n : ℕ) (e : Entry) (log : List Entry) → In e log → applied_for e ≡ client → In n (call_of e) → In n (calls_in client log)
in-client client n e [] i f j = absurd i
in-client client n e (x ∷ xs) (inl q) f j = in-left n (calls_by client x) (calls_in client xs)
    (subst (λ z. In n (calls_by client z)) (sym q) (subst (In n) (sym (if-true (applied_for e == client) (call_of e) [] (eq-eqb (applied_for e) client f))) j))
in-client client n e (x ∷ xs) (inr i) f j = in-right n (calls_by client x) (calls_in client xs) (in-client client n e xs i f j)

-- a call that is new is greater than the last one of its client
pub known-new : (call : ℕ) (o : Option LastReply) → known_by call o ≡ IsNew → (r : LastReply) → o ≡ Some r → r.call < call
known-new call None k r e = absurd (none-and-some refl e)
known-new call (Some x) k r e = subst (λ z. z.call < call) (same-some e) (choice (nat_lt x.call call) refl k)
  where
    old : (b : Bool) → (if b then IsAnswered (end_of_reply x.reply) else IsPast) ≡ IsNew → ⊥
    old true q = absurd (cc)
    old false q = absurd (cc)

    choice : (b : Bool) → nat_lt x.call call ≡ b → (if b then IsNew else if x.call == call then IsAnswered (end_of_reply x.reply) else IsPast) ≡ IsNew → x.call < call
    choice true e q = grind (arith, nat_tests, e)
    choice false e q = absurd (old (x.call == call) q)

-- so the log doesn't apply it
pub new-call : (E : Database) (A : Submissions) (p call : ℕ) (s : Submission) (log : List Entry) → A call ≡ Some s → 0 < s.client → CallsOk A p log
    → known_by call (last_reply_to s.client (last_replies E p log)) ≡ IsNew → In call (calls_of log) → ⊥
new-call E A p call s log is some k new i =
    let e = call-entry call log i in
    let c = entry-client A p call e.0 (all-at (EntryAsked A p) log k.asked e.0 e.1) e.2 in
    let client : applied_for e.0 ≡ s.client = c.2 ∙ ap (λ z. z.client) (same-some (sym c.1 ∙ is)) in
    let r = last-reply-above E p s.client some log call (in-client s.client call e.0 log e.1 client e.2) in
    let less = known-new call (last_reply_to s.client (last_replies E p log)) new r.0 r.1 in
    omega (arith, less, r.2)

-- A call that may run at a leader, and is new there, runs once.
pub ok-run : (E : Database) (A : Submissions) (p stamp : ℕ) (c : AskedCall) (log : List Entry) → MayRun A p stamp c → known_by c.call (last_reply_to c.client (last_replies E p log)) ≡ IsNew
    → CallsOk A p log → CallsOk A p (log ++ Sp c.call c.client stamp c.body ∷ [])
ok-run E A p stamp c log may new k = ok-more A p log (Sp c.call c.client stamp c.body) k may.asked (λ n i j. elim i [
  | inl e ↦ new-call E A p c.call (record { client = c.client; part = Some p; body = c.body; at = may.asked.at }) log may.asked.is may.some k new (subst (λ z. In z (calls_of log)) (sym e) j)
  | inr none ↦ absurd none
])
