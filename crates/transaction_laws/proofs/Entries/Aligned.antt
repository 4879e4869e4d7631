-- Logs in which one transaction at most isn't over everywhere: fewer entries of them, and what a recovery makes of them.
use Rattle.transaction_laws.proofs.Names.{Aligned, AllByRecursion, Database, Deployment, Done, Dropped, Entry, In, IsCall, List, NoRound, None, OfNumber, OnlyCalls, Option, Outcome, Prefix, Shown, Some, Transactions, WellFormed, [], all-append, all-at, all-behind, all-first, all-from, all-mono, all_parts, ap, append-nil, append_assoc, append_cancel_left, arith, cases_eq, cases_lt, chosen, closed, drop, drop-append-le, drop-append_seam, drop-behind, eqb-same, first_stage, greater, greatest_done, greatest_open, if-true, in-cases, in-left, in-map, in-map-from, inl, inr, last_done, length, map, nat_lt, nat_tests, none-and-some, number_of, open_in, option_map, parts, point_in, prefix-drop, prefix-none, prefix-refl, prefix-same, prefix-trans, prefixes-compare, recovered, refl, resolved, resolved_log, same-some, since, stage, subst, suc, sym, take, take-append-drop, true, unwrap_or, zero, ℕ, ◌++◌, ◌-◌, ◌<◌, ◌==◌, ◌∙◌, ◌∷◌, ◌≡◌, ◌≤◌, ◌⊎◌}
use Rattle.transaction_laws.proofs.Kept.Moves.{Under}
use Rattle.transaction_laws.proofs.Entries.Since.{call-number, call-round, part-in, in-part, open-number}
use Rattle.transaction_laws.proofs.Entries.Endings.{OpenAt, Closing, EndsOrSame, Standing, end-last, known-stands, standing-closing, closing-fits, closing-past, aligned-ended}
use Rattle.transaction_laws.proofs.Entries.Even.{AppliedInAll, even-logs}
use Rattle.transaction_laws.proofs.Entries.Machine.{stage-append, formed-append, open_in-stage, last-number}

-- ---- logs under others

pub under-refl : (xs : List Entry) → Under xs xs
under-refl xs = record { prefix = xs; calls = []; is = sym (append-nil xs); stands = prefix-refl xs; only = tt }

pub under-prefix : (xs ys : List Entry) → Prefix xs ys → Under xs ys
under-prefix xs ys f = record { prefix = xs; calls = []; is = sym (append-nil xs); stands = f; only = tt }

all-prefix : (P : Entry → Type 0) (xs ys : List Entry) → Prefix xs ys → AllByRecursion P ys → AllByRecursion P xs
all-prefix P xs ys (more, e) h = all-first P xs more (subst (AllByRecursion P) e h)

all-drop : (P : Entry → Type 0) (n : ℕ) (xs : List Entry) → AllByRecursion P xs → AllByRecursion P (drop n xs)
all-drop P n xs h = all-behind P (take n xs) (drop n xs) (subst (AllByRecursion P) (sym (take-append-drop n xs)) h)

pub under-trans : (xs ys zs : List Entry) → Under xs ys → Under ys zs → Under xs zs
under-trans xs ys zs f g = by (prefixes-compare f.prefix g.prefix ys f.stands (g.calls, g.is))
  where
    by : Prefix f.prefix g.prefix ⊎ Prefix g.prefix f.prefix → Under xs zs
    by (inl h) = record { prefix = f.prefix; calls = f.calls; is = f.is; stands = prefix-trans f.prefix g.prefix zs h g.stands; only = f.only }
    by (inr (part, e)) =
        let rest = f.stands.0 in
        let is : g.prefix ++ (part ++ rest) ≡ g.prefix ++ g.calls =
        sym (append_assoc g.prefix part rest) ∙ ap (λ z. z ++ rest) (sym e) ∙ sym f.stands.1 ∙ g.is in
        let calls = append_cancel_left g.prefix (part ++ rest) g.calls is in
        record {
          prefix = g.prefix;
          calls = part ++ f.calls;
          is = f.is ∙ ap (λ z. z ++ f.calls) e ∙ append_assoc g.prefix part f.calls;
          stands = g.stands;
          only = all-append IsCall part f.calls (all-first IsCall part rest (subst OnlyCalls (sym calls) g.only)) f.only;
        }

pub under-calls : (xs ys es : List Entry) → Under xs ys → OnlyCalls es → Under (xs ++ es) ys
under-calls xs ys es f o = record {
  prefix = f.prefix;
  calls = f.calls ++ es;
  is = ap (λ z. z ++ es) f.is ∙ append_assoc f.prefix f.calls es;
  stands = f.stands;
  only = all-append IsCall f.calls es f.only o;
}

-- behind a position
pub under-drop : (n : ℕ) (xs ys : List Entry) → Under xs ys → Under (drop n xs) (drop n ys)
under-drop n xs ys f = elim (cases_lt (length f.prefix) n) [
  | inl l ↦
      let e : drop n xs ≡ drop (n - length f.prefix) f.calls =
      sym (drop-behind n (length f.prefix) xs (omega (arith, l)))
      ∙ ap (λ z. drop (n - length f.prefix) z) (ap (drop (length f.prefix)) f.is ∙ drop-append_seam f.prefix f.calls) in
      record {
        prefix = [];
        calls = drop n xs;
        is = refl;
        stands = prefix-none (drop n ys);
        only = subst OnlyCalls (sym e) (all-drop IsCall (n - length f.prefix) f.calls f.only);
      }
  | inr l ↦ record {
    prefix = drop n f.prefix;
    calls = f.calls;
    is = ap (drop n) f.is ∙ drop-append-le n f.prefix f.calls l;
    stands = prefix-drop f.prefix ys n f.stands l;
    only = f.only;
  }
]

-- what holds of calls and of all entries of the other log
all-under : (P : Entry → Type 0) → ((x : Entry) → IsCall x → P x) → (xs ys : List Entry) → Under xs ys → AllByRecursion P ys → AllByRecursion P xs
all-under P calls xs ys f h =
    subst (AllByRecursion P) (sym f.is) (all-append P f.prefix f.calls (all-prefix P f.prefix ys f.stands h) (all-mono IsCall P calls f.calls f.only))

-- what isn't a call stands in the other log too
in-under : (x : Entry) (xs ys : List Entry) → (IsCall x → ⊥) → Under xs ys → In x xs → In x ys
in-under x xs ys order f i = elim (in-cases x f.prefix f.calls (subst (In x) f.is i)) [
  | inl k ↦ subst (In x) (sym f.stands.1) (in-left x f.prefix f.stands.0 k)
  | inr k ↦ absurd (order (all-at IsCall f.calls f.only x k))
]

-- ---- aligned logs

-- fewer entries of them
pub aligned-under : (E : Database) (D : Deployment) (before now : ℕ) (K : Transactions) (heard : ℕ) (logs fewer : ℕ → List Entry) → before ≤ now → Aligned E D before K logs
    → ((p : ℕ) → nat_lt p (parts D) ≡ true → WellFormed (first_stage E p) (fewer p) × ((stage E p (fewer p)).point ≤ now))
    → ((p : ℕ) → nat_lt p (parts D) ≡ true → Under (fewer p) (logs p) × Prefix (K.closed p) (fewer p))
    → ((p x : ℕ) → nat_lt p (parts D) ≡ true → point_in K.agreed ≡ Some x → Prefix (K.decided p) (fewer p))
    → Aligned E D now (record K { heard = heard }) fewer
aligned-under E D before now K heard logs fewer l k f u d = record {
  formed = λ p part. (f p part).0;
  past = λ p part. (f p part).1;
  prefix = λ p part. (u p part).1;
  over = k.over;
  below = k.below;
  only = λ p part. all-under (OfNumber K.number) (call-number K.number) (since K fewer p) (since K logs p) (under p part) (k.only p part);
  fresh = λ p q part other e. all-under IsCall (λ x c. c) (since K fewer q) (since K logs q) (under q other) (k.fresh p q part other e);
  ends = λ p part o i. k.ends p part o (in-under (Done K.number o) (since K fewer p) (since K logs p) (λ c. c) (under p part) i);
  snapshot = λ p part e. all-under NoRound call-round (since K fewer p) (since K logs p) (under p part) (k.snapshot p part e);
  decided = λ p x part e. let r = k.decided p x part e in (d p x part e, r.1, r.2);
  agreed = λ x e. omega (arith, k.agreed x e, l);
  even = k.even;
}
  where
    under : (p : ℕ) → nat_lt p (parts D) ≡ true → Under (since K fewer p) (since K logs p)
    under p part = under-drop (length (K.closed p)) (fewer p) (logs p) (u p part).0

-- the same logs
aligned-same : (E : Database) (D : Deployment) (now : ℕ) (K : Transactions) (logs same : ℕ → List Entry) → Aligned E D now K logs
    → ((p : ℕ) → nat_lt p (parts D) ≡ true → same p ≡ logs p) → Aligned E D now K same
aligned-same E D now K logs same k is = aligned-under E D now now K K.heard logs same (omega arith) k
    (λ p part. let e = sym (is p part) in
    (subst (WellFormed (first_stage E p)) e (k.formed p part), subst (λ z. (stage E p z).point ≤ now) e (k.past p part)))
    (λ p part. (under-prefix (same p) (logs p) (prefix-same (same p) (logs p) (is p part)), subst (Prefix (K.closed p)) (sym (is p part)) (k.prefix p part)))
    (λ p x part e. subst (Prefix (K.decided p)) (sym (is p part)) (k.decided p x part e).0)

-- ---- the transaction that is open in one of them

-- the greatest of those that are open, where no other number is
abbrev NoneOr : ℕ → Option ℕ → Type 0
NoneOr n o = (o ≡ None) ⊎ (o ≡ Some n)

greater-either : (n : ℕ) (a b : Option ℕ) → NoneOr n a → NoneOr n b → NoneOr n (greater a b)
greater-either n None b h k = k
greater-either n (Some a) None h k = h
greater-either n (Some a) (Some b) (inl h) k = absurd (none-and-some h refl)
greater-either n (Some a) (Some b) (inr h) (inl k) = absurd (none-and-some k refl)
greater-either n (Some a) (Some b) (inr h) (inr k) = inr (ap Some (omega (arith, same-some h, same-some k)))

greater-first : (n : ℕ) (a b : Option ℕ) → a ≡ Some n → NoneOr n b → greater a b ≡ Some n
greater-first n None b h k = absurd (none-and-some refl h)
greater-first n (Some a) None h k = h
greater-first n (Some a) (Some b) h (inl k) = absurd (none-and-some k refl)
greater-first n (Some a) (Some b) h (inr k) = ap Some (omega (arith, same-some h, same-some k))

greater-second : (n : ℕ) (a b : Option ℕ) → NoneOr n a → b ≡ Some n → greater a b ≡ Some n
greater-second n None b h k = k
greater-second n (Some a) b (inl h) k = absurd (none-and-some h refl)
greater-second n (Some a) b (inr h) k = greater-first n (Some a) b h (inr k)

open-either : (n : ℕ) (ls : List (List Entry)) → AllByRecursion (λ l. NoneOr n (open_in l)) ls → NoneOr n (greatest_open ls)
open-either n [] h = inl refl
open-either n (l ∷ ls) h = greater-either n (open_in l) (greatest_open ls) h.0 (open-either n ls h.1)

open-greatest : (n : ℕ) (ls : List (List Entry)) → AllByRecursion (λ l. NoneOr n (open_in l)) ls → (l : List Entry) → In l ls → open_in l ≡ Some n → greatest_open ls ≡ Some n
open-greatest n [] h l i e = absurd i
open-greatest n (x ∷ ls) h l (inl q) e = greater-first n (open_in x) (greatest_open ls) (ap open_in q ∙ e) (open-either n ls h.1)
open-greatest n (x ∷ ls) h l (inr i) e = greater-second n (open_in x) (greatest_open ls) h.0 (open-greatest n ls h.1 l i e)

-- What a recovery makes of aligned logs.
module _ (E : Database) (D : Deployment) (now : ℕ) (K : Transactions) (logs : ℕ → List Entry) (k : Aligned E D now K logs) where
  -- With the first outcome that is known it may end, where it is open.
  pub stands : (p r : ℕ) → nat_lt p (parts D) ≡ true → OpenAt E K logs p r → Standing D K logs (resolved E D logs K.number)
  stands p r part e = known-stands E D now K logs k p r part e (map (λ q. last_done E q (logs q)) (all_parts D))
      (λ q a other i. subst (λ x. In x (map (λ q. last_done E q (logs q)) (all_parts D))) (end-last E D now K logs k q a other i)
      (in-map (λ q. last_done E q (logs q)) q (all_parts D) (part-in D q other)))
      (λ a i. let q = in-map-from (λ q. last_done E q (logs q)) (Some (K.number, a)) (all_parts D) i in (q.0, in-part D q.0 q.1, q.2))

  closing : (p r : ℕ) → nat_lt p (parts D) ≡ true → OpenAt E K logs p r → Closing D K logs (resolved E D logs K.number)
  closing p r part e = standing-closing E D now K logs k (resolved E D logs K.number) (stands p r part e)

  -- ---- what a recovery makes of a log

  abbrev greatest : Option ℕ
  greatest = greatest_open (map logs (all_parts D))

  -- the log that it goes on with
  abbrev pub goes_on : ℕ → List Entry
  goes_on p = resolved_log E D logs greatest p

  open-is : (p : ℕ) (o : Option (ℕ × ℕ)) → (stage E p (logs p)).opened ≡ o → open_in (logs p) ≡ option_map (λ x. x.0) o
  open-is p o e = open_in-stage E p (logs p) ∙ ap (option_map (λ x. x.0)) e

  opens : (p : ℕ) → nat_lt p (parts D) ≡ true → (o : Option (ℕ × ℕ)) → (stage E p (logs p)).opened ≡ o → NoneOr K.number (open_in (logs p))
  opens p part None e = inl (open-is p None e)
  opens p part (Some (m, r)) e = inr (open-is p (Some (m, r)) e ∙ ap Some (open-number E D now K logs k p part m r e))

  greatest-is : (p r : ℕ) → nat_lt p (parts D) ≡ true → OpenAt E K logs p r → greatest ≡ Some K.number
  greatest-is p r part e = open-greatest K.number (map logs (all_parts D))
      (all-from (λ l. NoneOr K.number (open_in l)) (map logs (all_parts D)) (λ l i.
      let q = in-map-from logs l (all_parts D) i in
      subst (λ z. NoneOr K.number (open_in z)) q.2 (opens q.0 (in-part D q.0 q.1) (stage E q.0 (logs q.0)).opened refl)))
      (logs p) (in-map logs p (all_parts D) (part-in D p part)) (open-is p (Some (K.number, r)) e)

  -- It is that log, where nothing is open in that, and else the log with the end.
  abbrev pub GoesOn : ℕ → Type 0
  GoesOn p =
      (((stage E p (logs p)).opened ≡ None) × (goes_on p ≡ logs p))
      ⊎ ((r : ℕ) × OpenAt E K logs p r × (goes_on p ≡ logs p ++ Done K.number (resolved E D logs K.number) ∷ []))

  pub goes-on : (p : ℕ) → nat_lt p (parts D) ≡ true → (o : Option (ℕ × ℕ)) → (stage E p (logs p)).opened ≡ o → GoesOn p
  goes-on p part None e = inl (e, ap (λ z. closed (logs p) z greatest (resolved E D logs (unwrap_or greatest 0))) (open-is p None e))
  goes-on p part (Some (m, r)) e =
      let n = K.number in
      let at : OpenAt E K logs p r = e ∙ ap (λ z. Some (z, r)) (open-number E D now K logs k p part m r e) in
      let o = resolved E D logs n in
      inr (
        r,
        at,
        ap (λ z. closed (logs p) z greatest (resolved E D logs (unwrap_or greatest 0))) (open-is p (Some (n, r)) at)
            ∙ ap (λ z. closed (logs p) (Some n) z (resolved E D logs (unwrap_or z 0))) (greatest-is p r part at)
            ∙ ap (λ z. logs p ++ Done n z ∷ []) (if-true (n == n) o Dropped (eqb-same n)),
      )

  -- It fits, nothing is open in it, and no point is later.
  goes-on-formed : (p : ℕ) → nat_lt p (parts D) ≡ true → GoesOn p
      → WellFormed (first_stage E p) (goes_on p) × ((stage E p (goes_on p)).point ≤ now) × ((stage E p (goes_on p)).opened ≡ None)
  goes-on-formed p part (inl (none, is)) = (
    subst (WellFormed (first_stage E p)) (sym is) (k.formed p part),
    subst (λ z. (stage E p z).point ≤ now) (sym is) (k.past p part),
    ap (λ z. (stage E p z).opened) is ∙ none,
  )
  goes-on-formed p part (inr (r, e, is)) =
      let o = resolved E D logs K.number in
      let end = Done K.number o ∷ [] in
      let c = closing p r part e in
      let at = ap (stage E p) is ∙ stage-append (first_stage E p) (logs p) end in (
        subst (WellFormed (first_stage E p)) (sym is) (formed-append (first_stage E p) (logs p) end (k.formed p part) (closing-fits E D now K logs k p r o part e c, tt)),
        subst (λ z. z.point ≤ now) (sym at) (closing-past E D now K logs k (stage E p (logs p)).point o c (k.past p part)),
        ap (λ z. z.opened) at,
      )

-- What a recovery goes on with: a log in which nothing is open, with no later point, and no greater number than the greatest done.
pub record Recovered (E : Database) (D : Deployment) (now : ℕ) (logs : ℕ → List Entry) (p : ℕ) : Type 0 where
  pub formed : WellFormed (first_stage E p) (logs p)
  pub past : (stage E p (logs p)).point ≤ now
  pub over : (stage E p (logs p)).opened ≡ None
  pub number : (stage E p (logs p)).number ≤ greatest_done E logs (parts D)

pub greatest-done : (E : Database) (logs : ℕ → List Entry) (n p : ℕ) → p < n → number_of (last_done E p (logs p)) ≤ greatest_done E logs n
greatest-done E logs zero p l = absurd (omega (arith, l))
greatest-done E logs (suc n) p l = elim (cases_eq p n) [
  | inl e ↦ subst (λ q. number_of (last_done E q (logs q)) ≤ greatest_done E logs (suc n)) (sym e) (omega arith)
  | inr d ↦ omega (arith, greatest-done E logs n p (omega (arith, l, d)))
]

pub aligned-recovered : (E : Database) (D : Deployment) (now : ℕ) (K : Transactions) (shown : ℕ → Shown) → Aligned E D now K (chosen D shown)
    → (p : ℕ) → nat_lt p (parts D) ≡ true → Recovered E D now (recovered E D shown) p
aligned-recovered E D now K shown k p part = record {
  formed = f.0;
  past = f.1;
  over = f.2;
  number = omega (arith, greatest-done E after (parts D) p below, last-number E p (after p) f.0 f.2);
}
  where
    after : ℕ → List Entry
    after = recovered E D shown

    f : WellFormed (first_stage E p) (after p) × ((stage E p (after p)).point ≤ now) × ((stage E p (after p)).opened ≡ None)
    f = let c = chosen D shown in goes-on-formed E D now K c k p part (goes-on E D now K c k p part (stage E p (c p)).opened refl)

    below : p < parts D
    below = grind (arith, nat_tests, part)

-- ---- where some of them are closed

-- the last transaction is open in the log of one of the first n partitions, or nothing is open in them
any-open : (E : Database) (logs : ℕ → List Entry) (n : ℕ)
    → ((p : ℕ) × (p < n) × (x : ℕ × ℕ) × ((stage E p (logs p)).opened ≡ Some x)) ⊎ ((p : ℕ) → p < n → (stage E p (logs p)).opened ≡ None)
any-open E logs zero = inr (λ p l. absurd (omega (arith, l)))
any-open E logs (suc n) = here (stage E n (logs n)).opened refl (any-open E logs n)
  where
    Any : ℕ → Type 0
    Any n = (p : ℕ) × (p < n) × (x : ℕ × ℕ) × ((stage E p (logs p)).opened ≡ Some x)

    here : (o : Option (ℕ × ℕ)) → (stage E n (logs n)).opened ≡ o → Any n ⊎ ((p : ℕ) → p < n → (stage E p (logs p)).opened ≡ None)
        → Any (suc n) ⊎ ((p : ℕ) → p < suc n → (stage E p (logs p)).opened ≡ None)
    here (Some x) e k = inl (n, omega arith, x, e)
    here None e (inl (p, l, x, f)) = inl (p, omega (arith, l), x, f)
    here None e (inr none) = inr (λ p l. elim (cases_eq p n) [
      | inl q ↦ subst (λ z. (stage E z (logs z)).opened ≡ None) (sym q) e
      | inr d ↦ none p (omega (arith, l, d))
    ])

-- Some of these logs have the end of the transaction that is open in another one, and else the logs are the same.
module _ (E : Database) (D : Deployment) (now : ℕ) (K : Transactions) (logs : ℕ → List Entry) (k : Aligned E D now K logs) (again : ℕ → List Entry)
    (either : (p : ℕ) → nat_lt p (parts D) ≡ true → (again p ≡ logs p) ⊎ (again p ≡ goes_on E D now K logs k p)) where
  abbrev outcome : Outcome
  outcome = resolved E D logs K.number

  -- what such a log is
  again-is : (p : ℕ) → nat_lt p (parts D) ≡ true → EndsOrSame E K logs outcome again p
  again-is p part = elim (either p part) [
    | inl e ↦ inl e
    | inr e ↦ elim (goes-on E D now K logs k p part (stage E p (logs p)).opened refl) [ inl (none, is) ↦ inl (e ∙ is) | inr (r, at, is) ↦ inr (r, at, e ∙ is) ]
  ]

  again-open : (p r : ℕ) → nat_lt p (parts D) ≡ true → OpenAt E K logs p r → Aligned E D now (record K { agreed = Some outcome }) again
  again-open p r part at = aligned-ended E D now K logs k p r part at outcome (closing E D now K logs k p r part at) again again-is K.due

  -- where nothing is open, they are the same
  again-same : ((p : ℕ) → p < parts D → (stage E p (logs p)).opened ≡ None) → (p : ℕ) → nat_lt p (parts D) ≡ true → again p ≡ logs p
  again-same none p part = elim (either p part) [
    | inl e ↦ e
    | inr e ↦ elim (goes-on E D now K logs k p part (stage E p (logs p)).opened refl) [
      | inl (n, is) ↦ e ∙ is
      | inr (r, at, is) ↦ absurd (none-and-some (none p (grind (arith, nat_tests, part))) at)
    ]
  ]

-- Where for some partitions what it goes on with was written already, the logs are aligned still.
pub aligned-again : (E : Database) (D : Deployment) (now : ℕ) (K : Transactions) (shown : ℕ → Shown) → Aligned E D now K (chosen D shown) → (logs : ℕ → List Entry)
    → ((p : ℕ) → nat_lt p (parts D) ≡ true → (logs p ≡ chosen D shown p) ⊎ (logs p ≡ recovered E D shown p))
    → (L : Transactions) × Aligned E D now L logs
aligned-again E D now K shown k logs either = elim (any-open E c (parts D)) [
  | inr none ↦ (K, aligned-same E D now K c logs k (again-same E D now K c k logs either none))
  | inl (p, l, (m, r), e) ↦
      let part : nat_lt p (parts D) ≡ true = grind (arith, nat_tests, l) in
      let at = e ∙ ap (λ z. Some (z, r)) (open-number E D now K c k p part m r e) in
      (record K { agreed = Some (outcome E D now K c k logs either) }, again-open E D now K c k logs either p r part at)
]
  where
    c : ℕ → List Entry
    c = chosen D shown

-- So a call that is applied in one of the logs with which a recovery goes on is so in all.
pub recovered-even : (E : Database) (D : Deployment) (now : ℕ) (K : Transactions) (shown : ℕ → Shown) → Aligned E D now K (chosen D shown)
    → AppliedInAll D (recovered E D shown)
recovered-even E D now K shown k =
    let a = aligned-again E D now K shown k (recovered E D shown) (λ p part. inr refl) in
    even-logs E D now a.0 (recovered E D shown) a.1 (λ p part. (aligned-recovered E D now K shown k p part).over)
