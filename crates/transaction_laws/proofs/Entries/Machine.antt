-- Which entries fit behind which log: what follows for logs and their prefixes.
use Rattle.transaction_laws.proofs.Names.{Aborted, AllByRecursion, Database, Done, Dropped, Entry, Fits, Frag, In, IsOpen, IsOrder, Kept, List, None, OfNumber, OnlyCalls, Option, Outcome, Prefix, Snapshot, Some, Sp, Stage, WellFormed, [], ap, append-nil, arith, done_behind, first_stage, inl, inr, last_done, next_stage, none-and-some, number_of, open_behind, open_in, option_map, refl, same-some, stage, stage_behind, subst, sym, ℕ, ◌++◌, ◌<◌, ◌∙◌, ◌∷◌, ◌≡◌, ◌≤◌, ◌⊎◌}
use Rattle.transaction_laws.proofs.Kept.Moves.{CallsAt}

-- ---- stages

-- the number of an open transaction is the greatest one
abbrev pub Sound : Stage → Type 0
Sound s = (m r : ℕ) → s.opened ≡ Some (m, r) → s.number ≡ m

pub first-sound : (E : Database) (p : ℕ) → Sound (first_stage E p)
first-sound E p m r e = absurd (none-and-some refl e)

next-sound : (s : Stage) (x : Entry) → Sound s → Sound (next_stage s x)
next-sound s (Sp call client point body) h n r e = h n r e
next-sound s (Frag m round body) h n r e = ap (λ x. x.0) (same-some e)
next-sound s (Done m o) h n r e = absurd (none-and-some refl e)

pub stage-sound : (s : Stage) (xs : List Entry) → Sound s → Sound (stage_behind s xs)
stage-sound s [] h = h
stage-sound s (x ∷ xs) h = stage-sound (next_stage s x) xs (next-sound s x h)

pub stage-append : (s : Stage) (xs ys : List Entry) → stage_behind s (xs ++ ys) ≡ stage_behind (stage_behind s xs) ys
stage-append s [] ys = refl
stage-append s (x ∷ xs) ys = stage-append (next_stage s x) xs ys

pub formed-append : (s : Stage) (xs ys : List Entry) → WellFormed s xs → WellFormed (stage_behind s xs) ys → WellFormed s (xs ++ ys)
formed-append s [] ys h k = k
formed-append s (x ∷ xs) ys h k = (h.0, formed-append (next_stage s x) xs ys h.1 k)

pub formed-first : (s : Stage) (xs ys : List Entry) → WellFormed s (xs ++ ys) → WellFormed s xs
formed-first s [] ys h = tt
formed-first s (x ∷ xs) ys h = (h.0, formed-first (next_stage s x) xs ys h.1)

pub formed-rest : (s : Stage) (xs ys : List Entry) → WellFormed s (xs ++ ys) → WellFormed (stage_behind s xs) ys
formed-rest s [] ys h = h
formed-rest s (x ∷ xs) ys h = formed-rest (next_stage s x) xs ys h.1

pub formed-prefix : (s : Stage) (xs ys : List Entry) → Prefix xs ys → WellFormed s ys → WellFormed s xs
formed-prefix s xs ys (more, e) h = formed-first s xs more (subst (WellFormed s) e h)

-- an entry that fits has no lower number and no lower point
next-number : (s : Stage) (x : Entry) → Sound s → Fits s x → s.number ≤ (next_stage s x).number
next-number s (Sp call client point body) h f = omega arith
next-number s (Frag m round body) h (inl f) = omega (arith, f.1)
next-number s (Frag m round body) h (inr f) = omega (arith, h m f.0 f.1)
next-number s (Done m (Kept call client point reply)) h f = omega (arith, h m f.0.0 f.0.1)
next-number s (Done m (Aborted call client point reply)) h f = omega (arith, h m f.0.0 f.0.1)
next-number s (Done m Dropped) h f = omega (arith, h m f.0 f.1)
next-number s (Done m Snapshot) h f = omega (arith, f.1)

next-point : (s : Stage) (x : Entry) → Fits s x → s.point ≤ (next_stage s x).point
next-point s (Sp call client point body) f = f.1
next-point s (Frag m round body) f = omega arith
next-point s (Done m (Kept call client point reply)) f = f.1
next-point s (Done m (Aborted call client point reply)) f = f.1
next-point s (Done m o) f = omega arith

pub number-rises : (s : Stage) (xs : List Entry) → Sound s → WellFormed s xs → s.number ≤ (stage_behind s xs).number
number-rises s [] h k = omega arith
number-rises s (x ∷ xs) h k = omega (arith, next-number s x h k.0, number-rises (next_stage s x) xs (next-sound s x h) k.1)

pub point-rises : (s : Stage) (xs : List Entry) → WellFormed s xs → s.point ≤ (stage_behind s xs).point
point-rises s [] h = omega arith
point-rises s (x ∷ xs) h = omega (arith, next-point s x h.0, point-rises (next_stage s x) xs h.1)

pub prefix-number : (s : Stage) (xs ys : List Entry) → Sound s → Prefix xs ys → WellFormed s ys → (stage_behind s xs).number ≤ (stage_behind s ys).number
prefix-number s xs ys h (more, e) k = subst (λ z. (stage_behind s xs).number ≤ z.number) (sym (stage-append s xs more) ∙ ap (stage_behind s) (sym e))
    (number-rises (stage_behind s xs) more (stage-sound s xs h) (formed-rest s xs more (subst (WellFormed s) e k)))

pub prefix-point : (s : Stage) (xs ys : List Entry) → Prefix xs ys → WellFormed s ys → (stage_behind s xs).point ≤ (stage_behind s ys).point
prefix-point s xs ys (more, e) k = subst (λ z. (stage_behind s xs).point ≤ z.point) (sym (stage-append s xs more) ∙ ap (stage_behind s) (sym e))
    (point-rises (stage_behind s xs) more (formed-rest s xs more (subst (WellFormed s) e k)))

-- ---- calls on one partition

pub calls-only : (n : ℕ) (es : List Entry) → CallsAt n es → OnlyCalls es
calls-only n [] h = tt
calls-only n (Sp call client point body ∷ es) h = (tt, calls-only n es h.1)
calls-only n (x ∷ es) h = absurd h.0

-- They change neither what is open nor the number.
pub calls-opened : (s : Stage) (es : List Entry) → OnlyCalls es → (stage_behind s es).opened ≡ s.opened
calls-opened s [] h = refl
calls-opened s (Sp call client point body ∷ es) h = calls-opened (record s { point = point }) es h.1
calls-opened s (x ∷ es) h = absurd h.0

pub calls-number : (s : Stage) (es : List Entry) → OnlyCalls es → (stage_behind s es).number ≡ s.number
calls-number s [] h = refl
calls-number s (Sp call client point body ∷ es) h = calls-number (record s { point = point }) es h.1
calls-number s (x ∷ es) h = absurd h.0

pub calls-formed : (s : Stage) (n : ℕ) (es : List Entry) → CallsAt n es → s.opened ≡ None → s.point ≤ n → WellFormed s es
calls-formed s n [] h e l = tt
calls-formed s n (Sp call client point body ∷ es) h e l = ((e, omega (arith, l, h.0)), calls-formed (record s { point = point }) n es h.1 e (omega (arith, h.0)))
calls-formed s n (x ∷ es) h e l = absurd h.0

pub calls-point : (s : Stage) (n : ℕ) (es : List Entry) → CallsAt n es → s.point ≤ n → (stage_behind s es).point ≤ n
calls-point s n [] h l = l
calls-point s n (Sp call client point body ∷ es) h l = calls-point (record s { point = point }) n es h.1 (omega (arith, h.0))
calls-point s n (x ∷ es) h l = absurd h.0

-- ---- what is due behind a log, at most one round or end

abbrev pub AtMostOne : List Entry → Type 0
AtMostOne due = (due ≡ []) ⊎ ((e : Entry) × (due ≡ e ∷ []) × IsOrder e)

-- What fits where nothing is open, fits there at a later point.
order-fits : (s u : Stage) (x : Entry) → IsOrder x → s.opened ≡ None → u.opened ≡ s.opened → u.number ≡ s.number → Fits s x → Fits u x
order-fits s u (Sp call client point body) o e f g h = absurd o
order-fits s u (Frag m round body) o e f g (inl h) = inl (f ∙ e, omega (arith, g, h.1), h.2)
order-fits s u (Frag m round body) o e f g (inr h) = absurd (none-and-some e h.1)
order-fits s u (Done m (Kept call client point reply)) o e f g h = absurd (none-and-some e h.0.1)
order-fits s u (Done m (Aborted call client point reply)) o e f g h = absurd (none-and-some e h.0.1)
order-fits s u (Done m Dropped) o e f g h = absurd (none-and-some e h.1)
order-fits s u (Done m Snapshot) o e f g h = (f ∙ e, omega (arith, g, h.1))

one-formed : (s u : Stage) (due : List Entry) → AtMostOne due → s.opened ≡ None → u.opened ≡ s.opened → u.number ≡ s.number → WellFormed s due → WellFormed u due
one-formed s u due (inl none) e f g h = subst (WellFormed u) (sym none) tt
one-formed s u due (inr (x, is, o)) e f g h = subst (WellFormed u) (sym is) (order-fits s u x o e f g (subst (WellFormed s) is h).0, tt)

-- it still fits behind calls that run where no transaction is open
pub due-formed : (s : Stage) (log es due : List Entry) (n : ℕ) → AtMostOne due → WellFormed s (log ++ due) → CallsAt n es
    → (es ≡ []) ⊎ ((stage_behind s log).opened ≡ None) → (stage_behind s log).point ≤ n → WellFormed s ((log ++ es) ++ due)
due-formed s log es due n one h c (inl none) low = subst (λ x. WellFormed s (x ++ due)) (sym (ap (λ z. log ++ z) none ∙ append-nil log)) h
due-formed s log es due n one h c (inr e) low =
    let calls = calls-only n es c in
    formed-append s (log ++ es) due (formed-append s log es (formed-first s log due h) (calls-formed u n es c e low))
    (subst (λ z. WellFormed z due) (sym (stage-append s log es))
    (one-formed u (stage_behind u es) due one e (calls-opened u es calls) (calls-number u es calls) (formed-rest s log due h)))
  where
    u : Stage
    u = stage_behind s log

-- What is open behind entries, and the number, follow from what was open and the number.
opened-alike : (s u : Stage) (xs : List Entry) → u.opened ≡ s.opened → (stage_behind u xs).opened ≡ (stage_behind s xs).opened
opened-alike s u [] e = e
opened-alike s u (Sp call client point body ∷ xs) e = opened-alike (record s { point = point }) (record u { point = point }) xs e
opened-alike s u (Frag m round body ∷ xs) e = opened-alike (next_stage s (Frag m round body)) (next_stage u (Frag m round body)) xs refl
opened-alike s u (Done m o ∷ xs) e = opened-alike (next_stage s (Done m o)) (next_stage u (Done m o)) xs refl

number-alike : (s u : Stage) (xs : List Entry) → u.number ≡ s.number → (stage_behind u xs).number ≡ (stage_behind s xs).number
number-alike s u [] e = e
number-alike s u (Sp call client point body ∷ xs) e = number-alike (record s { point = point }) (record u { point = point }) xs e
number-alike s u (Frag m round body ∷ xs) e = number-alike (next_stage s (Frag m round body)) (next_stage u (Frag m round body)) xs refl
number-alike s u (Done m o ∷ xs) e = number-alike (next_stage s (Done m o)) (next_stage u (Done m o)) xs refl

-- the stage behind a log, entries and what is due
stage-three : (s : Stage) (log es due : List Entry) → stage_behind s ((log ++ es) ++ due) ≡ stage_behind (stage_behind (stage_behind s log) es) due
stage-three s log es due = stage-append s (log ++ es) due ∙ ap (λ z. stage_behind z due) (stage-append s log es)

pub due-opened : (s : Stage) (log es due : List Entry) (n : ℕ) → CallsAt n es → (stage_behind s ((log ++ es) ++ due)).opened ≡ (stage_behind s (log ++ due)).opened
due-opened s log es due n c =
    let u = stage_behind s log in
    ap (λ z. z.opened) (stage-three s log es due) ∙ opened-alike u (stage_behind u es) due (calls-opened u es (calls-only n es c))
    ∙ ap (λ z. z.opened) (sym (stage-append s log due))

pub due-number : (s : Stage) (log es due : List Entry) (n : ℕ) → CallsAt n es → (stage_behind s ((log ++ es) ++ due)).number ≡ (stage_behind s (log ++ due)).number
due-number s log es due n c =
    let u = stage_behind s log in
    ap (λ z. z.number) (stage-three s log es due) ∙ number-alike u (stage_behind u es) due (calls-number u es (calls-only n es c))
    ∙ ap (λ z. z.number) (sym (stage-append s log due))

-- an order's point is its own, or there is none
order-point : (s u : Stage) (x : Entry) (n : ℕ) → IsOrder x → u.point ≤ n → (next_stage s x).point ≤ n → (next_stage u x).point ≤ n
order-point s u (Sp call client point body) n o low high = absurd o
order-point s u (Frag m round body) n o low high = low
order-point s u (Done m (Kept call client point reply)) n o low high = high
order-point s u (Done m (Aborted call client point reply)) n o low high = high
order-point s u (Done m z) n o low high = low

one-point : (s u : Stage) (due : List Entry) (n : ℕ) → AtMostOne due → u.point ≤ n → (stage_behind s due).point ≤ n → (stage_behind u due).point ≤ n
one-point s u due n (inl none) low high = subst (λ z. (stage_behind u z).point ≤ n) (sym none) low
one-point s u due n (inr (x, is, o)) low high =
    subst (λ z. (stage_behind u z).point ≤ n) (sym is) (order-point s u x n o low (subst (λ z. (stage_behind s z).point ≤ n) is high))

pub due-point : (s : Stage) (log es due : List Entry) (n : ℕ) → AtMostOne due → CallsAt n es → (stage_behind s log).point ≤ n → (stage_behind s (log ++ due)).point ≤ n
    → (stage_behind s ((log ++ es) ++ due)).point ≤ n
due-point s log es due n one c low high =
    let u = stage_behind s log in
    subst (λ z. z.point ≤ n) (sym (stage-three s log es due))
    (one-point u (stage_behind u es) due n one (calls-point u n es c low) (subst (λ z. z.point ≤ n) (stage-append s log due) high))

-- ---- one transaction

-- The round of a transaction is past: a later one is open, or the transaction is over, or a greater number was there.
abbrev Past : Stage → ℕ → ℕ → Type 0
Past s m r = (m < s.number) ⊎ ((s.number ≡ m) × (s.opened ≡ None)) ⊎ ((last : ℕ) × (s.opened ≡ Some (m, last)) × (r < last))

-- It stays so.
past-round : (s : Stage) (m r a k : ℕ) (body : List ℕ) → Sound s → Fits s (Frag a k body) → Past s m r → Past (next_stage s (Frag a k body)) m r
past-round s m r a k body h (inl f) (inl p) = inl (omega (arith, p, f.1))
past-round s m r a k body h (inl f) (inr (inl p)) = inl (omega (arith, p.0, f.1))
past-round s m r a k body h (inl f) (inr (inr p)) = absurd (none-and-some f.0 p.1)
past-round s m r a k body h (inr f) (inl p) = inl (omega (arith, p, h a f.0 f.1))
past-round s m r a k body h (inr f) (inr (inl p)) = absurd (none-and-some p.1 f.1)
past-round s m r a k body h (inr f) (inr (inr p)) =
    let same = same-some (sym f.1 ∙ p.1) in
    inr (inr (k, ap (λ x. Some (x, k)) (ap (λ x. x.0) same), omega (arith, p.2, f.2, ap (λ x. x.1) same)))

past-end : (s : Stage) (m r a : ℕ) (o : Outcome) → Sound s → IsOpen s a → Past s m r → Past (next_stage s (Done a o)) m r
past-end s m r a o h f (inl p) = inl (omega (arith, p, h a f.0 f.1))
past-end s m r a o h f (inr (inl p)) = absurd (none-and-some p.1 f.1)
past-end s m r a o h f (inr (inr p)) = inr (inl (ap (λ x. x.0) (same-some (sym f.1 ∙ p.1)), refl))

past-next : (s : Stage) (x : Entry) (m r : ℕ) → Sound s → Fits s x → Past s m r → Past (next_stage s x) m r
past-next s (Sp call client point body) m r h f p = p
past-next s (Frag a k body) m r h f p = past-round s m r a k body h f p
past-next s (Done a (Kept call client point reply)) m r h f p = past-end s m r a (Kept call client point reply) h f.0 p
past-next s (Done a (Aborted call client point reply)) m r h f p = past-end s m r a (Aborted call client point reply) h f.0 p
past-next s (Done a Dropped) m r h f p = past-end s m r a Dropped h f p
past-next s (Done a Snapshot) m r h f (inl p) = inl (omega (arith, p, f.1))
past-next s (Done a Snapshot) m r h f (inr (inl p)) = inl (omega (arith, p.0, f.1))
past-next s (Done a Snapshot) m r h f (inr (inr p)) = absurd (none-and-some f.0 p.1)

past-behind : (s : Stage) (xs : List Entry) (m r : ℕ) → Sound s → WellFormed s xs → Past s m r → Past (stage_behind s xs) m r
past-behind s [] m r h k p = p
past-behind s (x ∷ xs) m r h k p = past-behind (next_stage s x) xs m r (next-sound s x h) k.1 (past-next s x m r h k.0 p)

-- That round isn't the last one of what is open.
past-closed : (s : Stage) (m r : ℕ) → Sound s → Past s m r → s.opened ≡ Some (m, r) → ⊥
past-closed s m r h (inl p) e = omega (arith, p, h m r e)
past-closed s m r h (inr (inl p)) e = none-and-some p.1 e
past-closed s m r h (inr (inr p)) e = omega (arith, p.2, ap (λ x. x.1) (same-some (sym p.1 ∙ e)))

-- so it is behind entries that fit
past-never : (s : Stage) (xs : List Entry) (m r : ℕ) → Sound s → WellFormed s xs → Past s m r → (stage_behind s xs).opened ≡ Some (m, r) → ⊥
past-never s xs m r h k p = past-closed (stage_behind s xs) m r (stage-sound s xs h) (past-behind s xs m r h k p)

-- Behind a round that is open in the end stands nothing.
round-last : (s : Stage) (more : List Entry) (m r : ℕ) → Sound s → WellFormed s more → s.opened ≡ Some (m, r) → (stage_behind s more).opened ≡ Some (m, r) → more ≡ []
round-last s [] m r h k o e = refl
round-last s (x ∷ xs) m r h k o e = absurd (past-never (next_stage s x) xs m r (next-sound s x h) k.1 (gone x k.0) e)
  where
    over : (a : ℕ) (o : Outcome) → IsOpen s a → Past (next_stage s (Done a o)) m r
    over a end f = inr (inl (ap (λ x. x.0) (same-some (sym f.1 ∙ o)), refl))

    gone : (y : Entry) → Fits s y → Past (next_stage s y) m r
    gone (Sp call client point body) f = absurd (none-and-some f.0 o)
    gone (Frag a k body) (inl f) = absurd (none-and-some f.0 o)
    gone (Frag a k body) (inr f) =
        let same = same-some (sym f.1 ∙ o) in
        inr (inr (k, ap (λ x. Some (x, k)) (ap (λ x. x.0) same), omega (arith, f.2, ap (λ x. x.1) same)))
    gone (Done a (Kept call client point reply)) f = over a (Kept call client point reply) f.0
    gone (Done a (Aborted call client point reply)) f = over a (Aborted call client point reply) f.0
    gone (Done a Dropped) f = over a Dropped f
    gone (Done a Snapshot) f = absurd (none-and-some f.0 o)

-- Its last round is the last entry.
pub frag-last : (s : Stage) (prefix more : List Entry) (m r : ℕ) (body : List ℕ) → Sound s → WellFormed s (prefix ++ Frag m r body ∷ more)
    → (stage_behind s (prefix ++ Frag m r body ∷ more)).opened ≡ Some (m, r) → more ≡ []
frag-last s prefix more m r body h k e =
    let u = stage_behind s prefix in
    let x = Frag m r body in
    round-last (next_stage u x) more m r (next-sound u x (stage-sound s prefix h)) (formed-rest s prefix (x ∷ more) k).1 refl
    (ap (λ z. z.opened) (sym (stage-append s prefix (x ∷ more))) ∙ e)

-- Behind where nothing is open stand only calls, if no number is greater in the end.
over-last : (s : Stage) (more : List Entry) → Sound s → WellFormed s more → s.opened ≡ None → (stage_behind s more).number ≤ s.number → OnlyCalls more
over-last s [] h k o l = tt
over-last s (Sp call client point body ∷ xs) h k o l = (tt, over-last (record s { point = point }) xs h k.1 o l)
over-last s (Frag a r body ∷ xs) h (inl f, k) o l =
    let x = Frag a r body in
    absurd (omega (arith, f.1, l, number-rises (next_stage s x) xs (next-sound s x h) k))
over-last s (Frag a r body ∷ xs) h (inr f, k) o l = absurd (none-and-some o f.1)
over-last s (Done a (Kept call client point reply) ∷ xs) h k o l = absurd (none-and-some o k.0.0.1)
over-last s (Done a (Aborted call client point reply) ∷ xs) h k o l = absurd (none-and-some o k.0.0.1)
over-last s (Done a Dropped ∷ xs) h k o l = absurd (none-and-some o k.0.1)
over-last s (Done a Snapshot ∷ xs) h k o l =
    let x = Done a Snapshot in
    absurd (omega (arith, k.0.1, l, number-rises (next_stage s x) xs (next-sound s x h) k.1))

-- Behind its end, where no later one has begun, stand only calls.
pub done-last : (s : Stage) (prefix more : List Entry) (m : ℕ) (o : Outcome) → Sound s → WellFormed s (prefix ++ Done m o ∷ more)
    → (stage_behind s (prefix ++ Done m o ∷ more)).number ≡ m → OnlyCalls more
done-last s prefix more m o h k e =
    let u = stage_behind s prefix in
    let x = Done m o in
    over-last (next_stage u x) more (next-sound u x (stage-sound s prefix h)) (formed-rest s prefix (x ∷ more) k).1 refl
    (omega (arith, ap (λ z. z.number) (stage-append s prefix (x ∷ more)), e))

-- An end stands behind what fits before it, and what fits behind it.
ended : (s : Stage) (es : List Entry) (m r : ℕ) (o : Outcome) → Sound s → WellFormed s es → In (Done m o) es → (stage_behind s es).opened ≡ Some (m, r) → ⊥
ended s [] m r o h k i e = i
ended s (x ∷ xs) m r o h k (inr i) e = ended (next_stage s x) xs m r o (next-sound s x h) k.1 i e
ended s (x ∷ xs) m r o h k (inl q) e = past-never (next_stage s x) xs m r (next-sound s x h) k.1
    (subst (λ y. Past (next_stage s y) m r) (sym q) (inr (inl (refl, refl)))) e

-- where it is open, it hasn't ended
pub opened-no-end : (s : Stage) (es : List Entry) (m r : ℕ) (o : Outcome) → Sound s → WellFormed s es → (stage_behind s es).opened ≡ Some (m, r) → s.opened ≡ None
    → In (Done m o) es → ⊥
opened-no-end s es m r o h k e n i = ended s es m r o h k i e

-- An end that fits where a transaction is open is its end.
end-of-open : (s : Stage) (n m r : ℕ) (o : Outcome) → Fits s (Done n o) → s.opened ≡ Some (m, r) → n ≡ m
end-of-open s n m r (Kept call client point reply) f e = ap (λ y. y.0) (same-some (sym f.0.1 ∙ e))
end-of-open s n m r (Aborted call client point reply) f e = ap (λ y. y.0) (same-some (sym f.0.1 ∙ e))
end-of-open s n m r Dropped f e = ap (λ y. y.0) (same-some (sym f.1 ∙ e))
end-of-open s n m r Snapshot f e = absurd (none-and-some f.0 e)

-- while it is open, no point is added
pub opened-point : (s : Stage) (es : List Entry) (m a b : ℕ) → Sound s → WellFormed s es → s.opened ≡ Some (m, a) → (stage_behind s es).opened ≡ Some (m, b)
    → (stage_behind s es).point ≡ s.point
opened-point s [] m a b h k e f = refl
opened-point s (Sp call client point body ∷ xs) m a b h k e f = absurd (none-and-some k.0.0 e)
opened-point s (Frag n r body ∷ xs) m a b h (inl g, k) e f = absurd (none-and-some g.0 e)
opened-point s (Frag n r body ∷ xs) m a b h (inr g, k) e f =
    let x = Frag n r body in
    opened-point (next_stage s x) xs m r b (next-sound s x h) k (ap (λ y. Some (y, r)) (ap (λ y. y.0) (same-some (sym g.1 ∙ e)))) f
opened-point s (Done n o ∷ xs) m a b h k e f =
    let same = end-of-open s n m a o k.0 e in
    absurd (past-never (next_stage s (Done n o)) xs m b (next-sound s (Done n o) h) k.1 (inr (inl (same, refl))) f)

-- it has ended where nothing is open any more
pub open-ends : (s : Stage) (es : List Entry) (m r : ℕ) → WellFormed s es → s.opened ≡ Some (m, r) → (stage_behind s es).opened ≡ None
    → (o : Outcome) × In (Done m o) es
open-ends s [] m r k e f = absurd (none-and-some f e)
open-ends s (Sp call client point body ∷ xs) m r k e f = absurd (none-and-some k.0.0 e)
open-ends s (Frag n a body ∷ xs) m r (inl g, k) e f = absurd (none-and-some g.0 e)
open-ends s (Frag n a body ∷ xs) m r (inr g, k) e f =
    let same = ap (λ y. y.0) (same-some (sym g.1 ∙ e)) in
    let later = open-ends (next_stage s (Frag n a body)) xs m a k (ap (λ y. Some (y, a)) same) f in
    (later.0, inr later.1)
open-ends s (Done n o ∷ xs) m r k e f = (o, inl (ap (λ y. Done y o) (end-of-open s n m r o k.0 e)))

-- ---- the ends of one number

-- it isn't above the greatest one
pub end-number : (s : Stage) (es : List Entry) (m : ℕ) (o : Outcome) → Sound s → WellFormed s es → In (Done m o) es → m ≤ (stage_behind s es).number
end-number s [] m o h k i = absurd i
end-number s (x ∷ xs) m o h k (inl q) = let n = number-rises (next_stage s x) xs (next-sound s x h) k.1 in omega (arith, n, ap (λ y. (next_stage s y).number) q)
end-number s (x ∷ xs) m o h k (inr i) = end-number (next_stage s x) xs m o (next-sound s x h) k.1 i

-- A transaction of this number was there, and isn't open.
abbrev Shut : Stage → ℕ → Type 0
Shut s m = (m ≤ s.number) × ((r : ℕ) → s.opened ≡ Some (m, r) → ⊥)

shut-round : (s : Stage) (m a k : ℕ) (body : List ℕ) → Sound s → Fits s (Frag a k body) → Shut s m → Shut (next_stage s (Frag a k body)) m
shut-round s m a k body h (inl f) c = (omega (arith, c.0, f.1), λ r e. omega (arith, c.0, f.1, ap (λ y. y.0) (same-some e)))
shut-round s m a k body h (inr f) c = (omega (arith, c.0, h a f.0 f.1), λ r e. c.1 f.0 (f.1 ∙ ap (λ y. Some (y, f.0)) (ap (λ y. y.0) (same-some e))))

-- It stays so.
shut-next : (s : Stage) (x : Entry) (m : ℕ) → Sound s → Fits s x → Shut s m → Shut (next_stage s x) m
shut-next s (Sp call client point body) m h f c = c
shut-next s (Frag a k body) m h f c = shut-round s m a k body h f c
shut-next s (Done a o) m h f c = (omega (arith, c.0, next-number s (Done a o) h f), λ r e. none-and-some refl e)

-- Its end doesn't fit there
shut-unfit : (s : Stage) (m : ℕ) (o : Outcome) → Shut s m → Fits s (Done m o) → ⊥
shut-unfit s m (Kept call client point reply) c f = c.1 f.0.0 f.0.1
shut-unfit s m (Aborted call client point reply) c f = c.1 f.0.0 f.0.1
shut-unfit s m Dropped c f = c.1 f.0 f.1
shut-unfit s m Snapshot c f = omega (arith, c.0, f.1)

-- nor later
shut-never : (s : Stage) (es : List Entry) (m : ℕ) (o : Outcome) → Sound s → WellFormed s es → Shut s m → In (Done m o) es → ⊥
shut-never s [] m o h k c i = i
shut-never s (x ∷ xs) m o h k c (inl q) = shut-unfit s m o c (subst (Fits s) q k.0)
shut-never s (x ∷ xs) m o h k c (inr i) = shut-never (next_stage s x) xs m o (next-sound s x h) k.1 (shut-next s x m h k.0 c) i

shut-behind : (s : Stage) (x : Entry) (m : ℕ) (o : Outcome) → x ≡ Done m o → Shut (next_stage s x) m
shut-behind s x m o q = subst (λ y. Shut (next_stage s y) m) (sym q) (omega arith, λ r e. none-and-some refl e)

-- so a number has one end
pub one-end : (s : Stage) (es : List Entry) (m : ℕ) (o a : Outcome) → Sound s → WellFormed s es → In (Done m o) es → In (Done m a) es → a ≡ o
one-end s [] m o a h k i j = absurd i
one-end s (x ∷ xs) m o a h k (inl q) (inl r) = cc
one-end s (x ∷ xs) m o a h k (inl q) (inr j) = absurd (shut-never (next_stage s x) xs m a (next-sound s x h) k.1 (shut-behind s x m o q) j)
one-end s (x ∷ xs) m o a h k (inr i) (inl r) = absurd (shut-never (next_stage s x) xs m o (next-sound s x h) k.1 (shut-behind s x m a r) i)
one-end s (x ∷ xs) m o a h k (inr i) (inr j) = one-end (next_stage s x) xs m o a (next-sound s x h) k.1 i j

-- what is open is of this number
abbrev OpenOf : ℕ → Stage → Type 0
OpenOf n s = (m r : ℕ) → s.opened ≡ Some (m, r) → m ≡ n

open-of : (s : Stage) (es : List Entry) (n : ℕ) → OpenOf n s → AllByRecursion (OfNumber n) es → OpenOf n (stage_behind s es)
open-of s [] n h k = h
open-of s (Sp call client point body ∷ xs) n h k = open-of (record s { point = point }) xs n h k.1
open-of s (Frag a b body ∷ xs) n h k = open-of (next_stage s (Frag a b body)) xs n (λ m r e. sym (ap (λ y. y.0) (same-some e)) ∙ k.0) k.1
open-of s (Done a o ∷ xs) n h k = open-of (next_stage s (Done a o)) xs n (λ m r e. absurd (none-and-some refl e)) k.1

-- no other one is open than that of which the entries are
pub opened-number : (s : Stage) (es : List Entry) (n m r : ℕ) → s.opened ≡ None → AllByRecursion (OfNumber n) es → (stage_behind s es).opened ≡ Some (m, r) → m ≡ n
opened-number s es n m r e h f = open-of s es n (λ a b g. absurd (none-and-some e g)) h m r f

-- the greatest number is its, unless all are calls
pub only-number : (s : Stage) (es : List Entry) (n : ℕ) → AllByRecursion (OfNumber n) es → OnlyCalls es ⊎ ((stage_behind s es).number ≡ n)
only-number s [] n h = inl tt
only-number s (Sp call client point body ∷ xs) n h = elim (only-number (record s { point = point }) xs n h.1) [ inl c ↦ inl (tt, c) | inr e ↦ inr e ]
only-number s (Frag a b body ∷ xs) n h = let u = next_stage s (Frag a b body) in elim (only-number u xs n h.1) [
  | inl c ↦ inr (calls-number u xs c ∙ h.0)
  | inr e ↦ inr e
]
only-number s (Done a o ∷ xs) n h = let u = next_stage s (Done a o) in elim (only-number u xs n h.1) [ inl c ↦ inr (calls-number u xs c ∙ h.0) | inr e ↦ inr e ]

-- ---- what a log says of its transactions

open-behind : (s : Stage) (now : Option ℕ) (log : List Entry) → now ≡ option_map (λ x. x.0) s.opened
    → open_behind now log ≡ option_map (λ x. x.0) (stage_behind s log).opened
open-behind s now [] e = e
open-behind s now (Sp call client point body ∷ xs) e = open-behind (record s { point = point }) now xs e
open-behind s now (Frag m r body ∷ xs) e = open-behind (next_stage s (Frag m r body)) (Some m) xs refl
open-behind s now (Done m o ∷ xs) e = open-behind (next_stage s (Done m o)) None xs refl

pub open_in-stage : (E : Database) (p : ℕ) (log : List Entry) → open_in log ≡ option_map (λ x. x.0) (stage E p log).opened
open_in-stage E p log = open-behind (first_stage E p) None log refl

number-behind : (s : Stage) (last : Option (ℕ × Outcome)) (log : List Entry) → (s.opened ≡ None → number_of last ≡ s.number) → (stage_behind s log).opened ≡ None
    → number_of (done_behind last log) ≡ (stage_behind s log).number
number-behind s last [] h e = h e
number-behind s last (Sp call client point body ∷ xs) h e = number-behind (record s { point = point }) last xs h e
number-behind s last (Frag m r body ∷ xs) h e = number-behind (next_stage s (Frag m r body)) last xs (λ f. absurd (none-and-some f refl)) e
number-behind s last (Done m o ∷ xs) h e = number-behind (next_stage s (Done m o)) (Some (m, o)) xs (λ f. refl) e

pub last-number : (E : Database) (p : ℕ) (log : List Entry) → WellFormed (first_stage E p) log → (stage E p log).opened ≡ None
    → number_of (last_done E p log) ≡ (stage E p log).number
last-number E p log h e = number-behind (first_stage E p) (E.opening_done p) log (λ f. refl) e

-- ---- the last end

pub done-append : (last : Option (ℕ × Outcome)) (xs ys : List Entry) → done_behind last (xs ++ ys) ≡ done_behind (done_behind last xs) ys
done-append last [] ys = refl
done-append last (Sp call client point body ∷ xs) ys = done-append last xs ys
done-append last (Frag m r body ∷ xs) ys = done-append last xs ys
done-append last (Done m o ∷ xs) ys = done-append (Some (m, o)) xs ys

-- it was there before, or is one of these
done-from : (last : Option (ℕ × Outcome)) (es : List Entry) (n : ℕ) (o : Outcome) → done_behind last es ≡ Some (n, o) → (last ≡ Some (n, o)) ⊎ In (Done n o) es
done-from last [] n o e = inl e
done-from last (Sp call client point body ∷ xs) n o e = elim (done-from last xs n o e) [ inl f ↦ inl f | inr i ↦ inr (inr i) ]
done-from last (Frag m r body ∷ xs) n o e = elim (done-from last xs n o e) [ inl f ↦ inl f | inr i ↦ inr (inr i) ]
done-from last (Done m a ∷ xs) n o e = elim (done-from (Some (m, a)) xs n o e) [
  | inl f ↦ inr (inl (ap (λ x. Done x.0 x.1) (same-some f)))
  | inr i ↦ inr (inr i)
]

-- its number isn't above the greatest one
done-number : (s : Stage) (last : Option (ℕ × Outcome)) (es : List Entry) → Sound s → WellFormed s es → number_of last ≤ s.number
    → number_of (done_behind last es) ≤ (stage_behind s es).number
done-number s last [] h k l = l
done-number s last (Sp call client point body ∷ xs) h k l = done-number (record s { point = point }) last xs h k.1 l
done-number s last (Frag m r body ∷ xs) h k l =
    let x = Frag m r body in
    done-number (next_stage s x) last xs (next-sound s x h) k.1 (omega (arith, l, next-number s x h k.0))
done-number s last (Done m o ∷ xs) h k l = done-number (next_stage s (Done m o)) (Some (m, o)) xs (next-sound s (Done m o) h) k.1 (omega arith)

-- the last end, where its number is above those before
pub last-in : (E : Database) (p : ℕ) (prefix es : List Entry) (n : ℕ) (o : Outcome) → WellFormed (first_stage E p) (prefix ++ es) → (stage E p prefix).number < n
    → last_done E p (prefix ++ es) ≡ Some (n, o) → In (Done n o) es
last-in E p prefix es n o h l e = elim (done-from (last_done E p prefix) es n o (sym (done-append (E.opening_done p) prefix es) ∙ e)) [
  | inl f ↦
      let b = done-number (first_stage E p) (E.opening_done p) prefix (first-sound E p) (formed-first (first_stage E p) prefix es h) (omega arith) in
      absurd (omega (arith, l, b, ap number_of f))
  | inr i ↦ i
]

-- calls leave it as it is
pub calls-done : (last : Option (ℕ × Outcome)) (es : List Entry) → OnlyCalls es → done_behind last es ≡ last
calls-done last [] h = refl
calls-done last (Sp call client point body ∷ es) h = calls-done last es h.1
calls-done last (x ∷ es) h = absurd h.0

-- Where nothing is open, entries of a number that isn't above the greatest one are calls.
only-again : (s : Stage) (es : List Entry) (n : ℕ) → WellFormed s es → AllByRecursion (OfNumber n) es → s.opened ≡ None → n ≤ s.number → OnlyCalls es
only-again s [] n h a e l = tt
only-again s (Sp call client point body ∷ es) n h a e l = (tt, only-again (record s { point = point }) es n h.1 a.1 e l)
only-again s (Frag m r body ∷ es) n (inl f, h) a e l = absurd (omega (arith, f.1, a.0, l))
only-again s (Frag m r body ∷ es) n (inr f, h) a e l = absurd (none-and-some e f.1)
only-again s (Done m (Kept call client point reply) ∷ es) n h a e l = absurd (none-and-some e h.0.0.1)
only-again s (Done m (Aborted call client point reply) ∷ es) n h a e l = absurd (none-and-some e h.0.0.1)
only-again s (Done m Dropped ∷ es) n h a e l = absurd (none-and-some e h.0.1)
only-again s (Done m Snapshot ∷ es) n h a e l = absurd (omega (arith, h.0.1, a.0, l))

in-done : (s : Stage) (last : Option (ℕ × Outcome)) (es : List Entry) (n : ℕ) (o : Outcome) → WellFormed s es → AllByRecursion (OfNumber n) es → In (Done n o) es
    → done_behind last es ≡ Some (n, o)
in-done s last [] n o h a i = absurd i
in-done s last (Sp call client point body ∷ es) n o h a (inl q) = absurd (cc)
in-done s last (Sp call client point body ∷ es) n o h a (inr i) = in-done (record s { point = point }) last es n o h.1 a.1 i
in-done s last (Frag m r body ∷ es) n o h a (inl q) = absurd (cc)
in-done s last (Frag m r body ∷ es) n o h a (inr i) = in-done (next_stage s (Frag m r body)) last es n o h.1 a.1 i
in-done s last (Done m b ∷ es) n o h a (inr i) = in-done (next_stage s (Done m b)) (Some (m, b)) es n o h.1 a.1 i
in-done s last (Done m b ∷ es) n o h a (inl q) =
    let number : m ≡ n = cc in
    let outcome : b ≡ o = cc in
    let calls = only-again (next_stage s (Done m b)) es n h.1 a.1 refl (omega (arith, number)) in
    calls-done (Some (m, b)) es calls ∙ ap Some (λ i. (number i, outcome i))

pub in-last : (E : Database) (p : ℕ) (prefix es : List Entry) (n : ℕ) (o : Outcome) → WellFormed (first_stage E p) (prefix ++ es) → AllByRecursion (OfNumber n) es
    → In (Done n o) es → last_done E p (prefix ++ es) ≡ Some (n, o)
in-last E p prefix es n o h a i =
    done-append (E.opening_done p) prefix es
    ∙ in-done (stage E p prefix) (last_done E p prefix) es n o (formed-rest (first_stage E p) prefix es h) a i
