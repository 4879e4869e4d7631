-- What the leaders of partitions told of a new term: how each stands as it began.
use Rattle.volt_wire.specs.declared.message.Msg.TheVariants as msg
use Rattle.transaction_laws.proofs.Names.{Books, Bool, Database, Entry, Everywhere, Firm, Heard, In, IsPart, LastReply, Leadership, LeadershipFits, List, LogState, LogsHold, None, OnlyCalls, Option, Outcome, Prefix, Settled, Some, StateOk, Transactions, WellFormed, [], all_parts, ap, arith, cases_lt, drop, eqb-true, false, first_stage, greater, greatest_told, has_told, if-false, if◌then◌else◌, inl, inr, last_done, last_told, le_trans, length, list_all, list_all-at, list_any-from, not-both, number_of, open_in, open_told, option_map, prefix-grows, prefix-length, prefix-rest, refl, same-some, stage, stage_behind, standing, sym, true, whole, ℕ, ◌++◌, ◌<◌, ◌==◌, ◌∙◌, ◌∷◌, ◌≡◌, ◌≤◌, ◌⊎◌}
use Rattle.transaction_laws.proofs.Entries.{first-sound, stage-sound, stage-append, formed-prefix, calls-opened, calls-number, open_in-stage, last-number, done-append, calls-done, whole-led, part-in}
use Rattle.transaction_laws.proofs.Kept.{everywhere-prefix}

-- ---- lists of what was told

-- no number that was told is above the greatest
pub greatest-above : (told : List Heard) (x : Heard) → In x told → x.transaction ≤ greatest_told told
greatest-above [] x i = absurd i
greatest-above (y ∷ told) x (inl e) = let q = ap (λ z. z.transaction) e in omega (arith, q)
greatest-above (y ∷ told) x (inr i) = let q = greatest-above told x i in omega (arith, q)

-- nor above what none is above
pub greatest-below : (told : List Heard) (n : ℕ) → ((x : Heard) → In x told → x.transaction ≤ n) → greatest_told told ≤ n
greatest-below [] n h = omega arith
greatest-below (y ∷ told) n h = let a = h y (inl refl) in let b = greatest-below told n (λ x i. h x (inr i)) in omega (arith, a, b)

greater-some : (a : ℕ) (o : Option ℕ) (b : ℕ) → greater (Some a) o ≡ Some b → (a ≡ b) ⊎ (o ≡ Some b)
greater-some a None b e = inl (cc)
greater-some a (Some c) b e = elim (cases_lt a c) [ inl l ↦ inr (ap Some (omega (arith, l, same-some e))) | inr l ↦ inl (omega (arith, l, same-some e)) ]

greater-none : (a : ℕ) (o : Option ℕ) → greater (Some a) o ≡ None → ⊥
greater-none a None e = absurd (cc)
greater-none a (Some c) e = absurd (cc)

-- one that was told open is the greatest of those
pub open-some : (told : List Heard) (m : ℕ) → open_told told ≡ Some m → (x : Heard) × In x told × (x.is_open ≡ true) × (x.transaction ≡ m)
open-some [] m e = absurd (cc)
open-some (y ∷ told) m e = choice y.is_open refl e (λ k. open-some told m k)
  where
    choice : (b : Bool) → y.is_open ≡ b → (if b then greater (Some y.transaction) (open_told told) else open_told told) ≡ Some m
        → (open_told told ≡ Some m → (x : Heard) × In x told × (x.is_open ≡ true) × (x.transaction ≡ m))
        → (x : Heard) × In x (y ∷ told) × (x.is_open ≡ true) × (x.transaction ≡ m)
    choice true is k f = elim (greater-some y.transaction (open_told told) m k) [
      | inl q ↦ (y, inl refl, is, q)
      | inr q ↦ let r = f q in (r.0, inr r.1, r.2, r.3)
    ]
    choice false is k f = let r = f k in (r.0, inr r.1, r.2, r.3)

-- or none was
pub open-none : (told : List Heard) → open_told told ≡ None → (x : Heard) → In x told → x.is_open ≡ false
open-none [] e x i = absurd i
open-none (y ∷ told) e x i = choice y.is_open refl e i (λ k j. open-none told k x j)
  where
    choice : (b : Bool) → y.is_open ≡ b → (if b then greater (Some y.transaction) (open_told told) else open_told told) ≡ None → In x (y ∷ told)
        → (open_told told ≡ None → In x told → x.is_open ≡ false) → x.is_open ≡ false
    choice true is k j f = absurd (greater-none y.transaction (open_told told) k)
    choice false is k (inl q) f = ap (λ z. z.is_open) (sym q) ∙ is
    choice false is k (inr j) f = f k j

-- each partition has told, where all have
pub told-by : (S : LogState) (told : List Heard) → list_all (has_told told) (all_parts S.words.deployment) ≡ true → (p : ℕ) → IsPart S p → (x : Heard) × In x told × (x.part ≡ p)
told-by S told all p part =
    let r = list_any-from (λ t. t.part == p) told (list_all-at (has_told told) (all_parts S.words.deployment) p all (part-in S.words.deployment p part)) in
    (r.0, r.1, eqb-true r.0.part p r.2)

-- ---- how a partition stands

-- It has told that this transaction is open, or what its last end is.
standing-cases : (now : Option ℕ) (last : Option (ℕ × Outcome)) (replies : List LastReply) (m : ℕ) (is_open : Bool) (outcome : Option Outcome)
    → standing now last replies ≡ msg.MpState m is_open outcome replies
    → ((now ≡ Some m) × (is_open ≡ true)) ⊎ ((now ≡ None) × (is_open ≡ false) × (number_of last ≡ m) × (outcome ≡ option_map (λ x. x.1) last))
standing-cases (Some n) last replies m is_open outcome e = inl (cc, cc)
standing-cases None None replies m is_open outcome e = inr (refl, cc, cc, cc)
standing-cases None (Some last) replies m is_open outcome e = inr (refl, cc, cc, cc)

same-last : (last : Option (ℕ × Outcome)) (m : ℕ) → number_of last ≡ m → option_map {U = ℕ × Outcome} (λ o. (m, o)) (option_map (λ x. x.1) last) ≡ last
same-last None m e = refl
same-last (Some x) m e = λ i. Some (sym e i, x.1)

-- who told a last end has nothing open
pub last-shut : (x : Heard) (e : ℕ × Outcome) → last_told x ≡ Some e → x.is_open ≡ false
last-shut x e is = choice x.is_open refl is
  where
    choice : (b : Bool) → x.is_open ≡ b → (if b then None else option_map (λ o. (x.transaction, o)) x.outcome) ≡ Some e → x.is_open ≡ false
    choice true at k = absurd (cc)
    choice false at k = at

mapped-some : (o : Option (ℕ × ℕ)) (m : ℕ) → option_map (λ x. x.0) o ≡ Some m → (r : ℕ) × (o ≡ Some (m, r))
mapped-some None m e = absurd (cc)
mapped-some (Some x) m e = (x.1, ap (λ n. Some (n, x.1)) (same-some e))

mapped-none : (o : Option (ℕ × ℕ)) → option_map (λ x. x.0) o ≡ None → o ≡ None
mapped-none None e = refl
mapped-none (Some x) e = absurd (cc)

-- of the log with which its term began, as it was told
abbrev pub OpenTold : Database → List Entry → Heard → Type 0
OpenTold E begun x = (x.is_open ≡ true) × ((r : ℕ) × ((stage E x.part begun).opened ≡ Some (x.transaction, r)))

abbrev pub OverTold : Database → List Entry → Heard → Type 0
OverTold E begun x =
    (x.is_open ≡ false) × ((stage E x.part begun).opened ≡ None)
    × (number_of (last_done E x.part begun) ≡ x.transaction) × (x.outcome ≡ option_map (λ last. last.1) (last_done E x.part begun))

-- Of a partition that told of the term that is heard: nothing is due to it, and behind what its term began with stand only calls.
pub record ToldIs (E : Database) (S : LogState) (F : Firm) (K : Transactions) (x : Heard) : Type 0 where
  pub part : IsPart S x.part
  pub leadership : Leadership
  pub led : S.logs.leadership x.part K.heard ≡ Some leadership
  pub none : K.due x.part K.heard ≡ []
  pub grown : Prefix leadership.begun leadership.log
  pub calls : OnlyCalls (drop (length leadership.begun) leadership.log)
  pub formed : WellFormed (first_stage E x.part) leadership.begun
  pub everywhere : Everywhere S F x.part K.heard (length leadership.begun)
  pub number : (stage E x.part leadership.begun).number ≡ x.transaction
  pub state : OpenTold E leadership.begun x ⊎ OverTold E leadership.begun x

-- the history once this term is heard, with the number and the outcome of the last transaction
abbrev pub heard_with : Transactions → ℕ → ℕ → Option Outcome → Transactions
heard_with K t number agreed = record K { heard = t; number = number; agreed = agreed }

module _ (E : Database) (S : LogState) (F : Firm) (K : Transactions) (now : ℕ) (H : LogsHold S) (B : Books E S F K now) (t : ℕ) (up : K.heard < t)
    (x : Heard) (k : StateOk E S F t x) where
  abbrev begun : List Entry
  begun = k.leadership.begun

  fits : LeadershipFits E S K now x.part t k.leadership
  fits = B.leaderships x.part t k.leadership k.part k.led

  pub told-none : K.due x.part t ≡ []
  told-none = elim (B.due x.part t) [ inl none ↦ none | inr d ↦ absurd (omega (arith, up, d.5)) ]

  grown : Prefix begun k.leadership.log
  grown = (H.leaderships x.part t k.leadership k.led).grown

  formed : WellFormed (first_stage E x.part) begun
  formed = formed-prefix (first_stage E x.part) begun (k.leadership.log ++ K.due x.part t) (prefix-grows begun k.leadership.log (K.due x.part t) grown) fits.formed

  -- What is firm in the term that was heard before is in it too.
  pub told-prefix : (h : Leadership) → S.logs.leadership x.part K.heard ≡ Some h → (xs : List Entry) → Prefix xs h.log → Everywhere S F x.part K.heard (length xs)
      → Prefix xs begun × Everywhere S F x.part t (length xs)
  told-prefix h led xs f e = let at = everywhere-prefix S F H x.part K.heard t h k.leadership xs led k.led up f e in let short = prefix-length xs begun at in (
    at,
    record { reach = le_trans short k.everywhere.reach; firm = e.firm },
  )

  stands : (OpenTold E begun x ⊎ OverTold E begun x) × ((stage E x.part begun).number ≡ x.transaction)
  stands = elim (standing-cases (open_in begun) (last_done E x.part begun) x.replies x.transaction x.is_open x.outcome k.told) [
    | inl (now, is) ↦
        let r = mapped-some (stage E x.part begun).opened x.transaction (sym (open_in-stage E x.part begun) ∙ now) in
        (inl (is, r), stage-sound (first_stage E x.part) begun (first-sound E x.part) x.transaction r.0 r.1)
    | inr (now, is, number, outcome) ↦
        let none = mapped-none (stage E x.part begun).opened (sym (open_in-stage E x.part begun) ∙ now) in
        (inr (is, none, number, outcome), sym (last-number E x.part begun formed none) ∙ number)
  ]

  pub told-is : (number : ℕ) (agreed : Option Outcome) → ToldIs E S F (heard_with K t number agreed) x
  told-is number agreed = record {
    part = k.part;
    leadership = k.leadership;
    led = k.led;
    none = told-none;
    grown = grown;
    calls = fits.unheard up;
    formed = formed;
    everywhere = k.everywhere;
    number = stands.1;
    state = stands.0;
  }

-- ---- what follows

module _ (E : Database) (S : LogState) (F : Firm) (K : Transactions) (x : Heard) (k : ToldIs E S F K x) where
  -- the calls behind it
  abbrev told_calls : List Entry
  told_calls = drop (length k.leadership.begun) k.leadership.log

  pub told-whole : whole S K K.heard x.part ≡ k.leadership.begun ++ told_calls
  told-whole = whole-led S K x.part K.heard k.leadership k.led k.none ∙ prefix-rest k.leadership.begun k.leadership.log k.grown

  stage-is : stage E x.part (whole S K K.heard x.part) ≡ stage_behind (stage E x.part k.leadership.begun) told_calls
  stage-is = ap (stage E x.part) told-whole ∙ stage-append (first_stage E x.part) k.leadership.begun told_calls

  pub told-opened : (stage E x.part (whole S K K.heard x.part)).opened ≡ (stage E x.part k.leadership.begun).opened
  told-opened = ap (λ s. s.opened) stage-is ∙ calls-opened (stage E x.part k.leadership.begun) told_calls k.calls

  pub told-number : (stage E x.part (whole S K K.heard x.part)).number ≡ x.transaction
  told-number = ap (λ s. s.number) stage-is ∙ calls-number (stage E x.part k.leadership.begun) told_calls k.calls ∙ k.number

  -- its last end, where nothing is open
  pub told-last : x.is_open ≡ false → last_told x ≡ last_done E x.part (whole S K K.heard x.part)
  told-last shut = elim k.state [
    | inl o ↦ absurd (not-both x.is_open o.0 shut)
    | inr o ↦
        let same = ap (last_done E x.part) told-whole ∙ done-append (E.opening_done x.part) k.leadership.begun told_calls
        ∙ calls-done (last_done E x.part k.leadership.begun) told_calls k.calls in
        if-false x.is_open None (option_map (λ q. (x.transaction, q)) x.outcome) shut
        ∙ ap (option_map (λ q. (x.transaction, q))) o.3 ∙ same-last (last_done E x.part k.leadership.begun) x.transaction o.2 ∙ sym same
  ]

  pub told-settled : x.is_open ≡ false → Settled E S F K x.part
  told-settled shut = record {
    none = k.none;
    leadership = k.leadership;
    led = k.led;
    prefix = k.leadership.begun;
    stands = k.grown;
    calls = k.calls;
    everywhere = k.everywhere;
    over = elim k.state [ inl o ↦ absurd (not-both x.is_open o.0 shut) | inr o ↦ o.1 ];
  }
