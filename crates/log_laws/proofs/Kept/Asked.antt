-- By which starts a slot asked to join: what a message that waits, is kept or is forgotten makes of that.
use Rattle.log_laws.proofs.Names.{◌≡◌, Bool, true, false, List, [], ◌∷◌, ◌++◌, append_assoc, refl, sym, subst, ap, ◌∙◌, ◌⊎◌, inl, inr, ◌==◌, true≢false, arith, eqb-true, nat_tests, length-append, map-append, filter-append, ℕ, ◌≤◌, ◌&&◌, if◌then◌else◌, flat_map, filter, length, nat_lt, Actor, Site, term_in, same, Letter, Waiting, no_sends, of_term, above_term, SiteState, site_term, on_join_ask, rest, set_at, In, eqb-same, in-left, in-right, in-cases, set-here, set-there, same-true, sent-nothing, LogState, Logs, between, ask_of, asks_in, wait_of, asks_waiting, asks_kept, asks_of_term, asked}
use Rattle.volt_wire.specs.declared.message.Msg.TheVariants as msg
use Rattle.log_laws.proofs.Kept.Moves.{after_site, site_popped, left}
use Rattle.log_laws.proofs.Plain.{flat-push, one-and-others}

-- ---- no more than before

-- The second list is no longer than the first one, and has nothing else in it: what was none or one is none, or that one.
pub record AtMost (xs ys : List ℕ) : Type 0 where
  pub shorter : length ys ≤ length xs
  pub within : (y : ℕ) → In y ys → In y xs

pub at-most-same : (xs : List ℕ) → AtMost xs xs
at-most-same xs = record { shorter = omega arith; within = λ y i. i }

pub at-most-is : (xs ys : List ℕ) → ys ≡ xs → AtMost xs ys
at-most-is xs ys e = subst (λ z. AtMost xs z) (sym e) (at-most-same xs)

pub at-most-then : (xs ys zs : List ℕ) → AtMost xs ys → AtMost ys zs → AtMost xs zs
at-most-then xs ys zs h k = record { shorter = let a = h.shorter in let b = k.shorter in omega (arith, a, b); within = λ y i. h.within y (k.within y i) }

pub at-most-both : (xs ys as_ bs : List ℕ) → AtMost xs ys → AtMost as_ bs → AtMost (xs ++ as_) (ys ++ bs)
at-most-both xs ys as_ bs h k = record {
  shorter = rw (length-append ys bs, length-append xs as_) (let a = h.shorter in let b = k.shorter in omega (arith, a, b));
  within = λ y i. elim (in-cases y ys bs i) [ inl j ↦ in-left y xs as_ (h.within y j) | inr j ↦ in-right y xs as_ (k.within y j) ];
}

-- the other way round
pub at-most-swap : (xs ys : List ℕ) → AtMost (xs ++ ys) (ys ++ xs)
at-most-swap xs ys = record {
  shorter = rw (length-append ys xs, length-append xs ys) (omega arith);
  within = λ y i. elim (in-cases y ys xs i) [ inl j ↦ in-right y xs ys j | inr j ↦ in-left y xs ys j ];
}

-- without what is ahead, or behind
pub at-most-behind : (xs ys : List ℕ) → AtMost (xs ++ ys) ys
at-most-behind xs ys = record { shorter = rw (length-append xs ys) (omega arith); within = λ y i. in-right y xs ys i }

-- what is left of none, and of one
pub at-most-none : (xs ys : List ℕ) → xs ≡ [] → AtMost xs ys → ys ≡ []
at-most-none xs [] e h = refl
at-most-none xs (y ∷ ys) e h = absurd (subst (λ z. In y z) e (h.within y (inl refl)))

pub at-most-one : (xs ys : List ℕ) (a : ℕ) → xs ≡ a ∷ [] → AtMost xs ys → (ys ≡ []) ⊎ (ys ≡ a ∷ [])
at-most-one xs [] a e h = inl refl
at-most-one xs (y ∷ []) a e h = elim (subst (λ z. In y z) e (h.within y (inl refl))) [ inl k ↦ inr (ap (λ z. z ∷ []) (sym k)) | inr i ↦ absurd i ]
at-most-one xs (y ∷ z ∷ ys) a e h = let n = ap length e in let s = h.shorter in absurd (omega (arith, n, s))

-- ---- one of several lists moves on

-- to the end of all
pub at-most-last : (x as_ bs : List ℕ) → AtMost ((x ++ as_) ++ bs) (as_ ++ (bs ++ x))
at-most-last x as_ bs = subst (λ z. AtMost z (as_ ++ (bs ++ x))) (sym (append_assoc x as_ bs))
    (subst (λ z. AtMost (x ++ (as_ ++ bs)) z) (append_assoc as_ bs x) (at-most-swap x (as_ ++ bs)))

-- of four: from the first to the second, from the first to the last, and from the third to the last
pub first-to-second : (x as_ bs cs ds : List ℕ) → AtMost ((x ++ as_) ++ bs ++ cs ++ ds) (as_ ++ (bs ++ x) ++ cs ++ ds)
first-to-second x as_ bs cs ds = at-most-both (((x ++ as_) ++ bs) ++ cs) ((as_ ++ (bs ++ x)) ++ cs) ds ds
    (at-most-both ((x ++ as_) ++ bs) (as_ ++ (bs ++ x)) cs cs (at-most-last x as_ bs) (at-most-same cs)) (at-most-same ds)

pub first-to-last : (x as_ bs cs ds : List ℕ) → AtMost ((x ++ as_) ++ bs ++ cs ++ ds) (as_ ++ bs ++ cs ++ (ds ++ x))
first-to-last x as_ bs cs ds = subst (λ z. AtMost z (as_ ++ bs ++ cs ++ (ds ++ x))) (sym one) (at-most-last x (as_ ++ bs ++ cs) ds)
  where
    one : (x ++ as_) ++ bs ++ cs ++ ds ≡ (x ++ (as_ ++ bs ++ cs)) ++ ds
    one = ap (λ z. z ++ cs ++ ds) (append_assoc x as_ bs) ∙ ap (λ z. z ++ ds) (append_assoc x (as_ ++ bs) cs)

pub third-to-last : (x as_ bs cs ds : List ℕ) → AtMost (as_ ++ bs ++ (x ++ cs) ++ ds) (as_ ++ bs ++ cs ++ (ds ++ x))
third-to-last x as_ bs cs ds = subst (λ z. AtMost z (as_ ++ bs ++ cs ++ (ds ++ x))) (sym (append_assoc (as_ ++ bs) (x ++ cs) ds))
    (subst (λ z. AtMost ((as_ ++ bs) ++ ((x ++ cs) ++ ds)) z) (sym (append_assoc (as_ ++ bs) cs (ds ++ x)))
    (at-most-both (as_ ++ bs) (as_ ++ bs) ((x ++ cs) ++ ds) (cs ++ (ds ++ x)) (at-most-same (as_ ++ bs)) (at-most-last x cs ds)))

-- the first one is forgotten, or the third
pub first-gone : (x as_ bs cs ds : List ℕ) → AtMost ((x ++ as_) ++ bs ++ cs ++ ds) (as_ ++ bs ++ cs ++ ds)
first-gone x as_ bs cs ds = at-most-both ((x ++ as_) ++ bs ++ cs) (as_ ++ bs ++ cs) ds ds
    (at-most-both ((x ++ as_) ++ bs) (as_ ++ bs) cs cs (at-most-both (x ++ as_) as_ bs bs (at-most-behind x as_) (at-most-same bs)) (at-most-same cs)) (at-most-same ds)

pub third-gone : (x as_ bs cs ds : List ℕ) → AtMost (as_ ++ bs ++ (x ++ cs) ++ ds) (as_ ++ bs ++ cs ++ ds)
third-gone x as_ bs cs ds = at-most-both (as_ ++ bs ++ (x ++ cs)) (as_ ++ bs ++ cs) ds ds
    (at-most-both (as_ ++ bs) (as_ ++ bs) (x ++ cs) cs (at-most-same (as_ ++ bs)) (at-most-behind x cs)) (at-most-same ds)

-- the second is parted into itself and the third
pub second-parted : (as_ bs cs ds xs ys : List ℕ) → AtMost bs (xs ++ ys) → AtMost (as_ ++ bs ++ cs ++ ds) (as_ ++ xs ++ ys ++ ds)
second-parted as_ bs cs ds xs ys h = at-most-both (as_ ++ bs ++ cs) (as_ ++ xs ++ ys) ds ds
    (subst (λ z. AtMost (as_ ++ bs ++ cs) z) (sym (append_assoc as_ xs ys))
    (at-most-then (as_ ++ bs ++ cs) (as_ ++ bs) (as_ ++ (xs ++ ys))
    (at-most-then (as_ ++ bs ++ cs) (cs ++ (as_ ++ bs)) (as_ ++ bs) (at-most-swap (as_ ++ bs) cs) (at-most-behind cs (as_ ++ bs)))
    (at-most-both as_ as_ bs (xs ++ ys) (at-most-same as_) h))) (at-most-same ds)

-- those that pass one test, and those that pass another, where none passes both
pub at-most-parted : {A : Type 0} (f : A → List ℕ) (p q : A → Bool) → ((x : A) → p x ≡ true → q x ≡ false) → (xs : List A)
    → AtMost (flat_map f xs) (flat_map f (filter p xs) ++ flat_map f (filter q xs))
at-most-parted f p q apart [] = at-most-same []
at-most-parted f p q apart (x ∷ xs) = choice (p x) (q x) refl refl (at-most-parted f p q apart xs)
  where
    us : List ℕ
    us = flat_map f (filter p xs)

    vs : List ℕ
    vs = flat_map f (filter q xs)

    more : AtMost (flat_map f xs) (us ++ vs) → AtMost (f x ++ flat_map f xs) (f x ++ (us ++ vs))
    more h = at-most-both (f x) (f x) (flat_map f xs) (us ++ vs) (at-most-same (f x)) h

    choice : (b c : Bool) → p x ≡ b → q x ≡ c → AtMost (flat_map f xs) (us ++ vs)
        → AtMost (f x ++ flat_map f xs) (flat_map f (if b then x ∷ filter p xs else filter p xs) ++ flat_map f (if c then x ∷ filter q xs else filter q xs))
    choice true true e d h = absurd (true≢false (sym d ∙ apart x e))
    choice true false e d h = subst (λ z. AtMost (f x ++ flat_map f xs) z) (sym (append_assoc (f x) us vs)) (more h)
    choice false true e d h = at-most-then (f x ++ flat_map f xs) (f x ++ (us ++ vs)) (us ++ (f x ++ vs)) (more h)
        (subst (λ z. AtMost z (us ++ (f x ++ vs))) (append_assoc (f x) us vs)
        (subst (λ z. AtMost ((f x ++ us) ++ vs) z) (append_assoc us (f x) vs)
        (at-most-both (f x ++ us) (us ++ f x) vs vs (at-most-swap (f x) us) (at-most-same vs))))
    choice false false e d h = at-most-then (f x ++ flat_map f xs) (flat_map f xs) (us ++ vs) (at-most-behind (f x) (flat_map f xs)) h

-- ---- what slots asked

-- In the second state each slot has asked another by no more starts than in the first one.
abbrev pub AsksLess : LogState → LogState → Type 0
AsksLess S T = (c l t : ℕ) → AtMost (asked S c l t) (asked T c l t)

-- In this term, with these letters under way from slot c to a site, and with these messages that it takes next.
abbrev pub asked_of : ℕ → ℕ → List Letter → SiteState → List Waiting → List ℕ
asked_of c t ls s ws = asks_in t ls ++ asks_waiting c t s.waiting ++ asks_waiting c t ws ++ asks_of_term c t s

pub asks-moved : (c t : ℕ) (ls ms : List Letter) (s n : SiteState) (ws : List Waiting) → ms ≡ ls → n ≡ s → asked_of c t ms n ws ≡ asked_of c t ls s ws
asks-moved c t ls ms s n ws e f = ap (λ z. asked_of c t z n ws) e ∙ ap (λ z. asked_of c t ls z ws) f

-- where the site keeps no more
pub keeps-less : (c t : ℕ) (ls : List Letter) (s n : SiteState) (ws : List Waiting) → n.waiting ≡ s.waiting → AtMost (asks_of_term c t s) (asks_of_term c t n)
    → AtMost (asked_of c t ls s ws) (asked_of c t ls n ws)
keeps-less c t ls s n ws waiting kept = let as_ = asks_in t ls ++ asks_waiting c t s.waiting ++ asks_waiting c t ws in
    rw waiting (at-most-both as_ as_ (asks_of_term c t s) (asks_of_term c t n) (at-most-same as_) kept)

-- It is under way, waits, is taken next or is kept.
pub in-asked : (S : LogState) (a c t x : ℕ)
    → (In x (asks_in t (between S a c)) ⊎ In x (asks_waiting a t (S.sites c).waiting)) ⊎ (In x (asks_waiting a t (S.pending c)) ⊎ In x (asks_of_term a t (S.sites c)))
    → In x (asked S a c t)
in-asked S a c t x k =
    let bs = asks_in t (between S a c) in
    let ws = asks_waiting a t (S.sites c).waiting in
    let ps = asks_waiting a t (S.pending c) in
    let ks = asks_of_term a t (S.sites c) in
    elim k [
      | inl (inl i) ↦ in-left x (bs ++ ws ++ ps) ks (in-left x (bs ++ ws) ps (in-left x bs ws i))
      | inl (inr i) ↦ in-left x (bs ++ ws ++ ps) ks (in-left x (bs ++ ws) ps (in-right x bs ws i))
      | inr (inl i) ↦ in-left x (bs ++ ws ++ ps) ks (in-right x (bs ++ ws) ps i)
      | inr (inr i) ↦ in-right x (bs ++ ws ++ ps) ks i
    ]

-- where one site alone has changed
pub asks-at : (S T : LogState) (i : ℕ)
    → ((l : ℕ) → (l ≡ i → ⊥) → (T.sites l ≡ S.sites l) × (T.pending l ≡ S.pending l) × ((c : ℕ) → between T c l ≡ between S c l))
    → ((c t : ℕ) → AtMost (asked S c i t) (asked T c i t)) → AsksLess S T
asks-at S T i others here c l t = one-and-others (λ l. AtMost (asked S c l t) (asked T c l t)) i (here c t) (λ l n. at-most-is (asked S c l t) (asked T c l t) (same-asks l (others l n))) l
  where
    same-asks : (l : ℕ) → (T.sites l ≡ S.sites l) × (T.pending l ≡ S.pending l) × ((c : ℕ) → between T c l ≡ between S c l) → asked T c l t ≡ asked S c l t
    same-asks l (s, p, b) = asks-moved c t (between S c l) (between T c l) (S.sites l) (T.sites l) (T.pending l) (b c) s ∙ ap (asked_of c t (between S c l) (S.sites l)) p

-- ---- the first message of a channel

module _ (S : LogState) (from : Actor) (i : ℕ) where
  -- other channels stay
  pub popped-to : (l : ℕ) → (l ≡ i → ⊥) → (c : ℕ) → between (site_popped S from i) c l ≡ between S c l
  popped-to l n c = choice (i == l) refl
    where
      choice : (b : Bool) → (i == l) ≡ b → (if b && same from (Site c) then rest (between S c l) else between S c l) ≡ between S c l
      choice true e = absurd (n (sym (eqb-true i l e)))
      choice false e = refl

  -- an ask in it was the first one
  pub popped-asks : (l : Letter) (ls : List Letter) → S.words.channel from (Site i) ≡ l ∷ ls → (c t : ℕ)
      → asks_in t (between S c i) ≡ wait_of c t (record { from = from; letter = l }) ++ asks_in t (between (site_popped S from i) c i)
  popped-asks l ls e c t = choice (i == i) (same from (Site c)) (eqb-same i) refl
    where
      choice : (a b : Bool) → a ≡ true → same from (Site c) ≡ b
          → asks_in t (between S c i) ≡ (if b then ask_of t l else []) ++ asks_in t (if a && b then rest (between S c i) else between S c i)
      choice true true q d =
          let here : between S c i ≡ l ∷ ls = ap (λ z. S.words.channel z (Site i)) (sym (same-true from (Site c) d)) ∙ e in rw here refl
      choice true false q d = refl
      choice false b q d = absurd (true≢false (sym q))

-- ---- what comes to a site is kept, waits, or is forgotten

-- a message that came
abbrev pub came : Actor → Letter → Waiting
came from l = record { from = from; letter = l }

-- those that a site keeps, where its word and what it keeps are the same
pub asks-of-same : (c t : ℕ) (s n : SiteState) → n.view ≡ s.view → n.asks ≡ s.asks → asks_of_term c t n ≡ asks_of_term c t s
asks-of-same c t s n view asks = ap (λ v. if term_in v == t then asks_kept c n.asks else []) view ∙ ap (λ as_. if site_term s == t then asks_kept c as_ else []) asks

-- an ask is kept
pub kept-more : (s : SiteState) (a slot : ℕ) (l : Letter) → l.body ≡ msg.JoinAsk a slot → l.term ≡ site_term s → (c t : ℕ)
    → asks_of_term c t (on_join_ask s a slot) ≡ asks_of_term c t s ++ wait_of c t (came (Site slot) l)
kept-more s a slot l body term c t = rw (body, term) (choice (site_term s == t) (slot == c) refl)
  where
    choice : (b d : Bool) → (slot == c) ≡ d
        → (if b then asks_kept c (s.asks ++ record { slot = slot; start = a } ∷ []) else [])
        ≡ (if b then asks_kept c s.asks else []) ++ (if d then (if b then a ∷ [] else []) else [])
    choice true true e = rw (filter-append (λ k. k.slot == c) s.asks (record { slot = slot; start = a } ∷ []), e)
        (map-append (λ k. k.start) (filter (λ k. k.slot == c) s.asks) (record { slot = slot; start = a } ∷ []))
    choice true false e = rw (filter-append (λ k. k.slot == c) s.asks (record { slot = slot; start = a } ∷ []), e)
        (map-append (λ k. k.start) (filter (λ k. k.slot == c) s.asks) [])
    choice false true e = refl
    choice false false e = refl

-- From a channel: of the state after a turn in which nothing is sent.
module _ (S : LogState) (from : Actor) (i : ℕ) (l : Letter) (ls : List Letter) (e : S.words.channel from (Site i) ≡ l ∷ ls) (G : Logs) where
  popped-others : (s : SiteState) (k : ℕ) → (k ≡ i → ⊥)
      → ((after_site (site_popped S from i) i s no_sends G).sites k ≡ S.sites k) × ((after_site (site_popped S from i) i s no_sends G).pending k ≡ S.pending k)
      × ((c : ℕ) → between (after_site (site_popped S from i) i s no_sends G) c k ≡ between S c k)
  popped-others s k n =
      (set-there S.sites i s k n, refl, λ c. ap (λ ch. ch (Site c) (Site k)) (sent-nothing (site_popped S from i).words.channel (Site i)) ∙ popped-to S from i k n c)

  popped-site : (s : SiteState)
      → ((c t : ℕ) → AtMost ((wait_of c t (came from l) ++ asks_in t (between (site_popped S from i) c i)) ++ asks_waiting c t (S.sites i).waiting
      ++ asks_waiting c t (S.pending i) ++ asks_of_term c t (S.sites i))
      (asked_of c t (between (site_popped S from i) c i) s (S.pending i)))
      → AsksLess S (after_site (site_popped S from i) i s no_sends G)
  popped-site s h = asks-at S (after_site (site_popped S from i) i s no_sends G) i (popped-others s) (λ c t.
      subst (λ ch. AtMost (asked S c i t) (asked_of c t (ch (Site c) (Site i)) (set_at S.sites i s i) (S.pending i))) (sym (sent-nothing (site_popped S from i).words.channel (Site i)))
      (rw (set-here S.sites i s, popped-asks S from i l ls e c t) (h c t)))

  -- it waits
  pub waits-asks : AsksLess S (after_site (site_popped S from i) i (record (S.sites i) { waiting = (S.sites i).waiting ++ came from l ∷ [] }) no_sends G)
  waits-asks = popped-site (record (S.sites i) { waiting = (S.sites i).waiting ++ came from l ∷ [] }) (λ c t.
      rw (flat-push (wait_of c t) (S.sites i).waiting (came from l))
      (first-to-second (wait_of c t (came from l)) (asks_in t (between (site_popped S from i) c i)) (asks_waiting c t (S.sites i).waiting)
      (asks_waiting c t (S.pending i)) (asks_of_term c t (S.sites i))))

  -- it is forgotten, or isn't an ask
  pub popped-less : (s : SiteState) → s.waiting ≡ (S.sites i).waiting → ((c t : ℕ) → AtMost (asks_of_term c t (S.sites i)) (asks_of_term c t s))
      → AsksLess S (after_site (site_popped S from i) i s no_sends G)
  popped-less s same kept = popped-site s (λ c t.
      let ls = between (site_popped S from i) c i in
      at-most-then _ (asked_of c t ls (S.sites i) (S.pending i)) (asked_of c t ls s (S.pending i))
      (first-gone (wait_of c t (came from l)) (asks_in t ls) (asks_waiting c t (S.sites i).waiting) (asks_waiting c t (S.pending i)) (asks_of_term c t (S.sites i)))
      (keeps-less c t ls (S.sites i) s (S.pending i) same (kept c t)))

  -- it is an ask, which the site keeps
  pub popped-kept : (a slot : ℕ) → l.body ≡ msg.JoinAsk a slot → from ≡ Site slot → l.term ≡ site_term (S.sites i)
      → AsksLess S (after_site (site_popped S from i) i (on_join_ask (S.sites i) a slot) no_sends G)
  popped-kept a slot body is term = popped-site (on_join_ask (S.sites i) a slot) (λ c t.
      rw (kept-more (S.sites i) a slot l body term c t)
      (subst (λ z. AtMost ((wait_of c t (came from l) ++ asks_in t (between (site_popped S from i) c i)) ++ asks_waiting c t (S.sites i).waiting
      ++ asks_waiting c t (S.pending i) ++ asks_of_term c t (S.sites i))
      (asks_in t (between (site_popped S from i) c i) ++ asks_waiting c t (S.sites i).waiting
      ++ asks_waiting c t (S.pending i) ++ (asks_of_term c t (S.sites i) ++ wait_of c t (came z l)))) is
      (first-to-last (wait_of c t (came from l)) (asks_in t (between (site_popped S from i) c i)) (asks_waiting c t (S.sites i).waiting)
      (asks_waiting c t (S.pending i)) (asks_of_term c t (S.sites i)))))

-- From what waited: of the state after a turn in which nothing is sent, with these left.
module _ (S : LogState) (i : ℕ) (ws : List Waiting) (G : Logs) where
  left-others : (s : SiteState) (k : ℕ) → (k ≡ i → ⊥)
      → ((after_site (left S i ws) i s no_sends G).sites k ≡ S.sites k) × ((after_site (left S i ws) i s no_sends G).pending k ≡ S.pending k)
      × ((c : ℕ) → between (after_site (left S i ws) i s no_sends G) c k ≡ between S c k)
  left-others s k n = (set-there S.sites i s k n, set-there S.pending i ws k n, λ c. ap (λ ch. ch (Site c) (Site k)) (sent-nothing S.words.channel (Site i)))

  left-site : (s : SiteState) → ((c t : ℕ) → AtMost (asked S c i t) (asked_of c t (between S c i) s ws)) → AsksLess S (after_site (left S i ws) i s no_sends G)
  left-site s h = asks-at S (after_site (left S i ws) i s no_sends G) i (left-others s) (λ c t.
      subst (λ ch. AtMost (asked S c i t) (asked_of c t (ch (Site c) (Site i)) (set_at S.sites i s i) (set_at S.pending i ws i))) (sym (sent-nothing S.words.channel (Site i)))
      (rw (set-here S.sites i s, set-here S.pending i ws) (h c t)))

  -- all that waited is taken up that is of the term that the site has come to
  pub parted-asks : (s : SiteState) (term : ℕ) → ws ≡ of_term term (S.sites i).waiting → s.waiting ≡ above_term term (S.sites i).waiting
      → ((c t : ℕ) → AtMost (asks_of_term c t (S.sites i)) (asks_of_term c t s)) → AsksLess S (after_site (left S i ws) i s no_sends G)
  parted-asks s term taken stays kept = left-site s (λ c t.
      let bs = asks_in t (between S c i) in
      let old = (S.sites i).waiting in
      let ps = asks_waiting c t (S.pending i) in
      let ks = asks_of_term c t (S.sites i) in
      let up = asks_waiting c t (above_term term old) in
      let now = asks_waiting c t (of_term term old) in
      rw (taken, stays) (at-most-then (asked S c i t) (bs ++ up ++ now ++ ks) (bs ++ up ++ now ++ asks_of_term c t s)
      (second-parted bs (asks_waiting c t old) ps ks up now
      (at-most-parted (wait_of c t) (λ w. nat_lt term w.letter.term) (λ w. w.letter.term == term) (λ w above. apart w.letter.term above) old))
      (at-most-both (bs ++ up ++ now) (bs ++ up ++ now) ks (asks_of_term c t s) (at-most-same (bs ++ up ++ now)) (kept c t))))
    where
      apart : (n : ℕ) → nat_lt term n ≡ true → (n == term) ≡ false
      apart n above = grind (arith, nat_tests, above)

  module _ (x : Waiting) (e : S.pending i ≡ x ∷ ws) where
    -- the first one is forgotten, or isn't an ask
    pub left-less : (s : SiteState) → s.waiting ≡ (S.sites i).waiting → ((c t : ℕ) → AtMost (asks_of_term c t (S.sites i)) (asks_of_term c t s))
        → AsksLess S (after_site (left S i ws) i s no_sends G)
    left-less s same kept = left-site s (λ c t.
        let ls = between S c i in
        rw e (at-most-then _ (asked_of c t ls (S.sites i) ws) (asked_of c t ls s ws)
        (third-gone (wait_of c t x) (asks_in t ls) (asks_waiting c t (S.sites i).waiting) (asks_waiting c t ws) (asks_of_term c t (S.sites i)))
        (keeps-less c t ls (S.sites i) s ws same (kept c t))))

    -- it is an ask, which the site keeps
    pub left-kept : (a slot : ℕ) → x.letter.body ≡ msg.JoinAsk a slot → x.from ≡ Site slot → x.letter.term ≡ site_term (S.sites i)
        → AsksLess S (after_site (left S i ws) i (on_join_ask (S.sites i) a slot) no_sends G)
    left-kept a slot body is term = left-site (on_join_ask (S.sites i) a slot) (λ c t.
        let bs = asks_in t (between S c i) in
        let old = asks_waiting c t (S.sites i).waiting in
        let ps = asks_waiting c t ws in
        let ks = asks_of_term c t (S.sites i) in
        rw (kept-more (S.sites i) a slot x.letter body term c t, e)
        (subst (λ z. AtMost (bs ++ old ++ (wait_of c t x ++ ps) ++ ks) (bs ++ old ++ ps ++ (ks ++ wait_of c t (came z x.letter)))) is
        (third-to-last (wait_of c t x) bs old ps ks)))
