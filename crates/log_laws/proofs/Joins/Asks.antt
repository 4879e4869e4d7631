-- A site takes a JoinAsk: it keeps it until it can take the joiner.
use Rattle.log_laws.proofs.Names.{List, ap, arith, refl, subst, sym, ◌≡◌, ◌∷◌, ◌<◌, [], AllByRecursion, ℕ, Site, Letter, Waiting, becomes, on_join_ask, SiteState, all-append, AsksToJoin, LogsHold, LogState, SiteLetterOk, SiteWaitingFrom, SiteWaitingOk, between, part, site_start, term_at}
use Rattle.volt_wire.specs.declared.message.Msg.TheVariants as msg
use Rattle.log_laws.proofs.Kept.{running-slot, AsksLess, left-kept, popped-kept, LogsGo, left, site_popped, becomes-goes, NotesOk, after-nothing, channels-same, noted-holds, noted-same, notes-same}
use Rattle.log_laws.proofs.Plain.{if-empty}
use Rattle.log_laws.proofs.Messages.Pops.{channels-popped}

-- ---- an ask

-- what is known of one
ask-known : (S : LogState) (c i : ℕ) (x : Letter) (a slot : ℕ) → x.body ≡ msg.JoinAsk a slot → SiteLetterOk S c i x → (slot ≡ c) × AsksToJoin S (part S i) c x.term a
ask-known S c i x a slot body k = let r = subst (λ m. SiteLetterOk S c i (record x { body = m })) body k in (r.1, r.2)

ask-waited : (S : LogState) (c i : ℕ) (x : Letter) (a slot : ℕ) → x.body ≡ msg.JoinAsk a slot → SiteWaitingFrom S i (Site c) x → (slot ≡ c) × AsksToJoin S (part S i) c x.term a
ask-waited S c i x a slot body k = let r = subst (λ m. SiteWaitingFrom S i (Site c) (record x { body = m })) body k in (r.1, r.2)

-- the site that keeps it, wherever it came from
ask-noted : (S : LogState) → LogsHold S → (i a slot : ℕ) → AsksToJoin S (part S i) slot (term_at S i) a → 0 < site_start S i → (now : List Waiting) → AllByRecursion (SiteWaitingOk S i) now
    → NotesOk S i (on_join_ask (S.sites i) a slot) now
ask-noted S H i a slot ok up now pending = let o = notes-same S H i in record {
  waiting = o.waiting;
  asks = λ _. all-append (λ a. AsksToJoin S (part S i) a.slot (term_at S i) a.start) (S.sites i).asks (record { slot = slot; start = a } ∷ []) (o.asks up) (ok, tt);
  reports = o.reports;
  pending = λ _. pending;
  none = λ z. absurd (omega (arith, up, z));
}

-- ---- from a channel

pub join-ask-goes : (S : LogState) → LogsHold S → (i c : ℕ) (l : Letter) (ls : List Letter) (a slot : ℕ) → between S c i ≡ record l { body = msg.JoinAsk a slot } ∷ ls
    → 0 < site_start S i → l.start ≡ site_start S i → l.term ≡ term_at S i → LogsGo (site_popped S (Site c) i) i (becomes (on_join_ask (S.sites i) a slot))
join-ask-goes S H i c l ls a slot e up start term = becomes-goes (site_popped S (Site c) i) i s S.logs.streamed refl refl (omega arith)
    (noted-same S i s (site_popped S (Site c) i).words.channel H refl
    (channels-popped S H (Site c) i x ls e (λ _. record { line = λ _ _. if-empty _ _ refl; flow = λ _ _. if-empty _ _ refl; view = λ _. if-empty _ _ refl }))
    (ask-noted S H i a slot (rw (known.0, ← term) known.1) up (S.pending i) ((H.sites i).keeps up).pending)
    (subst (AsksLess S) (after-nothing (site_popped S (Site c) i) i s S.logs) (popped-kept S (Site c) i x ls e S.logs a slot refl (ap Site (sym known.0)) term)))
  where
    s : SiteState
    s = on_join_ask (S.sites i) a slot

    x : Letter
    x = record l { body = msg.JoinAsk a slot }

    known : (slot ≡ c) × AsksToJoin S (part S i) c x.term a
    known = ask-known S c i x a slot refl (subst (AllByRecursion (SiteLetterOk S c i)) e (H.letters c i (running-slot S H i up))).0

-- ---- from what waited

pub join-ask-left-goes : (S : LogState) → LogsHold S → (i c : ℕ) (l : Letter) (ws : List Waiting) (a slot : ℕ)
    → S.pending i ≡ record { from = Site c; letter = record l { body = msg.JoinAsk a slot } } ∷ ws → 0 < site_start S i → l.start ≡ site_start S i → l.term ≡ term_at S i
    → LogsGo (left S i ws) i (becomes (on_join_ask (S.sites i) a slot))
join-ask-left-goes S H i c l ws a slot e up start term = becomes-goes (left S i ws) i s S.logs.streamed refl refl (omega arith)
    (noted-holds S i s S.words.channel ws H refl (channels-same S H) (ask-noted S H i a slot (rw (known.0, ← term) known.1) up ws pend.1)
    (subst (AsksLess S) (after-nothing (left S i ws) i s S.logs) (left-kept S i ws S.logs x e a slot refl (ap Site (sym known.0)) term)))
  where
    s : SiteState
    s = on_join_ask (S.sites i) a slot

    x : Waiting
    x = record { from = Site c; letter = record l { body = msg.JoinAsk a slot } }

    pend : SiteWaitingOk S i x × AllByRecursion (SiteWaitingOk S i) ws
    pend = subst (AllByRecursion (SiteWaitingOk S i)) e ((H.sites i).keeps up).pending

    known : (slot ≡ c) × AsksToJoin S (part S i) c x.letter.term a
    known = ask-waited S c i x.letter a slot refl pend.0.1
