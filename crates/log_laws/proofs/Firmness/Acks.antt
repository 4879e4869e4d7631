-- The leader notes what a copy or a joiner acknowledged, and counts what is firm.
use Rattle.log_laws.proofs.Names.{◌≡◌, ◌<◌, ◌≤◌, ◌∷◌, refl, sym, subst, ap, ◌∙◌, inl, inr, ◌==◌, arith, cases_eq, eqb-true, ℕ, not, filter, map, length, is_in, no_sends, becomes, Joiner, is_leader, other_copies, with_position, noted, counts, on_ack, Distinct, all-at, all-from, all-filter, all-if, in-map-from, cond_both, LogState, LogsHold, IsSlot, WasIn, AckOk, CountedOk, KeepsOk, part, site_start, log_at, term_at}
use Rattle.log_laws.proofs.Kept.{LogsGo, one-in, was-been, goes-then, goes-same, SiteRests, map-joiners, map-slots, part-from, reach-same, site-same, says-nothing, rests-goes}
use Rattle.log_laws.proofs.Firmness.Firm.{counts-goes}

-- Where the earlier starts of a slot that runs had lower terms, its own start is the one that was in the term.
pub runs-in : (S : LogState) → LogsHold S → (c t a : ℕ) → WasIn S c t a → 0 < site_start S c → (S.sites c).earlier < t → site_start S c ≡ a
runs-in S H c t a was up low = elim (cases_eq (site_start S c) a) [
  | inl e ↦ e
  | inr n ↦ let k = (was-been S H c t a was).others up n in absurd (omega (arith, k, low))
]

-- ---- the position of a joiner

pub position-slot : (slot position : ℕ) (j : Joiner) → (with_position slot position j).slot ≡ j.slot
position-slot slot position j = cond_both (j.slot == slot) _ _ (λ (z : Joiner). z.slot ≡ j.slot) (λ _. refl) (λ _. refl)

module _ (T : LogState) (H : LogsHold T) (i slot position : ℕ) (up : 0 < site_start T i) (ack : AckOk T slot (term_at T i) position) where
  -- with what its slot acknowledged it is counted as before
  position-counted : (j : Joiner) → CountedOk T (part T i) (term_at T i) j → CountedOk T (part T i) (term_at T i) (with_position slot position j)
  position-counted j k = cond_both (j.slot == slot) _ _ (CountedOk T (part T i) (term_at T i))
      (λ e. let mine = subst (λ c. AckOk T c (term_at T i) position) (sym (eqb-true j.slot slot e)) ack in record {
        been = k.been;
        part_is = k.part_is;
        reached = k.reached;
        position = λ runs low. let m = here mine runs low in omega (arith, m);
        later = λ x streamed start u f above entered same. let m = mine.later u f above entered
            (same ∙ sym start ∙ one-in T H j.slot (term_at T i) x.start mine.start (inr (x, streamed, refl)) mine.was) in omega (arith, m);
      })
      (λ e. k)
    where
      here : AckOk T j.slot (term_at T i) position → site_start T j.slot ≡ j.start → (T.sites j.slot).earlier < term_at T i → position ≤ length (log_at T j.slot)
      here a runs low = a.now (runs-in T H j.slot (term_at T i) a.start a.was (let some = k.been.some in omega (arith, some, runs)) low)

  noted-rests : SiteRests T T.logs.reach i (noted T.words.deployment i (T.sites i) slot position)
  noted-rests = let k : KeepsOk T i = (H.sites i).keeps up in record {
    is = refl;
    member = λ e. e;
    joiner = (site-same T H i T.logs.reach i).joiner;
    counts = inl (refl, refl);
    acks = λ _. all-if (λ a. IsSlot T a.0 → AckOk T a.0 (term_at T i) a.1) (is_in slot (other_copies T.words.deployment i (T.sites i)))
        ((slot, position) ∷ filter (λ a. not (a.0 == slot)) (T.sites i).acks) (T.sites i).acks
        (λ _. ack, all-filter (λ a. IsSlot T a.0 → AckOk T a.0 (term_at T i) a.1) (λ a. not (a.0 == slot)) (T.sites i).acks k.acks) k.acks;
    joiners = λ _. all-from (CountedOk T (part T i) (term_at T i)) (map (with_position slot position) (T.sites i).joiners) (λ j here.
        let r = in-map-from (with_position slot position) j (T.sites i).joiners here in
        subst (CountedOk T (part T i) (term_at T i)) r.2 (position-counted r.0 (all-at (CountedOk T (part T i) (term_at T i)) (T.sites i).joiners k.joiners r.0 r.1)));
    alone = λ _. subst Distinct (sym (map-slots (with_position slot position) (position-slot slot position) (T.sites i).joiners)) k.alone;
    leads = λ _. elim k.leads [ inl e ↦ inl (ap (map (with_position slot position)) e) | inr e ↦ inr e ];
    counted = map-joiners (with_position slot position) (position-slot slot position)
        (λ j. cond_both (j.slot == slot) _ _ (λ (z : Joiner). z.start ≡ j.start) (λ _. refl) (λ _. refl))
        (λ j. cond_both (j.slot == slot) _ _ (λ (z : Joiner). z.stream_start ≡ j.stream_start) (λ _. refl) (λ _. refl)) (T.sites i).joiners;
    on_disk = λ _. k.on_disk;
    held = λ _. k.held;
  }

  -- Ack
  pub on_ack-goes : LogsGo T i (on_ack T.words.deployment i (T.sites i) slot position)
  on_ack-goes = cond_both (is_leader T.words.deployment i (T.sites i)) _ _ (LogsGo T i)
      (λ _. goes-then T i (becomes (noted T.words.deployment i (T.sites i) slot position)) (counts T.words.deployment i)
      (rests-goes T H i (noted T.words.deployment i (T.sites i) slot position) no_sends T.logs.reach noted-rests (reach-same T H) (says-nothing T H i))
      (part-from T i (noted T.words.deployment i (T.sites i) slot position) (λ D s. counts D i s) (λ S K u. counts-goes S K i u) up))
      (λ _. goes-same T i H)
