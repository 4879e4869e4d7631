-- A site has written what it owed: a leader counts what is firm, a copy and a joiner acknowledge, and a joiner says once that it has loaded.
use Rattle.log_laws.proofs.Names.{◌≡◌, ◌<◌, Bool, true, false, List, [], refl, sym, subst, ap, ◌∙◌, inl, inr, ◌==◌, arith, ℕ, if◌then◌else◌, length, Option, Some, None, Membership, Agent, Site, Deployment, host_of_slot, term_of, term_in, Letter, becomes, no_sends, only, letter_in, letter_to, Shown, SiteState, Streamed, Joining, leader_in, start_in_view, is_leader, counts, member_written, joiner_written, written, acknowledges, says_loaded, after_sync, In, all-one, same-some, none-and-some, not-both, cond_both, LogState, LogsHold, WasIn, AckOk, LoadedOk, ToldOk, SiteLetterOk, ViewIn, StreamIn, MemberOk, JoinerOk, KeepsOk, end_of, part, site_start, log_at, term_at}
use Rattle.volt_wire.specs.declared.message.Msg.TheVariants as msg
use Rattle.log_laws.proofs.Kept.{LogsGo, some-start, some-term, took-decided, goes-then, goes-same, GoesFrom, SiteRests, JoiningRests, Bare, part-from, reach-same, site-same, site-rests, says-nothing, rests-goes}
use Rattle.log_laws.proofs.Plain.{leader-copy, start-in-view, flat-none, if-empty}
use Rattle.log_laws.proofs.Firmness.Firm.{counts-goes}

-- ---- what it says

module _ (T : LogState) (H : LogsHold T) (i : ℕ) (up : 0 < site_start T i) where
  keeps : KeepsOk T i
  keeps = (H.sites i).keeps up

  -- its position, in the term that it is in
  own-ack : WasIn T i (term_at T i) (site_start T i) → AckOk T i (term_at T i) (T.sites i).on_disk
  own-ack was = record {
    start = site_start T i;
    some = up;
    was = was;
    now = λ _. keeps.on_disk;
    later = λ u e above is start. let r = ((H.entered i u e is).running (sym start)).1 in absurd (omega (arith, r, above));
  }

  module _ (w : Membership) (view : (T.sites i).view ≡ Some w) (decided : In w T.words.history.decided) (was : WasIn T i (term_at T i) (site_start T i)) where
    -- Ack goes to the leader, which is a member.
    abbrev ack-letter : ℕ → Letter
    ack-letter slot = letter_in (term_at T i) (start_in_view T.words.deployment (T.sites i).view slot) (msg.Ack (T.sites i).on_disk)

    ack-ok : (slot : ℕ) → leader_in T.words.deployment (T.sites i).view (part T i) ≡ Some slot → (c : ℕ) → SiteLetterOk T i c (ack-letter slot)
    ack-ok slot e c =
        let r = (leader-copy T.words.deployment w (part T i) slot (ap (λ o. leader_in T.words.deployment o (part T i)) (sym view) ∙ e)).1 in (
          (
            subst (λ n. 0 < n) (sym (start-in-view T.words.deployment i (T.sites i) w view slot r.0 r.1)) (some-start T H w slot r.0 decided r.1),
            subst (λ n. 0 < n) (sym (ap term_in view)) (some-term T H w decided),
          ),
          own-ack was,
        )

    acknowledges-goes : (o : Option ℕ) → leader_in T.words.deployment (T.sites i).view (part T i) ≡ o → LogsGo T i (acknowledges T.words.deployment i (T.sites i) o)
    acknowledges-goes None e = goes-same T i H
    acknowledges-goes (Some slot) e = rests-goes T H i (T.sites i) (only (Site slot) (ack-letter slot)) T.logs.reach (site-same T H i T.logs.reach i) (reach-same T H) (record {
      sites = λ c. all-one (λ l. Bare l × SiteLetterOk T i c l) (slot == c) (ack-letter slot) (λ _. ((refl, refl, refl, tt), ack-ok slot e c));
      ended = λ c v joins of away. flat-none (end_of (site_start T c) (term_of v)) (only (Site slot) (ack-letter slot) (Site c))
          (all-one (λ l. end_of (site_start T c) (term_of v) l ≡ []) (slot == c) (ack-letter slot) (λ _. if-empty _ _ refl));
      told = λ h. tt;
    })

  -- Loaded goes to its agent.
  loaded-ok : (j : Joining) → (T.sites i).joining ≡ Some j → j.is_based ≡ true → LoadedOk T i (site_start T i)
  loaded-ok j some based = let r = (H.sites i).ran up in
      (subst (In (site_start T i)) (sym r.1) (inl refl), λ _ is k here. ap (λ x. x.is_based) (same-some (sym here ∙ some)) ∙ based)

  says_loaded-goes : (j : Joining) → (T.sites i).joining ≡ Some j → j.is_based ≡ true → LogsGo T i (says_loaded T.words.deployment i (T.sites i) j)
  says_loaded-goes j some based = cond_both j.has_told _ _ (LogsGo T i)
      (λ _. goes-same T i H)
      (λ _. rests-goes T H i (record (T.sites i) { joining = Some (record j { has_told = true }) })
      (only (Agent (host_of_slot T.words.deployment i)) (letter_to (site_start T i) (msg.Loaded (site_start T i)))) T.logs.reach rests (reach-same T H) (record {
        sites = λ c. tt;
        ended = λ c v joins of away. refl;
        told = λ h. all-one (ToldOk T i) (host_of_slot T.words.deployment i == h) (letter_to (site_start T i) (msg.Loaded (site_start T i))) (λ _. loaded-ok j some based);
      }))
    where
      loaded : j.is_loaded ≡ true
      loaded = ((H.sites i).joiner j some).based based

      rests : SiteRests T T.logs.reach i (record (T.sites i) { joining = Some (record j { has_told = true }) })
      rests = site-rests T H i T.logs.reach (record (T.sites i) { joining = Some (record j { has_told = true }) }) refl refl refl refl refl refl
          (λ e. absurd (none-and-some e some))
          (λ k e. (
            record j { has_told = true },
            refl,
            subst (λ x. JoiningRests x (record j { has_told = true })) (same-some (sym some ∙ e))
                (record { same = refl; told = λ _. loaded; based = λ _. loaded; still = λ b. b }),
          ))
          (λ _. keeps.on_disk)

  -- a joiner that has loaded has taken the stream of its word
  loaded-took : (j : Joining) → (T.sites i).joining ≡ Some j → j.is_loaded ≡ true
      → (w : Membership) × ((T.sites i).view ≡ Some w) × In w T.words.history.decided × WasIn T i (term_at T i) (site_start T i)
  loaded-took j some loaded = viewed (T.sites i).view refl ((H.sites i).joiner j some).view
    where
      streamed : (w : Membership) (st : Option Streamed) → StreamIn T i w j st → WasIn T i (term_of w) (site_start T i)
      streamed w None u = absurd (not-both j.is_loaded loaded u.loads)
      streamed w (Some st) u = inr (record { start = site_start T i; stream_start = st.stream_start }, u.streamed, refl)

      viewed : (o : Option Membership) → (T.sites i).view ≡ o → ViewIn T i j o
          → (w : Membership) × ((T.sites i).view ≡ Some w) × In w T.words.history.decided × WasIn T i (term_at T i) (site_start T i)
      viewed None e v = absurd (not-both j.is_loaded loaded v.loads)
      viewed (Some w) e v = (
        w,
        e,
        took-decided T H (site_start T i) w v.took,
        subst (λ t. WasIn T i t (site_start T i)) (sym (ap term_in e)) (streamed w j.stream v.stream),
      )

-- ---- once it has written

acknowledges-state : (D : Deployment) (i : ℕ) (s : SiteState) (o : Option ℕ) → (acknowledges D i s o).state ≡ s
acknowledges-state D i s None = refl
acknowledges-state D i s (Some slot) = refl

module _ (T : LogState) (H : LogsHold T) (i : ℕ) (up : 0 < site_start T i) where
  joiner-goes : (j : Joining) → (T.sites i).joining ≡ Some j → LogsGo T i (after_sync T.words.deployment i (T.sites i) (Some j))
  joiner-goes j some = cond_both j.is_based _ _ (LogsGo T i)
      (λ e.
      let o = leader_in T.words.deployment (T.sites i).view (part T i) in
      let k = loaded-took T H i up j some (((H.sites i).joiner j some).based e) in
      goes-then T i (acknowledges T.words.deployment i (T.sites i) o) (λ x. says_loaded T.words.deployment i x j)
      (acknowledges-goes T H i up k.0 k.1 k.2 k.3 o refl)
      (then-loaded e (acknowledges T.words.deployment i (T.sites i) o).state (acknowledges-state T.words.deployment i (T.sites i) o)))
      (λ e. goes-same T i H)
    where
      then-loaded : j.is_based ≡ true → (s : SiteState) → s ≡ T.sites i → GoesFrom T i s (says_loaded T.words.deployment i s j)
      then-loaded based s is S here same pending K = subst (λ D. LogsGo S i (says_loaded D i s j)) same (subst (λ x. LogsGo S i (says_loaded S.words.deployment i x j)) here
          (says_loaded-goes S K i (subst (λ x. 0 < x.start) (sym (here ∙ is)) up) j (ap (λ x. x.joining) (here ∙ is) ∙ some) based))

  member-goes : (T.sites i).joining ≡ None → LogsGo T i (after_sync T.words.deployment i (T.sites i) None)
  member-goes none = choice (is_leader T.words.deployment i (T.sites i)) ((T.sites i).mark == term_at T i)
    where
      m : (w : Membership) × ((T.sites i).view ≡ Some w) × MemberOk T i w
      m = (H.sites i).member up none

      was : WasIn T i (term_at T i) (site_start T i)
      was = subst (λ t. WasIn T i t (site_start T i)) (sym (ap term_in m.1)) (inl (m.2.entered, m.2.is_entered, m.2.since))

      choice : (b c : Bool) → LogsGo T i (if b then counts T.words.deployment i (T.sites i)
          else if c then acknowledges T.words.deployment i (T.sites i) (leader_in T.words.deployment (T.sites i).view (part T i)) else becomes (T.sites i))
      choice true c = counts-goes T H i up
      choice false true = acknowledges-goes T H i up m.0 m.1 m.2.decided was (leader_in T.words.deployment (T.sites i).view (part T i)) refl
      choice false false = goes-same T i H

  pub after_sync-goes : LogsGo T i (after_sync T.words.deployment i (T.sites i) (T.sites i).joining)
  after_sync-goes = choice (T.sites i).joining refl
    where
      choice : (o : Option Joining) → (T.sites i).joining ≡ o → LogsGo T i (after_sync T.words.deployment i (T.sites i) o)
      choice None e = member-goes e
      choice (Some j) e = joiner-goes j e

  -- ---- it writes

  -- a member, and a joiner, with any contents of its disk
  member-rests : (contents : List Shown) → SiteRests T T.logs.reach i (record (member_written (T.sites i)) { contents = contents })
  member-rests contents = site-rests T H i T.logs.reach (record (member_written (T.sites i)) { contents = contents }) refl refl refl refl refl refl
      (λ e. e) (site-same T H i T.logs.reach i).joiner (λ _. omega arith)

  joiner-rests : (j : Joining) → (T.sites i).joining ≡ Some j → (st : Option Streamed) (contents : List Shown)
      → SiteRests T T.logs.reach i (record (joiner_written (T.sites i) j st) { contents = contents })
  joiner-rests j some None contents = site-rests T H i T.logs.reach (record (T.sites i) { contents = contents }) refl refl refl refl refl refl
      (λ e. e) (site-same T H i T.logs.reach i).joiner (λ _. ((H.sites i).keeps up).on_disk)
  joiner-rests j some (Some st) contents = cond_both j.is_loaded _ _ (λ z. SiteRests T T.logs.reach i (record z { contents = contents }))
      (λ e. site-rests T H i T.logs.reach
      (record (T.sites i) {
        joining = Some (record j { written = j.blocks; is_based = true });
        on_disk = length (log_at T i);
        mark = st.mark;
        base = st.stream_start;
        contents = contents;
      })
      refl refl refl refl refl refl (λ none. absurd (none-and-some none some))
      (joins (record j { written = j.blocks; is_based = true }) (record { same = refl; told = o.told; based = λ _. e; still = λ _. refl })) (λ _. omega arith))
      (λ e. site-rests T H i T.logs.reach (record (T.sites i) { joining = Some (record j { written = j.blocks }); contents = contents })
      refl refl refl refl refl refl (λ none. absurd (none-and-some none some))
      (joins (record j { written = j.blocks }) (record { same = refl; told = o.told; based = o.based; still = λ b. b })) (λ _. ((H.sites i).keeps up).on_disk))
    where
      joins : (k : Joining) → JoiningRests j k → (x : Joining) → (T.sites i).joining ≡ Some x → (y : Joining) × (Some k ≡ Some y) × JoiningRests x y
      joins k r x here = (k, refl, subst (λ y. JoiningRests y k) (same-some (sym some ∙ here)) r)

      o : JoinerOk T i j
      o = (H.sites i).joiner j some

  written-rests : (contents : List Shown) → SiteRests T T.logs.reach i (record (written (T.sites i) (T.sites i).joining) { contents = contents })
  written-rests contents = choice (T.sites i).joining refl
    where
      choice : (o : Option Joining) → (T.sites i).joining ≡ o → SiteRests T T.logs.reach i (record (written (T.sites i) o) { contents = contents })
      choice None e = member-rests contents
      choice (Some j) e = joiner-rests j e j.stream contents

  pub written-goes : (contents : List Shown) → LogsGo T i (becomes (record (written (T.sites i) (T.sites i).joining) { contents = contents }))
  written-goes contents = rests-goes T H i (record (written (T.sites i) (T.sites i).joining) { contents = contents }) no_sends T.logs.reach
      (written-rests contents) (reach-same T H) (says-nothing T H i)

-- Sync, without what settles behind it: the site writes, and says so.
pub sync-goes : (T : LogState) → LogsHold T → (i : ℕ) → 0 < site_start T i → (contents : List Shown)
    → let b = record (written (T.sites i) (T.sites i).joining) { contents = contents } in LogsGo T i (after_sync T.words.deployment i b b.joining)
sync-goes T H i up contents =
    let b = record (written (T.sites i) (T.sites i).joining) { contents = contents } in
    let w = written-goes T H i up contents in
    goes-then T i (becomes b) (λ s. after_sync T.words.deployment i s s.joining) w
    (part-from T i b (λ D s. after_sync D i s s.joining) (λ S K u. after_sync-goes S K i u) (subst (λ n. 0 < n) (sym w.start) up))
