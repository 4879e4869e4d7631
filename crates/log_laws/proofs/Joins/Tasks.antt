-- A joiner takes an entry that its leader sent it behind its stream.
use Rattle.log_laws.proofs.Names.{Bool, List, ap, append-nil, append_assoc, arith, false, inl, inr, refl, subst, sym, true, true≢false, ◌≡◌, ◌++◌, ◌∷◌, ◌∙◌, ◌<◌, ◌≤◌, [], cases_Bool, length-append, None, Option, Some, is_some, length, map, if◌then◌else◌, ℕ, Entry, Membership, Site, Letter, becomes, on_task, with_joining, Joining, SiteState, Streamed, term_in, term_of, none-and-some, same-some, Follows, LogsHold, InWord, JoinerOk, LogState, StreamIn, Took, ViewIn, asks_of_term, between, flow, follows, line_in, log_at, part, site_start, term_at, flow_in}
use Rattle.volt_wire.specs.declared.message.Msg.TheVariants as msg
use Rattle.log_laws.proofs.Kept.{at-most-same, popped-less, still-same, LogsGo, site_popped, LessTo, SiteTakes, becomes-goes, takes-holds, takes-joined, takes-joiner, takes-joiner-same, takes-kept, takes-member, takes-stream, takes-took, takes-word, with-site, SiteGoesOn, goes-on-same}
use Rattle.log_laws.proofs.Plain.{follows-one, begins-not-follows, follows-cons, for-here}
use Rattle.log_laws.proofs.Joins.Loads.{load-on, with-load}
use Rattle.log_laws.proofs.Messages.Taken.{first-foreign, first-less, first-letters, first-takes, without, without-each, without-here}

-- ---- a message that a site drops

-- where the same is under way to a joiner from its leader, if it may take a stream
pub drops-goes : (S : LogState) → LogsHold S → (m i : ℕ) (x : Letter) (ls : List Letter) → between S m i ≡ x ∷ ls → 0 < site_start S i → line_in x.body ≡ []
    → ((j : Joining) (w : Membership) → (S.sites i).joining ≡ Some j → (S.sites i).view ≡ Some w → InWord S i w j → follows S.words.deployment w i m ≡ true
    → (S.sites i).earlier < term_of w → flow (site_start S i) (term_of w) ls ≡ flow (site_start S i) (term_of w) (between S m i))
    → LogsGo (site_popped S (Site m) i) i (becomes (S.sites i))
drops-goes S H m i x ls e up line same-flow = let still = still-same s s refl in becomes-goes (site_popped S (Site m) i) i s S.logs.streamed refl refl (omega arith)
    (takes-holds S H i s (without S m i) S.pending S.logs.streamed k
    (λ w none h. takes-member S H i s (without S m i) S.pending S.logs.streamed k less still w h)
    (λ j is. takes-joiner-same S H i s (without S m i) S.pending S.logs.streamed k less still (λ t. refl)
    (λ w view l f low. without-each S m i
    (λ l ys. follows S.words.deployment w i l ≡ true → flow (site_start S i) (term_of w) ys ≡ flow (site_start S i) (term_of w) (between S l i)) x ls e
    (λ f. same-flow j w is view (in-word w view j is) f low) (λ l n f. refl) l f) j ((H.sites i).joiner j is))
    (takes-kept S H i s (without S m i) S.pending S.logs.streamed k refl refl (λ leads. leads) (λ h. h.on_disk) (λ h. h))
    (first-letters S H m i x ls e s g S.logs.streamed k (λ t. refl)) (first-foreign S H m i x ls e)
    (takes-stream S H i s (without S m i) S.pending S.logs.streamed k))
  where
    s : SiteState
    s = S.sites i

    g : SiteGoesOn (S.sites i) s
    g = goes-on-same s

    k : SiteTakes S i s (without S m i) S.pending S.logs.streamed
    k = first-takes S H m i x ls e s g S.logs.streamed up (λ c t n. refl) (λ t y is. is) (λ t y is. inl is)
        (popped-less S (Site m) i x ls e S.logs s refl (λ c t. at-most-same (asks_of_term c t s))) refl

    less : LessTo S i (without S m i)
    less = first-less S H m i x ls e line

    in-word : (w : Membership) → (S.sites i).view ≡ Some w → (j : Joining) → (S.sites i).joining ≡ Some j → InWord S i w j
    in-word w view j is = subst (ViewIn S i j) view ((H.sites i).joiner j is).view

-- ---- an entry

module _ (S : LogState) (H : LogsHold S) (m i : ℕ) (l : Letter) (ls : List Letter) (position : ℕ) (v : Entry)
    (e : between S m i ≡ record l { body = msg.Task position v } ∷ ls) (up : 0 < site_start S i) (start : l.start ≡ site_start S i) (term : l.term ≡ term_at S i) where
  -- it is the first thing that is under way to the joiner from there
  task-first : (w : Membership) → (S.sites i).view ≡ Some w → flow (site_start S i) (term_of w) (between S m i) ≡ Follows v ∷ flow (site_start S i) (term_of w) ls
  task-first w view = ap (flow (site_start S i) (term_of w)) e
      ∙ ap (λ z. z ++ flow (site_start S i) (term_of w) ls) (for-here (site_start S i) (term_of w) (record l { body = msg.Task position v }) (flow_in (record l { body = msg.Task position v }).past (record l { body = msg.Task position v }).body) start (term ∙ ap term_in view))

  task-drops : ((j : Joining) → (S.sites i).joining ≡ Some j → j.stream ≡ None) → LogsGo (site_popped S (Site m) i) i (becomes (S.sites i))
  task-drops none = drops-goes S H m i (record l { body = msg.Task position v }) ls e up refl (λ j w is view h f low. absurd (clash j w is view h f low))
    where
      clash : (j : Joining) (w : Membership) → (S.sites i).joining ≡ Some j → (S.sites i).view ≡ Some w → InWord S i w j → follows S.words.deployment w i m ≡ true
          → (S.sites i).earlier < term_of w → ⊥
      clash j w is view h f low = elim ((subst (StreamIn S i w j) (none j is) h.stream).comes m f low) [
        | inl q ↦ let z = sym q.flow_is ∙ task-first w view in absurd (cc)
        | inr q ↦ begins-not-follows q.0.past (length q.0.past) v (map Follows q.0.more) (flow (site_start S i) (term_of w) ls) (sym q.0.flow_is ∙ task-first w view)
      ]

  -- a joiner that took its stream goes on with this load and this log
  task-joins : (j n : Joining) (st : Streamed) (log : List Entry) → (S.sites i).joining ≡ Some j → j.stream ≡ Some st
      → n.stream ≡ j.stream → n.is_loaded ≡ j.is_loaded → n.count ≡ j.count → n.is_based ≡ j.is_based → n.has_told ≡ j.has_told
      → length (log_at S i) ≤ length log → ((j.is_loaded ≡ true → j.tasks ≡ []) → log ++ n.tasks ≡ (log_at S i ++ j.tasks) ++ v ∷ [])
      → (n.is_loaded ≡ false → log ≡ log_at S i) → ((j.is_loaded ≡ true → j.tasks ≡ []) → n.is_loaded ≡ true → n.tasks ≡ [])
      → LogsGo (site_popped S (Site m) i) i (becomes (with-load (S.sites i) n log))
  task-joins j n st log is took stream loads count based told longer whole loading loaded = becomes-goes (site_popped S (Site m) i) i s S.logs.streamed refl refl longer
      (takes-joined S H i s (without S m i) S.pending S.logs.streamed k j n is refl refl refl (λ h. let d = h.on_disk in omega (arith, d, longer)) (λ h. h)
      (takes-joiner S H i s (without S m i) S.pending S.logs.streamed k j n refl (λ e. loads ∙ old.told (sym told ∙ e)) (λ e. loads ∙ old.based (sym based ∙ e))
      (λ w view h. takes-word S H i s (without S m i) S.pending S.logs.streamed k less w j n
      (λ u. subst (StreamIn T i w n) (sym (stream ∙ took)) (goes-on w view h (subst (StreamIn S i w j) took u))) h)
      (λ none h. absurd (none-and-some h.stream took)) old)
      (first-letters S H m i x ls e s g S.logs.streamed k (λ t. refl)) (first-foreign S H m i x ls e)
      (takes-stream S H i s (without S m i) S.pending S.logs.streamed k))
    where
      s : SiteState
      s = with-load (S.sites i) n log

      x : Letter
      x = record l { body = msg.Task position v }

      T : LogState
      T = with-site S i s (without S m i) S.pending S.logs.streamed

      g : SiteGoesOn (S.sites i) s
      g = load-on (S.sites i) j n log is longer (λ b. based ∙ b)

      k : SiteTakes S i s (without S m i) S.pending S.logs.streamed
      k = first-takes S H m i x ls e s g S.logs.streamed up (λ c t n. refl) (λ t y is. is) (λ t y is. inl is)
          (popped-less S (Site m) i x ls e S.logs s refl (λ c t. at-most-same (asks_of_term c t s))) refl

      less : LessTo S i (without S m i)
      less = first-less S H m i x ls e refl

      old : JoinerOk S i j
      old = (H.sites i).joiner j is

      -- it comes from its leader
      goes-on : (w : Membership) → (S.sites i).view ≡ Some w → InWord S i w j → Took S i w j st.stream_start → Took T i w n st.stream_start
      goes-on w view h u = takes-took S H i s (without S m i) S.pending S.logs.streamed k w j n st.stream_start u rest.0
          (subst (λ z. flow (site_start S i) (term_of w) (without S m i (Site z) (Site i)) ≡ map Follows rest.0) from
          (ap (flow (site_start S i) (term_of w)) (without-here S m i x ls e) ∙ rest.2))
          (ap (λ z. z ++ rest.0) (whole u.loaded) ∙ append_assoc (log_at S i ++ j.tasks) (v ∷ []) rest.0 ∙ ap (λ z. log_at S i ++ j.tasks ++ z) (sym rest.1) ∙ u.whole)
          (λ e. ap length (loading e) ∙ u.loading (sym loads ∙ e)) (loaded u.loaded)
          (λ some. u.ends (elim some [ inl whole' ↦ inl (sym loads ∙ whole') | inr known ↦ inr (ap is_some (sym count) ∙ known) ])) refl
        where
          follows-it : follows S.words.deployment w i m ≡ true
          follows-it = elim (cases_Bool (follows S.words.deployment w i m)) [ inl f ↦ f | inr f ↦ let z = sym (h.others m f).0 ∙ task-first w view in absurd (cc) ]

          from : m ≡ u.from
          from = follows-one S.words.deployment w i m u.from follows-it u.following

          rest : (fs : List Entry) × (u.more ≡ v ∷ fs) × (flow (site_start S i) (term_of w) ls ≡ map Follows fs)
          rest = follows-cons u.more v (flow (site_start S i) (term_of w) ls)
              (sym u.flow_is ∙ subst (λ z. flow (site_start S i) (term_of w) (between S z i) ≡ Follows v ∷ flow (site_start S i) (term_of w) ls) from (task-first w view))

  task-taken : LogsGo (site_popped S (Site m) i) i (becomes (on_task (S.sites i) (S.sites i).joining v))
  task-taken = go (S.sites i).joining refl
    where
      go : (o : Option Joining) → (S.sites i).joining ≡ o → LogsGo (site_popped S (Site m) i) i (becomes (on_task (S.sites i) o v))
      go None none = task-drops (λ j is. absurd (none-and-some none is))
      go (Some j) is = took j.stream refl
        where
          -- the site with its own load is itself
          itself : (log : List Entry) → with-load (S.sites i) j log ≡ record (S.sites i) { log = log }
          itself log = ap (λ o. record (S.sites i) { joining = o; log = log }) (sym is)

          loaded : (st : Streamed) → j.stream ≡ Some st → (b : Bool) → j.is_loaded ≡ b
              → LogsGo (site_popped S (Site m) i) i (becomes (if b
              then record (S.sites i) { log = (S.sites i).log ++ v ∷ [] }
              else with_joining (S.sites i) (record j { tasks = j.tasks ++ v ∷ [] })))
          loaded st some true all = subst (λ s. LogsGo (site_popped S (Site m) i) i (becomes s)) (itself (log_at S i ++ v ∷ []))
              (task-joins j j st (log_at S i ++ v ∷ []) is some refl refl refl refl refl (rw (length-append (log_at S i) (v ∷ [])) (omega arith))
              (λ none. rw (none all) (append-nil (log_at S i ++ v ∷ []) ∙ ap (λ z. z ++ v ∷ []) (sym (append-nil (log_at S i)))))
              (λ no. absurd (true≢false (sym all ∙ no))) (λ none. none))
          loaded st some false part = task-joins j (record j { tasks = j.tasks ++ v ∷ [] }) st (log_at S i) is some refl refl refl refl refl (omega arith)
              (λ none. sym (append_assoc (log_at S i) j.tasks (v ∷ []))) (λ no. refl) (λ none all. absurd (true≢false (sym all ∙ part)))

          took : (o : Option Streamed) → j.stream ≡ o → LogsGo (site_popped S (Site m) i) i (becomes (if is_some o
              then (if j.is_loaded then record (S.sites i) { log = (S.sites i).log ++ v ∷ [] } else with_joining (S.sites i) (record j { tasks = j.tasks ++ v ∷ [] }))
              else S.sites i))
          took None none = task-drops (λ x e. subst (λ y. y.stream ≡ None) (same-some (sym is ∙ e)) none)
          took (Some st) some = loaded st some j.is_loaded refl

pub task-goes : (S : LogState) → LogsHold S → (i c : ℕ) (l : Letter) (ls : List Letter) (position : ℕ) (v : Entry) → between S c i ≡ record l { body = msg.Task position v } ∷ ls
    → 0 < site_start S i → l.start ≡ site_start S i → l.term ≡ term_at S i → LogsGo (site_popped S (Site c) i) i (becomes (on_task (S.sites i) (S.sites i).joining v))
task-goes S H i c l ls position v e up start term = task-taken S H c i l ls position v e up start term
