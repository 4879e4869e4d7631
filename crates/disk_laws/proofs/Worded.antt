-- What the laws of words and logs give of a word that a site takes: it is of a later term, and a joiner that it makes a member has its
-- base on disk.
use Rattle.disk_laws.proofs.Names.{none-or-some, ◌≡◌, ◌<◌, Bool, true, false, List, [], ◌∷◌, refl, sym, subst, ap, ◌∙◌, inl, inr, ◌==◌, arith, and_from, eq-eqb, ℕ, ◌&&◌, not, nat_lt, Option, Some, None, AllByRecursion, Membership, Agent, Site, slots, host_of_slot, is_member, term_of, term_in, Letter, arrival, Taken, SiteState, Joining, Streamed, is_joiner, a-joiner, none-and-some, stays_joiner, member-is, is_member-start, LogState, LogsHold, IsSlot, ViewIn, InWord, StreamIn, site_start, log_at, term_at, taken-for, took-admitted, ran-owner, running-ran, first-word, later-word, some-term, took-decided, took-unnamed}
use Rattle.volt_wire.specs.declared.message.Msg.TheVariants as msg

-- where it isn't both, it isn't the second
second-not : (a b : Bool) → a ≡ true → (a && not b) ≡ false → b ≡ true
second-not true true e q = refl
second-not true false e q = absurd (cc)
second-not false b e q = absurd (cc)

module _ (S : LogState) (H : LogsHold S) (i : ℕ) where
  abbrev s : SiteState
  s = S.sites i

  -- a joiner that has no stream has loaded nothing
  pub unstreamed : (j : Joining) → s.joining ≡ Some j → j.stream ≡ None → (j.is_loaded ≡ false) × (log_at S i ≡ [])
  unstreamed j e none = seen s.view ((H.sites i).joiner j e).view
    where
      streamed : (w : Membership) (o : Option Streamed) → o ≡ None → StreamIn S i w j o → (j.is_loaded ≡ false) × (log_at S i ≡ [])
      streamed w None q u = (u.loads, u.empty)
      streamed w (Some st) q u = absurd (none-and-some q refl)

      seen : (o : Option Membership) → ViewIn S i j o → (j.is_loaded ≡ false) × (log_at S i ≡ [])
      seen None u = (u.loads, u.empty)
      seen (Some w) u = streamed w j.stream none u.stream

  module _ (slot : IsSlot S i) (up : 0 < site_start S i) (h : ℕ) (l : Letter) (w : Membership) (ls : List Letter)
      (is : S.words.channel (Agent h) (Site i) ≡ record l { body = msg.View w } ∷ ls) where
    pub meant-for : (l.term ≡ 0) × (0 < l.start)
    meant-for = (subst (AllByRecursion (λ l. elim l.body as (λ _. Type 0) [ msg.View w ↦ (l.term ≡ 0) × (0 < l.start) | _ ↦ Unit {0} ]))
        (ap (λ z. S.words.channel (Agent z) (Site i)) (sym (rw is at (H.foreign (Agent h) i)).0) ∙ is) (H.views i).plain).0

    module _ (take : arrival (site_start S i) (term_at S i) (record l { body = msg.View w }) ≡ Taken) where
      pub word-start : l.start ≡ site_start S i
      word-start = elim (taken-for (site_start S i) (term_at S i) (record l { body = msg.View w }) take).0 [
        | inl z ↦ let a = meant-for.1 in absurd (omega (arith, a, z))
        | inr e ↦ e
      ]

      -- it is of a later term
      pub later-term : term_at S i < term_of w
      later-term = elim (none-or-some s.view) [
        | inl e ↦
            let a = some-term S H w (took-decided S H (site_start S i) w (first-word S H h i l w ls is word-start up e)) in
            let b : term_at S i ≡ 0 = ap term_in e in
            omega (arith, a, b)
        | inr (v, e) ↦ let a = (later-word S H h i l w ls is word-start up v e).2 in let b : term_at S i ≡ term_of v = ap term_in e in omega (arith, a, b)
      ]

      module _ (j : Joining) (joins : s.joining ≡ Some j) where
        -- a joiner of a word was admitted, so its base is on disk
        pub word-based : (v : Membership) → s.view ≡ Some v → j.is_based ≡ true
        word-based v e =
            let in_word : InWord S i v j = subst (ViewIn S i j) e ((H.sites i).joiner j joins).view in
            let lw = later-word S H h i l w ls is word-start up v e in
            let good = H.words.history.decided_good w lw.0 in
            let named = (member-is S.words H.words.history w (host_of_slot S.words.deployment i) (site_start S i) good lw.1).0 in
            let x = took-admitted S H (site_start S i) v w in_word.took lw.0 named in
            let owner = ap S.words.owner x.2 ∙ ran-owner S H i (site_start S i) (running-ran S H i up) in
            (H.loads.admitted x.0 x.1 i (and_from (nat_lt i (slots S.words.deployment)) (host_of_slot S.words.deployment i == S.words.owner x.0.start)
            slot (eq-eqb (host_of_slot S.words.deployment i) (S.words.owner x.0.start) (sym owner)))).1 up (sym x.2) j joins

        -- and one without a word doesn't become a member
        pub word-unnamed : s.view ≡ None → stays_joiner S.words.deployment i s w ≡ false → ⊥
        word-unnamed e enters = took-unnamed S H (site_start S i) w i (first-word S H h i l w ls is word-start up e)
            (is_member-start w (host_of_slot S.words.deployment i) (site_start S i)
            (second-not (is_joiner s) (is_member w (host_of_slot S.words.deployment i) (site_start S i)) (a-joiner s j joins) enters))
