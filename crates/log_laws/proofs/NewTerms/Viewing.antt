-- The turn of a site that takes a word.
use Rattle.log_laws.proofs.Names.{◌≡◌, ◌<◌, Bool, true, false, List, [], ◌∷◌, refl, sym, subst, ap, ◌∙◌, ◌⊎◌, inl, inr, ◌==◌, cases_Bool, eqb-true, and_from, not_from_false, not_from_true, ℕ, ◌&&◌, not, if◌then◌else◌, Option, Some, None, Membership, Agent, Site, Database, Deployment, host_of_slot, leader, is_member, Letter, no_sends, becomes, SiteState, Joining, is_joiner, is_leader, as_member, reports_to, repairs, on_view, none-and-some, not-both, and-false, if-true, if-false, is_member-start, start-is_member, a-joiner, cond_both, LogState, LogsHold, part, site_start, agent_to_site}
use Rattle.volt_wire.specs.declared.message.Msg.TheVariants as msg
use Rattle.log_laws.proofs.Kept.{site_popped, Turns, LogsGo, took-unnamed, turns-then-goes}
use Rattle.log_laws.proofs.Plain.{leader-is, none-or-some}
use Rattle.log_laws.proofs.NewTerms.Reports.{repairs-goes}
use Rattle.log_laws.proofs.NewTerms.Taking.{first-word, later-word}
use Rattle.log_laws.proofs.NewTerms.Joining.{joins-turns}
use Rattle.log_laws.proofs.NewTerms.Enters.{entered_site, report_letter, Reporting, enters-turns}

-- ---- what a member sends

-- a leader nothing as yet
says-nothing : (D : Deployment) (i p : ℕ) (s : SiteState) (w : Membership) → Reporting D i p s w no_sends
says-nothing D i p s w = record { sites = λ c. inr refl; agents = λ h. refl }

-- another one its report, to the leader
reports : (D : Deployment) (i p : ℕ) (s : SiteState) (w : Membership) → (leader D w p ≡ Some i → ⊥) → Reporting D i p s w (reports_to D (entered_site s w) (leader D w p))
reports D i p s w other = record { sites = λ c. sites (leader D w p) refl c; agents = λ h. agents (leader D w p) h }
  where
    sites : (o : Option ℕ) → leader D w p ≡ o → (c : ℕ)
        → ((leader D w p ≡ Some c) × (c ≡ i → ⊥) × (reports_to D (entered_site s w) o (Site c) ≡ report_letter D s w c ∷ []))
        ⊎ (reports_to D (entered_site s w) o (Site c) ≡ [])
    sites None e c = inr refl
    sites (Some l) e c = choice (l == c) refl
      where
        choice : (b : Bool) → (l == c) ≡ b
            → ((leader D w p ≡ Some c) × (c ≡ i → ⊥) × ((if b then report_letter D s w l ∷ [] else []) ≡ report_letter D s w c ∷ []))
            ⊎ ((if b then report_letter D s w l ∷ [] else []) ≡ [])
        choice true q = let x = eqb-true l c q in inl (e ∙ ap Some x, (λ r. other (e ∙ ap Some (x ∙ r))), ap (λ z. report_letter D s w z ∷ []) x)
        choice false q = inr refl

    agents : (o : Option ℕ) (h : ℕ) → reports_to D (entered_site s w) o (Agent h) ≡ []
    agents None h = refl
    agents (Some l) h = refl

-- ---- the turn

module _ (E : Database) (S : LogState) (stamp : ℕ) (H : LogsHold S) (h i : ℕ) (l : Letter) (w : Membership) (ls : List Letter)
    (is : S.words.channel (Agent h) (Site i) ≡ record l { body = msg.View w } ∷ ls) (start : l.start ≡ site_start S i) (up : 0 < site_start S i) where
  abbrev D : Deployment
  D = S.words.deployment

  -- whether the word counts the start, and whether the site asks to join
  abbrev counts : Bool
  counts = is_member w (host_of_slot D i) (site_start S i)

  abbrev asks : Bool
  asks = is_joiner (S.sites i) && not counts

  -- it enters the term, and reports, or waits for reports
  member-turns : (v : Membership) → (S.sites i).view ≡ Some v → Turns (site_popped S (Agent h) i) i (as_member E D i stamp (entered_site (S.sites i) w))
  member-turns v view = cond_both (is_leader D i (entered_site (S.sites i) w)) _ _ (Turns (site_popped S (Agent h) i) i)
      (λ e. turns-then-goes (site_popped S (Agent h) i) i (becomes (entered_site (S.sites i) w)) (repairs E D i stamp)
      (enters-turns S H h i l w ls is start up v view no_sends (says-nothing D i (part S i) (S.sites i) w))
      (λ T site same _ k. subst (λ z. LogsGo T i (repairs E D i stamp z)) site (subst (λ z. LogsGo T i (repairs E z i stamp (T.sites i))) same
      (repairs-goes E T i stamp k (subst (λ z. 0 < z) (sym (ap (λ z. z.start) site)) up)
      (ap (λ z. is_leader z i (T.sites i)) same ∙ ap (is_leader D i) site ∙ e)
      (ap (λ z. z.repaired) site)))))
      (λ e. enters-turns S H h i l w ls is start up v view (reports_to D (entered_site (S.sites i) w) (leader D w (part S i)))
      (reports D i (part S i) (S.sites i) w (λ q. not-both (is_leader D i (entered_site (S.sites i) w))
      (leader-is D i (entered_site (S.sites i) w) w refl refl q) e)))

  -- A joiner takes its first word, and asks to join. With a word, the next one counts the site: it is a member from then on.
  pub view-turns : Turns (site_popped S (Agent h) i) i (on_view E S.words.deployment i stamp (S.sites i) w)
  view-turns = elim (none-or-some (S.sites i).view) [
    | inl e ↦ subst (Turns (site_popped S (Agent h) i) i) (sym (if-true asks _ _ (not-counted e))) (joins-turns S H h i l w ls is start up e)
    | inr (v, e) ↦ subst (Turns (site_popped S (Agent h) i) i) (sym (if-false asks _ _ (counted v e))) (member-turns v e)
  ]
    where
      counted : (v : Membership) → (S.sites i).view ≡ Some v → asks ≡ false
      counted v view = ap (λ b. is_joiner (S.sites i) && b) (not_from_true counts
          (start-is_member w (host_of_slot D i) (site_start S i) (later-word S H h i l w ls is start up v view).1))
          ∙ and-false (is_joiner (S.sites i))

      joins : (S.sites i).view ≡ None → (o : Option Joining) → (S.sites i).joining ≡ o → is_joiner (S.sites i) ≡ true
      joins none None e = absurd (none-and-some none ((H.sites i).member up e).1)
      joins none (Some j) e = a-joiner (S.sites i) j e

      not-counted : (S.sites i).view ≡ None → asks ≡ true
      not-counted none = and_from (is_joiner (S.sites i)) (not counts) (joins none (S.sites i).joining refl) (not_from_false counts (elim (cases_Bool counts) [
        | inl m ↦ absurd (took-unnamed S H (site_start S i) w i (first-word S H h i l w ls is start up none) (is_member-start w (host_of_slot D i) (site_start S i) m))
        | inr m ↦ m
      ]))

-- from its own host's agent
pub on_view-turns : (E : Database) (S : LogState) → LogsHold S → (i stamp : ℕ) (l : Letter) (ls : List Letter) (w : Membership)
    → agent_to_site S i ≡ record l { body = msg.View w } ∷ ls → 0 < site_start S i → l.start ≡ site_start S i
    → Turns (site_popped S (Agent (host_of_slot S.words.deployment i)) i) i (on_view E S.words.deployment i stamp (S.sites i) w)
on_view-turns E S H i stamp l ls w is up start = view-turns E S stamp H (host_of_slot S.words.deployment i) i l w ls is start up
