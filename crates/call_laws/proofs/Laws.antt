-- The laws of calls, from what holds in each world of a run.
use Rattle.std.proofs.Common.{◌≡◌, List, [], ◌∷◌, ◌++◌, append_assoc, refl, sym, subst, ap, inl, inr, arith}
use Rattle.std.specs.Prelude.{ℕ, ◌≤◌, map, length, Option, Some, None}
use Rattle.volt_wire.specs.declared.actor.Actor.TheVariants.{Client, Agent, Site}
use Rattle.volt_wire.specs.declared.message.Msg.TheVariants as msg
use Rattle.cluster_model.specs.Engine.{Database}
use Rattle.cluster_model.specs.Words.{part_of_slot}
use Rattle.cluster_model.specs.Letters.{Letter}
use Rattle.cluster_model.specs.Laws.{RiseFrom}
use Rattle.cluster_model.specs.Client.{Submitted}
use Rattle.cluster_model.specs.World.{World, Input}
use Rattle.cluster_model.specs.Runs.{Reached}
use Rattle.cluster_steps.specs.Lists.{In}
use Rattle.cluster_steps.proofs.Lists.{all-mono, in-cases}
use Rattle.call_laws.specs.Submissions.{WasSubmitted, SubmittedByClient, SubmittedToAgent, SubmittedToSite, RequestsAreSubmitted, IsGreatestOf, IsAsked, AskedIn, pending_call, submitted_by, HasSubmissions}
use Rattle.call_laws.proofs.Clients.{due-rises, rises-past}
use Rattle.call_laws.proofs.Worlds.{submissions-agree}

module _ (I : Input) (now : ℕ) (w : World) (d : HasSubmissions I now w) where
  -- what was asked for was submitted
  pub was-submitted : (call client : ℕ) (part : Option ℕ) (body : List ℕ) → IsAsked d.submissions call client part body → WasSubmitted I w call client part body
  was-submitted call client part body k = let r = d.each call _ k.is in record { asked = r.asked; submitted = r.submitted }

  by_client : (n h : ℕ) (l : Letter) → AskedIn w.deployment d.submissions (Client n) (Agent h) l → SubmittedByClient I w n l
  by_client n h l k = (elim l.body as (λ m. AskedIn w.deployment d.submissions (Client n) (Agent h) (record l { body = m }) → SubmittedByClient I w n (record l { body = m })) [
    | msg.Call call start part body ↦ was-submitted call n part body
    | m ↦ λ k. tt
  ]) k

  to_agent : (h g : ℕ) (l : Letter) → AskedIn w.deployment d.submissions (Agent h) (Agent g) l → SubmittedToAgent I w l
  to_agent h g l k = (elim l.body as (λ m. AskedIn w.deployment d.submissions (Agent h) (Agent g) (record l { body = m }) → SubmittedToAgent I w (record l { body = m })) [
    | msg.MpCall call start client body ↦ was-submitted call client None body
    | m ↦ λ k. tt
  ]) k

  to_site : (h c : ℕ) (l : Letter) → AskedIn w.deployment d.submissions (Agent h) (Site c) l → SubmittedToSite I w c l
  to_site h c l k = (elim l.body as (λ m. AskedIn w.deployment d.submissions (Agent h) (Site c) (record l { body = m }) → SubmittedToSite I w c (record l { body = m })) [
    | msg.SpCall call start client body ↦ was-submitted call client (Some (part_of_slot w.deployment c)) body
    | m ↦ λ k. tt
  ]) k

  pub requests : RequestsAreSubmitted I w
  requests = record {
    by_clients = λ n h. all-mono (AskedIn w.deployment d.submissions (Client n) (Agent h)) (SubmittedByClient I w n) (by_client n h) (w.channel (Client n) (Agent h)) (d.channels (Client n) (Agent h));
    to_agents = λ h g. all-mono (AskedIn w.deployment d.submissions (Agent h) (Agent g)) (SubmittedToAgent I w) (to_agent h g) (w.channel (Agent h) (Agent g)) (d.channels (Agent h) (Agent g));
    to_sites = λ h c. all-mono (AskedIn w.deployment d.submissions (Agent h) (Site c)) (SubmittedToSite I w c) (to_site h c) (w.channel (Agent h) (Site c)) (d.channels (Agent h) (Site c));
  }

  -- the pending call stands last of those that were submitted
  pub greatest : (n : ℕ) (p : Submitted) → (w.clients n).pending ≡ Some p → IsGreatestOf w n p.due.call
  greatest n p is other i =
      let c = w.clients n in
      let ended = map (λ e. e.call) c.ended in
      let left = map (λ x. x.call) c.left in
      let calls : submitted_by c ≡ ended ++ p.due.call ∷ [] = ap (λ o. ended ++ pending_call o) is in
      let rises : RiseFrom 1 ((ended ++ p.due.call ∷ []) ++ left) = subst (λ xs. RiseFrom 1 (xs ++ left)) calls (subst (RiseFrom 1) (sym (d.clients n).order) (due-rises n 1 I.calls)) in
      elim (in-cases other ended (p.due.call ∷ []) (subst (In other) calls i)) [
        | inl k ↦
            let l = rises-past 1 ended (p.due.call ∷ left) other p.due.call (subst (RiseFrom 1) (append_assoc ended (p.due.call ∷ []) left) rises) k (inl refl) in
            omega (arith, l)
        | inr k ↦ same k
      ]
    where
      same : In other (p.due.call ∷ []) → other ≤ p.due.call
      same (inl e) = omega (arith, e)
      same (inr k) = absurd k

module _ (E : Database) (I : Input) (w : World) (r : Reached E I w) where
  pub all-requests : RequestsAreSubmitted I w
  all-requests = requests I (length w.trace) w (submissions-agree E I w r)

  pub pending-greatest : (n : ℕ) (p : Submitted) → (w.clients n).pending ≡ Some p → IsGreatestOf w n p.due.call
  pending-greatest = greatest I (length w.trace) w (submissions-agree E I w r)
