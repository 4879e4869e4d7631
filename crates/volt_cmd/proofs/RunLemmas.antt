-- A run goes on by one event, and a run that nothing goes on from has ended.
use Rattle.std.proofs.Common.{◌≡◌, ℕ, ◌+◌, ◌*◌, ◌<◌, ◌≤◌, zero, suc, get_or, Bool, true, List, [], ◌∷◌, ◌++◌, length, filter, Some, None, refl, sym, ap, subst, ◌∙◌, inl, inr, arith}
use Rattle.std.proofs.lemmas.Bool.{cases_Bool}
use Rattle.std.proofs.lemmas.List.{length_push}
use Rattle.volt_base.specs.Semantics.{Semantics}
use Rattle.volt_wire.specs.declared.event.Event.{Event}
use Rattle.one_host_model.specs.declared.input.WorldCall.{WorldCall}
use Rattle.one_host_model.specs.World.{World, can, step}
use Rattle.one_host_model.specs.Runs.{run, IsRun, TakesFirst, events, enabled, first_of_events}
use Rattle.soundness.proofs.Enabled.{event_is_of_them, nothing_enabled_is_quiescent}
use Rattle.soundness.proofs.Law.{run_is_short}
use Rattle.account_engine.specs.Calls.{ValidCall}
use Rattle.account_engine.specs.Accounts.{AccountsState, accounts, accounts_semantics}
use Rattle.account_engine.specs.Carrying.{carried}
use Rattle.cluster_core.specs.declared.world.World as code
use Rattle.cluster_core.specs.World.{StandsFor, HasThemAlone}
use Rattle.volt_cmd.specs.Script.{start, given_calls}
use Rattle.volt_cmd.specs.Running.{FollowsSchedule, EndsQuiescent}

run-push : (S : Semantics) (es : List Event) (e : Event) (w : World) → run S (es ++ e ∷ []) w ≡ step S (run S es w) e
run-push S [] e w = refl
run-push S (x ∷ es) e w = run-push S es e (step S w x)

IsRun-push : (S : Semantics) (es : List Event) (e : Event) (w : World) → IsRun S es w → can (run S es w) e ≡ true → IsRun S (es ++ e ∷ []) w
IsRun-push S [] e w h c = (c, tt)
IsRun-push S (x ∷ es) e w h c = (h.0, IsRun-push S es e (step S w x) h.1 c)

TakesFirst-push : (S : Semantics) (es : List Event) (e : Event) (w : World) → TakesFirst S es w → first_of_events (enabled (run S es w)) ≡ Some e → TakesFirst S (es ++ e ∷ []) w
TakesFirst-push S [] e w h c = (c, tt)
TakesFirst-push S (x ∷ es) e w h c = (h.0, TakesFirst-push S es e (step S w x) h.1 c)

-- the first of those that pass a test passes it
head_passes : (test : Event → Bool) (es : List Event) (e : Event) → first_of_events (filter test es) ≡ Some e → test e ≡ true
head_passes test [] e h = absurd cc
head_passes test (x ∷ es) e h =
    elim (cases_Bool (test x)) [
      | inl t ↦ let is : Some x ≡ Some e = rw t at h in subst (λ (y : Event). test y ≡ true) (let f : x ≡ e = cc in f) t
      | inr t ↦ head_passes test es e (rw t at h)
    ]

-- the first event that may happen may happen
pub first_may : (w : World) (e : Event) → first_of_events (enabled w) ≡ Some e → can w e ≡ true
first_may w e h = head_passes (can w) events e h

-- where there is no first one, none may
no_head : (es : List Event) → first_of_events es ≡ None → es ≡ []
no_head [] h = refl
no_head (e ∷ es) h = absurd cc

module _ {M E : Type 0} (state : E → AccountsState) (calls : List ValidCall) where
  -- before the first event
  pub reached_start : (world : code.World M E) → StandsFor accounts_semantics state world (start calls) → (r : FollowsSchedule state calls world) × (length r.events ≡ 0)
  reached_start world h = (record { events = []; is_run = tt; schedule = tt; stands = h }, refl)

  -- in a run only events of the world's actors may happen
  pub alone : (world : code.World M E) (r : FollowsSchedule state calls world) → HasThemAlone (run accounts_semantics r.events (start calls))
  alone world r e m = event_is_of_them accounts_semantics accounts carried calls r.events e r.is_run m

  -- after the first event that may happen
  pub reached_next : (world next : code.World M E) (e : Event) (r : FollowsSchedule state calls world) (n : ℕ)
      → length r.events ≡ n
      → first_of_events (enabled (run accounts_semantics r.events (start calls))) ≡ Some e
      → StandsFor accounts_semantics state next (step accounts_semantics (run accounts_semantics r.events (start calls)) e)
      → (s : FollowsSchedule state calls next) × (length s.events ≡ n + 1)
  reached_next world next e r n count first h =
      let w = run accounts_semantics r.events (start calls) in (
        record {
          events = r.events ++ e ∷ [];
          is_run = IsRun-push accounts_semantics r.events e (start calls) r.is_run (first_may w e first);
          schedule = TakesFirst-push accounts_semantics r.events e (start calls) r.schedule first;
          stands = subst (λ (v : World). StandsFor accounts_semantics state next v) (sym (run-push accounts_semantics r.events e (start calls))) h;
        },
        length_push r.events e ∙ ap (λ (m : ℕ). m + 1) count,
      )

  -- where no event may happen
  pub ended : (world : code.World M E) (r : FollowsSchedule state calls world) → first_of_events (enabled (run accounts_semantics r.events (start calls))) ≡ None → EndsQuiescent state calls world
  ended world r none = record {
    reached = r;
    quiescent = nothing_enabled_is_quiescent accounts_semantics accounts carried calls r.events r.is_run (no_head (enabled (run accounts_semantics r.events (start calls))) none);
  }

  -- a run is short
  pub short : (world : code.World M E) (r : FollowsSchedule state calls world) → length r.events ≤ 7 * length calls
  short world r = run_is_short accounts_semantics accounts carried calls r.events r.is_run

-- the calls that the world is given are all of client 1
pub of_one_client : (calls : List ValidCall) (k : ℕ) (d : WorldCall) → k < length (given_calls calls) → (get_or (given_calls calls) k d).client ≡ 1
of_one_client [] k d lt = absurd (omega arith)
of_one_client (c ∷ calls) zero d lt = refl
of_one_client (c ∷ calls) (suc k) d lt = of_one_client calls k d (omega arith)
