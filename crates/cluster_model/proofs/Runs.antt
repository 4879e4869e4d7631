-- Which worlds a run leads to, and what they have of the world from which it leads.
use Rattle.std.proofs.Common.{◌≡◌, true, false, refl, sym, ap, subst, List, [], ◌∷◌, ◌++◌, ◌∙◌}
use Rattle.cluster_model.specs.Engine.{Database}
use Rattle.cluster_model.specs.World.{World, Input, IsInput, first_world}
use Rattle.cluster_model.specs.Events.{step}
use Rattle.cluster_model.specs.Runs.{Happening, IsOneEpoch, IsRun, Reached, RunsInEpoch, RunsTo, may_happen, renews, run}

-- ---- two lists of events, one behind the other

pub run-append : (E : Database) (es fs : List Happening) (w : World) → run E (es ++ fs) w ≡ run E fs (run E es w)
run-append E [] fs w = refl
run-append E (e ∷ es) fs w = run-append E es fs (step E w e)

pub run-first : (E : Database) (es fs : List Happening) (w : World) → IsRun E (es ++ fs) w → IsRun E es w
run-first E [] fs w r = tt
run-first E (e ∷ es) fs w r = (r.0, run-first E es fs (step E w e) r.1)

pub run-second : (E : Database) (es fs : List Happening) (w : World) → IsRun E (es ++ fs) w → IsRun E fs (run E es w)
run-second E [] fs w r = r
run-second E (e ∷ es) fs w r = run-second E es fs (step E w e) r.1

pub run-both : (E : Database) (es fs : List Happening) (w : World) → IsRun E es w → IsRun E fs (run E es w) → IsRun E (es ++ fs) w
run-both E [] fs w r s = s
run-both E (e ∷ es) fs w r s = (r.0, run-both E es fs (step E w e) r.1 s)

-- ---- the forms of a run

pub runs-to : (E : Database) (es : List Happening) (w : World) → IsRun E es w → RunsTo E w (run E es w)
runs-to E es w r = record { happenings = es; is_run = r; comes = refl }

pub runs-lead : (E : Database) (es fs : List Happening) (w : World) → IsRun E (es ++ fs) w → RunsTo E (run E es w) (run E (es ++ fs) w)
runs-lead E es fs w r = record { happenings = fs; is_run = run-second E es fs w r; comes = sym (run-append E es fs w) }

pub runs-in-epoch : (E : Database) (es fs : List Happening) (w : World) → IsRun E (es ++ fs) w → IsOneEpoch fs
    → RunsInEpoch E (run E es w) (run E (es ++ fs) w)
runs-in-epoch E es fs w r one =
    record { happenings = fs; is_run = run-second E es fs w r; comes = sym (run-append E es fs w); one_epoch = one }

pub any-epoch : (E : Database) (v w : World) → RunsInEpoch E v w → RunsTo E v w
any-epoch E v w r = record { happenings = r.happenings; is_run = r.is_run; comes = r.comes }

pub runs-on : (E : Database) (u v w : World) → RunsTo E u v → RunsTo E v w → RunsTo E u w
runs-on E u v w r s = record {
  happenings = r.happenings ++ s.happenings;
  is_run = run-both E r.happenings s.happenings u r.is_run (subst (λ x. IsRun E s.happenings x) (sym r.comes) s.is_run);
  comes = run-append E r.happenings s.happenings u ∙ ap (run E s.happenings) r.comes ∙ s.comes;
}

pub reached-on : (E : Database) (I : Input) (v w : World) → Reached E I v → RunsTo E v w → Reached E I w
reached-on E I v w r s = record { input = r.input; runs = runs-on E (first_world E I) v w r.runs s }

-- ---- what each event that may happen keeps

module _ (E : Database) (P : World → Type 0) (kept : (w : World) (e : Happening) → may_happen w e ≡ true → P w → P (step E w e)) where
  run-kept : (es : List Happening) (w : World) → IsRun E es w → P w → P (run E es w)
  run-kept [] w r p = p
  run-kept (e ∷ es) w r p = run-kept es (step E w e) r.1 (kept w e r.0 p)

  -- the worlds have it to which a run leads
  pub runs-kept : (v w : World) → RunsTo E v w → P v → P w
  runs-kept v w r p = subst P r.comes (run-kept r.happenings v r.is_run p)

  pub reached-kept : (I : Input) (w : World) → (IsInput I → P (first_world E I)) → Reached E I w → P w
  reached-kept I w first r = runs-kept (first_world E I) w r.runs (first r.input)

-- the same in one epoch
module _ (E : Database) (P : World → Type 0)
    (kept : (w : World) (e : Happening) → may_happen w e ≡ true → renews e ≡ false → P w → P (step E w e)) where
  epoch-kept : (es : List Happening) (w : World) → IsRun E es w → IsOneEpoch es → P w → P (run E es w)
  epoch-kept [] w r one p = p
  epoch-kept (e ∷ es) w r one p = epoch-kept es (step E w e) r.1 one.1 (kept w e r.0 one.0 p)

  pub in-epoch-kept : (v w : World) → RunsInEpoch E v w → P v → P w
  in-epoch-kept v w r p = subst P r.comes (epoch-kept r.happenings v r.is_run r.one_epoch p)
