-- Worlds of a scenario are reached.
use Rattle.std.proofs.Common.{refl, List, []}
use Rattle.cluster_model.specs.World.{World, Input, IsInput, first_world}
use Rattle.cluster_model.specs.Runs.{Happening, IsRun, run, Reached, RunsTo, RunsInEpoch, IsOneEpoch}
use Rattle.cluster_model.specs.Toy.{toy}

-- the world behind the events of a run
pub reached-last : (I : Input) (es : List Happening) → IsInput I → IsRun toy es (first_world toy I) → Reached toy I (run toy es (first_world toy I))
reached-last I es input is_run = record { input = input; runs = record { happenings = es; is_run = is_run; comes = refl } }

-- the first world
pub reached-first : (I : Input) → IsInput I → Reached toy I (first_world toy I)
reached-first I input = reached-last I [] input tt

pub runs-on : (w : World) (es : List Happening) → IsRun toy es w → RunsTo toy w (run toy es w)
runs-on w es is_run = record { happenings = es; is_run = is_run; comes = refl }

pub runs-in-epoch : (w : World) (es : List Happening) → IsRun toy es w → IsOneEpoch es → RunsInEpoch toy w (run toy es w)
runs-in-epoch w es is_run one = record { happenings = es; is_run = is_run; comes = refl; one_epoch = one }
