-- The laws of disks, from what holds of each world.
use Rattle.disk_laws.proofs.Names.{ℕ, List, Database, World, Input, Reached, RunsTo, Survives, MayShow, GoesOnWithFirm}
use Rattle.disk_laws.proofs.Boots.{firm_in}
use Rattle.disk_laws.proofs.Choices.{no-choice-lacks}
use Rattle.disk_laws.proofs.Worlds.{runs-go, disks-agree}

pub firm-survives : (E : Database) (input : Input) (v w : World) (p : ℕ) → Reached E input v → RunsTo E v w → Survives v w p
firm-survives E input v w p r s = (runs-go E v w s (disks-agree E input v r)).survives p

pub choice-firm : (E : Database) (input : Input) (w : World) (shown : List ℕ) (p : ℕ) → Reached E input w → MayShow w shown → GoesOnWithFirm E w shown p
choice-firm E input w shown p r may = let d = disks-agree E input w r in no-choice-lacks E w d.logs (firm_in w) d.halted d.disks shown may p (d.logs.authoritative p)
