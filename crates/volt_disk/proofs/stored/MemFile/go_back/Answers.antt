use Rattle.std.proofs.Common.{inl}
use Rattle.volt_disk.proofs.UndoLemmas.{last-is_torn}
use Rattle.volt_disk.proofs.stored.MemFile.go_back.Goals as goal

pub returns-clause-image : goal.returns-clause-image
returns-clause-image c =
    let f = c.self.inside in
    rw (← c.self.view_is) (inl (last-is_torn f.bytes.items f.least f.most f.replaced.items f.listing c.self.invariant.0 c.self.invariant.1 c.self.invariant.2))
