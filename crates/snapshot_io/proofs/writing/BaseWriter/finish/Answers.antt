use Rattle.std.proofs.lemmas.Result.{on_ok_weaker}
use Rattle.snapshot_io.proofs.Written.{finished, finished_reads}
use Rattle.snapshot_io.proofs.writing.BaseWriter.finish.Goals as goal

pub returns-clause-written : goal.returns-clause-written
returns-clause-written g c =
    on_ok_weaker c.sync.result
    (λ synced t head chunks has. finished (record { head = head; chunks = chunks }) (g.D.Disk.told c.args.disk.now c.args.self.file) (g.D.Disk.told c.put_at_end.new.disk c.args.self.file) (g.D.Disk.told c.sync.new.self c.args.self.file) has
    (c.in_ok-put_at_end.ensures.written t) (c.in_ok-put_at_end.ensures.listed t) (synced t))
    c.sync.ensures.synced

pub returns-clause-holds : goal.returns-clause-holds
returns-clause-holds g c =
    on_ok_weaker c.sync.result
    (λ synced t base fits has. finished_reads base (g.D.Disk.told c.sync.new.self c.args.self.file) fits (finished base (g.D.Disk.told c.args.disk.now c.args.self.file) (g.D.Disk.told c.put_at_end.new.disk c.args.self.file) (g.D.Disk.told c.sync.new.self c.args.self.file) has
    (c.in_ok-put_at_end.ensures.written t) (c.in_ok-put_at_end.ensures.listed t) (synced t)))
    c.sync.ensures.synced
