use Rattle.snapshot_io.proofs.Written.{begun_more}
use Rattle.snapshot_io.proofs.writing.BaseWriter.write_block.Goals as goal

pub returns-clause-begun : goal.returns-clause-begun
returns-clause-begun g c t head chunks has =
    begun_more head chunks c.args.chunk.now (g.D.Disk.told c.args.disk.now c.args.self.now.file) (g.D.Disk.told c.put_at_end.new.disk c.args.self.now.file) has (c.in_ok-put_at_end.ensures.written t)
