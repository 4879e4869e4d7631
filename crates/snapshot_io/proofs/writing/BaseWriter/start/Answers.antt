use Rattle.std.proofs.Common.{◌≡◌, ◌∙◌}
use Rattle.snapshot_io.specs.Base.{head_of, head_bytes}
use Rattle.snapshot_io.proofs.Written.{begun_head}
use Rattle.snapshot_io.proofs.writing.BaseWriter.start.Goals as goal

pub returns-clause-begun : goal.returns-clause-begun
returns-clause-begun g c t =
    let spelled : c.deref.result.now ≡ head_bytes (head_of c.args.head.now) = c.deref.ensures.value ∙ c.in_ok-bytes.ensures.spelled in
    begun_head (head_of c.args.head.now) c.deref.result.now (g.D.Disk.told c.args.disk.now c.args.file) (g.D.Disk.told c.put_at_end.new.disk c.args.file) (c.requires.blank t) (c.in_ok-put_at_end.ensures.written t) spelled
