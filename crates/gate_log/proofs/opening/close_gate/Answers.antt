use Rattle.std.proofs.Common.{get_or, sym, ap, ◌∙◌}
use Rattle.volt_disk.specs.File.{settled}
use Rattle.gate_log.proofs.Opened.{overwritten-same}
use Rattle.gate_log.proofs.opening.close_gate.Goals as goal

pub returns-else-bytes-gate-clause-closed : goal.returns-else-bytes-gate-clause-closed
returns-else-bytes-gate-clause-closed g c t = (
  get_or c.args.bytes.now c.args.gate 0,
  c.if-bytes-gate.false,
  c.requires.durable t ∙ ap settled (sym (overwritten-same c.args.gate c.args.bytes.now c.requires.within)),
)
