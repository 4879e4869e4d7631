use Rattle.std.proofs.Common.{◌≡◌, ◌≤◌, max, length, rules, arith}
use Rattle.volt_disk.proofs.UndoLemmas.{AreWithin-longer, stored_of-grown}
use Rattle.volt_disk.proofs.stored.MemFile.grow.Goals as goal
use Rattle.volt_disk.proofs.stored.MemFile.grow.Goals.{then-is_made+in_ok-lengthen, else-is_made}

pub invariant_of-self-2 : goal.invariant_of-self-2
invariant_of-self-2 c =
    let greater : c.max-self-inside.result ≡ max c.if-is_made.self-inside.most c.args.to = search rules in
    let before : length c.self.inside.bytes.items ≤ c.args.to = search rules in
    elim c.if-is_made.branch [
      | then-is_made+in_ok-lengthen w ↦
          let is = w.self-inside-is in
          let longer : length w.lengthen.new.bytes.items ≡ c.args.to = w.in_ok-lengthen.ensures.len in
          rw is (omega arith, omega arith, AreWithin-longer _ _ c.self.inside.replaced.items (omega arith) c.self.invariant.2)
      | else-is_made w ↦
          let is = w.self-inside-is in
          rw is (c.self.invariant.0, omega arith, c.self.invariant.2)
    ]

pub returns-clause-ok : goal.returns-clause-ok
returns-clause-ok c =
    let greater : c.max-self-inside.result ≡ max c.if-is_made.self-inside.most c.args.to = search rules in
    elim c.if-is_made.branch [
      | then-is_made+in_ok-lengthen w ↦
          let f = c.self.inside in
          rw (w.if-is_made.true, ← c.self.view_is, greater, w.self-inside-is, w.in_ok-lengthen.ensures.ok)
          (stored_of-grown f.bytes.items f.least f.most f.replaced.items f.listing c.args.to c.self.invariant.0 c.self.invariant.2)
      | else-is_made w ↦ rw (w.if-is_made.false, ← c.self.view_is, greater, w.self-inside-is)
    ]
