use Rattle.std.proofs.Common.{◌≤◌, ◌≡◌, ◌+◌, length, slice_range, rules, arith}
use Rattle.volt_disk.proofs.UndoLemmas.{AreWithin-push, stored_of-written, stored_of-asked}
use Rattle.volt_disk.proofs.stored.MemFile.write.Goals as goal

pub invariant_of-self-then-is_made : goal.invariant_of-self-then-is_made
invariant_of-self-then-is_made c =
    let room : c.args.at + length c.args.bytes.now ≤ length c.self.inside.bytes.items = search rules in
    let len : length c.in_ok-before.before.items ≡ length c.args.bytes.now = search rules in
    rw (c.put.ensures.len, c.in_ok-push.ensures.items) (c.self.invariant.0, c.self.invariant.1, AreWithin-push _ _ _ c.self.invariant.2 (omega arith))

pub invariant_of-self-else-is_made : goal.invariant_of-self-else-is_made
invariant_of-self-else-is_made c =
    let room : c.args.at + length c.args.bytes.now ≤ length c.self.inside.bytes.items = search rules in
    let len : length c.in_ok-before.before.items ≡ length c.args.bytes.now = search rules in
    rw c.in_ok-push.ensures.items (c.self.invariant.0, c.self.invariant.1, AreWithin-push _ _ _ c.self.invariant.2 (omega arith))

pub returns-then-is_made-clause-ok : goal.returns-then-is_made-clause-ok
returns-then-is_made-clause-ok c =
    let f = c.self.inside in
    let room : c.args.at + length c.args.bytes.now ≤ length f.bytes.items = search rules in
    let kept : c.in_ok-before.before.items ≡ slice_range f.bytes.items c.args.at (c.args.at + length c.args.bytes.now) = search rules in
    rw (c.if-is_made.true, ← c.self.view_is, c.put.ensures.after, c.in_ok-push.ensures.items, kept)
    (stored_of-written f.bytes.items f.least f.most f.replaced.items f.listing c.args.at c.args.bytes.now room)

pub returns-else-is_made-clause-ok : goal.returns-else-is_made-clause-ok
returns-else-is_made-clause-ok c =
    let f = c.self.inside in
    let room : c.args.at + length c.args.bytes.now ≤ length f.bytes.items = search rules in
    let kept : c.in_ok-before.before.items ≡ slice_range f.bytes.items c.args.at (c.args.at + length c.args.bytes.now) = search rules in
    rw (c.if-is_made.false, ← c.self.view_is, c.in_ok-push.ensures.items, kept)
    (stored_of-asked f.bytes.items f.least f.most f.replaced.items f.listing c.args.at (length c.args.bytes.now) room)
