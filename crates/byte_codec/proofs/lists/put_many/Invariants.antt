use Rattle.std.proofs.Common.{◌≡◌, ◌++◌, flat_map, length}
use Rattle.std.specs.List.{AllByRecursion}
use Rattle.byte_codec.proofs.lists.put_many.Given as goal

abbrev pub invariant-loop-left : goal.invariant-loop-left
invariant-loop-left g l = record {
  spelled : l.out.items ++ flat_map g.F.Form.spelling l.left ≡ l.fn.out.items ++ flat_map g.F.Form.spelling l.items;
  can : AllByRecursion g.F.Form.CanSpell l.left;
  fits : AllByRecursion g.F.Form.Fits l.left → AllByRecursion g.F.Form.Fits l.items;
}

abbrev pub decreases-loop-left : goal.decreases-loop-left
decreases-loop-left g l = length l.left
