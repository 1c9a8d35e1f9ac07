use Rattle.std.proofs.Common.{◌≡◌, ◌*◌, ◌≤◌, take}
use Rattle.czi_plan.specs.Need.{brought_by}
use Rattle.czi_plan.proofs.need.brought_by.Given as goal

abbrev pub invariant-loop-part : goal.invariant-loop-part
invariant-loop-part l = record {
  len : l.len ≡ brought_by (take l.part-index l.parts);
  bound : l.len ≤ 832 * l.part-index;
}
