use Rattle.std.proofs.Common.{◌≡◌, ◌+◌, ◌*◌, ◌++◌, take, flat_map}
use Rattle.std.specs.List.{AllByRecursion}
use Rattle.czi_format.specs.Entry.{IsA1, a1_bytes}
use Rattle.czi_region.specs.Pieces.{bytes_put, room}
use Rattle.czi_plan.specs.Changing.{entries_in}
use Rattle.czi_plan.specs.Kind.{of_attachments}
use Rattle.czi_plan.proofs.attachments.put_a1s.Given as goal

abbrev pub invariant-loop-item : goal.invariant-loop-item
invariant-loop-item l = record {
  bytes : bytes_put l.region ≡ bytes_put l.initial.region ++ flat_map a1_bytes (entries_in of_attachments (take l.item-index l.items));
  left : room l.region + 128 * l.item-index ≡ room l.initial.region;
  entries : AllByRecursion IsA1 (entries_in of_attachments (take l.item-index l.items));
}
