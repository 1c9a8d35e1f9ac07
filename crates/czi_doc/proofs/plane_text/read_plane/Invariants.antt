use Rattle.std.proofs.Common.{◌+◌, ◌≤◌, map, length}
use Rattle.czi_doc.specs.Items.{item_of}
use Rattle.czi_doc.proofs.PlaneItems.{Midway}
use Rattle.czi_doc.proofs.plane_text.read_plane.Given as goal

-- what was read, and how much is left
abbrev pub invariant-loop : goal.invariant-loop
invariant-loop l = record {
  midway : Midway l.text l.rest (map item_of l.items.items);
  inside : length l.rest + l.counter ≤ length l.text;
}
