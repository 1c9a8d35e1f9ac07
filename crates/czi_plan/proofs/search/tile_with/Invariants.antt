use Rattle.std.proofs.Common.{◌≡◌, ℕ, ◌-◌, ◌<◌, ◌≤◌, get_or, length, false}
use Rattle.czi_doc.specs.View.{dims_of}
use Rattle.czi_format.specs.Key.{key}
use Rattle.czi_image.specs.declared.types.Tile.{Tile}
use Rattle.czi_machine.specs.Edit.{same_key}
use Rattle.czi_plan.proofs.search.tile_with.Given as goal

-- none that was passed has the key
abbrev pub invariant-loop-i : goal.invariant-loop-i
invariant-loop-i l = record {
  inside : l.from ≤ length l.numbers;
  before : (k : ℕ) (d : Tile) → k < l.from → same_key (key (dims_of (get_or l.index.tiles.items k d).info.dims)) (key (dims_of l.dims)) ≡ false;
}

abbrev pub decreases-loop-i : goal.decreases-loop-i
decreases-loop-i l = length l.numbers - l.from
