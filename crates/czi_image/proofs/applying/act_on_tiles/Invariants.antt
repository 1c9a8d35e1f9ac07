use Rattle.std.proofs.Common.{◌≡◌, ◌+◌, ◌≤◌, length, map, vec_len, vec_capacity}
use Rattle.czi_image.specs.Change.{AreWithin}
use Rattle.czi_image.specs.Summary.{Sums}
use Rattle.czi_image.specs.View.{tile_of}
use Rattle.czi_image.proofs.Acting.{acted}
use Rattle.czi_image.proofs.applying.act_on_tiles.Given as goal

abbrev pub invariant-loop-act : goal.invariant-loop-act
invariant-loop-act l = record {
  acted : acted l.act-iterator.rest.items l.tiles.items ≡ acted l.fn.acts.items l.fn.tiles.items;
  within : AreWithin l.act-iterator.rest.items (length l.tiles.items);
  sums : Sums l.summary (map tile_of l.tiles.items);
  room : vec_len l.tiles + length l.act-iterator.rest.items ≤ vec_capacity l.tiles;
  numbers : vec_len l.summary.numbers + length l.act-iterator.rest.items ≤ vec_capacity l.summary.numbers;
  capacity : vec_capacity l.tiles ≡ vec_capacity l.fn.tiles;
  numbers_capacity : vec_capacity l.summary.numbers ≡ vec_capacity l.fn.summary.numbers;
}
