use Rattle.std.proofs.Common.{◌≡◌, ℕ, ◌+◌, ◌-◌, ◌++◌, List, [], length, map, sum, take, drop, flat_map, ap, ◌∙◌, arith, subst}
use Rattle.czi_format.specs.Entry.{IsEntry, entry_bytes, entry_len}
use Rattle.czi_image.specs.View.{tile_of}
use Rattle.czi_plan.specs.Directory.{entries_of}
use Rattle.std.specs.List.{AllByRecursion}
use Rattle.czi_image.specs.declared.types.Tile.{Tile}
use Rattle.czi_plan.proofs.Entries.{sum_here, entry_next, put_as, all_here}
use Rattle.std.proofs.lemmas.List.{take_all, drop_all}
use Rattle.czi_plan.proofs.directory.write_entries.Goals as goal

pub loop-tile-preserved : goal.loop-tile-preserved
loop-tile-preserved c =
    let tiles = c.args.tiles.now in
    let i : ℕ = c.loop-tile.tile-index in
    let left = sum_here tiles i c.tile-item.result c.loop-tile-test.true c.tile-item.is in
    let own : c.write_tile.new.out ≡ entry_bytes (tile_of c.tile-item.result).entry = c.write_tile.ensures.written in
    let k : c.loop-tile.end + c.entry_len.result - c.loop-tile.end ≡ c.entry_len.result = omega arith in
    let size : length c.write_tile.new.out ≡ c.entry_len.result = omega (arith, c.write_tile.auto.out, k) in
    let next = entry_next tiles i c.tile-item.result c.args.at c.loop-tile.end c.entry_len.result c.args.out.now c.loop-tile.out c.write_tile.new.out c.loop-tile-test.true c.tile-item.is (omega (arith, c.requires))
    c.loop-tile.invariant.seam c.loop-tile.invariant.written own size in
    record {
      end = omega (arith, left, c.loop-tile.invariant.end, c.entry_len.ensures);
      seam = next.0;
      entries = all_here tiles i c.tile-item.result c.loop-tile-test.true c.tile-item.is c.loop-tile.invariant.entries c.write_tile.ensures.entry;
      written = put_as c.loop-tile.end c.entry_len.result _ c.loop-tile.out c.write_tile.new.out k ∙ next.1;
    }

pub returns : goal.returns
returns c =
    let i : ℕ = c.loop-tile.tile-index in
    let tiles : List Tile = c.args.tiles.now in
    let all : take i tiles ≡ tiles = take_all i tiles (omega (arith, c.loop-tile-test.false)) in
    let none : drop i tiles ≡ [] = drop_all i tiles (omega (arith, c.loop-tile-test.false)) in
    let ends : c.loop-tile.end ≡ c.args.at + sum (map entry_len (entries_of tiles)) = omega (arith, c.loop-tile.invariant.end, ap (λ ts. sum (map entry_len (entries_of ts))) none) in
    record {
      ends = ends;
      entries = subst (λ (ts : List Tile). AllByRecursion IsEntry (entries_of ts)) all c.loop-tile.invariant.entries;
      size = omega (arith, c.loop-tile.invariant.seam, ends, ap (λ ts. length (flat_map entry_bytes (entries_of ts))) all);
      written = c.loop-tile.invariant.written ∙ ap (λ ts. take c.args.at c.args.out.now ++ (flat_map entry_bytes (entries_of ts) ++ drop c.loop-tile.end c.args.out.now)) all;
    }
