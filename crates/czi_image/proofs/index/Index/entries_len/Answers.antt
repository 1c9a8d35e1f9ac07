use Rattle.std.proofs.Common.{◌≡◌, ◌*◌, ◌<◌, ◌≤◌, ◌^◌, map, sum, length, ap, sym, ◌∙◌, arith, subst}
use Rattle.std.proofs.Math.Nat.{mod-eq_of_lt}
use Rattle.czi_machine.proofs.Clear.{map-map}
use Rattle.czi_format.specs.Entry.{entry_len}
use Rattle.czi_format.specs.Live.{Tile as LiveTile}
use Rattle.czi_image.specs.Summary.{entries_len}
use Rattle.czi_image.specs.View.{tile_of}
use Rattle.czi_image.specs.declared.types.Tile.{Tile}
use Rattle.czi_image.specs.declared.index.Index.{Index}
use Rattle.czi_image.proofs.Summed.{entries_bound}
use Rattle.czi_image.proofs.index.Index.entries_len.Goals as goal

whole : (x : Index) → x.summary.entries_len ≡ entries_len (map tile_of x.tiles.items)
whole x =
    let small : entries_len (map tile_of x.tiles.items) < 2 ^ 64 = omega (arith, entries_bound x.tiles.items, x.few_tiles, x.tiles.ok) in
    x.summed.entries_len ∙ mod-eq_of_lt small

pub returns-clause-len : goal.returns-clause-len
returns-clause-len c =
    let tiles = c.args.self.now.tiles.items in
    whole c.args.self.now ∙ ap sum (map-map tile_of (λ (t : LiveTile). entry_len t.entry) tiles ∙ sym (map-map (λ (t : Tile). (tile_of t).entry) entry_len tiles))

pub returns-clause-bound : goal.returns-clause-bound
returns-clause-bound c = subst (λ n. n ≤ 832 * length c.args.self.now.tiles.items) (sym (whole c.args.self.now)) (entries_bound c.args.self.now.tiles.items)
