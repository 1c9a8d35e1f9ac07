-- What a patch is of a chosen tile.
use Rattle.std.specs.Prelude.{◌≡◌, ℕ, ◌+◌, ◌<◌, List, [], ◌∷◌}
use Rattle.std.specs.Bool.{⊤}
use Rattle.czi_format.specs.Document.{Subblock}
use Rattle.czi_format.specs.Live.{subblock_of}
use Rattle.czi_image.specs.View.{tile_of}
use Rattle.czi_image.specs.declared.types.Tile.{Tile}
use Rattle.czi_format.specs.Painting.{Query, point, pixel_of}
use Rattle.czi_paint.specs.declared.patch.Patch.{Patch}
use Rattle.czi_tiles.specs.Chosen.{tile_dims}
use Rattle.czi_paint.specs.Patches.{patch_pixel, FitsRow, EndsBelow}

-- the subblock of the image that a tile stands for
abbrev pub subblock_in : List ℕ → Tile → Subblock
subblock_in image t = subblock_of image (tile_of t)

-- a patch shows what the tile shows in the region, and its pixels are among the tile's
pub record IsPatch (q : Query) (t : Tile) (p : Patch) : Type 0 where
  pub shows : (image : List ℕ) (i j : ℕ) → i < q.w → j < q.h
      → patch_pixel q.pixel.size image p j i ≡ pixel_of q (tile_dims t) (subblock_in image t).pixels (point q.x q.layer i) (point q.y q.layer j)
  pub fits : FitsRow q.w p
  pub ends : EndsBelow (t.begin + t.meta + t.pixels) q.pixel.size p

-- a patch of each
abbrev pub ArePatches : Query → List (ℕ × Tile) → List Patch → Type 0
ArePatches q [] [] = ⊤
ArePatches q [] (p ∷ ps) = ⊥
ArePatches q (t ∷ ts) [] = ⊥
ArePatches q (t ∷ ts) (p ∷ ps) = IsPatch q t.1 p × ArePatches q ts ps
