-- What an error tells of a region.
use Rattle.std.specs.Prelude.{◌≡◌, ℕ, List, Option, Some, None}
use Rattle.czi_format.specs.Painting.{Query, chosen}
use Rattle.czi_format.specs.PaintRefusals.{PaintRefusal, too_long, compressed, kind, mixed, short_data, cause_of, first_given, refusal}
use Rattle.czi_image.specs.declared.types.Tile.{Tile}
use Rattle.czi_tiles.specs.Chosen.{tile_dims, tile_info, tile_size}
use Rattle.czi_paint.specs.declared.fault.PaintError.{PaintError}
use Rattle.czi_paint.specs.declared.fault.PaintError.TheVariants.{TooLong, Compressed, Kind, Mixed, ShortData, Memory}

-- why the region isn't painted; want of memory tells nothing of it
abbrev pub refusal_of : PaintError → Option PaintRefusal
refusal_of (TooLong bytes limit) = Some (too_long bytes limit)
refusal_of (Compressed place) = Some (compressed place)
refusal_of (Kind place) = Some (kind place)
refusal_of (Mixed place) = Some (mixed place)
refusal_of (ShortData place) = Some (short_data place)
refusal_of Memory = None

-- there is a refusal, and the error tells it
abbrev pub Tells : Option PaintRefusal → PaintError → Type 0
Tells refusal error = (r : PaintRefusal) × (refusal_of error ≡ Some r) × (refusal ≡ Some r)

-- why one of the directory can't be painted
abbrev pub tile_cause : Query → ℕ × Tile → Option PaintRefusal
tile_cause q t = cause_of q t.0 (tile_info t.1) (tile_size t.1)

-- the first cause not to paint a chosen one
abbrev pub chosen_cause : Query → List Tile → Option PaintRefusal
chosen_cause q tiles = first_given (tile_cause q) (chosen tile_dims q tiles)

-- the first cause not to paint a region over these tiles
abbrev pub tiles_refusal : Query → List Tile → Option PaintRefusal
tiles_refusal q tiles = refusal tile_info tile_size q tiles
