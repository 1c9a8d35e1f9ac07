-- The live extents of an index, and the extents that are free beside them.
use Rattle.std.specs.Prelude.{ℕ, ◌+◌, ◌≤◌, List, ◌∷◌, ◌++◌, map, Option, option_map, option_to_list, IsTrue, IsFalse}
use Rattle.std.specs.List.{AllByRecursion, list_any}
use Rattle.czi_format.specs.Span.{Span, end_of, meets, is_aligned}
use Rattle.czi_num.specs.Span.{span_of}
use Rattle.czi_seg.specs.declared.file_header.FileHeader.{FileHeader}
use Rattle.czi_spans.specs.Apart.{AreApart}
use Rattle.czi_image.specs.declared.types.Tile.{Tile}
use Rattle.czi_image.specs.declared.types.AttItem.{AttItem}
use Rattle.czi_image.specs.declared.types.MetaItem.{MetaItem}
use Rattle.czi_image.specs.declared.types.DirItem.{DirItem}

abbrev pub header_span : FileHeader → Span
header_span h = record { at = 0; len = 32 + h.allocated }

abbrev pub directory_span : DirItem → Span
directory_span d = span_of d.span

abbrev pub tile_span : Tile → Span
tile_span t = span_of t.span

abbrev pub att_item_span : AttItem → Span
att_item_span a = span_of a.span

abbrev pub meta_item_span : MetaItem → Span
meta_item_span m = span_of m.span

-- the extents of the live segments: the file header, the directory, the subblocks, the attachment directory, the attachments,
-- the metadata
abbrev pub live_spans : FileHeader → Option DirItem → List Tile → Option DirItem → List AttItem → Option MetaItem → List Span
live_spans header directory tiles attdir attachments metadata = header_span header
    ∷ (option_to_list (option_map directory_span directory)
    ++ (map tile_span tiles
    ++ (option_to_list (option_map directory_span attdir)
    ++ (map att_item_span attachments
    ++ option_to_list (option_map meta_item_span metadata)))))

-- extents one behind another, at multiples of 32, that end at or below a place and meet no live extent
pub record AreFree (size : ℕ) (live extents : List Span) : Type 0 where
  pub apart : AreApart 0 extents
  pub aligned : AllByRecursion (λ s. IsTrue (is_aligned s)) extents
  pub inside : AllByRecursion (λ s. end_of s ≤ size) extents
  pub clear : AllByRecursion (λ s. IsFalse (list_any (meets s) live)) extents
