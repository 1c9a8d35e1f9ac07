-- The texts of what an index holds, and of its layout.
use Rattle.std.proofs.Common.{◌≡◌, ℕ, ◌+◌, ◌-◌, List, ◌++◌, map, length, codes, option_map, Option, Result, Ok, Err, OnOk, ap, ◌∙◌, arith, append_assoc}
use Rattle.std.proofs.lemmas.List.{length-map}
use Rattle.std.specs.Fmt.{decimal}
use Rattle.czi_format.specs.Layout.{Layout}
use Rattle.czi_format.specs.Span.{Span}
use Rattle.czi_format.specs.Segment.{extent}
use Rattle.czi_format.specs.Live.{Tile, AttItem, MetaItem, Live}
use Rattle.czi_num.specs.Span.{span_of}
use Rattle.czi_num.specs.declared.span.Span.{Span as CodeSpan}
use Rattle.czi_seg.specs.View.{header_of}
use Rattle.czi_seg.specs.declared.header.SegHeader.{SegHeader}
use Rattle.czi_image.specs.declared.index.Index.{Index}
use Rattle.czi_image.specs.Holds.{Holds, LiesAs, lies_at, extent_of}
use Rattle.czi_image.specs.View.{tile_of, att_item_of, meta_item_of}
use Rattle.czi_machine.specs.Places.{live_places}
use Rattle.czi_report.specs.States.{check_of}
use Rattle.czi_report.specs.Text.{check_text, text_line, items_text, tile_line, list_text, number_line, guid_line, directory_line, tile_info_line, attachment_line, metadata_line, info_text, span_text}

-- a span that is the extent of a segment
pub as_extent : (s : CodeSpan) (h : SegHeader) → s.len ≡ 32 + h.allocated → span_text (span_of s) ≡ span_text (extent (header_of s.at h))
as_extent s h is = ap (λ (n : ℕ). span_text (record { at = s.at; len = n })) is

pub listed : {T E : Type 0} (r : Result T E) (x : Index) (before now : List ℕ) → OnOk r (now ≡ before ++ items_text (codes "tiles ") tile_line (map tile_of x.tiles.items))
    → OnOk r ((live : Live) → Holds live x → now ≡ before ++ list_text live)
listed (Ok y) x before now is = λ live holds. is ∙ ap (λ (ts : List Tile). before ++ items_text (codes "tiles ") tile_line ts) holds.tiles
listed (Err e) x before now is = tt

-- what is counted of a layout, one number after another
pub counted : (l : Layout) (x : Index) (count : ℕ) (before live deleted unknown now : List ℕ) → LiesAs l x → count ≡ 1 + length (live_places l)
    → live ≡ before ++ (codes "check live=" ++ decimal count)
    → deleted ≡ live ++ (codes " runs=" ++ decimal x.extents.len)
    → unknown ≡ deleted ++ (codes " unknown=" ++ decimal x.unknown)
    → now ≡ unknown ++ text_line (codes " tail=") (decimal (x.length - x.walk_end))
    → now ≡ before ++ check_of l
unfolding check_text text_line
counted l x count before live deleted unknown now lies is first second third last =
    let extents : x.extents.len ≡ length l.deleted = omega (arith, x.extents.ok, length-map x.extents.items span_of, ap length lies.deleted) in
    let said : now ≡ before ++ check_text count x.extents.len x.unknown (x.length - x.walk_end) = rw (last, third, second, first) (simp append_assoc) in
    said ∙ (λ k. before ++ check_text (is k) (extents k) (lies.unknown k) (lies.length k - lies.walk_end k))

-- the parts of `info`, one after another
pub detailed : (live : Live) (x : Index) (before front tiles attdir attachments now : List ℕ) → Holds live x
    → front ≡ before ++ (number_line (codes "length ") x.length ++ (guid_line live.header.identity ++ directory_line (codes "directory ") (extent_of live.directory)))
    → tiles ≡ front ++ items_text (codes "tiles ") tile_info_line (map tile_of x.tiles.items)
    → attdir ≡ tiles ++ directory_line (codes "attdir ") (lies_at x.attdir)
    → attachments ≡ attdir ++ items_text (codes "attachments ") attachment_line (map att_item_of x.attachments.items)
    → now ≡ attachments ++ metadata_line (option_map meta_item_of x.metadata)
    → now ≡ before ++ info_text x.length live
unfolding info_text
detailed live x before front tiles attdir attachments now holds f t d a m =
    let t_is = t ∙ ap (λ (ts : List Tile). front ++ items_text (codes "tiles ") tile_info_line ts) holds.tiles in
    let d_is = d ∙ ap (λ (s : Option Span). tiles ++ directory_line (codes "attdir ") s) holds.attdir in
    let a_is = a ∙ ap (λ (items : List AttItem). attdir ++ items_text (codes "attachments ") attachment_line items) holds.attachments in
    let m_is = m ∙ ap (λ (o : Option MetaItem). attachments ++ metadata_line o) holds.metadata in
    rw (m_is, a_is, d_is, t_is, f) (simp append_assoc)
