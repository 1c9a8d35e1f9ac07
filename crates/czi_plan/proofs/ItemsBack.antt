-- Items that are made from their held segments are these items.
use Rattle.std.proofs.Common.{◌≡◌, ℕ, ◌+◌, ◌-◌, ◌^◌, ◌≤◌, pos, Some, List, Bool, length, slice_index_or, refl, ap, sym, ◌∙◌, arith}
use Rattle.czi_doc.specs.View.{att_of, info_of}
use Rattle.czi_doc.specs.declared.items.AttInfo.{AttInfo as CodeAttInfo}
use Rattle.czi_doc.specs.declared.items.EntryInfo.{EntryInfo as CodeEntryInfo}
use Rattle.czi_format.specs.Live.{Tile, AttItem, MetaItem}
use Rattle.czi_format.specs.Segment.{Segment, attachment_id, header_at, metadata_id, subblock_id}
use Rattle.czi_format.proofs.Readings.{header_is_read}
use Rattle.czi_machine.specs.Formers.{Lain}
use Rattle.czi_seg.specs.View.{header_of}
use Rattle.czi_seg.specs.declared.header.SegHeader.{SegHeader}
use Rattle.czi_seg.specs.declared.id.SegId.TheVariants.{Subblock}
use Rattle.czi_undo.specs.Stands.{IsAttachment, IsHeld, IsMetadata, IsTile}
use Rattle.czi_undo.specs.declared.held.HeldSegment.{HeldSegment as CodeHeld}
use Rattle.czi_undo.proofs.ToldAgain.{header_told, id_long}
use Rattle.czi_plan.specs.Kind.{IsOfKind}
use Rattle.czi_image.specs.declared.types.Tile.{Tile as CodeTile}
use Rattle.czi_plan.specs.Undoing.{IsSoundHeld, IsTileBack}

-- the header that was kept is that of the segment
segment_is : (h : CodeHeld) (head : SegHeader) (s : Segment) (w : Bool) (id : List ℕ) → length id ≡ 16 → IsHeld h s w → IsOfKind id s → h.span.at + h.span.len ≤ 2 ^ 62 → header_at h.head 0 ≡ Some (header_of 0 head) → header_of h.span.at head ≡ s
segment_is h head s w id long is kind ends reads =
    let at : h.span.at ≡ s.at = ap (λ z. z.at) is.span in
    let len : h.span.len ≡ 32 + s.allocated = ap (λ z. z.len) is.span in
    let again : header_at h.head 0 ≡ Some (record { at = 0; id = s.id; allocated = s.allocated; used = s.used }) = ap (λ z. header_at z 0) is.head ∙ header_told s (ap length kind.0 ∙ long) (omega (arith, len, ends)) (omega (arith, len, ends, kind.1)) in
    let same : header_of 0 head ≡ record { at = 0; id = s.id; allocated = s.allocated; used = s.used } = cc (reads, again) in
    λ i. record { at = at i; id = (ap (λ (z : Segment). z.id) same) i; allocated = (ap (λ (z : Segment). z.allocated) same) i; used = (ap (λ (z : Segment). z.used) same) i }

-- and its id and sizes are sound
pub own_of : (id : List ℕ) (h : CodeHeld) (head : SegHeader) (at : ℕ) → IsSoundHeld id h → header_at h.head 0 ≡ Some (header_of 0 head) → IsOfKind id (header_of at head)
own_of id h head at sound reads =
    let same : sound.segment ≡ header_of 0 head = cc (sound.head, reads) in
    (ap (λ (z : Segment). z.id) (sym same) ∙ sound.named, omega (arith, sound.sound, ap (λ (z : Segment). z.used) same, ap (λ (z : Segment). z.allocated) same))

pub tile_is : (i new : CodeEntryInfo) (h : CodeHeld) (head : SegHeader) (y : Lain Tile) → info_of new ≡ info_of i → h.span.at + h.span.len ≤ 2 ^ 62 → header_at h.head 0 ≡ Some (header_of 0 head)
    → IsTile i h y → IsOfKind subblock_id y.item.segment → y.item.entry.position ≡ pos y.item.segment.at
    → (let t : Tile = record { entry = record { info = info_of new; position = pos h.span.at }; segment = header_of h.span.at head; head = record { begin = h.begin - (h.span.at + 32); meta = slice_index_or h.sizes 0 0; pixels = slice_index_or h.sizes 1 0; tail = slice_index_or h.sizes 2 0 } } in t) ≡ y.item
tile_is i new h head y copied ends reads is kind position =
    let at : h.span.at ≡ y.item.segment.at = ap (λ z. z.at) is.held.span in
    let segment : header_of h.span.at head ≡ y.item.segment = segment_is h head y.item.segment y.walked subblock_id id_long.0 is.held kind ends reads in
    let begin : h.begin - (h.span.at + 32) ≡ y.item.head.begin = omega (arith, is.begin, at) in
    let meta : slice_index_or h.sizes 0 0 ≡ y.item.head.meta = ap (λ z. slice_index_or z 0 0) is.sizes in
    let pixels : slice_index_or h.sizes 1 0 ≡ y.item.head.pixels = ap (λ z. slice_index_or z 1 0) is.sizes in
    let tail : slice_index_or h.sizes 2 0 ≡ y.item.head.tail = ap (λ z. slice_index_or z 2 0) is.sizes in
    let info : info_of new ≡ y.item.entry.info = copied ∙ is.info in
    let place : pos h.span.at ≡ y.item.entry.position = ap (λ z. pos z) at ∙ sym position in
    λ k. record { entry = record { info = info k; position = place k }; segment = segment k; head = record { begin = begin k; meta = meta k; pixels = pixels k; tail = tail k } }

-- There is one of each held segment that is sound.
pub held_tile : (info : CodeEntryInfo) (h : CodeHeld) → IsSoundHeld subblock_id h → h.span.at + h.span.len ≤ 2 ^ 62 → (t : CodeTile) × IsTileBack info h t
held_tile info h sound' ends' =
    let s : Segment = sound'.segment in
    let head : SegHeader = record { id = Subblock; allocated = s.allocated; used = s.used } in
    let place : s.at ≡ 0 = (header_is_read h.head 0 s sound'.head).place in
    let same : s ≡ header_of 0 head = λ j. record { at = place j; id = sound'.named j; allocated = s.allocated; used = s.used } in
    let reads : header_at h.head 0 ≡ Some (header_of 0 head) = sound'.head ∙ ap (λ (z : Segment). Some z) same in (
      record {
        info = info;
        span = h.span;
        head = head;
        walked = h.walked;
        begin = h.begin;
        meta = slice_index_or h.sizes 0 0;
        pixels = slice_index_or h.sizes 1 0;
        tail = slice_index_or h.sizes 2 0;
        extent = sound'.extent;
        sound = sound'.sound;
        ends = ends';
        begins = sound'.begins;
        contents = sound'.contents;
      },
      record {
        span = refl;
        walked = refl;
        says = refl;
        own = (refl, sound'.sound);
        item = λ y is kind position. tile_is info info h head y refl ends' reads is kind position;
      },
    )

pub attachment_is : (i : CodeAttInfo) (h : CodeHeld) (head : SegHeader) (y : Lain AttItem) → h.span.at + h.span.len ≤ 2 ^ 62 → header_at h.head 0 ≡ Some (header_of 0 head)
    → IsAttachment i h y → IsOfKind attachment_id y.item.segment → y.item.entry.position ≡ pos y.item.segment.at
    → (let a : AttItem = record { entry = record { info = att_of i; position = pos h.span.at }; segment = header_of h.span.at head; size = slice_index_or h.sizes 0 0 } in a) ≡ y.item
attachment_is i h head y ends reads is kind position =
    let at : h.span.at ≡ y.item.segment.at = ap (λ z. z.at) is.held.span in
    let segment : header_of h.span.at head ≡ y.item.segment = segment_is h head y.item.segment y.walked attachment_id id_long.1 is.held kind ends reads in
    let size : slice_index_or h.sizes 0 0 ≡ y.item.size = ap (λ z. slice_index_or z 0 0) is.sizes in
    let place : pos h.span.at ≡ y.item.entry.position = ap (λ z. pos z) at ∙ sym position in
    λ k. record { entry = record { info = is.info k; position = place k }; segment = segment k; size = size k }

pub metadata_is : (h : CodeHeld) (head : SegHeader) (y : Lain MetaItem) → h.span.at + h.span.len ≤ 2 ^ 62 → header_at h.head 0 ≡ Some (header_of 0 head)
    → IsMetadata h y → IsOfKind metadata_id y.item.segment
    → (let m : MetaItem = record { segment = header_of h.span.at head; head = record { xml = slice_index_or h.sizes 0 0; tail = slice_index_or h.sizes 1 0 } } in m) ≡ y.item
metadata_is h head y ends reads is kind =
    let segment : header_of h.span.at head ≡ y.item.segment = segment_is h head y.item.segment y.walked metadata_id id_long.2 is.held kind ends reads in
    let xml : slice_index_or h.sizes 0 0 ≡ y.item.head.xml = ap (λ z. slice_index_or z 0 0) is.sizes in
    let tail : slice_index_or h.sizes 1 0 ≡ y.item.head.tail = ap (λ z. slice_index_or z 1 0) is.sizes in
    λ k. record { segment = segment k; head = record { xml = xml k; tail = tail k } }
