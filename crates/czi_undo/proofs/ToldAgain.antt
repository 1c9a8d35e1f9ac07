-- What is told for a held item gives the item again.
use Rattle.std.proofs.Common.{◌≡◌, ℕ, zero, suc, ◌+◌, ◌^◌, ◌≤◌, ◌<◌, pos, List, [], ◌∷◌, ◌++◌, length, Bool, true, nat_le, Option, Some, option_to_list, refl, ap, sym, ◌∙◌, arith, subst, bytes_eq, append-nil, append_assoc, length-append}
use Rattle.std.specs.List.{AllByRecursion}
use Rattle.std.proofs.lemmas.Bool.{le-leb}
use Rattle.std.proofs.lemmas.Slice.Eq.{bytes_eq-Decides}
use Rattle.czi_format.specs.Bytes.{bytes_at, i64_at, i64_bytes}
use Rattle.czi_format.specs.Entry.{Entry, A1}
use Rattle.czi_format.specs.Live.{Tile, tile, AttItem, att_item, MetaItem, meta_item}
use Rattle.czi_format.specs.Segment.{Segment, header_at, header_bytes, extent, data_of, subblock_id, attachment_id, metadata_id}
use Rattle.czi_format.specs.Span.{end_of}
use Rattle.czi_format.proofs.Fields.{field_at, i64_field}
use Rattle.czi_machine.specs.Change.{Act, omit, bring, brought, past, set_new}
use Rattle.czi_machine.specs.Formers.{Lain, Return}
use Rattle.czi_undo.specs.Parts.{ListPart, drops, puts, inserts, LainPart, in_tiles, in_attachments, no_metadata, to_metadata, unchanged, change_of, return_of, held_in, lain_tile, lain_attachment, lain_metadata, lain_in, lain_part}
use Rattle.czi_undo.specs.Told.{tells_segment, tells_tile, tells_attachment, tells_metadata, tells_list, tells}

abbrev pub list_new : {Y : Type 0} → ListPart Y → List Y
list_new (drops i) = []
list_new (puts i y) = y ∷ []
list_new (inserts i y) = y ∷ []

brought-past : {X : Type 0} (i : ℕ) (c : List (Act X)) → brought (past i c) ≡ brought c
brought-past zero c = refl
brought-past (suc i) c = brought-past i c

-- what an inverse brings
pub brought-part : {Y : Type 0} (p : ListPart Y) → brought (change_of p) ≡ list_new p
brought-part (drops i) = brought-past i (omit ∷ [])
brought-part (puts i y) = brought-past i (bring y ∷ omit ∷ [])
brought-part (inserts i y) = brought-past i (bring y ∷ [])

-- What is brought back can be read in the image.
abbrev pub ReadsTile : List ℕ → Lain Tile → Type 0
ReadsTile image y = (tile y.item.entry y.item.segment (data_of image y.item.segment) ≡ Some y.item) × (y.item.segment.id ≡ subblock_id) × (y.item.entry.position ≡ pos y.item.segment.at) × (y.item.segment.used ≤ y.item.segment.allocated) × (end_of (extent y.item.segment) ≤ length image)

abbrev pub ReadsAttachment : List ℕ → Lain AttItem → Type 0
ReadsAttachment image y = (att_item y.item.entry y.item.segment (data_of image y.item.segment) ≡ Some y.item) × (y.item.segment.id ≡ attachment_id) × (y.item.entry.position ≡ pos y.item.segment.at) × (y.item.segment.used ≤ y.item.segment.allocated) × (end_of (extent y.item.segment) ≤ length image)

abbrev pub ReadsMetadata : List ℕ → Lain MetaItem → Type 0
ReadsMetadata image y = (meta_item y.item.segment (data_of image y.item.segment) ≡ Some y.item) × (y.item.segment.id ≡ metadata_id) × (y.item.segment.used ≤ y.item.segment.allocated) × (end_of (extent y.item.segment) ≤ length image)

pub record Reads (image : List ℕ) (r : Return) : Type 0 where
  pub tiles : AllByRecursion (ReadsTile image) (brought r.tiles)
  pub attachments : AllByRecursion (ReadsAttachment image) (brought r.attachments)
  pub metadata : AllByRecursion (ReadsMetadata image) (option_to_list (set_new r.metadata))

pub id_long : (length subblock_id ≡ 16) × (length attachment_id ≡ 16) × (length metadata_id ≡ 16)
unfolding subblock_id attachment_id metadata_id
id_long = (refl, refl, refl)

-- a header that was written is read
pub header_told : (s : Segment) → length s.id ≡ 16 → s.allocated < 2 ^ 63 → s.used < 2 ^ 63 → header_at (header_bytes s) 0 ≡ Some (record { at = 0; id = s.id; allocated = s.allocated; used = s.used })
unfolding header_at
header_told s long few small =
    let bytes : List ℕ = header_bytes s in
    let a : i64_at bytes 16 ≡ pos s.allocated = i64_field s.id (i64_bytes (pos s.used)) (pos s.allocated) 16 long (record { sfits = omega (arith, few) }) in
    let split : bytes ≡ (s.id ++ i64_bytes (pos s.allocated)) ++ (i64_bytes (pos s.used) ++ []) = sym (append_assoc s.id (i64_bytes (pos s.allocated)) (i64_bytes (pos s.used) ++ []) ∙ ap (λ z. s.id ++ (i64_bytes (pos s.allocated) ++ z)) (append-nil (i64_bytes (pos s.used)))) in
    let u : i64_at bytes 24 ≡ pos s.used = ap (λ z. i64_at z 24) split ∙ i64_field (s.id ++ i64_bytes (pos s.allocated)) [] (pos s.used) 24 (omega (arith, long, length-append s.id (i64_bytes (pos s.allocated)))) (record { sfits = omega (arith, small) }) in
    let i : bytes_at bytes 0 16 ≡ s.id = field_at [] s.id (i64_bytes (pos s.allocated) ++ i64_bytes (pos s.used)) 0 16 refl long in
    rw (a, u, i) refl

same_bytes : (xs : List ℕ) → bytes_eq xs xs ≡ true
same_bytes xs = (bytes_eq-Decides xs xs).1 refl

-- a held segment that is told is found again
held_told : (image id : List ℕ) (s : Segment) (w : Bool) → length id ≡ 16 → s.id ≡ id → s.used ≤ s.allocated → end_of (extent s) ≤ length image → length image < 2 ^ 63 → held_in image id (tells_segment s w) ≡ Some s
held_told image id s w long named used inside small =
    let long' : length s.id ≡ 16 = ap length named ∙ long in
    let h = header_told s long' (omega (arith, inside, small)) (omega (arith, used, inside, small)) in
    let a : bytes_eq s.id id ≡ true = ap (λ z. bytes_eq z id) named ∙ same_bytes id in
    let b : nat_le s.used s.allocated ≡ true = le-leb _ _ used in
    let c : nat_le (s.at + 32 + s.allocated) (length image) ≡ true = le-leb _ _ (omega (arith, inside)) in
    rw (h, a, b, c) refl

tile_told : (image : List ℕ) (y : Lain Tile) → length image < 2 ^ 63 → ReadsTile image y → lain_tile image (tells_tile y) ≡ Some y
tile_told image y small is =
    let s : Segment = y.item.segment in
    let h : held_in image subblock_id (tells_segment s y.walked) ≡ Some s = held_told image subblock_id s y.walked id_long.0 is.1 is.3 is.4 small in
    let e : (let z : Entry = record { info = y.item.entry.info; position = pos s.at } in z) ≡ y.item.entry = λ i. record { info = y.item.entry.info; position = sym is.2 i } in
    let t : tile (record { info = y.item.entry.info; position = pos s.at }) s (data_of image s) ≡ Some y.item = ap (λ z. tile z s (data_of image s)) e ∙ is.0 in
    rw (h, t) refl

attachment_told : (image : List ℕ) (y : Lain AttItem) → length image < 2 ^ 63 → ReadsAttachment image y → lain_attachment image (tells_attachment y) ≡ Some y
attachment_told image y small is =
    let s : Segment = y.item.segment in
    let h : held_in image attachment_id (tells_segment s y.walked) ≡ Some s = held_told image attachment_id s y.walked id_long.1 is.1 is.3 is.4 small in
    let e : (let z : A1 = record { info = y.item.entry.info; position = pos s.at } in z) ≡ y.item.entry = λ i. record { info = y.item.entry.info; position = sym is.2 i } in
    let t : att_item (record { info = y.item.entry.info; position = pos s.at }) s (data_of image s) ≡ Some y.item = ap (λ z. att_item z s (data_of image s)) e ∙ is.0 in
    rw (h, t) refl

metadata_told : (image : List ℕ) (y : Lain MetaItem) → length image < 2 ^ 63 → ReadsMetadata image y → lain_metadata image (tells_metadata y) ≡ Some y
metadata_told image y small is =
    let s : Segment = y.item.segment in
    let h : held_in image metadata_id (tells_segment s y.walked) ≡ Some s = held_told image metadata_id s y.walked id_long.2 is.1 is.2 is.3 small in
    let t : meta_item s (data_of image s) ≡ Some y.item = is.0 in
    rw (h, t) refl

list_told : {Y T : Type 0} (read : T → Option Y) (f : Y → T) (P : Y → Type 0) (p : ListPart Y) → ((y : Y) → P y → read (f y) ≡ Some y) → AllByRecursion P (list_new p) → lain_in read (tells_list f p) ≡ Some p
list_told read f P (drops i) each all = refl
list_told read f P (puts i y) each all = let e = each y all.0 in rw e refl
list_told read f P (inserts i y) each all = let e = each y all.0 in rw e refl

pub part_told : (image : List ℕ) (n : ℕ) (q : LainPart) → length image < 2 ^ 63 → Reads image (return_of n q) → lain_part image (tells q) ≡ Some q
part_told image n (in_tiles p) small is = let e = list_told (lain_tile image) tells_tile (ReadsTile image) p (λ y r. tile_told image y small r) (subst (AllByRecursion (ReadsTile image)) (brought-part p) is.tiles) in rw e refl
part_told image n (in_attachments p) small is = let e = list_told (lain_attachment image) tells_attachment (ReadsAttachment image) p (λ y r. attachment_told image y small r) (subst (AllByRecursion (ReadsAttachment image)) (brought-part p) is.attachments) in rw e refl
part_told image n no_metadata small is = refl
part_told image n (to_metadata m) small is = let e = metadata_told image m small is.metadata.0 in rw e refl
part_told image n unchanged small is = refl
