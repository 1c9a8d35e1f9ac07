-- The texts of a state that lies in an image.
use Rattle.std.proofs.Common.{◌≡◌, ℕ, suc, ◌+◌, ◌≤◌, List, [], ◌∷◌, ◌++◌, map, length, codes, Option, Some, None, option_map, refl, ap, sym, ◌∙◌, arith}
use Rattle.std.specs.List.{AllByRecursion, zip}
use Rattle.czi_format.specs.Contents.{sub_end, meta_end}
use Rattle.czi_format.specs.Live.{Tile, AttItem, MetaItem, subblock_of, attachment_of, metadata_of}
use Rattle.czi_format.specs.Segment.{extent, data_of}
use Rattle.czi_format.specs.Span.{Span}
use Rattle.czi_format.proofs.Limits.{length-bytes_at}
use Rattle.czi_report.specs.States.{list_of, info_of, listed_line, subblock_line, attached_line, metadata_at, ListsState, DetailsState}
use Rattle.czi_report.specs.Text.{items_text, lines, number_line, tile_line, tile_info_line, tile_info_line_of, attachment_line, attachment_line_of, metadata_line, metadata_line_of, guid_line, directory_line, info_text}
use Rattle.czi_report.proofs.Contents.{tiles_have, attachments_have, metadata_has}

-- items beside their spans
length-zipped : {X Y : Type 0} (span : X → Span) (view : X → Y) (xs : List X) → length (zip (map span xs) (map view xs)) ≡ length xs
length-zipped span view [] = refl
length-zipped span view (x ∷ xs) = ap suc (length-zipped span view xs)

module _ {X Y : Type 0} (line : ℕ → X → List ℕ) (other : ℕ → Span × Y → List ℕ) (span : X → Span) (view : X → Y) where
  lines_zipped : (xs : List X) (n : ℕ) → AllByRecursion (λ x. (i : ℕ) → line i x ≡ other i (span x, view x)) xs → lines line n xs ≡ lines other n (zip (map span xs) (map view xs))
  lines_zipped [] n all = refl
  lines_zipped (x ∷ xs) n all =
      let here = all.0 n in
      let rest = lines_zipped xs (n + 1) all.1 in
      λ k. here k ++ rest k

  items_zipped : (word : List ℕ) (xs : List X) → AllByRecursion (λ x. (i : ℕ) → line i x ≡ other i (span x, view x)) xs → items_text word line xs ≡ items_text word other (zip (map span xs) (map view xs))
  unfolding items_text
  items_zipped word xs all =
      let many = sym (length-zipped span view xs) in
      let each = lines_zipped xs 0 all in
      λ k. number_line word (many k) ++ each k

every : {X : Type 0} (P Q : X → Type 0) → ((x : X) → P x → Q x) → (xs : List X) → AllByRecursion P xs → AllByRecursion Q xs
every P Q step [] all = tt
every P Q step (x ∷ xs) all = (step x all.0, every P Q step xs all.1)

each_one : {X : Type 0} (Q : X → Type 0) → ((x : X) → Q x) → (xs : List X) → AllByRecursion Q xs
each_one Q each [] = tt
each_one Q each (x ∷ xs) = (each x, each_one Q each xs)

-- one item: its parts have the lengths that its segment says
tile_same : (image : List ℕ) (t : Tile) → sub_end t.head ≤ length (data_of image t.segment) → (i : ℕ) → tile_info_line i t ≡ subblock_line i (extent t.segment, subblock_of image t)
tile_same image t fits i =
    let c : List ℕ = data_of image t.segment in
    let h = t.head in
    let meta = sym (length-bytes_at c h.begin h.meta (omega (arith, fits))) in
    let pixels = sym (length-bytes_at c (h.begin + h.meta) h.pixels (omega (arith, fits))) in
    let tail = sym (length-bytes_at c (h.begin + h.meta + h.pixels) h.tail (omega (arith, fits))) in
    λ k. tile_info_line_of i (extent t.segment) (meta k) (pixels k) (tail k)

attachment_same : (image : List ℕ) (a : AttItem) → 256 + a.size ≤ length (data_of image a.segment) → (i : ℕ) → attachment_line i a ≡ attached_line i (extent a.segment, attachment_of image a)
attachment_same image a fits i =
    let size = sym (length-bytes_at (data_of image a.segment) 256 a.size fits) in
    λ k. attachment_line_of i (extent a.segment) a.entry.info (size k)

metadata_same : (image : List ℕ) (o : Option MetaItem) → ((m : MetaItem) → o ≡ Some m → meta_end m.head ≤ length (data_of image m.segment))
    → metadata_line o ≡ metadata_at (option_map (λ (m : MetaItem). extent m.segment) o) (option_map (metadata_of image) o)
metadata_same image None has = refl
metadata_same image (Some m) has =
    let c : List ℕ = data_of image m.segment in
    let fits = has m refl in
    let xml = sym (length-bytes_at c 256 m.head.xml (omega (arith, fits))) in
    let tail = sym (length-bytes_at c (256 + m.head.xml) m.head.tail (omega (arith, fits))) in
    λ k. metadata_line_of (extent m.segment) (xml k) (tail k)

pub lists_state : ListsState
unfolding list_of
lists_state image live s lies =
    let zipped = items_zipped tile_line listed_line (λ (t : Tile). extent t.segment) (subblock_of image) (codes "tiles ") live.tiles
    (each_one (λ (t : Tile). (i : ℕ) → tile_line i t ≡ listed_line i (extent t.segment, subblock_of image t)) (λ t i. refl) live.tiles) in
    zipped ∙ (λ k. items_text (codes "tiles ") listed_line (zip (sym lies.extents.subblocks k) (sym lies.document k).subblocks))

pub details_state : DetailsState
unfolding info_text info_of
details_state image live s lies =
    let at = lies.extents in
    let is = sym lies.document in
    let tiles = items_zipped tile_info_line subblock_line (λ (t : Tile). extent t.segment) (subblock_of image) (codes "tiles ") live.tiles
    (every (λ (t : Tile). sub_end t.head ≤ length (data_of image t.segment)) (λ (t : Tile). (i : ℕ) → tile_info_line i t ≡ subblock_line i (extent t.segment, subblock_of image t)) (tile_same image) live.tiles (tiles_have image live lies.reaches))
    ∙ (λ k. items_text (codes "tiles ") subblock_line (zip (sym at.subblocks k) (is k).subblocks)) in
    let attachments = items_zipped attachment_line attached_line (λ (a : AttItem). extent a.segment) (attachment_of image) (codes "attachments ") live.attachments
    (every (λ (a : AttItem). 256 + a.size ≤ length (data_of image a.segment)) (λ (a : AttItem). (i : ℕ) → attachment_line i a ≡ attached_line i (extent a.segment, attachment_of image a)) (attachment_same image) live.attachments (attachments_have image live lies.reaches))
    ∙ (λ k. items_text (codes "attachments ") attached_line (zip (sym at.attachments k) (is k).attachments)) in
    let metadata = metadata_same image live.metadata (metadata_has image live lies.reaches) ∙ (λ k. metadata_at (sym at.metadata k) (is k).metadata) in
    λ k. number_line (codes "length ") (sym lies.length k)
    ++ (guid_line (is k).identity
    ++ (directory_line (codes "directory ") (sym at.directory k)
    ++ (tiles k
    ++ (directory_line (codes "attdir ") (sym at.attdir k)
    ++ (attachments k
    ++ metadata k)))))
