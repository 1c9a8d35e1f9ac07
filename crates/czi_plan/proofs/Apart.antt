-- What is brought lies where no item was live.
use Rattle.std.proofs.Common.{◌≡◌, ℕ, ◌+◌, ◌≤◌, List, [], ◌∷◌, ◌++◌, map, Option, Some, None, option_map, option_to_list, refl, ap, sym, ◌∙◌, arith}
use Rattle.std.proofs.lemmas.List.{map-append}
use Rattle.std.proofs.lemmas.Simd.{map-map}
use Rattle.czi_format.specs.Layout.{Layout, Place}
use Rattle.czi_format.specs.Live.{AttItem, Live, MetaItem, Tile}
use Rattle.czi_format.specs.Segment.{Segment, extent}
use Rattle.czi_format.specs.Span.{Span}
use Rattle.czi_image.specs.Holds.{LiesAs, att_item_place, meta_item_place, tile_place}
use Rattle.czi_image.specs.Spans.{att_item_span, directory_span, meta_item_span, tile_span}
use Rattle.czi_image.specs.declared.change.DirectoryChange.{DirectoryChange}
use Rattle.czi_image.specs.declared.change.DirectoryChange.TheVariants.{Kept, New, Patched}
use Rattle.czi_image.specs.declared.index.Index.{Index}
use Rattle.czi_image.specs.declared.types.DirItem.{DirItem}
use Rattle.czi_machine.specs.Cover.{cover}
use Rattle.czi_machine.specs.LiveChange.{LiveChange, SpansAt, new_segments}
use Rattle.czi_machine.specs.State.{item_spans, items_of, spans_of}
use Rattle.czi_machine.proofs.Asking.{spans-append}
use Rattle.czi_machine.proofs.Cover.{cover-append}
use Rattle.czi_plan.specs.Apart.{BringsApart, item_segments}
use Rattle.czi_plan.specs.Conditions.{live_of}
use Rattle.czi_plan.proofs.Parts.{used_by, written_dir}

-- items have the places of their segments
places_of : {X : Type 0} (f : X → Segment) (ps : List Place) (xs : List X) → map (λ (p : Place). p.span) ps ≡ map (λ x. extent (f x)) xs → spans_of ps ≡ map extent (map f xs)
places_of f ps xs e = e ∙ sym (map-map extent f xs)

place_of : {X : Type 0} (f : X → Segment) (p : Option Place) (x : Option X) → option_map (λ (p : Place). p.span) p ≡ option_map (λ x. extent (f x)) x → spans_of (option_to_list p) ≡ map extent (option_to_list (option_map f x))
place_of f None None e = refl
place_of f None (Some x) e = absurd (cc (e))
place_of f (Some p) None e = absurd (cc (e))
place_of f (Some p) (Some x) e = let one : p.span ≡ extent (f x) = cc (e) in ap (λ s. s ∷ []) one

pub items_at : (l : Layout) (live : Live) → SpansAt l live → item_spans (items_of l) ≡ map extent (item_segments live)
items_at l live at =
    let T : List Segment = map (λ (t : Tile). t.segment) live.tiles in
    let A : List Segment = map (λ (a : AttItem). a.segment) live.attachments in
    let M : List Segment = option_to_list (option_map (λ (m : MetaItem). m.segment) live.metadata) in
    let span : Place → Span = λ p. p.span in
    let left : item_spans (items_of l) ≡ spans_of l.subblocks ++ (spans_of l.attachments ++ spans_of (option_to_list l.metadata)) =
    map-append span l.subblocks (l.attachments ++ option_to_list l.metadata) ∙ ap (λ z. spans_of l.subblocks ++ z) (map-append span l.attachments (option_to_list l.metadata)) in
    let right : map extent (item_segments live) ≡ map extent T ++ (map extent A ++ map extent M) = map-append extent T (A ++ M) ∙ ap (λ z. map extent T ++ z) (map-append extent A M) in
    left ∙ ((λ k. places_of (λ (t : Tile). t.segment) l.subblocks live.tiles at.subblocks k ++ (places_of (λ (a : AttItem). a.segment) l.attachments live.attachments at.attachments k ++ place_of (λ (m : MetaItem). m.segment) l.metadata live.metadata at.metadata k)) ∙ sym right)

span_option : {X : Type 0} (f : X → Place) (o : Option X) → spans_of (option_to_list (option_map f o)) ≡ option_to_list (option_map (λ x. (f x).span) o)
span_option f None = refl
span_option f (Some x) = refl

-- the directories of an index
abbrev pub directory_spans_of : Index → List Span
directory_spans_of x = option_to_list (option_map directory_span x.directory) ++ option_to_list (option_map directory_span x.attdir)

-- its items are live, beside its directories
items_live : (l : Layout) (x : Index) (k : ℕ) → LiesAs l x → cover (item_spans (items_of l)) k + cover (directory_spans_of x) k ≤ cover (live_of x) k
items_live l x k lies =
    let D : List Span = option_to_list (option_map directory_span x.directory) in
    let T : List Span = map tile_span x.tiles.items in
    let X : List Span = option_to_list (option_map directory_span x.attdir) in
    let A : List Span = map att_item_span x.attachments.items in
    let M : List Span = option_to_list (option_map meta_item_span x.metadata) in
    let R : List Place = l.attachments ++ option_to_list l.metadata in
    omega (
      arith,
      ap (λ s. cover s k) (spans-append l.subblocks R),
      cover-append (spans_of l.subblocks) (spans_of R) k,
      ap (λ s. cover s k) (spans-append l.attachments (option_to_list l.metadata)),
      cover-append (spans_of l.attachments) (spans_of (option_to_list l.metadata)) k,
      ap (λ s. cover (spans_of s) k) (sym lies.subblocks),
      ap (λ s. cover (spans_of s) k) (sym lies.attachments),
      ap (λ o. cover (spans_of (option_to_list o)) k) (sym lies.metadata),
      ap (λ s. cover s k) (map-map (λ (p : Place). p.span) tile_place x.tiles.items),
      ap (λ s. cover s k) (map-map (λ (p : Place). p.span) att_item_place x.attachments.items),
      ap (λ s. cover s k) (span_option meta_item_place x.metadata),
      cover-append D X k,
      cover-append D (T ++ (X ++ (A ++ M))) k,
      cover-append T (X ++ (A ++ M)) k,
      cover-append X (A ++ M) k,
      cover-append A M k,
    )

-- So what is brought lies apart from them, where nothing live lies in it but a directory.
pub brings_apart : (live : Live) (l : Layout) (x : Index) (t : LiveChange) → SpansAt l live → LiesAs l x → ((k : ℕ) → cover (live_of x) k + cover (map extent (new_segments t)) k ≤ 1 + cover (directory_spans_of x) k) → BringsApart live t
brings_apart live l x t at lies once k some = omega (arith, some, once k, items_live l x k lies, ap (λ (s : List Span). cover s k) (items_at l live at))

-- a directory that is written is new, or it lies where it lay
pub written_among : (d : DirectoryChange) (old : Option DirItem) (k : ℕ) → cover (written_dir d old) k ≤ cover (used_by d) k + cover (option_to_list (option_map directory_span old)) k
written_among Kept old k = omega arith
written_among Patched old k = omega arith
written_among (New d) old k = omega arith
