-- The live segments as items.
use Rattle.std.proofs.Common.{◌≡◌, ℕ, ◌+◌, ◌≤◌, List, [], ◌∷◌, ◌++◌, map, Option, Some, None, option_map, refl, ap, ◌∙◌, arith}
use Rattle.std.proofs.lemmas.List.{map-append}
use Rattle.std.specs.Prelude.{option_to_list, IfSome}
use Rattle.std.specs.List.{AllByRecursion}
use Rattle.czi_format.specs.Span.{end_of}
use Rattle.czi_format.specs.Segment.{Segment}
use Rattle.czi_format.specs.Live.{Directory, Tile, AttItem, MetaItem, segments}
use Rattle.czi_num.specs.declared.span.Span.{Span as CodeSpan}
use Rattle.czi_num.specs.Span.{span_of}
use Rattle.czi_seg.specs.declared.header.SegHeader.{SegHeader}
use Rattle.czi_seg.specs.View.{header_of}
use Rattle.czi_walk.specs.View.{segment_of, HasExtent, EndBy}
use Rattle.czi_image.specs.declared.reading.Live.{Live as CodeLive}
use Rattle.czi_image.specs.Inside.{LiveWithin, DirectoryEnds, TileEnds, AttItemEnds, MetaItemEnds}
use Rattle.czi_image.specs.Items.{header_item, directory_item, tile_item, att_item_item, meta_item_item, items_of}
use Rattle.czi_image.specs.View.{directory_of, tile_of, att_item_of, meta_item_of, live_of}

-- both parts of a list, changed
both : {X Y : Type 0} (f : X → Y) (xs ys : List X) (us vs : List Y) → map f xs ≡ us → map f ys ≡ vs → map f (xs ++ ys) ≡ us ++ vs
both f xs ys us vs p q = map-append f xs ys ∙ (λ j. p j ++ q j)

all_both : {X : Type 0} (P : X → Type 0) (xs ys : List X) → AllByRecursion P xs → AllByRecursion P ys → AllByRecursion P (xs ++ ys)
all_both P [] ys all more = more
all_both P (x ∷ xs) ys all more = (all.0, all_both P xs ys all.1 more)

of_option : {C X : Type 0} (item : C → CodeSpan × SegHeader) (view : C → X) (segment : X → Segment) → ((c : C) → segment_of (item c) ≡ segment (view c)) → (o : Option C)
    → map segment_of (option_to_list (option_map item o)) ≡ option_to_list (option_map segment (option_map view o))
of_option item view segment same None = refl
of_option item view segment same (Some c) = λ j. same c j ∷ []

of_list : {C X : Type 0} (item : C → CodeSpan × SegHeader) (view : C → X) (segment : X → Segment) → ((c : C) → segment_of (item c) ≡ segment (view c)) → (cs : List C)
    → map segment_of (map item cs) ≡ map segment (map view cs)
of_list item view segment same [] = refl
of_list item view segment same (c ∷ cs) = let rest = of_list item view segment same cs in λ j. same c j ∷ rest j

-- the items' segments are the live segments
pub items_segments : (l : CodeLive) → map segment_of (items_of l) ≡ segments (live_of l)
items_segments l =
    let first : segment_of (header_item l.header) ≡ header_of 0 l.header.head = ap (λ (n : ℕ). header_of n l.header.head) l.header.place in
    let dir = of_option directory_item directory_of (λ (d : Directory). d.segment) (λ d. refl) l.directory in
    let tiles = of_list tile_item tile_of (λ (t : Tile). t.segment) (λ t. refl) l.tiles.items in
    let attdir = of_option directory_item directory_of (λ (d : Directory). d.segment) (λ d. refl) l.attdir in
    let atts = of_list att_item_item att_item_of (λ (a : AttItem). a.segment) (λ a. refl) l.attachments.items in
    let meta = of_option meta_item_item meta_item_of (λ (m : MetaItem). m.segment) (λ m. refl) l.metadata in
    let rest = both segment_of _ _ _ _ dir (both segment_of _ _ _ _ tiles (both segment_of _ _ _ _ attdir (both segment_of _ _ _ _ atts meta))) in
    λ j. first j ∷ rest j

all_option : {C : Type 0} (P : CodeSpan × SegHeader → Type 0) (item : C → CodeSpan × SegHeader) (o : Option C) → ((c : C) → o ≡ Some c → P (item c)) → AllByRecursion P (option_to_list (option_map item o))
all_option P item None each = tt
all_option P item (Some c) each = (each c refl, tt)

all_list : {C : Type 0} (P : CodeSpan × SegHeader → Type 0) (Q : C → Type 0) (item : C → CodeSpan × SegHeader) → ((c : C) → Q c → P (item c)) → (cs : List C) → AllByRecursion Q cs → AllByRecursion P (map item cs)
all_list P Q item each [] all = tt
all_list P Q item each (c ∷ cs) all = (each c all.0, all_list P Q item each cs all.1)

any_list : {C : Type 0} (P : CodeSpan × SegHeader → Type 0) (item : C → CodeSpan × SegHeader) → ((c : C) → P (item c)) → (cs : List C) → AllByRecursion P (map item cs)
any_list P item each [] = tt
any_list P item each (c ∷ cs) = (each c, any_list P item each cs)

has_extent : (span : CodeSpan) (head : SegHeader) → span.len ≡ 32 + head.allocated → HasExtent (span, head)
has_extent span head len = λ j. record { at = span.at; len = len j }

-- each span is its header's extent
pub items_extents : (l : CodeLive) → AllByRecursion HasExtent (items_of l)
items_extents l = (
  has_extent l.header.span l.header.head l.header.extent,
  all_both HasExtent _ _ (all_option HasExtent directory_item l.directory (λ d _. has_extent d.segment.span d.segment.head d.segment.extent))
      (all_both HasExtent _ _ (any_list HasExtent tile_item (λ t. has_extent t.span t.head t.extent) l.tiles.items)
      (all_both HasExtent _ _ (all_option HasExtent directory_item l.attdir (λ d _. has_extent d.segment.span d.segment.head d.segment.extent))
      (all_both HasExtent _ _ (any_list HasExtent att_item_item (λ a. has_extent a.span a.head a.extent) l.attachments.items)
      (all_option HasExtent meta_item_item l.metadata (λ m _. has_extent m.span m.head m.extent))))),
)

some_holds : {X : Type 0} (P : X → Type 0) (o : Option X) → IfSome o P → (x : X) → o ≡ Some x → P x
some_holds P None holds x is = cc
some_holds P (Some y) holds x is = let same : y ≡ x = cc in transport_to P y x same holds
  where
    transport_to : {X : Type 0} (P : X → Type 0) (a b : X) → a ≡ b → P a → P b
    transport_to P a b same p = rw (← same) p

-- each ends within the length
pub items_end : (size : ℕ) (l : CodeLive) → LiveWithin size l → EndBy size (items_of l)
items_end size l within =
    let P : CodeSpan × SegHeader → Type 0 = λ item. end_of (span_of item.0) ≤ size in (
      (let place : l.header.span.at ≡ 0 = l.header.place in omega (arith, place, within.header)),
      all_both P _ _ (all_option P directory_item l.directory (λ d is. some_holds (DirectoryEnds size) l.directory within.directory d is))
          (all_both P _ _ (all_list P (TileEnds size) tile_item (λ t ends. ends) l.tiles.items within.tiles)
          (all_both P _ _ (all_option P directory_item l.attdir (λ d is. some_holds (DirectoryEnds size) l.attdir within.attdir d is))
          (all_both P _ _ (all_list P (AttItemEnds size) att_item_item (λ a ends. ends) l.attachments.items within.attachments)
          (all_option P meta_item_item l.metadata (λ m is. some_holds (MetaItemEnds size) l.metadata within.metadata m is))))),
    )
