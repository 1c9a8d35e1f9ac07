-- What becomes of the metadata, and what a plan has of it.
use Rattle.std.specs.Prelude.{◌≡◌, ℕ, ◌+◌, ◌-◌, List, [], ◌∷◌, map, length, ◌||◌, nat_lt, Ok, Some, None, option_map, option_to_list}
use Rattle.std.specs.List.{AllByRecursion}
use Rattle.czi_format.specs.Data.{metadata_data}
use Rattle.czi_format.specs.Document.{Metadata}
use Rattle.czi_format.specs.Layout.{Place}
use Rattle.czi_format.specs.Segment.{metadata_id}
use Rattle.czi_format.specs.Space.{fit, use_all, use_span}
use Rattle.czi_format.specs.Span.{Span, span_le, sorted}
use Rattle.czi_image.specs.Applied.{walks_on}
use Rattle.czi_image.specs.Change.{setting_of}
use Rattle.czi_image.specs.Holds.{meta_item_place}
use Rattle.czi_image.specs.Spans.{meta_item_span}
use Rattle.czi_image.specs.View.{meta_item_of}
use Rattle.czi_image.specs.declared.change.DirectoryChange.TheVariants.{Kept}
use Rattle.czi_image.specs.declared.change.Setting.{Setting as CodeSetting}
use Rattle.czi_image.specs.declared.change.Setting.TheVariants.{Same, To}
use Rattle.czi_image.specs.declared.index.Index.{Index}
use Rattle.czi_image.specs.declared.types.MetaItem.{MetaItem}
use Rattle.czi_links.specs.Record.{Bytes}
use Rattle.czi_machine.specs.Change.{set_new, set_omitted}
use Rattle.czi_machine.specs.Places.{metadata_need}
use Rattle.czi_machine.specs.Puts.{IsMetadata}
use Rattle.czi_num.specs.Span.{span_of}
use Rattle.czi_num.specs.declared.span.Span.{Span as CodeSpan}
use Rattle.czi_region.specs.Pieces.{IsPiece, bytes_of}
use Rattle.czi_region.specs.declared.block.Piece.{Piece as Range}
use Rattle.czi_region.specs.declared.block.Region.{Region}
use Rattle.czi_space.specs.State.{MapState, space_of}
use Rattle.czi_plan.specs.Attaching.{metadata_in}
use Rattle.czi_plan.specs.Changing.{Origin, edited, returned}
use Rattle.czi_plan.specs.Conditions.{IsLeft}
use Rattle.czi_plan.specs.Kind.{IsOfKind}
use Rattle.czi_plan.specs.Marks.{AreInOrder, head_mark, pointer_mark}
use Rattle.czi_plan.specs.Plan.{dead_of, usable_of}
use Rattle.czi_plan.specs.declared.new_metadata.NewMetadata.{NewMetadata}
use Rattle.czi_plan.specs.declared.plan.EditPlan.{EditPlan}
use Rattle.czi_format.specs.declared.numbers.TheConstants.{METADATA_POSITION}

abbrev pub metadata_of : NewMetadata → Metadata
metadata_of n = metadata_in n.xml.now n.tail.now

-- The item of metadata that lie in a span.
pub record IsMetaItemOf (d : Metadata) (span : CodeSpan) (i : MetaItem) : Type 0 where
  pub span_is : i.span ≡ span
  pub item : IsMetadata (meta_item_of i) d
  pub used : i.head.used ≡ length (metadata_data d 0)

-- Their data is a piece of the region, which is written behind the header.
pub record IsStagedIn (region : Region) (d : Metadata) (i : MetaItem) (writes : List (ℕ × Range)) : Type 0 where
  pub piece : Range
  pub staged : IsPiece region piece
  pub long : piece.len ≡ i.span.len - 32
  pub padding : ℕ
  pub bytes : bytes_of region piece ≡ metadata_data d padding
  pub only : writes ≡ (i.span.at + 32, piece) ∷ []

-- The metadata lie where their need fits first.
pub record IsPlacedIn (x : Index) (m : MapState) (d : Metadata) (i : MetaItem) : Type 0 where
  pub fits : fit (space_of m) (metadata_need d) ≡ Ok (record { span = meta_item_span i; space = use_span (space_of m) (meta_item_span i) })
  pub walked : i.walked ≡ (nat_lt i.span.at x.length || walks_on x)

-- what comes, and what leaves: the old ones where there are others, or none
abbrev pub metadata_brought : CodeSetting MetaItem → List MetaItem
metadata_brought z = option_to_list (set_new (setting_of z))

abbrev pub metadata_left : CodeSetting MetaItem → Index → List Place
metadata_left z x = option_to_list (option_map meta_item_place (set_omitted (setting_of z) x.metadata))

-- MetadataPosition, which is 0 where there are none, and their header
abbrev pub metadata_marks : CodeSetting MetaItem → List Bytes
metadata_marks Same = []
metadata_marks (To None) = pointer_mark METADATA_POSITION 0 ∷ []
metadata_marks (To (Some i)) = pointer_mark METADATA_POSITION i.span.at ∷ head_mark (meta_item_of i).segment ∷ []

-- The spans of what comes: those that are used, those beside them, which come back and can't be used again, and those of needs.
abbrev pub metadata_used : CodeSetting MetaItem → Origin Metadata → List Span
metadata_used z (edited d) = map meta_item_span (metadata_brought z)
metadata_used z returned = usable_of (map meta_item_place (metadata_brought z))

abbrev pub metadata_beside : CodeSetting MetaItem → Origin Metadata → List Span
metadata_beside z (edited d) = []
metadata_beside z returned = dead_of (map meta_item_place (metadata_brought z))

abbrev pub metadata_needed : CodeSetting MetaItem → Origin Metadata → List Span
metadata_needed z (edited d) = map meta_item_span (metadata_brought z)
metadata_needed z returned = []

-- the length afterwards
abbrev pub length_with : MapState → CodeSetting MetaItem → Origin Metadata → ℕ
length_with m z o = (use_all (space_of m) (metadata_needed z o)).length

-- An edit sets them to new ones, which are staged; what comes back is a segment of metadata that isn't live, and nothing is
-- written for it but its header.
abbrev pub BringsNewMetadata : Index → MapState → Region → CodeSetting MetaItem → Metadata → List (ℕ × Range) → Type 0
BringsNewMetadata x m region Same d writes = ⊥
BringsNewMetadata x m region (To None) d writes = ⊥
BringsNewMetadata x m region (To (Some i)) d writes = IsMetaItemOf d i.span i × IsPlacedIn x m d i × IsStagedIn region d i writes

abbrev pub IsMetadataBack : Index → MapState → MetaItem → Type 0
IsMetadataBack x m i = IsOfKind metadata_id (meta_item_of i).segment × IsLeft x m (meta_item_place i)

abbrev pub BringsMetadata : Index → MapState → Region → CodeSetting MetaItem → Origin Metadata → List (ℕ × Range) → Type 0
BringsMetadata x m region z (edited d) writes = BringsNewMetadata x m region z d writes
BringsMetadata x m region z returned writes = AllByRecursion (IsMetadataBack x m) (metadata_brought z) × (writes ≡ [])

-- Nothing changes but the metadata.
pub record SetsAlone (z : CodeSetting MetaItem) (p : EditPlan) : Type 0 where
  pub directory : p.change.directory ≡ Kept
  pub acts : p.change.tiles.items ≡ []
  pub attdir : p.change.attdir ≡ Kept
  pub attachments : p.change.attachments.items ≡ []
  pub metadata : p.change.metadata ≡ z

-- The plan that sets metadata: what comes is staged, and its span is used, the old ones are freed, and the links are put.
pub record StagesMetadata (x : Index) (m : MapState) (z : CodeSetting MetaItem) (o : Origin Metadata) (region : Region) (new : EditPlan) : Type 0 where
  pub brings : BringsMetadata x m region z o new.writes.items
  pub change : SetsAlone z new
  pub used : map span_of new.used.items ≡ metadata_used z o
  pub length : new.length ≡ length_with m z o
  pub held : map span_of new.held.items ≡ usable_of (metadata_left z x)
  pub freed : map span_of new.freed.items ≡ sorted span_le (usable_of (metadata_left z x))
  pub dead : List CodeSpan
  pub is_dead : map span_of dead ≡ dead_of (metadata_left z x)
  pub links : AreInOrder (metadata_marks z) (map span_of new.used.items) (map span_of new.freed.items) (map span_of dead) m.extents new.links.links
