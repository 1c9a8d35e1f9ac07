-- The plan that sets the metadata: what is used, freed and written, that it can be carried out, and what it is to the machine.
use Rattle.std.proofs.Common.{◌≡◌, ℕ, ◌+◌, ◌<◌, ◌≤◌, ◌^◌, List, [], ◌∷◌, ◌++◌, map, filter, length, max, true, ◌&&◌, ◌||◌, nat_lt, ◌==◌, if◌then◌else◌, Option, Some, None, option_map, option_to_list, not, Ok, Err, refl, ap, sym, ◌∙◌, subst, arith, inl, inr, append-nil}
use Rattle.std.specs.Bool.{⊤}
use Rattle.std.specs.List.{AllByRecursion}
use Rattle.std.proofs.lemmas.Bool.{cases_Bool, cases_lt}
use Rattle.std.proofs.lemmas.List.{length-map, map-append}
use Rattle.std.proofs.lemmas.List.Sums.{sum_by-cons}
use Rattle.czi_format.specs.Data.{metadata_data}
use Rattle.czi_format.specs.Document.{Attachment, Metadata, Subblock}
use Rattle.czi_format.specs.Layout.{Place}
use Rattle.czi_format.specs.Live.{Directory, Live, AttItem as FormatAttItem, MetaItem as FormatMetaItem, Tile as FormatTile}
use Rattle.czi_format.specs.Segment.{Segment, extent, header_bytes, metadata_id}
use Rattle.czi_format.specs.Space.{deleted_after, fit, use_span, with_all_freed, without}
use Rattle.czi_format.specs.Span.{AreDisjoint, IsWhole, Span, end_of, is_aligned, round32, span_le, sorted}
use Rattle.czi_format.proofs.Local.{All-append}
use Rattle.czi_image.specs.Applied.{CanChange, directory_after, live_after, place_after, walks_on}
use Rattle.czi_image.specs.Change.{AreWithin, a1s_after, acts_of, attdir_in, directory_in, directory_set, entries_after, live_change_of, setting_of}
use Rattle.czi_image.specs.Holds.{att_item_place, meta_item_place, tile_place}
use Rattle.czi_image.specs.Spans.{AreFree, att_item_span, directory_span, header_span, live_spans, meta_item_span, tile_span}
use Rattle.czi_image.specs.View.{att_item_of, meta_item_of, tile_of}
use Rattle.czi_image.specs.declared.change.Act.{Act as CodeAct}
use Rattle.czi_image.specs.declared.change.DirectoryChange.{DirectoryChange}
use Rattle.czi_image.specs.declared.change.Setting.{Setting as CodeSetting}
use Rattle.czi_image.specs.declared.change.Setting.TheVariants.{Same, To}
use Rattle.czi_image.specs.declared.index.Index.{Index}
use Rattle.czi_image.specs.declared.types.AttItem.{AttItem}
use Rattle.czi_image.specs.declared.types.MetaItem.{MetaItem}
use Rattle.czi_image.specs.declared.types.Tile.{Tile}
use Rattle.czi_links.specs.Record.{Bytes}
use Rattle.czi_machine.specs.Change.{brought, changed, mapped, mapped_setting, omitted, set, set_new, set_omitted, to}
use Rattle.czi_machine.specs.Cover.{between, cover}
use Rattle.czi_machine.specs.Edit.{DocumentEffect, to_metadata}
use Rattle.czi_machine.specs.Grouped.{fit_all}
use Rattle.czi_machine.specs.InOrder.{LiesInOrder, StaysOrNew, attachments_stay, directory_needs, directory_spans, needs_of, tiles_stay}
use Rattle.czi_machine.specs.LiveChange.{LiveChange, changed_live, new_segments}
use Rattle.czi_machine.specs.Places.{attdir_need, can_be_used, directory_need, edit_asks, freeing, laid, metadata_need, new_place, space_of, walk_goes_on}
use Rattle.czi_machine.specs.Planned.{Brings, BringsAttachment, BringsMetadata, BringsTile, ListsAttachments, ListsTiles, Plans, Sets}
use Rattle.czi_machine.specs.State.{State, item_places, item_spans, items_of, not_among, spans_of}
use Rattle.czi_machine.specs.Table.{metadata_laid}
use Rattle.czi_machine.specs.Writes.{PutsDeleted, PutsPointer, WritesAround, dead, head, marked}
use Rattle.czi_machine.specs.Written.{Piece, byte_of}
use Rattle.czi_machine.proofs.Clear.{heads_within}
use Rattle.czi_machine.proofs.Cover.{cover-append, cover-deleted_after, cover-sorted}
use Rattle.czi_machine.proofs.Keeps.{whole_aligned}
use Rattle.czi_machine.proofs.Leaving.{cover-split}
use Rattle.czi_machine.proofs.NewSegment.{header_length}
use Rattle.czi_machine.proofs.Omitted.{all_stay_same}
use Rattle.czi_machine.proofs.Over.{none_put, put_within}
use Rattle.czi_machine.proofs.Placing.{without_fewer}
use Rattle.czi_machine.proofs.TableSubblocks.{metadata_row}
use Rattle.czi_machine.proofs.Tiled.{All-both, All-filter, All-map, All-weaken, map-All}
use Rattle.czi_num.specs.Span.{span_of}
use Rattle.czi_num.specs.declared.span.Span.{Span as CodeSpan}
use Rattle.czi_region.specs.Pieces.{IsPiece}
use Rattle.czi_region.specs.declared.block.Piece.{Piece as Range}
use Rattle.czi_region.specs.declared.block.Region.{Region}
use Rattle.czi_space.specs.State.{AreExtents, MapState, space_of as space_in}
use Rattle.czi_plan.specs.Conditions.{IsMapOf, LiesIn, live_of}
use Rattle.czi_plan.specs.Does.{Does, HasNoPlan, layout_by}
use Rattle.czi_plan.specs.Geometry.{AreParts, IsLong}
use Rattle.czi_plan.specs.Marks.{AreInOrder, CanLink, byte_span, head_mark, is_new, pointer_mark}
use Rattle.czi_plan.specs.Pieces.{bytes_in, pieces_of, writes_of}
use Rattle.czi_plan.specs.Placing.{IsFull}
use Rattle.czi_plan.specs.Plan.{IsPlan, dead_of, extents_after, freed_of, left_directory, left_items, left_places, usable_of, used_of}
use Rattle.czi_plan.specs.Changing.{Origin, edited, returned}
use Rattle.czi_plan.specs.Setting.{BringsMetadata as Comes, IsMetaItemOf, IsPlacedIn, IsStagedIn, SetsAlone, StagesMetadata, length_with, metadata_beside, metadata_brought, metadata_left, metadata_marks, metadata_needed, metadata_used}
use Rattle.czi_plan.specs.declared.plan.EditPlan.{EditPlan}
use Rattle.czi_plan.specs.declared.plan.PlanFault.{PlanFault}
use Rattle.czi_plan.specs.declared.plan.PlanFault.TheVariants.{Full as Filled, Memory}
use Rattle.czi_plan.proofs.Brief.{spans_both}
use Rattle.czi_plan.proofs.Changed.{WriteWell, clear_once, disjoint_once, freed_stay, no_well, one_well}
use Rattle.czi_plan.proofs.Directing.{AreWritten, IsPut, PutsHead, are_written, extents_put, heads_fewer}
use Rattle.czi_plan.proofs.Machines.{brought_places, new_dir}
use Rattle.czi_plan.proofs.Doing.{dead_all, dead_cover, gone_are, gone_of, items_leave_after, layout_apart, left_after, places_of, places_spans, some_spans}
use Rattle.czi_plan.proofs.Linking.{AreOwn, OwnMarks, can_link, cover-fewer, is_32, links_brief, links_rise, links_within, low_none, no_marks, piece_length, pieces_once}
use Rattle.czi_plan.proofs.Order.{at_place, extents_apart, used_stay}
use Rattle.czi_plan.proofs.Parts.{AreBrought, AreGone, AreTaken, IsFound, are_parts, back_brought, ends_none, extents_ends, extents_whole, found_in, found_taken, live_once, map_extents, new_brought, none_brought, place_spans, spans_filter}

-- what is live with these metadata
abbrev pub live_with : Index → Option MetaItem → List Span
live_with x o = live_spans x.header x.directory x.tiles.items x.attdir x.attachments.items o

live_cover : (x : Index) (o : Option MetaItem) (q : ℕ) → cover (live_with x o) q ≡ cover (live_with x None) q + cover (option_to_list (option_map meta_item_span o)) q
live_cover x o q =
    let D : List Span = option_to_list (option_map directory_span x.directory) in
    let T : List Span = map tile_span x.tiles.items in
    let A : List Span = option_to_list (option_map directory_span x.attdir) in
    let B : List Span = map att_item_span x.attachments.items in
    let M : List Span = option_to_list (option_map meta_item_span o) in
    omega (
      arith,
      cover-append D (T ++ (A ++ (B ++ M))) q,
      cover-append T (A ++ (B ++ M)) q,
      cover-append A (B ++ M) q,
      cover-append B M q,
      cover-append D (T ++ (A ++ (B ++ []))) q,
      cover-append T (A ++ (B ++ [])) q,
      cover-append A (B ++ []) q,
      cover-append B [] q,
    )

live_parts : (P : Span → Type 0) (x : Index) (o o' : Option MetaItem) → AllByRecursion P (live_with x o) → AllByRecursion P (option_to_list (option_map meta_item_span o')) → AllByRecursion P (live_with x o') × AllByRecursion P (option_to_list (option_map meta_item_span o))
live_parts P x o o' all more =
    let D : List Span = option_to_list (option_map directory_span x.directory) in
    let T : List Span = map tile_span x.tiles.items in
    let A : List Span = option_to_list (option_map directory_span x.attdir) in
    let B : List Span = map att_item_span x.attachments.items in
    let M : List Span = option_to_list (option_map meta_item_span o) in
    let N : List Span = option_to_list (option_map meta_item_span o') in
    let one = All-append P D (T ++ (A ++ (B ++ M))) all.1 in
    let two = All-append P T (A ++ (B ++ M)) one.1 in
    let three = All-append P A (B ++ M) two.1 in
    let four = All-append P B M three.1 in
    ((all.0, All-both P D (T ++ (A ++ (B ++ N))) one.0 (All-both P T (A ++ (B ++ N)) two.0 (All-both P A (B ++ N) three.0 (All-both P B N four.0 more)))), four.1)

-- the old metadata
left_some : (P : Place → Type 0) (o : Option MetaItem) → ((i : MetaItem) → P (meta_item_place i)) → AllByRecursion P (option_to_list (option_map meta_item_place o))
left_some P None f = tt
left_some P (Some i) f = (f i, tt)

left_all : (P : Span → Type 0) (o : Option MetaItem) → AllByRecursion P (option_to_list (option_map meta_item_span o)) → AllByRecursion (λ (p : Place). P p.span) (option_to_list (option_map meta_item_place o))
left_all P None all = tt
left_all P (Some i) all = all

pub left_few : (o : Option MetaItem) → length (option_to_list (option_map meta_item_place o)) ≤ 1
left_few None = omega arith
left_few (Some i) = omega arith

-- what leaves is there
of_left : (P : Span → Type 0) (z : CodeSetting MetaItem) (o : Option MetaItem) → AllByRecursion P (option_to_list (option_map meta_item_span o)) → AllByRecursion P (option_to_list (option_map meta_item_span (set_omitted (setting_of z) o)))
of_left P Same o all = tt
of_left P (To new) o all = all

-- and what is there then is what comes and what stays
set_cover : (z : CodeSetting MetaItem) (o : Option MetaItem) (q : ℕ)
    → cover (option_to_list (option_map meta_item_span (set (setting_of z) o))) q + cover (option_to_list (option_map meta_item_span (set_omitted (setting_of z) o))) q ≡ cover (option_to_list (option_map meta_item_span o)) q + cover (map meta_item_span (metadata_brought z)) q
set_cover Same o q = omega arith
set_cover (To None) o q = omega arith
set_cover (To (Some i)) o q = omega arith

set_ends : (P : Span → Type 0) (z : CodeSetting MetaItem) (o : Option MetaItem) → AllByRecursion P (option_to_list (option_map meta_item_span o)) → AllByRecursion P (map meta_item_span (metadata_brought z)) → AllByRecursion P (option_to_list (option_map meta_item_span (set (setting_of z) o)))
set_ends P Same o all new = all
set_ends P (To None) o all new = tt
set_ends P (To (Some i)) o all new = new

sorted_few : (xs : List Span) → length xs ≤ 1 → sorted span_le xs ≡ xs
sorted_few [] h = refl
sorted_few (s ∷ []) h = refl
sorted_few (s ∷ t ∷ xs) h = absurd (omega (arith, h))

-- one span at most is freed, and so it is in order; and one at most is held
pub left_sorted : (z : CodeSetting MetaItem) (x : Index) → sorted span_le (usable_of (metadata_left z x)) ≡ usable_of (metadata_left z x)
left_sorted z x = sorted_few _ (omega (arith, spans_both can_be_used (metadata_left z x), left_few (set_omitted (setting_of z) x.metadata)))

pub few_held : (z : CodeSetting MetaItem) (x : Index) (held : List CodeSpan) → map span_of held ≡ usable_of (metadata_left z x) → length held ≤ 1
few_held z x held is = omega (arith, length-map held span_of, ap length is, spans_both can_be_used (metadata_left z x), left_few (set_omitted (setting_of z) x.metadata))

-- What comes.
one_at_most : (z : CodeSetting MetaItem) → length (metadata_brought z) ≤ 1
one_at_most Same = omega arith
one_at_most (To None) = omega arith
one_at_most (To (Some i)) = omega arith

pub few_used : (z : CodeSetting MetaItem) (o : Origin Metadata) → length (metadata_used z o) ≤ 1
few_used z (edited d) = omega (arith, length-map (metadata_brought z) meta_item_span, one_at_most z)
few_used z returned = omega (arith, spans_both can_be_used (map meta_item_place (metadata_brought z)), length-map (metadata_brought z) meta_item_place, one_at_most z)

pub brought_covers : (z : CodeSetting MetaItem) (o : Origin Metadata) (q : ℕ) → cover (map meta_item_span (metadata_brought z)) q ≡ cover (metadata_used z o) q + cover (metadata_beside z o) q
brought_covers z (edited d) q = omega arith
brought_covers z returned q = omega (arith, cover-split can_be_used (map meta_item_place (metadata_brought z)) q, ap (λ l. cover l q) (place_spans meta_item_place (metadata_brought z)))

found : (x : Index) (m : MapState) (d : Metadata) (i : MetaItem) → IsMapOf x m → IsPlacedIn x m d i → IsFound m.length m.held m.extents [] m.length (meta_item_span i)
found x m d i is placed = found_in x m (metadata_need d) [] (meta_item_span i) is tt (omega arith) (omega arith) placed.fits

pub brought_by : (x : Index) (m : MapState) (region : Region) (z : CodeSetting MetaItem) (o : Origin Metadata) (writes : List (ℕ × Range)) → IsMapOf x m → Comes x m region z o writes → AreBrought x m (metadata_used z o) (metadata_beside z o) (metadata_needed z o)
brought_by x m region Same (edited d) writes is b = absurd b
brought_by x m region (To None) (edited d) writes is b = absurd b
brought_by x m region (To (Some i)) (edited d) writes is b = new_brought x m (meta_item_span i) is (found x m d i is b.1)
brought_by x m region Same returned writes is b = none_brought x m is
brought_by x m region (To None) returned writes is b = none_brought x m is
brought_by x m region (To (Some i)) returned writes is b = back_brought x m (meta_item_place i) is (omega (arith, i.extent)) b.0.0.1

of_brought : (P : Span → Type 0) (z : CodeSetting MetaItem) (o : Origin Metadata) → AllByRecursion P (map meta_item_span (metadata_brought z)) → AllByRecursion P (metadata_used z o) × AllByRecursion P (metadata_beside z o)
of_brought P z (edited d) all = (all, tt)
of_brought P z returned all =
    let places : AllByRecursion (λ (p : Place). P p.span) (map meta_item_place (metadata_brought z)) = map-All meta_item_place (λ (p : Place). P p.span) (metadata_brought z) (All-map meta_item_span P (metadata_brought z) all) in
    (spans_filter P can_be_used (map meta_item_place (metadata_brought z)) places, spans_filter P (λ (p : Place). not (can_be_used p)) (map meta_item_place (metadata_brought z)) places)

brought_32 : (z : CodeSetting MetaItem) → AllByRecursion (λ (s : Span). 32 ≤ s.len) (map meta_item_span (metadata_brought z))
brought_32 Same = tt
brought_32 (To None) = tt
brought_32 (To (Some i)) = (omega (arith, i.extent), tt)

-- the length afterwards
long_enough : (x : Index) (m : MapState) (z : CodeSetting MetaItem) (o : Origin Metadata) → IsMapOf x m → (m.length ≤ length_with m z o) × (length_with m z o ≤ 2 ^ 62)
long_enough x m z (edited d) is = by z
  where
    by : (z : CodeSetting MetaItem) → (m.length ≤ length_with m z (edited d)) × (length_with m z (edited d) ≤ 2 ^ 62)
    by Same = (omega arith, omega (arith, x.small, is.length))
    by (To None) = (omega arith, omega (arith, x.small, is.length))
    by (To (Some i)) = (omega arith, omega (arith, x.small, is.length, i.ends))
long_enough x m z returned is = (omega arith, omega (arith, x.small, is.length))

module _ {x : Index} {m : MapState} (z : CodeSetting MetaItem) (o : Origin Metadata) (is : IsMapOf x m) (brought : AreBrought x m (metadata_used z o) (metadata_beside z o) (metadata_needed z o)) where
  abbrev top : ℕ
  top = length_with m z o

  gone : AreGone m.length (header_span x.header) (metadata_left z x) (metadata_beside z o) m.extents
  gone =
      let P : Span → Type 0 = λ s. end_of s ≤ m.length in
      let live : AllByRecursion P (live_of x) = subst (λ n. AllByRecursion (λ (s : Span). end_of s ≤ n) (live_of x)) is.length x.inside in
      let omitted' : Option MetaItem = set_omitted (setting_of z) x.metadata in
      record {
        front = refl;
        header = omega (arith, x.headed);
        inside = live.0;
        rise = map_extents x m is;
        long = left_some (λ (p : Place). 32 ≤ p.span.len) omitted' (λ i. omega (arith, i.extent));
        ends = left_all P omitted' (of_left P z x.metadata (live_parts P x x.metadata None live tt).1);
        kept_long = (of_brought (λ s. 32 ≤ s.len) z o (brought_32 z)).1;
        kept_ends = brought.beside_ends;
        once = λ p. omega (arith, brought.once p, live_cover x x.metadata p, set_cover z x.metadata p, live_fewer p, ap (λ l. cover l p) (some_spans meta_item_place omitted'));
      }
    where
      live_fewer : (p : ℕ) → cover (option_to_list (option_map meta_item_span (set_omitted (setting_of z) x.metadata))) p ≤ cover (option_to_list (option_map meta_item_span x.metadata)) p
      live_fewer p = by z
        where
          by : (z : CodeSetting MetaItem) → cover (option_to_list (option_map meta_item_span (set_omitted (setting_of z) x.metadata))) p ≤ cover (option_to_list (option_map meta_item_span x.metadata)) p
          by Same = omega arith
          by (To new) = omega arith

  taken : AreTaken m.length top m.extents (metadata_used z o)
  taken = found_taken m.length top m.extents (metadata_used z o) (λ p. omega (arith, live_once x m p is)) brought.found (of_brought (λ s. 32 ≤ s.len) z o (brought_32 z)).0 brought.ends

  pub parts_of : AreParts m.length top (metadata_used z o) (sorted span_le (usable_of (metadata_left z x))) (dead_of (metadata_left z x)) (metadata_beside z o) m.extents
  parts_of =
      are_parts m.length top (header_span x.header) (metadata_left z x) (metadata_beside z o) m.extents (metadata_used z o) gone taken (long_enough x m z o is).0 (long_enough x m z o is).1
      (omega (arith, few_used z o, spans_both can_be_used (metadata_left z x), left_few (set_omitted (setting_of z) x.metadata)))

  pub apart : (q : ℕ) → cover (live_of x) q + (cover (map meta_item_span (metadata_brought z)) q + cover (without (metadata_used z o) m.extents) q) ≤ 1
  apart q = elim (cases_lt q m.length) [
    | inl h ↦ omega (arith, brought_covers z o q, brought.once q, taken.apart q, taken.below q h, without_fewer (metadata_used z o) m.extents q)
    | inr h ↦ omega (arith, brought_covers z o q, taken.apart q, ends_none m.length q (metadata_beside z o) brought.beside_ends h, ends_none x.length q (live_of x) x.inside (omega (arith, h, is.length)))
  ]

-- what comes lies behind the front of the file header
brought_long : {n top : ℕ} {freed dead es : List Span} (z : CodeSetting MetaItem) (o : Origin Metadata) → AreParts n top (metadata_used z o) freed dead (metadata_beside z o) es → AllByRecursion (IsLong top) (map meta_item_span (metadata_brought z))
brought_long z (edited d) parts = parts.used_long
brought_long Same returned parts = tt
brought_long (To None) returned parts = tt
brought_long {top = top} (To (Some i)) returned parts = elim (cases_Bool (can_be_used (meta_item_place i))) [
  | inl e ↦ let all = parts.used_long in (let here = rw e at all in here.0, tt)
  | inr e ↦ let all = parts.kept_long in (let here = rw e at all in here.0, tt)
]

-- What is written.
pub length-metadata : length metadata_id ≡ 16
unfolding metadata_id
length-metadata = refl

pub id_length : (d : Metadata) (i : MetaItem) → IsMetaItemOf d i.span i → length (meta_item_of i).segment.id ≡ 16
id_length d i is = ap (length {A = ℕ}) is.item.id ∙ length-metadata

abbrev pub writes_for : MetaItem → Metadata → ℕ → List Bytes
writes_for i d padding = record { place = i.span.at + 32; bytes = metadata_data d padding } ∷ []

writes_are : (region : Region) (d : Metadata) (i : MetaItem) (writes : List (ℕ × Range)) (staged : IsStagedIn region d i writes) → bytes_in region writes ≡ writes_for i d staged.padding
writes_are region d i writes staged = ap (bytes_in region) staged.only ∙ ap (λ (b : List ℕ). let one : Bytes = record { place = i.span.at + 32; bytes = b } in one ∷ []) staged.bytes

data_long : (region : Region) (d : Metadata) (i : MetaItem) (writes : List (ℕ × Range)) (staged : IsStagedIn region d i writes) → length (metadata_data d staged.padding) ≡ i.head.allocated
data_long region d i writes staged = omega (arith, ap (length {A = ℕ}) staged.bytes, piece_length region staged.piece staged.staged, staged.long, i.extent)

-- the pointer that is written
abbrev pub pointer_spans : CodeSetting MetaItem → List Span
pointer_spans Same = []
pointer_spans (To o) = record { at = 92; len = 8 } ∷ []

pointer_within : (z : CodeSetting MetaItem) (q : ℕ) → cover (pointer_spans z) q ≤ between 92 100 q
pointer_within Same q = omega arith
pointer_within (To o) q = omega arith

-- the pointer, and what comes
head_marks : (top : ℕ) (i : MetaItem) (ws : List Bytes) → (meta_item_of i).segment.id ≡ metadata_id → IsLong top (meta_item_span i) → ((q : ℕ) → cover (map byte_span ws) q + between i.span.at (i.span.at + 32) q ≤ between i.span.at (end_of (meta_item_span i)) q)
    → OwnMarks top 4 65580 ws (metadata_marks (To (Some i))) (pointer_spans (To (Some i)) ++ meta_item_span i ∷ [])
head_marks top i ws id long within =
    let two : Bytes = head_mark (meta_item_of i).segment in
    let head' : length (header_bytes (meta_item_of i).segment) ≡ 32 = header_length (meta_item_of i).segment (ap (length {A = ℕ}) id ∙ length-metadata) in
    let far = long.far in
    let ends = long.ends in
    record {
      covers = λ q. omega (arith, at_place, head', within q);
      ends = (omega (arith, far, ends, long.long), (omega (arith, ends, head', long.long), tt));
      low = (omega arith, (omega (arith, far), tt));
      some = (omega arith, (omega (arith, head'), tt));
      few = omega arith;
      short = omega (arith, sum_by-cons (λ (b : Bytes). length b.bytes) (pointer_mark 92 i.span.at) (two ∷ []), sum_by-cons (λ (b : Bytes). length b.bytes) two [], head');
    }

own_marks : (top : ℕ) (x : Index) (m : MapState) (region : Region) (z : CodeSetting MetaItem) (o : Origin Metadata) (writes : List (ℕ × Range)) → 112 ≤ top → Comes x m region z o writes → AllByRecursion (IsLong top) (map meta_item_span (metadata_brought z))
    → OwnMarks top 4 65580 (bytes_in region writes) (metadata_marks z) (pointer_spans z ++ map meta_item_span (metadata_brought z))
own_marks top x m region Same (edited d) writes high b long = absurd b
own_marks top x m region (To None) (edited d) writes high b long = absurd b
own_marks top x m region (To (Some i)) (edited d) writes high b long =
    let data' = data_long region d i writes b.2 in
    rw (writes_are region d i writes b.2) (head_marks top i (writes_for i d b.2.padding) b.0.item.id long.0 (λ q. omega (arith, at_place, data', i.extent)))
own_marks top x m region Same returned writes high b long = subst (λ w. OwnMarks top 4 65580 (bytes_in region w) [] []) (sym b.1) (no_marks top 4 65580)
own_marks top x m region (To None) returned writes high b long = subst (λ w. OwnMarks top 4 65580 (bytes_in region w) (metadata_marks (To None)) (record { at = 92; len = 8 } ∷ [])) (sym b.1) (record {
  covers = λ q. omega (arith, at_place);
  ends = (omega (arith, high), tt);
  low = (omega arith, tt);
  some = (omega arith, tt);
  few = omega arith;
  short = omega (arith, sum_by-cons (λ (b : Bytes). length b.bytes) (pointer_mark 92 0) []);
})
own_marks top x m region (To (Some i)) returned writes high b long =
    subst (λ w. OwnMarks top 4 65580 (bytes_in region w) (metadata_marks (To (Some i))) (record { at = 92; len = 8 } ∷ meta_item_span i ∷ [])) (sym b.1) (head_marks top i [] b.0.0.0.0 long.0 (λ q. omega (arith, at_place, i.extent)))

are_own : (top : ℕ) (x : Index) (m : MapState) (region : Region) (z : CodeSetting MetaItem) (o : Origin Metadata) (writes : List (ℕ × Range)) → 112 ≤ top → Comes x m region z o writes → AllByRecursion (IsLong top) (map meta_item_span (metadata_brought z))
    → AreOwn top 92 (metadata_used z o) (metadata_beside z o) (bytes_in region writes) (metadata_marks z)
are_own top x m region z o writes high b long = record {
  high = omega arith;
  spans = pointer_spans z ++ map meta_item_span (metadata_brought z);
  marks = own_marks top x m region z o writes high b long;
  within = λ q. omega (arith, cover-append (pointer_spans z) (map meta_item_span (metadata_brought z)) q, brought_covers z o q, pointer_within z q);
}

high_enough : (x : Index) (m : MapState) (z : CodeSetting MetaItem) (o : Origin Metadata) → IsMapOf x m → 112 ≤ length_with m z o
high_enough x m z o is = omega (arith, x.headed, x.inside.0, is.length, (long_enough x m z o is).0)

-- So the links can be put.
pub metadata_links : (x : Index) (m : MapState) (z : CodeSetting MetaItem) (o : Origin Metadata) (region : Region) (writes : List (ℕ × Range)) → IsMapOf x m → Comes x m region z o writes
    → CanLink m.length (metadata_used z o) (sorted span_le (usable_of (metadata_left z x))) (dead_of (metadata_left z x)) m.extents (metadata_marks z)
metadata_links x m z o region writes is b =
    let parts = parts_of z o is (brought_by x m region z o writes is b) in
    can_link parts (are_own (length_with m z o) x m region z o writes (high_enough x m z o is) b (brought_long z o parts))

-- what is written before the commit
brought_well : (x : Index) (m : MapState) (region : Region) (z : CodeSetting MetaItem) (o : Origin Metadata) (writes : List (ℕ × Range)) → IsMapOf x m → Comes x m region z o writes → AllByRecursion (λ (s : Span). 112 ≤ s.at) (map meta_item_span (metadata_brought z))
    → WriteWell m m.length (length_with m z o) (bytes_in region writes)
brought_well x m region Same (edited d) writes is b far = absurd b
brought_well x m region (To None) (edited d) writes is b far = absurd b
brought_well x m region (To (Some i)) (edited d) writes is b far =
    subst (WriteWell m m.length (length_with m (To (Some i)) (edited d))) (sym (writes_are region d i writes b.2))
    (one_well x m [] m.length (meta_item_span i) (record { place = i.span.at + 32; bytes = metadata_data d b.2.padding }) is (found x m d i is b.1) far.0 refl (omega (arith, data_long region d i writes b.2, i.extent)))
brought_well x m region z returned writes is b far = subst (λ w. WriteWell m m.length m.length (bytes_in region w)) (sym b.1) (no_well m m.length)

brought_staged : (x : Index) (m : MapState) (region : Region) (z : CodeSetting MetaItem) (o : Origin Metadata) (writes : List (ℕ × Range)) → Comes x m region z o writes → AllByRecursion (λ (w : ℕ × Range). IsPiece region w.1) writes
brought_staged x m region Same (edited d) writes b = absurd b
brought_staged x m region (To None) (edited d) writes b = absurd b
brought_staged x m region (To (Some i)) (edited d) writes b = subst (AllByRecursion (λ (w : ℕ × Range). IsPiece region w.1)) (sym b.2.only) (b.2.staged, tt)
brought_staged x m region z returned writes b = subst (AllByRecursion (λ (w : ℕ × Range). IsPiece region w.1)) (sym b.1) tt

module _ {x : Index} {m : MapState} {z : CodeSetting MetaItem} {o : Origin Metadata} {region : Region} {new : EditPlan} (is : IsMapOf x m) (r : StagesMetadata x m z o region new) where
  abbrev spans : List Span
  spans = map meta_item_span (metadata_brought z)

  abbrev used : List Span
  used = metadata_used z o

  abbrev beside : List Span
  beside = metadata_beside z o

  abbrev pub left : List Place
  left = metadata_left z x

  abbrev pub freed : List Span
  freed = sorted span_le (usable_of (metadata_left z x))

  abbrev end : ℕ
  end = length_with m z o

  abbrev ours : List Bytes
  ours = writes_of region new

  abbrev pub after : List Span
  after = deleted_after (metadata_used z o) (sorted span_le (usable_of (metadata_left z x))) m.extents

  abbrev pub pieces : List Piece
  pieces = pieces_of region new

  brought' : AreBrought x m used beside (metadata_needed z o)
  brought' = brought_by x m region z o new.writes.items is r.brings

  pub parts : AreParts m.length end used freed (dead_of left) beside m.extents
  parts = parts_of z o is brought'

  pub long : AllByRecursion (IsLong end) spans
  long = brought_long z o parts

  own : AreOwn end 92 used beside ours (metadata_marks z)
  own = are_own end x m region z o new.writes.items (high_enough x m z o is) r.brings long

  links : AreInOrder (metadata_marks z) used freed (dead_of left) m.extents new.links.links
  links = rw (r.used, r.freed, r.is_dead) at r.links

  well : WriteWell m m.length end ours
  well = brought_well x m region z o new.writes.items is r.brings (All-weaken (IsLong end) (λ s. 112 ≤ s.at) (λ s l. l.far) spans long)

  -- what leaves
  pub items_are : left_items new.change x ≡ left
  items_are = λ j. map tile_place (omitted (acts_of (r.change.acts j)) x.tiles.items) ++ (map att_item_place (omitted (acts_of (r.change.attachments j)) x.attachments.items)
      ++ option_to_list (option_map meta_item_place (set_omitted (setting_of (r.change.metadata j)) x.metadata)))

  pub left_are : left_places new.change x ≡ left
  left_are = (λ j. items_are j ++ (left_directory (r.change.directory j) x.directory ++ left_directory (r.change.attdir j) x.attdir)) ∙ append-nil left

  -- the index can be changed
  abbrev then' : Option MetaItem
  then' = set (setting_of z) x.metadata

  live_is : live_after new.change x ≡ live_with x then'
  live_is = λ j. live_spans x.header (directory_after (r.change.directory j) x.directory) (changed (acts_of (r.change.acts j)) x.tiles.items) (directory_after (r.change.attdir j) x.attdir) (changed (acts_of (r.change.attachments j)) x.attachments.items)
      (set (setting_of (r.change.metadata j)) x.metadata)

  can_change : CanChange new.change (extents_after new m.extents) new.length x
  can_change =
      let low = (long_enough x m z o is).0 in
      let P : Span → Type 0 = λ s. end_of s ≤ end in
      let inside : AllByRecursion P (live_of x) = All-weaken (λ s. end_of s ≤ x.length) P (λ s k. omega (arith, k, is.length, low)) (live_of x) x.inside in
      let old = live_parts P x x.metadata None inside tt in
      let rise : AreExtents 0 m.length after = subst (λ l. AreExtents 0 m.length (with_all_freed l (without used m.extents))) (sym parts.in_order)
      (freed_stay m.length freed _ (used_stay m.length used m.extents parts.rise parts.takes) parts.frees) in
      let once : (q : ℕ) → cover (live_with x then') q + cover after q ≤ 1 = λ q. omega (
        arith,
        live_cover x then' q,
        live_cover x x.metadata q,
        set_cover z x.metadata q,
        ap (λ l. cover l q) (some_spans meta_item_place (set_omitted (setting_of z) x.metadata)),
        apart z o is brought' q,
        cover-split can_be_used left q,
        cover-deleted_after used freed m.extents q,
        cover-sorted (usable_of left) q,
      ) in
      rw (r.used, r.freed, r.length) (record {
        tiles = subst (λ l. AreWithin l (length x.tiles.items)) (sym r.change.acts) tt;
        attachments = subst (λ l. AreWithin l (length x.attachments.items)) (sym r.change.attachments) tt;
        few_tiles = subst (λ l. length (changed (acts_of l) x.tiles.items) ≤ 2 ^ 20) (sym r.change.acts) (omega (arith, x.few_tiles, x.tiles.ok));
        few_attachments = subst (λ l. length (changed (acts_of l) x.attachments.items) ≤ 2 ^ 12) (sym r.change.attachments) (omega (arith, x.few_attachments, x.attachments.ok));
        longer = omega (arith, is.length, low);
        small = (long_enough x m z o is).1;
        inside = subst (AllByRecursion P) (sym live_is) (live_parts P x x.metadata then' inside (set_ends P z x.metadata old.1 (All-weaken (IsLong end) P (λ s l. l.ends) spans long))).0;
        disjoint = subst AreDisjoint (sym live_is) (disjoint_once (live_with x then') (λ q. omega (arith, once q)));
        free = subst (λ l. AreFree end l after) (sym live_is) (record {
          apart = extents_apart 0 m.length _ rise;
          aligned = All-weaken IsWhole (λ s. is_aligned s ≡ true) whole_aligned _ (extents_whole 0 m.length _ rise);
          inside = All-weaken (λ (s : Span). end_of s ≤ m.length) P (λ s k. omega (arith, k, low)) _ (extents_ends 0 m.length _ rise);
          clear = clear_once (live_with x then') after once;
        });
      })

  -- The plan can be carried out.
  pub is_plan : IsPlan x m region new
  is_plan = record {
    staged = brought_staged x m region z o new.writes.items r.brings;
    free = well.free;
    far = well.far;
    near = well.near;
    reach = omega (arith, r.length, well.last);
    fits = omega (arith, (long_enough x m z o is).1, well.last);
    rising = links_rise _ new.links.links (can_link parts own).puts links;
    within = rw r.length (links_within parts own new.links.links links);
    brief = links_brief parts own new.links.links links;
    once = λ q. pieces_once parts own new.links.links q links;
    takes = rw r.used parts.takes;
    frees = rw (r.used, r.freed) parts.frees;
    in_order = rw r.freed parts.in_order;
    freed = r.freed ∙ ap (λ l. sorted span_le (usable_of l)) (sym left_are);
    held = r.held ∙ ap usable_of (sym items_are);
    apart = λ q. omega (arith, apart z o is brought' q, brought_covers z o q, ap (λ l. cover l q) r.used);
    can = can_change;
  }

  -- What the pieces put.
  pub written : AreWritten pieces ours (metadata_marks z) after (dead_of left) m.extents
  written = are_written ours (metadata_marks z) used freed (dead_of left) m.extents new.links.links (λ q. pieces_once parts own new.links.links q links) links

  own_covers : (q : ℕ) → cover (map byte_span ours) q + cover (map byte_span (metadata_marks z)) q ≤ cover (pointer_spans z) q + (cover used q + cover beside q)
  own_covers q = omega (arith, (own_marks end x m region z o new.writes.items (high_enough x m z o is) r.brings long).covers q, cover-append (pointer_spans z) spans q, brought_covers z o q)

  -- of the file header nothing but the pointer is written
  header_clear : (q : ℕ) → q < 112 → cover (pointer_spans z) q ≡ 0 → byte_of pieces q ≡ None
  header_clear q low none = none_put pieces q (omega (
    arith,
    written.covers q,
    own_covers q,
    heads_within (filter (is_new m.extents) after) q (All-filter _ (is_new m.extents) after (is_32 end after parts.after_long)),
    heads_within (dead_of left) q (is_32 end (dead_of left) parts.dead_long),
    cover-fewer (is_new m.extents) after q,
    none,
    low_none end q used parts.used_long low,
    low_none end q beside parts.kept_long low,
    low_none end q (dead_of left) parts.dead_long low,
    low_none end q after parts.after_long low,
  ))

  deleted_apart : (q : ℕ) → cover (map byte_span ours) q + cover (map byte_span (metadata_marks z)) q + (cover after q + cover (dead_of left) q) ≤ 1
  deleted_apart q = elim (cases_lt q 112) [
    | inl h ↦ omega (arith, at_place, own_covers q, pointer_within z q, low_none end q used parts.used_long h, low_none end q beside parts.kept_long h, low_none end q (dead_of left) parts.dead_long h, low_none end q after parts.after_long h)
    | inr h ↦ omega (arith, at_place, h, own_covers q, pointer_within z q, parts.once q)
  ]

-- what a plan brings
brought_is : (p : EditPlan) (z : CodeSetting MetaItem) → SetsAlone z p → brought_places p.change ≡ option_to_list (set_new (mapped_setting meta_item_place (setting_of z)))
brought_is p z alone = λ j. new_dir (alone.directory j) ++ (brought (mapped tile_place (acts_of (alone.acts j))) ++ (new_dir (alone.attdir j) ++ (brought (mapped att_item_place (acts_of (alone.attachments j)))
    ++ option_to_list (set_new (mapped_setting meta_item_place (setting_of (alone.metadata j)))))))

spans_there : (z : CodeSetting MetaItem) → spans_of (option_to_list (set_new (mapped_setting meta_item_place (setting_of z)))) ≡ map meta_item_span (metadata_brought z)
spans_there Same = refl
spans_there (To None) = refl
spans_there (To (Some i)) = refl

pub extent_is : (i : MetaItem) → meta_item_span i ≡ extent (meta_item_of i).segment
extent_is i = ap (λ (n : ℕ). let s : Span = record { at = i.span.at; len = n } in s) i.extent

extents_there : (z : CodeSetting MetaItem) → map extent (option_to_list (option_map (λ (y : FormatMetaItem). y.segment) (set_new (mapped_setting meta_item_of (setting_of z))))) ≡ map meta_item_span (metadata_brought z)
extents_there Same = refl
extents_there (To None) = refl
extents_there (To (Some i)) = ap (λ (s : Span). s ∷ []) (sym (extent_is i))

-- What it needs.
tiles_keep : (s : State) (d : Metadata) → tiles_stay s (to_metadata d) ≡ true
tiles_keep s d = let same = all_stay_same s.layout.subblocks in rw same refl

attachments_keep : (s : State) (d : Metadata) → attachments_stay s (to_metadata d) ≡ true
attachments_keep s d = let same = all_stay_same s.layout.attachments in rw same refl

needs_are : (s : State) (d : Metadata) → needs_of s (to_metadata d) ≡ metadata_need d ∷ []
needs_are s d = λ j. metadata_need d ∷ (directory_needs (tiles_keep s d j) (directory_need s.document.subblocks) ++ directory_needs (attachments_keep s d j) (attdir_need s.document.attachments))

-- an item in a span that was found
pub item_there : (d : Metadata) (p : CodeSpan) (i : MetaItem) → IsMetaItemOf d p i → IsMetaItemOf d i.span i
item_there d p i is = record { span_is = refl; item = is.item; used = is.used }

pub placed_there : (x : Index) (m : MapState) (d : Metadata) (p : CodeSpan) (i : MetaItem) → IsMetaItemOf d p i → i.walked ≡ (nat_lt i.span.at x.length || walks_on x) → fit (space_in m) (metadata_need d) ≡ Ok (record { span = span_of p; space = use_span (space_in m) (span_of p) })
    → IsPlacedIn x m d i
placed_there x m d p i is walked fits = record {
  fits = subst (λ (z : CodeSpan). fit (space_in m) (metadata_need d) ≡ Ok (record { span = span_of z; space = use_span (space_in m) (span_of z) })) (sym is.span_is) fits;
  walked = walked;
}

-- Why there is no plan: the need has no place, or memory was wanting.
pub no_place : (x : Index) (m : MapState) (d : Metadata) (fault : PlanFault) → IsFull fault (fit (space_in m) (metadata_need d)) → HasNoPlan x m (to_metadata d) fault
no_place x m d (Filled need length') full image live s lies =
    let none : fit_all (space_in m) (metadata_need d ∷ []) ≡ Err (record { need = need; length = length' }) = rw full refl in
    (λ j. fit_all (sym lies.space j) (needs_are s d j)) ∙ none
no_place x m d Memory full image live s lies = absurd full

one_fits : (m : MapState) (d : Metadata) (p : Span) → fit (space_in m) (metadata_need d) ≡ Ok (record { span = p; space = use_span (space_in m) p }) → fit_all (space_in m) (metadata_need d ∷ []) ≡ Ok (record { spans = p ∷ []; space = use_span (space_in m) p })
one_fits m d p fits = rw fits refl

pub no_memory : (x : Index) (m : MapState) (d : Metadata) (p : Span) → fit (space_in m) (metadata_need d) ≡ Ok (record { span = p; space = use_span (space_in m) p }) → HasNoPlan x m (to_metadata d) Memory
no_memory x m d p fits image live s lies = (record { spans = p ∷ []; space = use_span (space_in m) p }, (λ j. fit_all (sym lies.space j) (needs_are s d j)) ∙ one_fits m d p fits)

-- What it is to the machine.
module _ {image : List ℕ} {live : Live} {s : State} {x : Index} {m : MapState} {z : CodeSetting MetaItem} {o : Origin Metadata} {region : Region} {new : EditPlan} (lies : LiesIn image live s x m) (is : IsMapOf x m) (r : StagesMetadata x m z o region new) where
  abbrev change : LiveChange
  change = live_change_of new.change x

  abbrev make : Span → Directory
  make y = directory_in y (entries_after new.change x)

  abbrev make' : Span → Directory
  make' y = attdir_in y (a1s_after new.change x)

  abbrev our_pieces : List Piece
  our_pieces = pieces_of region new

  -- where everything lies afterwards
  pub deleted_are : deleted_after (metadata_used z o) (usable_of (metadata_left z x)) s.layout.deleted ≡ deleted_after (used_of new) (freed_of new) s.layout.deleted
  deleted_are = (λ j. deleted_after (sym r.used j) (usable_of (metadata_left z x)) s.layout.deleted) ∙ ap (λ (f : List Span). deleted_after (used_of new) f s.layout.deleted) (sym (r.freed ∙ left_sorted z x))

  pub layout_is : layout_by new s ≡ record s.layout {
    length = new.length;
    metadata = set (mapped_setting meta_item_place (setting_of z)) s.layout.metadata;
    walk_end = if walk_goes_on s.layout && nat_lt s.layout.length new.length then new.length else s.layout.walk_end;
    deleted = deleted_after (used_of new) (freed_of new) s.layout.deleted;
  }
  layout_is = λ j. record {
    length = new.length;
    header = s.layout.header;
    directory = place_after (r.change.directory j) s.layout.directory;
    attdir = place_after (r.change.attdir j) s.layout.attdir;
    metadata = set (mapped_setting meta_item_place (setting_of (r.change.metadata j))) s.layout.metadata;
    subblocks = changed (mapped tile_place (acts_of (r.change.acts j))) s.layout.subblocks;
    attachments = changed (mapped att_item_place (acts_of (r.change.attachments j))) s.layout.attachments;
    walk_end = if walk_goes_on s.layout && nat_lt s.layout.length new.length then new.length else s.layout.walk_end;
    deleted = deleted_after (used_of new) (freed_of new) s.layout.deleted;
    unknown = s.layout.unknown;
  }

  -- What is written is what the machine asks for.
  apart_places : (q : ℕ) → cover (spans_of (places_of x)) q + cover (spans_of (brought_places new.change)) q ≤ 1
  apart_places q = omega (arith, apart z o is (brought_by x m region z o new.writes.items is r.brings) q, ap (λ l. cover l q) (places_spans x), ap (λ l. cover (spans_of l) q) (brought_is new z r.change), ap (λ l. cover l q) (spans_there z))

  pub items_leave : not_among (item_spans (items_of (layout_by new s))) (item_places (items_of s.layout)) ≡ left_items new.change x
  items_leave = items_leave_after new.change (extents_after new s.layout.deleted) new.length s.layout x lies.lies apart_places

  gone_is : dead s.layout (layout_by new s) ≡ dead_of (gone_of new.change x)
  gone_is = ap (λ (ps : List Place). dead_of ps) (left_after new.change (extents_after new s.layout.deleted) new.length s.layout x lies.lies apart_places ∙ gone_are new.change s.layout x lies.lies)

  extents_are : m.extents ≡ s.layout.deleted
  extents_are = sym is.extents ∙ lies.lies.deleted

  after_is : after is r ≡ (layout_by new s).deleted
  after_is = λ j. deleted_after (sym r.used j) (sym r.freed j) (extents_are j)

  -- where that lies which it brings
  pub new_extents : map extent (new_segments change) ≡ map meta_item_span (metadata_brought z)
  new_extents = (λ j. map extent (option_to_list (option_map (λ (y : Directory). y.segment) (set_new (directory_set make (r.change.directory j) x.directory)))
      ++ (map (λ (y : FormatTile). y.segment) (brought (mapped tile_of (acts_of (r.change.acts j)))) ++ (option_to_list (option_map (λ (y : Directory). y.segment) (set_new (directory_set make' (r.change.attdir j) x.attdir)))
      ++ (map (λ (y : FormatAttItem). y.segment) (brought (mapped att_item_of (acts_of (r.change.attachments j)))) ++ option_to_list (option_map (λ (y : FormatMetaItem). y.segment) (set_new (mapped_setting meta_item_of (setting_of (r.change.metadata j)))))))))) ∙ extents_there z

  -- the pieces lie where a command may write
  within : (q b : ℕ) → byte_of our_pieces q ≡ Some b
      → 1 ≤ cover (record { at = 84; len = 16 } ∷ record { at = 104; len = 8 } ∷ (map extent (new_segments change) ++ map head (marked s.layout (layout_by new s)))) q
  within q b put =
      let N : List Segment = new_segments change in
      let their : map extent N ≡ map meta_item_span (metadata_brought z) = new_extents in
      let A : List Span = (layout_by new s).deleted in
      let D : List Span = dead s.layout (layout_by new s) in
      omega (
        arith,
        at_place,
        put_within our_pieces q b put,
        (written is r).covers q,
        own_covers is r q,
        pointer_within z q,
        brought_covers z o q,
        heads_fewer (is_new m.extents) (after is r) q,
        ap (λ l. cover (map head l) q) after_is,
        ap (λ l. cover (map head l) q) gone_is,
        dead_cover new.change x q,
        ap (λ l. cover (map head (dead_of l)) q) (left_are is r),
        cover-append (map extent N) (map head (A ++ D)) q,
        ap (λ l. cover l q) their,
        ap (λ l. cover l q) (map-append head A D),
        cover-append (map head A) (map head D) q,
      )

  pointer_put : (z : CodeSetting MetaItem) → AllByRecursion (IsPut our_pieces) (metadata_marks z) → AllByRecursion (λ (s : Span). 112 ≤ s.at) (map meta_item_span (metadata_brought z)) → ((q : ℕ) → q < 112 → cover (pointer_spans z) q ≡ 0 → byte_of our_pieces q ≡ None)
      → PutsPointer (λ (y : FormatMetaItem). y.segment) our_pieces 92 live.header.metadata (mapped_setting meta_item_of (setting_of z))
  pointer_put Same put far clear = λ q low high. clear q (omega (arith, high)) refl
  pointer_put (To None) put far clear = put.0.1
  pointer_put (To (Some i)) put far clear = (inl put.0.1, omega (arith, far.0), omega (arith, i.ends))

  around : WritesAround live.header change s.layout (layout_by new s) our_pieces
  around = record {
    inside = record {
      directory = subst (λ (y : DirectoryChange). PutsPointer (λ (y : Directory). y.segment) our_pieces 84 live.header.directory (directory_set make y x.directory)) (sym r.change.directory)
          (λ q low high. header_clear is r q (omega (arith, high)) (omega (arith, pointer_within z q, at_place, high)));
      metadata = subst (λ (y : CodeSetting MetaItem). PutsPointer (λ (y : FormatMetaItem). y.segment) our_pieces 92 live.header.metadata (mapped_setting meta_item_of (setting_of y))) (sym r.change.metadata)
          (pointer_put z (written is r).puts_own (All-weaken (IsLong (length_with m z o)) (λ s. 112 ≤ s.at) (λ s l. l.far) _ (long is r)) (header_clear is r));
      attdir = subst (λ (y : DirectoryChange). PutsPointer (λ (y : Directory). y.segment) our_pieces 104 live.header.attachments (directory_set make' y x.attdir)) (sym r.change.attdir)
          (λ q low high. header_clear is r q (omega (arith, high)) (omega (arith, pointer_within z q, at_place, low)));
      within = within;
    };
    deleted = subst (λ (l : List Span). AllByRecursion (PutsDeleted l our_pieces) (layout_by new s).deleted) extents_are (subst (AllByRecursion (PutsDeleted m.extents our_pieces)) after_is
        (extents_put our_pieces (writes_of region new) (metadata_marks z) (after is r) (dead_of (metadata_left z x)) m.extents (written is r)
        (is_32 (length_with m z o) _ (parts is r).after_long) (is_32 (length_with m z o) _ (parts is r).dead_long) (deleted_apart is r)));
    gone = subst (AllByRecursion (PutsHead our_pieces)) (sym gone_is) (dead_all (PutsHead our_pieces) new.change x (subst (λ (l : List Place). AllByRecursion (PutsHead our_pieces) (dead_of l)) (sym (left_are is r)) (written is r).puts_dead));
  }

  pub plans_of : (e : DocumentEffect) → e.subblocks ≡ [] → e.attachments ≡ [] → Sets (BringsMetadata image our_pieces) (mapped_setting meta_item_of (setting_of z)) e.metadata → Plans image s.layout (layout_by new s) live e change (pieces_of region new)
  plans_of e no_tiles no_attachments sets = record {
    directory = subst (λ (y : DirectoryChange). ListsTiles our_pieces (directory_set make y x.directory) live.directory live.tiles (changed_live change live).tiles) (sym r.change.directory)
        (ap (λ (l : List (CodeAct Tile)). changed (mapped tile_of (acts_of l)) live.tiles) r.change.acts);
    tiles = subst (λ (l : List (CodeAct Tile)). Brings (BringsTile image our_pieces) (mapped tile_of (acts_of l)) e.subblocks) (sym r.change.acts) (subst (Brings (BringsTile image our_pieces) []) (sym no_tiles) tt);
    attdir = subst (λ (y : DirectoryChange). ListsAttachments our_pieces (directory_set make' y x.attdir) live.attdir live.attachments (changed_live change live).attachments) (sym r.change.attdir)
        (ap (λ (l : List (CodeAct AttItem)). changed (mapped att_item_of (acts_of l)) live.attachments) r.change.attachments);
    attachments = subst (λ (l : List (CodeAct AttItem)). Brings (BringsAttachment image our_pieces) (mapped att_item_of (acts_of l)) e.attachments) (sym r.change.attachments) (subst (Brings (BringsAttachment image our_pieces) []) (sym no_attachments) tt);
    metadata = subst (λ (y : CodeSetting MetaItem). Sets (BringsMetadata image our_pieces) (mapped_setting meta_item_of (setting_of y)) e.metadata) (sym r.change.metadata) sets;
    around = around;
    small = omega (arith, (is_plan is r).can.small);
  }

-- What an edit's is to it.
module _ {image : List ℕ} {live : Live} {s : State} {x : Index} {m : MapState} {i : MetaItem} {d : Metadata} {region : Region} {new : EditPlan} (lies : LiesIn image live s x m) (is : IsMapOf x m) (r : StagesMetadata x m (To (Some i)) (edited d) region new) where
  abbrev effect : DocumentEffect
  effect = to_metadata d

  abbrev change' : LiveChange
  change' = live_change_of new.change x

  abbrev makes : Span → Directory
  makes y = directory_in y (entries_after new.change x)

  abbrev makes' : Span → Directory
  makes' y = attdir_in y (a1s_after new.change x)

  fits_there : fit (space_of s) (metadata_need d) ≡ Ok (record { span = meta_item_span i; space = use_span (space_of s) (meta_item_span i) })
  fits_there = subst (λ y. fit y (metadata_need d) ≡ Ok (record { span = meta_item_span i; space = use_span y (meta_item_span i) })) lies.space r.brings.1.fits

  long_there : (use_span (space_of s) (meta_item_span i)).length ≡ new.length
  long_there = sym (r.length ∙ ap (λ y. max y.length (i.span.at + i.span.len)) lies.space)

  needs_fit : fit_all (space_of s) (needs_of s effect) ≡ Ok (record { spans = used_of new; space = use_span (space_of s) (meta_item_span i) })
  needs_fit = (λ j. fit_all (sym lies.space j) (needs_are s d j)) ∙ (one_fits m d (meta_item_span i) r.brings.1.fits ∙ (λ j. Ok (record { spans = sym r.used j; space = use_span (lies.space j) (meta_item_span i) })))

  in_order : LiesInOrder s effect change' (used_of new)
  in_order = record {
    tiles = subst (λ (l : List (CodeAct Tile)). Brings {Y = Subblock} (λ x y. ⊤) (mapped tile_of (acts_of l)) []) (sym r.change.acts) tt;
    attachments = subst (λ (l : List (CodeAct AttItem)). Brings {Y = Attachment} (λ x y. ⊤) (mapped att_item_of (acts_of l)) []) (sym r.change.attachments) tt;
    metadata = subst (λ (y : CodeSetting MetaItem). Sets {Y = Metadata} (λ x y. ⊤) (mapped_setting meta_item_of (setting_of y)) (to (Some d))) (sym r.change.metadata) tt;
    directory = subst (λ b. StaysOrNew b s.layout.directory change'.directory) (sym (tiles_keep s d)) (subst (λ y. StaysOrNew true s.layout.directory (directory_set makes y x.directory)) (sym r.change.directory) tt);
    attdir = subst (λ b. StaysOrNew b s.layout.attdir change'.attdir) (sym (attachments_keep s d)) (subst (λ y. StaysOrNew true s.layout.attdir (directory_set makes' y x.attdir)) (sym r.change.attdir) tt);
    spans_are = r.used ∙ (ap (λ (y : Span). y ∷ []) (extent_is i) ∙ sym (λ j. map (λ (t : FormatTile). extent t.segment) (brought (mapped tile_of (acts_of (r.change.acts j))))
        ++ (map (λ (t : FormatAttItem). extent t.segment) (brought (mapped att_item_of (acts_of (r.change.attachments j)))) ++ (map (λ (t : FormatMetaItem). extent t.segment) (option_to_list (set_new (mapped_setting meta_item_of (setting_of (r.change.metadata j)))))
        ++ (directory_spans (tiles_keep s d j) (directory_set makes (r.change.directory j) x.directory) ++ directory_spans (attachments_keep s d j) (directory_set makes' (r.change.attdir j) x.attdir))))));
  }

  -- The layout is the machine's.
  walked_there : new_place s.layout (meta_item_span i) ≡ meta_item_place i
  walked_there =
      let walked : i.walked ≡ (nat_lt i.span.at s.layout.length || walk_goes_on s.layout) = r.brings.1.walked ∙ (λ j. nat_lt i.span.at (lies.lies.length j) || (round32 (lies.lies.walk_end j) == round32 (lies.lies.length j))) in
      λ j. record { span = meta_item_span i; walked = sym walked j }

  lays : laid s (edit_asks s effect) ≡ Ok (layout_by new s)
  lays =
      let row : metadata_laid s d ≡ Ok (freeing s.layout (record {
        directory = s.layout.directory;
        attdir = s.layout.attdir;
        items = record (items_of s.layout) { metadata = Some (new_place s.layout (meta_item_span i)) };
        used = meta_item_span i ∷ [];
        length = (use_span (space_of s) (meta_item_span i)).length;
      }) (option_to_list s.layout.metadata)) = let e = fits_there in rw e refl in
      let place : Some (new_place s.layout (meta_item_span i)) ≡ Some (meta_item_place i) = ap (λ (p : Place). Some p) walked_there in
      let deleted : deleted_after (meta_item_span i ∷ []) (spans_of (filter can_be_used (option_to_list s.layout.metadata))) s.layout.deleted ≡ deleted_after (used_of new) (freed_of new) s.layout.deleted
      = (λ j. deleted_after (meta_item_span i ∷ []) (usable_of (option_to_list (sym lies.lies.metadata j))) s.layout.deleted) ∙ deleted_are lies is r in
      metadata_row s d (layout_apart s.layout x lies.lies) ∙ (row ∙ ((λ j. Ok (record s.layout {
        length = long_there j;
        metadata = place j;
        walk_end = if walk_goes_on s.layout && nat_lt s.layout.length (long_there j) then long_there j else s.layout.walk_end;
        deleted = deleted j;
      })) ∙ ap (λ l. Ok l) (sym (layout_is lies is r))))

  -- the new metadata are written
  writes_metadata : BringsMetadata image (pieces_of region new) (meta_item_of i) d
  writes_metadata =
      let staged = r.brings.2 in
      let put = subst (AllByRecursion (IsPut (pieces_of region new))) (writes_are region d i new.writes.items staged) (written is r).puts_writes in
      inl (record { item = r.brings.0.item; used = r.brings.0.used; padding = staged.padding; puts = record { head = (written is r).puts_own.1.0.1; contents = put.0.1; whole = data_long region d i new.writes.items staged } })

-- So the plan does what sets them.
pub does : (x : Index) (m : MapState) (i : MetaItem) (d : Metadata) (region : Region) (new : EditPlan) → IsMapOf x m → StagesMetadata x m (To (Some i)) (edited d) region new → Does x m region new (to_metadata d)
does x m i d region new is r image live s lies = record {
  space = use_span (space_of s) (meta_item_span i);
  fits = needs_fit lies is r;
  length = sym (long_there lies is r);
  order = in_order lies is r;
  goes = lays lies is r;
  plans = plans_of lies is r (to_metadata d) refl refl (writes_metadata lies is r);
  leaves = items_leave lies is r;
}
