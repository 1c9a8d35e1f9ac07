use Rattle.std.proofs.Common.{◌≡◌, ◌++◌, List, [], ◌∷◌, map, ap, ◌∙◌, sym, subst, arith, length}
use Rattle.czi_format.specs.Span.{span_le, sorted}
use Rattle.czi_image.specs.Holds.{tile_place}
use Rattle.czi_image.specs.declared.change.Act.{Act as CodeAct}
use Rattle.czi_image.specs.declared.change.Change.{Change}
use Rattle.czi_image.specs.declared.change.DirectoryChange.{DirectoryChange}
use Rattle.czi_image.specs.declared.index.Index.{Index}
use Rattle.czi_image.specs.declared.types.Tile.{Tile}
use Rattle.czi_links.specs.Record.{Bytes}
use Rattle.czi_num.specs.Span.{span_of}
use Rattle.czi_region.specs.declared.block.Region.{Region}
use Rattle.czi_plan.specs.Kind.{of_subblocks}
use Rattle.czi_plan.specs.Changing.{size_after, back_entries, front_entries, middle_entries, new_marks, tiles_before, tiles_behind, tiles_brought, tiles_leaving}
use Rattle.czi_plan.specs.Directory.{back_of, entries_of, listed_back, listed_front, listed_middle, middle_of}
use Rattle.czi_region.specs.Pieces.{room}
use Rattle.czi_plan.specs.Listing.{IsReady, Lists}
use Rattle.czi_plan.specs.Marks.{marks_of}
use Rattle.czi_plan.specs.Plan.{dead_of, left_directory, usable_of}
use Rattle.czi_plan.specs.declared.plan.EditPlan.{EditPlan}
use Rattle.czi_plan.specs.declared.tiles.Listing.{Listing}
use Rattle.czi_plan.specs.declared.tiles.Parts.{Parts}
use Rattle.czi_plan.proofs.ActStages.{few_act, marks_few, used_few, in_place_order, left_as, links_act, lists_as, ready_as, same_change, sizes_as, stages_act}
use Rattle.czi_plan.proofs.KindLaws.{tile_laws}
use Rattle.czi_plan.proofs.Linking.{hold_act}
use Rattle.czi_plan.proofs.Parts.{few_leaving}
use Rattle.czi_plan.proofs.changing.stage_act.Goals as goal

-- what an act does with the subblocks of an index
record AreParts (a : CodeAct Tile) (tiles : List Tile) (p : Parts Tile) : Type 0 where
  before : p.before.now ≡ tiles_before a tiles
  brought : p.brought.now ≡ tiles_brought a
  leaving : p.leaving.now ≡ tiles_leaving a tiles
  behind : p.behind.now ≡ tiles_behind a tiles

-- what is listed is what the directory lists after the act
record IsListing (l : Listing) (p : Parts Tile) : Type 0 where
  front : listed_front l ≡ entries_of p.before.now
  middle : listed_middle l ≡ middle_of (entries_of p.brought.now) (entries_of p.leaving.now) (entries_of p.behind.now)
  back : listed_back l ≡ back_of (entries_of p.brought.now) (entries_of p.leaving.now) (entries_of p.behind.now)

front_as : (a : CodeAct Tile) (tiles : List Tile) (p : Parts Tile) (l : Listing) → AreParts a tiles p → IsListing l p → listed_front l ≡ front_entries of_subblocks a tiles
front_as a tiles p l are is = is.front ∙ ap entries_of are.before

middle_as : (a : CodeAct Tile) (tiles : List Tile) (p : Parts Tile) (l : Listing) → AreParts a tiles p → IsListing l p → listed_middle l ≡ middle_entries of_subblocks a tiles
middle_as a tiles p l are is = is.middle ∙ (λ i. middle_of (entries_of (are.brought i)) (entries_of (are.leaving i)) (entries_of (are.behind i)))

back_as : (a : CodeAct Tile) (tiles : List Tile) (p : Parts Tile) (l : Listing) → AreParts a tiles p → IsListing l p → listed_back l ≡ back_entries of_subblocks a tiles
back_as a tiles p l are is = is.back ∙ (λ i. back_of (entries_of (are.brought i)) (entries_of (are.leaving i)) (entries_of (are.behind i)))

lists_for : (x : Index) (a : CodeAct Tile) (d : DirectoryChange) (tiles : List Tile) (ps : Parts Tile) (l : Listing) (region : Region) (p q : EditPlan) (before after : List Bytes) → tiles ≡ x.tiles.items → AreParts a tiles ps → IsListing l ps → before ≡ new_marks of_subblocks a
    → Lists of_subblocks x.directory d (listed_front l) (listed_middle l) (listed_back l) region p q before after
    → Lists of_subblocks x.directory d (front_entries of_subblocks a x.tiles.items) (middle_entries of_subblocks a x.tiles.items) (back_entries of_subblocks a x.tiles.items) region p q (new_marks of_subblocks a) after
lists_for x a d tiles ps l region p q before after same are is marks lists =
    lists_as of_subblocks x.directory d _ (front_entries of_subblocks a x.tiles.items) _ (middle_entries of_subblocks a x.tiles.items) _ (back_entries of_subblocks a x.tiles.items) region p q before (new_marks of_subblocks a) after
    (front_as a tiles ps l are is ∙ ap (front_entries of_subblocks a) same) (middle_as a tiles ps l are is ∙ ap (middle_entries of_subblocks a) same) (back_as a tiles ps l are is ∙ ap (back_entries of_subblocks a) same) marks lists

leaving_as : (a : CodeAct Tile) (tiles tiles' : List Tile) (p : Parts Tile) → tiles ≡ tiles' → AreParts a tiles p → p.leaving.now ≡ tiles_leaving a tiles'
leaving_as a tiles tiles' p e are = are.leaving ∙ ap (tiles_leaving a) e

pub list_tiles-requires-clause-sizes : goal.list_tiles-requires-clause-sizes
list_tiles-requires-clause-sizes c =
    let tiles : List Tile = c.args.index.now.tiles.items in
    let a : CodeAct Tile = c.args.act in
    let are : AreParts a c.deref-2.result.now c.parts_of-parts.result = record { before = c.parts_of-parts.ensures.before; brought = c.parts_of-parts.ensures.brought; leaving = c.parts_of-parts.ensures.leaving; behind = c.parts_of-parts.ensures.behind } in
    let is : IsListing c.listing_of-listing.result c.parts_of-parts.result = record { front = c.listing_of-listing.ensures.front; middle = c.listing_of-listing.ensures.middle; back = c.listing_of-listing.ensures.back } in
    let same = c.deref-2.ensures.value in
    sizes_as of_subblocks c.args.sizes.now _ (front_entries of_subblocks a tiles) _ (middle_entries of_subblocks a tiles) _ (back_entries of_subblocks a tiles) (front_as a _ _ _ are is ∙ ap (front_entries of_subblocks a) same)
    (middle_as a _ _ _ are is ∙ ap (middle_entries of_subblocks a) same) (back_as a _ _ _ are is ∙ ap (back_entries of_subblocks a) same) c.requires.sizes

pub list_tiles-requires-clause-ready : goal.list_tiles-requires-clause-ready
list_tiles-requires-clause-ready c =
    let tiles : List Tile = c.args.index.now.tiles.items in
    let a : CodeAct Tile = c.args.act in
    let are : AreParts a c.deref-2.result.now c.parts_of-parts.result = record { before = c.parts_of-parts.ensures.before; brought = c.parts_of-parts.ensures.brought; leaving = c.parts_of-parts.ensures.leaving; behind = c.parts_of-parts.ensures.behind } in
    let is : IsListing c.listing_of-listing.result c.parts_of-parts.result = record { front = c.listing_of-listing.ensures.front; middle = c.listing_of-listing.ensures.middle; back = c.listing_of-listing.ensures.back } in
    let same = c.deref-2.ensures.value in
    rw (front_as a _ _ _ are is ∙ ap (front_entries of_subblocks a) same, middle_as a _ _ _ are is ∙ ap (middle_entries of_subblocks a) same, back_as a _ _ _ are is ∙ ap (back_entries of_subblocks a) same)
    (subst (λ n. IsReady c.args.index.now.directory (size_after of_subblocks a c.args.index.now) n (room c.args.region.now) c.args.out.now.change.directory) (sym c.requires.sizes.middle_is)
    (ready_as c.args.index.now c.args.index.now.directory _ _ _ _ c.args.out.now.change.directory c.requires.begins.1.place c.requires.room))

pub list_tiles-requires-clause-used_room : goal.list_tiles-requires-clause-used_room
list_tiles-requires-clause-used_room c = omega (arith, used_few tile_laws c.args.act c.requires.begins.0 c.args.out.now c.requires.begins.1.starts, c.args.out.now.used.ok, c.requires.memory.used)

pub list_tiles-requires-clause-marks_room : goal.list_tiles-requires-clause-marks_room
list_tiles-requires-clause-marks_room c = omega (arith, marks_few of_subblocks c.args.act c.args.region.now c.args.out.now.marks.items (c.requires.marks c.args.region.now), c.args.out.now.marks.ok, c.requires.memory.marks)

pub release_left-requires-clause-held_room : goal.release_left-requires-clause-held_room
release_left-requires-clause-held_room c = omega (arith, ap (length {A = Tile}) c.parts_of-parts.ensures.leaving, few_leaving c.args.act c.deref-2.result.now, (c.list_tiles.ensures.memory 11 65888 2 c.requires.memory).held)

pub release_left-requires-clause-freed_room : goal.release_left-requires-clause-freed_room
release_left-requires-clause-freed_room c = omega (arith, ap (length {A = Tile}) c.parts_of-parts.ensures.leaving, few_leaving c.args.act c.deref-2.result.now, (c.list_tiles.ensures.memory 11 65888 2 c.requires.memory).freed)

pub release_left-requires-clause-dead_room : goal.release_left-requires-clause-dead_room
release_left-requires-clause-dead_room c = omega (arith, ap (length {A = Tile}) c.parts_of-parts.ensures.leaving, few_leaving c.args.act c.deref-2.result.now, (c.list_tiles.ensures.memory 11 65888 2 c.requires.memory).dead)

pub link-requires-clause-sized : goal.link-requires-clause-sized
link-requires-clause-sized c = c.list_tiles.ensures.sized (c.requires.marks c.list_tiles.new.region).sized

pub link-requires-clause-memory : goal.link-requires-clause-memory
link-requires-clause-memory c =
    let x : Index = c.args.index.now in
    let a : CodeAct Tile = c.args.act in
    let d : DirectoryChange = c.args.out.now.change.directory in
    let R = c.list_tiles.new.region in
    let are : AreParts a c.deref-2.result.now c.parts_of-parts.result = record { before = c.parts_of-parts.ensures.before; brought = c.parts_of-parts.ensures.brought; leaving = c.parts_of-parts.ensures.leaving; behind = c.parts_of-parts.ensures.behind } in
    let is : IsListing c.listing_of-listing.result c.parts_of-parts.result = record { front = c.listing_of-listing.ensures.front; middle = c.listing_of-listing.ensures.middle; back = c.listing_of-listing.ensures.back } in
    let lists = lists_for x a d c.deref-2.result.now c.parts_of-parts.result c.listing_of-listing.result R c.args.out.now c.list_tiles.new.out _ _ c.deref-2.ensures.value are is (c.requires.marks R).links_are c.list_tiles.ensures.lists in
    let same : c.list_tiles.new.out.change.directory ≡ d = ap (λ (v : Change). v.directory) (same_change tile_laws a c.requires.begins.0 d c.args.region.now R c.args.out.now c.list_tiles.new.out (marks_of R c.list_tiles.new.out.marks.items) c.requires.of_index c.requires.begins.1 c.list_tiles.ensures.kept lists) in
    let left = leaving_as a c.deref-2.result.now x.tiles.items c.parts_of-parts.result c.deref-2.ensures.value are in
    let memory = c.list_tiles.ensures.memory 11 65888 2 c.requires.memory in
    rw (
      c.release_left.ensures.freed ∙ left_as of_subblocks (λ l. sorted span_le (usable_of l)) a d _ x _ left same,
      c.release_left.ensures.dead ∙ left_as of_subblocks dead_of a d _ x _ left same,
    ) (hold_act _ _ _ _ _ (few_act tile_laws a c.requires.begins.0 d c.args.region.now R c.args.out.now c.list_tiles.new.out (marks_of R c.list_tiles.new.out.marks.items) c.requires.of_index c.requires.begins.1 c.list_tiles.ensures.kept lists)
    (omega (arith, c.list_tiles.ensures.len, marks_few of_subblocks a c.args.region.now c.args.out.now.marks.items (c.requires.marks c.args.region.now), c.args.out.now.marks.ok)) memory.marks memory.links memory.link_bytes memory.touched)

pub put-requires : goal.put-requires
put-requires c =
    let x : Index = c.args.index.now in
    let a : CodeAct Tile = c.args.act in
    let d : DirectoryChange = c.args.out.now.change.directory in
    let R = c.list_tiles.new.region in
    let are : AreParts a c.deref-2.result.now c.parts_of-parts.result = record { before = c.parts_of-parts.ensures.before; brought = c.parts_of-parts.ensures.brought; leaving = c.parts_of-parts.ensures.leaving; behind = c.parts_of-parts.ensures.behind } in
    let is : IsListing c.listing_of-listing.result c.parts_of-parts.result = record { front = c.listing_of-listing.ensures.front; middle = c.listing_of-listing.ensures.middle; back = c.listing_of-listing.ensures.back } in
    let lists = lists_for x a d c.deref-2.result.now c.parts_of-parts.result c.listing_of-listing.result R c.args.out.now c.list_tiles.new.out _ _ c.deref-2.ensures.value are is (c.requires.marks R).links_are c.list_tiles.ensures.lists in
    let same = same_change tile_laws a c.requires.begins.0 d c.args.region.now R c.args.out.now c.list_tiles.new.out (marks_of R c.list_tiles.new.out.marks.items) c.requires.of_index c.requires.begins.1 c.list_tiles.ensures.kept lists in
    let memory = c.list_tiles.ensures.memory 11 65888 2 c.requires.memory in
    rw (ap (λ (p : EditPlan). p.change) c.link.ensures.others) (omega (arith, ap (λ (v : Change). length v.tiles.items) same, ap (length {A = CodeAct Tile}) c.requires.begins.1.starts.tiles, c.list_tiles.new.out.change.tiles.ok, memory.tiles))

pub link-requires-clause-in_order : goal.link-requires-clause-in_order
link-requires-clause-in_order c =
    in_place_order _ (usable_of (map tile_place c.parts_of-parts.result.leaving.now ++ left_directory c.list_tiles.new.out.change.directory c.args.index.now.directory)) c.release_left.ensures.freed

pub link-requires-clause-can : goal.link-requires-clause-can
link-requires-clause-can c =
    let x : Index = c.args.index.now in
    let a : CodeAct Tile = c.args.act in
    let d : DirectoryChange = c.args.out.now.change.directory in
    let are : AreParts a c.deref-2.result.now c.parts_of-parts.result = record { before = c.parts_of-parts.ensures.before; brought = c.parts_of-parts.ensures.brought; leaving = c.parts_of-parts.ensures.leaving; behind = c.parts_of-parts.ensures.behind } in
    let is : IsListing c.listing_of-listing.result c.parts_of-parts.result = record { front = c.listing_of-listing.ensures.front; middle = c.listing_of-listing.ensures.middle; back = c.listing_of-listing.ensures.back } in
    let lists = lists_for x a d c.deref-2.result.now c.parts_of-parts.result c.listing_of-listing.result c.list_tiles.new.region c.args.out.now c.list_tiles.new.out _ _ c.deref-2.ensures.value are is (c.requires.marks c.list_tiles.new.region).links_are c.list_tiles.ensures.lists in
    let same : c.list_tiles.new.out.change.directory ≡ d = ap (λ (v : Change). v.directory) (same_change tile_laws a c.requires.begins.0 d c.args.region.now c.list_tiles.new.region c.args.out.now c.list_tiles.new.out (marks_of c.list_tiles.new.region c.list_tiles.new.out.marks.items) c.requires.of_index c.requires.begins.1 c.list_tiles.ensures.kept lists) in
    let left = leaving_as a c.deref-2.result.now x.tiles.items c.parts_of-parts.result c.deref-2.ensures.value are in
    rw (
      c.release_left.ensures.freed ∙ left_as of_subblocks (λ l. sorted span_le (usable_of l)) a d _ x _ left same,
      c.release_left.ensures.dead ∙ left_as of_subblocks dead_of a d _ x _ left same,
    ) (links_act tile_laws a c.requires.begins.0 d c.args.region.now c.list_tiles.new.region c.args.out.now c.list_tiles.new.out (marks_of c.list_tiles.new.region c.list_tiles.new.out.marks.items) c.requires.of_index c.requires.begins.1 c.list_tiles.ensures.kept lists)

pub returns-clause-stages : goal.returns-clause-stages
returns-clause-stages c =
    λ o begins.
    let x : Index = c.args.index.now in
    let a : CodeAct Tile = c.args.act in
    let d : DirectoryChange = c.args.out.now.change.directory in
    let are : AreParts a c.deref-2.result.now c.parts_of-parts.result = record { before = c.parts_of-parts.ensures.before; brought = c.parts_of-parts.ensures.brought; leaving = c.parts_of-parts.ensures.leaving; behind = c.parts_of-parts.ensures.behind } in
    let is : IsListing c.listing_of-listing.result c.parts_of-parts.result = record { front = c.listing_of-listing.ensures.front; middle = c.listing_of-listing.ensures.middle; back = c.listing_of-listing.ensures.back } in
    let lists = lists_for x a d c.deref-2.result.now c.parts_of-parts.result c.listing_of-listing.result c.list_tiles.new.region c.args.out.now c.list_tiles.new.out _ _ c.deref-2.ensures.value are is (c.requires.marks c.list_tiles.new.region).links_are c.list_tiles.ensures.lists in
    let same = same_change tile_laws a o d c.args.region.now c.list_tiles.new.region c.args.out.now c.list_tiles.new.out (marks_of c.list_tiles.new.region c.list_tiles.new.out.marks.items) c.requires.of_index begins c.list_tiles.ensures.kept lists in
    let left = leaving_as a c.deref-2.result.now x.tiles.items c.parts_of-parts.result c.deref-2.ensures.value are in
    let other = c.link.ensures.others in
    let becomes : c.link.new.out.change ≡ c.args.out.now.change = ap (λ (p : EditPlan). p.change) other ∙ same in
    let directory : c.list_tiles.new.out.change.directory ≡ d = ap (λ (v : Change). v.directory) same in
    stages_act tile_laws a o d c.args.region.now c.list_tiles.new.region c.args.out.now c.list_tiles.new.out (marks_of c.list_tiles.new.region c.list_tiles.new.out.marks.items) c.requires.of_index begins c.list_tiles.ensures.kept lists _ c.requires.within c.requires.few (record {
      writes = ap (λ (p : EditPlan). p.writes) other;
      used = ap (λ (p : EditPlan). p.used) other;
      length = ap (λ (p : EditPlan). p.length) other;
      change = record {
        directory = ap (λ (v : Change). v.directory) becomes;
        tiles = c.put.ensures.items ∙ ap (λ l. l ++ a ∷ []) (ap (λ (v : Change). v.tiles.items) becomes ∙ begins.starts.tiles);
        attdir = ap (λ (v : Change). v.attdir) becomes ∙ begins.starts.other;
        attachments = ap (λ (v : Change). v.attachments.items) becomes ∙ begins.starts.attachments;
        metadata = ap (λ (v : Change). v.metadata) becomes ∙ begins.starts.metadata;
      };
      held = ap (λ (p : EditPlan). map span_of p.held.items) other ∙ (c.release_left.ensures.held ∙ ap (λ l. usable_of (map tile_place l)) left);
      freed = ap (λ (p : EditPlan). map span_of p.freed.items) other ∙ (c.release_left.ensures.freed ∙ left_as of_subblocks (λ l. sorted span_le (usable_of l)) a d _ x _ left directory);
      dead = c.release_left.new.dead.items;
      is_dead = c.release_left.ensures.dead ∙ left_as of_subblocks dead_of a d _ x _ left directory;
      links = rw (ap (λ (p : EditPlan). map span_of p.used.items) other, ap (λ (p : EditPlan). map span_of p.freed.items) other) c.link.ensures.linked;
    })
